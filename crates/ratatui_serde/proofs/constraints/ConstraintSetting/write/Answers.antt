use Rattle.ratatui_serde.proofs.constraints.ConstraintSetting.write.Goals as goal

pub returns-in-Percentage : goal.returns-in-Percentage
returns-in-Percentage g c = rw c.in-Percentage.is c.write_number-in-Percentage.ensures
