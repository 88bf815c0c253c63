use Rattle.pager.proofs.help.help_text.Goals as goal

pub returns : goal.returns
returns c = c.row_of.ensures
