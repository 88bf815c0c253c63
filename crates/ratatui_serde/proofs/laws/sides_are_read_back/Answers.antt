use Rattle.std.proofs.Common.{inl}
use Rattle.widget_boxes.specs.Borders.{sides_of}
use Rattle.ratatui_serde.proofs.ReadBack.{sides-read-back}
use Rattle.ratatui_serde.proofs.laws.sides_are_read_back.Goals as goal

pub returns : goal.returns
returns c h = inl (sides-read-back (sides_of c.args.borders) h)
