use Rattle.ratatui_app.proofs.FrameLemmas.{takes-told}
use Rattle.ratatui_app.proofs.drawing.give_size.Goals as goal

pub returns-in-Ok-true-clause-readies : goal.returns-in-Ok-true-clause-readies
returns-in-Ok-true-clause-readies g c =
    takes-told g.B.Backend c.args.told c.args.terminal.now c.offer_size.new.terminal c.args.columns c.args.rows
    c.requires c.in-Ok-true.ensures.only (c.in-Ok-true.ensures.taken c.in-Ok-true.field-0-test) c.in-Ok-true.ensures.faults
