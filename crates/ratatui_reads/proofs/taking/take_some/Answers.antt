use Rattle.ratatui_reads.proofs.ReadLemmas.{refused-one}
use Rattle.ratatui_reads.proofs.taking.take_some.Goals as goal

pub returns-in_err-update-in-Some-clause-refused : goal.returns-in_err-update-in-Some-clause-refused
returns-in_err-update-in-Some-clause-refused g c =
    refused-one g.A.Updates c.from_residual.result c.args.event c.in-Some.event c.args.state.now c.update.new.self
    c.in-Some.is c.in_err-update-in-Some.ensures.refused c.in_err-update-in-Some.ensures.light
