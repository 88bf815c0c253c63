use Rattle.std.proofs.Common.{IfErr, subst}
use Rattle.logview.specs.Engine.{IsLogFault}
use Rattle.logview.proofs.engine.view_of.Goals as goal

pub returns-clause-fault : goal.returns-clause-fault
returns-clause-fault c = subst (λ bytes. IfErr c.view_of_text.result (IsLogFault bytes)) c.in-Ok.ensures.cases.0
    c.view_of_text.ensures.err
