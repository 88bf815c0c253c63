use Rattle.std.proofs.Common.{rules, ◌≡◌, Ok, Some}
use Rattle.rtui_terminal.proofs.AskedLemmas.{autoresized-by}
use Rattle.rtui_terminal.proofs.terminal.Terminal.autoresize.Goals as goal

pub returns-in-Some-clause-outcome : goal.returns-in-Some-clause-outcome
returns-in-Some-clause-outcome g c =
    let found : c.changed_area.result ≡ Ok (Some c.in-Some.area) = search rules in
    let asked = rw found at c.changed_area.ensures in
    rw (← c.self.view_is) (autoresized-by g.B.Backend.screen _ c.changed_area.new.backend asked.stays c.in-Some.area _ _
    asked.area.0 asked.area.1 c.resize.ensures.outcome)
