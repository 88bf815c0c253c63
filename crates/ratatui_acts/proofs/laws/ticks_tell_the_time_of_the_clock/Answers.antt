use Rattle.std.specs.Time.{instant_nanos}
use Rattle.ratatui_acts.proofs.{TimeLemmas.run-time}
use Rattle.ratatui_acts.proofs.laws.ticks_tell_the_time_of_the_clock.Goals as goal

pub returns : goal.returns
returns g c = run-time _ (λ h. instant_nanos h.last) (λ h bytes passed h' given. given.1)
