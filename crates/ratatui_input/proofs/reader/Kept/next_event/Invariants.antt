use Rattle.std.proofs.Common.{◌-◌, ◌≡◌, None}
use Rattle.ratatui_input.specs.Reading.{kept_told}
use Rattle.ratatui_input.proofs.reader.Kept.next_event.Given as goal

abbrev pub invariant-bytes : goal.invariant-bytes
invariant-bytes l = record { none : l.self.second ≡ None; told : kept_told l.self ≡ kept_told l.fn.self }

abbrev pub decreases-bytes : goal.decreases-bytes
decreases-bytes l = l.self.end - l.self.next
