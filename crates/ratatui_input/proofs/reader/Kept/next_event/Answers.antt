use Rattle.std.proofs.Common.{inl, inr, arith, length, ◌≤◌}
use Rattle.std.proofs.lemmas.Grind.{common_steps}
use Rattle.ratatui_input.proofs.ReaderLemmas.{told-stored, told-nothing}
use Rattle.ratatui_input.proofs.reader.Kept.next_event.Goals as goal
use Rattle.ratatui_input.proofs.reader.Kept.next_event.Goals.{else-bytes-test, then-bytes-test+in_default-copied}

pub returns-in-Some : goal.returns-in-Some
returns-in-Some c =
    told-stored c.args.self.now.decoder c.args.self.now.second c.args.self.now.bytes c.args.self.now.next c.args.self.now.end
    c.in-Some.event c.in-Some.is

pub returns : goal.returns
returns c =
    told-nothing c.args.self.now c.bytes.self.decoder c.bytes.self.second c.bytes.self.bytes c.bytes.self.next c.bytes.self.end
    c.bytes.invariant.told c.bytes.invariant.none (elim c.bytes-test.branch [
      | then-bytes-test+in_default-copied w ↦ let h : length c.bytes.self.bytes ≤ c.bytes.self.next =
          grind (arith, common_steps) in inr h
      | else-bytes-test w ↦ let h : c.bytes.self.end ≤ c.bytes.self.next = omega arith in inl h
    ])
