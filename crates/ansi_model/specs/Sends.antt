-- What appended bytes do to each terminal that reads them.
use Rattle.std.specs.Prelude.{◌≡◌, ℕ, List, ◌++◌, true, false}
use Rattle.ansi_model.specs.{Emulator.Emulator, Emulator.rested, Emulator.holding, Emulator.Phase.Ground}
use Rattle.ansi_model.specs.{Sequences.feed}

-- bytes were appended, and what becomes of each that is so before and reads them is related so to it
pub record LeadsBy {S T : Type 0} (reads : List ℕ → S → T) (old new : List ℕ) (before : S → Type 0)
    (after : S → T → Type 0) : Type 0 where
  pub bytes : List ℕ
  pub appended : new ≡ old ++ bytes
  pub read : (s : S) → before s → after s (reads bytes s)

-- the same of terminals
abbrev pub Leads : List ℕ → List ℕ → (Emulator → Type 0) → (Emulator → Emulator → Type 0) → Type 0
Leads old new before after = LeadsBy feed old new before after

-- bytes were appended that do this to each terminal that awaits text
abbrev pub Sends : List ℕ → List ℕ → (Emulator → Emulator) → Type 0
Sends old new effect = Leads old new (λ t. t.phase ≡ Ground) (λ t u. u ≡ effect t)

-- bytes were appended that do this to each terminal once its text stands
abbrev pub Performs : List ℕ → List ℕ → (Emulator → Emulator) → Type 0
Performs old new action = Sends old new (λ t. action (rested t))

-- bytes were appended within one synchronized update
pub record IsWithinUpdate (old new : List ℕ) : Type 0 where
  pub opened : List ℕ
  pub opens : Performs old opened (holding true)
  pub bytes : List ℕ
  pub closes : Performs (opened ++ bytes) new (holding false)

-- text is read, and stands at the next sequence
abbrev pub typed : List ℕ → Emulator → Emulator
typed text t = record t { text = t.text ++ text }
