-- What sources give, without a clock and with one.
use Rattle.std.specs.Prelude.{◌≡◌, ◌+◌, ℕ, List, [], ◌∷◌}
use Rattle.std.specs.declared.time.Duration.{Duration}
use Rattle.std.specs.Duration.{as_nanos}
use Rattle.ratatui_reads.specs.Sources.{Coming, GivesRead, StaysKnown, MayFail}
use Rattle.ratatui_acts.specs.Turns.{Turn, Came, Done}

-- a source gave these bytes, and no time is told
abbrev pub GivesUntimed : {H : Type 0} → (H → Coming) → H → ℕ → List ℕ → Duration → H → Type 0
GivesUntimed coming h room bytes passed h' =
    GivesRead room (coming h) (coming h') bytes × (as_nanos passed ≡ 0)

-- a source failed, and gave nothing
abbrev pub FailsToGive : {H : Type 0} → (H → Coming) → H → H → Type 0
FailsToGive coming h h' = StaysKnown (coming h) (coming h') × MayFail (coming h)

-- from one tick to the next a clock moves on by the time that is told, in nanoseconds; when bytes come, it stays
abbrev pub Elapses : List ℕ → ℕ → Duration → ℕ → Type 0
Elapses [] before passed after = after ≡ before + as_nanos passed
Elapses (b ∷ bytes) before passed after = after ≡ before

-- a source gave these bytes, and a clock the time
abbrev pub GivesTimed : {H : Type 0} → (H → Coming) → (H → ℕ) → H → ℕ → List ℕ → Duration → H → Type 0
GivesTimed coming clock h room bytes passed h' =
    GivesRead room (coming h) (coming h') bytes × Elapses bytes (clock h) passed (clock h')

-- the time that ticks tell, in nanoseconds
abbrev pub tick_time : List ℕ → Duration → ℕ
tick_time [] passed = as_nanos passed
tick_time (b ∷ bytes) passed = 0

-- the time that all ticks of these turns tell
abbrev pub time_told : {C R : Type 0} → List (Turn C R) → ℕ
time_told [] = 0
time_told (Came bytes passed ∷ ts) = tick_time bytes passed + time_told ts
time_told (Done command answer ∷ ts) = time_told ts
