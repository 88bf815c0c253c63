-- The time that ticks tell.
use Rattle.std.proofs.Common.{arith, ◌≡◌, ℕ, ◌+◌, List, [], ◌∷◌, ◌++◌, ap, sym, ◌∙◌}
use Rattle.std.specs.declared.time.Duration.{Duration}
use Rattle.std.specs.Duration.{as_nanos}
use Rattle.ratatui_reads.specs.Sources.{read_room}
use Rattle.ratatui_acts.specs.Turns.{Turn, Came, Done}
use Rattle.ratatui_acts.specs.Hearing.{Elapses, tick_time, time_told}
use Rattle.ratatui_acts.specs.Runs.{Now, Past, Ground, HasRun, IsTurn, turns_of}

plus-none : (a : ℕ) → a ≡ a + 0
plus-none a = search arith

none-plus : (a : ℕ) → a ≡ 0 + a
none-plus a = search arith

plus-plus : (a b c : ℕ) → (a + b) + c ≡ a + (b + c)
plus-plus a b c = search arith

-- the time of one turn more
time-more : {C R : Type 0} (ts : List (Turn C R)) (t : Turn C R)
    → time_told (ts ++ (t ∷ [])) ≡ time_told ts + time_told (t ∷ [])
time-more [] t = none-plus (time_told (t ∷ []))
time-more (Came bytes passed ∷ ts) t =
    ap (λ (n : ℕ). tick_time bytes passed + n) (time-more ts t)
    ∙ sym (plus-plus (tick_time bytes passed) (time_told ts) (time_told (t ∷ [])))
time-more (Done command answer ∷ ts) t = time-more ts t

module _ {S C R G E H O : Type 0} (ground : Ground S C R G E H O) (clock : H → ℕ) where
  elapsed : (bytes : List ℕ) (before : ℕ) (passed : Duration) (after : ℕ) → Elapses bytes before passed after
      → after ≡ before + (tick_time bytes passed + 0)
  elapsed [] before passed after is = is ∙ ap (λ (n : ℕ). before + n) (plus-none (as_nanos passed))
  elapsed (b ∷ bytes) before passed after is = is ∙ plus-none before

  abbrev Ticks : Type 0
  Ticks = (h : H) (bytes : List ℕ) (passed : Duration) (h' : H) → ground.gives h read_room bytes passed h'
      → Elapses bytes (clock h) passed (clock h')

  turn-time : Ticks → (before now : Now S G H O) (t : Turn C R) → IsTurn ground before t now
      → clock now.ears ≡ clock before.ears + time_told (t ∷ [])
  turn-time ticks before now (Came bytes passed) is =
      elapsed bytes (clock before.ears) passed (clock now.ears) (ticks before.ears bytes passed now.ears is.given.0)
  turn-time ticks before now (Done command answer) is =
      ap (λ (h : H). clock h) is.given.1 ∙ plus-none (clock before.ears)

  -- what a clock says after a run
  pub run-time : Ticks → (begun now : Now S G H O) (past : List (Past S C R G H O)) → HasRun ground begun past now
      → clock now.ears ≡ clock begun.ears + time_told (turns_of ground past)
  run-time ticks begun now [] is = ap (λ (n : Now S G H O). clock n.ears) is ∙ plus-none (clock begun.ears)
  run-time ticks begun now (p ∷ earlier) is =
      turn-time ticks p.before now p.turn is.1
      ∙ ap (λ (n : ℕ). n + time_told (p.turn ∷ [])) (run-time ticks begun p.before earlier is.0)
      ∙ plus-plus (clock begun.ears) (time_told (turns_of ground earlier)) (time_told (p.turn ∷ []))
      ∙ ap (λ (n : ℕ). clock begun.ears + n) (sym (time-more (turns_of ground earlier) p.turn))
