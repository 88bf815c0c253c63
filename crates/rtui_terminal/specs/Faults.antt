-- When a call fails, and what that does to the count of failures.
use Rattle.std.specs.Prelude.{ℕ, ◌≡◌, ◌+◌, ◌-◌, ◌^◌, ◌<◌, Result, MatchResult}
use Rattle.rtui_terminal.specs.declared.terminal.error.TerminalError.{TerminalError}
use Rattle.rtui_terminal.specs.declared.terminal.error.TerminalError.TheVariants.{Area, Backend, Closure}
use Rattle.rtui_terminal.specs.declared.terminal.error.TerminalError.TheVariants.{Memory}

-- a backend's fault comes only if the count of failures rose, and any other answer leaves it
abbrev pub FaultCounts : {E : Type 0} → ℕ → ℕ → TerminalError E → Type 0
FaultCounts old new (Backend error) = old < 2 ^ 64 - 1 → new ≡ old + 1
FaultCounts old new Memory = new ≡ old
FaultCounts old new Area = new ≡ old
FaultCounts old new (Closure error) = new ≡ old

abbrev pub Faults : {T E : Type 0} → Result T (TerminalError E) → ℕ → ℕ → Type 0
Faults result old new = MatchResult result (λ _. new ≡ old) (FaultCounts old new)

-- the only refusal is a backend's
abbrev pub IsBackendFault : {E : Type 0} → TerminalError E → Type 0
IsBackendFault (Backend error) = Unit {0}
IsBackendFault Memory = ⊥
IsBackendFault Area = ⊥
IsBackendFault (Closure error) = ⊥

abbrev pub FailsOnlyByBackend : {T E : Type 0} → Result T (TerminalError E) → Type 0
FailsOnlyByBackend result = MatchResult result (λ _. Unit {0}) IsBackendFault
