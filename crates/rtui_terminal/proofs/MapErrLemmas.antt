-- A call's answer that is passed on with another error.
use Rattle.std.proofs.Common.{refl, sym, subst, true≢false, ◌≡◌, Result, Ok, Err, IsErr, IsErrAnd, MatchResult, OnOk}
use Rattle.std.proofs.Common.{OnErr, ap, ◌∙◌}
use Rattle.std.proofs.Common.{is_ok}
use Rattle.rtui_terminal.specs.{declared.terminal.error.TerminalError.TerminalError, Faults.FailsOnlyByBackend}
use Rattle.rtui_terminal.specs.declared.terminal.error.TerminalError.TheVariants.{Area, Backend, Closure, Memory}

-- what the call's Ok shows
pub passed_ok : {T U E D Q : Type 0} (called : Result T E) (passed : Result U D) → is_ok passed ≡ is_ok called
    → ((x : T) → called ≡ Ok x → Q) → OnOk passed Q
passed_ok (Ok x) (Ok y) same shows = shows x refl
passed_ok (Ok x) (Err d) same shows = tt
passed_ok (Err e) (Ok y) same shows = absurd (true≢false same)
passed_ok (Err e) (Err d) same shows = tt

-- what the call's Err shows
pub passed_err : {T U E D P Q : Type 0} (called : Result T E) (passed : Result U D) → is_ok passed ≡ is_ok called
    → OnErr called P → (P → Q) → OnErr passed Q
passed_err (Ok x) (Ok y) same fails shows = tt
passed_err (Ok x) (Err d) same fails shows = absurd (true≢false (sym same))
passed_err (Err e) (Ok y) same fails shows = tt
passed_err (Err e) (Err d) same fails shows = shows fails

pub was_err : {T U E D P : Type 0} (called : Result T E) (passed : Result U D) (error : D) → is_ok passed ≡ is_ok called
    → passed ≡ Err error → OnErr called P → P
was_err (Ok x) passed error same is fails = absurd (true≢false (sym same ∙ ap is_ok is))
was_err (Err e) passed error same is fails = fails

-- a backend's fault
pub at_fault : {T E : Type 0} (P : T → Type 0) (Q : TerminalError E → Type 0) (answer : Result T (TerminalError E))
    → FailsOnlyByBackend answer → IsErr answer → ((error : E) → Q (Backend error)) → MatchResult answer P Q
at_fault P Q (Ok x) only failed holds = absurd (true≢false (sym failed))
at_fault P Q (Err (Backend error)) only failed holds = holds error
at_fault P Q (Err Memory) only failed holds = absurd only
at_fault P Q (Err Area) only failed holds = absurd only
at_fault P Q (Err (Closure error)) only failed holds = absurd only

-- one error
pub at_error : {T E : Type 0} (P : T → Type 0) (Q : E → Type 0) (error : E) (answer : Result T E)
    → IsErrAnd answer (λ e. e ≡ error) → Q error → MatchResult answer P Q
at_error P Q error (Ok x) is holds = absurd is
at_error P Q error (Err e) is holds = subst Q (sym is) holds
