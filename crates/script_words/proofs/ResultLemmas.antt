-- What a call's answer shows.
use Rattle.std.proofs.Common.{◌≡◌, Result, Ok, Err, OnOk, OnErr, IfErr, IsErrAnd, is_ok, refl, sym, subst, true≢false}

-- what holds of a call that was Ok, if it didn't fail
pub ok-unless-err : {T E : Type 0} (r : Result T E) (P : Type 0) → ((e : E) → r ≡ Err e → ⊥) → OnOk r P → P
ok-unless-err (Ok x) P unlike on = on
ok-unless-err (Err e) P unlike on = absurd (unlike e refl)

-- what holds of a call that failed, if it wasn't Ok
pub err-unless-ok : {T E : Type 0} (r : Result T E) (P : Type 0) → ((x : T) → r ≡ Ok x → ⊥) → OnErr r P → P
err-unless-ok (Ok x) P unlike on = absurd (unlike x refl)
err-unless-ok (Err e) P unlike on = on

-- what a call's Ok shows of its answer with another error
pub ok-passed : {T E D : Type 0} {P Q : Type 0} (called : Result T E) (passed : Result T D) → is_ok passed ≡ is_ok called
    → (P → Q) → OnOk called P → OnOk passed Q
ok-passed (Ok x) (Ok y) same shows on = shows on
ok-passed (Ok x) (Err d) same shows on = tt
ok-passed (Err e) (Ok y) same shows on = absurd (true≢false same)
ok-passed (Err e) (Err d) same shows on = tt

-- what holds of the error that a call passed on
pub err-passed : {T E : Type 0} (Q : E → Type 0) (error : E) (passed : Result T E) → IsErrAnd passed (λ e. e ≡ error)
    → Q error → IfErr passed Q
err-passed Q error (Ok x) is holds = absurd is
err-passed Q error (Err e) is holds = subst Q (sym is) holds
