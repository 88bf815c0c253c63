-- A test of each number below 256, computed in eight runs of 32.
use Rattle.std.proofs.Common.{◌≡◌, ℕ, zero, suc, ◌+◌, ◌-◌, ◌<◌, ◌≤◌, ⊎_elim, Bool, true, ◌&&◌, arith, subst}
use Rattle.std.proofs.lemmas.{Bool.cases_lt, Bool.and_parts}

abbrev pub all_run : (ℕ → Bool) → ℕ → ℕ → Bool
all_run test base zero = true
all_run test base (suc n) = test (base + n) && all_run test base n

in-run : (test : ℕ → Bool) (base k n : ℕ) → all_run test base k ≡ true → n < k → test (base + n) ≡ true
in-run test base zero n all lt = absurd (omega arith)
in-run test base (suc k) n all lt =
    let parts = and_parts (test (base + k)) (all_run test base k) all in
    ⊎_elim (λ (less : n < k). in-run test base k n parts.1 less)
    (λ (more : k ≤ n). let e : n ≡ k = omega arith in rw e parts.0) (cases_lt n k)

at-run : (test : ℕ → Bool) (base n : ℕ) → all_run test base 32 ≡ true → base ≤ n → n < base + 32 → test n ≡ true
at-run test base n all from to =
    let e : base + (n - base) ≡ n = omega arith in
    subst (λ m. test m ≡ true) e (in-run test base 32 (n - base) all (omega arith))

-- one of those below a number, or one of the next run
or-next : (test : ℕ → Bool) (base n : ℕ) → all_run test base 32 ≡ true → (n < base → test n ≡ true) → n < base + 32
    → test n ≡ true
or-next test base n all below to = ⊎_elim below (λ (from : base ≤ n). at-run test base n all from to) (cases_lt n base)

pub from-runs : (test : ℕ → Bool) → all_run test 0 32 ≡ true → all_run test 32 32 ≡ true → all_run test 64 32 ≡ true
    → all_run test 96 32 ≡ true → all_run test 128 32 ≡ true → all_run test 160 32 ≡ true → all_run test 192 32 ≡ true
    → all_run test 224 32 ≡ true → (n : ℕ) → n < 256 → test n ≡ true
from-runs test r0 r1 r2 r3 r4 r5 r6 r7 n lt =
    or-next test 224 n r7 (or-next test 192 n r6 (or-next test 160 n r5 (or-next test 128 n r4
    (or-next test 96 n r3 (or-next test 64 n r2 (or-next test 32 n r1 (or-next test 0 n r0
    (λ (none : n < 0). absurd (omega arith))))))))) (omega arith)
