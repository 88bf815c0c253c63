-- Indexes counted around a number of symbols.
use Rattle.std.proofs.Common.{◌≡◌, ℕ, ℤ, pos, negsuc, suc, ◌+ℤ◌, ◌-ℤ◌, ◌+◌, ◌-◌, ◌*◌, ◌<◌, ◌≤◌, ◌%◌, ◌∙◌, refl, sym, ap, arith}
use Rattle.std.specs.Int.RustNames.{unsigned_abs}
use Rattle.std.proofs.lemmas.Int.{ints, int_rem_euclid_is}
use Rattle.std.proofs.Math.Nat.{mod-add-mod, add-mod_right, mod-eq_of_lt, mul-le-mul_left}
use Rattle.widget_throbber.specs.Sets.{symbol_number}

-- enough rounds lead each index to a natural number
rounds : (i : ℤ) (n : ℕ) → 0 < n → (j : ℕ) × (m : ℕ) × (i +ℤ pos (j * n) ≡ pos m)
rounds (pos a) n some = (0, a, omega (arith, ints))
rounds (negsuc a) n some =
    let le : suc a * 1 ≤ suc a * n = mul-le-mul_left (suc a) some in (suc a, suc a * n - suc a, omega (arith, ints))

number-is : (i : ℤ) (n j m : ℕ) → 0 < n → i +ℤ pos (j * n) ≡ pos m → symbol_number i n ≡ m % n
number-is i n j m some e = ap unsigned_abs (int_rem_euclid_is i (pos n) n j m some refl e)

pub number-further : (i : ℤ) (n k : ℕ) → 0 < n → symbol_number (i +ℤ pos k) n ≡ (symbol_number i n + k) % n
number-further i n k some =
    let r = rounds i n some in
    let here = number-is i n r.0 r.1 some r.2 in
    let e = r.2 in
    let there = number-is (i +ℤ pos k) n r.0 (r.1 + k) some (omega (arith, ints)) in
    there ∙ sym (mod-add-mod r.1 n k) ∙ ap (λ q. (q + k) % n) (sym here)

pub number-back : (i : ℤ) (n k : ℕ) → 0 < n → (symbol_number (i -ℤ pos k) n + k) % n ≡ symbol_number i n
number-back i n k some =
    let e : (i -ℤ pos k) +ℤ pos k ≡ i = omega (arith, ints) in
    sym (number-further (i -ℤ pos k) n k some) ∙ ap (λ j. symbol_number j n) e

number-among : (i : ℤ) (n : ℕ) → 0 < n → symbol_number i n < n
number-among (pos a) n some = omega arith
number-among (negsuc a) n some = omega arith

pub number-around : (i : ℤ) (n : ℕ) → 0 < n → symbol_number (i +ℤ pos n) n ≡ symbol_number i n
number-around i n some =
    number-further i n n some ∙ add-mod_right (symbol_number i n) n ∙ mod-eq_of_lt (number-among i n some)
