-- Numbers of a move, digit by digit.
use Rattle.std.proofs.Common.{◌≡◌, ℕ, ◌+◌, ◌/◌, ◌%◌, ◌^◌, ◌<◌, ◌≤◌, List, [], ◌∷◌, ◌++◌, length, ap, ◌∙◌, arith}
use Rattle.std.specs.Fmt.{decimal}
use Rattle.std.proofs.lemmas.Fmt.{decimal_step, decimal_digit, length-decimal-le}
use Rattle.ansi_model.specs.Commands.{cursor_bytes}
use Rattle.ansi_model.proofs.ReadLemmas.{after-those}
use Rattle.std.proofs.lemmas.List.{length-append}

-- a number has a digit more than what is left without its last one
pub more_digits : (n : ℕ) → 10 ≤ n → n < 2 ^ 64 → length (decimal n) ≡ length (decimal (n / 10)) + 1
more_digits n several fits = ap length (decimal_step n several fits) ∙ length-append (decimal (n / 10)) ((48 + n % 10) ∷ [])

-- and one below ten has one
pub one_digit : (n : ℕ) → n < 10 → length (decimal n) ≡ 1
one_digit n small = ap length (decimal_digit n small)

-- a number of 32 bits has at most ten
pub short_number : (n : ℕ) → n < 2 ^ 32 → length (decimal n) ≤ 10
short_number n fits = length-decimal-le 10 n (omega arith) (omega arith) (omega arith)

-- a text that it was appended to
pub number_room : (old new : List ℕ) (n : ℕ) → n < 2 ^ 32 → new ≡ old ++ decimal n → length new ≤ length old + 10
number_room old new n fits is =
    let all = ap length is ∙ length-append old (decimal n) in
    let few = short_number n fits in
    omega arith

-- the pieces of a move
pub move_bytes : (x y fx fy : ℕ) (begun row parted column whole : List ℕ) → begun ≡ 27 ∷ 91 ∷ []
    → row ≡ begun ++ decimal (fy + 1) → parted ≡ row ++ 59 ∷ [] → column ≡ parted ++ decimal (fx + 1)
    → whole ≡ column ++ 72 ∷ [] → fx ≡ x → fy ≡ y → whole ≡ cursor_bytes x y
move_bytes x y fx fy begun row parted column whole e1 e2 e3 e4 e5 of_column of_row =
    let all : whole ≡ (27 ∷ 91 ∷ []) ++ (decimal (fy + 1) ++ ((59 ∷ []) ++ (decimal (fx + 1) ++ 72 ∷ []))) =
    after-those [] begun whole _ _ e1
    (after-those begun row whole _ _ e2 (after-those row parted whole _ _ e3 (after-those parted column whole _ _ e4 e5))) in
    rw (of_column, of_row) at all
