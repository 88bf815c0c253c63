-- What `parse` says of decimal digits.
use Rattle.std.proofs.Common.{◌≡◌, ℕ, ◌<◌, ◌^◌, ◌&&◌, Bool, true, false, nat_lt, List, length, Some, None, Result, Ok, Err, refl}
use Rattle.std.proofs.Common.{ap, arith, rules, inl, inr, nat_le, if◌then◌else◌}
use Rattle.std.specs.{Char.is_ascii_digit, List.list_all, Result.result_ok, Result.OkIff, Str.Parse.digits_value}
use Rattle.std.specs.{Str.Parse.ParsesUnsigned}
use Rattle.std.proofs.lemmas.{Bool.cases_lt, Bool.Decides.nat_tests, Str.Parse.IsNumeralModel, Str.Parse.numerals_by_value}
use Rattle.std.proofs.lemmas.{Str.Parse.parse_digits}
use Rattle.script_words.specs.Words.{parsed_number}

own : IsNumeralModel (λ ds. list_all is_ascii_digit ds ≡ true) (digits_value 10)
own = numerals_by_value _ (search rules)

-- the test that a number fits
abbrev fits : ℕ → ℕ → Bool → Bool
fits n value digits = nat_lt 0 n && digits && nat_le value 65535

fits_true : (n value : ℕ) (digits : Bool) → digits ≡ true → 0 < n → value < 2 ^ 16 → fits n value digits ≡ true
fits_true n value digits p some small = rw p (grind (arith, nat_tests))

fits_false : (n value : ℕ) (digits : Bool) → digits ≡ true → ((0 < n) × (value < 2 ^ 16) → ⊥) → fits n value digits ≡ false
fits_false n value digits p out = elim (cases_lt 0 n) [
  | inr none ↦ grind (arith, nat_tests)
  | inl some ↦ elim (cases_lt value (2 ^ 16)) [
    | inl small ↦ absurd (out (some, small))
    | inr large ↦ rw p (grind (arith, nat_tests))
  ]
]

number_if : {E : Type 0} (n value : ℕ) (digits : Bool) (r : Result ℕ E) → digits ≡ true
    → OkIff r ((0 < n) × (value < 2 ^ 16)) value
    → result_ok r ≡ (if fits n value digits then Some value else None)
number_if n value digits (Ok x) p h = rw (fits_true n value digits p h.0.0 h.0.1) (ap Some h.1)
number_if n value digits (Err e) p h = rw (fits_false n value digits p h) refl

pub number_parsed : {E : Type 0} (bs : List ℕ) (r : Result ℕ E) → ParsesUnsigned 16 10 bs r → list_all is_ascii_digit bs ≡ true
    → result_ok r ≡ parsed_number bs
number_parsed bs r h p = number_if (length bs) (digits_value 10 bs) (list_all is_ascii_digit bs) r p
    (parse_digits own 16 bs r h p)
