-- Kana, ideographs and syllables of Hangul are wide: shown for every code point by a computation over Unicode's tables.
use Rattle.std.proofs.Common.{◌≡◌, ℕ, ◌<◌, Bool, true, false, nat_le, nat_lt, List, [], ◌∷◌, Some, refl, arith}
use Rattle.std.proofs.lemmas.{Bool.false≢true, Bool.Decides.nat_tests}
use Rattle.ucd_table.specs.Rows.{Range, in_ranges}
use Rattle.ucd_table.proofs.Computing.{tables}
use Rattle.ucd_table.proofs.StepsLemmas.{rises_from}
use Rattle.ucd_table.proofs.Stepped.{Stepped, of_ranges, zip_stepped}
use Rattle.ucd_table.proofs.Facts.{Stepped-everywhere}
use Rattle.unicode_width.specs.Kind.{kind}
use Rattle.unicode_width.specs.declared.kind.Kind.{Kind}
use Rattle.unicode_width.specs.declared.kind.Kind.TheVariants.{Wide}
use Rattle.unicode_width.specs.Width.{char_width, alone}
use Rattle.unicode_width.proofs.KindLemmas.{kind_stepped}
use Rattle.rtui_cell.specs.Width.{is_wide_letter}

wide_letters : List Range
wide_letters = (0x3041, 0x3096) ∷ (0x309B, 0x30FF) ∷ (0x3400, 0x9FFF) ∷ (0xAC00, 0xD7A3) ∷ []

-- a kind of character that takes two columns
abbrev is_wide_kind : Kind → Bool
is_wide_kind Wide = true
is_wide_kind _ = false

-- those that are in the list are of that kind
abbrev fits : Bool → Kind → Bool
fits true k = is_wide_kind k
fits false k = true

unfoldable letters_stepped : Stepped (in_ranges wide_letters)
unfolding wide_letters rises_from
letters_stepped = of_ranges wide_letters refl

kinds-fit : (c : ℕ) → fits (in_ranges wide_letters c) (kind c) ≡ true
unfolding tables letters_stepped kind_stepped wide_letters
kinds-fit =
    Stepped-everywhere (λ c. fits (in_ranges wide_letters c) (kind c))
    (zip_stepped fits (in_ranges wide_letters) kind letters_stepped kind_stepped) refl

wide-kind : (k : Kind) → is_wide_kind k ≡ true → k ≡ Wide
wide-kind Wide is = refl
wide-kind _ is = let h : ⊥ = cc in absurd h

letter-listed : (c : ℕ) → is_wide_letter c ≡ true → in_ranges wide_letters c ≡ true
unfolding in_ranges wide_letters
letter-listed c is = grind (arith, nat_tests, is)

fits-true : (b : Bool) (k : Kind) → b ≡ true → fits b k ≡ true → k ≡ Wide
fits-true true k is fit = wide-kind k fit
fits-true false k is fit = absurd (false≢true is)

letter-above : (c : ℕ) → is_wide_letter c ≡ true → 0xA0 < c
letter-above c is = grind (arith, nat_tests, is)

pub wide_letter : (c : ℕ) → is_wide_letter c ≡ true → char_width false c ≡ Some 2
unfolding char_width alone
wide_letter c is =
    let above = letter-above c is in
    let small : nat_lt c 0x7F ≡ false = grind (arith, nat_tests) in
    let large : nat_le 0xA0 c ≡ true = grind (arith, nat_tests) in
    rw (small, large, fits-true (in_ranges wide_letters c) (kind c) (letter-listed c is) (kinds-fit c)) refl
