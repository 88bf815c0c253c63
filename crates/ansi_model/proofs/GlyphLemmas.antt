-- How a text is printed as one symbol, and in how many columns.
use Rattle.std.proofs.Common.{◌≡◌, inl, inr, ℕ, ◌+◌, ◌-◌, ◌<◌, ◌≤◌, ◌==◌, ◌&&◌, ◌||◌, not, min, nat_lt, nat_le, nat_eq, Bool}
use Rattle.std.proofs.Common.{true, false, List, [], ◌∷◌, length, chars, IsUtf8, Some, refl, sym, ap, subst, ◌∙◌, arith}
use Rattle.std.proofs.Common.{if◌then◌else◌}
use lib.Utf8.{encode}
use Rattle.std.proofs.lemmas.{Bool.cases_lt, Bool.Decides.nat_tests, Str.length-encode, Str.is_utf8-from_IsUtf8, Str.encode_ascii}
use Rattle.unicode_width.specs.Width.{char_width, str_width}
use Rattle.unicode_width.proofs.{Computing.unicode_width, Rules.width_or_zero-le}
use Rattle.ratatui_core.specs.Buffer.{text_width, columns_of_char}
use Rattle.ratatui_core.proofs.BufferLemmas.{one_byte, char_alone}
use Rattle.ansi_model.specs.declared.glyph.Glyph.TheVariants.{Plain, Whole}
use Rattle.ansi_model.specs.Symbols.{is_plain_char, is_shown, is_one_plain, is_printed, printed_columns}
use Rattle.ansi_model.specs.Symbols.{IsGlyphOf}
use Rattle.ansi_model.proofs.{TextLemmas.one-single, SgrLemmas.up_to, SgrLemmas.up_to-at}
use Rattle.ansi_model.proofs.SymbolLemmas.{one-char, one-encoded, plain-printed}

-- ---- a plain character takes one column

letters : up_to (λ i. nat_eq (columns_of_char (0xC0 + i)) 1) 192 ≡ true
unfolding unicode_width
letters = refl

lines : up_to (λ i. nat_eq (columns_of_char (0x2500 + i)) 1) 160 ≡ true
unfolding unicode_width
lines = refl

within : (first n c : ℕ) → up_to (λ i. nat_eq (columns_of_char (first + i)) 1) n ≡ true → first ≤ c → c < first + n
    → columns_of_char c ≡ 1
within first n c all low high =
    let place : first + (c - first) ≡ c = omega arith in
    let one = subst (λ d. nat_eq (columns_of_char d) 1 ≡ true) place (up_to-at (λ i. nat_eq (columns_of_char (first + i)) 1) n
    (c - first) all (omega arith)) in
    grind (arith, nat_tests)

plain-columns : (c : ℕ) → 0xA0 < c → is_plain_char c ≡ true → columns_of_char c ≡ 1
plain-columns c above plain = elim (nat_le c 0x17F) as (λ b. nat_le c 0x17F ≡ b → columns_of_char c ≡ 1) [
  | true ↦ λ letter. within 0xC0 192 c letters (grind (arith, nat_tests)) (grind (arith, nat_tests))
  | false ↦ λ line. within 0x2500 160 c lines (grind (arith, nat_tests)) (grind (arith, nat_tests))
] refl

-- ---- the columns of a text of one character

some-width : (c n : ℕ) → char_width false c ≡ Some n → columns_of_char c ≡ n
some-width c n e = rw e refl

longer : (c : ℕ) → 0xA0 < c → (length (encode c) == 1) ≡ false
longer c above = grind (arith, nat_tests, length-encode c)

text-columns : (text : List ℕ) (c : ℕ) → 0xA0 < c → IsUtf8 text → chars text ≡ c ∷ [] → text_width text ≡ columns_of_char c
unfolding text_width
text-columns text c above utf8 only =
    let long : (length text == 1) ≡ false = rw (sym (one-encoded text c utf8 only)) (longer c above) in
    let width = some-width c (str_width false (c ∷ [])) (char_alone c above) in
    let small : columns_of_char c ≤ 3 = width_or_zero-le false c in
    let kept : min (columns_of_char c) 65535 ≡ columns_of_char c = omega arith in
    rw (long, only, ← width) kept

-- the space that breaks no line
space : text_width (encode 0xA0) ≡ columns_of_char 0xA0
unfolding text_width unicode_width
space = refl

other-columns : (text : List ℕ) (c : ℕ) → is_shown c ≡ true → is_plain_char c ≡ false → IsUtf8 text → chars text ≡ c ∷ []
    → text_width text ≡ columns_of_char c
other-columns text c shown other utf8 only = elim (cases_lt 0xA0 c) [
  | inl above ↦ text-columns text c above utf8 only
  | inr low ↦
      let e : c ≡ 0xA0 = grind (arith, nat_tests) in
      ap text_width (sym (one-encoded text c utf8 only)) ∙ rw e space
]

plain-width : (text : List ℕ) (c : ℕ) → is_plain_char c ≡ true → IsUtf8 text → chars text ≡ c ∷ [] → text_width text ≡ 1
plain-width text c plain utf8 only = elim (cases_lt 0xA0 c) [
  | inl above ↦ text-columns text c above utf8 only ∙ plain-columns c above plain
  | inr low ↦
      let small : c < 128 = grind (arith, nat_tests) in
      ap text_width (sym (one-encoded text c utf8 only) ∙ encode_ascii c small) ∙ one_byte c
]

-- each symbol is printed in the columns of its text
pub printed-width : (text : List ℕ) → IsUtf8 text → printed_columns text ≡ text_width text
printed-width text utf8 = elim (is_one_plain (chars text)) as (λ v. is_one_plain (chars text) ≡ v
    → (if v then 1 else text_width text) ≡ text_width text) [
      | true ↦ λ e. let found = one-char (chars text) e in sym (plain-width text found.0 found.1.1 utf8 found.1.0)
      | false ↦ λ e. refl
    ] refl

-- ---- a text of one character

pub plain-glyph : (text : List ℕ) (c : ℕ) → is_plain_char c ≡ true → IsUtf8 text → chars text ≡ c ∷ [] → IsGlyphOf text (Plain c)
plain-glyph text c plain utf8 only =
    let same : encode c ≡ text = one-encoded text c utf8 only in
    record {
      printed = subst (λ xs. is_printed xs ≡ true) same (plain-printed c plain);
      columns = rw (only, plain) refl;
      disputed = rw only refl;
      plain = (plain, sym same);
    }

shown-by : (p q : Bool) → (true && (p && true) && (false || q) && true && (false || not false)) ≡ (p && q)
shown-by true true = refl
shown-by true false = refl
shown-by false q = refl

other-printed : (text : List ℕ) (c : ℕ) → is_plain_char c ≡ false → IsUtf8 text → chars text ≡ c ∷ []
    → is_printed text ≡ (is_shown c && nat_lt 0 (columns_of_char c))
other-printed text c other utf8 only =
    rw (one-single text c only, only, is_utf8-from_IsUtf8 text utf8, other) (shown-by (is_shown c) (nat_lt 0 (columns_of_char c)))

pub whole-glyph : (text : List ℕ) (c : ℕ) → is_plain_char c ≡ false → is_shown c ≡ true → (nat_eq (columns_of_char c) 0) ≡ false
    → IsUtf8 text → chars text ≡ c ∷ [] → IsGlyphOf text (Whole (columns_of_char c))
whole-glyph text c other shown some utf8 only =
    let test : nat_lt 0 (columns_of_char c) ≡ true = grind (arith, nat_tests) in
    record {
      printed = other-printed text c other utf8 only ∙ rw (shown, test) refl;
      columns = rw (only, other) (sym (other-columns text c shown other utf8 only));
      disputed = rw only refl;
      plain = tt;
    }
