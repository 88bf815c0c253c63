-- The width of a text of one byte, and of one character.
use Rattle.std.proofs.Common.{◌≡◌, ℕ, ◌+◌, ◌<◌, Bool, true, false, ◌&&◌, ◌==◌, nat_lt, nat_le, [], ◌∷◌, refl, sym, ap, ◌∙◌}
use Rattle.std.proofs.Common.{arith, ◌≤◌, Some, unwrap_or, if◌then◌else◌, min}
use Rattle.std.proofs.lemmas.{Bool.false≢true, Bool.Decides.nat_tests}
use Rattle.rtui_cell.specs.Width.{text_width, columns_of_char}
use Rattle.unicode_width.specs.Width.{str_width, char_width, alone, step, past_emoji, plain, added}

-- a byte takes one column
pub one_byte : (b : ℕ) → text_width (b ∷ []) ≡ 1
unfolding text_width
one_byte b = refl

third : {A : Type 0} (f g h : Bool) (w x y z : A) → f ≡ false → g ≡ false → h ≡ false
    → (if f then w else if g then x else if h then y else z) ≡ z
third false false false w x y z e k l = refl
third true g h w x y z e k l = absurd (false≢true (sym e))
third false true h w x y z e k l = absurd (false≢true (sym k))
third false false true w x y z e k l = absurd (false≢true (sym l))

second : {A : Type 0} (f g : Bool) (x y z : A) → f ≡ false → g ≡ true → (if f then x else if g then y else z) ≡ y
second f g x y z e k = rw (e, k) refl

one_step : (c : ℕ) → 0xA0 < c → step false c (0, plain) ≡ added 0 (alone false c)
unfolding step past_emoji
one_step c above =
    let line : (c == 0x0A) ≡ false = grind (arith, nat_tests) in
    let back : (c == 0x0D) ≡ false = grind (arith, nat_tests) in
    let low : nat_le c 0xA0 ≡ false = grind (arith, nat_tests) in
    third (c == 0x0A) ((c == 0x0D) && false) (nat_le c 0xA0) _ _ _ _ line (rw back refl) low

-- above U+00A0 it is the character's
pub char_alone : (c : ℕ) → 0xA0 < c → char_width false c ≡ Some (str_width false (c ∷ []))
unfolding char_width str_width
char_alone c above =
    let small : nat_lt c 0x7F ≡ false = grind (arith, nat_tests) in
    let large : nat_le 0xA0 c ≡ true = grind (arith, nat_tests) in
    let none : (alone false c).0 ≡ 0 + (alone false c).0 = omega arith in
    second (nat_lt c 0x7F) (nat_le 0xA0 c) _ _ _ small large ∙ ap (λ n. Some n) none ∙ ap (λ r. Some r.0) (sym (one_step c above))

-- so a text of this character alone takes the character's columns
pub columns_alone : (c n : ℕ) → 0xA0 < c → n ≡ columns_of_char c → n ≤ 3 → n ≡ min (str_width false (c ∷ [])) 65535
columns_alone c n above is few =
    let width : n ≡ str_width false (c ∷ []) = is ∙ ap (λ w. unwrap_or w 0) (char_alone c above) in
    omega (arith, width)
