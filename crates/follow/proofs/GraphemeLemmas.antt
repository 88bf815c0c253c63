-- Graphemes as they are shown, and printable characters of ASCII, which are shown as they are.
use Rattle.std.proofs.Common.{◌≡◌, ℕ, zero, suc, ◌-◌, ◌<◌, ◌==◌, ◌||◌, Bool, true, false, if◌then◌else◌}
use Rattle.std.proofs.Common.{List, [], ◌∷◌, ◌++◌, length, refl, sym, ap, subst, ◌∙◌, arith}
use Rattle.std.proofs.lemmas.{Bool.false≢true, Bool.Decides.nat_tests, List.Concat.flat_map-append, Str.encode_ascii}
use Rattle.std.specs.List.{flat_map}
use Rattle.unicode_segmentation.specs.Grapheme.{graphemes}
use Rattle.rtui_text.specs.Printable.{IsPrintable, ArePrintable, singles}
use Rattle.ratatui_core.specs.{Buffer.text_width, Buffer.painted_width, Text.has_control}
use Rattle.ratatui_core.proofs.BufferLemmas.{one_byte, printable-plain, graphemes-singles}
use Rattle.ansi_model.specs.Symbols.{is_plain_char, is_printed}
use Rattle.ansi_model.proofs.SymbolLemmas.{plain-printed}
use Rattle.follow.specs.Lines.{is_unpainted, replacement, shown_grapheme, shown_line}
use Rattle.follow.specs.Inner.{fills_row}

-- a grapheme without columns is one that no cell shows
unpainted-is : (g : List ℕ) → (painted_width g == 0) ≡ is_unpainted g
unfolding painted_width
unpainted-is g = by (has_control g) refl
  where
    by : (t : Bool) → has_control g ≡ t → ((if t then 0 else text_width g) == 0) ≡ (t || (text_width g == 0))
    by true e = refl
    by false e = refl

-- a grapheme that is painted takes its columns
painted-columns : (g : List ℕ) → is_unpainted g ≡ false → painted_width g ≡ text_width g
unfolding painted_width
painted-columns g = by (has_control g)
  where
    by : (t : Bool) → (t || (text_width g == 0)) ≡ false → (if t then 0 else text_width g) ≡ text_width g
    by true e = absurd (cc)
    by false e = refl

-- by the tests of the code
pub none-shown : (g : List ℕ) (n : ℕ) → n ≡ painted_width g → n ≡ 0 → shown_grapheme g ≡ g
none-shown g n is none =
    let test : (n == 0) ≡ true = grind (arith, nat_tests) in
    let unpainted : is_unpainted g ≡ true = sym (ap (λ m. m == 0) is ∙ unpainted-is g) ∙ test in
    rw unpainted refl

pub printed-shown : (g : List ℕ) → is_printed g ≡ true → shown_grapheme g ≡ g
printed-shown g printed = by (is_unpainted g) (is_printed g) printed
  where
    by : (a b : Bool) → b ≡ true → (if a || b then g else replacement (text_width g)) ≡ g
    by true b e = refl
    by false true e = refl
    by false false e = absurd (false≢true e)

pub replaced-shown : (g : List ℕ) (n : ℕ) → n ≡ painted_width g → 0 < n → is_printed g ≡ false
    → shown_grapheme g ≡ replacement n
replaced-shown g n is some other =
    let test : (n == 0) ≡ false = grind (arith, nat_tests) in
    let painted : is_unpainted g ≡ false = sym (ap (λ m. m == 0) is ∙ unpainted-is g) ∙ test in
    by (is_unpainted g) (is_printed g) painted other ∙ ap replacement (sym (is ∙ painted-columns g painted))
  where
    by : (a b : Bool) → a ≡ false → b ≡ false → (if a || b then g else replacement (text_width g)) ≡ replacement (text_width g)
    by true b e f = absurd (false≢true (sym e))
    by false true e f = absurd (false≢true (sym f))
    by false false e f = refl

-- ---- printable characters of ASCII

printable-width : (b : ℕ) → IsPrintable b → painted_width (b ∷ []) ≡ 1
unfolding painted_width
printable-width b p = rw (printable-plain b p) (one_byte b)

printable-shown : (b : ℕ) → IsPrintable b → shown_grapheme (b ∷ []) ≡ b ∷ []
printable-shown b p =
    let plain : is_plain_char b ≡ true = grind (arith, nat_tests, p.low, p.high) in
    let printed : is_printed (b ∷ []) ≡ true = subst (λ text. is_printed text ≡ true) (encode_ascii b (omega (arith, p.high)))
    (plain-printed b plain) in
    printed-shown (b ∷ []) printed

singles-shown : (bytes : List ℕ) → ArePrintable bytes → flat_map shown_grapheme (singles bytes) ≡ bytes
singles-shown [] all = refl
singles-shown (b ∷ bytes) all =
    rw (printable-shown b (all 0 (omega arith))) (ap (λ bs. b ∷ bs) (singles-shown bytes (λ k lt. all (suc k) (omega arith))))

-- they are shown before the rest of their line
pub front-shown : (line front rest : List ℕ) → ArePrintable front → graphemes true line ≡ singles front ++ graphemes true rest
    → shown_line line ≡ front ++ shown_line rest
front-shown line front rest all is =
    ap (flat_map shown_grapheme) is ∙ flat_map-append shown_grapheme (singles front) (graphemes true rest)
    ∙ ap (λ bs. bs ++ shown_line rest) (singles-shown front all)

-- more of them than a row has columns fill it
singles-fill : (columns : ℕ) (bytes : List ℕ) → ArePrintable bytes → columns < length bytes
    → fills_row columns (singles bytes) ≡ true
singles-fill columns [] all more = absurd (omega arith)
singles-fill zero (b ∷ bytes) all more = refl
singles-fill (suc columns) (b ∷ bytes) all more =
    let none : (suc columns == 0) ≡ false = grind (arith, nat_tests) in
    let left : suc columns - painted_width (b ∷ []) ≡ columns = omega (arith, printable-width b (all 0 (omega arith))) in
    rw (none, left) (singles-fill columns bytes (λ k lt. all (suc k) (omega arith)) (omega arith))

pub printable-fill : (columns : ℕ) (front : List ℕ) → ArePrintable front → columns < length front
    → fills_row columns (graphemes true front) ≡ true
printable-fill columns front all more =
    ap (fills_row columns) (graphemes-singles front all) ∙ singles-fill columns front all more
