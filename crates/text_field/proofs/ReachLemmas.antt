-- Graphemes at the ends of a text, and words.
use Rattle.std.proofs.Common.{ℕ, zero, suc, get_or, add-one, ◌≡◌, ◌+◌, ◌-◌, ◌<◌, ◌≤◌, true, List, [], ◌∷◌, ◌++◌, length, take, drop, refl, sym, ap, subst, ◌∙◌, arith}
use Rattle.std.proofs.Common.{length-append}
use Rattle.std.proofs.lemmas.{List.append-nil, List.take_at, List.take-take, List.Folds.concat-append, List.length-take-le, List.length-drop}
use Rattle.std.proofs.lemmas.{Str.IsCharBoundary-at_seam, Str.IsCharBoundary-from_take, Str.IsCharBoundary-from_rest, Str.IsCharBoundary-after_ascii, Str.IsCharBoundary-end, Str.IsCharBoundary-start}
use Rattle.std.proofs.lemmas.{Str.IsUtf8-take}
use Rattle.std.specs.{List.concat, Str.IsUtf8, Str.IsCharBoundary}
use Rattle.unicode_segmentation.specs.Grapheme.{graphemes}
use Rattle.unicode_segmentation.proofs.SegmentsLemmas.{concat-segments}
use Rattle.text_field.specs.Reach.{first_text, last_text}

pub last_of-push : (gs : List (List ℕ)) (g : List ℕ) → last_text (gs ++ g ∷ []) ≡ g
last_of-push [] g = refl
last_of-push (h ∷ []) g = refl
last_of-push (h ∷ i ∷ gs) g = last_of-push (i ∷ gs) g

pub concat-push : (gs : List (List ℕ)) (g : List ℕ) → concat (gs ++ g ∷ []) ≡ concat gs ++ g
concat-push gs g = concat-append gs (g ∷ []) ∙ ap (λ w. concat gs ++ w) (append-nil g)

-- a text whose last grapheme is g
pub text-last : (text g : List ℕ) (rest : List (List ℕ)) → IsUtf8 text → graphemes true text ≡ rest ++ g ∷ []
    → text ≡ concat rest ++ g
text-last text g rest utf8 is = sym (concat-segments _ _ utf8) ∙ ap concat is ∙ concat-push rest g

pub length-last : (text g : List ℕ) (rest : List (List ℕ)) → IsUtf8 text → graphemes true text ≡ rest ++ g ∷ []
    → length (concat rest) + length (last_text (graphemes true text)) ≡ length text
length-last text g rest utf8 is =
    let last : length (last_text (graphemes true text)) ≡ length g = ap (λ gs. length (last_text gs)) is ∙ ap length (last_of-push rest g) in
    omega (arith, ap length (text-last text g rest utf8 is), length-append (concat rest) g)

pub boundary-last : (text g : List ℕ) (rest : List (List ℕ)) → IsUtf8 text → IsUtf8 g
    → graphemes true text ≡ rest ++ g ∷ [] → IsCharBoundary text (length (concat rest))
boundary-last text g rest utf8 piece is =
    IsCharBoundary-at_seam text (concat rest) g (text-last text g rest utf8 is) piece

-- a text whose first grapheme is g
pub text-first : (text g : List ℕ) (rest : List (List ℕ)) → IsUtf8 text → graphemes true text ≡ g ∷ rest
    → text ≡ g ++ concat rest
text-first text g rest utf8 is = sym (concat-segments _ _ utf8) ∙ ap concat is

pub boundary-first : (text g : List ℕ) (rest : List (List ℕ)) → IsUtf8 text → IsUtf8 g
    → graphemes true text ≡ g ∷ rest → IsCharBoundary text (length g)
boundary-first text g rest utf8 piece is =
    let whole : text ≡ g ++ concat rest = text-first text g rest utf8 is in
    let within : length g ≤ length text = omega (arith, ap length whole, length-append g (concat rest)) in
    IsCharBoundary-from_take text (length g) utf8 within
    (subst IsUtf8 (sym (ap (take (length g)) whole ∙ take_at g (concat rest) (length g) refl)) piece)

-- a boundary of the text before a place
pub boundary-before : (text : List ℕ) (at n : ℕ) → IsUtf8 text → IsCharBoundary text at → IsCharBoundary (take at text) n
    → IsCharBoundary text n
boundary-before text at n utf8 whole part =
    let le : n ≤ at = omega (arith, part.0, length-take-le at text whole.0) in
    IsCharBoundary-from_take text n utf8 (omega (arith, le, whole.0))
    (subst IsUtf8 (take-take n at text le) (IsUtf8-take (take at text) n (IsUtf8-take text at utf8 whole) part))

-- no graphemes, no bytes
pub length-none : (text : List ℕ) → IsUtf8 text → graphemes true text ≡ []
    → length text + length (last_text (graphemes true text)) ≡ length text
length-none text utf8 is = omega (arith, ap (λ gs. length (last_text gs)) is)

pub length-first : (text g : List ℕ) (rest : List (List ℕ)) → graphemes true text ≡ g ∷ rest
    → length g ≡ length (first_text (graphemes true text))
length-first text g rest is = sym (ap (λ gs. length (first_text gs)) is)

pub length-first_none : (text : List ℕ) → graphemes true text ≡ [] → 0 ≡ length (first_text (graphemes true text))
length-first_none text is = sym (ap (λ gs. length (first_text gs)) is)

pub boundary-behind : (text : List ℕ) (at n : ℕ) → IsCharBoundary text at → IsCharBoundary (drop at text) n
    → IsCharBoundary text (at + n)
boundary-behind text at n whole part = IsCharBoundary-from_rest text at n whole.0 part

-- no character is cut after a blank
pub boundary-blank : (text : List ℕ) (n : ℕ) → IsUtf8 text → n ≤ length text → (0 < n → get_or text (n - 1) 0 ≡ 32)
    → IsCharBoundary text n
boundary-blank text zero utf8 le blank = IsCharBoundary-start text utf8
boundary-blank text (suc m) utf8 le blank =
    let same : m ≡ suc m - 1 = omega arith in
    let byte : get_or text m 0 ≡ 32 = ap (λ i. get_or text i 0) same ∙ blank (omega arith) in
    subst (IsCharBoundary text) (add-one m) (IsCharBoundary-after_ascii text m utf8 (omega (arith, le)) (omega (arith, byte)))

pub ruleset last_rules = (length-last, boundary-last, length-none, IsCharBoundary-end)

pub ruleset first_rules = (length-first, boundary-first, length-first_none, IsCharBoundary-start)

pub ruleset place_rules = (boundary-before, boundary-behind, length-take-le, length-drop)
