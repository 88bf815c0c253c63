-- A text that goes on has the graphemes of its front, but for the last one, which may go on.
use Rattle.std.proofs.Common.{◌≡◌, ℕ, zero, suc, ◌-◌, ◌<◌, ◌≤◌, ◌==◌, Bool, true, false, if◌then◌else◌, List, [], ◌∷◌, ◌++◌, map}
use Rattle.std.proofs.Common.{refl, sym, ap, subst, ◌∙◌, arith, inl, inr}
use Rattle.std.proofs.lemmas.{Bool.false≢true, Bool.cases_lt, Bool.Decides.nat_tests, Str.chars-append}
use Rattle.std.specs.Str.{chars, IsUtf8}
use Rattle.unicode_segmentation.specs.Segments.{prepend, cut, segments}
use Rattle.unicode_segmentation.specs.Grapheme.{graphemes, is_grapheme_break}
use Rattle.ratatui_core.specs.Buffer.{text_width, painted_width, kept}
use Rattle.rtui_buffer.proofs.PaintLemmas.{painted_width-painted, kept-skip, kept-take, kept-full}
use Rattle.rtui_buffer.proofs.PaintedLemmas.{kept-none}
use Rattle.follow.specs.{Lines.LookAlike, Inner.fills_row}

-- all pieces but the last of the first list begin the second one
abbrev BeginsAlike : List (List ℕ) → List (List ℕ) → Type 0
BeginsAlike [] qs = Unit {0}
BeginsAlike (p ∷ []) qs = Unit {0}
BeginsAlike (p ∷ (p2 ∷ ps)) [] = ⊥
BeginsAlike (p ∷ (p2 ∷ ps)) (q ∷ qs) = (p ≡ q) × BeginsAlike (p2 ∷ ps) qs

alike-one : (c : ℕ) (t : Bool) (qs : List (List ℕ))
    → BeginsAlike (if t then (c ∷ []) ∷ [] else prepend (c ∷ []) []) qs
alike-one c true qs = tt
alike-one c false qs = tt

alike-next : (c : ℕ) (t : Bool) (ps qs : List (List ℕ)) → BeginsAlike ps qs
    → BeginsAlike (if t then (c ∷ []) ∷ ps else prepend (c ∷ []) ps) (if t then (c ∷ []) ∷ qs else prepend (c ∷ []) qs)
alike-next c true [] qs alike = tt
alike-next c true (p ∷ ps) qs alike = (refl, alike)
alike-next c false [] qs alike = tt
alike-next c false (p ∷ []) qs alike = tt
alike-next c false (p ∷ (p2 ∷ ps)) [] alike = absurd alike
alike-next c false (p ∷ (p2 ∷ ps)) (q ∷ qs) alike = (ap (λ piece. (c ∷ []) ++ piece) alike.0, alike.1)

-- the rule reads one character after a place
pub same-break : (last : ℕ) (before : List ℕ) (next : ℕ) (after more : List ℕ)
    → is_grapheme_break true (last ∷ before) (next ∷ after) ≡ is_grapheme_break true (last ∷ before) (next ∷ more)
unfolding is_grapheme_break
same-break last before next after more = refl

cut-alike : (before cs more : List ℕ)
    → BeginsAlike (cut (is_grapheme_break true) before cs []) (cut (is_grapheme_break true) before (cs ++ more) [])
unfolding cut
cut-alike before [] more = tt
cut-alike before (c ∷ []) more = alike-one c (is_grapheme_break true (c ∷ before) []) _
cut-alike before (c ∷ (d ∷ cs)) more =
    let rest = cut (is_grapheme_break true) (c ∷ before) (d ∷ cs) [] in
    let others = cut (is_grapheme_break true) (c ∷ before) (d ∷ (cs ++ more)) [] in
    subst (λ t. BeginsAlike (if is_grapheme_break true (c ∷ before) (d ∷ (cs ++ [])) then (c ∷ []) ∷ rest
    else prepend (c ∷ []) rest) (if t then (c ∷ []) ∷ others else prepend (c ∷ []) others))
    (same-break c before d (cs ++ []) ((cs ++ more) ++ []))
    (alike-next c (is_grapheme_break true (c ∷ before) (d ∷ (cs ++ []))) rest others (cut-alike (c ∷ before) (d ∷ cs) more))

map-alike : (f : List ℕ → List ℕ) (ps qs : List (List ℕ)) → BeginsAlike ps qs → BeginsAlike (map f ps) (map f qs)
map-alike f [] qs alike = tt
map-alike f (p ∷ []) qs alike = tt
map-alike f (p ∷ (p2 ∷ ps)) [] alike = absurd alike
map-alike f (p ∷ (p2 ∷ ps)) (q ∷ qs) alike = (ap f alike.0, map-alike f (p2 ∷ ps) qs alike.1)

graphemes-alike : (text more : List ℕ) → IsUtf8 text → BeginsAlike (graphemes true text) (graphemes true (text ++ more))
unfolding segments
graphemes-alike text more utf8 =
    rw (chars-append text more utf8) (map-alike _ _ _ (cut-alike [] (chars text) (chars more)))

-- graphemes of which those before one take the columns: there are none, or others fill what is left
rest-fills_row : (columns : ℕ) (g : List ℕ) (gs : List (List ℕ)) → 0 < columns → fills_row columns (g ∷ gs) ≡ true
    → fills_row (columns - painted_width g) gs ≡ true
rest-fills_row columns g gs some full = let none : (columns == 0) ≡ false = grind (arith, nat_tests) in rw none at full

-- graphemes that fill a row are all that is painted there
kept-alike : (room : ℕ) (gs hs : List (List ℕ)) → fills_row room gs ≡ true → BeginsAlike gs hs → kept room gs ≡ kept room hs
kept-alike room [] hs full alike = absurd (false≢true full)
kept-alike zero (g ∷ gs) hs full alike = kept-none (g ∷ gs) ∙ sym (kept-none hs)
kept-alike (suc room) (g ∷ []) hs full alike = absurd (false≢true (rest-fills_row (suc room) g [] (omega arith) full))
kept-alike (suc room) (g ∷ (g2 ∷ gs)) [] full alike = absurd alike
kept-alike (suc room) (g ∷ (g2 ∷ gs)) (h ∷ hs) full alike =
    let rest : kept (suc room - painted_width g) (g2 ∷ gs) ≡ kept (suc room - painted_width g) hs =
    kept-alike (suc room - painted_width g) (g2 ∷ gs) hs (rest-fills_row (suc room) g (g2 ∷ gs) (omega arith) full) alike.1 in
    subst (λ first. kept (suc room) (g ∷ (g2 ∷ gs)) ≡ kept (suc room) (first ∷ hs)) alike.0
    (elim (cases_lt 0 (painted_width g)) [
      | inl some ↦
          let same = painted_width-painted g some in
          elim (cases_lt (suc room) (text_width g)) [
            | inl wide ↦ kept-full (suc room) g (g2 ∷ gs) some wide ∙ sym (kept-full (suc room) g hs some wide)
            | inr fits ↦ kept-take (suc room) g (g2 ∷ gs) some fits
                ∙ ap (λ ks. g ∷ ks) (subst (λ w. kept (suc room - w) (g2 ∷ gs) ≡ kept (suc room - w) hs) same rest)
                ∙ sym (kept-take (suc room) g hs some fits)
          ]
      | inr le ↦
          let none : painted_width g ≡ 0 = omega arith in
          let all : suc room - painted_width g ≡ suc room = omega arith in
          kept-skip (suc room) g (g2 ∷ gs) none
          ∙ subst (λ n. kept n (g2 ∷ gs) ≡ kept n hs) all rest
          ∙ sym (kept-skip (suc room) g hs none)
    ])

-- they fill a narrower row, too
narrower-filled : (room columns : ℕ) (gs : List (List ℕ)) → room ≤ columns → fills_row columns gs ≡ true → fills_row room gs ≡ true
narrower-filled room columns [] le full = full
narrower-filled zero columns (g ∷ gs) le full = refl
narrower-filled (suc room) columns (g ∷ gs) le full =
    let rest = narrower-filled (suc room - painted_width g) (columns - painted_width g) gs (omega arith)
    (rest-fills_row columns g gs (omega arith) full) in
    let none : (suc room == 0) ≡ false = grind (arith, nat_tests) in
    rw none rest

-- what fills a row looks like all that it begins
pub filled-alike : (columns : ℕ) (text more : List ℕ) → IsUtf8 text → fills_row columns (graphemes true text) ≡ true
    → LookAlike columns text (text ++ more)
filled-alike columns text more utf8 full = λ room le.
    kept-alike room (graphemes true text) (graphemes true (text ++ more)) (narrower-filled room columns (graphemes true text) le full)
    (graphemes-alike text more utf8)
