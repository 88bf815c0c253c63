-- A text that is read up to the end of one of its graphemes has the graphemes that it had there.
use Rattle.std.proofs.Common.{◌≡◌, ℕ, zero, suc, true, false, List, [], ◌∷◌, ◌++◌, if◌then◌else◌, map, length, take, drop}
use Rattle.std.proofs.Common.{take_at, refl, sym, ap, ap₂, subst, ◌∙◌, append-nil}
use Rattle.std.specs.{List.concat, Prelude.encode_utf8_all, Str.chars, Str.IsUtf8}
use Rattle.std.proofs.lemmas.{Bool.cond_both, List.Folds.concat-append, List.take-append-drop}
use Rattle.unicode_segmentation.specs.Segments.{prepend, cut, segments}
use Rattle.unicode_segmentation.specs.Grapheme.{is_grapheme_break, graphemes}
use Rattle.unicode_segmentation.proofs.SegmentsLemmas.{concat-segments}
use Rattle.rtui_text.proofs.{ApartLemmas.breaks, RestLemmas.chars-written, RestLemmas.concat-written}

-- the first piece begins with the first character
cut-first : (before : List ℕ) (c : ℕ) (cs : List ℕ)
    → (p : List ℕ) × (ps : List (List ℕ)) × (cut breaks before (c ∷ cs) [] ≡ (c ∷ p) ∷ ps)
unfolding cut
cut-first before c cs =
    let rest = cut breaks (c ∷ before) cs [] in
    cond_both (breaks (c ∷ before) (cs ++ [])) ((c ∷ []) ∷ rest) (prepend (c ∷ []) rest)
    (λ qs. (p : List ℕ) × (ps : List (List ℕ)) × (qs ≡ (c ∷ p) ∷ ps)) (λ _. ([], rest, refl)) (λ _. prepended rest)
  where
    prepended : (qs : List (List ℕ)) → (p : List ℕ) × (ps : List (List ℕ)) × (prepend (c ∷ []) qs ≡ (c ∷ p) ∷ ps)
    prepended [] = ([], [], refl)
    prepended (q ∷ qs) = (q, qs, refl)

-- the first of these pieces, cut without the others, are these pieces
abbrev IsFrontAlone : List ℕ → List (List ℕ) → Type 0
IsFrontAlone before ps = cut breaks before (concat ps) [] ≡ ps

cut-one : (before : List ℕ) (c : ℕ) → cut breaks before (c ∷ []) [] ≡ (c ∷ []) ∷ []
unfolding cut is_grapheme_break
cut-one before c = refl

cut-none : (before : List ℕ) → cut breaks before [] [] ≡ []
unfolding cut
cut-none before = refl

-- a rule reads the next character alone
next-alone : (last : ℕ) (before : List ℕ) (next : ℕ) (after others : List ℕ)
    → breaks (last ∷ before) (next ∷ after) ≡ breaks (last ∷ before) (next ∷ others)
unfolding is_grapheme_break
next-alone last before next after others = refl

-- one character more before the pieces of a front: as a piece of its own, or as a part of the first
front-broken : (before : List ℕ) (c y : ℕ) (cs p : List ℕ) (qs : List (List ℕ)) (n : ℕ) → breaks (c ∷ before) (y ∷ cs) ≡ true
    → IsFrontAlone (c ∷ before) (take (suc n) ((y ∷ p) ∷ qs))
    → IsFrontAlone before (take (suc (suc n)) ((c ∷ []) ∷ (y ∷ p) ∷ qs))
unfolding cut
front-broken before c y cs p qs n is alone =
    let same = next-alone c before y ((p ++ concat (take n qs)) ++ []) cs in
    ap₂ (λ b ps. if b then (c ∷ []) ∷ ps else prepend (c ∷ []) ps) (same ∙ is) alone

front-joined : (before : List ℕ) (c y : ℕ) (cs p : List ℕ) (qs : List (List ℕ)) (n : ℕ) → breaks (c ∷ before) (y ∷ cs) ≡ false
    → IsFrontAlone (c ∷ before) (take (suc n) ((y ∷ p) ∷ qs))
    → IsFrontAlone before (take (suc n) (prepend (c ∷ []) ((y ∷ p) ∷ qs)))
unfolding cut
front-joined before c y cs p qs n is alone =
    let same = next-alone c before y ((p ++ concat (take n qs)) ++ []) cs in
    ap₂ (λ b ps. if b then (c ∷ []) ∷ ps else prepend (c ∷ []) ps) (same ∙ is) alone

front-first : (before : List ℕ) (c : ℕ) (cs : List ℕ) (rest : List (List ℕ)) (n : ℕ) → breaks (c ∷ before) cs ≡ true
    → cut breaks (c ∷ before) cs [] ≡ rest → ((k : ℕ) → IsFrontAlone (c ∷ before) (take (suc k) rest))
    → IsFrontAlone before (take (suc n) ((c ∷ []) ∷ rest))
front-first before c cs rest zero is e alone = cut-one before c
front-first before c [] rest (suc n) is e alone =
    subst (λ ps. IsFrontAlone before (take (suc (suc n)) ((c ∷ []) ∷ ps))) (sym (cut-none (c ∷ before)) ∙ e) (cut-one before c)
front-first before c (y ∷ cs) rest (suc n) is e alone =
    let first = cut-first (c ∷ before) y cs in
    let whole : rest ≡ (y ∷ first.0) ∷ first.1 = sym e ∙ first.2 in
    subst (λ ps. IsFrontAlone before (take (suc (suc n)) ((c ∷ []) ∷ ps))) (sym whole)
    (front-broken before c y cs first.0 first.1 n is
    (subst (λ ps. IsFrontAlone (c ∷ before) (take (suc n) ps)) whole (alone n)))

front-one : (before : List ℕ) (c n : ℕ) → IsFrontAlone before (take (suc n) ((c ∷ []) ∷ []))
front-one before c zero = cut-one before c
front-one before c (suc n) = cut-one before c

front-alone : (before cs : List ℕ) (n : ℕ) → IsFrontAlone before (take n (cut breaks before cs []))
unfolding cut
front-alone before cs zero = refl
front-alone before [] (suc n) = refl
front-alone before (c ∷ []) (suc n) =
    subst (λ ps. IsFrontAlone before (take (suc n) ps)) (sym (cut-one before c)) (front-one before c n)
front-alone before (c ∷ (y ∷ cs)) (suc n) =
    let rest = cut breaks (c ∷ before) (y ∷ cs) [] in
    let first = cut-first (c ∷ before) y cs in
    let alone = front-alone (c ∷ before) (y ∷ cs) in
    let more : y ∷ cs ++ [] ≡ y ∷ cs = append-nil (y ∷ cs) in
    cond_both (breaks (c ∷ before) ((y ∷ cs) ++ [])) ((c ∷ []) ∷ rest) (prepend (c ∷ []) rest)
    (λ ps. IsFrontAlone before (take (suc n) ps))
    (λ is. front-first before c (y ∷ cs) rest n (ap (breaks (c ∷ before)) (sym more) ∙ is) refl (λ k. alone (suc k)))
    (λ is. subst (λ ps. IsFrontAlone before (take (suc n) (prepend (c ∷ []) ps))) (sym first.2)
    (front-joined before c y cs first.0 first.1 n (ap (breaks (c ∷ before)) (sym more) ∙ is)
    (subst (λ ps. IsFrontAlone (c ∷ before) (take (suc n) ps)) first.2 (alone (suc n)))))

take-written : (n : ℕ) (ps : List (List ℕ)) → take n (map encode_utf8_all ps) ≡ map encode_utf8_all (take n ps)
take-written zero ps = refl
take-written (suc n) [] = refl
take-written (suc n) (p ∷ ps) = ap (λ qs. encode_utf8_all p ∷ qs) (take-written n ps)

-- the graphemes of a text up to the end of one of its graphemes are the first of its graphemes
pub graphemes-first : (n : ℕ) (text : List ℕ)
    → graphemes true (concat (take n (graphemes true text))) ≡ take n (graphemes true text)
unfolding segments
graphemes-first n text =
    let ps = cut breaks [] (chars text) [] in
    let front = take n ps in
    let whole : concat (take n (map encode_utf8_all ps)) ≡ encode_utf8_all (concat front) =
    ap concat (take-written n ps) ∙ concat-written front in
    ap (λ bs. map encode_utf8_all (cut breaks [] (chars bs) [])) whole
    ∙ ap (λ cs. map encode_utf8_all (cut breaks [] cs [])) (chars-written (concat front))
    ∙ ap (map encode_utf8_all) (front-alone [] (chars text) n) ∙ sym (take-written n ps)

pub graphemes-taken : (n : ℕ) (text : List ℕ) → IsUtf8 text
    → graphemes true (take (length (concat (take n (graphemes true text)))) text) ≡ take n (graphemes true text)
graphemes-taken n text u =
    let gs = graphemes true text in
    let whole : concat (take n gs) ++ concat (drop n gs) ≡ text =
    sym (concat-append (take n gs) (drop n gs)) ∙ ap concat (take-append-drop n gs) ∙ concat-segments breaks text u in
    ap (graphemes true)
    (ap (take (length (concat (take n gs)))) (sym whole) ∙ take_at (concat (take n gs)) (concat (drop n gs)) _ refl)
    ∙ graphemes-first n text
