-- A text that is read from one of its graphemes on has the graphemes that it had there.
use Rattle.std.proofs.Common.{◌≡◌, ℕ, zero, suc, ◌+◌, ◌-◌, ◌*◌, ◌/◌, ◌%◌, ◌<◌, ◌≤◌, inl, inr, true, false, List, [], ◌∷◌, ◌++◌}
use Rattle.std.proofs.Common.{map, length, take, drop, refl, sym, ap, ◌∙◌, arith, append-nil, append_assoc, drop_at, lt-ltb, le-ltb}
use Rattle.std.specs.{List.concat, Char.encode_utf8, Prelude.encode_utf8_all, Str.chars, Str.continuation_len, Str.lead_bits}
use Rattle.std.specs.{Str.chars_after, Str.IsUtf8, Char.is_control, List.All, List.list_any}
use Rattle.std.proofs.lemmas.{Bool.cond_both, Bool.cases_lt, Bool.or_parts, Str.chars-nil, Str.encodes-append}
use Rattle.std.proofs.lemmas.{List.Folds.concat-append, List.Folds.list_any-append, List.take-append-drop}
use Rattle.std.proofs.lemmas.List.Elements.{All-nil, All-cons}
use Rattle.unicode_segmentation.specs.Segments.{prepend, cut, segments}
use Rattle.unicode_segmentation.specs.Grapheme.{graphemes}
use Rattle.unicode_segmentation.proofs.SegmentsLemmas.{concat-segments}
use Rattle.rtui_text.specs.{Graphemes.has_control, Graphemes.EachGrapheme}
use Rattle.rtui_text.proofs.ApartLemmas.{breaks, cut-start}

-- ---- lists of pieces

concat-prepend : (part : List ℕ) (pieces : List (List ℕ)) → concat (prepend part pieces) ≡ part ++ concat pieces
concat-prepend part [] = refl
concat-prepend part (p ∷ ps) = append_assoc part p (concat ps)

-- the pieces make up what is cut
concat-cut : (before cs : List ℕ) → concat (cut breaks before cs []) ≡ cs
unfolding cut
concat-cut before [] = refl
concat-cut before (c ∷ cs) =
    let rest = cut breaks (c ∷ before) cs [] in
    let again : concat rest ≡ cs = concat-cut (c ∷ before) cs in
    cond_both (breaks (c ∷ before) (cs ++ [])) ((c ∷ []) ∷ rest) (prepend (c ∷ []) rest)
    (λ ps. concat ps ≡ c ∷ cs) (λ _. ap (λ xs. c ∷ xs) again) (λ _. concat-prepend (c ∷ []) rest ∙ ap (λ xs. c ∷ xs) again)

-- the last of these pieces, cut as a text of their own, are these pieces
abbrev IsCutAlone : List (List ℕ) → Type 0
IsCutAlone ps = cut breaks [] (concat ps) [] ≡ ps

alone-start : (before cs : List ℕ) → breaks before cs ≡ true → IsCutAlone (cut breaks before cs [])
alone-start before cs broken =
    ap (λ xs. cut breaks [] xs []) (concat-cut before cs) ∙ sym (cut-start before cs broken)

alone-none : (n : ℕ) → IsCutAlone (drop n [])
unfolding cut
alone-none zero = refl
alone-none (suc n) = refl

alone-past : (n : ℕ) (ps : List (List ℕ)) → IsCutAlone ps → ((m : ℕ) → IsCutAlone (drop (suc m) ps)) → IsCutAlone (drop n ps)
alone-past zero ps all past = all
alone-past (suc n) ps all past = past n

alone-prepend : (part : List ℕ) (n : ℕ) (ps : List (List ℕ)) → IsCutAlone (drop (suc n) ps)
    → IsCutAlone (drop (suc n) (prepend part ps))
alone-prepend part n [] alone = alone-none n
alone-prepend part n (p ∷ ps) alone = alone

alone-later : (before cs : List ℕ) (n : ℕ) → IsCutAlone (drop (suc n) (cut breaks before cs []))
unfolding cut
alone-later before [] n = alone-none (suc n)
alone-later before (c ∷ cs) n =
    let rest = cut breaks (c ∷ before) cs [] in
    cond_both (breaks (c ∷ before) (cs ++ [])) ((c ∷ []) ∷ rest) (prepend (c ∷ []) rest)
    (λ ps. IsCutAlone (drop (suc n) ps))
    (λ broken. alone-past n rest
    (alone-start (c ∷ before) cs (ap (breaks (c ∷ before)) (sym (append-nil cs)) ∙ broken))
    (alone-later (c ∷ before) cs))
    (λ joined. alone-prepend (c ∷ []) n rest (alone-later (c ∷ before) cs n))

alone-from : (cs : List ℕ) (n : ℕ) → IsCutAlone (drop n (cut breaks [] cs []))
alone-from cs zero = ap (λ xs. cut breaks [] xs []) (concat-cut [] cs)
alone-from cs (suc n) = alone-later [] cs n

-- ---- characters as bytes

read-whole : (c : ℕ) (bs : List ℕ) → chars_after zero c bs ≡ c ∷ chars bs
unfolding chars
read-whole c [] = refl
read-whole c (b ∷ bs) = refl

read-led : (a n v : ℕ) (bs : List ℕ) → n ≡ continuation_len a → v ≡ lead_bits a → chars (a ∷ bs) ≡ chars_after n v bs
unfolding chars
read-led a n v bs p q = λ i. chars_after (sym p i) (sym q i) bs

read-one : (c : ℕ) (rest : List ℕ) → c < 128 → chars (encode_utf8 c ++ rest) ≡ c ∷ chars rest
unfolding encode_utf8
read-one c rest h = rw (lt-ltb c 128 h) (read-led c zero c rest (grind arith) (grind arith) ∙ read-whole c rest)

read-two : (c : ℕ) (rest : List ℕ) → 128 ≤ c → c < 2048 → chars (encode_utf8 c ++ rest) ≡ c ∷ chars rest
unfolding encode_utf8
read-two c rest l h =
    let a = 192 + c / 64 in let z = 128 + c % 64 in
    let is : (a - 192) * 64 + (z - 128) ≡ c = omega arith in
    rw (le-ltb c 128 l, lt-ltb c 2048 h)
    (read-led a (suc zero) (a - 192) (z ∷ rest) (grind arith) (grind arith) ∙ read-whole _ rest ∙ ap (λ x. x ∷ chars rest) is)

read-three : (c : ℕ) (rest : List ℕ) → 2048 ≤ c → c < 65536 → chars (encode_utf8 c ++ rest) ≡ c ∷ chars rest
unfolding encode_utf8
read-three c rest l h =
    let a = 224 + c / 4096 in let y = 128 + (c / 64) % 64 in let z = 128 + c % 64 in
    let low : 128 ≤ c = omega arith in
    let is : ((a - 224) * 64 + (y - 128)) * 64 + (z - 128) ≡ c = omega arith in
    rw (le-ltb c 128 low, le-ltb c 2048 l, lt-ltb c 65536 h)
    (read-led a (suc (suc zero)) (a - 224) (y ∷ z ∷ rest) (grind arith) (grind arith)
    ∙ read-whole _ rest ∙ ap (λ x. x ∷ chars rest) is)

read-four : (c : ℕ) (rest : List ℕ) → 65536 ≤ c → chars (encode_utf8 c ++ rest) ≡ c ∷ chars rest
unfolding encode_utf8
read-four c rest l =
    let a = 240 + c / 262144 in let x = 128 + (c / 4096) % 64 in let y = 128 + (c / 64) % 64 in let z = 128 + c % 64 in
    let low : 128 ≤ c = omega arith in
    let lower : 2048 ≤ c = omega arith in
    let is : (((a - 240) * 64 + (x - 128)) * 64 + (y - 128)) * 64 + (z - 128) ≡ c = omega arith in
    rw (le-ltb c 128 low, le-ltb c 2048 lower, le-ltb c 65536 l)
    (read-led a (suc (suc (suc zero))) (a - 240) (x ∷ y ∷ z ∷ rest) (grind arith) (grind arith)
    ∙ read-whole _ rest ∙ ap (λ b. b ∷ chars rest) is)

-- a number that is written is read back, be it a character's or not
read-char : (c : ℕ) (rest : List ℕ) → chars (encode_utf8 c ++ rest) ≡ c ∷ chars rest
read-char c rest =
    elim (cases_lt c 128) [
      | inl one ↦ read-one c rest one
      | inr more ↦
          elim (cases_lt c 2048) [
            | inl two ↦ read-two c rest more two
            | inr most ↦
                elim (cases_lt c 65536) [
                  | inl three ↦ read-three c rest most three
                  | inr all ↦ read-four c rest all
                ]
          ]
    ]

pub chars-written : (cs : List ℕ) → chars (encode_utf8_all cs) ≡ cs
chars-written [] = chars-nil
chars-written (c ∷ cs) = read-char c (encode_utf8_all cs) ∙ ap (λ xs. c ∷ xs) (chars-written cs)

pub concat-written : (ps : List (List ℕ)) → concat (map encode_utf8_all ps) ≡ encode_utf8_all (concat ps)
concat-written [] = refl
concat-written (p ∷ ps) = ap (λ bs. encode_utf8_all p ++ bs) (concat-written ps) ∙ sym (encodes-append p (concat ps))

drop-written : (n : ℕ) (ps : List (List ℕ)) → drop n (map encode_utf8_all ps) ≡ map encode_utf8_all (drop n ps)
drop-written zero ps = refl
drop-written (suc n) [] = refl
drop-written (suc n) (p ∷ ps) = drop-written n ps

-- the graphemes of a text from one of its graphemes on are the rest of its graphemes
pub graphemes-rest : (n : ℕ) (text : List ℕ)
    → graphemes true (concat (drop n (graphemes true text))) ≡ drop n (graphemes true text)
unfolding segments
graphemes-rest n text =
    let ps = cut breaks [] (chars text) [] in
    let rest = drop n ps in
    let whole : concat (drop n (map encode_utf8_all ps)) ≡ encode_utf8_all (concat rest) =
    ap concat (drop-written n ps) ∙ concat-written rest in
    ap (λ bs. map encode_utf8_all (cut breaks [] (chars bs) [])) whole
    ∙ ap (λ cs. map encode_utf8_all (cut breaks [] cs [])) (chars-written (concat rest))
    ∙ ap (map encode_utf8_all) (alone-from (chars text) n) ∙ sym (drop-written n ps)

pub graphemes-dropped : (n : ℕ) (text : List ℕ) → IsUtf8 text
    → graphemes true (drop (length (concat (take n (graphemes true text)))) text) ≡ drop n (graphemes true text)
graphemes-dropped n text u =
    let gs = graphemes true text in
    let whole : concat (take n gs) ++ concat (drop n gs) ≡ text =
    sym (concat-append (take n gs) (drop n gs)) ∙ ap concat (take-append-drop n gs) ∙ concat-segments breaks text u in
    ap (graphemes true)
    (ap (drop (length (concat (take n gs)))) (sym whole) ∙ drop_at (concat (take n gs)) (concat (drop n gs)) _ refl)
    ∙ graphemes-rest n text

-- ---- control characters

control-free : (ps : List (List ℕ)) → list_any is_control (concat ps) ≡ false
    → All (λ g. has_control g ≡ false) (map encode_utf8_all ps)
control-free [] none = All-nil (λ g. has_control g ≡ false)
control-free (p ∷ ps) none =
    let parts = or_parts (list_any is_control p) (list_any is_control (concat ps))
    (sym (list_any-append is_control p (concat ps)) ∙ none) in
    All-cons (λ g. has_control g ≡ false) (encode_utf8_all p) (map encode_utf8_all ps)
    (ap (list_any is_control) (chars-written p) ∙ parts.0) (control-free ps parts.1)

-- no grapheme of a text without control characters has one
pub graphemes-control_free : (text : List ℕ) → has_control text ≡ false → EachGrapheme (λ g. has_control g ≡ false) text
unfolding segments
graphemes-control_free text none =
    control-free (cut breaks [] (chars text) []) (ap (list_any is_control) (concat-cut [] (chars text)) ∙ none)
