-- What a text area takes of a text.
use Rattle.std.proofs.Common.{ℕ, ◌≡◌, ◌+◌, ◌<◌, ◌≤◌, ◌==◌, ◌&&◌, Bool, true, false, not, cond, List, [], ◌∷◌}
use Rattle.std.proofs.Common.{◌++◌, length, drop, filter}
use Rattle.std.proofs.Common.{chars, encode_utf8_all, get_or, refl, sym, ap, ◌∙◌, arith, append_assoc}
use Rattle.std.proofs.lemmas.{List.drop_more, List.drop_all, List.append-nil, Str.encodes-chars}
use Rattle.std.proofs.lemmas.{Str.encodes-append, Bool.and_parts, Bool.not-true}
use Rattle.std.specs.{List.list_all, Str.IsUtf8}
use Rattle.text_field.proofs.TypedLemmas.{filter-passing}
use Rattle.text_area.specs.Typing.{unified_char, unified, loaded_text, may_be_typed, written_text}

-- no carriage return, nothing that changes
same-cases : (t : Bool) (c : ℕ) (cs : List ℕ) → (c == 13) ≡ t → t ≡ false → unified false cs ≡ cs
    → unified false (c ∷ cs) ≡ c ∷ cs
same-cases true c cs is fails rest = cc
same-cases false c cs is fails rest =
    ap (λ r. cond r (10 ∷ []) (c ∷ []) ++ unified r cs) is ∙ ap (λ ds. c ∷ ds) rest

pub unified-same : (cs : List ℕ) → list_all (λ c. not (c == 13)) cs ≡ true → unified false cs ≡ cs
unified-same [] all = refl
unified-same (c ∷ cs) all =
    let both = and_parts (not (c == 13)) (list_all (λ d. not (d == 13)) cs) all in
    same-cases (c == 13) c cs refl (not-true (c == 13) both.0) (unified-same cs both.1)

pub loaded-same : (text : List ℕ) → IsUtf8 text → list_all (λ c. not (c == 13)) (chars text) ≡ true
    → loaded_text text ≡ text
loaded-same text utf8 all = ap encode_utf8_all (unified-same (chars text) all) ∙ encodes-chars text utf8

-- a carriage return isn't typed
return-cases : (t : Bool) (c : ℕ) → (c == 13) ≡ t → may_be_typed c ≡ true → not t ≡ true
return-cases true c is written = grind arith
return-cases false c is written = refl

all-no_return : (cs : List ℕ) → list_all may_be_typed cs ≡ true → list_all (λ c. not (c == 13)) cs ≡ true
all-no_return [] all = refl
all-no_return (c ∷ cs) all =
    let both = and_parts (may_be_typed c) (list_all may_be_typed cs) all in
    ap (λ t. t && list_all (λ d. not (d == 13)) cs) (return-cases (c == 13) c refl both.0)
    ∙ all-no_return cs both.1

pub written-same : (text : List ℕ) → IsUtf8 text → list_all may_be_typed (chars text) ≡ true
    → written_text text ≡ text
written-same text utf8 all =
    let loaded : loaded_text text ≡ text = loaded-same text utf8 (all-no_return (chars text) all) in
    ap (λ w. encode_utf8_all (filter may_be_typed (chars w))) loaded
    ∙ ap encode_utf8_all (filter-passing may_be_typed (chars text) all) ∙ encodes-chars text utf8

-- one more character
pub unified-step : (cs out new : List ℕ) (k c : ℕ) (after : Bool) → k < length cs → c ≡ get_or cs k c
    → new ≡ out ++ encode_utf8_all (unified_char after c)
    → new ++ encode_utf8_all (unified (c == 13) (drop (k + 1) cs)) ≡ out
    ++ encode_utf8_all (unified after (drop k cs))
unified-step cs out new k c after lt is pushed =
    let rest : drop k cs ≡ c ∷ drop (k + 1) cs = drop_more cs k c lt
    ∙ ap (λ d. d ∷ drop (k + 1) cs) (sym is) in
    ap (λ w. w ++ encode_utf8_all (unified (c == 13) (drop (k + 1) cs))) pushed
    ∙ append_assoc out (encode_utf8_all (unified_char after c))
    (encode_utf8_all (unified (c == 13) (drop (k + 1) cs)))
    ∙ ap (λ w. out ++ w) (sym (encodes-append (unified_char after c) (unified (c == 13) (drop (k + 1) cs))))
    ∙ ap (λ ds. out ++ encode_utf8_all (unified after ds)) (sym rest)

pub unified-end : (cs out : List ℕ) (k : ℕ) (after : Bool) → length cs ≤ k
    → out ≡ out ++ encode_utf8_all (unified after (drop k cs))
unified-end cs out k after le =
    sym (append-nil out) ∙ ap (λ ds. out ++ encode_utf8_all (unified after ds)) (sym (drop_all k cs le))

pub ruleset typed_rules = (loaded-same, written-same)
