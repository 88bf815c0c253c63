-- Masks for graphemes, one after the other.
use Rattle.std.proofs.Common.{ℕ, ◌≡◌, List, [], ◌∷◌, ◌++◌, sym, ap, ◌∙◌, append_assoc, encode_utf8}
use Rattle.std.proofs.lemmas.{List.append-nil, List.Concat.flat_map-cons}
use Rattle.widget_field.specs.Fields.{masks}

-- a grapheme is read, and a mask is written
pub mask-more : (mask : ℕ) (old new whole g : List ℕ) (left rest : List (List ℕ)) → new ≡ old ++ encode_utf8 mask
    → left ≡ g ∷ rest → old ++ masks mask left ≡ whole → new ++ masks mask rest ≡ whole
mask-more mask old new whole g left rest written is all =
    ap (λ w. w ++ masks mask rest) written ∙ append_assoc old (encode_utf8 mask) (masks mask rest)
    ∙ ap (λ w. old ++ w) (sym (flat_map-cons (λ (_ : List ℕ). encode_utf8 mask) g rest))
    ∙ ap (λ gs. old ++ masks mask gs) (sym is) ∙ all

-- each grapheme was read
pub mask-all : (mask : ℕ) (old whole : List ℕ) (left : List (List ℕ)) → left ≡ [] → old ++ masks mask left ≡ whole
    → old ≡ whole
mask-all mask old whole left none all = sym (append-nil old) ∙ ap (λ gs. old ++ masks mask gs) (sym none) ∙ all

pub ruleset mask_rules = (mask-more, mask-all)
