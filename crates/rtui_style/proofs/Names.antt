-- The names of colours: a text is compared with a name character by character.
use Rattle.std.proofs.Common.{◌≡◌, ℕ, ◌+◌, ◌<◌, ◌≤◌, Bool, true, false, ◌&&◌, cond, nat_eq, List, [], ◌∷◌, length, drop, get_or}
use Rattle.std.proofs.Common.{map, filter, ap, ap₂, eqb, sym, ◌∙◌, arith}
use Rattle.std.specs.Cmp.Lexicographic.{pointwise}
use Rattle.std.proofs.lemmas.{List.at_drop_more, List.at_drop_all, List.nil_from_length, Bool.eq-eqb, Bool.ne_eqb}
use Rattle.rtui_style.specs.Color.{is_kept, lowered}

-- those of these characters that count in a name
abbrev pub counting : List ℕ → List ℕ
counting cs = map lowered (filter is_kept cs)

counting-cons : (c : ℕ) (cs : List ℕ) (b : Bool) → is_kept c ≡ b → counting (c ∷ cs) ≡ cond b (lowered c ∷ counting cs)
    (counting cs)
counting-cons c cs true e = ap (λ k. map lowered (cond k (c ∷ filter is_kept cs) (filter is_kept cs))) e
counting-cons c cs false e = ap (λ k. map lowered (cond k (c ∷ filter is_kept cs) (filter is_kept cs))) e

-- the next character counts, or it doesn't
pub counting-drop : (cs : List ℕ) (n c : ℕ) (b : Bool) → (n < length cs) × (c ≡ get_or cs n c) → is_kept c ≡ b
    → counting (drop n cs) ≡ cond b (lowered c ∷ counting (drop (n + 1) cs)) (counting (drop (n + 1) cs))
counting-drop cs n c b here e =
    at_drop_more counting cs n c here.0 ∙ ap (λ x. counting (x ∷ drop (n + 1) cs)) (sym here.1)
    ∙ counting-cons c (drop (n + 1) cs) b e

pub counting-end : (cs : List ℕ) (n : ℕ) → length cs ≤ n → counting (drop n cs) ≡ []
counting-end cs n h = at_drop_all counting cs n h

-- the next characters of a name and of a text are the same, and so the rest decides
pub next_same : (name left name' left' : List ℕ) (x y : ℕ) → name ≡ x ∷ name' → left ≡ y ∷ left' → x ≡ y
    → pointwise nat_eq name' left' ≡ pointwise nat_eq name left
next_same name left name' left' x y named is same =
    sym (ap₂ (pointwise nat_eq) named is ∙ ap (λ b. b && pointwise nat_eq name' left') (eq-eqb x y same))

-- they differ
pub next_differs : (name left name' left' : List ℕ) (x y : ℕ) → name ≡ x ∷ name' → left ≡ y ∷ left' → (x ≡ y → ⊥)
    → false ≡ pointwise nat_eq name left
next_differs name left name' left' x y named is other =
    sym (ap₂ (pointwise nat_eq) named is ∙ ap (λ b. b && pointwise nat_eq name' left') (ne_eqb x y other))

-- the name has ended, and the text hasn't
pub name_ended : (name left left' : List ℕ) (y : ℕ) → length name ≡ 0 → left ≡ y ∷ left' → false ≡ pointwise nat_eq name left
name_ended name left left' y ended is = sym (ap₂ (pointwise nat_eq) (nil_from_length name ended) is)

-- the text has ended
pub text_ended : (name left : List ℕ) → left ≡ [] → eqb (length name) 0 ≡ pointwise nat_eq name left
text_ended [] left is = sym (ap (pointwise nat_eq []) is)
text_ended (x ∷ name) left is = ne_eqb (length (x ∷ name)) 0 (λ e. omega arith) ∙ sym (ap (pointwise nat_eq (x ∷ name)) is)
