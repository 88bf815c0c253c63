-- What the laws of fields say, over plain lists.
use Rattle.std.proofs.Common.{ℕ, ◌≡◌, ◌-◌, ◌≤◌, true, List, ◌++◌, length, take, drop, filter, chars, encode_utf8_all}
use Rattle.std.proofs.Common.{refl, sym, ap, ◌∙◌, arith, append_assoc, Some, length-append}
use Rattle.std.proofs.lemmas.{List.take_at, List.take-append-drop, List.append-nil, List.length-take, Str.encodes-chars}
use Rattle.std.proofs.Common.{Bool, false, Option, None, [], ◌∷◌, cond, zero, suc}
use Rattle.std.proofs.lemmas.Bool.{and_parts, and_from}
use Rattle.std.specs.{List.list_all, Str.IsUtf8}
use Rattle.text_field.specs.Field.{FieldData, field_text, is_typed, allowed, accepted, typing, moved_left, moved_right, cut_left, cut_right}
use Rattle.text_field.specs.Field.{part_left, part_right, keeping, new_field}
use Rattle.text_field.proofs.TypedLemmas.{filter-passing}

pub text-left : (f : FieldData) (n : ℕ) → field_text (moved_left n f) ≡ field_text f
text-left f n =
    let at : ℕ = length f.before - n in
    sym (append_assoc (take at f.before) (drop at f.before) f.after) ∙ ap (λ w. w ++ f.after) (take-append-drop at f.before)

pub text-right : (f : FieldData) (n : ℕ) → field_text (moved_right n f) ≡ field_text f
text-right f n = append_assoc f.before (take n f.after) (drop n f.after)
    ∙ ap (λ w. f.before ++ w) (take-append-drop n f.after)

-- the front of a list with something after it
pub front-again : (xs ys : List ℕ) → take (length (xs ++ ys) - length ys) (xs ++ ys) ≡ xs
front-again xs ys =
    let size : length (xs ++ ys) - length ys ≡ length xs = omega (arith, length-append xs ys) in
    ap (λ m. take m (xs ++ ys)) size ∙ take_at xs ys (length xs) refl

pub typed-undone : (f : FieldData) (text : List ℕ) → cut_left (length (accepted f text)) (typing text f) ≡ f
typed-undone f text = ap (λ w. let g : FieldData = record f { before = w } in g) (front-again f.before (accepted f text))

pub typed-undone_by : (f : FieldData) (text : List ℕ) (n : ℕ) → n ≡ length (accepted f text)
    → cut_left n (typing text f) ≡ f
typed-undone_by f text n is = ap (λ m. cut_left m (typing text f)) is ∙ typed-undone f text

pub typed-whole : (text : List ℕ) → IsUtf8 text → list_all is_typed (chars text) ≡ true
    → field_text (typing text new_field) ≡ text
typed-whole text utf8 all =
    append-nil (accepted new_field text) ∙ ap encode_utf8_all (filter-passing is_typed (chars text) all)
    ∙ encodes-chars text utf8

pub limit-kept : (f : FieldData) (text : List ℕ) (limit : ℕ) → f.limit ≡ Some limit
    → (cs : List ℕ) × (accepted f text ≡ encode_utf8_all cs) × (length cs ≤ limit - length (chars (field_text f)))
limit-kept f text limit is =
    let cs : List ℕ = take (limit - length (chars (field_text f))) (filter is_typed (chars text)) in (
      cs,
      ap (λ l. encode_utf8_all (allowed l (length (chars (field_text f))) (filter is_typed (chars text)))) is,
      omega (arith, length-take (limit - length (chars (field_text f))) (filter is_typed (chars text))),
    )

pub yanked-left : (f : FieldData) (n : ℕ)
    → accepted (cut_left n (keeping (part_left n f) f)) (part_left n f) ≡ part_left n f
    → field_text (typing (part_left n f) (cut_left n (keeping (part_left n f) f))) ≡ field_text f
yanked-left f n whole =
    let at : ℕ = length f.before - n in
    ap (λ w. (take at f.before ++ w) ++ f.after) whole ∙ ap (λ w. w ++ f.after) (take-append-drop at f.before)

pub yanked-right : (f : FieldData) (n : ℕ)
    → accepted (cut_right n (keeping (part_right n f) f)) (part_right n f) ≡ part_right n f
    → field_text (typing (part_right n f) (cut_right n (keeping (part_right n f) f))) ≡ field_text f
yanked-right f n whole =
    ap (λ w. (f.before ++ w) ++ drop n f.after) whole ∙ text-right f n

-- those that pass a test pass it
filter-cases : (p : ℕ → Bool) (b : Bool) (x : ℕ) (ys : List ℕ) → p x ≡ b → list_all p ys ≡ true
    → list_all p (cond b (x ∷ ys) ys) ≡ true
filter-cases p true x ys is all = and_from (p x) (list_all p ys) is all
filter-cases p false x ys is all = all

all-filter : (p : ℕ → Bool) (xs : List ℕ) → list_all p (filter p xs) ≡ true
all-filter p [] = refl
all-filter p (x ∷ xs) = filter-cases p (p x) x (filter p xs) refl (all-filter p xs)

all-take : (p : ℕ → Bool) (n : ℕ) (xs : List ℕ) → list_all p xs ≡ true → list_all p (take n xs) ≡ true
all-take p zero xs all = refl
all-take p (suc n) [] all = refl
all-take p (suc n) (x ∷ xs) all =
    let both = and_parts (p x) (list_all p xs) all in
    and_from (p x) (list_all p (take n xs)) both.0 (all-take p n xs both.1)

all-allowed : (limit : Option ℕ) (used : ℕ) (cs : List ℕ) → list_all is_typed cs ≡ true
    → list_all is_typed (allowed limit used cs) ≡ true
all-allowed None used cs all = all
all-allowed (Some limit) used cs all = all-take is_typed (limit - used) cs all

pub typed-plain : (f : FieldData) (text : List ℕ)
    → (cs : List ℕ) × (accepted f text ≡ encode_utf8_all cs) × (list_all is_typed cs ≡ true)
typed-plain f text = (
  allowed f.limit (length (chars (field_text f))) (filter is_typed (chars text)),
  refl,
  all-allowed f.limit (length (chars (field_text f))) (filter is_typed (chars text)) (all-filter is_typed (chars text)),
)
