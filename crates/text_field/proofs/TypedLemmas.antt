-- What a field takes of a text.
use Rattle.std.proofs.Common.{ℕ, ◌≡◌, ◌≤◌, Bool, true, false, cond, ◌&&◌, List, [], ◌∷◌, ◌++◌, length, take, filter}
use Rattle.std.proofs.Common.{chars, encode_utf8_all, refl, sym, ap, subst, ◌∙◌, arith, Option, Result, Ok, Err, OnOk}
use Rattle.std.specs.declared.alloc.AllocError.{AllocError}
use Rattle.std.proofs.lemmas.{List.take_all, List.take-append-drop, Str.encodes-chars, Str.length-le-encodes}
use Rattle.std.specs.{List.list_all, Str.IsUtf8}
use Rattle.text_field.specs.{Field.FieldData, Field.field_text, Field.is_typed, Field.allowed, Field.accepted, Field.typing, Field.cleared, Field.field_at, Inner.typed_front}
use Rattle.text_field.proofs.ListLemmas.{length-filter_le}

passing-cases : (p : ℕ → Bool) (b : Bool) (x : ℕ) (xs : List ℕ) → (b && list_all p xs) ≡ true
    → (list_all p xs ≡ true → filter p xs ≡ xs) → cond b (x ∷ filter p xs) (filter p xs) ≡ x ∷ xs
passing-cases p true x xs all rest = ap (λ ys. x ∷ ys) (rest all)
passing-cases p false x xs all rest = cc

pub filter-passing : (p : ℕ → Bool) (xs : List ℕ) → list_all p xs ≡ true → filter p xs ≡ xs
filter-passing p [] all = refl
filter-passing p (x ∷ xs) all = passing-cases p (p x) x xs all (filter-passing p xs)

-- a text without control characters that has no more characters than there is room for
pub typed_front-whole : (n : ℕ) (text : List ℕ) → IsUtf8 text → length (chars text) ≤ n
    → list_all is_typed (chars text) ≡ true → typed_front n text ≡ text
typed_front-whole n text utf8 le all =
    ap (λ cs. encode_utf8_all (take n cs)) (filter-passing is_typed (chars text) all)
    ∙ ap encode_utf8_all (take_all n (chars text) le) ∙ encodes-chars text utf8

pub length-chars : (text : List ℕ) → IsUtf8 text → length (chars text) ≤ length text
length-chars text utf8 = omega (arith, length-le-encodes (chars text), ap length (encodes-chars text utf8))

-- what is taken, if it is known how many of the characters are allowed
pub accepted-front : (f : FieldData) (text whole : List ℕ) (room : ℕ) → IsUtf8 text → field_text f ≡ whole
    → ((cs : List ℕ) → length cs ≤ length text → allowed f.limit (length (chars whole)) cs ≡ take room cs)
    → accepted f text ≡ typed_front room text
accepted-front f text whole room utf8 is room_is =
    ap (λ w. encode_utf8_all (allowed f.limit (length (chars w)) (filter is_typed (chars text)))) is
    ∙ ap encode_utf8_all (room_is (filter is_typed (chars text))
    (omega (arith, length-filter_le is_typed (chars text), length-chars text utf8)))

-- the same of a field that is seen by its text and its cursor
pub accepted-by : (f : FieldData) (text shown bytes : List ℕ) (at : ℕ) (k : List ℕ) (l : Option ℕ) (first : ℕ)
    (place : Option (ℕ × ℕ)) (room : ℕ) → IsUtf8 text → shown ≡ bytes → field_at bytes at k l first place ≡ f
    → ((cs : List ℕ) → length cs ≤ length text → allowed l (length (chars shown)) cs ≡ take room cs)
    → accepted f text ≡ typed_front room text
accepted-by f text shown bytes at k l first place room utf8 same view room_is =
    subst (λ g. accepted g text ≡ typed_front room text) view
    (accepted-front (field_at bytes at k l first place) text shown room utf8 (take-append-drop at bytes ∙ sym same) room_is)

-- a piece that was put is what was typed
pub put-typed : {A : Type 0} (r : Result A AllocError) (f g : FieldData) (text piece : List ℕ) → accepted f text ≡ piece
    → OnOk r (g ≡ (let h : FieldData = record f { before = f.before ++ piece } in h)) → OnOk r (g ≡ typing text f)
put-typed (Ok x) f g text piece taken is =
    is ∙ ap (λ w. let h : FieldData = record f { before = f.before ++ w } in h) (sym taken)
put-typed (Err e) f g text piece taken is = tt

-- what is taken by a field that was cleared
pub accepted-cleared : (f : FieldData) (text bytes : List ℕ) (at : ℕ) (k : List ℕ) (l : Option ℕ) (first : ℕ)
    (place : Option (ℕ × ℕ)) (room : ℕ) → IsUtf8 text → field_at bytes at k l first place ≡ f
    → ((cs : List ℕ) → length cs ≤ length text → allowed l (length (chars [])) cs ≡ take room cs)
    → accepted (cleared f) text ≡ typed_front room text
accepted-cleared f text bytes at k l first place room utf8 view room_is =
    subst (λ g. accepted (cleared g) text ≡ typed_front room text) view
    (accepted-front (cleared (field_at bytes at k l first place)) text [] room utf8 refl room_is)
