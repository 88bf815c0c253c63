-- Rows of entries.
use Rattle.std.proofs.Common.{◌≡◌, inl, inr, ◌∙◌, ℕ, ◌<◌, ◌≤◌, Bool, true, false, List, [], ◌∷◌, ◌++◌, length, filter}
use Rattle.std.proofs.Common.{Option, Some, None, subst, sym, refl, arith, get_or}
use Rattle.std.specs.Prelude.{slice_get, string_bytes}
use Rattle.std.specs.Str.{bytes_eq}
use Rattle.std.specs.List.{AllZip}
use Rattle.std.proofs.lemmas.{List.Elements.filter-append, List.append-nil, Slice.Eq.bytes_eq-Decides}
use Rattle.std.proofs.lemmas.{Option.slice_get_read, Option.slice_get_within}
use Rattle.ratatui_files.specs.declared.answer.Info.{Info}
use Rattle.files.specs.declared.list.Row.{Row}
use Rattle.files.specs.Sorting.{IsRowFor, is_listed, AreRowsFor, AddsBy, AddsIf, HasName, IsPlaceOf}

pub adds-row : (hidden : Bool) (info : Info) (row : Row) (old new : List Row) → is_listed hidden info.name ≡ true → IsRowFor info row
    → new ≡ old ++ row ∷ [] → AddsIf hidden info old new
adds-row hidden info row old new is of made =
    subst (λ b. AddsBy b info old new) (sym is) (row, of, made)

pub adds-none : (hidden : Bool) (info : Info) (old new : List Row) → is_listed hidden info.name ≡ false → new ≡ old
    → AddsIf hidden info old new
adds-none hidden info old new is same = subst (λ b. AddsBy b info old new) (sym is) same

zip-push : {A B : Type 0} (R : A → B → Type 0) (xs : List A) (ys : List B) (x : A) (y : B) → AllZip R xs ys → R x y
    → AllZip R (xs ++ x ∷ []) (ys ++ y ∷ [])
zip-push R [] [] x y all here = (here, tt)
zip-push R [] (z ∷ ys) x y all here = absurd all
zip-push R (z ∷ xs) [] x y all here = absurd all
zip-push R (z ∷ xs) (w ∷ ys) x y all here = (all.0, zip-push R xs ys x y all.1 here)

step-by : (test : Bool) (info : Info) (xs : List Info) (rows new : List Row) → AllZip IsRowFor xs rows → AddsBy test info rows new
    → AllZip IsRowFor (xs ++ filter (λ _. test) (info ∷ [])) new
step-by true info xs rows new all adds =
    subst (λ ys. AllZip IsRowFor (xs ++ info ∷ []) ys) (sym adds.2) (zip-push IsRowFor xs rows info adds.0 all adds.1)
step-by false info xs rows new all adds =
    subst (λ ys. AllZip IsRowFor (xs ++ []) ys) (sym adds) (subst (λ ys. AllZip IsRowFor ys rows) (sym (append-nil xs)) all)

pub rows-step : (hidden : Bool) (xs : List Info) (info : Info) (rows new : List Row) → AreRowsFor hidden xs rows
    → AddsIf hidden info rows new → AreRowsFor hidden (xs ++ info ∷ []) new
rows-step hidden xs info rows new all adds =
    subst (λ ys. AllZip IsRowFor ys new) (sym (filter-append (λ i. is_listed hidden i.name) xs (info ∷ [])))
    (step-by (is_listed hidden info.name) info (filter (λ i. is_listed hidden i.name) xs) rows new all adds)

-- ---- the row of a name

row-at : (rows : List Row) (k : ℕ) (row : Row) → k < length rows → row ≡ get_or rows k row → slice_get rows k ≡ Some row
row-at rows k row more is = slice_get_read rows (length rows) k row refl more is

pub found-row : (name text : List ℕ) (other : ℕ) (rows : List Row) (k : ℕ) (row : Row) → k < length rows
    → row ≡ get_or rows k row → text ≡ string_bytes row.name → bytes_eq text name ≡ true → IsPlaceOf name other rows k
found-row name text other rows k row more is text_is same =
    inl (rw (row-at rows k row more is) (sym text_is ∙ (bytes_eq-Decides text name).0 same))

pub further-row : (name text : List ℕ) (rows : List Row) (k : ℕ) (row : Row) → k < length rows
    → row ≡ get_or rows k row → text ≡ string_bytes row.name → bytes_eq text name ≡ false
    → HasName name (slice_get rows k) → ⊥
further-row name text rows k row more is text_is differs has =
    let same : string_bytes row.name ≡ name = subst (λ o. HasName name o) (row-at rows k row more is) has in
    let true_is : bytes_eq text name ≡ true = (bytes_eq-Decides text name).1 (text_is ∙ same) in
    let bad : true ≡ false = sym true_is ∙ differs in absurd (cc)

named-by : (o : Option Row) (name : List ℕ) → HasName name o → (row : Row) × (o ≡ Some row)
named-by None name has = absurd has
named-by (Some row) name has = (row, refl)

pub no-row : (name : List ℕ) (other : ℕ) (rows : List Row) (n : ℕ) → length rows ≤ n
    → ((k : ℕ) → k < n → HasName name (slice_get rows k) → ⊥) → IsPlaceOf name other rows other
no-row name other rows n all none = inr (
  refl,
  λ k has.
      let at = named-by (slice_get rows k) name has in
      let within = slice_get_within rows k at.0 at.1 in none k (omega arith) has,
)
