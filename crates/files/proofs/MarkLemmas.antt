-- Marks are of entries that are listed.
use Rattle.std.proofs.Common.{◌≡◌, ⊎_elim, ℕ, zero, suc, ◌+◌, ◌-◌, ◌<◌, Bool, true, false, not, if◌then◌else◌, arith}
use Rattle.std.proofs.Common.{List, [], ◌∷◌, ◌++◌, length, take, Option, Some, None, min, refl, sym, ap, ◌∙◌, subst}
use Rattle.std.specs.Prelude.{slice_get, string_bytes, filter, option_to_list, get_or}
use Rattle.std.specs.{List.list_any, List.position_from, List.All, List.filter_map, List.cons_option, Str.bytes_eq}
use Rattle.std.specs.Option.{option_map_or, option_and_then}
use Rattle.std.proofs.lemmas.Bool.{cases_Bool}
use Rattle.std.proofs.lemmas.{Slice.Eq.bytes_eq-Decides}
use Rattle.std.proofs.lemmas.List.Elements.{All-nil, All-head, All-push, All-filter, All-weaker, filter_passes, filter_map-append}
use Rattle.std.proofs.lemmas.List.{take_more}
use Rattle.files.specs.declared.list.Row.{Row}
use Rattle.files.specs.declared.list.Listing.{Listing as ListingData}
use Rattle.files.specs.declared.marks.Mark.{Mark}
use Rattle.files.specs.declared.browser.Browser.{Browser}
use Rattle.files.specs.Sorting.{HasName}
use Rattle.files.specs.Texts.{selected_text}
use Rattle.files.specs.Marks.{is_mark_named, is_row_named, row_mark, mark_turned, marks_turned, has_row_named, marks_left}
use Rattle.files.specs.Marks.{mark_place, first_mark_place, IsMarkListed, AreMarksListed}
use Rattle.files.specs.Moves.{selected_at, found_selected, first_mark_selected}
use Rattle.files.proofs.StayLemmas.{text-by, within-by}

pub marks-kept : (b c : Browser) → c.list ≡ b.list → c.marks ≡ b.marks → AreMarksListed b → AreMarksListed c
marks-kept b c list marks all = rw list (rw marks all)

all-if : (P : Mark → Type 0) (test : Bool) (one two : List Mark) → All P one → All P two → All P (if test then one else two)
all-if P true one two a b = a
all-if P false one two a b = b

-- ---- a mark more, or less

turned-by : (b : Browser) (o : Option Row) → slice_get b.list b.selected ≡ o → AreMarksListed b
    → All (IsMarkListed b.list) (option_map_or (λ row. mark_turned (row_mark row) b.marks) o b.marks)
turned-by b None is all = all
turned-by b (Some row) is all =
    let there : HasName (string_bytes row.name) (slice_get b.list b.selected) = rw is refl in
    all-if (IsMarkListed b.list) (list_any (is_mark_named (string_bytes row.name)) b.marks) _ _
    (All-filter (λ mark. not (is_mark_named (string_bytes row.name) mark)) (IsMarkListed b.list) b.marks all)
    (All-push (IsMarkListed b.list) b.marks (row_mark row) all (b.selected, there))

pub turned-listed : (b : Browser) → AreMarksListed b → All (IsMarkListed b.list) (marks_turned b)
turned-listed b all = turned-by b (slice_get b.list b.selected) refl all

any-listed : (rows : List Row) (mark : Mark) → has_row_named rows mark ≡ true → IsMarkListed rows mark
any-listed [] mark is = absurd (cc)
any-listed (row ∷ rows) mark is = ⊎_elim
    (λ (here : is_row_named mark.name row ≡ true). (0, (bytes_eq-Decides (string_bytes row.name) mark.name).0 here))
    (λ (other : is_row_named mark.name row ≡ false).
    let later = any-listed rows mark (rw other at is) in (suc later.0, later.1))
    (cases_Bool (is_row_named mark.name row))

pub left-listed : (l : ListingData) (b : Browser) → All (IsMarkListed l.rows) (marks_left l b)
left-listed l b = all-if (IsMarkListed l.rows) (bytes_eq l.folder b.folder) _ []
    (All-weaker (λ mark. has_row_named l.rows mark ≡ true) (IsMarkListed l.rows) (any-listed l.rows)
    (filter (has_row_named l.rows) b.marks) (filter_passes (has_row_named l.rows) b.marks))
    (All-nil (IsMarkListed l.rows))

-- ---- the entry that was marked first

found-place : (name : List ℕ) (rows : List Row) (i k : ℕ) → HasName name (slice_get rows k)
    → (n : ℕ) × (position_from (is_row_named name) i rows ≡ Some (i + n)) × HasName name (slice_get rows n)
found-place name [] i k has = absurd has
found-place name (row ∷ rows) i zero has =
    let here : is_row_named name row ≡ true = (bytes_eq-Decides (string_bytes row.name) name).1 has in
    (0, rw here (ap Some (omega arith)), has)
found-place name (row ∷ rows) i (suc k) has = ⊎_elim
    (λ (here : is_row_named name row ≡ true).
    (0, rw here (ap Some (omega arith)), (bytes_eq-Decides (string_bytes row.name) name).0 here))
    (λ (other : is_row_named name row ≡ false).
    let later = found-place name rows (i + 1) k has in (suc later.0, rw other (later.1 ∙ ap Some (omega arith)), later.2))
    (cases_Bool (is_row_named name row))

text-there : (b : Browser) (name : List ℕ) (n : ℕ) → HasName name (slice_get b.list n) → selected_text (selected_at n b) ≡ name
text-there b name n has =
    let within = within-by name b.list n (slice_get b.list n) refl has in
    let same : min n (length b.list - 1) ≡ n = omega arith in
    ap (λ p. option_map_or (λ row. string_bytes row.name) (slice_get b.list p) []) same ∙ text-by name (slice_get b.list n) has

pub first-selected : (b : Browser) (mark : Mark) → IsMarkListed b.list mark → slice_get b.marks 0 ≡ Some mark
    → selected_text (first_mark_selected b) ≡ mark.name
first-selected b mark listed is =
    let found = found-place mark.name b.list 0 listed.0 listed.1 in
    let place : first_mark_place b ≡ Some found.0 =
    ap (option_and_then (mark_place b.list)) is ∙ found.1 ∙ ap Some (omega arith) in
    ap (λ o. selected_text (found_selected o b)) place ∙ text-there b mark.name found.0 found.2

pub head-of : (P : Mark → Type 0) (marks : List Mark) (mark : Mark) → All P marks → slice_get marks 0 ≡ Some mark → P mark
head-of P [] mark all is = absurd (cc)
head-of P (first ∷ marks) mark all is = let same : first ≡ mark = cc in subst P same (All-head P first marks all)

pub some-listed : (rows : List Row) (mark : Mark) → IsMarkListed rows mark → 0 < length rows
some-listed [] mark listed = absurd listed.1
some-listed (row ∷ rows) mark listed = omega arith

-- ---- what is noted of marks

cons-one : {X : Type 0} (o : Option X) → cons_option o [] ≡ option_to_list o
cons-one None = refl
cons-one (Some x) = refl

filter_map-more : {X Y : Type 0} (f : X → Option Y) (xs : List X) (i : ℕ) (d : X) → i < length xs
    → filter_map f (take (i + 1) xs) ≡ filter_map f (take i xs) ++ option_to_list (f (get_or xs i d))
filter_map-more f xs i d within =
    ap (filter_map f) (take_more xs i d within) ∙ filter_map-append f (take i xs) (get_or xs i d ∷ [])
    ∙ ap (λ ys. filter_map f (take i xs) ++ ys) (cons-one (f (get_or xs i d)))

pub filter_map-step : {X Y : Type 0} (f : X → Option Y) (xs : List X) (i : ℕ) (x : X) (taken : Option Y) (ys new : List Y)
    → i < length xs → x ≡ get_or xs i x → ys ≡ filter_map f (take i xs) → taken ≡ f x → new ≡ ys ++ option_to_list taken
    → new ≡ filter_map f (take (i + 1) xs)
filter_map-step f xs i x taken ys new within at before is adds =
    adds ∙ ap (λ front. front ++ option_to_list taken) before ∙ ap (λ o. filter_map f (take i xs) ++ option_to_list o) is
    ∙ ap (λ y. filter_map f (take i xs) ++ option_to_list (f y)) at ∙ sym (filter_map-more f xs i x within)
