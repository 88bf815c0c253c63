-- Which part of a text is shown.
use Rattle.std.proofs.Common.{ℕ, ◌≡◌, ◌+◌, ◌-◌, ◌<◌, ◌≤◌, ◌⊎◌, inl, inr, min, Bool, true, false, IsTrue, List, [], ◌∷◌, ◌++◌, length, take, drop, sum_by}
use Rattle.std.proofs.Common.{refl, sym, ap, ◌∙◌, arith, append_assoc, length-append, ⊎_elim}
use Rattle.std.proofs.lemmas.{List.take_at, List.drop_at, List.take-take, List.drop-drop, List.take-append-drop}
use Rattle.std.proofs.lemmas.{Bool.cases_lt, List.Folds.concat-append, List.Sums.sum_by-append, List.Sums.sum_by-cons}
use Rattle.std.specs.List.{concat}
use Rattle.unicode_segmentation.specs.Grapheme.{graphemes}
use Rattle.ratatui_core.specs.Buffer.{text_width}
use Rattle.widget_field.specs.Views.{byte_of, columns_after, IsView}

-- an earlier grapheme begins no later
pub byte_of-le : (gs : List (List ℕ)) (k m : ℕ) → k ≤ m → byte_of gs k ≤ byte_of gs m
byte_of-le gs k m le =
    let w : List (List ℕ) = take m gs in
    let parts : length (concat (take k w ++ drop k w)) ≡ length (concat w) = ap (λ x. length (concat x)) (take-append-drop k w) in
    let both : length (concat (take k w ++ drop k w)) ≡ length (concat (take k w) ++ concat (drop k w)) =
    ap length (concat-append (take k w) (drop k w)) in
    let front : length (concat (take k w)) ≡ byte_of gs k = ap (λ x. length (concat x)) (take-take k m gs le) in
    omega (arith, parts, both, front, length-append (concat (take k w)) (concat (drop k w)))

-- and there are no fewer columns from it on
pub columns_from-le : (gs : List (List ℕ)) (k m : ℕ) → k ≤ m → columns_after gs m ≤ columns_after gs k
columns_from-le gs k m le =
    let w : List (List ℕ) = drop k gs in
    let n : ℕ = m - k in
    let behind : sum_by text_width (drop n w) ≡ columns_after gs m =
    ap (sum_by text_width) (drop-drop n k gs) ∙ ap (λ i. columns_after gs i) (omega (arith, le)) in
    let parts : sum_by text_width (take n w ++ drop n w) ≡ sum_by text_width w = ap (sum_by text_width) (take-append-drop n w) in
    omega (arith, behind, parts, sum_by-append text_width (take n w) (drop n w))

-- a view of the graphemes that were kept
pub view-of : (room behind first start : ℕ) (text : List ℕ) (left kept : List (List ℕ)) → left ++ kept ≡ graphemes true text
    → start ≡ length (concat left) → sum_by text_width kept ≤ room
    → (first ≤ start) ⊎ ((kept ≡ []) ⊎ (sum_by text_width kept + behind ≤ room))
    → ((k : ℕ) → k < length left → (room < columns_after (graphemes true text) k)
    ⊎ ((byte_of (graphemes true text) k < first) × (room < columns_after (graphemes true text) k + behind)))
    → IsView room behind text first start
view-of room behind first start text left kept all is fits stays least =
    let n : ℕ = length left in
    let front : take n (graphemes true text) ≡ left = ap (take n) (sym all) ∙ take_at left kept n refl in
    let rest : drop n (graphemes true text) ≡ kept = ap (drop n) (sym all) ∙ drop_at left kept n refl in
    let size : n + length kept ≡ length (graphemes true text) = sym (length-append left kept) ∙ ap length all in
    let columns : columns_after (graphemes true text) n ≡ sum_by text_width kept = ap (sum_by text_width) rest in
    record {
      count = n;
      within = omega (arith, size);
      begins = is ∙ sym (ap (λ w. length (concat w)) front);
      fits = omega (arith, columns, fits);
      stays = ⊎_elim (λ (from : first ≤ start). inl from)
          (λ more. ⊎_elim
          (λ (none : kept ≡ []). let zero_more : length kept ≡ 0 = ap length none in inr (inl (omega (arith, size, zero_more))))
          (λ (all_fit : sum_by text_width kept + behind ≤ room). inr (inr (omega (arith, columns, all_fit)))) more) stays;
      least = least;
    }

-- the columns that are used are those of what is kept
pub stays-by : (first start room behind used : ℕ) (kept : List (List ℕ)) → used ≡ sum_by text_width kept
    → (first ≤ start) ⊎ ((kept ≡ []) ⊎ (used + behind ≤ room))
    → (first ≤ start) ⊎ ((kept ≡ []) ⊎ (sum_by text_width kept + behind ≤ room))
stays-by first start room behind used kept is stays =
    ⊎_elim (λ from. inl from) (λ more. ⊎_elim (λ none. inr (inl none)) (λ fits. inr (inr (omega (arith, is, fits)))) more) stays

not-both : {P : Type 0} (r : Bool) → r ≡ true → r ≡ false → P
not-both r is isnt = cc

-- one grapheme more is kept
pub stays-next : (first at room behind used columns : ℕ) (r : Bool) (g : List ℕ) (kept : List (List ℕ))
    → (first ≤ at) ⊎ ((behind ≤ room - used - columns) ⊎ IsTrue r) → r ≡ false → columns ≤ room - used → used ≤ room
    → (first ≤ at) ⊎ ((g ∷ kept ≡ []) ⊎ (used + columns + behind ≤ room))
stays-next first at room behind used columns r g kept shown isnt fits within =
    ⊎_elim (λ (from : first ≤ at). inl from)
    (λ (more : (behind ≤ room - used - columns) ⊎ IsTrue r). ⊎_elim
    (λ (le : behind ≤ room - used - columns). inr (inr (omega (arith, le, fits, within))))
    (λ (is : IsTrue r). not-both r is isnt) more) shown

-- the next grapheme to the left does not fit, or stays hidden
pub view-stopped : (room behind first start : ℕ) (text g : List ℕ) (left rest kept : List (List ℕ)) → left ≡ rest ++ g ∷ []
    → left ++ kept ≡ graphemes true text → start ≡ length (concat left) → sum_by text_width kept ≤ room
    → (first ≤ start) ⊎ ((kept ≡ []) ⊎ (sum_by text_width kept + behind ≤ room))
    → (room < text_width g + sum_by text_width kept)
    ⊎ ((length (concat rest) < first) × (room < text_width g + sum_by text_width kept + behind))
    → IsView room behind text first start
view-stopped room behind first start text g left rest kept last all is fits stays stop =
    let gs : List (List ℕ) = graphemes true text in
    let n : ℕ = length rest in
    let whole : gs ≡ rest ++ (g ∷ kept) = sym all ∙ ap (λ w. w ++ kept) last ∙ append_assoc rest (g ∷ []) kept in
    let size : length left ≡ n + 1 = ap length last ∙ length-append rest (g ∷ []) in
    let front : byte_of gs n ≡ length (concat rest) =
    ap (λ w. length (concat (take n w))) whole ∙ ap (λ w. length (concat w)) (take_at rest (g ∷ kept) n refl) in
    let columns : columns_after gs n ≡ text_width g + sum_by text_width kept =
    ap (λ w. sum_by text_width (drop n w)) whole ∙ ap (sum_by text_width) (drop_at rest (g ∷ kept) n refl)
    ∙ sum_by-cons text_width g kept in
    view-of room behind first start text left kept all is fits stays (λ k lt.
    let le : k ≤ n = omega (arith, lt, size) in
    let wider : columns_after gs n ≤ columns_after gs k = columns_from-le gs k n le in
    ⊎_elim (λ (wide : room < text_width g + sum_by text_width kept). inl (omega (arith, wide, columns, wider)))
    (λ off. inr (omega (arith, off.0, front, byte_of-le gs k n le), omega (arith, off.1, columns, wider))) stop)

-- all graphemes are kept
pub view-whole : (room behind first start : ℕ) (text : List ℕ) (left kept : List (List ℕ)) → left ≡ []
    → left ++ kept ≡ graphemes true text → start ≡ length (concat left) → sum_by text_width kept ≤ room
    → (first ≤ start) ⊎ ((kept ≡ []) ⊎ (sum_by text_width kept + behind ≤ room)) → IsView room behind text first start
view-whole room behind first start text left kept none all is fits stays =
    let size : length left ≡ 0 = ap length none in
    view-of room behind first start text left kept all is fits stays (λ k lt. absurd (omega (arith, lt, size)))

-- what is after is counted as far as it may matter
pub view-capped : (room behind most : ℕ) (text : List ℕ) (first start : ℕ) → room < most
    → IsView room (min behind most) text first start → IsView room behind text first start
view-capped room behind most text first start lt view = record {
  count = view.count;
  within = view.within;
  begins = view.begins;
  fits = view.fits;
  stays = ⊎_elim (λ from. inl from) (λ more. ⊎_elim (λ none. inr (inl none)) (λ all_fit. inr (inr (omega (arith, lt, all_fit)))) more)
      view.stays;
  least = λ k before. ⊎_elim (λ wide. inl wide) (λ off. inr (off.0, omega (arith, off.1))) (view.least k before);
}

pub kept-more : (left rest kept gs : List (List ℕ)) (g : List ℕ) → left ≡ rest ++ g ∷ [] → left ++ kept ≡ gs
    → rest ++ (g ∷ kept) ≡ gs
kept-more left rest kept gs g last all = sym (append_assoc rest (g ∷ []) kept) ∙ ap (λ w. w ++ kept) (sym last) ∙ all

-- a view that may stay does
pub view-stays : (room behind first start n : ℕ) (text : List ℕ) → IsView room behind text first start
    → n ≤ length (graphemes true text) → first ≡ byte_of (graphemes true text) n
    → columns_after (graphemes true text) n ≤ room
    → ((k : ℕ) → k < n → room < columns_after (graphemes true text) k + behind) → start ≡ first
view-stays room behind first start n text view within is fits full =
    let gs : List (List ℕ) = graphemes true text in
    let c : ℕ = view.count in
    let begins : start ≡ byte_of gs c = view.begins in
    let le : c ≤ n = ⊎_elim
    (λ (lt : n < c). ⊎_elim (λ (wide : room < columns_after gs n). absurd (omega (arith, wide, fits)))
    (λ off. absurd (omega (arith, off.0, is))) (view.least n lt))
    (λ (ge : c ≤ n). ge) (cases_lt n c) in
    let before : byte_of gs c ≤ byte_of gs n = byte_of-le gs c n le in
    let same : c ≡ n → start ≡ first = λ e. begins ∙ ap (byte_of gs) e ∙ sym is in
    ⊎_elim (λ (from : first ≤ start). omega (arith, from, is, begins, before))
    (λ more. ⊎_elim
    (λ (all : c ≡ length gs). same (omega (arith, all, within, le)))
    (λ (room_left : columns_after gs c + behind ≤ room). ⊎_elim
    (λ (lt : c < n). absurd (omega (arith, full c lt, room_left)))
    (λ (ge : n ≤ c). same (omega (arith, le, ge))) (cases_lt c n)) more) view.stays

-- what is before a view would not fit beside all that is after it
pub view-full : (room behind first start k : ℕ) (text : List ℕ) → IsView room behind text first start
    → byte_of (graphemes true text) k < start → room < columns_after (graphemes true text) k + behind
view-full room behind first start k text view before =
    let gs : List (List ℕ) = graphemes true text in
    let begins : start ≡ byte_of gs view.count = view.begins in
    ⊎_elim
    (λ (lt : k < view.count). ⊎_elim (λ (wide : room < columns_after gs k). omega (arith, wide)) (λ off. off.1) (view.least k lt))
    (λ (ge : view.count ≤ k). absurd (omega (arith, before, begins, byte_of-le gs view.count k ge))) (cases_lt k view.count)

-- of two views neither begins later
count-le : (room behind first a b : ℕ) (text : List ℕ) (v : IsView room behind text first a) (w : IsView room behind text first b)
    → w.count ≤ v.count
count-le room behind first a b text v w =
    let gs : List (List ℕ) = graphemes true text in
    let begins : a ≡ byte_of gs v.count = v.begins in
    let fits : columns_after gs v.count ≤ room = v.fits in
    let within : w.count ≤ length gs = w.within in
    ⊎_elim
    (λ (lt : v.count < w.count). ⊎_elim
    (λ (wide : room < columns_after gs v.count). absurd (omega (arith, wide, fits)))
    (λ off. ⊎_elim
    (λ (from : first ≤ a). absurd (omega (arith, from, begins, off.0)))
    (λ more. ⊎_elim
    (λ (all : v.count ≡ length gs). absurd (omega (arith, all, lt, within)))
    (λ (left : columns_after gs v.count + behind ≤ room). absurd (omega (arith, left, off.1))) more) v.stays)
    (w.least v.count lt))
    (λ (ge : w.count ≤ v.count). ge)
    (cases_lt v.count w.count)

-- there is one view
pub view-one : (room behind first a b : ℕ) (text : List ℕ) → IsView room behind text first a → IsView room behind text first b
    → a ≡ b
view-one room behind first a b text v w =
    let one : w.count ≤ v.count = count-le room behind first a b text v w in
    let other : v.count ≤ w.count = count-le room behind first b a text w v in
    v.begins ∙ ap (byte_of (graphemes true text)) (omega (arith, one, other)) ∙ sym w.begins

pub ruleset view_rules = (view-capped)
