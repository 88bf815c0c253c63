-- The selected item is one of those that are shown.
use Rattle.std.proofs.Common.{◌≡◌, ℕ, zero, suc, ◌+◌, ◌-◌, ◌<◌, ◌≤◌, ⊎_elim, min, List, [], ◌∷◌, length, Option, Some}
use Rattle.std.proofs.Common.{None, refl, sym, ap, ◌∙◌, arith}
use Rattle.std.proofs.lemmas.Bool.{cases_lt}
use Rattle.ratatui_core.specs.{Layout.Rect, Buffer.BufferData}
use Rattle.widget_list.specs.{declared.item.ListItem.ListItem, declared.list.List.List as ListData}
use Rattle.widget_list.specs.{declared.state.ListState.ListState}
use Rattle.widget_list.specs.Windows.{rows_before, Fit, IsCount, IsPadding, IsScrolled, first_kept, last_kept}
use Rattle.widget_list.specs.Windows.{last_item}
use Rattle.widget_list.specs.Items.{ShowsList, at_most}
use Rattle.widget_list.proofs.{WindowLemmas.rows-grow, SettledLemmas.begins-early, SettledLemmas.begins-over}

-- an item lies among others, which all fit
record IsAround (items : List ListItem) (height selected first last : ℕ) : Type 0 where
  before : first ≤ selected
  after : selected ≤ last
  inside : last < length items
  fits : Fit items height first (last + 1)

module _ (items : List ListItem) (height selected first last was begins : ℕ) (around : IsAround items height selected first last)
    (scrolled : IsScrolled items height first last was begins) where
  begins-before : begins ≤ selected
  begins-before =
      let before = around.before in
      let early = begins-early items height first last was begins (let after = around.after in omega arith) (λ _. around.fits) scrolled in
      omega arith

  fits-from : Fit items height begins (last + 1)
  fits-from =
      let before = around.before in let after = around.after in let fits = around.fits in
      let order : first ≤ last = omega arith in
      ⊎_elim
      (λ (over : rows_before items begins + height < rows_before items (last + 1)).
      let at = begins-over items height first last was begins order (λ _. fits) scrolled over in
      let grow = rows-grow items first begins (omega arith) in absurd (omega arith))
      (λ (fit : rows_before items (last + 1) ≤ rows_before items begins + height). fit)
      (cases_lt (rows_before items begins + height) (rows_before items (last + 1)))

  shown-from : (count : ℕ) → IsCount items height begins count → (begins ≤ selected) × (selected < begins + count)
  shown-from count is =
      let after = around.after in let inside = around.inside in let least = begins-before in let fits = fits-from in (
        least,
        ⊎_elim (λ (shown : selected < begins + count). shown)
            (λ (no : begins + count ≤ selected).
            let more = is.longest (omega arith) in let le = rows-grow items (begins + count + 1) (last + 1) (omega arith) in
            omega arith)
            (cases_lt selected (begins + count)),
      )

-- the items that are kept in view around the selected one, if that fits by itself
kept-around : (items : List ListItem) (height asked selected padding : ℕ) → selected < length items
    → Fit items height selected (selected + 1)
    → IsPadding items height asked selected padding → IsAround items height selected (first_kept selected padding)
    (last_kept items selected padding)
kept-around items height asked selected zero inside fit is =
    let last : min (selected + 0) (length items - 1) ≡ selected = omega arith in
    let first : selected - 0 ≡ selected = omega arith in
    record { before = omega arith; after = omega arith; inside = omega arith; fits = rw (first, last) fit }
kept-around items height asked selected (suc p) inside fit is =
    record { before = omega arith; after = omega arith; inside = omega arith; fits = is.fits (omega arith) }

-- a number cut to another one
cut-least : (last : ℕ) (o : Option ℕ) (n : ℕ) → at_most last o ≡ Some n → n ≤ last
cut-least last None n e = absurd (cc)
cut-least last (Some m) n e = let same : min m last ≡ n = cc in omega arith

shows-selected : (items : List ListItem) (l : ListData) (s t : ListState) (r : Rect) (old new : BufferData) (selected : ℕ)
    → l.items.items ≡ items
    → t.selected ≡ Some selected → 0 < length l.items.items → Fit l.items.items r.height selected (selected + 1)
    → (shows : ShowsList l s t r old new)
    → (t.offset ≤ selected) × (selected < t.offset + shows.count)
shows-selected items l s t r old new selected same chosen some fit shows =
    let least = cut-least (last_item l.items.items) s.selected selected (sym (shows.state.selected some) ∙ chosen) in
    let keeps = rw chosen at (shows.state.offset some) in
    let around = kept-around l.items.items r.height l.scroll_padding selected keeps.padding (omega arith) fit keeps.is_padding in
    shown-from l.items.items r.height selected _ _ _ t.offset around keeps.scrolled shows.count shows.is_count

-- the selected item is shown, if it fits
pub selected-shown : (l : ListData) (s t : ListState) (r : Rect) (old new : BufferData) (selected : ℕ)
    → t.selected ≡ Some selected
    → Fit l.items.items r.height selected (selected + 1) → (shows : ShowsList l s t r old new)
    → (t.offset ≤ selected) × (selected < t.offset + shows.count)
selected-shown l s t r old new selected chosen fit shows = by-items l.items.items refl
  where
    by-items : (items : List ListItem) → l.items.items ≡ items → (t.offset ≤ selected) × (selected < t.offset + shows.count)
    by-items [] same =
        let none : t.selected ≡ None = ap (λ (x : ListState). x.selected) (shows.state.no_items same) in
        let no : Some selected ≡ None = sym chosen ∙ none in absurd (cc)
    by-items (item ∷ items) same =
        shows-selected (item ∷ items) l s t r old new selected same chosen
        (let more : length l.items.items ≡ suc (length items) = ap length same in omega arith) fit shows
