-- Texts painted in rows, and what may be painted after them.
use Rattle.std.proofs.Common.{◌≡◌, ℕ, ◌+◌, ◌<◌, ◌≤◌, List, Result, Ok, Err, OnOk, OnErr}
use Rattle.std.proofs.Common.{Bool, true, false, not, ◌&&◌, ◌==◌, ◌-◌, nat_lt, sym, ap, ◌∙◌, subst, refl, arith, add-one, inl}
use Rattle.std.specs.{declared.alloc.AllocError.AllocError}
use Rattle.ratatui_core.specs.{Layout.Rect, Layout.IsInside, Style.Style, Widgets.ChangesWithin}
use Rattle.ratatui_core.specs.{Widgets.IsClipped}
use Rattle.ratatui_core.specs.Buffer.{BufferData, IsReadyAt, IsReadyFrom, PaintsPieces, pieces_at, room_at}
use Rattle.ratatui_core.specs.Buffer.{text_pieces, position_of}
use Rattle.ratatui_core.proofs.{BufferLemmas.within-wider, BufferLemmas.ready-row}
use Rattle.ratatui_core.proofs.{BufferLemmas.ready-plain, WidgetLemmas.OnPart-clipped}
use Rattle.widget_boxes.specs.Boxes.{IsBoxArea}
use Rattle.widget_boxes.proofs.PaintLemmas.{part-has_row, part-right, room-is}
use Rattle.files.specs.declared.browser.Browser.{Browser}
use Rattle.std.specs.Prelude.{nat_le}
use Rattle.std.proofs.lemmas.Bool.Decides.{nat_tests}
use Rattle.files.specs.Columns.{shows_entries, is_parted}
use Rattle.files.specs.Pages.{PaintsAbove, PaintsFolder, PaintsAhead, PaintsColumns, PaintsRowIf}
use Rattle.files.specs.Pages.{PaintsListRow, PaintsFirstRows, PaintsAllRows, PaintsBrowser}

-- a text painted in columns that its row has
pub text-painted : (x y m n : ℕ) (style : Style) (text : List ℕ) (old new : BufferData) → m ≡ n
    → x + n ≤ old.area.x + old.area.width → n ≤ 65535
    → PaintsPieces (position_of (x, y)) (pieces_at old.area x m style text) old new
    → PaintsPieces (position_of (x, y)) (text_pieces n style text) old new
text-painted x y m n style text old new same fits small paints =
    subst (λ k. PaintsPieces (position_of (x, y)) (text_pieces k style text) old new) (ap (room_at old.area x) same
    ∙ room-is old.area x n fits small) paints

-- a row may be painted from its first column on
pub part-ready : (part : Rect) (y : ℕ) (s : BufferData) → IsBoxArea part → IsInside part s.area → part.y ≤ y
    → y < part.y + part.height → IsReadyFrom y s → IsReadyAt part.x y s
part-ready part y s box inside top bottom ready =
    let right = part-right part s.area part.x 0 box inside (omega arith) in
    ready-row part.x y s ready (part-has_row part s.area y box inside top bottom) (omega arith)

-- where a row is painted, what is below it may be painted
pub ready-below : (x y : ℕ) (s : BufferData) → IsReadyAt x y s → IsReadyFrom (y + 1) s
ready-below x y s ready = record {
  edges = ready.edges;
  settled = ready.settled;
  plain = λ p has below. ready.plain p has (inl (omega arith));
}

-- a text in a row leaves the columns after it ready
pub text-ready : {A : Type 0} (r : Result A AllocError) (from right y end : ℕ) (new : BufferData)
    → OnOk r ((e : ℕ) → from ≤ e → e ≤ right → IsReadyAt e y new) → from ≤ end → end ≤ right → OnOk r (IsReadyAt end y new)
text-ready (Ok v) from right y end new is more fits = is end more fits
text-ready (Err e) from right y end new is more fits = tt

-- three columns painted in turn
pub columns-ok : {A : Type 0} (r : Result A AllocError) (b : Browser) (part : Rect) (k : ℕ) (old one two new : BufferData)
    → PaintsAbove b part k old one → PaintsFolder b part k one two → OnOk r (PaintsAhead b part k two new)
    → OnOk r (PaintsColumns b part k old new)
columns-ok (Ok v) b part k old one two new above folder ahead = record {
  between = one;
  first = above;
  second = record { between = two; first = folder; second = ahead };
}
columns-ok (Err e) b part k old one two new above folder ahead = tt

-- a row is painted, whether it has three columns or one
pub row-ok : {A : Type 0} (r : Result A AllocError) (test is : Bool) (b : Browser) (part : Rect) (k : ℕ) (old new : BufferData)
    → test ≡ is → OnOk r (PaintsRowIf is b part k old new) → OnOk r (PaintsRowIf test b part k old new)
row-ok r test is b part k old new same painted =
    subst (λ t. OnOk r (PaintsRowIf t b part k old new)) (sym same) painted

pub row-ready : {A : Type 0} (r : Result A AllocError) (part : Rect) (y : ℕ) (old new : BufferData) → IsBoxArea part
    → IsInside part old.area → part.y ≤ y → y < part.y + part.height
    → (IsReadyAt part.x y old → OnOk r (IsReadyAt (part.x + part.width) y new))
    → IsReadyFrom y old → OnOk r (IsReadyFrom (y + 1) new)
row-ready (Ok v) part y old new box inside top bottom then from =
    ready-below (part.x + part.width) y new (then (part-ready part y old box inside top bottom from))
row-ready (Err e) part y old new box inside top bottom then from = tt

first-of-four : (a b c d : Bool) → (a && b && c && d) ≡ true → a ≡ true
first-of-four true b c d is = refl
first-of-four false b c d is = absurd (cc)

pub parted-wide : (k width height : ℕ) (b : Browser) → is_parted k width height b ≡ true → 60 ≤ width
parted-wide k width height b is =
    let wide : nat_le 60 width ≡ true =
    first-of-four (nat_le 60 width) (shows_entries b.mode) (nat_lt 0 k) (not (k == height - 1)) is in
    grind (arith, nat_tests)

pub rows-none : (b : Browser) (r : Rect) (s : BufferData) → PaintsFirstRows b r 0 s s
unfolding PaintsFirstRows
rows-none b r s = refl

pub rows-next : (b : Browser) (r : Rect) (k : ℕ) (old mid new : BufferData) → PaintsFirstRows b r k old mid
    → PaintsListRow b r k mid new → PaintsFirstRows b r (k + 1) old new
unfolding PaintsFirstRows
rows-next b r k old mid new before row = rw add-one (record { between = mid; first = before; second = row })

pub browser-ok : {A : Type 0} (r : Result A AllocError) (b : Browser) (area part : Rect) (old new : BufferData)
    → IsClipped area old.area part → ChangesWithin part old new → OnOk r (PaintsAllRows b part old new)
    → (IsReadyFrom part.y old → OnOk r (IsReadyFrom (part.y + part.height) new)) → OnOk r (PaintsBrowser b area old new)
browser-ok (Ok x) b area part old new is within page ready = record {
  within = within-wider part area old new is.of_area within;
  page = OnPart-clipped (PaintsAllRows b) area part old new is page;
  settled = λ edges plain. (ready (ready-plain part.y old edges plain)).settled;
}
browser-ok (Err e) b area part old new is within page ready = tt

pub err-within : {A : Type 0} (r : Result A AllocError) (area part : Rect) (old new : BufferData) → IsClipped area old.area part
    → ChangesWithin part old new → OnErr r (ChangesWithin area old new)
err-within (Ok x) area part old new is within = tt
err-within (Err e) area part old new is within = within-wider part area old new is.of_area within
