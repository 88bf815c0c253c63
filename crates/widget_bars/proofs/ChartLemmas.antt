-- Bars and groups, drawn one after the other.
use Rattle.std.proofs.Common.{◌≡◌, ℕ, zero, suc, ◌+◌, ◌-◌, ◌*◌, ◌<◌, ◌≤◌, ⊎_elim, min, List, [], ◌∷◌, length, take, sym, ap}
use Rattle.std.proofs.Common.{◌∙◌, refl, arith, Result}
use Rattle.std.specs.declared.alloc.AllocError.{AllocError}
use Rattle.std.proofs.lemmas.{Bool.cases_lt, List.take_all}
use Rattle.ratatui_core.specs.{Layout.Rect, Style.Style, declared.layout.Direction.Direction}
use Rattle.ratatui_core.specs.declared.layout.Direction.TheVariants.{Horizontal, Vertical}
use Rattle.ratatui_core.specs.Buffer.{BufferData, text_columns, text_pieces, IsShort}
use Rattle.ratatui_core.specs.declared.symbols.bar.Set.{Set as BarSet}
use Rattle.widget_boxes.specs.{Boxes.IsBoxArea}
use Rattle.rtui_drawing.specs.{declared.cut.Cut.Cut, Cuts.cut_from}
use Rattle.rtui_drawing.specs.Drawings.{Drawing, put_pieces, IsDone, IsPartOf}
use Rattle.rtui_drawing.specs.declared.cut.Cut.TheVariants.{Middle}
use Rattle.rtui_drawing.proofs.DrawingLemmas.{part-cut, done-in, continues-in, drawing_steps, drawing_choices}
use Rattle.rtui_drawing.proofs.{Laws.Continues, WriteLemmas.row-of}
use Rattle.rtui_inside.proofs.InsideLemmas.{box-part}
use Rattle.widget_sparkline.proofs.LevelLemmas.{level-any}
use Rattle.widget_bars.specs.{declared.group.Bar.Bar, declared.group.BarGroup.BarGroup, declared.chart.BarChart.BarChart}
use Rattle.widget_bars.specs.BarAreas.{cells_along, bar_cut, behind_cut}
use Rattle.widget_bars.specs.BarCharts.{middle_text, bar_step, after_bars, behind_bars, fitting_count, shown_bars}
use Rattle.widget_bars.specs.{BarCharts.HasShortBars, Inner.cells_across, Inner.BarsFit}

-- a text in the middle of a row
pub middle-done : {A : Type 0} (n : ℕ) (style : Style) (text : List ℕ) (row part : Rect) {old new : BufferData}
    (result : Result A AllocError) → part ≡ cut_from (Middle n) row → n ≡ min (text_columns text) 65535
    → IsDone (put_pieces (text_pieces part.width style text)) part result old new
    → IsDone (middle_text style text row.width) row result old new
middle-done n style text row part result at is done =
    let m = min (text_columns text) 65535 in
    let there : part ≡ cut_from (Middle m) row = at ∙ ap (λ k. cut_from (Middle k) row) is in
    done-in (Middle m) (cut_from (Middle m) row) result (rw there at done) refl

-- the area that a cut leaves
pub cut-is : {part : Rect} {c : Cut} {d : Cut} (r : Rect) → part ≡ cut_from c r → c ≡ d → part ≡ cut_from d r
cut-is r at is = at ∙ ap (λ q. cut_from q r) is

-- where a bar stands has cells, and what is after it has as many along a bar
pub bar-cells : (d : Direction) (n : ℕ) (r : Rect) → 0 < n → n ≤ cells_along d r → 0 < cells_across d r
    → (0 < (cut_from (bar_cut d n) r).width) × (0 < (cut_from (bar_cut d n) r).height)
bar-cells Vertical n r some le across = (omega arith, across)
bar-cells Horizontal n r some le across = (across, omega arith)

pub behind-across : (d : Direction) (n : ℕ) (r : Rect) → cells_across d (cut_from (behind_cut d n) r) ≡ cells_across d r
behind-across Vertical n r = refl
behind-across Horizontal n r = refl

pub behind-along : (d : Direction) (n : ℕ) (r : Rect) → cells_along d (cut_from (behind_cut d n) r) ≡ cells_along d r - n
behind-along Vertical n r = refl
behind-along Horizontal n r = refl

pub across-some : (d : Direction) (r : Rect) → IsBoxArea r → 0 < cells_across d r
across-some Vertical r box = box.rows
across-some Horizontal r box = box.columns

-- the same of what is left after bars
module _ (c : BarChart) where
  pub after-across : (r : Rect) (bars : List Bar)
      → cells_across c.direction (after_bars c r bars) ≡ cells_across c.direction r
  after-across r [] = refl
  after-across r (bar ∷ bars) =
      after-across (cut_from (behind_cut c.direction (bar_step c)) r) bars ∙ behind-across c.direction (bar_step c) r

  pub after-part : (own r : Rect) (bars : List Bar) → IsPartOf own r → IsPartOf own (after_bars c r bars)
  after-part own r [] is = is
  after-part own r (bar ∷ bars) is =
      after-part own (cut_from (behind_cut c.direction (bar_step c)) r) bars (part-cut (behind_cut c.direction (bar_step c)) is)

  pub continues-behind : {d all : Drawing} {whole : Rect} {old now : BufferData} (r : Rect) (bars : List Bar)
      → Continues (behind_bars c bars d) r all whole old now → Continues d (after_bars c r bars) all whole old now
  continues-behind r [] is = is
  continues-behind r (bar ∷ bars) is =
      let behind = behind_cut c.direction (bar_step c) in continues-behind (cut_from behind r) bars (continues-in behind is)

-- as many bars as fit do
pub bars-fit : (c : BarChart) (n width : ℕ) (bars : List Bar) → n * (c.bar_width + c.bar_gap) ≤ width + c.bar_gap
    → BarsFit c width (take n bars)
bars-fit c zero width bars le = tt
bars-fit c (suc n) width [] le = tt
bars-fit c (suc n) width (bar ∷ bars) le =
    let all : n * (c.bar_width + c.bar_gap) + (c.bar_width + c.bar_gap) ≤ width + c.bar_gap = omega arith in
    (omega arith, bars-fit c n (width - bar_step c) bars (omega arith))

pub take-least : {A : Type 0} (n : ℕ) (xs : List A) → take (min n (length xs)) xs ≡ take n xs
take-least n xs =
    ⊎_elim
    (λ (lt : n < length xs). let e : min n (length xs) ≡ n = omega arith in ap (λ m. take m xs) e)
    (λ (ge : length xs ≤ n). let e : min n (length xs) ≡ length xs = omega arith in
    ap (λ m. take m xs) e ∙ take_all (length xs) xs (omega arith) ∙ sym (take_all n xs ge))
    (cases_lt n (length xs))

-- the bars that a group shows
pub shown-count : (c : BarChart) (group : BarGroup) (r : Rect) {bars : List Bar} {count fits along : ℕ} → bars ≡ group.bars.items
    → along ≡ cells_along c.direction r → fits ≡ fitting_count c along → count ≡ min fits (length bars)
    → take count bars ≡ shown_bars c group r
shown-count c group r items cells fit least = rw (least, fit, cells, items) (take-least _ group.bars.items)

-- what is drawn of a bar, step by step
pub ruleset bar_steps = (drawing_steps, drawing_choices, part-cut, row-of, box-part, across-some)

-- the symbols of bars that take no memory, one by one
pub short-full : (set : BarSet) → HasShortBars set → IsShort set.full.now
short-full set short = level-any IsShort set 8 short

pub short-empty : (set : BarSet) → HasShortBars set → IsShort set.empty.now
short-empty set short = level-any IsShort set 0 short

-- that a bar's cells take no memory
pub ruleset short_bars = (short-full, short-empty)
