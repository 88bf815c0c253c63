-- A view of the lines of a log, from its start on.
use Rattle.std.proofs.Common.{◌≡◌, ℕ, ◌+◌, ◌<◌, List, [], ◌∷◌, ◌++◌, length, length-append, get_or, drop, Option, Some, None}
use Rattle.std.proofs.Common.{IfSome, Result, Ok, Err, IfOk, sym, ap, ap₂, subst, ◌∙◌, arith, inr}
use Rattle.std.specs.{Result.result_ok, Str.IsUtf8, Str.Lines.lines, Io.KnownBytes.Appends}
use Rattle.ratatui_core.specs.Layout.{Rect, Size}
use Rattle.std.specs.declared.alloc.AllocError.{AllocError}
use Rattle.ratatui_core.specs.Backend.{Screen, IsBlankScreen, rows_above, printed_screen}
use Rattle.printed_backend.specs.declared.backend.PrintedBackend.{PrintedBackend}
use Rattle.printed_backend.specs.Printed.{shown_on, HasOnlyDrawn}
use Rattle.ratatui_core.specs.Terminal.{IsBlank, IsBlankBelow, row_area, IsRendered, HasCursor, IsRowOf, rows_over}
use Rattle.logview.specs.Rows.{counted, status_text, RendersStatus, end_place, AreRowsOfLines}
use Rattle.logview.specs.Views.{StartsView, PushesLine, IsViewOf}
use Rattle.script_words.specs.Words.{parsed_size}
use Rattle.logview.specs.Engine.{ShowsLog, IsLog, IsLogFault, IsLogView, PrintsLog, StopsPushing, size_of_log}
use Rattle.logview.specs.{declared.fault.LogFault.LogFault, declared.view.LogView.LogView}
use Rattle.logview.specs.declared.fault.LogFault.TheVariants as fault
use Rattle.logview.proofs.RowLemmas.{rows_more}

pub blank_screen : (w h : ℕ) (s : Screen) → IsBlankScreen w h s → IsBlank s
blank_screen w h s blank = record { at = λ a b a_in b_in. blank.grid a b }

module _ {B E : Type 0} (screen : B → Screen) where
  -- the start on a new screen
  pub view_none : (size : Size) (b : B) (v : LogView B E) → IsBlankScreen size.width size.height (screen b) → v.count ≡ 0
      → StartsView screen b v → IsViewOf screen size [] v
  view_none size b v blank count starts =
      let row : (screen b).cursor_y ≡ 0 = ap (λ p. p.y) blank.cursor in
      record {
        following = starts.starts.over;
        status = starts.status;
        count = count;
        size_is = starts.starts.size ∙ ap₂ (λ w h. record { width = w; height = h }) blank.width blank.height;
        top = starts.starts.top ∙ row ∙ omega arith;
        above = subst (AreRowsOfLines size.width [])
            (sym (starts.starts.above ∙ ap (rows_above (screen b)) row ∙ ap (λ h. h ++ []) blank.history)) tt;
        below = starts.starts.below;
      }

  -- one more line
  pub view_more : (size : Size) (lines : List (List ℕ)) (line : List ℕ) (v w : LogView B E) → IsViewOf screen size lines v
      → w.count ≡ counted (v.count + 1) → PushesLine screen line v w → IsViewOf screen size (lines ++ line ∷ []) w
  view_more size lines line v w is count pushes =
      let ins = pushes.inserts in
      let more : length (lines ++ line ∷ []) ≡ length lines + 1 = length-append lines (line ∷ []) in
      let wide : (screen v.terminal.backend).width ≡ size.width = ap (λ (s : Size). s.width) is.size_is in
      let high : (screen v.terminal.backend).height ≡ size.height = ap (λ (s : Size). s.height) is.size_is in
      let painted : IsRowOf size.width line ins.row = subst (λ n. IsRowOf n line ins.row) wide ins.painted in
      record {
        following = ins.over;
        status = pushes.status;
        count = (let c = is.count in omega arith);
        size_is = ins.size ∙ is.size_is;
        top = (let t = ins.top in let f = is.top in omega arith);
        above = subst (AreRowsOfLines size.width (lines ++ line ∷ [])) (sym ins.above)
            (rows_more size.width line ins.row lines (rows_over screen v.terminal) is.above painted);
        below = ins.below is.below;
      }

  -- what its screen shows
  pub shows_log : (size : Size) (lines : List (List ℕ)) (v : LogView B E) → IsViewOf screen size lines v
      → ShowsLog size lines (screen v.terminal.backend)
  shows_log size lines v is =
      let wide : (screen v.terminal.backend).width ≡ size.width = ap (λ (s : Size). s.width) is.size_is in
      let place : v.terminal.viewport_area ≡ row_area size.width v.terminal.viewport_area.y = is.following.row
      ∙ ap (λ n. row_area n v.terminal.viewport_area.y) wide in
      record {
        size_is = is.size_is;
        top = v.terminal.viewport_area.y;
        top_is = is.top;
        above = is.above;
        status = record {
          sheet = is.status.row.sheet;
          over = is.status.row.over ∙ place;
          painted = subst (λ n. IsRendered (RendersStatus (status_text n)) is.status.row.sheet) is.count is.status.row.painted;
          shown = is.status.row.shown;
        };
        cursor = subst (λ n. HasCursor (end_place (status_text n) (row_area size.width v.terminal.viewport_area.y))
            (screen v.terminal.backend)) is.count
            (subst (λ r. HasCursor (end_place (status_text v.count) r) (screen v.terminal.backend)) place is.status.cursor);
        below = subst (λ (r : Rect). IsBlankBelow r (screen v.terminal.backend)) place is.below;
      }

-- by the answer of the start
pub view_opened : {T E : Type 0} {B : Type 0} (screen : B → Screen) (size : Size) (b : B) (result : Result (LogView B E) T)
    → IsBlankScreen size.width size.height (screen b) → 0 < size.height
    → IfOk result (λ v. v.count ≡ 0) → (IsBlank (screen b) → 0 < (screen b).height → IfOk result (StartsView screen b))
    → IfSome (result_ok result) (IsViewOf screen size [])
view_opened screen size b (Ok v) blank some count starts =
    let high : (screen b).height ≡ size.height = blank.height in
    view_none screen size b v blank count (starts (blank_screen size.width size.height (screen b) blank) (omega arith))
view_opened screen size b (Err e) blank some count starts = tt

pub if_ok : {T E : Type 0} (P : T → Type 0) (r : Result T E) (b : T) → result_ok r ≡ Some b → IfOk r P → P b
if_ok P (Ok x) b e p = let same : x ≡ b = cc in subst P same p
if_ok P (Err x) b e p = absurd (cc)

-- the first line says the size
pub first_line : (log : List (List ℕ)) (line : List ℕ) → 0 < length log → line ≡ get_or log 0 line
    → parsed_size line ≡ size_of_log log
first_line [] line some is = absurd (omega arith)
first_line (first ∷ rest) line some is = ap parsed_size is

-- what was printed of the bytes that were read
pub prints_log : {E : Type 0} (read : Option (List ℕ)) (bytes : List ℕ) (v : LogView PrintedBackend E) (old new : Option (List ℕ))
    → IfSome read (λ all. bytes ≡ all) → IsUtf8 bytes → IsLogView (lines bytes) v
    → Appends old new (printed_screen (shown_on v.terminal.backend)) → IfSome read (λ all. PrintsLog all old new)
prints_log None bytes v old new e text log written = tt
prints_log (Some all) bytes v old new e text log written =
    subst (λ bs. PrintsLog bs old new) e
    (record {
      size = log.size;
      is = record { text = text; first = log.first };
      screen = shown_on v.terminal.backend;
      shown = shows_log shown_on log.size (drop 1 (lines bytes)) v log.shown;
      written = written;
    })

-- a log whose pushes were refused at a line
pub stopped_log : (bytes : List ℕ) (size : Size) (left : LogView PrintedBackend AllocError) (f : LogFault) → IsLog bytes size
    → StopsPushing shown_on HasOnlyDrawn size (lines bytes) left f → IsLogFault bytes f
stopped_log bytes size left fault.Size is stops = absurd stops
stopped_log bytes size left (fault.Refused n) is stops = (size, is, inr (left, stops))
stopped_log bytes size left fault.NotText is stops = absurd stops
stopped_log bytes size left fault.Read is stops = absurd stops
stopped_log bytes size left fault.Memory is stops = absurd stops
stopped_log bytes size left fault.Write is stops = absurd stops

-- of the bytes that were read
pub fault_of_read : (read : Option (List ℕ)) (bytes : List ℕ) (f : LogFault) → IfSome read (λ all. bytes ≡ all)
    → IsLogFault bytes f → IfSome read (λ all. IsLogFault all f)
fault_of_read None bytes f e why = tt
fault_of_read (Some all) bytes f e why = subst (λ bs. IsLogFault bs f) e why
