-- One row that is drawn over, and texts inserted above it.
use Rattle.std.proofs.Common.{◌≡◌, ℕ, ◌*◌, ◌≤◌, ◌<◌, List, [], ◌∷◌, ◌++◌, length, append-nil, Option, None, Some}
use Rattle.std.proofs.Common.{Result, Ok, Err, OnOk, OnErr, IfErr, refl, sym, ap, ap₂, subst, ◌∙◌, inl, inr, arith, alloc_error}
use Rattle.std.proofs.Common.{slice_index_or, mul-le-mul_left}
use Rattle.std.specs.declared.alloc.AllocError.{AllocError}
use Rattle.rtui_geometry.specs.{declared.position.Position.Position, declared.rect.Rect.Rect}
use Rattle.std.proofs.lemmas.List.{length-map}
use Rattle.rtui_cell.specs.Look.{Look}
use Rattle.rtui_diff.specs.{DiffRule.given, DiffRule.start, Shows.RowAgrees, Updates.update_at}
use Rattle.rtui_buffer.specs.{BufferData.BufferData, BufferData.IsEmptied, Shown.IsSettledBuffer, Shown.common_rows}
use Rattle.rtui_buffer.specs.{Shown.buffer_updates}
use Rattle.rtui_widgets.specs.Rendering.{RendersStr}
use Rattle.rtui_widgets.proofs.SettledLemmas.{has-first-row, text-settled}
use Rattle.rtui_backend.specs.Screen.{Screen, screen_area}
use Rattle.rtui_viewport.specs.{declared.viewport.Viewport.TheVariants.Inline, Viewports.IsInline}
use Rattle.rtui_insert.specs.{Insertion.AppendsRows, Insertion.AreRowsOf, Rows.WritesAtMost}
use Rattle.rtui_insert.proofs.CountLemmas.{given_count}
use Rattle.rtui_terminal.specs.{Writing.HasDrawn, Writing.cursor_placed, TerminalData.TerminalData, TerminalData.HasAreas}
use Rattle.rtui_terminal.specs.{InStep.IsSized, InStep.rows_over}
use Rattle.rtui_terminal.specs.{Faults.FaultCounts, Faults.IsBackendFault, declared.terminal.error.TerminalError.TerminalError}
use Rattle.rtui_terminal.specs.declared.terminal.error.TerminalError.TheVariants.{Backend, Memory, Area, Closure}
use Rattle.rtui_terminal.specs.{Starting.IsBlank, Starting.StartErr, Starting.Starts, Drawing.DrawOk, Drawing.DrawErr}
use Rattle.rtui_terminal.specs.Insertion.{inserted_area, TakesRows, Inserts, InsertOk, InsertsBy}
use Rattle.rtui_terminal.specs.TextRow.{row_area, IsPaintedText, IsRowOf, RendersRow, FillsRow, IsOverRow, DrawsRow, InsertsRow}
use Rattle.rtui_terminal.specs.TextRow.{StartsOverRow, HasCursor}
use Rattle.rtui_terminal.specs.Rendered.{IsRendered}
use Rattle.rtui_terminal.proofs.RenderedLemmas.{OnlyRenders, shows-rendered, sized-stays, refused-by-backend}
use Rattle.rtui_terminal.proofs.StartLemmas.{starts-in-row, starts-in-step, starts-blank}
use Rattle.rtui_terminal.proofs.{InsertionLemmas.emptied-moved, KeepLemmas.below-kept, KeepLemmas.same_area}
use Rattle.rtui_terminal.proofs.{KeepLemmas.same_size}

-- a list of one row
only_row : (rows : List (List Look)) → length rows ≡ 1 → rows ≡ slice_index_or rows 0 [] ∷ []
only_row [] e = absurd (omega arith)
only_row (row ∷ []) e = refl
only_row (row ∷ next ∷ rows) e = absurd (omega arith)

-- the one row that came in with a painted text
row-appended : (width : ℕ) (text : List ℕ) (sheet : BufferData) (old new : List (List Look)) → sheet.area ≡ row_area width 0
    → IsPaintedText text sheet → AppendsRows (sheet ∷ []) old new
    → (row : List Look) × IsRowOf width text row × (new ≡ old ++ row ∷ [])
row-appended width text sheet old new over painted appends =
    let wide : sheet.area.width ≡ width = ap (λ (r : Rect). r.width) over in
    let high : sheet.area.height ≡ 1 = ap (λ (r : Rect). r.height) over in
    let first : List (List Look) = appends.agree.0 in
    let are : AreRowsOf sheet first = appends.agree.3 in
    let all : appends.rows ≡ first = appends.agree.2 ∙ ap (λ rows. first ++ rows) appends.agree.4 ∙ append-nil first in (
      slice_index_or first 0 [],
      record {
        sheet = sheet;
        over = over;
        painted = painted;
        agrees = subst (λ n. RowAgrees n sheet.cells 0 (slice_index_or first 0 [])) wide (are.agree 0 (omega arith));
      },
      appends.appended ∙ ap (λ rows. old ++ rows) (all ∙ only_row first (are.count ∙ high)),
    )

-- a closure leaves its cursor at its place in the viewport
abbrev pub OnlyPlaces : {B X : Type 0} → (TerminalData B → Result (Unit {0}) X → Option Position → BufferData → Type 0)
    → (Rect → Option Position) → Type 0
OnlyPlaces {B} ran place = (s : TerminalData B) (cursor : Option Position) (painted : BufferData)
    → ran s (Ok tt) cursor painted → cursor ≡ place s.viewport_area

-- a cursor that was placed is at its place
pub has-cursor : (cursor : Option Position) (between new : Screen) → new ≡ cursor_placed cursor between → HasCursor cursor new
has-cursor None between new e = subst (HasCursor None) (sym e) refl
has-cursor (Some p) between new e = subst (HasCursor (Some p)) (sym e) refl

-- something was rendered in an empty row
row-painted : (renders : Rect → BufferData → BufferData → Type 0) (y width : ℕ) (blank sheet : BufferData)
    → sheet.area ≡ row_area width y → IsEmptied sheet.area blank → RendersRow renders sheet.area blank sheet
    → IsRendered renders sheet
row-painted renders y width blank sheet over empty rendered =
    let high : sheet.area.height ≡ 1 = ap (λ (r : Rect). r.height) over in
    record { blank = blank; emptied = empty; rendered = rendered (has-first-row sheet.area blank (omega arith) empty) }

-- a screen can show it
row-settled : (text : List ℕ) (sheet : BufferData) → IsPaintedText text sheet → IsSettledBuffer sheet
row-settled text sheet is =
    let left : is.blank.area.x ≡ sheet.area.x = ap (λ (r : Rect). r.x) is.emptied.area in
    text-settled sheet.area sheet.area text is.blank sheet is.emptied (omega arith) (omega arith) is.rendered

-- placing a cursor writes no cell
placed_written : (cursor : Option Position) (s : Screen) → (cursor_placed cursor s).written ≡ s.written
placed_written None s = refl
placed_written (Some p) s = refl

-- a drawing of a row's differences writes each column at most once
row_written : {B : Type 0} (width y : ℕ) (cursor : Option Position) (s : TerminalData B) (old new : Screen)
    → s.previous.area ≡ row_area width y → HasDrawn cursor s old new → WritesAtMost width old new
row_written width y cursor s old new over drawn room =
    let wide : s.previous.area.width ≡ width = ap (λ (r : Rect). r.width) over in
    let high : s.previous.area.height ≡ 1 = ap (λ (r : Rect). r.height) over in
    let rows : ℕ = common_rows s.previous s.current in
    let count : length (buffer_updates s.previous s.current) ≡ length (given s.previous.cells s.current.cells
    (s.previous.area.width * rows) start 0) =
    length-map _ (update_at s.previous.area.x s.previous.area.y s.previous.area.width s.current.cells) in
    let le = given_count s.previous.cells s.current.cells (s.previous.area.width * rows) start 0 in
    let cells : s.previous.area.width * rows ≤ s.previous.area.width * 1 =
    mul-le-mul_left s.previous.area.width (omega (arith, high)) in
    let same : new.written ≡ drawn.0.written = ap (λ (t : Screen). t.written) drawn.2 ∙ placed_written cursor drawn.0 in
    let is = drawn.1.drawn.written (omega (arith, room, count, le, cells, wide)) in
    omega (arith, count, le, cells, wide, same, is)

module _ {B : Type 0} (screen : B → Screen) where
  -- rows can be inserted above it
  pub over-takes : (s : TerminalData B) → IsOverRow screen s → TakesRows screen s
  over-takes s is =
      let high : s.viewport_area.height ≡ 1 = ap (λ (r : Rect). r.height) is.row in
      record { inline = is.kind; known = is.known; row = omega arith; width = ap (λ (r : Rect). r.width) is.row }

  -- the row of a text was inserted
  pub inserts-row : (text : List ℕ) (s t : TerminalData B) (filled : Result (Unit {0}) AllocError → BufferData → Type 0)
      → IsOverRow screen s
      → ((sheet : BufferData) → filled (Ok tt) sheet → FillsRow text (inserted_area s 1) sheet)
      → InsertOk screen (inserted_area s 1) filled s t → InsertsRow screen text s t
  inserts-row text s t filled is only ins =
      let may = over-takes s is in
      let high : s.viewport_area.height ≡ 1 = ap (λ (r : Rect). r.height) is.row in
      let known : (screen s.backend).height ≡ s.last_known_area.height = ap (λ (r : Rect). r.height) may.known in
      let bottom = is.in_step.on_screen.bottom in
      let sheet = ins.inserted in
      let inserts : Inserts screen sheet s t = ins.inserts (omega arith) in
      let over : sheet.area ≡ row_area (screen s.backend).width 0 = ins.over ∙ ap (λ w. row_area w 0) may.width in
      let fills = only sheet ins.closure in
      let empty : IsEmptied sheet.area fills.before = subst (λ (r : Rect). IsEmptied r fills.before) (sym ins.over) fills.empty in
      let renders = subst (λ (r : Rect). RendersRow (RendersStr text) r fills.before sheet)
      (fills.empty.area ∙ sym ins.over) fills.renders in
      let painted : IsPaintedText text sheet =
      row-painted (RendersStr text) 0 (screen s.backend).width fills.before sheet over empty renders in
      let settled : IsSettledBuffer sheet = row-settled text sheet painted in
      let row = row-appended (screen s.backend).width text sheet (rows_over screen s) (rows_over screen t) over painted
      (inserts.above may is.in_step settled) in
      let height : sheet.area.height ≡ 1 = ap (λ (r : Rect). r.height) over in
      let kept = inserts.rest in
      let here : t.viewport_area ≡ row_area (screen t.backend).width t.viewport_area.y =
      ap (λ (x : TerminalData B). x.viewport_area) kept ∙ ap (λ (r : Rect). record r { y = t.viewport_area.y }) is.row
      ∙ ap (λ w. row_area w t.viewport_area.y) (sym inserts.shape.width) in
      record {
        over = record {
          kind = subst IsInline (sym (ap (λ (x : TerminalData B). x.viewport) kept)) is.kind;
          known = same_area (screen t.backend) (screen s.backend) inserts.shape.width inserts.shape.height ∙ is.known
              ∙ sym (ap (λ x. x.last_known_area) kept);
          row = here;
          in_step = inserts.in_step may is.in_step settled;
          current = emptied-moved screen sheet s t inserts is.current;
        };
        size = same_size (screen t.backend) (screen s.backend) inserts.shape.width inserts.shape.height;
        top = (let top = inserts.top in omega arith);
        row = row.0;
        painted = row.1;
        above = row.2;
        below = inserts.below may is.in_step settled;
      }

  -- by the answer of the insertion
  pub inserts-row-if : {T E : Type 0} (stops_at : B → B → Type 0) (text : List ℕ) (s t : TerminalData B)
      (filled : Result (Unit {0}) AllocError → BufferData → Type 0) (result : Result T (TerminalError E)) → IsOverRow screen s
      → ((sheet : BufferData) → filled (Ok tt) sheet → FillsRow text (inserted_area s 1) sheet)
      → InsertsBy screen stops_at (inserted_area s 1) filled s t result → OnOk result (InsertsRow screen text s t)
  inserts-row-if stops_at text s t filled (Ok x) is only by = inserts-row text s t filled is only by
  inserts-row-if stops_at text s t filled (Err e) is only by = tt

  -- the viewport was drawn over
  pub draws-row : {X : Type 0} (renders : Rect → BufferData → BufferData → Type 0) (place : Rect → Option Position)
      (s t : TerminalData B) (ran : TerminalData B → Result (Unit {0}) X → Option Position → BufferData → Type 0)
      → IsOverRow screen s → OnlyRenders ran (RendersRow renders) → OnlyPlaces ran place
      → ((sheet : BufferData) → IsRendered renders sheet → IsSettledBuffer sheet) → DrawOk screen ran s t
      → DrawsRow screen renders place s t
  draws-row renders place s t ran is only places settles drawn =
      let sized : IsSized screen s = inr is.known in
      let shows = shows-rendered screen ran (RendersRow renders) s t (inl is.in_step) is.current only drawn in
      let applied = drawn.draws.applied in
      let stays = sized-stays screen s drawn.draws.sized sized drawn.draws.autoresized in
      let kept : t.viewport_area ≡ s.viewport_area = ap (λ (x : TerminalData B). x.viewport_area) applied.rest
      ∙ ap (λ (x : TerminalData B). x.viewport_area) stays.rest in
      let over : t.previous.area ≡ row_area (screen s.backend).width s.viewport_area.y = shows.area ∙ kept ∙ is.row in
      let painted : IsRendered renders t.previous =
      row-painted renders s.viewport_area.y (screen s.backend).width shows.rendered.blank t.previous over shows.rendered.emptied
      shows.rendered.rendered in
      let settled : IsSettledBuffer t.previous = settles t.previous painted in
      let keeps = drawn.draws.keeps is.in_step sized settled in
      let step = drawn.draws.in_step (inl is.in_step) settled in
      let own : place drawn.draws.sized.viewport_area ≡ place t.viewport_area =
      ap place (sym (ap (λ (x : TerminalData B). x.viewport_area) applied.rest)) in
      record {
        over = record {
          kind = subst IsInline (sym (ap (λ (x : TerminalData B). x.viewport) applied.rest
              ∙ ap (λ (x : TerminalData B). x.viewport) stays.rest)) is.kind;
          known = same_area (screen t.backend) (screen s.backend) keeps.size.width keeps.size.height ∙ is.known
              ∙ sym (ap (λ x. x.last_known_area) applied.rest ∙ ap (λ x. x.last_known_area) stays.rest);
          row = kept ∙ is.row ∙ ap₂ row_area (sym keeps.size.width) (sym (ap (λ (r : Rect). r.y) kept));
          in_step = step;
          current = subst (λ (r : Rect). IsEmptied r t.current)
              (sym (ap (λ (x : TerminalData B). x.viewport_area) applied.rest)) applied.emptied;
        };
        shown = record {
          row = record { sheet = t.previous; over = shows.area; painted = painted; shown = step.shown };
          cursor = subst (λ cursor. HasCursor cursor (screen t.backend))
              (places drawn.draws.sized drawn.draws.cursor t.previous drawn.closure ∙ own)
              (has-cursor drawn.draws.cursor applied.drawn.0 (screen t.backend) applied.drawn.2);
        };
        keeps = keeps;
        most = subst (λ (x : Screen). WritesAtMost (screen s.backend).width x (screen t.backend)) stays.screen_stays
            (row_written (screen s.backend).width s.viewport_area.y drawn.draws.cursor
            (record drawn.draws.sized { current = t.previous }) (screen drawn.draws.sized.backend) (screen t.backend)
            (applied.areas.previous ∙ ap (λ (x : TerminalData B). x.viewport_area) stays.rest ∙ is.row) applied.drawn);
      }

  -- by the answer of a draw that takes no memory
  pub refused-by-backend-if : {T F : Type 0} (X : Type 0) (s t : TerminalData B)
      (ran : TerminalData B → Result (Unit {0}) AllocError → Option Position → BufferData → Type 0)
      (result : Result T (TerminalError F)) → IsSized screen s → HasAreas s
      → ((r : TerminalData B) (cursor : Option Position) (painted : BufferData) → ran r (Err alloc_error) cursor painted → ⊥)
      → ((r : TerminalData B) (cursor : Option Position) (painted : BufferData) → ran r (Ok tt) cursor painted
      → painted.area ≡ r.current.area)
      → OnErr result (IfErr result (DrawErr screen ran s t) × X) → IfErr result IsBackendFault
  refused-by-backend-if X s t ran (Ok x) sized areas never keeps by = tt
  refused-by-backend-if X s t ran (Err e) sized areas never keeps by =
      refused-by-backend screen ran s t e sized areas never keeps by.0

  -- a text was inserted, and then the viewport drawn over
  pub inserts-and-draws : (text : List ℕ) (renders : Rect → BufferData → BufferData → Type 0) (place : Rect → Option Position)
      (r s t : TerminalData B) → InsertsRow screen text r s → DrawsRow screen renders place s t → InsertsRow screen text r t
  inserts-and-draws text renders place r s t inserts drawn =
      let keeps = drawn.keeps in
      record {
        over = drawn.over;
        size = same_size (screen t.backend) (screen s.backend) keeps.size.width keeps.size.height ∙ inserts.size;
        top = ap (λ (a : Rect). a.y) keeps.viewport_area ∙ inserts.top;
        row = inserts.row;
        painted = inserts.painted;
        above = keeps.above ∙ inserts.above;
        below = λ blank. below-kept screen s t keeps (inserts.below blank);
      }

  -- the terminal of a start over one row knows its screen's size
  starts-known : (b : B) (t : TerminalData B) → Starts screen (Inline 1) b t → screen_area (screen t.backend) ≡ t.last_known_area
  starts-known b t starts =
      same_area (screen t.backend) (screen b) starts.scrolls.width starts.scrolls.height ∙ sym starts.last_known_area

  pub starts-sized : (b : B) (t : TerminalData B) → Starts screen (Inline 1) b t → IsSized screen t
  starts-sized b t starts = inr (starts-known b t starts)

  pub starts-areas : (b : B) (t : TerminalData B) → Starts screen (Inline 1) b t → HasAreas t
  starts-areas b t starts = record { current = starts.current.area; previous = starts.previous.area }

  -- a start on a blank screen
  pub starts-over-row : (b : B) (t : TerminalData B) → IsBlank (screen b) → 0 < (screen b).height → Starts screen (Inline 1) b t
      → IsOverRow screen t
  starts-over-row b t blank some starts =
      let row = starts-in-row screen b t some starts in
      record {
        kind = subst IsInline (sym starts.kind) tt;
        known = starts-known b t starts;
        row = row.viewport_area ∙ ap₂ row_area (sym row.size.width) (sym (ap (λ (r : Rect). r.y) row.viewport_area));
        in_step = starts-in-step screen (Inline 1) b t starts (starts.on_screen (λ fixed. fixed)) blank;
        current = starts.current;
      }

  -- a start on a blank screen, and then the viewport drawn over
  pub starts-and-draws : (renders : Rect → BufferData → BufferData → Type 0) (place : Rect → Option Position) (b : B)
      (s t : TerminalData B) → IsBlank (screen b) → 0 < (screen b).height → Starts screen (Inline 1) b s
      → DrawsRow screen renders place s t → StartsOverRow screen b t
  starts-and-draws renders place b s t blank some starts drawn =
      let row = starts-in-row screen b s some starts in
      let keeps = drawn.keeps in
      let still = starts-blank screen (Inline 1) b s starts blank in
      record {
        over = drawn.over;
        size = same_size (screen t.backend) (screen b) (keeps.size.width ∙ row.size.width)
            (keeps.size.height ∙ row.size.height);
        top = ap (λ (r : Rect). r.y) (keeps.viewport_area ∙ row.viewport_area);
        above = keeps.above ∙ row.above;
        below = below-kept screen s t keeps (record { at = λ a c a_in c_in low. still.at a c a_in c_in });
      }

-- a start whose first frame was refused, by the backend
pub refused-start : {B E : Type 0} (screen : B → Screen) (failures : B → ℕ) (b : B) (t : TerminalData B) (dropped : B)
    (error : TerminalError E) → failures t.backend ≡ failures b → IsBackendFault error
    → FaultCounts (failures t.backend) (failures dropped) error → StartErr screen failures (Inline 1) b error
refused-start screen failures b t dropped (Backend error) same by counts =
    (λ fixed. fixed, (dropped, λ small. rw same at (counts (rw same small))))
refused-start screen failures b t dropped Memory same by counts = absurd by
refused-start screen failures b t dropped Area same by counts = absurd by
refused-start screen failures b t dropped (Closure error) same by counts = absurd by
