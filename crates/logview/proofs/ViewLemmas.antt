-- A line that was inserted, and the status line that was then drawn.
use Rattle.std.proofs.Common.{◌≡◌, ℕ, ◌+◌, ◌*◌, nat_lt, if◌then◌else◌, List, Result, Ok, Err, OnOk, IfErr, ap, ap₂, arith, refl}
use Rattle.std.proofs.Common.{inr, subst, sym, ◌∙◌}
use Rattle.std.specs.declared.alloc.AllocError.{AllocError}
use Rattle.ratatui_core.specs.{Layout.Rect, Layout.Size, Buffer.BufferData, Buffer.IsEmptied, Buffer.IsSettledBuffer}
use Rattle.ratatui_core.specs.{Backend.Screen}
use Rattle.ratatui_core.specs.Terminal.{TerminalData, IsOverRow, DrawsRow, FillsRow, InsertsRow, InsertOk, InsertsBy, HasAreas}
use Rattle.ratatui_core.specs.Terminal.{IsSized, IsBackendFault, WritesAtMost, TerminalError, Backend, Memory, Area, Closure}
use Rattle.ratatui_core.specs.Terminal.{inserted_area}
use Rattle.ratatui_core.proofs.TerminalLemmas.{inserts-and-draws, over-takes}
use Rattle.ratatui_core.proofs.WidgetLemmas.{has-first-row, text-settled}
use Rattle.logview.specs.{Rows.counted, Rows.status_text, Rows.RendersStatus, Rows.end_place, declared.view.LogView.LogView}
use Rattle.logview.specs.Views.{cells_pushed, screen_in, KeepsBelow, PushesLine, RefusesLine, RefusesPush}

-- the status line of a count was drawn
abbrev pub DrawsStatus : {B : Type 0} → (B → Screen) → ℕ → TerminalData B → TerminalData B → Type 0
DrawsStatus screen count = DrawsRow screen (RendersStatus (status_text count)) (end_place (status_text count))

-- a line rendered on an empty row can be shown
fills-settled : (line : List ℕ) (area : Rect) (sheet : BufferData) → area.height ≡ 1 → FillsRow line area sheet
    → IsSettledBuffer sheet
fills-settled line area sheet one fills =
    let here = fills.empty.area in
    let high : fills.before.area.height ≡ 1 = ap (λ (r : Rect). r.height) here ∙ one in
    let own : IsEmptied fills.before.area fills.before = subst (λ (r : Rect). IsEmptied r fills.before) (sym here) fills.empty in
    text-settled area fills.before.area line fills.before sheet fills.empty (omega arith) (omega arith)
    (fills.renders (has-first-row fills.before.area fills.before (omega arith) own))

module _ {B : Type 0} (screen : B → Screen) where
  -- an insertion writes no more than the row takes
  inserts-most : (line : List ℕ) (s t : TerminalData B) (filled : Result (Unit {0}) AllocError → BufferData → Type 0)
      → IsOverRow screen s
      → ((sheet : BufferData) → filled (Ok tt) sheet → FillsRow line (inserted_area s 1) sheet)
      → InsertOk screen (inserted_area s 1) filled s t → WritesAtMost (cells_pushed (screen s.backend)) (screen s.backend)
      (screen t.backend)
  inserts-most line s t filled is only ins room =
      let may = over-takes screen s is in
      let known : (screen s.backend).height ≡ s.last_known_area.height = ap (λ (r : Rect). r.height)
      (over-takes screen s is).known in
      let high : s.viewport_area.height ≡ 1 = ap (λ (r : Rect). r.height) is.row in
      let bottom = is.in_step.on_screen.bottom in
      let inserts = ins.inserts (omega arith) in
      let settled = fills-settled line (inserted_area s 1) ins.inserted refl (only ins.inserted ins.closure) in
      let wide : ins.inserted.area.width ≡ (screen s.backend).width = ap (λ (r : Rect). r.width) ins.over ∙ may.width in
      let tall : ins.inserted.area.height ≡ 1 = ap (λ (r : Rect). r.height) ins.over in
      let again : (if nat_lt s.viewport_area.height s.last_known_area.height then 0 else ins.inserted.area.width) ≡
      (if nat_lt 1 (screen s.backend).height then 0 else (screen s.backend).width) = rw (high, known, wide) refl in
      let own : ins.inserted.area.width * ins.inserted.area.height ≡ (screen s.backend).width = rw (tall, wide) (omega arith) in
      let most = inserts.most may is.in_step settled (omega (arith, again, own, room)) in
      omega (arith, again, own, most)

  -- by the answer of the insertion
  pub inserts-most-if : {T F : Type 0} (stops_at : B → B → Type 0) (line : List ℕ) (s t : TerminalData B)
      (filled : Result (Unit {0}) AllocError → BufferData → Type 0) (result : Result T (TerminalError F)) → IsOverRow screen s
      → ((sheet : BufferData) → filled (Ok tt) sheet → FillsRow line (inserted_area s 1) sheet)
      → InsertsBy screen stops_at (inserted_area s 1) filled s t result
      → OnOk result (WritesAtMost (cells_pushed (screen s.backend)) (screen s.backend) (screen t.backend))
  inserts-most-if stops_at line s t filled (Ok x) is only by = inserts-most line s t filled is only by
  inserts-most-if stops_at line s t filled (Err e) is only by = tt

module _ {B E : Type 0} (screen : B → Screen) where
  -- an insertion keeps the rows below the viewport
  inserts-below : (line : List ℕ) (v w : LogView B E) (filled : Result (Unit {0}) AllocError → BufferData → Type 0)
      → IsOverRow screen v.terminal
      → ((sheet : BufferData) → filled (Ok tt) sheet → FillsRow line (inserted_area v.terminal 1) sheet)
      → InsertOk screen (inserted_area v.terminal 1) filled v.terminal w.terminal → KeepsBelow screen v w
  inserts-below line v w filled is only ins =
      let s = v.terminal in
      let known : (screen s.backend).height ≡ s.last_known_area.height = ap (λ (r : Rect). r.height)
      (over-takes screen s is).known in
      let high : s.viewport_area.height ≡ 1 = ap (λ (r : Rect). r.height) is.row in
      let bottom = is.in_step.on_screen.bottom in
      let inserts = ins.inserts (omega arith) in
      let settled = fills-settled line (inserted_area s 1) ins.inserted refl (only ins.inserted ins.closure) in
      let same : w.terminal.viewport_area.height ≡ s.viewport_area.height =
      ap (λ (x : TerminalData B). x.viewport_area.height) inserts.rest in
      record { at = λ a b a_in b_in low. inserts.kept (over-takes screen s is) is.in_step settled a b a_in b_in (omega arith) }

  -- by the answer of the insertion
  pub inserts-below-if : {T F : Type 0} (stops_at : B → B → Type 0) (line : List ℕ) (v w : LogView B E)
      (filled : Result (Unit {0}) AllocError → BufferData → Type 0) (result : Result T (TerminalError F))
      → IsOverRow screen v.terminal
      → ((sheet : BufferData) → filled (Ok tt) sheet → FillsRow line (inserted_area v.terminal 1) sheet)
      → InsertsBy screen stops_at (inserted_area v.terminal 1) filled v.terminal w.terminal result
      → OnOk result (KeepsBelow screen v w)
  inserts-below-if stops_at line v w filled (Ok x) is only by = inserts-below line v w filled is only by
  inserts-below-if stops_at line v w filled (Err e) is only by = tt

  -- a refused insertion
  pub refuses-line-if : {T : Type 0} (stops_at : B → B → Type 0) (line : List ℕ) (v w : LogView B E)
      (filled : Result (Unit {0}) AllocError → BufferData → Type 0) (result : Result T (TerminalError E)) → w.count ≡ v.count
      → ((sheet : BufferData) → filled (Ok tt) sheet → FillsRow line (inserted_area v.terminal 1) sheet)
      → ((sheet : BufferData) → filled (Ok tt) sheet → sheet.area ≡ inserted_area v.terminal 1)
      → InsertsBy screen stops_at (inserted_area v.terminal 1) filled v.terminal w.terminal result
      → IfErr result (RefusesLine screen stops_at line v w)
  refuses-line-if stops_at line v w filled (Ok x) count only keeps by = tt
  refuses-line-if stops_at line v w filled (Err (Backend e)) count only keeps by = record {
    count = count;
    row = by.inserted;
    filled = only by.inserted by.closure;
    stops = by.stops;
  }
  refuses-line-if stops_at line v w filled (Err Memory) count only keeps by =
      ap₂ (λ t n. record { terminal = t; count = n }) by.0 count
  refuses-line-if stops_at line v w filled (Err Area) count only keeps by = absurd (by.over (keeps by.inserted by.closure))
  refuses-line-if stops_at line v w filled (Err (Closure e)) count only keeps by = absurd by

  -- a draw of the status line keeps them, too
  draws-below : (line status : List ℕ) (v m w : LogView B E) → InsertsRow screen line v.terminal m.terminal
      → DrawsRow screen (RendersStatus status) (end_place status) m.terminal w.terminal → KeepsBelow screen v m
      → KeepsBelow screen v w
  draws-below line status v m w inserts drawn kept =
      let keeps = drawn.keeps in
      let width : (screen m.terminal.backend).width ≡ (screen v.terminal.backend).width =
      ap (λ (z : Size). z.width) inserts.size in
      let height : (screen m.terminal.backend).height ≡ (screen v.terminal.backend).height =
      ap (λ (z : Size). z.height) inserts.size in
      let top : w.terminal.viewport_area.y ≡ m.terminal.viewport_area.y = ap (λ (r : Rect). r.y) keeps.viewport_area in
      let high : m.terminal.viewport_area.height ≡ 1 = ap (λ (r : Rect). r.height) inserts.over.row in
      record {
        at = λ a b a_in b_in low.
            keeps.outside.at a b (omega arith) (omega arith) (λ within. omega (arith, within.bottom, high, low, top))
            ∙ kept.at a b a_in b_in (omega (arith, low, top));
      }

  -- by the answer of the draw
  pub pushed_if : {T F : Type 0} (line : List ℕ) (v m w : LogView B E) (result : Result T F)
      → InsertsRow screen line v.terminal m.terminal → KeepsBelow screen v m
      → WritesAtMost (cells_pushed (screen_in screen v)) (screen_in screen v) (screen_in screen m)
      → (IsOverRow screen m.terminal → OnOk result (DrawsStatus screen w.count m.terminal w.terminal))
      → OnOk result (PushesLine screen line v w)
  pushed_if line v m w (Ok x) inserts kept most draws =
      let drawn = draws inserts.over in
      let width : (screen_in screen m).width ≡ (screen_in screen v).width = ap (λ (z : Size). z.width) inserts.size in
      record {
        inserts = inserts-and-draws screen line (RendersStatus (status_text w.count)) (end_place (status_text w.count))
            v.terminal m.terminal w.terminal inserts drawn;
        status = drawn.shown;
        kept = draws-below line (status_text w.count) v m w inserts drawn kept;
        most = λ room.
            let row = most (omega (arith, room)) in
            let status = drawn.most (omega (arith, row, width, room)) in
            omega (arith, row, status, width);
      }
  pushed_if line v m w (Err e) inserts kept most draws = tt

-- the status line wasn't drawn after a line was inserted
lacks_status : {B E : Type 0} (screen : B → Screen) (stops_at : B → B → Type 0) (line : List ℕ)
    (v m w : LogView B E) (error : TerminalError E)
    → InsertsRow screen line v.terminal m.terminal → w.count ≡ counted (v.count + 1) → IsBackendFault error
    → RefusesPush screen stops_at line v w error
lacks_status screen stops_at line v m w (Backend e) inserts count by = inr (record {
  inserted = m.terminal;
  inserts = inserts;
  count = count;
})
lacks_status screen stops_at line v m w Memory inserts count by = absurd by
lacks_status screen stops_at line v m w Area inserts count by = absurd by
lacks_status screen stops_at line v m w (Closure e) inserts count by = absurd by

-- by the answer of its draw
pub refused_if : {B E T : Type 0} (screen : B → Screen) (stops_at : B → B → Type 0) (line : List ℕ) (v m w : LogView B E)
    (result : Result T (TerminalError E)) → InsertsRow screen line v.terminal m.terminal → w.count ≡ counted (v.count + 1)
    → (HasAreas m.terminal → IsSized screen m.terminal → IfErr result IsBackendFault)
    → IfErr result (RefusesPush screen stops_at line v w)
refused_if screen stops_at line v m w (Ok x) inserts count by = tt
refused_if screen stops_at line v m w (Err e) inserts count by =
    let over = inserts.over in
    lacks_status screen stops_at line v m w e inserts count
    (by (record { current = over.current.area; previous = over.in_step.area }) (inr over.known))
