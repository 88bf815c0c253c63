-- Texts that look alike in a row are shown alike.
use Rattle.std.proofs.Common.{◌≡◌, ℕ, List, Result, Ok, Err, OnOk, IfErr}
use Rattle.std.proofs.Common.{sym, ap, subst, ◌∙◌, arith, inl, inr}
use Rattle.ratatui_core.specs.{Layout.Rect, Backend.Screen}
use Rattle.ratatui_core.specs.Buffer.{BufferData, Look, room_at}
use Rattle.ratatui_core.specs.Terminal.{FillsRow, InsertsRow, IsRowOf, TerminalData}
use Rattle.ratatui_core.specs.Terminal.{inserted_area, TerminalError, Backend, Memory, Area, Closure}
use Rattle.ratatui_core.specs.Widgets.{RendersStr}
use Rattle.logview.specs.{Views.IsFollowing, Views.PushesLine, Views.RefusesPush, declared.view.LogView.LogView}
use Rattle.follow.specs.Lines.{LookAlike}

-- what is painted in an area
paints-alike : (area : Rect) (s t : List ℕ) (old new : BufferData) → LookAlike area.width s t → RendersStr s area old new
    → RendersStr t area old new
paints-alike area s t old new alike is =
    let same = alike (room_at old.area area.x area.width) (omega arith) in
    rw same at is

row-alike : (width : ℕ) (s t : List ℕ) (row : List Look) → LookAlike width s t → IsRowOf width s row → IsRowOf width t row
row-alike width s t row alike is =
    let wide : is.sheet.area.width ≡ width = ap (λ (r : Rect). r.width) is.over in
    record {
      sheet = is.sheet;
      over = is.over;
      painted = record {
        blank = is.painted.blank;
        emptied = is.painted.emptied;
        rendered = paints-alike is.sheet.area s t is.painted.blank is.sheet (subst (λ n. LookAlike n s t) (sym wide) alike)
            is.painted.rendered;
      };
      agrees = is.agrees;
    }

fills-alike : (area : Rect) (s t : List ℕ) (sheet : BufferData) → LookAlike area.width s t → FillsRow s area sheet
    → FillsRow t area sheet
fills-alike area s t sheet alike fills =
    let wide : fills.before.area.width ≡ area.width = ap (λ (r : Rect). r.width) fills.empty.area in
    record {
      before = fills.before;
      empty = fills.empty;
      renders = λ has. paints-alike fills.before.area s t fills.before sheet (subst (λ n. LookAlike n s t) (sym wide) alike)
          (fills.renders has);
    }

module _ {B E : Type 0} (screen : B → Screen) (s t : List ℕ) (v w : LogView B E) (columns : ℕ)
    (over : IsFollowing screen v) (is : columns ≡ v.terminal.viewport_area.width) (alike : LookAlike columns s t) where
  inserts-alike : (m : TerminalData B) → InsertsRow screen s v.terminal m → InsertsRow screen t v.terminal m
  inserts-alike m ins =
      let wide : columns ≡ (screen v.terminal.backend).width = is ∙ ap (λ (r : Rect). r.width) over.row in
      record {
        over = ins.over;
        size = ins.size;
        top = ins.top;
        row = ins.row;
        painted = row-alike (screen v.terminal.backend).width s t ins.row (subst (λ n. LookAlike n s t) wide alike) ins.painted;
        above = ins.above;
        below = ins.below;
      }

  -- a push of the one is a push of the other
  pushes-alike : PushesLine screen s v w → PushesLine screen t v w
  pushes-alike pushes = record {
    inserts = inserts-alike w.terminal pushes.inserts;
    status = pushes.status;
    kept = pushes.kept;
    most = pushes.most;
  }

  -- and so is a refused one
  refuses-alike : (stops_at : B → B → Type 0) (error : TerminalError E) → RefusesPush screen stops_at s v w error
      → RefusesPush screen stops_at t v w error
  refuses-alike stops_at (Backend error) (inl stops) = inl (record {
    count = stops.count;
    row = stops.row;
    filled = fills-alike (inserted_area v.terminal 1) s t stops.row (subst (λ n. LookAlike n s t) is alike) stops.filled;
    stops = stops.stops;
  })
  refuses-alike stops_at (Backend error) (inr lacks) = inr (record {
    inserted = lacks.inserted;
    inserts = inserts-alike lacks.inserted lacks.inserts;
    count = lacks.count;
  })
  refuses-alike stops_at Memory same = same
  refuses-alike stops_at Area none = absurd none
  refuses-alike stops_at (Closure error) none = absurd none

  -- by the answer of the push
  pub pushed-alike : {T F : Type 0} (result : Result T F) → OnOk result (PushesLine screen s v w)
      → OnOk result (PushesLine screen t v w)
  pushed-alike (Ok x) pushes = pushes-alike pushes
  pushed-alike (Err e) pushes = tt

  pub refused-alike : {T : Type 0} (stops_at : B → B → Type 0) (result : Result T (TerminalError E))
      → IfErr result (RefusesPush screen stops_at s v w) → IfErr result (RefusesPush screen stops_at t v w)
  refused-alike stops_at (Ok x) refuses = tt
  refused-alike stops_at (Err e) refuses = refuses-alike stops_at e refuses
