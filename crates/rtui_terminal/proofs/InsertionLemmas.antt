-- Rows that were scrolled in above a viewport, as one insertion.
use Rattle.std.proofs.Common.{rules, ◌≡◌, ℕ, ◌+◌, ◌-◌, ◌*◌, ◌<◌, ◌≤◌, ◌++◌, min, nat_lt, if◌then◌else◌, List, [], ◌∷◌}
use Rattle.std.proofs.Common.{slice_index_or}
use Rattle.std.proofs.Common.{refl, sym, ap, ◌∙◌, subst, arith, append-nil, inl, inr, ◌⊎◌, Result, Ok, Err, OnOk, OnErr}
use Rattle.std.proofs.lemmas.{Bool.cases_lt, Bool.Decides.nat_tests}
use Rattle.rtui_geometry.specs.declared.rect.Rect.{Rect}
use Rattle.rtui_cell.specs.Look.{Look}
use Rattle.rtui_diff.specs.Shows.{ShowsColumn, RowAgrees}
use Rattle.rtui_buffer.specs.BufferData.{BufferData, IsEmptied, area_size, empty_cells}
use Rattle.rtui_buffer.specs.Shown.{IsSettledBuffer, ShowsBuffer}
use Rattle.rtui_backend.specs.Screen.{Screen, rows_above}
use Rattle.std.specs.declared.alloc.AllocError.{AllocError}
use Rattle.rtui_terminal.specs.{Faults.FailsOnlyByBackend, declared.terminal.error.TerminalError.TerminalError}
use Rattle.rtui_terminal.specs.{TerminalData.TerminalData}
use Rattle.rtui_terminal.specs.declared.terminal.error.TerminalError.TheVariants.{Backend, Memory, Area, Closure}
use Rattle.rtui_insert.specs.{Rows.IsBlankFor, Rows.DrawsRows, Rows.RowsFit, Rows.nonempty_cells, Following.Follows}
use Rattle.rtui_insert.specs.Insertion.{AppendsRows, KeepsSizeAndVisibility, HasPlaceAbove, AppendsPart}
use Rattle.rtui_insert.specs.Scrolling.{HasPushed, HasRaised, HasLowered, PushesRows, InsertsDown, InsertsUp, rows_down}
use Rattle.rtui_insert.specs.Scrolling.{IsPushing, IsRaising, StartsPushing, StartsLowering, StartsRaising}
use Rattle.rtui_backend.{specs.Failures.FailsAfter, proofs.FailureLemmas.fails_weaker}
use Rattle.rtui_terminal.specs.{InStep.IsInStep, InStep.rows_over, Insertion.inserted_area, Insertion.TakesRows}
use Rattle.rtui_insert.proofs.ShownLemmas.{ShowsRows, parts_join, rows_shown, blank_first}
use Rattle.rtui_insert.proofs.{CountLemmas.writes_rows, CountLemmas.writes_then, CountLemmas.nonempty_parts, PushLemmas.no_part}
use Rattle.rtui_insert.proofs.PushLemmas.{still_pushing}
use Rattle.rtui_terminal.specs.Insertion.{Inserts, IsBeginning, StopsInserting, InsertsBy}

-- all rows of a buffer were appended
pub AppendsRows-part : (s : BufferData) (n : ℕ) (old new : List (List Look)) → n ≡ s.area.height → AppendsPart s 0 n old new
    → AppendsRows (s ∷ []) old new
AppendsRows-part s n old new all part = record {
  rows = part.rows;
  appended = part.appended;
  agree = (
    part.rows,
    [],
    sym (append-nil part.rows),
    record {
      count = part.agree.count ∙ all;
      agree = λ b low. let none : 0 + b ≡ b = omega arith in
          subst (λ k. RowAgrees s.area.width s.cells k (slice_index_or part.rows b [])) none
          (part.agree.agree b (omega (arith, all)));
    },
    refl,
  );
}

-- a buffer that nothing moves
stays_put : (r : Rect) (s : BufferData) → Follows r r s s
stays_put r s = record { area = record { moved = λ is. is; stays = λ no. refl }; rest = refl }

-- a rectangle's parts are those of the same one
pub parts_of : {r q : Rect} → r ≡ q → (r.x ≡ q.x) × (r.y ≡ q.y) × (r.width ≡ q.width) × (r.height ≡ q.height)
parts_of is = rw is (refl, refl, refl, refl)

shape_more : {r s t : Screen} → KeepsSizeAndVisibility r s → KeepsSizeAndVisibility s t → KeepsSizeAndVisibility r t
shape_more p q = record { width = q.width ∙ p.width; height = q.height ∙ p.height; visible = q.visible ∙ p.visible }

module _ {B : Type 0} (screen : B → Screen) (s : TerminalData B) (inserted : BufferData)
    (over : inserted.area ≡ inserted_area s inserted.area.height) (known : 0 < s.last_known_area.height) where
  module _ (takes : TakesRows screen s) where
    same_height : s.last_known_area.height ≡ (screen s.backend).height
    same_height = sym (ap (λ (r : Rect). r.height) takes.known)

    wide : inserted.area.width ≡ (screen s.backend).width
    wide = ap (λ (r : Rect). r.width) over ∙ takes.width

    fits_first : RowsFit inserted 1 0 (screen s.backend)
    fits_first = record { width = wide; bottom = omega (arith, same_height) }

    has_place : IsInStep screen s → HasPlaceAbove inserted s.viewport_area s.last_known_area.height (screen s.backend)
    has_place step = record {
      width = wide;
      height = same_height;
      viewport = omega (arith, step.on_screen.bottom, same_height);
    }

  -- above a viewport that covers the screen
  module _ (covers : s.last_known_area.height ≤ s.viewport_area.height) (some : 0 < inserted.area.height) (mid b : B)
      (shape_mid : KeepsSizeAndVisibility (screen s.backend) (screen mid)) (shape : KeepsSizeAndVisibility (screen mid)
      (screen b))
      (pushed : PushesRows inserted (screen s.backend) (screen mid))
      {m : ℕ} (blank : BufferData) (is : IsBlankFor m inserted blank) (redrawn : s.previous.area ≡ s.viewport_area
      → DrawsRows blank s.previous 0 1 0 (screen mid) (screen b)) where
    both : KeepsSizeAndVisibility (screen s.backend) (screen b)
    both = shape_more shape_mid shape

    module _ (takes : TakesRows screen s) (step : IsInStep screen s) (settled : IsSettledBuffer inserted) where
      at_top : s.viewport_area.y ≡ 0
      at_top = omega (arith, step.on_screen.bottom, same_height takes)

      has_pushed : HasPushed inserted inserted.area.height (screen s.backend) (screen mid)
      has_pushed = pushed (fits_first takes) settled

      shown : ShowsRows s.previous 0 1 0 (screen mid) (screen b)
      shown =
          let area = parts_of step.area in
          let columns : blank.area.width ≡ s.viewport_area.width = sym is.width ∙ ap (λ (r : Rect). r.width) over in
          rows_shown blank s.previous (area.2 ∙ sym columns) 0 1 0 (omega arith) (redrawn step.area) (record {
            fit = record {
              width = area.2 ∙ takes.width ∙ sym shape_mid.width;
              bottom = omega (arith, shape_mid.height, same_height takes);
            };
            inside = omega (arith, area.3);
            settled = step.settled;
            shown = blank_first blank 1 0 (screen mid) is.empty (columns ∙ takes.width ∙ sym shape_mid.width)
                (has_pushed.blank some);
          })

      above_now : AppendsPart inserted 0 inserted.area.height (rows_above (screen s.backend) 0) (rows_above (screen b) 0)
      above_now = subst (AppendsPart inserted 0 inserted.area.height (rows_above (screen s.backend) 0))
          (ap (λ h. h ++ []) (sym shown.history)) has_pushed.above

      -- all of its rows but the first are as they were
      pub pushing_redrawn : IsPushing inserted (screen s.backend) (screen b)
      pushing_redrawn = record {
        count = inserted.area.height;
        inside = omega arith;
        shape = both;
        above = above_now;
        below = λ x y x_in y_in low. shown.outside x y (inr (omega arith)) ∙ has_pushed.below x y x_in y_in low;
      }

      -- each column of the viewport shows what it did
      shown_again : ShowsBuffer s.previous (screen b).grid
      shown_again = record {
        at = λ x y x_in y_in.
            let area = parts_of step.area in
            let column : s.previous.area.x + x ≡ x = omega (arith, area.0, step.on_screen.right, takes.width) in
            let row : s.previous.area.y + y ≡ y = omega (arith, area.1, at_top) in
            elim (cases_lt 0 y) [
              | inl low ↦
                  let same : (screen b).grid x y ≡ (screen s.backend).grid x y = shown.outside x y (inr (omega arith))
                  ∙ has_pushed.below x y (omega (arith, area.2, takes.width))
                  (omega (arith, area.3, step.on_screen.bottom)) low in
                  rw (column, row) (subst (ShowsColumn s.previous.area.width s.previous.cells x y) (sym same)
                  (rw (column, row) at (step.shown.at x y x_in y_in)))
              | inr first ↦
                  let zero_row : y ≡ 0 = omega arith in
                  rw (column, row, zero_row) (shown.shown x 0 x_in (omega arith))
            ];
      }

    pub inserted_covered : Inserts screen inserted s (record s { backend = b })
    inserted_covered = record {
      rest = refl;
      over = over;
      top = omega arith;
      current = stays_put s.viewport_area s.current;
      previous = stays_put s.viewport_area s.previous;
      shape = both;
      above = λ takes step settled.
          rw (at_top takes step settled) (AppendsRows-part inserted _ _ _ refl (above_now takes step settled));
      below = λ takes step settled blank.
          record { at = λ x y x_in y_in past. absurd (omega (arith, both.height, same_height takes)) };
      moved = λ takes step settled lower a b a_in b_in. absurd (omega arith);
      kept = λ takes step settled a b a_in b_in past. absurd (omega (arith, same_height takes));
      left = λ takes step. ap (λ r. record s.previous { area = r }) step.area;
      in_step = λ takes step settled. record {
        on_screen = record {
          right = omega (arith, step.on_screen.right, both.width);
          bottom = omega (arith, step.on_screen.bottom, both.height);
        };
        area = step.area;
        settled = step.settled;
        shown = shown_again takes step settled;
      };
      few = λ takes step settled narrow.
          let covered : (if nat_lt s.viewport_area.height s.last_known_area.height then 0
          else 2 * inserted.area.width) ≡ 2 * inserted.area.width = grind (arith, nat_tests) in
          let once : min inserted.area.height 1 * inserted.area.width ≡ inserted.area.width = ap (λ m. m * inserted.area.width)
          (let one : min inserted.area.height 1 ≡ 1 = omega arith in one) ∙ omega arith in
          writes_then _ _ _ (screen s.backend) (screen mid) (screen b) (omega (arith, covered, once, is.width))
          ((has_pushed takes step settled).few narrow) (writes_rows (redrawn step.area));
      most = λ takes step settled.
          let covered : (if nat_lt s.viewport_area.height s.last_known_area.height then 0
          else inserted.area.width) ≡ inserted.area.width = grind (arith, nat_tests) in
          writes_then _ _ _ (screen s.backend) (screen mid) (screen b) (omega (arith, covered, is.width))
          (has_pushed takes step settled).most (writes_rows (redrawn step.area));
    }

  -- above one that doesn't: first it moves down, then the rows above it move up
  module _ (n : ℕ) (n_is : n ≡ rows_down inserted.area.height s.viewport_area s.last_known_area.height) (mid b : B)
      (current previous : BufferData)
      (shape_mid : KeepsSizeAndVisibility (screen s.backend) (screen mid))
      (down : InsertsDown inserted s.viewport_area s.last_known_area.height (screen s.backend) (screen mid) n)
      (with_current : Follows s.viewport_area (record s.viewport_area { y = s.viewport_area.y + n }) s.current current)
      (with_older : Follows s.viewport_area (record s.viewport_area { y = s.viewport_area.y + n }) s.previous previous) where
    abbrev pub moved : TerminalData B
    moved = record s {
      backend = b;
      current = current;
      previous = previous;
      viewport_area = record s.viewport_area { y = s.viewport_area.y + n };
    }

    module _ (takes : TakesRows screen s) (step : IsInStep screen s) where
      fits : s.viewport_area.y + n + s.viewport_area.height ≤ (screen s.backend).height
      fits = omega (arith, n_is, step.on_screen.bottom, same_height takes)

      left_older : previous ≡ record s.previous { area = record s.viewport_area { y = s.viewport_area.y + n } }
      left_older = with_older.rest ∙ ap (λ r. record s.previous { area = r }) (with_older.area.moved step.area)

      lowered : IsSettledBuffer inserted → HasLowered inserted n s.viewport_area (screen s.backend) (screen mid)
      lowered = down (has_place takes step)

    module _ (shape : KeepsSizeAndVisibility (screen mid) (screen b))
        (up : InsertsUp inserted n (s.viewport_area.y + n) (screen mid) (screen b)) where
      all : KeepsSizeAndVisibility (screen s.backend) (screen b)
      all = shape_more shape_mid shape

      module _ (takes : TakesRows screen s) (step : IsInStep screen s) (settled : IsSettledBuffer inserted) where
        raised : HasRaised inserted n (inserted.area.height - n) (s.viewport_area.y + n) (screen mid) (screen b)
        raised = up (wide takes ∙ sym shape_mid.width) (omega (arith, fits takes step, shape_mid.height)) settled

        -- what lies at the viewport's new top or below it is as it was before the rows above moved
        stays_below : (x y : ℕ) → x < (screen s.backend).width → y < (screen s.backend).height → s.viewport_area.y + n ≤ y
            → (screen b).grid x y ≡ (screen mid).grid x y
        stays_below x y x_in y_in low = raised.below x y (omega (arith, shape_mid.width)) (omega (arith, shape_mid.height)) low

        -- a row of the viewport is where it went
        viewport_moved : (x y : ℕ) → x < (screen s.backend).width → y < s.viewport_area.height
            → (screen b).grid x (s.viewport_area.y + n + y) ≡ (screen s.backend).grid x (s.viewport_area.y + y)
        viewport_moved x y x_in y_in = stays_below x _ x_in (omega (arith, fits takes step)) (omega arith)
            ∙ (lowered takes step settled).moved x y x_in y_in

        -- and what lies below it where it was
        viewport_kept : (x y : ℕ) → x < (screen s.backend).width → y < (screen s.backend).height
            → s.viewport_area.y + n + s.viewport_area.height ≤ y → (screen b).grid x y ≡ (screen s.backend).grid x y
        viewport_kept x y x_in y_in past = stays_below x y x_in y_in (omega arith)
            ∙ (lowered takes step settled).below x y x_in y_in past

        moved_in_step : IsInStep screen moved
        moved_in_step =
            let e = left_older takes step in
            let before = rw step.area at step.shown in
            let shown : ShowsBuffer (record s.previous { area = record s.viewport_area { y = s.viewport_area.y + n } })
            (screen b).grid = record {
              at = λ x y x_in y_in. subst (ShowsColumn s.viewport_area.width s.previous.cells x y)
                  (sym (viewport_moved (s.viewport_area.x + x) y (omega (arith, step.on_screen.right)) y_in))
                  (before.at x y x_in y_in);
            } in
            record {
              on_screen = record {
                right = omega (arith, step.on_screen.right, all.width);
                bottom = omega (arith, fits takes step, all.height);
              };
              area = ap (λ (o : BufferData). o.area) e;
              settled = subst IsSettledBuffer (sym e) (rw step.area at step.settled);
              shown = subst (λ o. ShowsBuffer o (screen b).grid) (sym e) shown;
            }

      pub inserted_moved : Inserts screen inserted s moved
      inserted_moved =
          let parts : n + (inserted.area.height - n) ≡ inserted.area.height = omega (arith, n_is) in
          record {
            rest = refl;
            over = over;
            top = ap (λ k. s.viewport_area.y + k) n_is;
            current = with_current;
            previous = with_older;
            shape = all;
            above = λ takes step settled.
                AppendsRows-part inserted inserted.area.height _ _ refl
                (parts_join (lowered takes step settled).above (raised takes step settled).above (omega arith)
                (omega (arith, n_is)));
            below = λ takes step settled blank. record {
              at = λ x y x_in y_in past.
                  let x_low : x < (screen s.backend).width = omega (arith, all.width) in
                  let y_low : y < (screen s.backend).height = omega (arith, all.height) in
                  viewport_kept takes step settled x y x_low y_low past ∙ blank.at x y x_low y_low (omega arith);
            };
            left = left_older;
            moved = λ takes step settled lower. viewport_moved takes step settled;
            kept = viewport_kept;
            in_step = moved_in_step;
            few = λ takes step settled narrow.
                let rest = inserted.area.height - n in
                let cells : nonempty_cells inserted 0 inserted.area.height ≡ nonempty_cells inserted 0 n
                + nonempty_cells inserted n rest = ap (nonempty_cells inserted 0) (sym parts) ∙ nonempty_parts inserted 0 n rest
                ∙ ap (λ k. nonempty_cells inserted 0 n + nonempty_cells inserted k rest) (omega arith) in
                writes_then _ _ _ (screen s.backend) (screen mid) (screen b) (omega (arith, cells))
                ((lowered takes step settled).few narrow) ((raised takes step settled).few narrow);
            most = λ takes step settled.
                let cells : inserted.area.width * inserted.area.height ≡ inserted.area.width * n + inserted.area.width *
                (inserted.area.height - n) = ap (λ h. inserted.area.width * h) (sym parts) ∙ omega arith in
                writes_then _ _ _ (screen s.backend) (screen mid) (screen b) (omega (arith, cells))
                (lowered takes step settled).most (raised takes step settled).most;
          }

    -- a backend failed after that move
    pub stopped_moved : (stops_at : B → B → Type 0)
        → FailsAfter stops_at (λ q. StartsRaising inserted n (s.viewport_area.y + n) (screen mid) (screen q)) b
        → StopsInserting screen stops_at inserted s moved
    stopped_moved stops_at fails = record {
      rest = refl;
      moved = inr (record {
        top = ap (λ k. s.viewport_area.y + k) n_is;
        between = mid;
        lowered = λ takes step settled. subst (λ k. HasLowered inserted k s.viewport_area (screen s.backend) (screen mid)) n_is
            (lowered takes step settled);
        stopped = fails_weaker (λ q raising takes step settled.
            subst (λ k. IsRaising inserted k (s.viewport_area.y + n) (screen mid) (screen q)) n_is
            (raising (wide takes ∙ sym shape_mid.width) (omega (arith, fits takes step, shape_mid.height)) settled)) fails;
      });
      current = with_current;
      previous = with_older;
    }

  -- a backend failed before that move, or while rows were pushed off
  module _ (stops_at : B → B → Type 0) where
    stopped_in_place : (b : B) → FailsAfter stops_at (λ q. TakesRows screen s → IsInStep screen s → IsSettledBuffer inserted
        → IsBeginning screen inserted s (screen q)) b → StopsInserting screen stops_at inserted s (record s { backend = b })
    stopped_in_place b fails = search (rules, stays_put)

    pub stopped_lowering : s.viewport_area.height < s.last_known_area.height → (b : B)
        → FailsAfter stops_at (λ q. StartsLowering inserted s.viewport_area s.last_known_area.height (screen s.backend)
        (screen q)) b → StopsInserting screen stops_at inserted s (record s { backend = b })
    stopped_lowering lower b fails = stopped_in_place b (fails_weaker (λ q lowering takes step settled. record {
      pushing = λ covers. absurd (omega (arith, covers, lower));
      lowering = λ same. lowering (has_place takes step) settled;
    }) fails)

    module _ (covers : s.last_known_area.height ≤ s.viewport_area.height) where
      stopped_pushing : (b : B) → FailsAfter stops_at (λ q. TakesRows screen s → IsInStep screen s → IsSettledBuffer inserted
          → IsPushing inserted (screen s.backend) (screen q)) b
          → StopsInserting screen stops_at inserted s (record s { backend = b })
      stopped_pushing b fails = stopped_in_place b (fails_weaker (λ q pushing takes step settled. record {
        pushing = λ same. pushing takes step settled;
        lowering = λ lower. absurd (omega (arith, covers, lower));
      }) fails)

      -- while they were pushed
      pub stopped_in_push : (b : B) → FailsAfter stops_at (λ q. StartsPushing inserted (screen s.backend) (screen q)) b
          → StopsInserting screen stops_at inserted s (record s { backend = b })
      stopped_in_push b fails =
          stopped_pushing b (fails_weaker (λ q starts takes step settled. starts (fits_first takes) settled) fails)

      -- after all were
      module _ (mid b : B) (pushed : PushesRows inserted (screen s.backend) (screen mid)) where
        still_pushed : TakesRows screen s → IsSettledBuffer inserted → IsPushing inserted (screen s.backend) (screen mid)
        still_pushed takes settled = still_pushing inserted inserted.area.height (screen s.backend) (screen mid) (omega arith)
            (pushed (fits_first takes) settled)

        pub stopped_after_push : stops_at mid b → StopsInserting screen stops_at inserted s (record s { backend = b })
        stopped_after_push stop = stopped_pushing b (record {
          before = mid;
          was = λ takes step settled. still_pushed takes settled;
          stopped = stop;
        })

        -- while the first row was drawn again
        pub stopped_redrawing : 0 < inserted.area.height → KeepsSizeAndVisibility (screen s.backend) (screen mid)
            → {m : ℕ} (blank : BufferData) → IsBlankFor m inserted blank
            → FailsAfter stops_at (λ q. (screen q ≡ screen mid) ⊎ DrawsRows blank s.previous 0 1 0 (screen mid) (screen q)) b
            → StopsInserting screen stops_at inserted s (record s { backend = b })
        stopped_redrawing some shape_mid blank is fails =
            stopped_pushing b (fails_weaker (λ q drew takes step settled. elim drew [
              | inl same ↦ subst (IsPushing inserted (screen s.backend)) (sym same) (still_pushed takes settled)
              | inr drawn ↦
                  pushing_redrawn covers some mid q shape_mid
                  (record { width = drawn.drawn.width; height = drawn.drawn.height; visible = drawn.drawn.visible })
                  pushed blank is (λ same. drawn) takes step settled
            ]) fails)

module _ {B : Type 0} (screen : B → Screen) where
  -- no rows
  pub inserted_none : (s : TerminalData B) (inserted : BufferData) (height : ℕ) → inserted.area ≡ inserted_area s height
      → height ≡ 0 → Inserts screen inserted s s
  inserted_none s inserted height over none =
      let same : inserted.area.height ≡ height = ap (λ (r : Rect). r.height) over in
      let flat : inserted.area.height ≡ 0 = same ∙ none in
      record {
        rest = refl;
        over = over ∙ ap (inserted_area s) (sym same);
        top = omega (arith, flat);
        current = stays_put s.viewport_area s.current;
        previous = stays_put s.viewport_area s.previous;
        shape = record { width = refl; height = refl; visible = refl };
        above = λ takes step settled. AppendsRows-part inserted 0 _ _ (sym flat) (no_part inserted 0 (rows_over screen s));
        below = λ takes step settled blank. blank;
        left = λ takes step. ap (λ r. record s.previous { area = r }) step.area;
        in_step = λ takes step settled. step;
        moved = λ takes step settled lower a b a_in b_in. refl;
        kept = λ takes step settled a b a_in b_in past. refl;
        few = λ takes step settled narrow room. omega arith;
        most = λ takes step settled room. omega arith;
      }

  nothing : {s t : TerminalData B} {h k : ℕ} → 0 < h → 0 < k → (h ≡ 0) ⊎ (k ≡ 0) → t ≡ s
  nothing low some (inl none) = absurd (omega (arith, low, none))
  nothing low some (inr none) = absurd (omega (arith, some, none))

  -- rows that a closure filled were inserted, or a backend failed on the way
  pub inserted_by : (stops_at : B → B → Type 0) {T E : Type 0} (result : Result T (TerminalError E)) (area : Rect)
      (filled : Result (Unit {0}) AllocError → BufferData → Type 0) (inserted : BufferData) (s t : TerminalData B)
      → filled (Ok tt) inserted → inserted.area ≡ area → 0 < s.last_known_area.height → 0 < area.height
      → OnOk result (Inserts screen inserted s t) → OnErr result (StopsInserting screen stops_at inserted s t)
      → FailsOnlyByBackend result → InsertsBy screen stops_at area filled s t result
  inserted_by stops_at (Ok answer) area filled inserted s t closure over known some ok err only =
      record { inserted = inserted; closure = closure; over = over; none = nothing known some; inserts = λ more. ok }
  inserted_by stops_at (Err (Backend error)) area filled inserted s t closure over known some ok err only =
      record { inserted = inserted; closure = closure; over = over; known = known; stops = err }
  inserted_by stops_at (Err Memory) area filled inserted s t closure over known some ok err only = absurd only
  inserted_by stops_at (Err Area) area filled inserted s t closure over known some ok err only = absurd only
  inserted_by stops_at (Err (Closure error)) area filled inserted s t closure over known some ok err only = absurd only

-- an empty current buffer moves with the viewport
pub emptied-moved : {B : Type 0} (screen : B → Screen) (inserted : BufferData) (s t : TerminalData B)
    → Inserts screen inserted s t → IsEmptied s.viewport_area s.current → IsEmptied t.viewport_area t.current
emptied-moved {B} screen inserted s t inserts empty =
    let area : t.viewport_area ≡ record s.viewport_area { y = t.viewport_area.y } =
    ap (λ (x : TerminalData B). x.viewport_area) inserts.rest in
    record {
      area = inserts.current.area.moved empty.area;
      cells = ap (λ (x : BufferData). x.cells) inserts.current.rest ∙ empty.cells ∙ ap empty_cells (sym (ap area_size area));
    }
