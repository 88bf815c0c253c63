use Rattle.std.proofs.Common.{ℕ, ◌+◌, ◌*◌, ◌∷◌, [], List, map}
use Rattle.std.proofs.lemmas.{List.map-append, List.Elements.All-push}
use Rattle.std.specs.List.{range_with_len}
use Rattle.rtui_cell.specs.Look.{Look, look_of}
use Rattle.rtui_backend.specs.CellGrid.{look_at, AreUnmarked}
use Rattle.rtui_backend.proofs.ShiftLemmas.{looks_pushed}
use Rattle.rtui_backend.proofs.test.scroll.copied_rows.Goals as goal

pub loop-b-preserved : goal.loop-b-preserved
loop-b-preserved c =
    let row : ℕ → List Look = λ b. map (λ a. look_at c.args.cells.now (b * c.args.width + a)) (range_with_len 0 c.args.width) in
    record {
      looks = looks_pushed (λ r. map look_of r.items) row c.loop-b.rows.items _ _ c.loop-b.b c.in_ok-push.ensures.items
          c.loop-b.invariant.looks (rw c.from.ensures at c.in_ok-copied_row.ensures.looks);
      unmarked = λ plain.
          rw (c.in_ok-push.ensures.items, map-append (λ r. r.items) c.loop-b.rows.items (c.in_ok-copied_row.field-0 ∷ []))
          (All-push AreUnmarked (map (λ r. r.items) c.loop-b.rows.items) c.in_ok-copied_row.field-0.items
          (c.loop-b.invariant.unmarked plain) (c.in_ok-copied_row.ensures.unmarked plain));
    }
