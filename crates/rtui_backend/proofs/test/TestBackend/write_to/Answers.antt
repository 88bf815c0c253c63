use Rattle.std.proofs.Common.{codes, map, ap, sym, ◌∙◌}
use Rattle.std.specs.List.{flat_map}
use Rattle.std.proofs.lemmas.List.Folds.{flat_map-map}
use Rattle.rtui_cell.specs.Look.{look_of}
use Rattle.rtui_backend.specs.Print.{printed_row}
use Rattle.rtui_backend.proofs.PrintLemmas.{written_behind}
use Rattle.rtui_backend.proofs.test.TestBackend.write_to.Goals as goal

pub returns : goal.returns
returns g c =
    let rows = sym (flat_map-map (printed_row (codes "^")) (λ row. map look_of row.items) c.scrollback.result.now) in
    written_behind c.write_rows.result _ _ _ _ _ _ (rows ∙ ap (flat_map (printed_row (codes "^"))) c.scrollback.ensures.looks)
    c.in_ok-write_history.ensures c.write_rows.ensures
