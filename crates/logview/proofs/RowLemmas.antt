-- One more line and its row.
use Rattle.std.proofs.Common.{ℕ, List, [], ◌∷◌, ◌++◌}
use Rattle.ratatui_core.specs.{Buffer.Look, Terminal.IsRowOf}
use Rattle.logview.specs.Rows.{AreRowsOfLines}

pub rows_more : (width : ℕ) (line : List ℕ) (row : List Look) (lines : List (List ℕ)) (rows : List (List Look))
    → AreRowsOfLines width lines rows → IsRowOf width line row → AreRowsOfLines width (lines ++ line ∷ []) (rows ++ row ∷ [])
rows_more width line row [] [] are is = (is, tt)
rows_more width line row [] (r ∷ rows) are is = absurd are
rows_more width line row (l ∷ lines) [] are is = absurd are
rows_more width line row (l ∷ lines) (r ∷ rows) are is = (are.0, rows_more width line row lines rows are.1 is)
