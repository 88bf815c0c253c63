-- Reads that are pieces of a list.
use Rattle.std.specs.Prelude.{ℕ, List, ◌++◌, map, option_map, option_to_list}
use Rattle.ratatui_reads.specs.declared.source.Pieces.{Pieces}

-- the bytes of what is left of a piece, and of the pieces after it
abbrev pub pieces_left : Pieces → List (List ℕ)
pieces_left p = option_to_list (option_map (λ rest. rest.now) p.rest) ++ map (λ piece. piece.now) p.pieces.now
