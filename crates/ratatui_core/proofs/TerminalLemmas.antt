-- What an application over one row cites: a text drawn there, inserted above it, and the start.
pub use Rattle.rtui_terminal.proofs.TextRowLemmas.{over-takes, inserts-row-if, draws-row, refused-by-backend-if}
pub use Rattle.rtui_terminal.proofs.TextRowLemmas.{inserts-and-draws, starts-sized, starts-areas, starts-over-row}
pub use Rattle.rtui_terminal.proofs.TextRowLemmas.{starts-and-draws, refused-start}
