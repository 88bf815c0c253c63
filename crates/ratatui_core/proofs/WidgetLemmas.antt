-- What the author of a widget cites: the part of an area that a buffer has, and what stays within an area.
pub use Rattle.rtui_widgets.proofs.WithinLemmas.{within-then, within-styled}
-- What changes over that part alone, and a line on a bar there.
pub use Rattle.rtui_widgets.proofs.PartLemmas.{OnPart-none, OnPart-clipped, OnPart-whole, line-on-bar}
-- A text on an empty buffer, which has a first row and stays settled.
pub use Rattle.rtui_widgets.proofs.SettledLemmas.{has-first-row, text-settled}
-- The elements of a list, from one on.
pub use Rattle.rtui_geometry.proofs.Lists.{element-next}
-- What holds whatever a call answers holds if it fails.
pub use Rattle.rtui_backend.proofs.FailureLemmas.{holds_anyway}
