-- What the author of a backend cites: colours and modifiers that `==` finds equal are the same.
pub use Rattle.rtui_cell.proofs.CellLemmas.{same_color, same_modifier}
