-- How a diff goes by a cell: the options by their names.
pub use Rattle.rtui_cell.specs.declared.cell.CellDiffOption.TheVariants.{None, Skip, AlwaysUpdate}
pub use Rattle.rtui_cell.specs.declared.cell.CellDiffOption.TheVariants.{ForcedWidth}
