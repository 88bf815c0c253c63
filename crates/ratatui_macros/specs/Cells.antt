-- Cells of tables, as they begin.
use Rattle.ratatui_core.specs.{Style.new_style, Text.TextData}
use Rattle.widget_table.specs.{declared.cell.Cell.Cell}

-- a cell of this text without a style of its own
abbrev pub plain_cell : TextData → Cell
plain_cell text = record { content = text; style = new_style }
