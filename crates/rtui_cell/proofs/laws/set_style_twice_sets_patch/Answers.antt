use Rattle.rtui_style.specs.Style.{patch}
use Rattle.rtui_cell.specs.Cell.{styled}
use Rattle.rtui_cell.proofs.CellLemmas.{same_but_paint}
use Rattle.rtui_cell.proofs.laws.set_style_twice_sets_patch.Goals as goal

pub returns : goal.returns
returns c =
    let law = c.styling_twice_is_patching.ensures in
    let cell = c.args.cell.now in
    let first = c.args.first in
    let second = c.args.second in
    same_but_paint (styled second (styled first cell)) (styled (patch first second) cell) cell
    (law.colors first.fg second.fg cell.fg)
    (law.colors first.bg second.bg cell.bg) (law.colors first.underline_color second.underline_color cell.underline_color)
    (law.modifiers cell.modifier (rw c.style.ensures at c.modifiers_have_sixteen_bits.ensures.added))
