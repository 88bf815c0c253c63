use Rattle.std.proofs.Common.{◌≡◌, ◌-◌, ◌*◌, length, arith}
use Rattle.std.proofs.lemmas.Grind.{common_steps}
use Rattle.rtui_backend.proofs.SizeLemmas.{row-looks}
use Rattle.rtui_backend.proofs.test.TestBackend.buffer.Goals as goal

pub returns-clause-rows : goal.returns-clause-rows
returns-clause-rows c = λ b b_in.
    let sheet = c.args.self.now.buffer in
    let top : b - sheet.area.y ≡ b = grind (arith, common_steps) in
    let count : length sheet.cells ≡ sheet.area.width * sheet.area.height = grind (arith, common_steps) in
    rw top (row-looks sheet.area.width sheet.area.height b sheet.cells count b_in)
