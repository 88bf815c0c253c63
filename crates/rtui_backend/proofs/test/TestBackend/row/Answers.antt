use Rattle.std.proofs.Common.{ap, ◌∙◌, arith}
use Rattle.std.proofs.lemmas.Bool.Decides.{nat_tests}
use Rattle.rtui_backend.proofs.SizeLemmas.{row-look}
use Rattle.rtui_backend.proofs.test.TestBackend.row.Goals as goal

pub returns-clause-symbols : goal.returns-clause-symbols
returns-clause-symbols c = λ a a_in.
    rw (c.from.ensures, c.from-width.ensures, c.area.ensures.area, c.content.ensures.cells)
    (ap (λ l. l.symbol) (row-look _ _ a c.args.self.now.buffer.cells (omega arith)) ∙ grind (arith, nat_tests))
