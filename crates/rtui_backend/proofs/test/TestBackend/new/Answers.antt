use Rattle.std.proofs.Common.{refl, arith}
use Rattle.std.proofs.lemmas.Grind.{common_steps}
use Rattle.rtui_backend.proofs.LineLemmas.{grid_of-empty}
use Rattle.rtui_backend.proofs.test.TestBackend.new.Goals as goal

pub returns-clause-screen : goal.returns-clause-screen
returns-clause-screen c =
    let made = c.in_ok-empty.ensures.emptied in
    record {
      history = grind (arith, common_steps);
      width = grind (arith, common_steps);
      height = grind (arith, common_steps);
      grid = λ a b. rw made.cells (grid_of-empty _ _ a b);
      cursor = refl;
      visible = refl;
      written = refl;
    }
