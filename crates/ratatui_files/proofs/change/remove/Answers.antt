use Rattle.std.proofs.Common.{◌≡◌, not, refl, rules}
use borrow.Author.Tests.{tests}
use Rattle.ratatui_files.specs.Trees.{stands_at}
use Rattle.ratatui_files.proofs.TreeLemmas.{filtered-while}
use Rattle.ratatui_files.proofs.change.remove.Goals as goal

pub returns-clause-items : goal.returns-clause-items
returns-clause-items c =
    filtered-while _ (λ p. p.0.now ≡ c.args.path.now) (λ e. not (stands_at c.args.path.now e))
    (λ p x b q i h. search (rules, tests)) _ _ _ refl c.retain.ensures.filtered
