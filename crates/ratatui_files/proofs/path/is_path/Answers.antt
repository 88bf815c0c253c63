use Rattle.std.proofs.Common.{◌≡◌, ℕ, List, true, false, rules}
use Rattle.std.proofs.lemmas.Iterator.{cases_from_all}
use Rattle.std.proofs.lemmas.Iterator.Splits.{YieldsList-from_slice_split}
use Rattle.std.specs.List.{slice_split}
use borrow.Author.Tests.{tests}
use Rattle.ratatui_files.specs.Paths.{is_name, is_slash}
use Rattle.ratatui_files.proofs.PathLemmas.{all-tested, is_path-parts}
use Rattle.ratatui_files.proofs.path.is_path.Goals as goal

pub returns-else-is_empty : goal.returns-else-is_empty
returns-else-is_empty c =
    is_path-parts c.args.text.now c.all.result c.is_empty.result c.is_empty.ensures c.if-is_empty.false
    (all-tested is_name (slice_split is_slash c.args.text.now) c.all.result
    (cases_from_all _ _ _ (λ (x : List ℕ). is_name x ≡ true) (λ x. is_name x ≡ false) c.all.ensures.ran
    (YieldsList-from_slice_split _ is_slash c.args.text.now c.split.ensures.rest c.split.ensures.done c.split.ensures.closure
    (λ x r q k. search (rules, tests)))
    (λ x q k. search (rules, tests)) (λ x q k. search (rules, tests))))
