use Rattle.std.proofs.Common.{◌≡◌, true, false, not, ◌&&◌, ◌||◌, ap, ◌∙◌, rules}
use Rattle.std.specs.Prelude.{is_some}
use Rattle.std.specs.List.{list_any}
use Rattle.std.proofs.lemmas.Iterator.{cases_from_any, YieldsList-from_slice}
use borrow.Author.Tests.{tests}
use Rattle.ratatui_files.specs.declared.node.Entry.{Entry}
use Rattle.ratatui_files.specs.Paths.{name_in}
use Rattle.ratatui_files.specs.Trees.{is_file}
use Rattle.ratatui_files.proofs.TreeLemmas.{any-tested}
use Rattle.ratatui_files.proofs.tree.has_folder.Goals as goal

pub returns-else-is_named_in : goal.returns-else-is_named_in
returns-else-is_named_in c =
    any-tested (λ (e : Entry). not (is_file e.node) && is_some (name_in e.path c.args.path.now)) c.args.entries.now c.any.result
    (cases_from_any _ _ _ (λ (e : Entry). (not (is_file e.node) && is_some (name_in e.path c.args.path.now)) ≡ true)
    (λ e. (not (is_file e.node) && is_some (name_in e.path c.args.path.now)) ≡ false) c.any.ensures.ran
    (YieldsList-from_slice c.args.entries.now c.iter.ensures.rest) (λ x q k. search (rules, tests)) (λ x q k. search (rules, tests)))
    ∙ ap (λ b. b || list_any (λ (e : Entry). not (is_file e.node) && is_some (name_in e.path c.args.path.now)) c.args.entries.now)
    c.if-is_named_in.ensures
