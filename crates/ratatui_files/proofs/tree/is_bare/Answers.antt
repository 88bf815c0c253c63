use Rattle.std.proofs.Common.{◌≡◌, true, false, not, ap, rules}
use Rattle.std.specs.Prelude.{is_some}
use Rattle.std.proofs.lemmas.Iterator.{cases_from_any, YieldsList-from_slice}
use borrow.Author.Tests.{tests}
use Rattle.ratatui_files.specs.declared.node.Entry.{Entry}
use Rattle.ratatui_files.specs.Paths.{name_in}
use Rattle.ratatui_files.proofs.TreeLemmas.{any-tested}
use Rattle.ratatui_files.proofs.tree.is_bare.Goals as goal

pub returns : goal.returns
returns c =
    ap not (any-tested (λ (e : Entry). is_some (name_in c.args.folder.now e.path)) c.args.entries.now c.any.result
    (cases_from_any _ _ _ (λ (e : Entry). is_some (name_in c.args.folder.now e.path) ≡ true)
    (λ e. is_some (name_in c.args.folder.now e.path) ≡ false) c.any.ensures.ran
    (YieldsList-from_slice c.args.entries.now c.iter.ensures.rest) (λ x q k. search (rules, tests)) (λ x q k. search (rules, tests))))
