use Rattle.std.proofs.Common.{◌++◌, ◌∷◌, [], ap, sym, ◌∙◌}
use Rattle.ratatui_files.specs.Trees.{info_in}
use Rattle.ratatui_files.proofs.TreeLemmas.{filter_map_more-none, filter_map_more-some}
use Rattle.ratatui_files.proofs.change.entries_in.Goals as goal

pub loop-entry-preserved-in_default : goal.loop-entry-preserved-in_default
loop-entry-preserved-in_default c =
    c.loop-entry.invariant
    ∙ sym (filter_map_more-none (info_in c.args.folder.now) c.args.entries.now c.loop-entry.entry-index c.entry-item.result
    c.loop-entry-test.true c.entry-item.is (sym c.in_ok-info.ensures ∙ c.in_default.is))

pub loop-entry-preserved : goal.loop-entry-preserved
loop-entry-preserved c =
    c.in_ok-push.ensures.items ∙ ap (λ xs. xs ++ c.in-Some.info ∷ []) c.loop-entry.invariant
    ∙ sym (filter_map_more-some (info_in c.args.folder.now) c.args.entries.now c.loop-entry.entry-index c.entry-item.result
    c.in-Some.info c.loop-entry-test.true c.entry-item.is (sym c.in_ok-info.ensures ∙ c.in-Some.is))
