use Rattle.std.proofs.Common.{sym, ap, ◌∙◌, length, map}
use Rattle.ratatui_files.specs.Paths.{moved_path}
use Rattle.ratatui_files.specs.Inner.{with_paths}
use Rattle.ratatui_files.proofs.TreeLemmas.{renamed-written}
use Rattle.ratatui_files.proofs.change.rename.Goals as goal

pub returns-clause-ok : goal.returns-clause-ok
returns-clause-ok c =
    renamed-written c.args.from.now c.args.to.now _ c.args.entries.now.items c.give_paths.new.entries c.in_ok-paths.paths.items
    (sym c.as_mut_slice.ensures.len ∙ ap length c.as_mut_slice.ensures.value)
    (c.give_paths.ensures ∙ ap (λ t. with_paths t c.in_ok-paths.paths.items) c.as_mut_slice.ensures.value)
    (c.in_ok-paths.ensures ∙ ap (map (λ e. moved_path c.args.from.now c.args.to.now e.path)) c.as_slice.ensures.value)
