use Rattle.std.proofs.Common.{sym, ap, ◌∙◌}
use Rattle.ratatui_files.specs.Paths.{is_name, is_path}
use Rattle.ratatui_files.proofs.PathLemmas.{is_path-named}
use Rattle.ratatui_files.proofs.path.Path.entry.Goals as goal

pub invariant_of-result : goal.invariant_of-result
invariant_of-result c =
    is_path-named c.as_str.result.now c.args.name.now _ (ap is_path c.as_str.ensures.value ∙ c.self.invariant) (ap is_name (sym c.as_bytes.ensures.value) ∙ sym c.if-not-is_name.ensures) c.in_ok-text.ensures
