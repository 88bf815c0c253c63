use Rattle.std.proofs.Common.{◌∙◌, ap, ◌++◌, arith}
use Rattle.ratatui_ansi.specs.Settings.{undo_bytes}
use Rattle.ratatui_ansi.proofs.UndoLemmas.{undone-left, undone-back}
use Rattle.ratatui_ansi.proofs.backend.farewell.Goals as goal

pub returns-then-is_on_alternate-clause-back : goal.returns-then-is_on_alternate-clause-back
returns-then-is_on_alternate-clause-back c = λ on old.
    undone-back c.args.settings old c.closing_alternate.result.now _ (omega arith) c.closing_alternate.ensures.back
    (c.push_str.ensures.bytes ∙ ap (λ xs. xs ++ c.closing_alternate.result.now) c.undo-text.ensures.bytes)

pub returns-else-is_on_alternate-clause-left : goal.returns-else-is_on_alternate-clause-left
returns-else-is_on_alternate-clause-left c = λ off old.
    undone-left c.args.settings c.args.height old c.leaving.result.bytes _ (omega arith) c.leaving.ensures
    (c.push_str-else-is_on_alternate.ensures.bytes ∙ ap (λ xs. xs ++ c.as_str.result.now) c.undo-text.ensures.bytes
    ∙ ap (λ xs. undo_bytes c.args.settings ++ xs) c.as_str.ensures.value)
