use Rattle.std.proofs.Common.{sym, subst, rules}
use Rattle.script_words.proofs.ResultLemmas.{err-passed}
use Rattle.printed_backend.specs.Printed.{shown_on, HasOnlyDrawn}
use Rattle.logview.specs.Engine.{StopsPushing}
use Rattle.logview.proofs.LogLemmas.{stopped_log}
use Rattle.logview.proofs.engine.view_of_text.Goals as goal

pub returns-clause-ok : goal.returns-clause-ok
returns-clause-ok c =
    let first = sym c.in-Some.ensures.value in
    record {
      size = c.in-Some.size;
      first = first;
      shown = c.in_ok-push_lines.ensures.ok c.in-Some.size (c.in-Some-open.ensures c.in-Some.ensures.some.1);
    }

pub returns-in_err-push_lines-clause-err : goal.returns-in_err-push_lines-clause-err
returns-in_err-push_lines-clause-err c = err-passed _ _ _ c.from_residual.ensures.1
    (let first = sym c.in-Some.ensures.value in
    stopped_log c.args.text.now c.in-Some.size c.push_lines.new.view _ (record {
      text = search rules;
      first = first;
    })
    (c.in_err-push_lines.ensures.err c.in-Some.size (c.in-Some-open.ensures c.in-Some.ensures.some.1)))

pub returns-in_err-push_lines-clause-not_read : goal.returns-in_err-push_lines-clause-not_read
returns-in_err-push_lines-clause-not_read c = err-passed _ _ _ c.from_residual.ensures.1 (λ is.
    subst (StopsPushing shown_on HasOnlyDrawn c.in-Some.size _ c.push_lines.new.view) is
    (c.in_err-push_lines.ensures.err c.in-Some.size (c.in-Some-open.ensures c.in-Some.ensures.some.1)))

pub returns-in_err-push_lines-clause-not_write : goal.returns-in_err-push_lines-clause-not_write
returns-in_err-push_lines-clause-not_write c = err-passed _ _ _ c.from_residual.ensures.1 (λ is.
    subst (StopsPushing shown_on HasOnlyDrawn c.in-Some.size _ c.push_lines.new.view) is
    (c.in_err-push_lines.ensures.err c.in-Some.size (c.in-Some-open.ensures c.in-Some.ensures.some.1)))
