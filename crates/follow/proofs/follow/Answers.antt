use Rattle.std.proofs.Common.{◌≡◌, ◌<◌, ◌∙◌, false, arith}
use Rattle.ratatui_ansi.specs.Backend.{shown_by}
use Rattle.logview.proofs.LogLemmas.{blank_screen, view_none}
use Rattle.follow.proofs.ShownLemmas.{shown-if}
use Rattle.follow.proofs.follow.Goals as goal

pub returns-in-Ok-left-clause-shown : goal.returns-in-Ok-left-clause-shown
returns-in-Ok-left-clause-shown g c =
    λ known.
    let size = c.args.size in
    let b = c.in-Ok.backend in
    let blank = c.in-Ok.ensures.blank in
    let high : (shown_by b).height ≡ size.height = blank.height in
    let wide : 0 < size.width = c.in-Ok.ensures.size.0 in
    let some : 0 < size.height = c.in-Ok.ensures.size.1 in
    let view = view_none shown_by size b c.in_ok-view.view blank c.in_ok-view.ensures.count (c.in_ok-view.ensures.started
    (blank_screen size.width size.height (shown_by b) blank) (omega arith)) in
    let w = c.push_lines-shown.new.view in
    let last = rw (c.into_backend.ensures, c.into_terminal.ensures) at c.into_writer-writer.ensures in
    let calls = c.in_ok-shown.ensures.calls ∙ c.in_ok-view.ensures.calls ∙ c.in-Ok.ensures.failures in
    let whole : w.terminal.backend.is_broken ≡ false = last.unfailed calls in
    shown-if (g.R.Read.remaining c.args.reader.now) _ size c.in_ok-view.view w _ _ _ view c.in_ok-shown.ensures.ok
    (last.read whole) wide some (rw c.as_str.ensures.value c.leaving-below.ensures) (last.known whole known)
    (last.tied whole) c.in-Ok-left.ensures
