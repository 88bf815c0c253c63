use Rattle.std.proofs.Common.{◌≡◌, subst}
use Rattle.rtui_backend.specs.{Screen.screen_area, TestBackend.screen_of}
use Rattle.ratatui_test.proofs.RowLemmas.{shown-symbol}
use Rattle.ratatui_test.proofs.lines.shown_row.Goals as goal

pub returns-clause-symbols : goal.returns-clause-symbols
returns-clause-symbols c = λ a a_in.
    let b = c.args.backend.now in
    let area = subst (λ d. d.area ≡ screen_area (screen_of b)) c.buffer.ensures.value c.buffer.ensures.area in
    rw (c.row.ensures.cells, c.buffer.ensures.value) (shown-symbol b c.args.y a area a_in)
