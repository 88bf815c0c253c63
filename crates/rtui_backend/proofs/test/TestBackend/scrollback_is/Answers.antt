use Rattle.std.proofs.Common.{◌∙◌, sym}
use Rattle.rtui_backend.proofs.HistoryLemmas.{history-symbols}
use Rattle.rtui_backend.proofs.test.TestBackend.scrollback_is.Goals as goal

pub returns : goal.returns
returns c =
    let rows = history-symbols (λ row. row.items) c.args.self.now.scrollback.items in
    let told = rw (c.texts_width.ensures, c.as_slice.ensures.value) at c.rows_are.ensures in
    (λ yes. rows ∙ told.0 yes, λ same. told.1 (sym rows ∙ same))
