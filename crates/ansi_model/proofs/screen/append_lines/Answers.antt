use Rattle.std.proofs.lemmas.Result.{on_ok_weaker}
use Rattle.ansi_model.proofs.ScrollLemmas.{turns-from, appends-ready}
use Rattle.ansi_model.proofs.screen.append_lines.Goals as goal

pub returns : goal.returns
returns c = on_ok_weaker c.line_feeds.result (λ does w h some_columns some_rows. turns-from w h _ _ _ _ does
    (appends-ready w h c.args.n some_columns some_rows)) c.line_feeds.ensures
