use Rattle.std.proofs.lemmas.Result.{IfOk-weaker}
use Rattle.screenplay.proofs.PlayLemmas.{IsPlaying-started}
use Rattle.screenplay.proofs.playing.open.Goals as goal

pub returns : goal.returns
returns c = IfOk-weaker c.with_options.result _ _
    (λ t starts. IsPlaying-started c.args.stage _ t c.requires c.in_ok-backend.ensures.screen starts)
    c.with_options.ensures.starts
