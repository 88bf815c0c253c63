use Rattle.std.proofs.Common.{string_bytes, [], ◌∷◌}
use Rattle.ansi_model.proofs.ReadLemmas.{feeds-more, feed-read, return-read}
use Rattle.ansi_model.proofs.sequences.line_feeds.Goals as goal

pub loop-init : goal.loop-init
loop-init c = record { bytes = _; appended = c.in_ok-push_str.ensures.bytes; read = return-read }

pub loop-preserved : goal.loop-preserved
loop-preserved c =
    feeds-more (string_bytes c.args.out.now) (string_bytes c.loop.out)
    (string_bytes c.push_str-in-loop.new.self) c.loop.counter c.loop.invariant
    (record { bytes = 10 ∷ []; appended = c.in_ok-push_str-2.ensures.bytes; read = feed-read })
