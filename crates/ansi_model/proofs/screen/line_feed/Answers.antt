use Rattle.ansi_model.proofs.ReadLemmas.{pushed, feed-read}
use Rattle.ansi_model.proofs.screen.line_feed.Goals as goal

pub returns : goal.returns
returns c = pushed c.push_str.result _ _ _ _ c.push_str.ensures.bytes feed-read
