use Rattle.std.proofs.Common.{arith}
use Rattle.widget_scrollbar.proofs.ThumbLemmas.{thumb-first, thumb-last, thumb-within}
use Rattle.widget_scrollbar.proofs.laws.thumbs_lie_on_their_tracks.Goals as goal

pub returns : goal.returns
returns c = record { some = λ s track length. omega arith; within = thumb-within; first = thumb-first; last = thumb-last }
