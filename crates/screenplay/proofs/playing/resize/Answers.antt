use Rattle.screenplay.proofs.playing.resize.Goals as goal

pub returns : goal.returns
returns c = record {
  backend = c.resize.new.self;
  takes = rw c.backend_mut.ensures.value at c.in_ok-resize.ensures.ok;
  resizes = c.in_ok-resize-2.ensures.outcome;
}
