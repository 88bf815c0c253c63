use Rattle.std.proofs.Common.{arith}
use Rattle.ratatui_input.proofs.ReaderLemmas.{keeps-start, keeps-failed, keeps-read, reads-settled}
use Rattle.ratatui_input.proofs.reader.EventReader.read.Goals as goal

pub loop-init : goal.loop-init
loop-init g c = keeps-start g.R.Read.remaining c.args.self.now

pub returns-in-Err : goal.returns-in-Err
returns-in-Err g c =
    keeps-failed g.R.Read.remaining c.args.self.now c.loop.self c.next_event.new.self c.read.new.buf c.read.new.self
    c.loop.invariant
    c.in_default.ensures c.in-Err.ensures.bytes

pub returns-then-count-eq0 : goal.returns-then-count-eq0
returns-then-count-eq0 g c =
    reads-settled g.R.Read.remaining c.args.self.now c.loop.self c.next_event.new.self c.begin.new.self c.read.new.buf
    c.read.new.self c.in-Ok.count
    c.settle.result c.settle.new.self c.loop.invariant c.in_default.ensures c.in-Ok.ensures.bytes.0 c.if-count-eq0.true
    (c.in-Ok.ensures.bytes.1 c.if-count-eq0.true (omega arith)) c.begin.ensures c.settle.ensures

pub loop-preserved : goal.loop-preserved
loop-preserved g c =
    keeps-read g.R.Read.remaining c.args.self.now c.loop.self c.next_event.new.self c.begin.new.self c.read.new.buf
    c.read.new.self c.in-Ok.count
    c.loop.invariant c.in_default.ensures c.in-Ok.ensures.bytes.0 c.begin.ensures
