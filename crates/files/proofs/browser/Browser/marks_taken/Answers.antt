use Rattle.files.specs.Moves.{mark_taken}
use Rattle.files.proofs.MarkLemmas.{filter_map-step}
use Rattle.files.proofs.browser.Browser.marks_taken.Goals as goal

pub loop-mark-preserved : goal.loop-mark-preserved
loop-mark-preserved c = filter_map-step (mark_taken c.args.is_moved c.args.self.now) c.as_slice-mark-items.result.now
    c.loop-mark.mark-index c.mark-item.result c.in_ok-noted.noted c.loop-mark.notes c.add_some.new.self c.loop-mark-test.true
    c.mark-item.is c.loop-mark.invariant c.in_ok-noted.ensures c.in_ok-add_some.ensures.ok
