use Rattle.rtui_buffer.specs.BufferData.{position_of}
use Rattle.rtui_widgets.proofs.ChangeLemmas.{put-changes}
use Rattle.rtui_widgets.proofs.change.change_one.Goals as goal

pub returns-clause-changes : goal.returns-clause-changes
returns-clause-changes g c =
    put-changes c.change.result c.args.buf.now (position_of (c.args.x, c.args.y)) c.change.new.cell c.index_mut.result.now
    (g.C.CellChange.made c.args.change.now)
    c.index_mut.ensures.inside c.requires c.index_mut.ensures.value c.change.ensures.ok
