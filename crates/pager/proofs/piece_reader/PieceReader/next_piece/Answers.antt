use Rattle.pager.proofs.PieceLemmas.{gives-next}
use Rattle.std.proofs.Common.{ap}
use Rattle.pager.proofs.piece_reader.PieceReader.next_piece.Goals as goal

pub returns-in-Ok : goal.returns-in-Ok
returns-in-Ok g c = gives-next c.args.self.now.rest.items c.cut.new.self.rest.items _ _ _ c.read_on.new.self.rest.items c.in-Ok.piece
    c.gives_all-is_last.result c.in_ok-is_end.ensures.stays
    (λ yes. c.in_ok-is_end.ensures.end (c.gives_all-is_last.ensures yes))
    (ap g.R.Read.remaining c.in-Ok.ensures.reader) c.in-Ok.ensures.gives c.in-Ok.ensures.last
