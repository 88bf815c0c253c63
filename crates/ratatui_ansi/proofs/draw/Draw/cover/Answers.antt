use Rattle.std.proofs.Common.{◌*◌, inr, refl, arith}
use Rattle.ratatui_ansi.proofs.LayLemmas.{are-covered, covers-none, one-marked}
use Rattle.ratatui_ansi.proofs.draw.Draw.cover.Goals.{then-past_it-end+in_ok-put_blanks, else-past_it-end}
use Rattle.ratatui_ansi.proofs.draw.Draw.cover.Goals as goal

pub returns-after-past_it-end-clause-covers : goal.returns-after-past_it-end-clause-covers
returns-after-past_it-end-clause-covers c =
    let draw = c.args.self.now in
    let tail = c.tail_end-end.ensures in
    let covered = are-covered draw.target.width c.args.place c.args.columns c.tail_end-end.result
    (c.from.result * c.from-2.result) draw.continuations.now c.mark_symbol.new.flags (rw (c.from.ensures, c.from-2.ensures) refl)
    tail.low tail.high tail.continuations tail.ended (record {
      count = c.mark_symbol.auto.flags;
      each = λ k. rw (
        c.from.ensures,
        c.from-2.ensures,
        c.from-then-x-end.ensures,
        c.from-then-x-end-2.ensures,
        c.from-then-x-end-3.ensures,
      ) at (c.mark_symbol.ensures k);
    }) in
    elim c.if-past_it-end.branch [
      | then-past_it-end+in_ok-put_blanks v ↦ rw v.self-is (record {
        flags = covered;
        paints = v.in_ok-put_blanks.ensures.paints draw.target.width draw.target.height tail.high c.requires.uncovered.row;
        sgr = inr v.in_ok-put_blanks.ensures.sgr;
        places = v.in_ok-put_blanks.ensures.places;
        state = refl;
      })
      | else-past_it-end v ↦ rw v.self-is (covers-none c.args.place c.args.columns c.tail_end-end.result draw
          c.mark_symbol.new.flags covered (omega arith))
    ]

pub returns-else-x-end-clause-covers : goal.returns-else-x-end-clause-covers
returns-else-x-end-clause-covers c =
    let tail = c.tail_end-end.ensures in
    covers-none _ _ _ c.args.self.now _ (are-covered _ _ _ _ _ _ _ (rw (c.from.ensures, c.from-2.ensures) refl) tail.low tail.high
    tail.continuations tail.ended (record { count = refl; each = one-marked _ _ _ _ c.requires.uncovered.uncut (omega arith) }))
    (omega arith)
