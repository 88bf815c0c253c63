use Rattle.std.proofs.Common.{subst, sym, ◌<◌, length, arith}
use Rattle.rtui_text.proofs.PrintableLemmas.{front-bytes}
use Rattle.rtui_text.specs.Printable.{ArePrintable}
use Rattle.rtui_text.proofs.GraphemeLemmas.{none-left, some-left, looked-front, looked-none}
use Rattle.rtui_text.proofs.span_graphemes.SpanGraphemes.look_ahead.Goals as goal
use Rattle.rtui_text.proofs.span_graphemes.SpanGraphemes.look_ahead.Goals.{then-not-is_empty-via-then-not-is_empty}
use Rattle.rtui_text.proofs.span_graphemes.SpanGraphemes.look_ahead.Goals.{then-not-is_empty-via-else-not-is_empty+then-is_empty}

pub returns-then-not-is_empty-clause-looked : goal.returns-then-not-is_empty-clause-looked
returns-then-not-is_empty-clause-looked c = elim c.then-not-is_empty.branch [
  | then-not-is_empty-via-then-not-is_empty w ↦ λ none. absurd (let some = some-left _ (w.if-not-is_empty.ensures) in
      let zero = subst (λ l. 0 < length l) none some in omega arith)
  | then-not-is_empty-via-else-not-is_empty+then-is_empty w ↦ λ none. none-left _ (w.if-is_empty.ensures)
]

pub returns-then-is_empty-2-clause-left : goal.returns-then-is_empty-2-clause-left
returns-then-is_empty-2-clause-left c =
    looked-none _ _ c.args.self.now.ahead.now c.split_at.result.0.now c.split_at.result.1.now _ _ _
    (none-left _ (c.if-not-is_empty.ensures)) c.printable_front.ensures.graphemes c.split_at.ensures.front
    c.split_at.ensures.back (none-left _ (c.if-is_empty-2.ensures))
    (c.args.self.now.unread (some-left _ c.if-is_empty.ensures)) c.graphemes-self.ensures.left

pub invariant_of-self-2 : goal.invariant_of-self-2
invariant_of-self-2 c = record {
  printable = subst ArePrintable (sym c.split_at.ensures.front) (front-bytes _ _ c.printable_front.ensures.front);
  unread = λ more. c.args.self.now.unread (some-left _ c.if-is_empty.ensures);
}

pub returns-clause-left : goal.returns-clause-left
returns-clause-left c =
    looked-front _ _ c.args.self.now.ahead.now c.split_at.result.0.now c.split_at.result.1.now _ _
    (none-left _ (c.if-not-is_empty.ensures)) c.printable_front.ensures.graphemes c.split_at.ensures.front
    c.split_at.ensures.back
