use Rattle.std.proofs.Common.{◌≡◌, ◌-◌, true, false, sym, ap, ◌∙◌, arith}
use Rattle.pager.specs.Search.{has_match, numbered_line}
use Rattle.pager.proofs.SearchLemmas.{last-here, last-earlier, last-none}
use Rattle.pager.proofs.pager.Pager.last_match.Goals as goal

pub returns-then-has_match : goal.returns-then-has_match
returns-then-has_match c =
    let lines = c.args.self.now.document in
    let is = ap (λ s. has_match s (numbered_line lines (c.loop-line.line - 1))) (sym c.loop-line.invariant.finds)
    ∙ sym c.has_match.ensures.found ∙ c.if-has_match.true in
    sym (c.loop-line.invariant.searched ∙ last-here c.args.sought.now lines _ c.loop-line.line (omega arith) is)

pub loop-line-preserved : goal.loop-line-preserved
loop-line-preserved c =
    let lines = c.args.self.now.document in
    let not = ap (λ s. has_match s (numbered_line lines (c.loop-line.line - 1))) (sym c.loop-line.invariant.finds)
    ∙ sym c.has_match.ensures.found ∙ c.if-has_match.false in
    record {
      finds = c.has_match.ensures.same ∙ c.loop-line.invariant.finds;
      searched = c.loop-line.invariant.searched
          ∙ last-earlier c.args.sought.now lines _ c.loop-line.line (omega arith) not;
    }

pub returns : goal.returns
returns c = sym (c.loop-line.invariant.searched
    ∙ last-none c.args.sought.now c.args.self.now.document c.loop-line.line (omega arith))
