use Rattle.std.proofs.Common.{rules, ◌∷◌, ◌++◌, [], ap, sym, ◌∙◌, arith, length, if◌then◌else◌}
use Rattle.pager.specs.Search.{has_match, numbered_line}
use Rattle.pager.proofs.{SearchLemmas.matching-none, SearchLemmas.length-matching, FilterLemmas.matching-next}
use Rattle.pager.proofs.document.Document.matching.Goals as goal

pub loop-number-init : goal.loop-number-init
loop-number-init c = record {
  finds = c.in_ok-finder.ensures;
  matched = rw (matching-none c.args.sought.now c.args.self.now) (search rules);
}

pub loop-number-preserved : goal.loop-number-preserved
loop-number-preserved c =
    let sought = c.args.sought.now in let lines = c.args.self.now in let k = c.loop-number.number in
    let line = c.line_or_empty.ensures ∙ ap (numbered_line lines) c.from.ensures in
    let is = c.has_match-is_match.ensures.found ∙ ap (λ s. has_match s c.line_or_empty.result.now) c.loop-number.invariant.finds
    ∙ ap (has_match sought) line in
    record {
      finds = c.has_match-is_match.ensures.same ∙ c.loop-number.invariant.finds;
      matched = c.in_ok-push_if.ensures
          ∙ ap (λ b. if b then c.loop-number.numbers.items ++ k ∷ [] else c.loop-number.numbers.items) is
          ∙ ap (λ ks. if has_match sought (numbered_line lines k) then ks ++ k ∷ [] else ks) c.loop-number.invariant.matched
          ∙ sym (matching-next sought lines k);
    }

pub returns-clause-count : goal.returns-clause-count
returns-clause-count c =
    omega (arith, ap length c.loop-number.invariant.matched, length-matching c.args.sought.now c.args.self.now c.loop-number.number)
