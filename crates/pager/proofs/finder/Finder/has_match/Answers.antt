use Rattle.std.proofs.Common.{sym, ap, ◌∙◌}
use Rattle.pager.specs.Search.{has_match}
use Rattle.pager.proofs.PatternLemmas.{found-by, seeks-plain}
use Rattle.pager.proofs.finder.Finder.has_match.Goals.{in-Some, in-None}
use Rattle.pager.proofs.finder.Finder.has_match.Goals as goal

pub returns-clause-found : goal.returns-clause-found
returns-clause-found c =
    let text = c.self.inside.text.now in let line = c.args.line.now in
    elim c.match-self.branch [
      | in-Some w ↦
          w.result-is ∙ w.is_match.ensures.found
          ∙ found-by text w.in-Some.matcher c.self.inside.matcher w.in-Some.is c.args.self.now c.self.view_is c.self.invariant
          line (λ k. (c.type_inv.line k).fits)
      | in-None w ↦
          w.result-is ∙ w.has_text.ensures
          ∙ ap (λ s. has_match s line) (seeks-plain text c.self.inside.matcher c.args.self.now w.in-None.is c.self.view_is)
    ]
