use Rattle.std.proofs.Common.{subst, sym, ap, length, ◌∙◌}
use Rattle.std.proofs.lemmas.{Iterator.Adapters.YieldsList-from_vec, Iterator.Consumers.YieldsList-end, List.map-id}
use Rattle.files.specs.Sorting.{AreRowsFor}
use Rattle.files.proofs.SortLemmas.{rows-step}
use Rattle.files.proofs.sorting.sorted.Goals as goal

pub loop-info-preserved : goal.loop-info-preserved
loop-info-preserved c = rows-step c.args.has_hidden c.loop-info.yielded c.in-Some.info c.loop-info.rows.items c.add.new.rows.items
    c.loop-info.invariant c.in_ok-add.ensures

pub returns : goal.returns
returns c =
    let gives = c.into_iter-info-iterator.ensures.into_iter_gives in
    let all = YieldsList-end
    (YieldsList-from_vec {s = c.into_iter-info-iterator.result} c.args.entries (gives.0 ∙ c.into_vec-entries.ensures)
    (gives.1 ∙ c.into_vec-entries.result.ok.0 ∙ ap length c.into_vec-entries.ensures))
    c.loop-info.yielded c.loop-info.info-iterator c.loop-info.yielded_by _ c.next.new.self c.in-None.is c.next.ensures.steps in
    record {
      rows = c.loop-info.rows.items;
      are = subst (λ es. AreRowsFor c.args.has_hidden es c.loop-info.rows.items) (sym (map-id c.loop-info.yielded) ∙ all.0)
          c.loop-info.invariant;
      all = rw c.new.ensures c.in_ok-sort.ensures.all;
      ordered = rw c.new.ensures c.in_ok-sort.ensures.ordered;
    }
