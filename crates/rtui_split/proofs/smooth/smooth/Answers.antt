use Rattle.std.proofs.Common.{ℕ, ◌≡◌, ◌≤◌, ◌<◌, ◌+◌, ◌-◌, ◌*◌, ◌/◌, length, slice_index, ap, sym, subst, ◌∙◌, List}
use Rattle.std.proofs.Common.{arith, mul-le-mul_right}
use Rattle.std.proofs.{Math.Nat.div-mul-le_self, Math.Nat.lt-div-mul-add, lemmas.List.length-map, lemmas.List.Sums.sum-map}
use Rattle.rtui_split.specs.Inner.Slots.{if_in, if_before, sizes_of, wishes_of, heights_of}
use Rattle.rtui_split.specs.{declared.slot.Slot.Slot, Ragged.run_length, Ragged.IsLeastRagged, Inner.Runs.as_run}
use Rattle.rtui_split.specs.{Inner.Runs.at_height}
use Rattle.rtui_split.proofs.RiseLemmas.{RiseInOrder, flat, rise_on, least_ragged, all_risen, raised_within}
use Rattle.rtui_split.proofs.WalkLemmas.{apart, tries_nothing, sum_of_nothing, each_at_most, sum_at_most}
use Rattle.rtui_split.proofs.{SlotLemmas.same_map, SlotLemmas.same_sum, RunLemmas.within_list}
use Rattle.rtui_split.proofs.smooth.smooth.Goals as goal

pub rising-init : goal.rising-init
rising-init c =
    let nothing = tries_nothing c.try_all.new.slots c.try_all.ensures.same in
    record {
      parts = c.try_all.ensures.parts;
      order = λ r s i j run other here there order risen. absurd (omega (arith, risen, nothing j));
      within = λ i. omega (arith, nothing i);
      all = omega (arith, sum_of_nothing c.try_all.new.slots c.try_all.ensures.same);
    }

pub raise-requires-clause-within : goal.raise-requires-clause-within
raise-requires-clause-within c =
    let ss = c.rising.slots in
    let t = c.args.turn in
    omega (
      arith,
      within_list (wishes_of t ss) (as_run c.in-Some.run') c.in-Some.ensures.run,
      length-map ss (λ (s : Slot). if_in t s.part),
    )

pub raise-requires-clause-stand : goal.raise-requires-clause-stand
raise-requires-clause-stand c =
    let ss = c.rising.slots in
    let t = c.args.turn in
    let run = as_run c.in-Some.run' in
    λ i from to. flat (wishes_of t ss) (heights_of t ss) (sizes_of ss) (apart t ss) c.rising.invariant.order run
    c.in-Some.ensures i (from, to)

pub rising-smaller : goal.rising-smaller
rising-smaller c =
    let by = c.rise_of-by.result in
    let n = c.length.result in
    let some = c.in-Some.ensures.run.some in
    let more : 1 * n ≤ by * n = mul-le-mul_right n (omega arith) in
    let same_quotient : c.rising.left / run_length (as_run c.in-Some.run') ≡ c.rising.left / n =
    ap (λ x. c.rising.left / x) (sym c.length.ensures) in
    let few : by * n ≤ c.rising.left / n * n = mul-le-mul_right n (omega arith) in
    omega (arith, more, few, div-mul-le_self c.rising.left n)

pub rising-preserved : goal.rising-preserved
rising-preserved c =
    let ss = c.rising.slots in
    let new = c.raise.new.slots in
    let t = c.args.turn in
    let ws = wishes_of t ss in
    let standing = heights_of t ss in
    let run = as_run c.in-Some.run' in
    let first = c.in-Some.ensures in
    let by = c.rise_of-by.result in
    let n = c.length.result in
    let h = run.height + by in
    let ys = sizes_of new in
    let keeps = c.ceiling_of-top.ensures.keeps in
    let to : h ≤ c.ceiling_of-top.result = omega arith in
    let same_quotient : c.rising.left / run_length (as_run c.in-Some.run') ≡ c.rising.left / n =
    ap (λ x. c.rising.left / x) (sym c.length.ensures) in
    let few : by * n ≤ c.rising.left / n * n = mul-le-mul_right n (omega arith) in
    let risen : h - run.height ≡ by = omega arith in
    let same : (h - run.height) * run_length run ≡ by * n =
    ap (λ x. x * run_length run) risen ∙ ap (λ x. by * x) (sym c.length.ensures) in
    let P : List ℕ → Type 0 = λ us. RiseInOrder us (heights_of t new) ys in
    let Q : List ℕ → Type 0 = λ us. RiseInOrder ws us ys in
    let R : List ℕ → Type 0 = λ us. (i : ℕ) → slice_index ys i ≤ slice_index us i in
    let wish : ws ≡ wishes_of t new = sym (same_map (if_in t) new ss c.raise.ensures.parts) in
    let stand : standing ≡ heights_of t new = sym (same_map (if_before t) new ss c.raise.ensures.parts) in
    record {
      parts = c.raise.ensures.parts ∙ c.rising.invariant.parts;
      order = subst P wish (subst Q stand (rise_on ws standing (sizes_of ss) ys run c.ceiling_of-top.result h (apart t ss)
          c.rising.invariant.order first keeps (omega arith) (c.raise.ensures.inside, c.raise.ensures.others) to));
      within = subst R wish (raised_within ws standing (sizes_of ss) ys run c.ceiling_of-top.result h (apart t ss)
          c.rising.invariant.order first keeps (omega arith) (c.raise.ensures.inside, c.raise.ensures.others) to
          c.rising.invariant.within);
      all = omega (arith, c.rising.invariant.all, c.raise.ensures.all, same, few, div-mul-le_self c.rising.left n);
    }

pub returns-then-run-by-clause-parts : goal.returns-then-run-by-clause-parts
returns-then-run-by-clause-parts c = c.raise.ensures.parts ∙ c.rising.invariant.parts

pub returns-then-run-by-clause-shared : goal.returns-then-run-by-clause-shared
returns-then-run-by-clause-shared c =
    let ss = c.rising.slots in
    let new = c.raise.new.slots in
    let t = c.args.turn in
    let ws = wishes_of t ss in
    let standing = heights_of t ss in
    let run = as_run c.in-Some.run' in
    let first = c.in-Some.ensures in
    let by = c.rise_of-by.result in
    let n = c.length.result in
    let h = run.height + by in
    let ys = sizes_of new in
    let keeps = c.ceiling_of-top.ensures.keeps in
    let to : h < c.ceiling_of-top.result = c.if-run-by.true in
    let some = first.run.some in
    let same_quotient : c.rising.left / run_length run ≡ c.rising.left / n =
    ap (λ x. c.rising.left / x) (sym c.length.ensures) in
    let quotient : by ≡ c.rising.left / n = omega arith in
    let product : by * n ≡ c.rising.left / n * n = ap (λ x. x * n) quotient in
    let risen : h - run.height ≡ by = omega arith in
    let same : (h - run.height) * run_length run ≡ by * n =
    ap (λ x. x * run_length run) risen ∙ ap (λ x. by * x) (sym c.length.ensures) in
    let within = raised_within ws standing (sizes_of ss) ys run c.ceiling_of-top.result h (apart t ss)
    c.rising.invariant.order first keeps (omega arith) (c.raise.ensures.inside, c.raise.ensures.others) (omega (arith, to))
    c.rising.invariant.within in
    let wish : ws ≡ wishes_of t new = sym (same_map (if_in t) new ss c.raise.ensures.parts) in
    let stand : standing ≡ heights_of t new = sym (same_map (if_before t) new ss c.raise.ensures.parts) in
    let long : length ys ≡ length ws = omega (
      arith,
      length-map new (λ (s : Slot). s.size),
      ap length wish,
      length-map new (λ (s : Slot). if_in t s.part),
    ) in
    let P : List ℕ → Type 0 = λ us. IsLeastRagged us (heights_of t new) c.args.room ys (at_height run h) in
    let Q : List ℕ → Type 0 = λ us. IsLeastRagged ws us c.args.room ys (at_height run h) in (
      at_height run h,
      subst P wish (subst Q stand (least_ragged ws standing (sizes_of ss) ys run c.ceiling_of-top.result h (apart t ss)
          c.rising.invariant.order first keeps (omega arith) (c.raise.ensures.inside, c.raise.ensures.others) c.args.room to
          (each_at_most ys ws long within)
          (omega (arith, c.rising.invariant.all, c.raise.ensures.all, same, product, div-mul-le_self c.rising.left n))
          (omega (
            arith,
            c.rising.invariant.all,
            c.raise.ensures.all,
            same,
            product,
            c.length.ensures,
            lt-div-mul-add {a = c.rising.left} {b = n} (omega (arith, some)),
          )))),
    )

pub returns-in_default-clause-shared : goal.returns-in_default-clause-shared
returns-in_default-clause-shared c =
    let ss = c.rising.slots in
    let t = c.args.turn in
    let ws = wishes_of t ss in
    let xs = sizes_of ss in
    let all = all_risen ws (heights_of t ss) xs (apart t ss) c.rising.invariant.order c.in_default.ensures in
    let long : length ws ≡ length xs = omega (
      arith,
      length-map ss (λ (s : Slot). s.size),
      length-map ss (λ (s : Slot). if_in t s.part),
    ) in
    absurd (omega (
      arith,
      c.requires,
      c.rising.invariant.all,
      sum_at_most ws xs (each_at_most ws xs long all),
      sum-map (λ (s : Slot). if_in t s.part) ss,
      same_sum (if_in t) ss c.args.slots.now c.rising.invariant.parts,
    ))
