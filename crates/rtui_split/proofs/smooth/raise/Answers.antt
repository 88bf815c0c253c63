use Rattle.std.proofs.Common.{◌≡◌, ◌<◌, ◌+◌, ◌-◌, ◌*◌, ◌∙◌, length, inl, inr, arith, ap, refl}
use Rattle.std.proofs.Math.Nat.{mul-add}
use Rattle.rtui_split.proofs.SlotLemmas.{resized, parts_stay}
use Rattle.rtui_split.proofs.WalkLemmas.{sizes_other, sizes_inside, sizes_sum}
use Rattle.rtui_split.proofs.smooth.raise.Goals as goal

pub loop-i-preserved : goal.loop-i-preserved
loop-i-preserved c =
    let run = c.args.run in
    let h = c.args.height in
    let ss = c.loop-i.slots in
    let i = c.loop-i.i in
    let inv = c.loop-i.invariant in
    let new = resized ss i h in
    let long : i < length ss = omega (arith, c.loop-i-test.true, c.requires.within) in
    let m = i - run.first in
    let next : i + 1 - run.first ≡ m + 1 = omega (arith, inv.from) in
    record {
      parts = parts_stay ss i h ∙ inv.parts;
      from = omega (arith, inv.from);
      to = omega (arith, c.loop-i-test.true);
      inside = λ k from to. sizes_inside ss i h run.first k new long refl inv.inside from to;
      others = λ k out. elim out [
        | inl before ↦ sizes_other ss i k new (λ same. absurd (omega (arith, before, same, inv.from)))
            ∙ inv.others k (inl before)
        | inr ended ↦ sizes_other ss i k new (λ same. absurd (omega (arith, ended, same)))
            ∙ inv.others k (inr (omega (arith, ended)))
      ];
      all = omega (
        arith,
        inv.all,
        sizes_sum ss i new long,
        inv.others i (inr (omega arith)),
        c.requires.stand i inv.from c.loop-i-test.true,
        c.requires.height,
        ap (λ x. (h - run.height) * x) next,
        mul-add (h - run.height) m 1,
      );
    }
