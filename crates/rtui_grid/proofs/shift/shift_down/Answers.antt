use Rattle.std.proofs.Common.{◌≡◌, ◌+◌, ◌-◌, arith, inl, inr}
use Rattle.std.proofs.lemmas.{Bool.cases_lt, Bool.Decides.nat_tests, Grind.common_steps}
use Rattle.rtui_grid.proofs.shift.shift_down.Goals as goal

pub returns : goal.returns
returns g c = λ k.
    let a = c.args.from in
    elim (cases_lt k a) [
      | inl low ↦ grind (arith, common_steps, nat_tests)
      | inr ge ↦ elim (cases_lt k c.args.to) [
        | inl inside ↦
            let m = c.lower.ensures (k - a) in
            elim (cases_lt k (a + c.args.by)) [
              | inl none ↦ grind (arith, common_steps, nat_tests)
              | inr some ↦ let back : a + (k - a - c.args.by) ≡ k - c.args.by = omega arith in
                  grind (arith, common_steps, nat_tests)
            ]
        | inr past ↦ grind (arith, common_steps, nat_tests)
      ]
    ]
