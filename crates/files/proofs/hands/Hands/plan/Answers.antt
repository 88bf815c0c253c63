use Rattle.std.proofs.Common.{◌≡◌, ℕ, Option, IfSome, subst}
use Rattle.files.specs.declared.trash.Plan.{Plan}
use Rattle.files.specs.Trash.{IsLeastFree, discard_plan}
use Rattle.files.proofs.hands.Hands.plan.Goals as goal

pub returns-in-Some-2 : goal.returns-in-Some-2
returns-in-Some-2 g c = record {
  number = c.in-Some.number;
  free = subst (λ name. IsLeastFree name c.args.seen.now c.in-Some.number) c.as_str.ensures
      (subst (λ (o : Option ℕ). IfSome o (IsLeastFree c.as_str.result.now c.args.seen.now)) c.in-Some.is c.in_ok-number.ensures);
  date = c.in-Some-date_after.date;
  now = c.in-Some-date_after.ensures;
  is = subst (λ (o : Option Plan). IfSome o (λ p. p ≡ discard_plan c.args.discard.now c.in-Some.number c.in-Some-date_after.date))
      c.in-Some-2.is c.in_ok-plan.ensures;
}
