use Rattle.std.proofs.Common.{◌≤◌, string_bytes, ap, ◌∙◌, arith}
use Rattle.std.proofs.lemmas.Result.{on_ok_weaker}
use Rattle.ansi_model.proofs.ReadLemmas.{digits-more, digits-one}
use Rattle.ansi_model.proofs.sequences.+push_number.Goals.{then-n-lt100+in_ok-push_digit, else-n-lt100+in_ok-push_number}
use Rattle.ansi_model.proofs.sequences.+push_number.Goals as goal

pub returns-then-n-lt10 : goal.returns-then-n-lt10
returns-then-n-lt10 n c = on_ok_weaker c.push_digit.result (λ last. digits-one c.args.n _ _ (omega arith) last)
    c.push_digit.ensures

pub returns : goal.returns
returns n c =
    let several : 10 ≤ c.args.n = omega arith in
    elim c.if-n-lt100.branch [
      | then-n-lt100+in_ok-push_digit w ↦
          on_ok_weaker c.push_digit-2.result
          (λ last. digits-more c.args.n _ _ _ several (omega arith) (ap string_bytes w.out-is
          ∙ digits-one _ _ _ (omega arith) w.in_ok-push_digit.ensures) last) c.push_digit-2.ensures
      | else-n-lt100+in_ok-push_number w ↦
          on_ok_weaker c.push_digit-2.result (λ last. digits-more c.args.n _ _ _ several (omega arith) (ap string_bytes w.out-is
          ∙ w.in_ok-push_number.ensures) last) c.push_digit-2.ensures
    ]
