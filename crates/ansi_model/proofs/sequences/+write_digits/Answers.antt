use Rattle.std.proofs.Common.{arith, ◌/◌, ap, length, ◌∙◌}
use Rattle.std.specs.Fmt.{decimal}
use Rattle.std.proofs.lemmas.List.{length-append}
use Rattle.ansi_model.proofs.{ReadLemmas.digits-one, ReadLemmas.digits-more, MoveLemmas.more_digits, MoveLemmas.one_digit}
use Rattle.ansi_model.proofs.sequences.+write_digits.Goals as goal

pub write_digit-requires-clause-room : goal.write_digit-requires-clause-room
write_digit-requires-clause-room t c = let one = one_digit c.args.n (omega arith) in omega arith

pub returns-then-n-lt10 : goal.returns-then-n-lt10
returns-then-n-lt10 t c = digits-one c.args.n _ _ (omega arith) c.write_digit.ensures

pub write_digits-requires : goal.write_digits-requires
write_digits-requires t c = let more = more_digits c.args.n (omega arith) (omega arith) in (omega arith, omega arith)

pub write_digit-requires-2-clause-room : goal.write_digit-requires-2-clause-room
write_digit-requires-2-clause-room t c =
    let more = more_digits c.args.n (omega arith) (omega arith) in
    let room = ap length c.write_digits.ensures ∙ length-append c.args.text.now.bytes (decimal (c.args.n / 10)) in
    omega arith

pub returns : goal.returns
returns t c = digits-more c.args.n _ _ _ (omega arith) (omega arith) c.write_digits.ensures c.write_digit-2.ensures
