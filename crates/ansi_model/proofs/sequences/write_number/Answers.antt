use Rattle.std.proofs.Common.{arith}
use Rattle.ansi_model.proofs.{ReadLemmas.digits-one, ReadLemmas.digits-more, MoveLemmas.short_number, MoveLemmas.number_room}
use Rattle.ansi_model.proofs.sequences.write_number.Goals as goal

pub returns-then-n-lt10-clause-number : goal.returns-then-n-lt10-clause-number
returns-then-n-lt10-clause-number c = digits-one c.args.n _ _ (omega arith) c.write_digit.ensures

pub returns-then-n-lt10-clause-room : goal.returns-then-n-lt10-clause-room
returns-then-n-lt10-clause-room c = number_room _ _ c.args.n (omega arith) (digits-one c.args.n _ _ (omega arith) c.write_digit.ensures)

pub write_digits-requires : goal.write_digits-requires
write_digits-requires c = let few = short_number c.args.n (omega arith) in omega arith

pub returns-then-n-ge100-clause-room : goal.returns-then-n-ge100-clause-room
returns-then-n-ge100-clause-room c = number_room _ _ c.args.n (omega arith) c.write_digits.ensures

pub returns-clause-number : goal.returns-clause-number
returns-clause-number c = digits-more c.args.n _ _ _ (omega arith) (omega arith)
    (digits-one _ _ _ (omega arith) c.write_digit-2.ensures) c.write_digit-3.ensures
