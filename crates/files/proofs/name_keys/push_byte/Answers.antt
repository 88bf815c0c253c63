use Rattle.std.proofs.Common.{rules, ◌≡◌, false}
use Rattle.files.specs.NameKeys.{is_digit_byte}
use Rattle.files.proofs.KeyLemmas.{key-pushed}
use Rattle.files.proofs.name_keys.push_byte.Goals as goal

pub returns : goal.returns
returns c = λ rest.
    let none : is_digit_byte c.args.byte ≡ false = search rules in
    key-pushed c.args.key.now.items c.push_number.new.key.items c.push.new.self.items c.args.number c.args.byte rest none
    c.in_ok-push_number.ensures (search rules)
