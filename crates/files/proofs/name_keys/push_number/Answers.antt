use Rattle.files.proofs.KeyLemmas.{key-none, key-number}
use Rattle.files.proofs.name_keys.push_number.Goals as goal

pub returns-in_ok-push-2 : goal.returns-in_ok-push-2
returns-in_ok-push-2 c = rw c.in-Some.is (key-number c.args.key.now.items c.push.new.self.items c.push-in-Some.new.self.items c.in-Some.number
    c.in_ok-push.ensures.items c.in_ok-push-2.ensures.items)

pub returns-in_default : goal.returns-in_default
returns-in_default c = rw c.in_default.is (key-none c.args.key.now.items)
