use Rattle.std.proofs.Common.{rules, ◌≡◌, ap, ◌∙◌, sym, Some}
use Rattle.files.specs.NameKeys.{digit_added, sort_key_in}
use Rattle.files.proofs.KeyLemmas.{key-first_digit, key-digit}
use Rattle.files.proofs.name_keys.with_digit.Goals as goal

pub returns-in-Some : goal.returns-in-Some
returns-in-Some c = λ rest.
    let same : digit_added c.in-Some.number c.args.digit ≡ c.saturating_add.result = search rules in
    rw c.in-Some.is (key-digit c.in-Some.number c.args.digit rest c.requires ∙ ap (λ n. sort_key_in (Some n) rest) same)

pub returns-in-None : goal.returns-in-None
returns-in-None c = λ rest. rw c.in-None.is (key-first_digit c.args.digit rest c.requires ∙ ap (λ n. sort_key_in (Some n) rest) (sym c.from-value.ensures))
