use Rattle.std.proofs.Common.{◌≡◌, ◌++◌, drop, ap, sym, ◌∙◌, arith, [], ◌+◌}
use Rattle.std.proofs.lemmas.List.{at_drop_more, drop_all}
use Rattle.files.specs.NameKeys.{sort_key_in, name_sort_key}
use Rattle.files.proofs.name_keys.name_sort_key.Goals as goal

pub loop-byte-preserved : goal.loop-byte-preserved
loop-byte-preserved c =
    let bytes = c.as_bytes-byte-items.result.now in
    let k = c.loop-byte.byte-index in
    c.in_ok-number.ensures (drop (k + 1) bytes)
    ∙ ap (λ t. c.loop-byte.key.items ++ t) (sym (at_drop_more (sort_key_in c.loop-byte.number) bytes k 0 (omega (arith, c.loop-byte-test.true))))
    ∙ c.loop-byte.invariant

pub returns : goal.returns
returns c =
    let bytes = c.as_bytes-byte-items.result.now in
    let none : drop c.loop-byte.byte-index bytes ≡ [] = drop_all c.loop-byte.byte-index bytes (omega (arith, c.loop-byte-test.false)) in
    c.new.ensures ∙ c.in_ok-push_number.ensures ∙ ap (λ t. c.loop-byte.key.items ++ sort_key_in c.loop-byte.number t) (sym none)
    ∙ c.loop-byte.invariant ∙ ap name_sort_key c.as_bytes-byte-items.ensures.value
