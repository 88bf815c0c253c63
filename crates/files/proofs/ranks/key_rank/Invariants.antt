use Rattle.std.proofs.Common.{◌≡◌, ◌+◌, drop}
use Rattle.files.specs.Ranks.{key_bytes, worth, key_rank}
use Rattle.files.proofs.ranks.key_rank.Given as goal

-- what the bytes so far are worth, and the others, is what all are worth
abbrev pub invariant-loop-item : goal.invariant-loop-item
invariant-loop-item l =
    l.rank.value + worth l.rank.unit (key_bytes l.is_number (drop l.item-index l.key)) ≡ key_rank l.key
