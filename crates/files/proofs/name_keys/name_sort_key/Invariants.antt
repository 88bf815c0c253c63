use Rattle.std.proofs.Common.{◌≡◌, ◌++◌, drop}
use Rattle.files.specs.NameKeys.{sort_key_in, name_sort_key}
use Rattle.files.proofs.name_keys.name_sort_key.Given as goal

-- what is done, continued by what is left, is the whole
abbrev pub invariant-loop-byte : goal.invariant-loop-byte
invariant-loop-byte l = l.key.items ++ sort_key_in l.number (drop l.byte-index l.byte-items) ≡ name_sort_key l.byte-items
