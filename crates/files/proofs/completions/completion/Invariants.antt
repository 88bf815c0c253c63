use Rattle.std.proofs.Common.{◌≡◌, map, take, option_map}
use Rattle.files.specs.Completions.{entry_rest, in_common}
use Rattle.files.proofs.completions.completion.Given as goal

-- what the entries so far have in common
abbrev pub invariant-loop-info : goal.invariant-loop-info
invariant-loop-info l =
    option_map (λ all. all.items) l.common ≡ in_common (map (entry_rest l.has_hidden l.start) (take l.info-index l.entries))
