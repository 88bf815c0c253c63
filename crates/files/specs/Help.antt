-- The list of the keys.
use Rattle.std.specs.Prelude.{ℕ, List, [], length, map, slice_get, unwrap_or}
use Rattle.files.specs.declared.help.TheConstants.{HELP}

-- how many rows it has
abbrev pub help_rows : ℕ
help_rows = length HELP

-- a row of it, and after it an empty one
abbrev pub keys_row : ℕ → List ℕ
keys_row k = unwrap_or (slice_get (map (λ line. line.now) HELP) k) []
