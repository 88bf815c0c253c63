-- Which texts say something else than what stands in them.
use Rattle.std.specs.Prelude.{ℕ, Bool, ◌==◌, ◌||◌, List}
use Rattle.std.specs.List.{list_any}

-- an escape or a backspace
abbrev pub is_sign : ℕ → Bool
is_sign byte = (byte == 27) || (byte == 8)

-- one of them stands in a text
abbrev pub has_signs : List ℕ → Bool
has_signs text = list_any is_sign text
