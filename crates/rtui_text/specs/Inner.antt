-- Words that only private contracts use: they follow the code.
use Rattle.std.specs.Prelude.{◌≡◌, ℕ, ◌==◌, false, List}
use Rattle.std.specs.{List.list_any}

-- a text without line breaks
abbrev pub IsUnbroken : List ℕ → Type 0
IsUnbroken text = list_any (λ b. b == 10) text ≡ false
