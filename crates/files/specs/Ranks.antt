-- The beginning of a key as one number, by which keys are told apart before they are compared.
use Rattle.std.specs.Prelude.{ℕ, zero, suc, ◌+◌, ◌*◌, ◌/◌, ◌%◌, ◌^◌, ◌==◌, nat_lt, List, [], ◌∷◌}
use Rattle.std.specs.Prelude.{Bool, true, false, if◌then◌else◌}

-- a number in bytes, the highest first, and so many after that one: what the others don't hold is the first
unfoldable pub in_bytes : ℕ → ℕ → List ℕ → List ℕ
in_bytes zero n rest = n ∷ rest
in_bytes (suc more) n rest = in_bytes more (n / 256) (n % 256 ∷ rest)

-- how many bytes a number takes after its first one: three at most
abbrev pub more_bytes : ℕ → ℕ
more_bytes n =
    if nat_lt n (2 ^ 8) then 0 else if nat_lt n (2 ^ 16) then 1 else if nat_lt n (2 ^ 24) then 2 else 3

-- a key in bytes, perhaps after the zero before a number. A number has before it how many bytes it takes, 1
-- to 4. Each other thing is one byte above these. So what is less stays less.
unfoldable pub key_bytes : Bool → List ℕ → List ℕ
key_bytes number [] = []
key_bytes true (n ∷ rest) = (more_bytes n + 1) ∷ in_bytes (more_bytes n) n (key_bytes false rest)
key_bytes false (k ∷ rest) = if k == 0 then key_bytes true rest else (k + 4) ∷ key_bytes false rest

-- bytes as one number, in which the first is worth so much. The first one from 255 on counts as 255, and is
-- the last that counts.
unfoldable pub worth : ℕ → List ℕ → ℕ
worth unit [] = 0
worth unit (b ∷ rest) = if nat_lt b 255 then b * unit + worth (unit / 256) rest else 255 * unit

-- the beginning of a key, of 128 bits
abbrev pub key_rank : List ℕ → ℕ
key_rank key = worth (2 ^ 120) (key_bytes false key)
