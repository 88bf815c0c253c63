-- The rules of the tables of patterns.
use Rattle.std.specs.Prelude.{ℕ, ◌+◌, ◌*◌, ◌/◌, ◌%◌, ◌==◌, List, [], ◌∷◌, Option, Some, None, option_map}
use Rattle.std.specs.Prelude.{find}
use Prim.Native.Nat.{zero, suc}

-- the dots of a set: each bit of it, from the lowest on, stands for the next of these dots
abbrev pub dots_of : List ℕ → ℕ → ℕ
dots_of [] set = 0
dots_of (dot ∷ dots) set = set % 2 * dot + dots_of dots (set / 2)

-- the Braille pattern of a set of dots
abbrev pub braille_of : ℕ → ℕ
braille_of set = 0x2800 + dots_of (0x01 ∷ 0x08 ∷ 0x02 ∷ 0x10 ∷ 0x04 ∷ 0x20 ∷ 0x40 ∷ 0x80 ∷ []) set

-- the character that is named for a place
abbrev pub named_at : List (ℕ × ℕ) → ℕ → Option ℕ
named_at named place = option_map (λ row. row.1) (find (λ row. row.0 == place) named)

-- the characters of this many places from `place` on: the named one, or else the next of those from `next` on
abbrev pub filled : List (ℕ × ℕ) → ℕ → ℕ → ℕ → List ℕ
filled named zero place next = []
filled named (suc n) place next = elim (named_at named place) [
  | Some c ↦ c ∷ filled named n (place + 1) next
  | None ↦ next ∷ filled named n (place + 1) (next + 1)
]

-- the places of sextants with characters older than the others: none, the left half, the right half, all
abbrev pub older_sextants : List (ℕ × ℕ)
older_sextants = (0, 0x20) ∷ (21, 0x258c) ∷ (42, 0x2590) ∷ (63, 0x2588) ∷ []

-- the places of octants with characters older than the others
abbrev pub older_octants : List (ℕ × ℕ)
older_octants =
    (0, 0x20) ∷ (1, 0x1cea8) ∷ (2, 0x1ceab) ∷ (3, 0x1fb82) ∷ (5, 0x2598) ∷ (10, 0x259d) ∷ (15, 0x2580) ∷ (
      20,
      0x1fbe6,
    ) ∷ (40, 0x1fbe7) ∷ (63, 0x1fb85) ∷ (64, 0x1cea3) ∷ (80, 0x2596) ∷ (85, 0x258c) ∷ (
      90,
      0x259e,
    ) ∷ (95, 0x259b) ∷ (128, 0x1cea0) ∷ (160, 0x2597) ∷ (165, 0x259a) ∷ (170, 0x2590) ∷ (
      175,
      0x259c,
    ) ∷ (192, 0x2582) ∷ (240, 0x2584) ∷ (245, 0x2599) ∷ (250, 0x259f) ∷ (252, 0x2586) ∷ (
      255,
      0x2588,
    ) ∷ []
