-- The spaces of a layout, in units.
use Rattle.std.specs.Prelude.{ℕ, ◌≡◌, ◌<◌, ◌+◌, ◌-◌, ◌*◌, ◌≤◌, nat_lt, if◌then◌else◌, ⊤}
use Rattle.rtui_layout.specs.declared.flex.Flex.TheVariants.{Legacy, Start, End, Center, SpaceBetween}
use Rattle.rtui_layout.specs.declared.flex.Flex.TheVariants.{SpaceAround, SpaceEvenly}
use Rattle.rtui_layout.specs.declared.flex.Flex.{Flex}

-- how many times the space between parts all spaces are at least, if there are so many parts
abbrev pub least_spaces : Flex → ℕ → ℕ
least_spaces SpaceAround n = if nat_lt 1 n then 2 * n else n + 1
least_spaces SpaceEvenly n = n + 1
least_spaces _ n = n - 1

-- what is left goes to spaces and to those that take it, and no other part is stretched
abbrev pub KeepsWishes : Flex → ℕ → Type 0
KeepsWishes Legacy n = ⊥
KeepsWishes SpaceBetween n = 2 ≤ n
KeepsWishes _ n = ⊤

-- where the room goes that no part takes, in units: to the space before the first part, those between two,
-- and the one after the last. Spaces that share it differ by less than a unit for each
abbrev pub IsFlexed : Flex → Type 0 → ℕ → ℕ → ℕ → ℕ → ℕ → Type 0
IsFlexed Legacy none n gap first middle last = ⊤
IsFlexed Start none n gap first middle last = (middle ≡ gap) × (first ≡ 0)
IsFlexed End none n gap first middle last = (middle ≡ gap) × (none → last ≡ 0)
IsFlexed Center none n gap first middle last = (middle ≡ gap) × (none → (first ≤ last) × (last ≤ first + 1))
IsFlexed SpaceBetween none n gap first middle last = (first ≡ 0) × (last < n - 1)
IsFlexed SpaceAround none n gap first middle last = (middle ≡ 2 * first) × (first ≤ last)
    × (last < first + 2 * n)
IsFlexed SpaceEvenly none n gap first middle last = (middle ≡ first) × (first ≤ last)
    × (last < first + (n + 1))

-- the spaces have their size and no more
abbrev pub IsPacked : Flex → Type 0
IsPacked SpaceBetween = ⊥
IsPacked SpaceAround = ⊥
IsPacked SpaceEvenly = ⊥
IsPacked _ = ⊤
