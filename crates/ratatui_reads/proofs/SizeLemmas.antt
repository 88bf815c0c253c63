-- Sizes that events tell.
use Rattle.std.proofs.Common.{rules, arith, ◌≡◌, ◌<◌, ◌*◌, ◌&&◌, ℕ, zero, suc, Bool, true, false}
use Rattle.std.proofs.Common.{if◌then◌else◌, min, ◌+◌, nat_lt, nat_le, List, [], ◌∷◌, Option, Some, None}
use Rattle.ratatui_events.specs.declared.event.Event.{Event}
use Rattle.ratatui_events.specs.declared.event.Event.TheVariants.{Size, Position}
use Rattle.ratatui_input.specs.declared.decoder.Decoder.{Decoder}
use Rattle.ratatui_reads.specs.Reads.{size_if, size_in, later, last_size, size_told, told_by}

-- a size of one cell at least
abbrev HasCells : ℕ × ℕ → Type 0
HasCells z = (0 < z.0) × (0 < z.1)

abbrev AllHaveCells : Option (ℕ × ℕ) → Type 0
AllHaveCells known = (z : ℕ × ℕ) → known ≡ Some z → HasCells z

none-has : AllHaveCells None
none-has z is = absurd (cc)

-- what a test lets through
let-through : (b : Bool) (x : ℕ × ℕ) → (b ≡ true → HasCells x) → AllHaveCells (if b then Some x else None)
let-through true x has z is = search (rules, has, is)
let-through false x has z is = absurd (cc)

product-cells : (columns rows : ℕ) → 0 < columns * rows → HasCells (columns, rows)
product-cells zero rows some = absurd (search (rules, arith, some))
product-cells (suc c) zero some = absurd (search (rules, arith, some))
product-cells (suc c) (suc r) some = search (rules, arith)

tested : (columns rows : ℕ) → (nat_lt 0 (columns * rows) && nat_le (columns * rows) 1000000) ≡ true
    → 0 < columns * rows
tested columns rows test = grind (arith, test)

if-cells : (columns rows : ℕ) → AllHaveCells (size_if columns rows)
if-cells columns rows = let-through (nat_lt 0 (columns * rows) && nat_le (columns * rows) 1000000) (columns, rows)
    (λ test. product-cells columns rows (tested columns rows test))

in-cells : (e : Event) → AllHaveCells (size_in e)
in-cells (Size columns rows) = if-cells columns rows
in-cells (Position x y) = if-cells (min (x + 1) 65535) (min (y + 1) 65535)
in-cells _ = none-has

later-cells : (new old : Option (ℕ × ℕ)) → AllHaveCells new → AllHaveCells old → AllHaveCells (later new old)
later-cells (Some z) old a b = a
later-cells None old a b = b

last-cells : (known : Option (ℕ × ℕ)) (events : List Event) → AllHaveCells known → AllHaveCells (last_size known events)
last-cells known [] has = has
last-cells known (e ∷ es) has = last-cells (later (size_in e) known) es (later-cells (size_in e) known (in-cells e) has)

pub told-cells : (d : Decoder) (bytes : List ℕ) (columns rows : ℕ) → size_told d bytes ≡ Some (columns, rows)
    → (0 < columns) × (0 < rows)
told-cells d bytes columns rows is = last-cells None (told_by d bytes).0 none-has (columns, rows) is

pub ruleset told_cells = (told-cells)
