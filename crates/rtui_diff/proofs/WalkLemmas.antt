-- What one step of the walk does, by its cases.
use Rattle.std.proofs.Common.{◌*◌, ◌≡◌, ℕ, zero, suc, ◌-◌, ◌&&◌, ◌||◌, Bool, true, false, not, List, ◌∷◌, cond, refl, sym}
use Rattle.std.proofs.Common.{if◌then◌else◌, nat_lt}
use Rattle.std.proofs.Math.Bool.{and-false}
use Rattle.std.proofs.lemmas.Bool.{false≢true, and_parts, or_parts, not-true, not-false}
use Rattle.rtui_cell.specs.{declared.cell.Cell.Cell, declared.cell.CellDiffOption.CellDiffOption, Equality.is_same}
use Rattle.rtui_cell.specs.declared.cell.CellDiffOption.TheVariants as DiffOption
use Rattle.rtui_cell.specs.Cell.{width_of, is_skipped, has_no_option, is_single_byte}
use Rattle.rtui_cell.proofs.CellLemmas.{single_byte_option}
use Rattle.rtui_diff.specs.Cells.{has_fe0f, is_forced, is_always, is_always_by, shows_on_blank}
use Rattle.rtui_diff.specs.DiffRule.{Walk, start, gives, gives_other, step_other, give, given}

pick : (P : Walk → Type 0) (s0 s1 s2 s3 : Walk) (sk fo gi wide fe vis : Bool) →
    (sk ≡ true → P s0) → (sk ≡ false → P s1) →
    (sk ≡ false → fo ≡ false → gi ≡ true → wide ≡ true → fe ≡ true → P s2) →
    (sk ≡ false → gi ≡ true → wide ≡ false → vis ≡ true → P s3) →
    (sk ≡ false → wide ≡ false → P s0) →
    P (if sk then s0 else (if fo || not gi || (wide && not fe) then s1 else (if wide then s2 else (if vis then s3 else s0))))
pick P s0 s1 s2 s3 true fo gi wide fe vis h0 h1 h2 h3 h4 = h0 refl
pick P s0 s1 s2 s3 false true gi wide fe vis h0 h1 h2 h3 h4 = h1 refl
pick P s0 s1 s2 s3 false false false wide fe vis h0 h1 h2 h3 h4 = h1 refl
pick P s0 s1 s2 s3 false false true true false vis h0 h1 h2 h3 h4 = h1 refl
pick P s0 s1 s2 s3 false false true true true vis h0 h1 h2 h3 h4 = h2 refl refl refl refl refl
pick P s0 s1 s2 s3 false false true false fe true h0 h1 h2 h3 h4 = h3 refl refl refl refl
pick P s0 s1 s2 s3 false false true false fe false h0 h1 h2 h3 h4 = h4 refl refl

-- the five ways on from a cell that is neither stepped over nor visited
pub step_cases : (P : Walk → Type 0) (p n : Cell) →
    (is_skipped n ≡ true → P start) →
    (is_skipped n ≡ false → P (record { over = width_of n - 1; left = 0; force = false })) →
    (is_skipped n ≡ false → is_forced n ≡ false → gives_other p n ≡ true → nat_lt 1 (width_of n) ≡ true → has_fe0f n ≡ true
    → P (record { over = 0; left = width_of n - 1; force = false })) →
    (is_skipped n ≡ false → gives_other p n ≡ true → nat_lt 1 (width_of n) ≡ false
    → (nat_lt (width_of n) (width_of p) && shows_on_blank p) ≡ true
    → P (record { over = 0; left = width_of p - 1; force = true })) →
    (is_skipped n ≡ false → nat_lt 1 (width_of n) ≡ false → P start) →
    P (step_other p n)
step_cases P p n = pick P start _ _ _ (is_skipped n) (is_forced n) (gives_other p n) (nat_lt 1 (width_of n)) (has_fe0f n)
    (nat_lt (width_of n) (width_of p) && shows_on_blank p)

-- a place that is given or not, before the others
pub give_cond : (g : Bool) (i : ℕ) (is : List ℕ) → give g i is ≡ cond g (i ∷ is) is
give_cond true i is = refl
give_cond false i is = refl

-- a unskipped cell that is not given is skipped or the same
pub other_same : (p n : Cell) → gives_other p n ≡ false → is_skipped n ≡ false → is_same p n ≡ true
other_same p n e f = not-false (is_same p n) (or_parts (is_always n) (not (is_same p n)) (rw f at e)).1

-- what is given is not skipped
pub unskipped : (over left : ℕ) (force : Bool) (p n : Cell)
    → gives (record { over = over; left = left; force = force }) p n ≡ true → is_skipped n ≡ false
unskipped (suc over) left force p n e = absurd (false≢true e)
unskipped zero (suc left) force p n e = not-true (is_skipped n) (and_parts (not (is_skipped n)) _ e).0
unskipped zero zero force p n e = not-true (is_skipped n) (and_parts (not (is_skipped n)) _ e).0

plain_always : (o : CellDiffOption) → has_no_option o ≡ true → is_always_by o ≡ false
plain_always DiffOption.None e = refl
plain_always DiffOption.Skip e = refl
plain_always DiffOption.AlwaysUpdate e = absurd (false≢true e)
plain_always (DiffOption.ForcedWidth forced) e = refl

-- a cell of a single byte is not drawn each time
pub single_byte_always : (n : Cell) → is_single_byte n ≡ true → is_always n ≡ false
unfolding is_always
single_byte_always n e = plain_always n.diff_option (single_byte_option n e)

-- a cell of a single byte that is the same as the former one is not given
pub same_byte_stays : (p n : Cell) (same : Bool) → is_single_byte n ≡ true → same ≡ is_same p n → same ≡ true
    → false ≡ gives_other p n
same_byte_stays p n same single is holds =
    rw (single_byte_always n single, ← is, holds) (sym (and-false (not (is_skipped n))))

-- the places that are given, over h rows of w columns
abbrev pub places : ℕ → ℕ → List Cell → List Cell → List ℕ
places w h ps ns = given ps ns (w * h) start 0
