-- The runs of a line, one after the other.
use Rattle.std.proofs.Common.{◌≡◌, ◌<◌, ◌≤◌, ℕ, true, false, nat_le, List, [], ◌∷◌, length}
use Rattle.std.proofs.Common.{refl, sym, ap, ◌∙◌, arith}
use Rattle.std.proofs.lemmas.{Bool.Decides.nat_tests, List.drop_all}
use Rattle.pager.specs.declared.styles.Run.{Run}
use Rattle.pager.specs.Symbols.{runs_after}

not-le : (a b : ℕ) → b < a → nat_le a b ≡ false
not-le a b is = grind (arith, nat_tests)

is-le : (a b : ℕ) → a ≤ b → nat_le a b ≡ true
is-le a b is = grind (arith, nat_tests)

head-stays : (byte : ℕ) (r : Run) (rs : List Run) → byte < r.end → runs_after byte (r ∷ rs) ≡ r ∷ rs
unfolding runs_after
head-stays byte r rs is = rw (not-le r.end byte is) refl

head-goes : (byte : ℕ) (r : Run) (rs : List Run) → r.end ≤ byte → runs_after byte (r ∷ rs) ≡ runs_after byte rs
unfolding runs_after
head-goes byte r rs is = rw (is-le r.end byte is) refl

pub runs-here : (byte : ℕ) (left rs : List Run) (r : Run) → left ≡ r ∷ rs → byte < r.end
    → runs_after byte left ≡ left
runs-here byte left rs r all is = ap (runs_after byte) all ∙ head-stays byte r rs is ∙ sym all

pub runs-later : (byte : ℕ) (left rs : List Run) (r : Run) → left ≡ r ∷ rs → r.end ≤ byte
    → runs_after byte left ≡ runs_after byte rs
runs-later byte left rs r all is = ap (runs_after byte) all ∙ head-goes byte r rs is

pub runs-none : (byte : ℕ) (left : List Run) → length left ≡ 0 → runs_after byte left ≡ left
unfolding runs_after
runs-none byte left is =
    let end : left ≡ [] = drop_all 0 left (omega (arith, is)) in
    ap (runs_after byte) end ∙ sym end
