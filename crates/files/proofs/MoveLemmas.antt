-- How the cursor comes before a dot.
use Rattle.std.proofs.Common.{◌≡◌, ℕ, suc, ◌+◌, ◌-◌, ◌<◌, ◌≤◌, true, false, refl, arith}
use Rattle.text_field.specs.Field.{FieldData, moved_left}
use Rattle.text_field.specs.Reach.{reach_left}
use Rattle.text_field.specs.declared.reach.Reach.TheVariants.{Grapheme}
use Rattle.files.specs.Moves.{follows_dot, to_dot}

pub dot-here : (n k : ℕ) (f : FieldData) → k < n → follows_dot f ≡ true
    → to_dot (n - k) f ≡ moved_left (reach_left Grapheme f.before) f
unfolding to_dot
dot-here n k f more is = let e : n - k ≡ suc (n - (k + 1)) = omega arith in rw e (rw is refl)

pub dot-further : (n k : ℕ) (f : FieldData) → k < n → follows_dot f ≡ false
    → to_dot (n - k) f ≡ to_dot (n - (k + 1)) (moved_left (reach_left Grapheme f.before) f)
unfolding to_dot
dot-further n k f more is = let e : n - k ≡ suc (n - (k + 1)) = omega arith in rw e (rw is refl)

pub dot-end : (n k : ℕ) (f : FieldData) → n ≤ k → to_dot (n - k) f ≡ f
unfolding to_dot
dot-end n k f none = let e : n - k ≡ 0 = omega arith in rw e refl
