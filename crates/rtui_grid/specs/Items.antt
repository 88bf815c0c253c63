-- Elements of a list by their places.
use Rattle.std.specs.Prelude.{ℕ, ◌+◌, ◌*◌, List, slice_index_or}

-- the element at a place of a list, and the blank one past its end
abbrev pub item : {T : Type 0} → T → List T → ℕ → T
item blank items k = slice_index_or items k blank

-- the element in column a of row b, in rows of w elements
abbrev pub item_at : {T : Type 0} → T → ℕ → List T → ℕ → ℕ → T
item_at blank w items a b = item blank items (b * w + a)
