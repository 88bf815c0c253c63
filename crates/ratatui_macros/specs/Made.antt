-- What is made of something that may have been refused, and lists with room.
use Rattle.std.specs.Prelude.{ℕ, ◌+◌, ◌≤◌, Result, Ok, Err, ⊤, Vec, vec_len, vec_capacity}

-- if the second is there, so was the first, and this holds of both
abbrev pub IsMadeBy : {A B E : Type 0} → (A → B → Type 0) → Result A E → Result B E → Type 0
IsMadeBy way (Ok was) (Ok made) = way was made
IsMadeBy way (Err _) (Ok _) = ⊥
IsMadeBy way _ (Err _) = ⊤

-- a list takes so many more without memory
abbrev pub HasRoomLeft : {T A : Type 0} → ℕ → Vec T A → Type 0
HasRoomLeft more list = vec_len list + more ≤ vec_capacity list
