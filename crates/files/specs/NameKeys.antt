-- What names are compared by: digits that stand side by side are one number.
use Rattle.std.specs.Prelude.{ℕ, Bool, ◌+◌, ◌-◌, ◌*◌, ◌^◌, ◌&&◌, min, nat_le, if◌then◌else◌, List, [], ◌∷◌, Option, Some, None}
use Rattle.std.specs.Str.{byte}

abbrev pub is_digit_byte : ℕ → Bool
is_digit_byte b = nat_le (byte "0") b && nat_le b (byte "9")

-- a digit more of a number, which ends at the largest one that is told apart
abbrev pub digit_added : ℕ → ℕ → ℕ
digit_added n b = min (n * 10 + (b - byte "0")) (2 ^ 64 - 1)

-- the rest of a name, perhaps in the middle of a number: a zero and the number for each number, and a number above
-- zero for each other byte. So a number stands before all else, and numbers stand in their own order.
unfoldable pub sort_key_in : Option ℕ → List ℕ → List ℕ
sort_key_in None [] = []
sort_key_in (Some n) [] = 0 ∷ n ∷ []
sort_key_in None (b ∷ rest) =
    if is_digit_byte b then sort_key_in (Some (b - byte "0")) rest else (b + 1) ∷ sort_key_in None rest
sort_key_in (Some n) (b ∷ rest) =
    if is_digit_byte b then sort_key_in (Some (digit_added n b)) rest else 0 ∷ n ∷ (b + 1) ∷ sort_key_in None rest

abbrev pub name_sort_key : List ℕ → List ℕ
name_sort_key name = sort_key_in None name
