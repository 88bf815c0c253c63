-- Constraints: their kinds and their texts.
use Rattle.std.specs.Prelude.{ℕ, List, ◌++◌, codes, ⊤}
use Rattle.std.specs.Fmt.{decimal}
use Rattle.rtui_layout.specs.declared.constraint.Constraint.{Constraint}
use Rattle.rtui_layout.specs.declared.constraint.Constraint.TheVariants.{Min, Max, Length, Percentage, Ratio}
use Rattle.rtui_layout.specs.declared.constraint.Constraint.TheVariants.{Fill}

abbrev pub IsMin : Constraint → Type 0
IsMin (Min n) = ⊤
IsMin _ = ⊥

abbrev pub IsMax : Constraint → Type 0
IsMax (Max n) = ⊤
IsMax _ = ⊥

abbrev pub IsLength : Constraint → Type 0
IsLength (Length n) = ⊤
IsLength _ = ⊥

abbrev pub IsPercentage : Constraint → Type 0
IsPercentage (Percentage n) = ⊤
IsPercentage _ = ⊥

abbrev pub IsRatio : Constraint → Type 0
IsRatio (Ratio m n) = ⊤
IsRatio _ = ⊥

abbrev pub IsFill : Constraint → Type 0
IsFill (Fill n) = ⊤
IsFill _ = ⊥

-- a name with a number in parentheses
abbrev pub with_number : List ℕ → ℕ → List ℕ
with_number name n = name ++ codes "(" ++ decimal n ++ codes ")"

-- the name with the numbers in parentheses
abbrev pub constraint_text : Constraint → List ℕ
constraint_text (Min n) = with_number (codes "Min") n
constraint_text (Max n) = with_number (codes "Max") n
constraint_text (Length n) = with_number (codes "Length") n
constraint_text (Percentage n) = with_number (codes "Percentage") n
constraint_text (Ratio m n) = codes "Ratio(" ++ decimal m ++ codes ", " ++ decimal n ++ codes ")"
constraint_text (Fill n) = with_number (codes "Fill") n
