-- Which columns a clear empties.
use Rattle.std.specs.Prelude.{ℕ, Bool, true, ◌&&◌, ◌||◌, nat_lt, nat_le, nat_eq, List, codes}
use Rattle.rtui_backend.specs.declared.clear_type.ClearType.{ClearType}
use Rattle.rtui_backend.specs.declared.clear_type.ClearType.TheVariants.{All, AfterCursor, BeforeCursor}
use Rattle.rtui_backend.specs.declared.clear_type.ClearType.TheVariants.{CurrentLine, UntilNewLine}

-- whether column a of row b is emptied, for a cursor in column x of row y
abbrev pub is_cleared : ClearType → ℕ → ℕ → ℕ → ℕ → Bool
is_cleared All x y a b = true
is_cleared AfterCursor x y a b = nat_lt y b || (nat_eq b y && nat_le x a)
is_cleared BeforeCursor x y a b = nat_lt b y || (nat_eq b y && nat_le a x)
is_cleared CurrentLine x y a b = nat_eq b y
is_cleared UntilNewLine x y a b = nat_eq b y && nat_le x a

abbrev pub clear_name : ClearType → List ℕ
clear_name All = codes "All"
clear_name AfterCursor = codes "AfterCursor"
clear_name BeforeCursor = codes "BeforeCursor"
clear_name CurrentLine = codes "CurrentLine"
clear_name UntilNewLine = codes "UntilNewLine"
