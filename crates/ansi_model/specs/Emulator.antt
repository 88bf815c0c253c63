-- A model terminal: what it shows, and what each of its actions does.
use Rattle.std.specs.Prelude.{ℕ, ◌+◌, ◌-◌, ◌&&◌, min, nat_lt, nat_le, nat_eq, ◌==◌, Bool, true, false}
use Rattle.std.specs.Prelude.{if◌then◌else◌, List, [], ◌∷◌, ◌++◌, map, zero, suc, chars, encode_utf8}
use Rattle.std.specs.{List.list_all, List.range_with_len, Str.bytes_eq}
use Rattle.ratatui_core.specs.Buffer.{Look, text_width, blank}
use Rattle.ratatui_core.specs.Style.{Color, bits_of}
use Rattle.ansi_model.specs.{declared.sgr.Sgr.Sgr, Sgr.default_sgr, Sgr.inked, Sgr.is_own}
use Rattle.ansi_model.specs.{Symbols.is_plain_char, Symbols.is_symbol, Symbols.is_disputed}
use Rattle.ansi_model.specs.{Parameters.color_parameters}
use Rattle.ratatui_core.specs.Backend.{ClearType, All, AfterCursor, is_cleared, Motion, moved_by}
use Rattle.ratatui_core.specs.Backend.{scrolling_up, scrolling_down}
use Rattle.ansi_model.specs.Modes.{Modes, no_modes, has_none}
use Rattle.ansi_model.specs.Columns.Column.{Shows, Unknown}
use Rattle.ansi_model.specs.Columns.{Column, Columns, Area, blank_column, look_in, is_known_column}
use Rattle.ansi_model.specs.Columns.{overwritten}

-- what the next byte belongs to: text, a sequence that just began, one that is at its first parameter or its
-- mark, or one with a mark, some parameters and the number at hand, or one with its parameters and a blank
-- after them; or one of kitty's keyboard protocol; or one that sets G0, or G1 or G2, or the coding; or a
-- string for the operating system. One that was told to show its other screen waits until it does (Windows)
pub data Phase : Type 0 where
  Ground : Phase
  Escape : Phase
  Opened : Phase
  Sequence : (mark : Bool) (done : List ℕ) (number : ℕ) → Phase
  Spaced : (parameters : List ℕ) → Phase
  Keyed : Phase
  Letters : Phase
  OtherLetters : Phase
  Coding : Phase
  Told : Phase
  Switching : (alternate : Bool) → Phase

-- a terminal: `text` is what it has read since the last sequence; a cursor in column `width` is after the
-- last one; line feeds scroll the rows from `top` up to `bottom`, its scroll region. Once it isn't sure, real
-- terminals differ
pub record Emulator : Type 0 where
  pub width : ℕ
  pub height : ℕ
  pub phase : Phase
  pub text : List ℕ
  pub sgr : Sgr
  pub x : ℕ
  pub y : ℕ
  pub top : ℕ
  pub bottom : ℕ
  pub columns : Columns
  pub history : List (List Look)
  pub visible : Bool
  pub modes : Modes
  pub sure : Bool

-- sure only if this holds
abbrev pub if_so : Bool → Emulator → Emulator
if_so holds t = record t { sure = t.sure && holds }

-- real terminals differ from here on
abbrev pub unsure : Emulator → Emulator
unsure t = record t { sure = false }

-- ---- text

-- n columns of a row, from column x on
abbrev pub run : ℕ → ℕ → ℕ → Area
run x y n a b = nat_eq b y && nat_le x a && nat_lt a (x + n)

-- a symbol of n columns printed at the cursor
abbrev pub prints : List ℕ → ℕ → Emulator → Emulator
prints symbol n t = record t {
  columns = overwritten (run t.x t.y n) (λ a b. Shows (inked symbol t.sgr) (a - t.x) n) t.columns;
  x = t.x + n;
  sure = t.sure && (nat_lt 0 n && nat_le (t.x + n) t.width && nat_lt t.y t.height);
}

-- whether two colours are one: they have the same parameters
abbrev pub is_same_color : Color → Color → Bool
is_same_color a b = bytes_eq (color_parameters 30 a) (color_parameters 30 b)

-- whether a column shows a blank in a rendition
abbrev pub is_blank_in : Sgr → Column → Bool
is_blank_in sgr (Shows look index count) =
    bytes_eq look.symbol blank && is_same_color look.fg sgr.fg && is_same_color look.bg sgr.bg
    && is_same_color look.underline_color sgr.underline_color &&
    (bits_of look.modifier == bits_of sgr.modifier) && (count == 1)
is_blank_in sgr Unknown = false

-- whether n columns from the cursor on show blanks in the rendition
abbrev pub are_blank : ℕ → Emulator → Bool
are_blank n t = list_all (λ a. is_blank_in t.sgr (t.columns a t.y)) (range_with_len t.x n)

-- a symbol of n columns of which some terminals print no more than the first one: all look alike if there
-- were blanks before. They differ on the cursor then, so it is taken to be after the last column, where
-- nothing is sure until it moves
abbrev pub prints_disputed : List ℕ → ℕ → Emulator → Emulator
prints_disputed symbol n t = record (prints symbol n (if_so (are_blank n t) t)) { x = t.width }

-- a symbol that isn't plain
abbrev pub prints_whole : List ℕ → ℕ → Emulator → Emulator
prints_whole symbol n t = if is_disputed symbol then prints_disputed symbol n t else prints symbol n t

-- characters, each printed by itself
abbrev pub types : List ℕ → Emulator → Emulator
types [] t = t
types (c ∷ cs) t = types cs (prints (encode_utf8 c) 1 t)

-- plain characters one by one, any other text as one symbol
abbrev pub printed_alike : List ℕ → Emulator → Emulator
printed_alike text t =
    if list_all is_plain_char (chars text) then types (chars text) t
    else if_so (is_symbol text) (prints_whole text (text_width text) t)

-- sure only if none of these modes is set
abbrev pub by_modes : Modes → Emulator → Emulator
by_modes m t = if has_none m then t else unsure t

-- a text printed
abbrev pub printed : List ℕ → Emulator → Emulator
printed [] t = t
printed (b ∷ bs) t = by_modes t.modes (printed_alike (b ∷ bs) t)

-- the text that was read stands on the screen
abbrev pub standing : Emulator → Emulator
standing t = record (printed t.text t) { text = [] }

-- the same, and text is awaited
abbrev pub rested : Emulator → Emulator
rested t = record (standing t) { phase = Ground }

-- ---- the cursor and the rendition

-- CUP (cursor position): to a column and a row, kept on the screen
abbrev pub cursor_moved : ℕ → ℕ → Emulator → Emulator
cursor_moved x y t = record t { x = min x (t.width - 1); y = min y (t.height - 1) }

-- CR (carriage return)
abbrev pub returned : Emulator → Emulator
returned t = record t { x = 0 }

-- DECTCEM (text cursor enable mode)
abbrev pub cursor_shown : Bool → Emulator → Emulator
cursor_shown visible t = record t { visible = visible }

-- with these modes
abbrev pub with_modes : Modes → Emulator → Emulator
with_modes modes t = record t { modes = modes }

-- a synchronized update begun, or ended
abbrev pub holding : Bool → Emulator → Emulator
holding on t = with_modes (record t.modes { held = on }) t

-- SGR (select graphic rendition) that all terminals know
abbrev pub with_sgr : Sgr → Emulator → Emulator
with_sgr sgr t = record t { sgr = sgr }

-- ---- erasing: terminals differ if the rendition isn't their own, or the cursor is after the last column

-- some put the screen into their history if all of it is erased at once, or from the corner on
abbrev pub keeps_history : ClearType → ℕ → ℕ → Bool
keeps_history All x y = false
keeps_history AfterCursor x y = nat_lt 0 (x + y)
keeps_history _ x y = true

-- ED (erase in display) and EL (erase in line)
abbrev pub erased : ClearType → Emulator → Emulator
erased part t = record t {
  columns = overwritten (is_cleared part t.x t.y) (λ a b. blank_column) t.columns;
  sure = t.sure && (is_own t.sgr && nat_lt t.x t.width && keeps_history part t.x t.y);
}

-- columns after a motion; those that nothing came to are blank
abbrev pub columns_moved : Motion → Columns → Columns
columns_moved m columns = moved_by m blank_column columns

-- ---- scrolling: terminals differ if the rendition isn't their own

-- a row, and whether all of it is known
abbrev pub row_shown : Emulator → ℕ → List Look
row_shown t b = map (λ a. look_in (t.columns a b)) (range_with_len 0 t.width)

abbrev pub is_row_known : Emulator → ℕ → Bool
is_row_known t b = list_all (λ a. is_known_column (t.columns a b)) (range_with_len 0 t.width)

-- DECSTBM (set top and bottom margins): the scroll region, of at least two rows, and the cursor in the corner
abbrev pub with_region : ℕ → ℕ → Emulator → Emulator
with_region top bottom t = record t {
  top = top;
  bottom = bottom;
  x = 0;
  y = 0;
  sure = t.sure && (nat_lt (top + 1) bottom && nat_le bottom t.height);
}

-- no margins: the whole screen is the region
abbrev pub without_region : Emulator → Emulator
without_region t = record t { top = 0; bottom = t.height; x = 0; y = 0 }

-- the rows of the region one up; the first row goes to the history. Terminals differ on that if the region
-- begins below the first row
abbrev pub scrolled : Emulator → Emulator
scrolled t = record t {
  history = t.history ++ row_shown t 0 ∷ [];
  columns = columns_moved (scrolling_up t.top t.bottom 1) t.columns;
  sure = t.sure && (is_own t.sgr && nat_eq t.top 0 && is_row_known t 0);
}

-- LF (line feed): the cursor one row down; from the last row of the region the region scrolls in place of it
abbrev pub line_fed : Emulator → Emulator
line_fed t =
    if nat_eq (t.y + 1) t.bottom then scrolled (if_so (nat_lt t.x t.width) t)
    else record t { y = min (t.y + 1) (t.height - 1); sure = t.sure && nat_lt t.x t.width }

-- n line feeds
abbrev pub fed : ℕ → Emulator → Emulator
fed zero t = t
fed (suc n) t = fed n (line_fed t)

-- DL (delete line): n rows from the cursor's on go, those below in the region move up. Terminals differ on
-- the history in the first row, and on where the cursor ends in another column than the first
abbrev pub lines_deleted : ℕ → Emulator → Emulator
lines_deleted n t = record t {
  columns = columns_moved (scrolling_up t.y t.bottom n) t.columns;
  sure = t.sure && (is_own t.sgr && nat_lt 0 t.y && nat_le t.top t.y && nat_lt t.y t.bottom && nat_eq t.x 0);
}

-- IL (insert line): n blank rows come in at the cursor's row, those from there on in the region move down.
-- Terminals differ on where the cursor ends in another column than the first
abbrev pub lines_inserted : ℕ → Emulator → Emulator
lines_inserted n t = record t {
  columns = columns_moved (scrolling_down t.y t.bottom n) t.columns;
  sure = t.sure && (is_own t.sgr && nat_le t.top t.y && nat_lt t.y t.bottom && nat_eq t.x 0);
}

-- ---- the beginning

-- a blank terminal of this size
abbrev pub blank_terminal : ℕ → ℕ → Emulator
blank_terminal w h = record {
  width = w;
  height = h;
  phase = Ground;
  text = [];
  sgr = default_sgr;
  x = 0;
  y = 0;
  top = 0;
  bottom = h;
  columns = λ a b. blank_column;
  history = [];
  visible = true;
  modes = no_modes;
  sure = true;
}
