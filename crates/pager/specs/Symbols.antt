-- The symbols of a line: what is shown for each grapheme, where, and whether it is marked.
use Rattle.std.specs.Prelude.{ℕ, Bool, true, ◌+◌, ◌-◌, ◌%◌, ◌&&◌, ◌||◌, not, nat_lt, nat_le}
use Rattle.std.specs.Prelude.{if◌then◌else◌, List, [], ◌∷◌, filter, length}
use Rattle.std.specs.{Str.bytes_eq, List.concat}
use Rattle.unicode_segmentation.specs.Grapheme.{graphemes}
use Rattle.ratatui_core.specs.{Buffer.text_width, Text.has_control, Style.Style, Style.new_style}
use Rattle.ratatui_core.specs.{Style.with_modifier, Style.modifier_of}
use Rattle.ansi_model.specs.Symbols.{is_printed}
use Rattle.pager.specs.declared.view.View.{View}
use Rattle.pager.specs.declared.styles.Run.{Run}
use Rattle.pager.specs.declared.sought.Sought.{Sought}
use Rattle.pager.specs.declared.sought.Sought.TheVariants.{Plain, Pattern}
use Rattle.pager.specs.{Search.begins_with, Patterns.pattern_of, Patterns.match_at}

abbrev pub is_tab : List ℕ → Bool
is_tab g = bytes_eq g (9 ∷ [])

-- U+FFFD is shown in place of a control character, and of what terminals don't print as one symbol
abbrev pub is_replaced : List ℕ → Bool
is_replaced g = has_control g || (nat_lt 0 (text_width g) && not (is_printed g))

-- U+FFFD
abbrev pub replacement_character : List ℕ
replacement_character = 0xEF ∷ 0xBF ∷ 0xBD ∷ []

-- what is shown for a grapheme: nothing for a tab
unfoldable pub shown_symbol : List ℕ → List ℕ
shown_symbol g = if is_tab g then [] else if is_replaced g then replacement_character else g

-- how many columns a grapheme takes that begins in a column: a tab those up to the next multiple of eight
unfoldable pub shown_columns : ℕ → List ℕ → ℕ
shown_columns column g = if is_tab g then 8 - column % 8 else if is_replaced g then 1 else text_width g

-- reversed; 64 is `REVERSED`
abbrev pub reversed : Style
reversed = with_modifier (modifier_of 64) new_style

-- a symbol of a line: its text and style, the column in which it begins, and the columns that it takes
pub record LineSymbol : Type 0 where
  pub text : List ℕ
  pub style : Style
  pub column : ℕ
  pub columns : ℕ

-- a grapheme as a symbol that begins in a column
abbrev pub line_symbol : Style → ℕ → List ℕ → LineSymbol
line_symbol style column g =
    record { text = shown_symbol g; style = style; column = column; columns = shown_columns column g }

-- how many bytes are marked of what is left of a line. Of a text: all of it where it stands at the front, and
-- else what is left of an earlier mark. Of an expression: what is left of an earlier mark, and after it the match
-- that begins there
abbrev pub marked_bytes : Sought → List ℕ → ℕ → List ℕ → ℕ
marked_bytes (Plain text) line marked rest =
    if nat_lt 0 (length text) && begins_with text rest then length text else marked
marked_bytes (Pattern text) line marked rest =
    if nat_lt 0 marked then marked else match_at (pattern_of text) line (length line - length rest)

-- what is marked is reversed, and else in a style of its own
abbrev pub mark_style : ℕ → Style → Style
mark_style marked style = if nat_lt 0 marked then reversed else style

-- the runs of a line that end after a byte of it
unfoldable pub runs_after : ℕ → List Run → List Run
runs_after at [] = []
runs_after at (r ∷ rs) = if nat_le r.end at then runs_after at rs else r ∷ rs

-- the style of the first run, and after the last one none
abbrev pub first_style : List Run → Style
first_style [] = new_style
first_style (r ∷ rs) = r.style

-- where a line is read: the column, how many bytes are marked of an earlier match, and the runs of styles
-- that are left
pub record Reach : Type 0 where
  pub line : List ℕ
  pub column : ℕ
  pub marked : ℕ
  pub runs : List Run

-- at the front of a line in these runs
abbrev pub line_front : List Run → List ℕ → Reach
line_front runs line = record { line = line; column = 0; marked = 0; runs = runs }

-- there, if the line goes on with these graphemes: how many bytes are marked, the runs, and the style
abbrev pub marked_at : Sought → Reach → List (List ℕ) → ℕ
marked_at sought at gs = marked_bytes sought at.line at.marked (concat gs)

abbrev pub runs_at : Reach → List (List ℕ) → List Run
runs_at at gs = runs_after (length at.line - length (concat gs)) at.runs

abbrev pub style_at : Sought → Reach → List (List ℕ) → Style
style_at sought at gs = mark_style (marked_at sought at gs) (first_style (runs_at at gs))

-- after the first one of these graphemes
abbrev pub reach_after : Sought → Reach → List ℕ → List (List ℕ) → Reach
reach_after sought at g gs = record {
  line = at.line;
  column = at.column + shown_columns at.column g;
  marked = marked_at sought at (g ∷ gs) - length g;
  runs = runs_at at (g ∷ gs);
}

-- graphemes as symbols, one after the other
unfoldable pub symbols_from : Sought → Reach → List (List ℕ) → List LineSymbol
symbols_from sought at [] = []
symbols_from sought at (g ∷ gs) =
    line_symbol (style_at sought at (g ∷ gs)) at.column g ∷ symbols_from sought (reach_after sought at g gs) gs

-- the symbols of a line in these runs of styles
abbrev pub line_symbols : Sought → List Run → List ℕ → List LineSymbol
line_symbols sought runs line = symbols_from sought (line_front runs line) (graphemes true line)

-- a symbol that begins in the columns of a view and fits
abbrev pub is_in_view : View → LineSymbol → Bool
is_in_view v s =
    nat_le v.left s.column && nat_lt s.column v.limit && nat_le (s.column + s.columns) (v.left + v.width)

-- what shows of symbols
abbrev pub symbols_in_view : View → List LineSymbol → List LineSymbol
symbols_in_view v ss = filter (is_in_view v) ss
