-- Which events edit a text area, and what an edit does.
use Rattle.std.specs.Prelude.{ℕ, Bool, true, false, ◌==◌, if◌then◌else◌, List, [], ◌∷◌, Option, Some, None}
use Rattle.std.specs.Prelude.{codes}
use Rattle.std.specs.Prelude.{encode_utf8, option_map}
use Rattle.std.specs.Option.{option_or}
use Rattle.ratatui_events.specs.declared.event.Event.{Event}
use Rattle.ratatui_events.specs.declared.event.Event.TheVariants.{Key, Pasted}
use Rattle.ratatui_events.specs.declared.key.KeyEvent.{KeyEvent}
use Rattle.ratatui_events.specs.declared.key.KeyEventKind.{KeyEventKind}
use Rattle.ratatui_events.specs.declared.key.KeyEventKind.TheVariants.{Press, Repeat, Release}
use Rattle.ratatui_events.specs.declared.key.KeyCode.{KeyCode}
use Rattle.ratatui_events.specs.declared.key.KeyCode.TheVariants as code
use Rattle.ratatui_events.specs.declared.key.KeyModifiers.{KeyModifiers}
use Rattle.ratatui_events.specs.Key.{modifier_bits}
use Rattle.text_field.specs.Keys.{letter}
use Rattle.text_area.specs.declared.extent.Extent.TheVariants.{Grapheme, Word, Line, LineOrBreak, Text}
use Rattle.text_area.specs.declared.moves.Move.{Move}
use Rattle.text_area.specs.declared.moves.Move.TheVariants.{Left, Right, Up, Down, PageUp, PageDown}
use Rattle.text_area.specs.declared.keys.AreaEdit.{AreaEdit}
use Rattle.text_area.specs.declared.keys.AreaEdit.TheVariants.{Insert, Yank, Go, Select, Delete, Kill, Cut}
use Rattle.text_area.specs.declared.keys.AreaEdit.TheVariants.{Copy, Undo, Redo}
use Rattle.text_area.specs.Areas.{AreaData, typing_over, yanking, gone, unselected, selection_begun, deleting}
use Rattle.text_area.specs.Areas.{reached, killing}
use Rattle.text_area.specs.Areas.{selection, keeping_part, undoing, redoing}

-- what a letter does beside Control
abbrev pub area_control_keys : List (ℕ × AreaEdit)
area_control_keys =
    (letter (codes "a"), Go (Left Line))
    ∷ (letter (codes "b"), Go (Left Grapheme))
    ∷ (letter (codes "c"), Copy)
    ∷ (letter (codes "d"), Delete (Right Grapheme))
    ∷ (letter (codes "e"), Go (Right Line))
    ∷ (letter (codes "f"), Go (Right Grapheme))
    ∷ (letter (codes "h"), Delete (Left Grapheme))
    ∷ (letter (codes "j"), Insert 10)
    ∷ (letter (codes "k"), Kill (Right LineOrBreak))
    ∷ (letter (codes "m"), Insert 10)
    ∷ (letter (codes "n"), Go Down)
    ∷ (letter (codes "p"), Go Up)
    ∷ (letter (codes "r"), Redo)
    ∷ (letter (codes "u"), Kill (Left LineOrBreak))
    ∷ (letter (codes "v"), Go PageDown)
    ∷ (letter (codes "w"), Kill (Left Word))
    ∷ (letter (codes "x"), Cut)
    ∷ (letter (codes "y"), Yank)
    ∷ (letter (codes "z"), Undo)
    ∷ []

-- what a letter does beside Alt
abbrev pub area_alt_keys : List (ℕ × AreaEdit)
area_alt_keys =
    (letter (codes "<"), Go (Left Text))
    ∷ (letter (codes ">"), Go (Right Text))
    ∷ (letter (codes "b"), Go (Left Word))
    ∷ (letter (codes "d"), Kill (Right Word))
    ∷ (letter (codes "f"), Go (Right Word))
    ∷ (letter (codes "v"), Go PageUp)
    ∷ (letter (codes "w"), Copy)
    ∷ []

-- what a letter does beside Control and Shift
abbrev pub area_control_shift_keys : List (ℕ × AreaEdit)
area_control_shift_keys = (letter (codes "Z"), Redo) ∷ (letter (codes "z"), Redo) ∷ []

-- the edit that a table has for a letter
abbrev pub area_edit_among : List (ℕ × AreaEdit) → ℕ → Option AreaEdit
area_edit_among [] c = None
area_edit_among (row ∷ rows) c = if row.0 == c then Some row.1 else area_edit_among rows c

-- the move of a key that is no letter
abbrev pub move_of : KeyCode → Option Move
move_of code.Left = Some (Left Grapheme)
move_of code.Right = Some (Right Grapheme)
move_of code.Up = Some Up
move_of code.Down = Some Down
move_of code.Home = Some (Left Line)
move_of code.End = Some (Right Line)
move_of code.PageUp = Some PageUp
move_of code.PageDown = Some PageDown
move_of _ = None

-- the same if Control or Alt is held
abbrev pub far_move_of : KeyCode → Option Move
far_move_of code.Left = Some (Left Word)
far_move_of code.Right = Some (Right Word)
far_move_of code.Home = Some (Left Text)
far_move_of code.End = Some (Right Text)
far_move_of _ = None

-- the edit of a key that types or deletes, beside which at most Shift is held
abbrev pub typing_edit : KeyCode → Option AreaEdit
typing_edit (code.Char c) = Some (Insert c)
typing_edit code.Enter = Some (Insert 10)
typing_edit code.Backspace = Some (Delete (Left Grapheme))
typing_edit code.Delete = Some (Delete (Right Grapheme))
typing_edit _ = None

-- the edit of a key that deletes if Control or Alt is held
abbrev pub far_deletion : KeyCode → Option AreaEdit
far_deletion code.Backspace = Some (Kill (Left Word))
far_deletion code.Delete = Some (Kill (Right Word))
far_deletion _ = None

-- the edit of such a key, or of a letter by a table
abbrev pub table_edit : List (ℕ × AreaEdit) → KeyCode → Option AreaEdit
table_edit table (code.Char c) = area_edit_among table c
table_edit table other = far_deletion other

-- the edit of a key beside which these are held: none, Shift (1), Alt (2), Control (4), or one of these
-- with Shift;
-- with Shift a move selects
abbrev pub area_key_edit : KeyModifiers → KeyCode → Option AreaEdit
area_key_edit m c =
    if modifier_bits m == 0 then option_or (typing_edit c) (option_map Go (move_of c)) else
    if modifier_bits m == 1 then option_or (typing_edit c) (option_map Select (move_of c)) else
    if modifier_bits m == 2 then option_or (table_edit area_alt_keys c) (option_map Go (far_move_of c)) else
    if modifier_bits m == 3 then option_or (table_edit area_alt_keys c) (option_map Select (far_move_of c))
    else
    if modifier_bits m == 4 then option_or (table_edit area_control_keys c) (option_map Go (far_move_of c))
    else
    if modifier_bits m == 5 then option_or (table_edit area_control_shift_keys c)
    (option_map Select (far_move_of c)) else
    None

-- a key that is let go edits nothing
abbrev pub area_edit_of_key : KeyEventKind → KeyEvent → Option AreaEdit
area_edit_of_key Press key = area_key_edit key.modifiers key.code
area_edit_of_key Repeat key = area_key_edit key.modifiers key.code
area_edit_of_key Release key = None

-- the edit of an event
abbrev pub area_edit_of : Event → Option AreaEdit
area_edit_of (Key key) = area_edit_of_key key.kind key
area_edit_of (Pasted c) = Some (Insert c)
area_edit_of _ = None

-- an area after an edit
abbrev pub area_edited : AreaEdit → AreaData → AreaData
area_edited (Insert c) a = typing_over (encode_utf8 c) a
area_edited Yank a = yanking a
area_edited (Go to) a = gone to (unselected a)
area_edited (Select to) a = gone to (selection_begun a)
area_edited (Delete to) a = deleting (reached to a) a
area_edited (Kill to) a = killing (reached to a) a
area_edited Cut a = killing (selection a) a
area_edited Copy a = keeping_part (selection a) a
area_edited Undo a = undoing a
area_edited Redo a = redoing a

-- an area after an edit, if there is one
abbrev pub area_edited_if : Option AreaEdit → AreaData → AreaData
area_edited_if None a = a
area_edited_if (Some edit) a = area_edited edit a

-- an edit that only moves the cursor: it takes no memory
abbrev pub is_move : AreaEdit → Bool
is_move (Go to) = true
is_move (Select to) = true
is_move _ = false

-- the same, if there is an edit
abbrev pub is_move_if : Option AreaEdit → Bool
is_move_if None = true
is_move_if (Some edit) = is_move edit
