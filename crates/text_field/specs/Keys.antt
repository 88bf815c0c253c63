-- Which events edit a field, and what an edit does.
use Rattle.std.specs.Prelude.{ℕ, Bool, true, false, ◌==◌, if◌then◌else◌, List, [], ◌∷◌, Option, Some, None, codes}
use Rattle.std.specs.Prelude.{encode_utf8, get_or}
use Rattle.ratatui_events.specs.declared.event.Event.{Event}
use Rattle.ratatui_events.specs.declared.event.Event.TheVariants.{Key, Pasted}
use Rattle.ratatui_events.specs.declared.key.KeyEvent.{KeyEvent}
use Rattle.ratatui_events.specs.declared.key.KeyEventKind.{KeyEventKind}
use Rattle.ratatui_events.specs.declared.key.KeyEventKind.TheVariants.{Press, Repeat, Release}
use Rattle.ratatui_events.specs.declared.key.KeyCode.{KeyCode}
use Rattle.ratatui_events.specs.declared.key.KeyCode.TheVariants.{Backspace, Left, Right, Home, End, Delete, Char}
use Rattle.ratatui_events.specs.declared.key.KeyModifiers.{KeyModifiers}
use Rattle.ratatui_events.specs.Key.{modifier_bits}
use Rattle.text_field.specs.declared.reach.Reach.TheVariants.{Grapheme, Word, All}
use Rattle.text_field.specs.declared.keys.Edit.{Edit}
use Rattle.text_field.specs.declared.keys.Edit.TheVariants.{Insert, Yank, MoveLeft, MoveRight, DeleteLeft}
use Rattle.text_field.specs.declared.keys.Edit.TheVariants.{DeleteRight, KillLeft, KillRight}
use Rattle.text_field.specs.Reach.{reach_left, reach_right}
use Rattle.text_field.specs.Field.{FieldData, typing, moved_left, moved_right, cut_left, cut_right, part_left, part_right}
use Rattle.text_field.specs.Field.{keeping}

-- the letter that a text begins with
abbrev pub letter : List ℕ → ℕ
letter text = get_or text 0 0

-- what a letter does beside Control
abbrev pub control_keys : List (ℕ × Edit)
control_keys =
    (letter (codes "a"), MoveLeft All)
    ∷ (letter (codes "b"), MoveLeft Grapheme)
    ∷ (letter (codes "d"), DeleteRight Grapheme)
    ∷ (letter (codes "e"), MoveRight All)
    ∷ (letter (codes "f"), MoveRight Grapheme)
    ∷ (letter (codes "h"), DeleteLeft Grapheme)
    ∷ (letter (codes "k"), KillRight All)
    ∷ (letter (codes "u"), KillLeft All)
    ∷ (letter (codes "w"), KillLeft Word)
    ∷ (letter (codes "y"), Yank)
    ∷ []

-- what a letter does beside Alt
abbrev pub alt_keys : List (ℕ × Edit)
alt_keys =
    (letter (codes "b"), MoveLeft Word)
    ∷ (letter (codes "d"), KillRight Word)
    ∷ (letter (codes "f"), MoveRight Word)
    ∷ []

-- the edit that a table has for a letter
abbrev pub edit_among : List (ℕ × Edit) → ℕ → Option Edit
edit_among [] c = None
edit_among (row ∷ rows) c = if row.0 == c then Some row.1 else edit_among rows c

-- the edit of a key beside which at most Shift is held
abbrev pub plain_edit : KeyCode → Option Edit
plain_edit (Char c) = Some (Insert c)
plain_edit Left = Some (MoveLeft Grapheme)
plain_edit Right = Some (MoveRight Grapheme)
plain_edit Home = Some (MoveLeft All)
plain_edit End = Some (MoveRight All)
plain_edit Backspace = Some (DeleteLeft Grapheme)
plain_edit Delete = Some (DeleteRight Grapheme)
plain_edit _ = None

-- the edit of a key that is no letter beside which Control or Alt is held
abbrev pub word_edit : KeyCode → Option Edit
word_edit Left = Some (MoveLeft Word)
word_edit Right = Some (MoveRight Word)
word_edit Backspace = Some (KillLeft Word)
word_edit Delete = Some (KillRight Word)
word_edit _ = None

-- the edit of a key beside which Control or Alt is held, by the table of its letters
abbrev pub held_edit : List (ℕ × Edit) → KeyCode → Option Edit
held_edit table (Char c) = edit_among table c
held_edit table code = word_edit code

-- the edit of a key beside which these are held: none or Shift (1), Alt (2), or Control (4)
abbrev pub key_edit : KeyModifiers → KeyCode → Option Edit
key_edit m code =
    if modifier_bits m == 0 then plain_edit code else if modifier_bits m == 1 then plain_edit code else
    if modifier_bits m == 2 then held_edit alt_keys code else
    if modifier_bits m == 4 then held_edit control_keys code else None

-- a key that is let go edits nothing
abbrev pub edit_of_key : KeyEventKind → KeyEvent → Option Edit
edit_of_key Press key = key_edit key.modifiers key.code
edit_of_key Repeat key = key_edit key.modifiers key.code
edit_of_key Release key = None

-- the edit of an event
abbrev pub edit_of : Event → Option Edit
edit_of (Key key) = edit_of_key key.kind key
edit_of (Pasted c) = Some (Insert c)
edit_of _ = None

-- a field after an edit
abbrev pub edited : Edit → FieldData → FieldData
edited (Insert c) f = typing (encode_utf8 c) f
edited Yank f = typing f.killed f
edited (MoveLeft reach) f = moved_left (reach_left reach f.before) f
edited (MoveRight reach) f = moved_right (reach_right reach f.after) f
edited (DeleteLeft reach) f = cut_left (reach_left reach f.before) f
edited (DeleteRight reach) f = cut_right (reach_right reach f.after) f
edited (KillLeft reach) f = let n = reach_left reach f.before in cut_left n (keeping (part_left n f) f)
edited (KillRight reach) f = let n = reach_right reach f.after in cut_right n (keeping (part_right n f) f)

-- a field after an edit, if there is one
abbrev pub edited_if : Option Edit → FieldData → FieldData
edited_if None f = f
edited_if (Some edit) f = edited edit f

-- an edit that may take memory: it types something, or keeps what it deletes
abbrev pub takes_memory : Edit → Bool
takes_memory (Insert c) = true
takes_memory Yank = true
takes_memory (MoveLeft reach) = false
takes_memory (MoveRight reach) = false
takes_memory (DeleteLeft reach) = false
takes_memory (DeleteRight reach) = false
takes_memory (KillLeft reach) = true
takes_memory (KillRight reach) = true

-- the same, if there is an edit
abbrev pub takes_memory_if : Option Edit → Bool
takes_memory_if None = false
takes_memory_if (Some edit) = takes_memory edit
