-- The table of the list of keys: which key each word of it names, what that key asks for, and which words
-- say so.
use Rattle.std.specs.Prelude.{◌≡◌, ◌⊎◌, ℕ, Bool, true, false, ◌==◌, List, [], ◌∷◌, ◌++◌, Some, codes, slice_get, length, take, drop, map, ⊤}
use Rattle.std.specs.{Str.byte, List.slice_split}
use Rattle.ratatui_events.specs.declared.event.Event.TheVariants.{Key}
use Rattle.ratatui_events.specs.declared.key.KeyEvent.{KeyEvent}
use Rattle.ratatui_events.specs.declared.key.KeyCode.{KeyCode}
use Rattle.ratatui_events.specs.declared.key.KeyCode.TheVariants as key
use Rattle.files.specs.declared.keys.Wish.{Wish}
use Rattle.files.specs.declared.keys.Wish.TheVariants as wish
use Rattle.files.specs.Keys.{holds_control, is_down_kind, event_wish}
use Rattle.files.specs.Help.{keys_row}

-- a word of a row of the list, the key that it names, with Control or not, what that asks for, and in
-- which column the words begin that say what that is
pub record KeyEntry : Type 0 where
  pub row : ℕ
  pub word : ℕ
  pub name : List ℕ
  pub held : Bool
  pub code : KeyCode
  pub wish : Wish
  pub column : ℕ

-- the same, of a key with a character
pub record LetterEntry : Type 0 where
  pub row : ℕ
  pub word : ℕ
  pub name : List ℕ
  pub letter : ℕ
  pub wish : Wish
  pub column : ℕ

abbrev pub letter_entry : Bool → LetterEntry → KeyEntry
letter_entry held l =
    record { row = l.row; word = l.word; name = l.name; held = held; code = key.Char l.letter; wish = l.wish; column = l.column }

abbrev pub lists_letter : ℕ → ℕ → ℕ → Wish → ℕ → LetterEntry
lists_letter row word letter wish column =
    record { row = row; word = word; name = letter ∷ []; letter = letter; wish = wish; column = column }

abbrev pub lists_named : ℕ → ℕ → List ℕ → ℕ → Wish → ℕ → LetterEntry
lists_named row word name letter wish column =
    record { row = row; word = word; name = name; letter = letter; wish = wish; column = column }

abbrev pub lists_key : ℕ → ℕ → List ℕ → KeyCode → Wish → ℕ → KeyEntry
lists_key row word name code wish column =
    record { row = row; word = word; name = name; held = false; code = code; wish = wish; column = column }

-- the words for what is asked for
abbrev pub key_words : Wish → List ℕ
key_words wish.Down = codes "next"
key_words wish.Up = codes "previous entry"
key_words wish.PageDown = codes "a page down"
key_words wish.PageUp = codes "up"
key_words wish.HalfDown = codes "half a page down"
key_words wish.HalfUp = codes "up"
key_words wish.ToFirst = codes "first"
key_words wish.ToLast = codes "last entry"
key_words wish.Enter = codes "opens the folder"
key_words wish.Leave = codes "the folder above"
key_words wish.Base = codes "the folder all is in"
key_words wish.Go = codes "to a path"
key_words wish.Hidden = codes "hidden entries, or not"
key_words wish.Sort = codes "by name, size, date;"
key_words wish.Seek = codes "seeks a text in names"
key_words wish.SeekOn = codes "next"
key_words wish.SeekBack = codes "previous found"
key_words wish.Mark = codes "marks"
key_words wish.Unmark = codes "unmarks all"
key_words wish.NoteCopy = codes "notes to copy"
key_words wish.NoteMove = codes "to move"
key_words wish.Paste = codes "pastes what is noted"
key_words wish.Rename = codes "renames"
key_words wish.Make = codes "makes a file, folder/"
key_words wish.Trash = codes "to the trash"
key_words wish.Remove = codes "for good"
key_words wish.Undo = codes "undoes a move"
key_words wish.Help = codes "this list"
key_words wish.Quit = codes "the end"
key_words wish.Choose = codes "told where"
key_words _ = []

-- letters, letters with Control, and other keys; words are parted by one blank each, so that there is an
-- empty word between two blanks
abbrev pub key_letters : List LetterEntry
key_letters =
    lists_letter 0 0 (byte "j") wish.Down 16
    ∷ lists_letter 0 1 (byte "k") wish.Up 22
    ∷ lists_letter 3 0 (byte "g") wish.ToFirst 16
    ∷ lists_letter 3 1 (byte "G") wish.ToLast 23
    ∷ lists_letter 4 0 (byte "l") wish.Enter 16
    ∷ lists_letter 5 0 (byte "h") wish.Leave 16
    ∷ lists_letter 6 0 (byte "~") wish.Base 16
    ∷ lists_letter 7 0 (byte ":") wish.Go 16
    ∷ lists_letter 8 0 (byte ".") wish.Hidden 16
    ∷ lists_letter 9 0 (byte "s") wish.Sort 16
    ∷ lists_letter 11 0 (byte "/") wish.Seek 16
    ∷ lists_letter 12 0 (byte "n") wish.SeekOn 16
    ∷ lists_letter 12 1 (byte "N") wish.SeekBack 22
    ∷ lists_named 13 0 (codes "Space") (byte " ") wish.Mark 16
    ∷ lists_letter 14 0 (byte "y") wish.NoteCopy 16
    ∷ lists_letter 14 1 (byte "d") wish.NoteMove 31
    ∷ lists_letter 15 0 (byte "p") wish.Paste 16
    ∷ lists_letter 16 0 (byte "r") wish.Rename 16
    ∷ lists_letter 17 0 (byte "a") wish.Make 16
    ∷ lists_letter 18 0 (byte "D") wish.Trash 16
    ∷ lists_letter 18 1 (byte "X") wish.Remove 30
    ∷ lists_letter 16 1 (byte "z") wish.Undo 25
    ∷ lists_letter 20 0 (byte "?") wish.Help 16
    ∷ lists_letter 21 0 (byte "q") wish.Quit 16
    ∷ lists_letter 21 4 (byte "Q") wish.Choose 25
    ∷ []

abbrev pub key_controls : List LetterEntry
key_controls =
    lists_named 2 0 (codes "Ctrl+D") (byte "d") wish.HalfDown 16
    ∷ lists_named 2 1 (codes "Ctrl+U") (byte "u") wish.HalfUp 34
    ∷ lists_named 21 2 (codes "Ctrl+C") (byte "c") wish.Quit 16
    ∷ []

abbrev pub key_others : List KeyEntry
key_others =
    lists_key 0 3 (codes "Down") key.Down wish.Down 16
    ∷ lists_key 0 4 (codes "Up") key.Up wish.Up 22
    ∷ lists_key 1 0 (codes "PgDn") key.PageDown wish.PageDown 16
    ∷ lists_key 1 1 (codes "PgUp") key.PageUp wish.PageUp 29
    ∷ lists_key 3 3 (codes "Home") key.Home wish.ToFirst 16
    ∷ lists_key 3 4 (codes "End") key.End wish.ToLast 23
    ∷ lists_key 4 2 (codes "Enter") key.Enter wish.Enter 16
    ∷ lists_key 4 3 (codes "Right") key.Right wish.Enter 16
    ∷ lists_key 5 2 (codes "Back") key.Backspace wish.Leave 16
    ∷ lists_key 5 3 (codes "Left") key.Left wish.Leave 16
    ∷ lists_key 20 2 (codes "F1") (key.F 1) wish.Help 16
    ∷ lists_key 13 2 (codes "Esc") key.Esc wish.Unmark 23
    ∷ []

abbrev pub key_table : List KeyEntry
key_table = map (letter_entry false) key_letters ++ (map (letter_entry true) key_controls ++ key_others)

-- the word stands there, and so do the words for what the key asks for, pressed or held
pub record IsListedKey (e : KeyEntry) : Type 0 where
  pub stands : slice_get (slice_split (λ b. b == byte " ") (keys_row e.row)) e.word ≡ Some e.name
  pub says : take (length (key_words e.wish)) (drop e.column (keys_row e.row)) ≡ key_words e.wish
  pub asks : (k : KeyEvent) → k.code ≡ e.code → holds_control k ≡ e.held → is_down_kind k.kind ≡ true
      → event_wish (Key k) ≡ e.wish

abbrev pub AreListedKeys : List KeyEntry → Type 0
AreListedKeys [] = ⊤
AreListedKeys (e ∷ es) = IsListedKey e × AreListedKeys es

-- an entry of the table is for a key
pub record IsFor (k : KeyEvent) (e : KeyEntry) : Type 0 where
  pub code : k.code ≡ e.code
  pub held : holds_control k ≡ e.held
  pub wish : event_wish (Key k) ≡ e.wish

-- one of them is
abbrev pub HasEntryFor : KeyEvent → List KeyEntry → Type 0
HasEntryFor k [] = ⊥
HasEntryFor k (e ∷ es) = IsFor k e ⊎ HasEntryFor k es
