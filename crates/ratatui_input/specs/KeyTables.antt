-- The keys of the protocols' tables: by a letter, by a number before a tilde, and by a code point.
use Rattle.std.specs.Prelude.{◌≡◌, ◌⊎◌, ◌<◌, ◌≤◌, ℕ, Bool, true, false, List, [], ◌∷◌}
use Rattle.std.specs.Str.{byte}
use Rattle.std.specs.Char.{IsScalar, is_control}
use Rattle.ratatui_events.specs.declared.key.MediaKeyCode.TheVariants as media
use Rattle.ratatui_events.specs.declared.key.ModifierKeyCode.TheVariants as modifier
use Rattle.ratatui_events.specs.declared.key.KeyCode.{KeyCode}
use Rattle.ratatui_events.specs.declared.key.KeyCode.TheVariants.{Backspace, Enter, Left, Right, Up, Down}
use Rattle.ratatui_events.specs.declared.key.KeyCode.TheVariants.{Home, End, PageUp, PageDown}
use Rattle.ratatui_events.specs.declared.key.KeyCode.TheVariants.{Tab, BackTab, Delete, Insert, F, Char, Esc}
use Rattle.ratatui_events.specs.declared.key.KeyCode.TheVariants.{CapsLock, ScrollLock, NumLock}
use Rattle.ratatui_events.specs.declared.key.KeyCode.TheVariants.{PrintScreen, Pause, Menu, KeypadBegin}
use Rattle.ratatui_events.specs.declared.key.KeyCode.TheVariants.{Media, Modifier}

-- a table has this key at this number
pub data IsEntry : List (ℕ × KeyCode) → ℕ → KeyCode → Type 0 where
  first_entry : {n : ℕ} {code : KeyCode} {table : List (ℕ × KeyCode)} → IsEntry ((n, code) ∷ table) n code
  later_entry : {n : ℕ} {code : KeyCode} {e : ℕ × KeyCode} {table : List (ℕ × KeyCode)} → IsEntry table n code
      → IsEntry (e ∷ table) n code

-- the keys that end a sequence by a letter of their own
unfoldable pub letter_keys : List (ℕ × KeyCode)
letter_keys =
    (byte "A", Up) ∷ (byte "B", Down) ∷ (byte "C", Right) ∷ (byte "D", Left) ∷
    (byte "E", KeypadBegin) ∷ (byte "F", End) ∷ (byte "H", Home) ∷ (byte "P", F 1) ∷
    (byte "Q", F 2) ∷ (byte "R", F 3) ∷ (byte "S", F 4) ∷ (byte "Z", BackTab) ∷ []

-- the keys with a number before a tilde
unfoldable pub tilde_keys : List (ℕ × KeyCode)
tilde_keys =
    (1, Home) ∷ (2, Insert) ∷ (3, Delete) ∷ (4, End) ∷ (5, PageUp) ∷ (6, PageDown) ∷ (7, Home) ∷
    (8, End) ∷ (11, F 1) ∷ (12, F 2) ∷ (13, F 3) ∷ (14, F 4) ∷ (15, F 5) ∷ (17, F 6) ∷
    (18, F 7) ∷ (19, F 8) ∷ (20, F 9) ∷ (21, F 10) ∷ (23, F 11) ∷ (24, F 12) ∷ (25, F 13) ∷
    (26, F 14) ∷ (28, F 15) ∷ (29, F 16) ∷ (31, F 17) ∷ (32, F 18) ∷ (33, F 19) ∷ (34, F 20) ∷ []

-- the keys with a name: some have the code of a control character, the others one in the private use area
unfoldable pub named_keys : List (ℕ × KeyCode)
named_keys =
    (27, Esc) ∷ (13, Enter) ∷ (9, Tab) ∷ (127, Backspace) ∷ (57358, CapsLock) ∷
    (57359, ScrollLock) ∷ (57360, NumLock) ∷ (57361, PrintScreen) ∷ (57362, Pause) ∷ (57363, Menu) ∷
    (57428, Media media.Play) ∷ (57429, Media media.Pause) ∷ (57430, Media media.PlayPause) ∷
    (57431, Media media.Reverse) ∷ (57432, Media media.Stop) ∷ (57433, Media media.FastForward) ∷
    (57434, Media media.Rewind) ∷ (57435, Media media.TrackNext) ∷ (57436, Media media.TrackPrevious) ∷
    (57437, Media media.Record) ∷ (57438, Media media.LowerVolume) ∷ (57439, Media media.RaiseVolume) ∷
    (57440, Media media.MuteVolume) ∷
    (57441, Modifier modifier.LeftShift) ∷ (57442, Modifier modifier.LeftControl) ∷
    (57443, Modifier modifier.LeftAlt) ∷ (57444, Modifier modifier.LeftSuper) ∷
    (57445, Modifier modifier.LeftHyper) ∷ (57446, Modifier modifier.LeftMeta) ∷
    (57447, Modifier modifier.RightShift) ∷ (57448, Modifier modifier.RightControl) ∷
    (57449, Modifier modifier.RightAlt) ∷ (57450, Modifier modifier.RightSuper) ∷
    (57451, Modifier modifier.RightHyper) ∷ (57452, Modifier modifier.RightMeta) ∷
    (57453, Modifier modifier.IsoLevel3Shift) ∷ (57454, Modifier modifier.IsoLevel5Shift) ∷
    (57376, F 13) ∷ (57377, F 14) ∷ (57378, F 15) ∷ (57379, F 16) ∷ (57380, F 17) ∷ (57381, F 18) ∷
    (57382, F 19) ∷ (57383, F 20) ∷ (57384, F 21) ∷ (57385, F 22) ∷ (57386, F 23) ∷ (57387, F 24) ∷
    (57388, F 25) ∷ (57389, F 26) ∷ (57390, F 27) ∷ (57391, F 28) ∷ (57392, F 29) ∷ (57393, F 30) ∷
    (57394, F 31) ∷ (57395, F 32) ∷ (57396, F 33) ∷ (57397, F 34) ∷ (57398, F 35) ∷ []

-- the keys of the keypad, by their code points
unfoldable pub keypad_keys : List (ℕ × KeyCode)
keypad_keys =
    (57399, Char (byte "0")) ∷ (57400, Char (byte "1")) ∷ (57401, Char (byte "2")) ∷ (57402, Char (byte "3")) ∷
    (57403, Char (byte "4")) ∷ (57404, Char (byte "5")) ∷ (57405, Char (byte "6")) ∷ (57406, Char (byte "7")) ∷
    (57407, Char (byte "8")) ∷ (57408, Char (byte "9")) ∷ (57409, Char (byte ".")) ∷ (57410, Char (byte "/")) ∷
    (57411, Char (byte "*")) ∷ (57412, Char (byte "-")) ∷ (57413, Char (byte "+")) ∷ (57414, Enter) ∷
    (57415, Char (byte "=")) ∷ (57416, Char (byte ",")) ∷ (57417, Left) ∷ (57418, Right) ∷
    (57419, Up) ∷ (57420, Down) ∷ (57421, PageUp) ∷ (57422, PageDown) ∷
    (57423, Home) ∷ (57424, End) ∷ (57425, Insert) ∷ (57426, Delete) ∷
    (57427, KeypadBegin) ∷ []

-- a letter, and a number before a tilde, stand for a key
abbrev pub IsLetter : ℕ → KeyCode → Type 0
IsLetter b code = IsEntry letter_keys b code

abbrev pub IsTilde : ℕ → KeyCode → Type 0
IsTilde n code = IsEntry tilde_keys n code

-- the keys with a code point, and whether they are the keypad's: a character has its own, outside of the private
-- use area
pub data IsCode : ℕ → KeyCode → Bool → Type 0 where
  code_named : {n : ℕ} {code : KeyCode} → IsEntry named_keys n code → IsCode n code false
  code_keypad : {n : ℕ} {code : KeyCode} → IsEntry keypad_keys n code → IsCode n code true
  code_character : (c : ℕ) → IsScalar c → is_control c ≡ false → (c < 57344) ⊎ (63744 ≤ c)
      → IsCode c (Char c) false
