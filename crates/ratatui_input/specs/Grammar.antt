-- Which bytes stand for which event: the encodings of the terminals' protocols, each with what it stands for.
use Rattle.std.specs.Prelude.{◌≡◌, ◌≢◌, ◌⊎◌, ◌<◌, ◌≤◌, ◌+◌, ◌-◌, ◌*◌, ◌/◌, ◌%◌, ◌^◌, ℕ, Bool, true, false}
use Rattle.std.specs.Prelude.{Option, ◌==◌, Some, List, [], ◌∷◌, ◌++◌, encode_utf8, if◌then◌else◌}
use Rattle.std.specs.Int.RustNames.{bit_and}
use Rattle.std.specs.Char.{IsScalar, is_control}
use Rattle.std.specs.Str.{byte}
use Rattle.ratatui_events.specs.declared.event.Event.{Event}
use Rattle.ratatui_events.specs.declared.event.Event.TheVariants.{Key, Mouse, FocusGained, FocusLost, Size}
use Rattle.ratatui_events.specs.declared.event.Event.TheVariants.{Position}
use Rattle.ratatui_events.specs.declared.key.KeyCode.{KeyCode}
use Rattle.ratatui_events.specs.declared.key.KeyCode.TheVariants.{F, Enter, BackTab, Char}
use Rattle.ratatui_events.specs.declared.key.KeyEventKind.{KeyEventKind}
use Rattle.ratatui_events.specs.declared.key.KeyEventKind.TheVariants.{Press}
use Rattle.ratatui_events.specs.declared.mouse.MouseEventKind.{MouseEventKind}
use Rattle.ratatui_events.specs.Key.{held, locks, pressed, key_of_kind}
use Rattle.ratatui_input.specs.Keys.{escape, typed_key, control_key, with_alt, tab_key, plain_character}
use Rattle.ratatui_input.specs.Keys.{scalar_at}
use Rattle.ratatui_input.specs.Mouse.{mouse_kind}
use Rattle.ratatui_input.specs.Sequences.{kind_of, typed_mask}
use Rattle.ratatui_input.specs.Encodings.{IsDigits}
use Rattle.ratatui_input.specs.KeyTables.{IsLetter, IsTilde, IsCode}

-- the number that digits write after others that wrote n
abbrev pub value_from : ℕ → List ℕ → ℕ
value_from n [] = n
value_from n (b ∷ bs) = value_from (n * 10 + (b - byte "0")) bs

-- the bytes are digits that write this number; no digit writes 0
pub record WritesNumber (ds : List ℕ) (n : ℕ) : Type 0 where
  pub digits : IsDigits ds
  pub number : value_from 0 ds ≡ n

-- two numbers, and three, with semicolons between them
abbrev pub two_numbers : List ℕ → List ℕ → List ℕ
two_numbers ds es = ds ++ (byte ";" ∷ es)

abbrev pub three_numbers : List ℕ → List ℕ → List ℕ → List ℕ
three_numbers ds es fs = ds ++ (byte ";" ∷ (es ++ (byte ";" ∷ fs)))

-- ESC [, what stands in a sequence, and its last byte
abbrev pub csi : List ℕ → ℕ → List ℕ
csi body last = escape ∷ byte "[" ∷ (body ++ (last ∷ []))

-- what stands after a key's number: the number of what is held, and perhaps, after a colon, what the key did
pub data Held : List ℕ → ℕ → KeyEventKind → Type 0 where
  held_down : {es : List ℕ} {m : ℕ} → WritesNumber es m → Held (byte ";" ∷ es) m Press
  held_told : {es ks : List ℕ} {m k : ℕ} → WritesNumber es m → WritesNumber ks k → k < 256
      → Held (byte ";" ∷ (es ++ (byte ":" ∷ ks))) m (kind_of k)

-- further codes of a key, each after a colon, and the codes of its text, after a semicolon: digits and colons
abbrev pub AreCodes : List ℕ → Type 0
AreCodes [] = Unit {0}
AreCodes (b ∷ bs) = (byte "0" ≤ b) × (b ≤ byte ":") × AreCodes bs

-- a key, and what the number says that is held: one less than it, bit by bit Shift, Alt, Control, Super,
-- Hyper, Meta, Caps Lock and Num Lock
abbrev pub key_told : KeyCode → Bool → ℕ → KeyEventKind → Event
key_told code is_keypad m kind =
    Key (key_of_kind code (held ((m - 1) % 64)) kind (locks ((m - 1) / 64 + (if is_keypad then 4 else 0))))

-- BackTab is told with Shift, whether the number has it or not
abbrev pub letter_number : KeyCode → ℕ → ℕ
letter_number BackTab m = (m - 1) / 2 * 2 + 2
letter_number code m = m

abbrev pub letter_told : KeyCode → ℕ → KeyEventKind → Event
letter_told code m kind = key_told code false (letter_number code m) kind

-- Tab with Shift is BackTab
abbrev pub code_told : KeyCode → Bool → ℕ → KeyEventKind → Event
code_told code is_keypad m kind = key_told (tab_key code m) is_keypad m kind

-- a code point, and perhaps further ones, each after a colon
pub data ToldFirst : List ℕ → ℕ → Type 0 where
  told_alone : {ds : List ℕ} {t : ℕ} → WritesNumber ds t → t < 2 ^ 32 → ToldFirst ds t
  told_with_codes : {ds : List ℕ} {t : ℕ} (cs : List ℕ) → WritesNumber ds t → t < 2 ^ 32 → AreCodes cs
      → ToldFirst (ds ++ (byte ":" ∷ cs)) t

-- the character that is told beside a key, if it is one and no control character
abbrev pub told_character : ℕ → Option ℕ
told_character t = plain_character (scalar_at t)

-- a key, and the character that is told beside it: a character's key with Shift is that character
abbrev pub typed_told : Option ℕ → KeyCode → Bool → ℕ → KeyEventKind → Event
typed_told (Some c) (Char d) is_keypad m kind = if (m - 1) % 2 == 1
    then key_told (Char c) is_keypad (typed_mask c m) kind else key_told (Char d) is_keypad m kind
typed_told told code is_keypad m kind = code_told code is_keypad m kind

-- what the mouse did, with Shift, Alt and Control as the bits 4, 8 and 16 of the number; columns and rows are
-- counted from 1
abbrev pub mouse_told : MouseEventKind → ℕ → ℕ → ℕ → Event
mouse_told kind n x y =
    Mouse (record { kind = kind; column = x - 1; row = y - 1; modifiers = held (bit_and (n / 4) 7) })

-- the bytes that after ESC open a string of the terminal: P (DCS), X (SOS), ] (OSC), ^ (PM) and _ (APC)
abbrev pub IsOpener : ℕ → Type 0
IsOpener b = (b ≡ byte "P") ⊎ (b ≡ byte "X") ⊎ ((byte "]" ≤ b) × (b ≤ byte "_"))

-- a character that after ESC opens neither a sequence nor a string
abbrev pub OpensNothing : ℕ → Type 0
OpensNothing c =
    (c ≢ byte "[") × (c ≢ byte "O") × (c ≢ byte "P") × (c ≢ byte "X") × ((c < byte "]") ⊎ (byte "_" < c))

-- what stands in a string: no control character
abbrev pub IsText : ℕ → Type 0
IsText b = ((byte " " ≤ b) × (b ≤ byte "~")) ⊎ (128 ≤ b)

abbrev pub AreText : List ℕ → Type 0
AreText [] = Unit {0}
AreText (b ∷ bs) = IsText b × AreText bs

-- how a string ends: by ESC \, and one that ESC ] opens by BEL, too
pub data EndsString : ℕ → List ℕ → Type 0 where
  by_terminator : {opener : ℕ} → EndsString opener (escape ∷ byte "\\" ∷ [])
  by_bell : EndsString (byte "]") (7 ∷ [])

-- bytes that stand for an event
pub data Encodes : List ℕ → Event → Type 0 where
  -- characters in UTF-8 and control characters, and after ESC the same with Alt
  character : (c : ℕ) → IsScalar c → is_control c ≡ false
      → Encodes (encode_utf8 c) (with_alt (typed_key c) false)
  control : (b : ℕ) → (b < 32) ⊎ (b ≡ 127) → b ≢ escape → Encodes (b ∷ []) (with_alt (control_key b) false)
  alt_character : (c : ℕ) → IsScalar c → is_control c ≡ false → OpensNothing c
      → Encodes (escape ∷ encode_utf8 c) (with_alt (typed_key c) true)
  alt_control : (b : ℕ) → (b < 32) ⊎ (b ≡ 127) → b ≢ escape
      → Encodes (escape ∷ b ∷ []) (with_alt (control_key b) true)
  -- keys with a letter: after ESC [, after ESC [ 1 and what is held, after ESC O, and F1 to F5 of a console
  by_letter : {b n : ℕ} {code : KeyCode} {ds : List ℕ} → IsLetter b code → WritesNumber ds n → n ≤ 256
      → Encodes (csi ds b) (letter_told code n Press)
  by_letter_held : {b m : ℕ} {code : KeyCode} {ds tail : List ℕ} {kind : KeyEventKind} → IsLetter b code
      → WritesNumber ds 1
      → Held tail m kind → m ≤ 256 → Encodes (csi (ds ++ tail) b) (letter_told code m kind)
  by_single : {b n : ℕ} {code : KeyCode} {ds : List ℕ} → IsLetter b code → WritesNumber ds n → n ≤ 256
      → Encodes (escape ∷ byte "O" ∷ (ds ++ (b ∷ []))) (letter_told code n Press)
  single_enter : {n : ℕ} {ds : List ℕ} → WritesNumber ds n → n ≤ 256
      → Encodes (escape ∷ byte "O" ∷ (ds ++ (byte "M" ∷ []))) (key_told Enter false n Press)
  by_console : (b : ℕ) → byte "A" ≤ b → b ≤ byte "E"
      → Encodes (escape ∷ byte "[" ∷ byte "[" ∷ b ∷ []) (Key (pressed (F (b - 64)) (held 0)))
  -- keys with a number before a tilde, and keys by their code point, which stands first before u, and third
  -- before a tilde
  by_tilde : {n : ℕ} {code : KeyCode} {ds : List ℕ} → IsTilde n code → WritesNumber ds n
      → Encodes (csi ds (byte "~")) (key_told code false 0 Press)
  by_tilde_held : {n m : ℕ} {code : KeyCode} {ds tail : List ℕ} {kind : KeyEventKind} → IsTilde n code
      → WritesNumber ds n
      → Held tail m kind → m ≤ 256 → Encodes (csi (ds ++ tail) (byte "~")) (key_told code false m kind)
  by_code : {n : ℕ} {code : KeyCode} {is_keypad : Bool} {ds : List ℕ} → IsCode n code is_keypad
      → WritesNumber ds n
      → Encodes (csi ds (byte "u")) (code_told code is_keypad 0 Press)
  by_code_held : {n m : ℕ} {code : KeyCode} {is_keypad : Bool} {ds tail : List ℕ} {kind : KeyEventKind}
      → IsCode n code is_keypad → WritesNumber ds n → Held tail m kind → m ≤ 256
      → Encodes (csi (ds ++ tail) (byte "u")) (code_told code is_keypad m kind)
  -- with further code points of the key, of which the first is the character that Shift makes of it, and with
  -- the text that was typed
  by_codes : {n m t : ℕ} {code : KeyCode} {is_keypad : Bool} {ds tail text : List ℕ} {kind : KeyEventKind}
      (codes : List ℕ) → IsCode n code is_keypad → WritesNumber ds n → AreCodes codes → Held tail m kind
      → m ≤ 256
      → ToldFirst text t
      → Encodes (csi (ds ++ (byte ":" ∷ (codes ++ (tail ++ (byte ";" ∷ text))))) (byte "u"))
      (typed_told (told_character t) code is_keypad m kind)
  by_shifted : {n m t : ℕ} {code : KeyCode} {is_keypad : Bool} {ds codes tail : List ℕ} {kind : KeyEventKind}
      → IsCode n code is_keypad → WritesNumber ds n → ToldFirst codes t → Held tail m kind → m ≤ 256
      → Encodes (csi (ds ++ (byte ":" ∷ (codes ++ tail))) (byte "u"))
      (typed_told (told_character t) code is_keypad m kind)
  -- text that no key has typed: one character
  by_text : {m t : ℕ} {ds tail fs : List ℕ} {kind : KeyEventKind} → WritesNumber ds 0 → Held tail m kind
      → m ≤ 256
      → WritesNumber fs t → IsScalar t → is_control t ≡ false
      → Encodes (csi ((ds ++ tail) ++ (byte ";" ∷ fs)) (byte "u"))
      (key_told (Char t) false (typed_mask t m) kind)
  by_other : {n m : ℕ} {code : KeyCode} {is_keypad : Bool} {ds es fs : List ℕ} → IsCode n code is_keypad
      → WritesNumber ds 27 → WritesNumber es m → m ≤ 256 → WritesNumber fs n
      → Encodes (csi (three_numbers ds es fs) (byte "~")) (code_told code is_keypad m Press)
  -- the mouse: by numbers after <, by three bytes, and by numbers
  by_numbers_down : {n x y : ℕ} {ds es fs : List ℕ} {kind : MouseEventKind} → WritesNumber ds n
      → WritesNumber es x
      → WritesNumber fs y
      → n ≤ 255 → x ≤ 65535 → y ≤ 65535 → mouse_kind n false ≡ Some kind
      → Encodes (csi (byte "<" ∷ three_numbers ds es fs) (byte "M")) (mouse_told kind n x y)
  by_numbers_up : {n x y : ℕ} {ds es fs : List ℕ} {kind : MouseEventKind} → WritesNumber ds n
      → WritesNumber es x
      → WritesNumber fs y
      → n ≤ 255 → x ≤ 65535 → y ≤ 65535 → mouse_kind n true ≡ Some kind
      → Encodes (csi (byte "<" ∷ three_numbers ds es fs) (byte "m")) (mouse_told kind n x y)
  by_bytes : {kind : MouseEventKind} (n x y : ℕ) → n ≤ 223 → x ≤ 223 → y ≤ 223
      → mouse_kind n false ≡ Some kind
      → Encodes (escape ∷ byte "[" ∷ byte "M" ∷ (n + 32) ∷ (x + 32) ∷ (y + 32) ∷ []) (mouse_told kind n x y)
  by_plain_numbers : {n x y : ℕ} {ds es fs : List ℕ} {kind : MouseEventKind} → WritesNumber ds (n + 32)
      → WritesNumber es x
      → WritesNumber fs y → n ≤ 255 → x ≤ 65535 → y ≤ 65535 → mouse_kind n false ≡ Some kind
      → Encodes (csi (three_numbers ds es fs) (byte "M")) (mouse_told kind n x y)
  -- the focus, the size in rows and columns, and where the cursor is: row and column, from 1 on
  focus_gained : Encodes (csi [] (byte "I")) FocusGained
  focus_lost : Encodes (csi [] (byte "O")) FocusLost
  size : {n rows columns : ℕ} {ds es fs : List ℕ} → WritesNumber ds n → (n ≡ 8) ⊎ (n ≡ 48)
      → WritesNumber es rows
      → rows ≤ 65535
      → WritesNumber fs columns → columns ≤ 65535
      → Encodes (csi (three_numbers ds es fs) (byte "t")) (Size columns rows)
  position : {row column : ℕ} {ds es : List ℕ} → WritesNumber ds row → row ≢ 1 → row ≤ 65535
      → WritesNumber es column
      → column ≤ 65535 → Encodes (csi (two_numbers ds es) (byte "R")) (Position (column - 1) (row - 1))

-- bytes that no sequence of an event has: one of the marks but <
abbrev pub IsMark : ℕ → Type 0
IsMark b = ((byte " " ≤ b) × (b ≤ byte "/")) ⊎ ((byte "=" ≤ b) × (b ≤ byte "?"))

-- digits, semicolons and colons
abbrev pub AreNumbers : List ℕ → Type 0
AreNumbers [] = Unit {0}
AreNumbers (b ∷ bs) = (byte "0" ≤ b) × (b ≤ byte ";") × AreNumbers bs

-- bytes that may stand in a sequence
abbrev pub AreInside : List ℕ → Type 0
AreInside [] = Unit {0}
AreInside (b ∷ bs) = (byte " " ≤ b) × (b ≤ byte "?") × AreInside bs

-- last bytes of sequences that are no key's
abbrev pub IsNameless : ℕ → Type 0
IsNameless b =
    (b ≡ byte "@") ⊎ (b ≡ byte "G") ⊎ ((byte "J" ≤ b) × (b ≤ byte "L")) ⊎ (b ≡ byte "N")
    ⊎ ((byte "T" ≤ b) × (b ≤ byte "Y")) ⊎ ((byte "\\" ≤ b) × (b ≤ byte "s"))
    ⊎ ((byte "v" ≤ b) × (b ≤ byte "}"))

-- numbers before a tilde that are no key's
abbrev pub IsNoTilde : ℕ → Type 0
IsNoTilde n = (n ≡ 0) ⊎ (n ≡ 9) ⊎ (n ≡ 10) ⊎ (n ≡ 16) ⊎ (n ≡ 22) ⊎ (n ≡ 30) ⊎ ((35 ≤ n) × (n ≢ 200)
    × (n ≢ 201))

-- bytes that stand for nothing, though they belong together
pub data StandsForNothing : List ℕ → Type 0 where
  -- a byte that begins no character in UTF-8
  stray : (b : ℕ) → ((128 ≤ b) × (b ≤ 193)) ⊎ (245 ≤ b) → StandsForNothing (b ∷ [])
  -- a string of the terminal, as its answers are
  string : {opener : ℕ} (first : ℕ) (text end : List ℕ) → IsOpener opener → AreText (first ∷ text)
      → EndsString opener end
      → StandsForNothing (escape ∷ opener ∷ first ∷ (text ++ end))
  -- a sequence with a mark that no event has
  marked : (before after : List ℕ) (mark last : ℕ) → AreNumbers before → IsMark mark → AreInside after
      → byte "@" ≤ last → last ≤ byte "~"
      → StandsForNothing (csi (before ++ (mark ∷ after)) last)
  -- a key with more held than there is to hold
  held_by_letter : {b m : ℕ} {code : KeyCode} {ds es : List ℕ} → IsLetter b code → WritesNumber ds 1
      → WritesNumber es m → 256 < m
      → m < 2 ^ 32 → StandsForNothing (csi (two_numbers ds es) b)
  held_by_tilde : {n m : ℕ} {code : KeyCode} {ds es : List ℕ} → IsTilde n code → WritesNumber ds n
      → WritesNumber es m → 256 < m
      → m < 2 ^ 32 → StandsForNothing (csi (two_numbers ds es) (byte "~"))
  held_by_code : {n m : ℕ} {code : KeyCode} {is_keypad : Bool} {ds es : List ℕ} → IsCode n code is_keypad
      → WritesNumber ds n
      → WritesNumber es m → 256 < m → m < 2 ^ 32 → StandsForNothing (csi (two_numbers ds es) (byte "u"))
  -- a letter and a number that no key has
  nameless : {b n : ℕ} {ds : List ℕ} → IsNameless b → WritesNumber ds n → n < 2 ^ 32
      → StandsForNothing (csi ds b)
  numberless : {n : ℕ} {ds : List ℕ} → IsNoTilde n → WritesNumber ds n → n < 2 ^ 32
      → StandsForNothing (csi ds (byte "~"))
