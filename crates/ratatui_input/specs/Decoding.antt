-- What bytes make of a decoder: which bytes belong together, apart from what they stand for.
use Rattle.std.specs.Prelude.{ℕ, ◌+◌, ◌-◌, ◌*◌, ◌^◌, ◌==◌, ◌&&◌, ◌||◌, min, Bool, true, false, Option, Some}
use Rattle.std.specs.Prelude.{None, List, [], ◌∷◌, ◌++◌, nat_le, nat_lt, if◌then◌else◌}
use Rattle.std.specs.Int.RustNames.{bit_and}
use Rattle.std.specs.Char.{is_control}
use Rattle.std.specs.Str.{byte}
use Rattle.ratatui_events.specs.Key.{held, pressed}
use Rattle.ratatui_input.specs.Keys.{escape, typed_key, control_key, with_alt, scalar_at}
use Rattle.ratatui_input.specs.Sequences.{sequence_event, pushed, no_numbers, from_mouse, single_event}
use Rattle.ratatui_input.specs.Mouse.{mouse_event}
use Rattle.ratatui_events.specs.declared.event.Event.{Event}
use Rattle.ratatui_events.specs.declared.event.Event.TheVariants.{Unknown, Key, PasteBegun, PasteEnded}
use Rattle.ratatui_events.specs.declared.event.Event.TheVariants.{Pasted}
use Rattle.ratatui_events.specs.declared.key.KeyCode.{KeyCode}
use Rattle.ratatui_input.specs.declared.decoder.Decoder.{Decoder}
use Rattle.ratatui_input.specs.declared.decoder.Fed.{Fed}
use Rattle.ratatui_events.specs.declared.key.KeyCode.TheVariants.{F, Esc, Char, Enter, Tab}
use Rattle.ratatui_input.specs.declared.sequence.Sequence.{Sequence}
use Rattle.ratatui_input.specs.declared.decoder.State.{State}
use Rattle.ratatui_input.specs.declared.decoder.State.TheVariants.{Ground, Escape, Single, Bracket, Function}
use Rattle.ratatui_input.specs.declared.decoder.State.TheVariants.{Numbers, Click, ClickButton, ClickColumn}
use Rattle.ratatui_input.specs.declared.decoder.State.TheVariants.{Character, Opened, Text, TextEscape}
use Rattle.ratatui_input.specs.declared.decoder.Partial.{Partial}

-- what a byte makes of a state: an event, or a further state; or it doesn't go on with what has come
pub data Next : Type 0 where
  Whole : Event → Next
  More : State → Next
  Apart : Next

-- whether a number lies between two others
abbrev pub lies_in : ℕ → ℕ → ℕ → Bool
lies_in low high b = nat_le low b && nat_le b high

abbrev pub partial : Bool → ℕ → ℕ → ℕ → ℕ → Option Partial
partial is_alt code left low high = Some (record {
  is_alt = is_alt;
  code = code;
  left = left;
  low = low;
  high = high;
})

-- a character that begins with this byte: the bits that the byte gives, how many bytes are to come, and
-- between which the next is
unfoldable pub begun : ℕ → Bool → Option Partial
begun b alt =
    if lies_in 194 223 b then partial alt (bit_and b 31) 1 128 191
    else (if b == 224 then partial alt 0 2 160 191
    else (if b == 237 then partial alt 13 2 128 159
    else (if lies_in 225 239 b then partial alt (bit_and b 15) 2 128 191
    else (if b == 240 then partial alt 0 3 144 191
    else (if lies_in 241 243 b then partial alt (bit_and b 7) 3 128 191
    else (if b == 244 then partial alt 4 3 128 143
    else None))))))

-- what a byte of a character is, where it is no ASCII
abbrev pub beginning : Option Partial → Bool → Next
beginning (Some p) is_alt = More (Character p)
beginning None true = Apart
beginning None false = Whole Unknown

-- what a byte is with nothing before it, or after ESC
unfoldable pub first : ℕ → Bool → Next
first b is_alt =
    if b == escape then More Escape
    else (if nat_le b 31 || (b == 127) then Whole (with_alt (control_key b) is_alt)
    else (if lies_in (byte " ") (byte "~") b then Whole (with_alt (typed_key b) is_alt)
    else beginning (begun b is_alt) is_alt))

-- whether a byte after ESC opens a string of the terminal: P, X, ], ^ and _ do
abbrev pub opens_string : ℕ → Bool
opens_string b = (b == byte "P") || ((b == byte "X") || lies_in (byte "]") (byte "_") b)

unfoldable pub after_escape : ℕ → Next
after_escape b =
    if b == escape then Apart
    else (if b == byte "[" then More Bracket
    else (if b == byte "O" then More (Single 0)
    else (if opens_string b then More (Opened b)
    else first b true)))

abbrev pub going_on : Option Sequence → Next
going_on (Some longer) = More (Numbers longer)
going_on None = Apart

unfoldable pub in_sequence : Sequence → ℕ → Next
in_sequence s b = if lies_in (byte "@") (byte "~") b then Whole (sequence_event s b) else going_on (pushed s b)

unfoldable pub after_bracket : ℕ → Next
after_bracket b =
    if b == byte "[" then More Function
    else (if b == byte "M" then More Click
    else (if b == byte "<" then More (Numbers from_mouse)
    else in_sequence no_numbers b))

unfoldable pub after_single : ℕ → ℕ → Next
after_single number b =
    if lies_in (byte "0") (byte "9") b then More (Single (min (number * 10 + bit_and b 15) (2 ^ 32 - 1)))
    else (if lies_in (byte "@") (byte "~") b then Whole (single_event number b) else Apart)

abbrev pub after_function : ℕ → Next
after_function b =
    if lies_in (byte "A") (byte "E") b then Whole (with_alt (pressed (F (b - 64)) (held 0)) false)
    else (if lies_in (byte "@") (byte "~") b then Whole Unknown else Apart)

abbrev pub scalar_event : Option ℕ → Bool → Event
scalar_event None is_alt = Unknown
scalar_event (Some c) is_alt = if is_control c then Unknown else with_alt (typed_key c) is_alt

-- the event of a character's code
unfoldable pub character_event : ℕ → Bool → Event
character_event code is_alt = scalar_event (scalar_at code) is_alt

unfoldable pub in_character : Partial → ℕ → Next
in_character p b =
    let code = min (p.code * 64 + bit_and b 63) (2 ^ 32 - 1) in
    if nat_lt b 128 || (nat_lt b p.low || nat_lt p.high b) then Apart
    else (if nat_lt 1 p.left
    then More (Character (record {
      is_alt = p.is_alt;
      code = code;
      left = p.left - 1;
      low = 128;
      high = 191;
    }))
    else Whole (character_event code p.is_alt))

abbrev pub after_click : ℕ → Next → Next
after_click b next = if nat_lt b 32 then Apart else next

-- whether a byte stands in a string: control characters don't
abbrev pub may_be_in_string : ℕ → Bool
may_be_in_string b = lies_in (byte " ") (byte "~") b || nat_le 128 b

-- a string of the terminal: what opens it, text, and its end, which is ESC \ or, after ESC ], also BEL
abbrev pub after_opened : ℕ → ℕ → Next
after_opened opener b = if may_be_in_string b then More (Text (opener == byte "]") 0) else Apart

unfoldable pub in_text : Bool → ℕ → Next
in_text has_bell b =
    if may_be_in_string b then More (Text has_bell 0)
    else (if b == escape then More TextEscape
    else (if (b == 7) && has_bell then Whole Unknown
    else Apart))

abbrev pub after_text : ℕ → Next
after_text b = if b == byte "\\" then Whole Unknown else Apart

-- what a byte makes of what has come
unfoldable pub stepped : State → ℕ → Next
stepped Ground b = first b false
stepped Escape b = after_escape b
stepped (Single number) b = after_single number b
stepped Bracket b = after_bracket b
stepped Function b = after_function b
stepped (Numbers s) b = in_sequence s b
stepped Click b = after_click b (More (ClickButton b))
stepped (ClickButton button) b = after_click b (More (ClickColumn button b))
stepped (ClickColumn button column) b =
    after_click b (Whole (mouse_event (button - 32) (column - 32) (b - 32) false))
stepped (Character p) b = in_character p b
stepped (Opened opener) b = after_opened opener b
stepped (Text has_bell ticks) b = in_text has_bell b
stepped TextEscape b = after_text b

-- what a byte is that doesn't go on with what has come: with nothing before it; but after an ESC that ended a
-- string, with that ESC, if it goes on with it
abbrev pub unless_apart : Next → ℕ → Next
unless_apart Apart b = first b false
unless_apart next b = next

unfoldable pub begun_anew : State → ℕ → Next
begun_anew TextEscape b = unless_apart (after_escape b) b
begun_anew state b = first b false

-- what has come, where nothing goes on with it
unfoldable pub cut : State → Option Event
cut Ground = None
cut Escape = Some (Key (pressed Esc (held 0)))
cut (Single number) = Some (if number == 0 then with_alt (typed_key (byte "O")) true else Unknown)
cut Bracket = Some (with_alt (typed_key (byte "[")) true)
cut (Opened opener) = Some (with_alt (typed_key opener) true)
cut _ = Some Unknown

-- the character that a key is in a paste
abbrev pub pasted_code : KeyCode → ℕ → Event
pasted_code (Char c) bits = if nat_le bits 1 then Pasted c else (if (c == byte "j") && (bits == 4)
    then Pasted 10 else Unknown)
pasted_code Enter bits = if bits == 0 then Pasted 13 else Unknown
pasted_code Tab bits = if bits == 0 then Pasted 9 else Unknown
pasted_code _ bits = Unknown

-- an event as it is read outside a paste and within one, and whether a paste goes on after it
unfoldable pub read : Bool → Event → Event × Bool
read false PasteBegun = (PasteBegun, true)
read false PasteEnded = (Unknown, false)
read false event = (event, false)
read true PasteEnded = (PasteEnded, false)
read true (Key key) = (pasted_code key.code key.modifiers.0, true)
read true event = (Unknown, true)

-- what is told: the events, and the decoder that is left
abbrev pub Told : Type 0
Told = List Event × Decoder

abbrev pub told_event : Event → State → Bool → Told
told_event event state is_pasting = let r = read is_pasting event
    in (r.0 ∷ [], record { state = state; is_pasting = r.1 })

-- a byte with nothing before it
abbrev pub fresh : Next → Bool → Told
fresh (Whole event) is_pasting = told_event event Ground is_pasting
fresh (More state) is_pasting = ([], record { state = state; is_pasting = is_pasting })
fresh Apart is_pasting = ([], record { state = Ground; is_pasting = is_pasting })

abbrev pub after_cut : Option Event → Next → Bool → Told
after_cut None next is_pasting = fresh next is_pasting
after_cut (Some event) next is_pasting =
    let r = read is_pasting event in let told = fresh next r.1 in (r.0 ∷ told.0, told.1)

abbrev pub fed_next : Next → State → ℕ → Bool → Told
fed_next Apart state b is_pasting = after_cut (cut state) (begun_anew state b) is_pasting
fed_next next state b is_pasting = fresh next is_pasting

-- what one more byte gives
unfoldable pub byte_told : Decoder → ℕ → Told
byte_told d b = fed_next (stepped d.state b) d.state b d.is_pasting

-- what bytes give
unfoldable pub decoded : Decoder → List ℕ → Told
decoded d [] = ([], d)
decoded d (b ∷ bs) = let one = byte_told d b in let rest = decoded one.1 bs in (one.0 ++ rest.0, rest.1)

abbrev pub some_list : Option Event → List Event
some_list None = []
some_list (Some e) = e ∷ []

-- the events of a byte, in order
abbrev pub events_of : Fed → List Event
events_of f = some_list f.cut ++ some_list f.event

-- what was told, and then what further bytes give
abbrev pub next_told : Told → List ℕ → Told
next_told told bs = let r = decoded told.1 bs in (told.0 ++ r.0, r.1)

-- what ESC gives: what had come is told, and ESC begins anew
abbrev pub escaped : Option Event → Bool → Told
escaped None is_pasting = ([], record { state = Escape; is_pasting = is_pasting })
escaped (Some event) is_pasting = let r = read is_pasting event
    in (r.0 ∷ [], record { state = Escape; is_pasting = r.1 })

-- what is told where nothing more follows for now: ESC, ESC [, ESC O and ESC with what opens a string are
-- keys; a string is over at the tenth time in a row, and at once if ESC has come within it
abbrev pub settled_single : ℕ → Decoder → Told
settled_single number d = if number == 0
    then told_event (with_alt (typed_key (byte "O")) true) Ground d.is_pasting else ([], d)

abbrev pub settled_text : Bool → ℕ → Decoder → Told
settled_text has_bell ticks d = if nat_lt ticks 9 then ([], record d { state = Text has_bell (ticks + 1) })
    else told_event Unknown Ground d.is_pasting

unfoldable pub settled : State → Decoder → Told
settled Escape d = told_event (Key (pressed Esc (held 0))) Ground d.is_pasting
settled Bracket d = told_event (with_alt (typed_key (byte "[")) true) Ground d.is_pasting
settled (Single number) d = settled_single number d
settled (Opened opener) d = told_event (with_alt (typed_key opener) true) Ground d.is_pasting
settled (Text has_bell ticks) d = settled_text has_bell ticks d
settled TextEscape d = told_event Unknown Escape d.is_pasting
settled state d = ([], d)
