-- Which keys are commands, and which are answers.
use Rattle.std.specs.Prelude.{ℕ, Bool, true, false, ◌==◌, if◌then◌else◌, List, [], ◌∷◌, Option, Some, None, codes}
use Rattle.ratatui_events.specs.declared.event.Event.{Event}
use Rattle.ratatui_events.specs.declared.event.Event.TheVariants.{Key}
use Rattle.ratatui_events.specs.declared.key.KeyEvent.{KeyEvent}
use Rattle.ratatui_events.specs.declared.key.KeyEventKind.{KeyEventKind}
use Rattle.ratatui_events.specs.declared.key.KeyEventKind.TheVariants.{Press, Repeat, Release}
use Rattle.ratatui_events.specs.declared.key.KeyCode.{KeyCode}
use Rattle.ratatui_events.specs.declared.key.KeyCode.TheVariants.{Char}
use Rattle.ratatui_events.specs.declared.key.KeyModifiers.{KeyModifiers}
use Rattle.ratatui_events.specs.Key.{modifier_bits}
use Rattle.text_field.specs.Keys.{letter}
use Rattle.editor.specs.declared.keys.Command.{Command}
use Rattle.editor.specs.declared.keys.Command.TheVariants.{Save, Leave, Find, GoTo, Undo, Redo, Replace}
use Rattle.editor.specs.declared.keys.Offer.{Offer}
use Rattle.editor.specs.declared.keys.Offer.TheVariants.{Yes, No, All, Stop}

-- what a letter asks for beside Control
abbrev pub asked_beside_control : ℕ → Option Command
asked_beside_control c =
    if c == letter (codes "s") then Some Save else
    if c == letter (codes "q") then Some Leave else
    if c == letter (codes "f") then Some Find else
    if c == letter (codes "g") then Some GoTo else None

-- and beside Alt
abbrev pub asked_beside_alt : ℕ → Option Command
asked_beside_alt c =
    if c == letter (codes "u") then Some Undo else
    if c == letter (codes "e") then Some Redo else
    if c == letter (codes "r") then Some Replace else None

-- the same of a key, beside which Control (4) or Alt (2) is held alone
abbrev pub asked_by_letter : KeyModifiers → ℕ → Option Command
asked_by_letter m c =
    if modifier_bits m == 4 then asked_beside_control c else if modifier_bits m == 2 then asked_beside_alt c else None

abbrev pub asked_by_code : KeyModifiers → KeyCode → Option Command
asked_by_code m (Char c) = asked_by_letter m c
asked_by_code m _ = None

-- a key that is let go asks for nothing
abbrev pub asked_by_key : KeyEventKind → KeyEvent → Option Command
asked_by_key Press key = asked_by_code key.modifiers key.code
asked_by_key Repeat key = asked_by_code key.modifiers key.code
asked_by_key Release key = None

-- what an event asks for beside editing
abbrev pub asked_of : Event → Option Command
asked_of (Key key) = asked_by_key key.kind key
asked_of _ = None

-- which key an event presses
abbrev pub code_unless_released : KeyEventKind → KeyCode → Option KeyCode
code_unless_released Press code = Some code
code_unless_released Repeat code = Some code
code_unless_released Release code = None

abbrev pub pressed_code : Event → Option KeyCode
pressed_code (Key key) = code_unless_released key.kind key.code
pressed_code _ = None

-- an answer: yes is the letter y, no any other key
abbrev pub is_yes : KeyCode → Bool
is_yes (Char c) = c == letter (codes "y")
is_yes _ = false

abbrev pub answer_in : Option KeyCode → Option Bool
answer_in None = None
answer_in (Some code) = Some (is_yes code)

abbrev pub answer_of : Event → Option Bool
answer_of event = answer_in (pressed_code event)

-- what a key says to an offer to replace what was found: y yes, n no, a this one and all after it
abbrev pub offer_by_letter : ℕ → Offer
offer_by_letter c =
    if c == letter (codes "y") then Yes else
    if c == letter (codes "n") then No else
    if c == letter (codes "a") then All else Stop

abbrev pub offer_by : KeyCode → Offer
offer_by (Char c) = offer_by_letter c
offer_by _ = Stop

abbrev pub offer_in : Option KeyCode → Option Offer
offer_in None = None
offer_in (Some code) = Some (offer_by code)

abbrev pub offer_of : Event → Option Offer
offer_of event = offer_in (pressed_code event)
