-- What is sent to a terminal that changes nothing on its screen.
use Rattle.std.specs.Prelude.{ℕ, ◌+◌, Bool, List, [], ◌∷◌, ◌++◌, codes, chars, encode_utf8, if◌then◌else◌}
use Rattle.std.specs.Fmt.{decimal}
use Rattle.std.specs.List.{flat_map}
use Rattle.ratatui_core.specs.{Layout.Position}
use Rattle.ansi_model.specs.{declared.command.Command.Command, declared.command.SetCursorStyle.SetCursorStyle}
use Rattle.ansi_model.specs.declared.command.KeyboardEnhancementFlags.{KeyboardEnhancementFlags}
use Rattle.ansi_model.specs.{Symbols.is_shown}
use Rattle.ansi_model.specs.declared.command.Command.TheVariants.{EnableMouseCapture, DisableMouseCapture}
use Rattle.ansi_model.specs.declared.command.Command.TheVariants.{EnableBracketedPaste, DisableBracketedPaste}
use Rattle.ansi_model.specs.declared.command.Command.TheVariants.{EnableFocusChange, DisableFocusChange}
use Rattle.ansi_model.specs.declared.command.Command.TheVariants.{AskCursorPosition, EnableSizeReports}
use Rattle.ansi_model.specs.declared.command.Command.TheVariants.{DisableSizeReports, KeepTitle}
use Rattle.ansi_model.specs.declared.command.Command.TheVariants.{PopKeyboardEnhancementFlags, BringTitleBack}
use Rattle.ansi_model.specs.declared.command.Command.TheVariants as Asked
use Rattle.ansi_model.specs.declared.command.SetCursorStyle.TheVariants.{DefaultUserShape, BlinkingBlock}
use Rattle.ansi_model.specs.declared.command.SetCursorStyle.TheVariants.{SteadyBlock, BlinkingUnderScore}
use Rattle.ansi_model.specs.declared.command.SetCursorStyle.TheVariants.{SteadyUnderScore, BlinkingBar}
use Rattle.ansi_model.specs.declared.command.SetCursorStyle.TheVariants.{SteadyBar}

-- ESC and a text
abbrev pub with_escape : List ℕ → List ℕ
with_escape text = 27 ∷ text

-- the digit of a cursor's shape
abbrev pub style_digit : SetCursorStyle → List ℕ
style_digit DefaultUserShape = codes "0"
style_digit BlinkingBlock = codes "1"
style_digit SteadyBlock = codes "2"
style_digit BlinkingUnderScore = codes "3"
style_digit SteadyUnderScore = codes "4"
style_digit BlinkingBar = codes "5"
style_digit SteadyBar = codes "6"

-- the mouse is told by the modes 1000, 1002, 1003 and 1006, pastes by 2004, the focus by 1004, the window's
-- size by 2048; XTWINOPS 22 keeps the window's title, 23 brings it back
abbrev pub command_bytes : Command → List ℕ
command_bytes EnableMouseCapture =
    with_escape (codes "[?1000h") ++
    (with_escape (codes "[?1002h") ++ (with_escape (codes "[?1003h") ++ with_escape (codes "[?1006h")))
command_bytes DisableMouseCapture =
    with_escape (codes "[?1006l") ++
    (with_escape (codes "[?1003l") ++ (with_escape (codes "[?1002l") ++ with_escape (codes "[?1000l")))
command_bytes EnableBracketedPaste = with_escape (codes "[?2004h")
command_bytes DisableBracketedPaste = with_escape (codes "[?2004l")
command_bytes EnableFocusChange = with_escape (codes "[?1004h")
command_bytes DisableFocusChange = with_escape (codes "[?1004l")
command_bytes AskCursorPosition = with_escape (codes "[6n")
command_bytes (Asked.SetCursorStyle style) = with_escape (codes "[" ++ (style_digit style ++ codes " q"))
command_bytes EnableSizeReports = with_escape (codes "[?2048h")
command_bytes DisableSizeReports = with_escape (codes "[?2048l")
command_bytes PopKeyboardEnhancementFlags = with_escape (codes "[<1u")
command_bytes KeepTitle = with_escape (codes "[22;2t")
command_bytes BringTitleBack = with_escape (codes "[23;2t")

-- the flags of kitty's keyboard protocol, by name, each with its bit
abbrev pub flag_table : List (List ℕ × ℕ)
flag_table =
    (codes "DISAMBIGUATE_ESCAPE_CODES", 1) ∷ (codes "REPORT_EVENT_TYPES", 2)
    ∷ (codes "REPORT_ALTERNATE_KEYS", 4) ∷ (codes "REPORT_ALL_KEYS_AS_ESCAPE_CODES", 8) ∷ []

-- the number that stands for a set of them
abbrev pub flag_bits : KeyboardEnhancementFlags → ℕ
flag_bits flags = flags.0

-- puts flags on the terminal's stack of them
abbrev pub keyboard_bytes : KeyboardEnhancementFlags → List ℕ
keyboard_bytes flags = with_escape (codes "[>" ++ (decimal (flag_bits flags) ++ codes "u"))

-- takes as many off it
abbrev pub keyboard_pop_bytes : ℕ → List ℕ
keyboard_pop_bytes n = with_escape (codes "[<" ++ (decimal n ++ codes "u"))

-- a character, unless it is a control character or turns the direction
abbrev pub shown_char : ℕ → List ℕ
shown_char c = if is_shown c then encode_utf8 c else []

-- a text without these
abbrev pub shown_text : List ℕ → List ℕ
shown_text text = flat_map shown_char (chars text)

-- OSC 2, the title of the terminal's window, with its end, ESC \
abbrev pub title_bytes : List ℕ → List ℕ
title_bytes title = with_escape (codes "]2;") ++ (shown_text title ++ with_escape (92 ∷ []))

-- a title after which the window's own one can be brought back, if it is the first one that is given
abbrev pub titled_bytes : Bool → List ℕ → List ℕ
titled_bytes is_first title = (if is_first then command_bytes KeepTitle else []) ++ title_bytes title

-- CUP, which puts the cursor in a column and a row: both are counted from 1 on
abbrev pub cursor_bytes : ℕ → ℕ → List ℕ
cursor_bytes x y = with_escape (codes "[" ++ (decimal (y + 1) ++ (codes ";" ++ (decimal (x + 1) ++ codes "H"))))

-- CUP goes as far down and right as there is room, and DSR asks where that is
abbrev pub end_question : List ℕ
end_question = with_escape (codes "[65535;65535H") ++ with_escape (codes "[6n")

-- a question for the size, after which the cursor is back in its place
abbrev pub size_question : Position → List ℕ
size_question p = end_question ++ cursor_bytes p.x p.y
