-- Keys as people write them.
use Rattle.std.specs.Prelude.{ℕ, ◌-◌, ◌==◌, ◌&&◌, ◌||◌, List, [], ◌++◌, codes, encode_utf8, nat_le}
use Rattle.std.specs.Prelude.{if◌then◌else◌}
use Rattle.std.specs.Int.RustNames.{bit_and}
use Rattle.std.specs.Fmt.{decimal}
use Rattle.std.specs.Str.{byte}
use Rattle.ratatui_events.specs.declared.key.MediaKeyCode.{MediaKeyCode}
use Rattle.ratatui_events.specs.declared.key.MediaKeyCode.TheVariants as media
use Rattle.ratatui_events.specs.declared.key.ModifierKeyCode.{ModifierKeyCode}
use Rattle.ratatui_events.specs.declared.key.ModifierKeyCode.TheVariants as modifier
use Rattle.ratatui_events.specs.declared.key.KeyModifiers.{KeyModifiers}
use Rattle.ratatui_events.specs.declared.key.KeyEvent.{KeyEvent}
use Rattle.ratatui_events.specs.declared.key.KeyCode.{KeyCode}
use Rattle.ratatui_events.specs.declared.key.KeyCode.TheVariants as code

-- the names of the keys
abbrev pub media_name : MediaKeyCode → List ℕ
media_name media.Play = codes "MediaPlay"
media_name media.Pause = codes "MediaPause"
media_name media.PlayPause = codes "MediaPlayPause"
media_name media.Reverse = codes "MediaReverse"
media_name media.Stop = codes "MediaStop"
media_name media.FastForward = codes "MediaFastForward"
media_name media.Rewind = codes "MediaRewind"
media_name media.TrackNext = codes "MediaTrackNext"
media_name media.TrackPrevious = codes "MediaTrackPrevious"
media_name media.Record = codes "MediaRecord"
media_name media.LowerVolume = codes "MediaLowerVolume"
media_name media.RaiseVolume = codes "MediaRaiseVolume"
media_name media.MuteVolume = codes "MediaMuteVolume"

abbrev pub modifier_name : ModifierKeyCode → List ℕ
modifier_name modifier.LeftShift = codes "LeftShift"
modifier_name modifier.LeftControl = codes "LeftControl"
modifier_name modifier.LeftAlt = codes "LeftAlt"
modifier_name modifier.LeftSuper = codes "LeftSuper"
modifier_name modifier.LeftHyper = codes "LeftHyper"
modifier_name modifier.LeftMeta = codes "LeftMeta"
modifier_name modifier.RightShift = codes "RightShift"
modifier_name modifier.RightControl = codes "RightControl"
modifier_name modifier.RightAlt = codes "RightAlt"
modifier_name modifier.RightSuper = codes "RightSuper"
modifier_name modifier.RightHyper = codes "RightHyper"
modifier_name modifier.RightMeta = codes "RightMeta"
modifier_name modifier.IsoLevel3Shift = codes "IsoLevel3Shift"
modifier_name modifier.IsoLevel5Shift = codes "IsoLevel5Shift"

-- none of a function key and of a character
abbrev pub code_name : KeyCode → List ℕ
code_name code.Backspace = codes "Backspace"
code_name code.Enter = codes "Enter"
code_name code.Left = codes "Left"
code_name code.Right = codes "Right"
code_name code.Up = codes "Up"
code_name code.Down = codes "Down"
code_name code.Home = codes "Home"
code_name code.End = codes "End"
code_name code.PageUp = codes "PageUp"
code_name code.PageDown = codes "PageDown"
code_name code.Tab = codes "Tab"
code_name code.BackTab = codes "BackTab"
code_name code.Delete = codes "Delete"
code_name code.Insert = codes "Insert"
code_name code.Esc = codes "Esc"
code_name code.CapsLock = codes "CapsLock"
code_name code.ScrollLock = codes "ScrollLock"
code_name code.NumLock = codes "NumLock"
code_name code.PrintScreen = codes "PrintScreen"
code_name code.Pause = codes "Pause"
code_name code.Menu = codes "Menu"
code_name code.KeypadBegin = codes "KeypadBegin"
code_name (code.Media media) = media_name media
code_name (code.Modifier modifier) = modifier_name modifier
code_name (code.F number) = []
code_name (code.Char c) = []

-- a function key's number in decimal, a character itself, a blank by its name
abbrev pub code_text : KeyCode → List ℕ
code_text (code.F number) = codes "F" ++ decimal number
code_text (code.Char c) = if c == byte " " then codes "Space" else encode_utf8 c
code_text code = code_name code

-- a name where the set has all these bits
abbrev pub if_held : KeyModifiers → ℕ → List ℕ → List ℕ
if_held held bits name = if bit_and held.0 bits == bits then name else []

-- each key held, with a plus sign
abbrev pub modifiers_text : KeyModifiers → List ℕ
modifiers_text held =
    if_held held 4 (codes "Ctrl+") ++ if_held held 2 (codes "Alt+") ++ if_held held 1 (codes "Shift+")
    ++ if_held held 8 (codes "Super+") ++ if_held held 16 (codes "Hyper+") ++ if_held held 32 (codes "Meta+")

-- a small ASCII letter as a capital one
abbrev pub upper : ℕ → ℕ
upper c = if nat_le (byte "a") c && nat_le c (byte "z") then c - 32 else c

-- the key as it is written beside what is held
abbrev pub code_beside : KeyCode → KeyModifiers → KeyCode
code_beside (code.Char c) held = if (held.0 == 0) || (bit_and held.0 1 == 1) then code.Char c
    else code.Char (upper c)
code_beside code held = code

abbrev pub shown_code : KeyEvent → KeyCode
shown_code key = code_beside key.code key.modifiers

-- what is held, and the key
abbrev pub key_text : KeyEvent → List ℕ
key_text key = modifiers_text key.modifiers ++ code_text (shown_code key)
