-- The key that draws all anew.
use Rattle.std.specs.Prelude.{◌==◌, ◌&&◌, ◌||◌, Bool, false, List, [], ◌∷◌}
use Rattle.std.specs.Str.{byte}
use Rattle.ratatui_events.specs.declared.event.Event.{Event}
use Rattle.ratatui_events.specs.declared.event.Event.TheVariants.{Key}
use Rattle.ratatui_events.specs.declared.key.KeyCode.{KeyCode}
use Rattle.ratatui_events.specs.declared.key.KeyCode.TheVariants.{Char}
use Rattle.ratatui_events.specs.Key.{modifier_bits}

-- the letter l
abbrev pub is_l : KeyCode → Bool
is_l (Char code) = code == byte "l"
is_l _ = false

-- Ctrl+L, and no other key held
abbrev pub is_redraw : Event → Bool
is_redraw (Key key) = is_l key.code && modifier_bits key.modifiers == 4
is_redraw _ = false

-- one of these events is that key
abbrev pub has_redraw : List Event → Bool
has_redraw [] = false
has_redraw (e ∷ es) = is_redraw e || has_redraw es
