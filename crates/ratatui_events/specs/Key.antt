-- Keys, the sets of keys held beside them, and the locks.
use Rattle.std.specs.Prelude.{ℕ, List, [], ◌∷◌, Option, Some, None, codes}
use Rattle.ratatui_events.specs.declared.key.KeyModifiers.{KeyModifiers}
use Rattle.ratatui_events.specs.declared.key.KeyEventState.{KeyEventState}
use Rattle.ratatui_events.specs.declared.key.KeyEventKind.{KeyEventKind}
use Rattle.ratatui_events.specs.declared.key.KeyEventKind.TheVariants.{Press}
use Rattle.ratatui_events.specs.declared.key.KeyCode.{KeyCode}
use Rattle.ratatui_events.specs.declared.key.KeyCode.TheVariants.{Char}
use Rattle.ratatui_events.specs.declared.key.KeyEvent.{KeyEvent}

-- the six keys that are held beside others, by name, each with its bit
abbrev pub held_table : List (List ℕ × ℕ)
held_table =
    (codes "SHIFT", 1) ∷ (codes "ALT", 2) ∷ (codes "CONTROL", 4) ∷ (codes "SUPER", 8)
    ∷ (codes "HYPER", 16) ∷ (codes "META", 32) ∷ []

-- the bits of a set of them
abbrev pub modifier_bits : KeyModifiers → ℕ
modifier_bits m = m.0

-- the keys held of these bits
abbrev pub held : ℕ → KeyModifiers
held bits = record { 0 = bits }

-- the locks, and whether the key is one of the keypad
abbrev pub state_table : List (List ℕ × ℕ)
state_table = (codes "CAPS_LOCK", 1) ∷ (codes "NUM_LOCK", 2) ∷ (codes "KEYPAD", 4) ∷ []

-- the bits of a state
abbrev pub state_bits : KeyEventState → ℕ
state_bits s = s.0

-- the state of these bits
abbrev pub locks : ℕ → KeyEventState
locks bits = record { 0 = bits }

-- a key with all that is told of it
abbrev pub key_of_kind : KeyCode → KeyModifiers → KeyEventKind → KeyEventState → KeyEvent
key_of_kind key modifiers kind state = record {
  code = key;
  modifiers = modifiers;
  kind = kind;
  state = state;
}

-- a key that was pressed
abbrev pub pressed : KeyCode → KeyModifiers → KeyEvent
pressed key modifiers = key_of_kind key modifiers Press (locks 0)

-- the character of a key
abbrev pub key_character : KeyCode → Option ℕ
key_character (Char c) = Some c
key_character _ = None
