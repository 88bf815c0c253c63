-- What was read, piece by piece: each piece stands for an event, and is told as that event.
use Rattle.std.specs.Prelude.{◌≡◌, ◌≢◌, ◌⊎◌, ◌<◌, ◌≤◌, ◌+◌, ◌-◌, ◌==◌, ℕ, Bool, true, false, Some}
use Rattle.std.specs.Prelude.{List, [], ◌∷◌, ◌++◌, if◌then◌else◌}
use Rattle.std.specs.Char.{IsScalar, is_control}
use Rattle.std.specs.Str.{byte}
use Rattle.ratatui_events.specs.declared.event.Event.{Event}
use Rattle.ratatui_events.specs.declared.event.Event.TheVariants.{Key, FocusGained, FocusLost, Size, Position}
use Rattle.ratatui_events.specs.declared.event.Event.TheVariants.{PasteBegun, PasteEnded, Unknown}
use Rattle.ratatui_events.specs.declared.key.KeyCode.{KeyCode}
use Rattle.ratatui_events.specs.declared.key.KeyCode.TheVariants.{Esc, Char}
use Rattle.ratatui_events.specs.declared.key.KeyEvent.{KeyEvent}
use Rattle.ratatui_events.specs.declared.mouse.MouseEventKind.{MouseEventKind}
use Rattle.ratatui_events.specs.Key.{held, pressed}
use Rattle.ratatui_input.specs.Keys.{escape, typed_key, with_alt}
use Rattle.ratatui_input.specs.Mouse.{mouse_kind}
use Rattle.ratatui_input.specs.Sequences.{kind_of, typed_mask}
use Rattle.ratatui_input.specs.KeyTables.{IsLetter, IsTilde, IsCode}
use Rattle.ratatui_input.specs.Encodings.{IsDigits, value_after}
use Rattle.ratatui_input.specs.Decoding.{Told, decoded, pasted_code}
use Rattle.ratatui_input.specs.Grammar.{Encodes, csi, AreCodes, AreNumbers, key_told, letter_told}
use Rattle.ratatui_input.specs.Grammar.{code_told, typed_told, told_character, mouse_told, WritesNumber}
use Rattle.ratatui_input.specs.Grammar.{IsOpener}
use Rattle.ratatui_input.specs.declared.decoder.State.TheVariants.{Ground}

-- numbers that a byte can be
abbrev pub AreBytes : List ℕ → Type 0
AreBytes [] = Unit {0}
AreBytes (b ∷ bs) = (b < 256) × AreBytes bs

-- digits that write this number; all numbers from 2 ^ 32 - 1 on are one, and no digit writes 0
pub record KeepsNumber (ds : List ℕ) (n : ℕ) : Type 0 where
  pub digits : IsDigits ds
  pub number : value_after 0 ds ≡ n

-- what stands between two semicolons: a number, and perhaps, after a colon, codes that mean nothing
pub data Field : List ℕ → ℕ → Type 0 where
  plain_field : {ds : List ℕ} {n : ℕ} → KeepsNumber ds n → Field ds n
  field_with_codes : {ds : List ℕ} {n : ℕ} (cs : List ℕ) → KeepsNumber ds n → AreCodes cs
      → Field (ds ++ (byte ":" ∷ cs)) n

-- the same of the first and the second number: after a first colon stands a further one, 0 where there is
-- none. It is the first number's character with Shift, and what the key did, of which the second says what is
-- held
pub data HeldField : List ℕ → ℕ → ℕ → Type 0 where
  held_field : {ds : List ℕ} {m : ℕ} → KeepsNumber ds m → HeldField ds m 0
  held_with_kind : {ds ks : List ℕ} {m k : ℕ} → KeepsNumber ds m → KeepsNumber ks k
      → HeldField (ds ++ (byte ":" ∷ ks)) m k
  held_with_more : {ds ks : List ℕ} {m k : ℕ} (cs : List ℕ) → KeepsNumber ds m → KeepsNumber ks k
      → AreCodes cs
      → HeldField ((ds ++ (byte ":" ∷ ks)) ++ (byte ":" ∷ cs)) m k

-- how many semicolons there are, 3 for more; the first three numbers, 0 where there is none; and what the key
-- did. Where there is no third number, what stands after the first one's colon is told in its place. Whatever
-- stands after the third number means nothing
pub data HasNumbers : List ℕ → ℕ → ℕ → ℕ → ℕ → ℕ → Type 0 where
  has_one : {ds : List ℕ} {n t : ℕ} → HeldField ds n t → HasNumbers ds 0 n 0 t 0
  has_two : {ds es : List ℕ} {n m t k : ℕ} → HeldField ds n t → HeldField es m k
      → HasNumbers (ds ++ (byte ";" ∷ es)) 1 n m t k
  has_three : {ds es fs : List ℕ} {n m s t k : ℕ} → HeldField ds n s → HeldField es m k → Field fs t
      → HasNumbers ((ds ++ (byte ";" ∷ es)) ++ (byte ";" ∷ fs)) 2 n m t k
  has_more : {ds es fs : List ℕ} {n m s t k : ℕ} (gs : List ℕ) → HeldField ds n s → HeldField es m k
      → Field fs t
      → AreNumbers gs
      → HasNumbers (((ds ++ (byte ";" ∷ es)) ++ (byte ";" ∷ fs)) ++ (byte ";" ∷ gs)) 3 n m t k

-- three numbers, of which the third is one code point
pub data HasText : List ℕ → ℕ → ℕ → ℕ → ℕ → Type 0 where
  has_text : {ds es fs : List ℕ} {n m s t k : ℕ} → HeldField ds n s → HeldField es m k → KeepsNumber fs t
      → HasText ((ds ++ (byte ";" ∷ es)) ++ (byte ";" ∷ fs)) n m t k

-- the keys with a code point: a character of the private use area is one, too, where it has no name
pub data IsCodePoint : ℕ → KeyCode → Bool → Type 0 where
  named_code : {n : ℕ} {code : KeyCode} {is_keypad : Bool} → IsCode n code is_keypad
      → IsCodePoint n code is_keypad
  private_code : (c : ℕ) → 57344 ≤ c → c < 63744
      → ((code : KeyCode) (is_keypad : Bool) → IsCode c code is_keypad → ⊥)
      → IsCodePoint c (Char c) false

-- sequences that are taken for an event though they have more, or other, numbers than the protocols send:
-- numbers that no event has use for mean nothing
pub data Tolerates : List ℕ → Event → Type 0 where
  any_letter : {body : List ℕ} {c n m t k b : ℕ} {code : KeyCode} → HasNumbers body c n m t k
      → IsLetter b code → (b ≡ byte "R" → c ≡ 1 → n ≡ 1) → (if c == 0 then n else m) ≤ 256
      → Tolerates (csi body b) (letter_told code (if c == 0 then n else m) (kind_of k))
  any_tilde : {body : List ℕ} {c n m t k : ℕ} {code : KeyCode} → HasNumbers body c n m t k
      → IsTilde n code → m ≤ 256
      → Tolerates (csi body (byte "~")) (key_told code false m (kind_of k))
  any_code : {body : List ℕ} {c n m t k : ℕ} {code : KeyCode} {is_keypad : Bool}
      → HasNumbers body c n m t k → IsCodePoint n code is_keypad → m ≤ 256
      → Tolerates (csi body (byte "u")) (typed_told (told_character t) code is_keypad m (kind_of k))
  any_text : {body : List ℕ} {m t k : ℕ} → HasText body 0 m t k
      → IsScalar t → is_control t ≡ false → m ≤ 256
      → Tolerates (csi body (byte "u")) (key_told (Char t) false (typed_mask t m) (kind_of k))
  any_other : {body : List ℕ} {c m t k : ℕ} {code : KeyCode} {is_keypad : Bool}
      → HasNumbers body c 27 m t k → 2 ≤ c → IsCodePoint t code is_keypad → m ≤ 256
      → Tolerates (csi body (byte "~")) (code_told code is_keypad m (kind_of k))
  any_begun : {body : List ℕ} {c m t k : ℕ} → HasNumbers body c 200 m t k
      → Tolerates (csi body (byte "~")) PasteBegun
  any_ended : {body : List ℕ} {c m t k : ℕ} → HasNumbers body c 201 m t k
      → Tolerates (csi body (byte "~")) PasteEnded
  any_size : {body : List ℕ} {c n m t k : ℕ} → HasNumbers body c n m t k
      → (n ≡ 48) ⊎ (n ≡ 8) → 2 ≤ c → m ≤ 65535 → t ≤ 65535
      → Tolerates (csi body (byte "t")) (Size t m)
  any_position : {body : List ℕ} {n m t k : ℕ} → HasNumbers body 1 n m t k
      → n ≢ 1 → n ≤ 65535 → m ≤ 65535
      → Tolerates (csi body (byte "R")) (Position (m - 1) (n - 1))
  any_plain_mouse : {body : List ℕ} {c n m t k : ℕ} {kind : MouseEventKind}
      → HasNumbers body c (n + 32) m t k → 2 ≤ c
      → n ≤ 255 → m ≤ 65535 → t ≤ 65535 → mouse_kind n false ≡ Some kind
      → Tolerates (csi body (byte "M")) (mouse_told kind n m t)
  any_down : {body : List ℕ} {n m t k : ℕ} {kind : MouseEventKind} → HasNumbers body 2 n m t k
      → n ≤ 255 → m ≤ 65535 → t ≤ 65535 → mouse_kind n false ≡ Some kind
      → Tolerates (csi (byte "<" ∷ body) (byte "M")) (mouse_told kind n m t)
  any_up : {body : List ℕ} {n m t k : ℕ} {kind : MouseEventKind} → HasNumbers body 2 n m t k
      → n ≤ 255 → m ≤ 65535 → t ≤ 65535 → mouse_kind n true ≡ Some kind
      → Tolerates (csi (byte "<" ∷ body) (byte "m")) (mouse_told kind n m t)
  any_gained : {body : List ℕ} {n m t k : ℕ} → HasNumbers body 0 n m t k
      → Tolerates (csi body (byte "I")) FocusGained
  any_lost : {body : List ℕ} {n m t k : ℕ} → HasNumbers body 0 n m t k
      → Tolerates (csi body (byte "O")) FocusLost

-- bytes that stand for an event: by the grammar, by a sequence with further numbers, or as a key by itself,
-- which ESC, ESC [, ESC O and ESC with what opens a string are where nothing goes on with them
pub data StandsFor : List ℕ → Event → Type 0 where
  by_grammar : {bytes : List ℕ} {event : Event} → Encodes bytes event → StandsFor bytes event
  by_numbers : {bytes : List ℕ} {event : Event} → Tolerates bytes event → StandsFor bytes event
  lone_escape : StandsFor (escape ∷ []) (Key (pressed Esc (held 0)))
  lone_bracket : StandsFor (escape ∷ byte "[" ∷ []) (with_alt (typed_key (byte "[")) true)
  lone_opener : {b : ℕ} → IsOpener b → StandsFor (escape ∷ b ∷ []) (with_alt (typed_key b) true)
  lone_single : {ds : List ℕ} → WritesNumber ds 0
      → StandsFor (escape ∷ byte "O" ∷ ds) (with_alt (typed_key (byte "O")) true)

-- bytes that stand for nothing: neither the grammar has them, nor are they a sequence with further numbers
pub record IsNothing (bytes : List ℕ) : Type 0 where
  pub some : bytes ≢ []
  pub not_encoded : (event : Event) → Encodes bytes event → ⊥
  pub not_tolerated : (event : Event) → Tolerates bytes event → ⊥

-- a piece of what was read, and what is told of it. Outside a paste it is the event that the bytes stand
-- for; unknown is told of bytes that stand for nothing, and of the end of a paste that hasn't begun. Within a
-- paste it is the character that a key types; unknown is told of all that is none, but the end of the paste.
-- Before and after it stands whether a paste goes on
pub data IsPiece : Bool → List ℕ → Event → Bool → Type 0 where
  event_piece : {bytes : List ℕ} {event : Event} → StandsFor bytes event → event ≢ PasteBegun
      → event ≢ PasteEnded
      → event ≢ Unknown → IsPiece false bytes event false
  begun_piece : {bytes : List ℕ} → StandsFor bytes PasteBegun → IsPiece false bytes PasteBegun true
  early_end_piece : {bytes : List ℕ} → StandsFor bytes PasteEnded → IsPiece false bytes Unknown false
  nothing_piece : {bytes : List ℕ} → IsNothing bytes → IsPiece false bytes Unknown false
  pasted_piece : {bytes : List ℕ} {key : KeyEvent} → StandsFor bytes (Key key)
      → IsPiece true bytes (pasted_code key.code key.modifiers.0) true
  ended_piece : {bytes : List ℕ} → StandsFor bytes PasteEnded → IsPiece true bytes PasteEnded false
  unknown_piece : {bytes : List ℕ} → bytes ≢ [] → IsPiece true bytes Unknown true

-- bytes that are pieces, one after the other, and an event for each
pub data ArePieces : Bool → List ℕ → List Event → Bool → Type 0 where
  no_piece : {p : Bool} → ArePieces p [] [] p
  then_pieces : {p q r : Bool} {bytes rest : List ℕ} {event : Event} {events : List Event}
      → IsPiece p bytes event q
      → ArePieces q rest events r → ArePieces p (bytes ++ rest) (event ∷ events) r

-- what was read is pieces, one for each event that was told, and then bytes that tell nothing yet
pub record IsReadInPieces (p : Bool) (bytes : List ℕ) (told : Told) : Type 0 where
  pub pieces : List ℕ
  pub rest : List ℕ
  pub whole : bytes ≡ pieces ++ rest
  pub events : ArePieces p pieces told.0 told.1.is_pasting
  pub silent : decoded (record { state = Ground; is_pasting = told.1.is_pasting }) rest ≡ ([], told.1)
