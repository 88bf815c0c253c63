-- Bytes that stand for events, whatever follows them; what a paste is; and what settling tells.
use Rattle.std.specs.Prelude.{◌≡◌, ◌≢◌, ◌⊎◌, ◌<◌, ◌≤◌, ◌+◌, ◌-◌, ◌*◌, ◌^◌, min, ℕ, List, [], ◌∷◌, ◌++◌, false}
use Rattle.std.specs.Prelude.{codes, encode_utf8_all}
use Rattle.std.specs.Char.{IsScalar, is_control}
use Rattle.std.specs.Str.{byte}
use Rattle.ratatui_events.specs.declared.event.Event.{Event}
use Rattle.ratatui_events.specs.declared.event.Event.TheVariants.{Key, PasteEnded}
use Rattle.ratatui_input.specs.declared.decoder.Decoder.{Decoder}
use Rattle.ratatui_input.specs.declared.decoder.State.{State}
use Rattle.ratatui_input.specs.declared.decoder.State.TheVariants.{Ground, Text, TextEscape}
use Rattle.ratatui_input.specs.Keys.{escape}
use Rattle.ratatui_input.specs.Decoding.{Told, decoded, settled}

-- a decoder that has read nothing
abbrev pub fresh_decoder : Decoder
fresh_decoder = record { state = Ground; is_pasting = false }

-- the bytes give these events, and nothing of them is left
pub record Gives (bytes : List ℕ) (events : List Event) : Type 0 where
  pub all : decoded fresh_decoder bytes ≡ (events, fresh_decoder)

-- a character of a text that is pasted: a tab, an end of a line, or one that is no control character
abbrev pub IsTextCharacter : ℕ → Type 0
IsTextCharacter c = (IsScalar c × (is_control c ≡ false)) ⊎ (c ≡ 9) ⊎ (c ≡ 10) ⊎ (c ≡ 13)

abbrev pub AreTextCharacters : List ℕ → Type 0
AreTextCharacters [] = Unit {0}
AreTextCharacters (c ∷ cs) = IsTextCharacter c × AreTextCharacters cs

-- a text in brackets, as a terminal sends what is pasted
abbrev pub in_brackets : List ℕ → List ℕ
in_brackets text =
    escape ∷ (codes "[200~" ++ (encode_utf8_all text ++ (escape ∷ codes "[201~")))

-- only digits
abbrev pub IsDigits : List ℕ → Type 0
IsDigits [] = Unit {0}
IsDigits (b ∷ bs) = (byte "0" ≤ b) × (b ≤ byte "9") × IsDigits bs

-- the number with further digits; none grows above 2 ^ 32 - 1
abbrev pub value_after : ℕ → List ℕ → ℕ
value_after n [] = n
value_after n (b ∷ bs) = value_after (min (n * 10 + (b - byte "0")) (2 ^ 32 - 1)) bs

-- an event that isn't a key
abbrev pub IsNoKey : Event → Type 0
IsNoKey (Key key) = ⊥
IsNoKey event = Unit {0}

abbrev pub AreNoKeys : List Event → Type 0
AreNoKeys [] = Unit {0}
AreNoKeys (event ∷ events) = IsNoKey event × AreNoKeys events

-- among events is the end of a paste
abbrev pub HaveEnd : List Event → Type 0
HaveEnd [] = ⊥
HaveEnd (PasteEnded ∷ events) = Unit {0}
HaveEnd (event ∷ events) = HaveEnd events

-- what has come is no string with text
abbrev pub IsNoText : State → Type 0
IsNoText (Text has_bell ticks) = ⊥
IsNoText state = Unit {0}

-- nor one after whose text ESC has come
abbrev pub IsNoString : State → Type 0
IsNoString (Text has_bell ticks) = ⊥
IsNoString TextEscape = ⊥
IsNoString state = Unit {0}

-- a byte that goes on with an ESC that ends a string: any but ESC, those that begin no character, and \, which
-- is the end of the string itself
abbrev pub FollowsEscape : ℕ → Type 0
FollowsEscape b = (b ≢ escape) × (b ≢ byte "\\") × ((b < 128) ⊎ ((194 ≤ b) × (b ≤ 244)))

-- what is told of bytes where nothing follows them
abbrev pub settled_after : List ℕ → Told
settled_after bytes = let told = decoded fresh_decoder bytes in settled told.1.state told.1
