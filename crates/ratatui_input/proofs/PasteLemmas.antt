-- What is pasted is told as it is, and is no key.
use Rattle.std.proofs.Common.{◌≡◌, ◌⊎◌, inl, inr, ℕ, Bool, true, false, List, [], ◌∷◌, ◌++◌, Option, Some, None, refl, ap, sym}
use Rattle.std.proofs.Common.{◌∙◌, subst, map}
use lib.Utf8.{encode, encodes}
use Rattle.std.specs.Prelude.{◌==◌, nat_lt, nat_le, ◌&&◌, if◌then◌else◌}
use Rattle.std.specs.Char.Unicode.Uppercase.{is_uppercase}
use Rattle.ratatui_events.specs.declared.event.Event.{Event}
use Rattle.ratatui_events.specs.declared.event.Event.TheVariants.{FocusGained, FocusLost, Key, Mouse, PasteBegun, PasteEnded}
use Rattle.ratatui_events.specs.declared.event.Event.TheVariants.{Pasted, Size, Position, Unknown}
use Rattle.ratatui_events.specs.declared.key.KeyCode.{KeyCode}
use Rattle.ratatui_events.specs.declared.key.KeyCode.TheVariants.{Char, Enter, Tab, Esc}
use Rattle.ratatui_events.specs.Key.{pressed, held}
use Rattle.ratatui_input.specs.declared.decoder.Decoder.{Decoder}
use Rattle.ratatui_input.specs.declared.decoder.State.{State}
use Rattle.ratatui_input.specs.declared.decoder.State.TheVariants.{Ground, Escape, Single, Bracket, Function, Numbers, Click}
use Rattle.ratatui_input.specs.declared.decoder.State.TheVariants.{ClickButton, ClickColumn, Character, Opened, Text, TextEscape}
use Rattle.ratatui_input.specs.Decoding.{Next, Whole, More, Apart}
use Rattle.ratatui_input.specs.Keys.{control_key, typed_key, with_alt}
use Rattle.ratatui_input.specs.Sequences.{sequence_event, keys_event, tilde_event, pushed, digit_pushed}
use Rattle.ratatui_input.specs.Decoding.{Told, stepped, first, after_escape, after_bracket, in_sequence, cut, read, fresh}
use Rattle.ratatui_input.specs.Decoding.{begun_anew}
use Rattle.ratatui_input.specs.Decoding.{after_cut, byte_told, fed_next, decoded, next_told, pasted_code, settled, told_event}
use Rattle.ratatui_input.specs.Encodings.{fresh_decoder, in_brackets, IsNoKey, AreNoKeys, HaveEnd}
use Rattle.ratatui_input.specs.Encodings.{IsTextCharacter, AreTextCharacters}
use Rattle.ratatui_input.proofs.DecodingLemmas.{decoded-append}
use Rattle.ratatui_input.proofs.StepLemmas.{at}
use Rattle.ratatui_input.proofs.CharacterLemmas.{character-read, ground-begins, ground-first}

-- a decoder within a paste
abbrev inside : Decoder
inside = at true Ground

abbrev opening : List ℕ
opening = 27 ∷ 91 ∷ 50 ∷ 48 ∷ 48 ∷ 126 ∷ []

abbrev closing : List ℕ
closing = 27 ∷ 91 ∷ 50 ∷ 48 ∷ 49 ∷ 126 ∷ []

opened : decoded fresh_decoder opening ≡ (PasteBegun ∷ [], inside)
unfolding decoded byte_told stepped first after_escape after_bracket in_sequence read sequence_event keys_event tilde_event pushed
    digit_pushed
opened = refl

closed : decoded inside closing ≡ (PasteEnded ∷ [], fresh_decoder)
unfolding decoded byte_told stepped first after_escape after_bracket in_sequence read sequence_event keys_event tilde_event pushed
    digit_pushed
closed = refl

small : (u : Bool) (c : ℕ) → pasted_code (Char c) (if u then 1 else 0) ≡ Pasted c
small true c = refl
small false c = refl

tab-pasted : decoded inside (encode 9) ≡ (Pasted 9 ∷ [], inside)
unfolding decoded byte_told stepped first control_key read encode
tab-pasted = refl

line-pasted : decoded inside (encode 10) ≡ (Pasted 10 ∷ [], inside)
unfolding decoded byte_told stepped first control_key read encode
line-pasted = refl

return-pasted : decoded inside (encode 13) ≡ (Pasted 13 ∷ [], inside)
unfolding decoded byte_told stepped first control_key read encode
return-pasted = refl

one-pasted : (c : ℕ) → IsTextCharacter c → decoded inside (encode c) ≡ (Pasted c ∷ [], inside)
unfolding read
one-pasted c (inl h) =
    character-read true Ground false c ground-begins (ground-first c) h.0 h.1
    ∙ ap (λ (e : Event). let t : Told = (e ∷ [], inside) in t) (small (is_uppercase c) c)
one-pasted c (inr (inl e)) = subst (λ (x : ℕ). decoded inside (encode x) ≡ (Pasted x ∷ [], inside)) (sym e) tab-pasted
one-pasted c (inr (inr (inl e))) = subst (λ (x : ℕ). decoded inside (encode x) ≡ (Pasted x ∷ [], inside)) (sym e) line-pasted
one-pasted c (inr (inr (inr e))) = subst (λ (x : ℕ). decoded inside (encode x) ≡ (Pasted x ∷ [], inside)) (sym e) return-pasted

text-pasted : (text : List ℕ) → AreTextCharacters text → decoded inside (encodes text) ≡ (map Pasted text, inside)
unfolding decoded
text-pasted [] h = refl
text-pasted (c ∷ text) h =
    decoded-append inside (encode c) (encodes text) ∙ ap (λ (t : Told). next_told t (encodes text)) (one-pasted c h.0)
    ∙ ap (λ (t : Told). (Pasted c ∷ t.0, t.1)) (text-pasted text h.1)

pub pasted-whole : (text : List ℕ) → AreTextCharacters text
    → decoded fresh_decoder (in_brackets text) ≡ (PasteBegun ∷ (map Pasted text ++ (PasteEnded ∷ [])), fresh_decoder)
pasted-whole text h =
    decoded-append fresh_decoder opening (encodes text ++ closing)
    ∙ ap (λ (t : Told). next_told t (encodes text ++ closing)) opened
    ∙ ap (λ (t : Told). (PasteBegun ∷ t.0, t.1)) (decoded-append inside (encodes text) closing
    ∙ ap (λ (t : Told). next_told t closing) (text-pasted text h) ∙ ap (λ (t : Told). (map Pasted text ++ t.0, t.1)) closed)

-- ---- within a paste no event is a key

either : (b : Bool) (x y : Event) → IsNoKey x → IsNoKey y → IsNoKey (if b then x else y)
either true x y h k = h
either false x y h k = k

code-no_key : (code : KeyCode) (bits : ℕ) → IsNoKey (pasted_code code bits)
code-no_key (Char c) bits =
    either (nat_le bits 1) (Pasted c) (if (c == 106) && (bits == 4) then Pasted 10 else Unknown) tt
    (either ((c == 106) && (bits == 4)) (Pasted 10) Unknown tt tt)
code-no_key Enter bits = either (bits == 0) (Pasted 13) Unknown tt tt
code-no_key Tab bits = either (bits == 0) (Pasted 9) Unknown tt tt
code-no_key _ bits = tt

read-no_key : (event : Event) → IsNoKey (read true event).0
unfolding read
read-no_key (Key key) = code-no_key key.code key.modifiers.0
read-no_key FocusGained = tt
read-no_key FocusLost = tt
read-no_key (Mouse mouse) = tt
read-no_key PasteBegun = tt
read-no_key (Pasted c) = tt
read-no_key PasteEnded = tt
read-no_key (Size x y) = tt
read-no_key (Position x y) = tt
read-no_key Unknown = tt

fresh-no_keys : (next : Next) → AreNoKeys (fresh next true).0
fresh-no_keys (Whole event) = (read-no_key event, tt)
fresh-no_keys (More state) = tt
fresh-no_keys Apart = tt

-- what is told of bytes that aren't whole doesn't end a paste
abbrev KeepsPaste : Option Event → Type 0
KeepsPaste None = Unit {0}
KeepsPaste (Some event) = (read true event).1 ≡ true

single-keeps : (b : Bool) → (read true (if b then with_alt (typed_key 79) true else Unknown)).1 ≡ true
unfolding read
single-keeps true = refl
single-keeps false = refl

cut-keeps : (state : State) → KeepsPaste (cut state)
unfolding cut read
cut-keeps Ground = tt
cut-keeps Escape = refl
cut-keeps (Single n) = single-keeps (n == 0)
cut-keeps Bracket = refl
cut-keeps Function = refl
cut-keeps (Numbers s) = refl
cut-keeps Click = refl
cut-keeps (ClickButton b) = refl
cut-keeps (ClickColumn b c) = refl
cut-keeps (Character q) = refl
cut-keeps (Opened o) = refl
cut-keeps (Text o n) = refl
cut-keeps TextEscape = refl

after_cut-no_keys : (what : Option Event) (next : Next) → KeepsPaste what → AreNoKeys (after_cut what next true).0
after_cut-no_keys None next h = fresh-no_keys next
after_cut-no_keys (Some event) next h =
    (read-no_key event, subst (λ (p : Bool). AreNoKeys (fresh next p).0) (sym h) (fresh-no_keys next))

next-no_keys : (next : Next) (state : State) (b : ℕ) → AreNoKeys (fed_next next state b true).0
next-no_keys (Whole event) state b = (read-no_key event, tt)
next-no_keys (More further) state b = tt
next-no_keys Apart state b = after_cut-no_keys (cut state) (begun_anew state b) (cut-keeps state)

pub fed-no_keys : (state : State) (b : ℕ) → AreNoKeys (byte_told (at true state) b).0
unfolding byte_told
fed-no_keys state b = next-no_keys (stepped state b) state b

-- ---- a paste goes on until its end is told

read-goes_on : (event : Event) → ((read true event).1 ≡ true) ⊎ ((read true event).0 ≡ PasteEnded)
unfolding read
read-goes_on (Key key) = inl refl
read-goes_on FocusGained = inl refl
read-goes_on FocusLost = inl refl
read-goes_on (Mouse mouse) = inl refl
read-goes_on PasteBegun = inl refl
read-goes_on (Pasted c) = inl refl
read-goes_on PasteEnded = inr refl
read-goes_on (Size x y) = inl refl
read-goes_on (Position x y) = inl refl
read-goes_on Unknown = inl refl

abbrev GoesOn : Told → Type 0
GoesOn told = (told.1.is_pasting ≡ true) ⊎ HaveEnd told.0

fresh-goes_on : (next : Next) → GoesOn (fresh next true)
fresh-goes_on (Whole event) = elim (read-goes_on event) [
  | inl h ↦ inl h
  | inr e ↦ inr (subst (λ (x : Event). HaveEnd (x ∷ [])) (sym e) tt)
]
fresh-goes_on (More state) = inl refl
fresh-goes_on Apart = inl refl

later : (event : Event) (events : List Event) → HaveEnd events → HaveEnd (event ∷ events)
later PasteEnded events h = tt
later event events h = h

after_cut-goes_on : (what : Option Event) (next : Next) → KeepsPaste what → GoesOn (after_cut what next true)
after_cut-goes_on None next h = fresh-goes_on next
after_cut-goes_on (Some event) next h =
    subst (λ (p : Bool). GoesOn (let told = fresh next p in ((read true event).0 ∷ told.0, told.1))) (sym h)
    (elim (fresh-goes_on next) [
      | inl k ↦ inl k
      | inr k ↦ inr (later (read true event).0 (fresh next true).0 k)
    ])

next-goes_on : (next : Next) (state : State) (b : ℕ) → GoesOn (fed_next next state b true)
next-goes_on (Whole event) state b = fresh-goes_on (Whole event)
next-goes_on (More further) state b = inl refl
next-goes_on Apart state b = after_cut-goes_on (cut state) (begun_anew state b) (cut-keeps state)

pub fed-goes_on : (state : State) (b : ℕ) → GoesOn (byte_told (at true state) b)
unfolding byte_told
fed-goes_on state b = next-goes_on (stepped state b) state b

-- ---- settling within a paste

single-no_keys : (b : Bool) (d : Decoder)
    → AreNoKeys (let t : Told = if b then told_event (with_alt (typed_key 79) true) Ground true else ([], d) in t).0
single-no_keys true d = (read-no_key (with_alt (typed_key 79) true), tt)
single-no_keys false d = tt

text-no_keys : (b : Bool) (x y : Told) → AreNoKeys x.0 → AreNoKeys y.0 → AreNoKeys (let t : Told = if b then x else y in t).0
text-no_keys true x y h k = h
text-no_keys false x y h k = k

pub settled-no_keys : (state : State) → AreNoKeys (settled state (at true state)).0
unfolding settled
settled-no_keys Ground = tt
settled-no_keys Escape = (read-no_key (Key (pressed Esc (held 0))), tt)
settled-no_keys (Single n) = single-no_keys (n == 0) (at true (Single n))
settled-no_keys Bracket = (read-no_key (with_alt (typed_key 91) true), tt)
settled-no_keys Function = tt
settled-no_keys (Numbers s) = tt
settled-no_keys Click = tt
settled-no_keys (ClickButton b) = tt
settled-no_keys (ClickColumn b c) = tt
settled-no_keys (Character q) = tt
settled-no_keys (Opened o) = (read-no_key (with_alt (typed_key o) true), tt)
settled-no_keys (Text o n) = text-no_keys (nat_lt n 9) _ _ tt (read-no_key Unknown, tt)
settled-no_keys TextEscape = (read-no_key Unknown, tt)
