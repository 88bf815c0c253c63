-- Laws of the decoder.
use Rattle.std.proofs.Common.{◌≡◌, ◌≢◌, ℕ, ◌+◌, ◌<◌, ◌≤◌, Bool, true, false, List, [], ◌∷◌, ◌++◌, Option, Some, None, length, refl, ap, sym}
use Rattle.std.proofs.Common.{◌∙◌, append_assoc, arith}
use Rattle.std.specs.Prelude.{◌==◌, if◌then◌else◌}
use Rattle.std.proofs.lemmas.Bool.Decides.{nat_tests}
use Rattle.ratatui_events.specs.declared.event.Event.{Event}
use Rattle.ratatui_events.specs.declared.event.Event.TheVariants.{Key, Unknown}
use Rattle.ratatui_events.specs.declared.key.KeyCode.TheVariants.{Esc}
use Rattle.ratatui_events.specs.Key.{pressed, held}
use Rattle.ratatui_input.specs.declared.decoder.Decoder.{Decoder}
use Rattle.ratatui_input.specs.declared.decoder.State.{State}
use Rattle.ratatui_input.specs.declared.decoder.State.TheVariants.{Ground, Escape, Single, Bracket, Function, Numbers, Click}
use Rattle.ratatui_input.specs.declared.decoder.State.TheVariants.{ClickButton, ClickColumn, Character, Opened, Text, TextEscape}
use Rattle.ratatui_input.specs.Decoding.{Next, Whole, More, Apart}
use Rattle.ratatui_input.specs.Keys.{with_alt, typed_key}
use Rattle.ratatui_input.specs.Sequences.{pushed}
use Rattle.ratatui_input.specs.Decoding.{Told, stepped, first, after_escape, after_bracket, in_sequence, after_single}
use Rattle.ratatui_input.specs.Decoding.{in_character, cut, read}
use Rattle.ratatui_input.specs.Decoding.{told_event, fresh, after_cut, byte_told, fed_next, decoded, next_told, escaped}
use Rattle.ratatui_input.specs.Decoding.{some_list, settled, settled_single}
use Rattle.ratatui_input.specs.Decoding.{begun_anew}
use Rattle.ratatui_input.specs.Encodings.{fresh_decoder, settled_after, IsNoText, IsNoString}

-- bytes in two pieces give what they give at once
pub decoded-append : (d : Decoder) (a b : List ℕ) → decoded d (a ++ b) ≡ next_told (decoded d a) b
unfolding decoded
decoded-append d [] b = refl
decoded-append d (x ∷ a) b =
    ap (λ (t : Told). ((byte_told d x).0 ++ t.0, t.1)) (decoded-append (byte_told d x).1 a b)
    ∙ ap (λ (es : List Event). (es, (decoded (decoded (byte_told d x).1 a).1 b).1))
    (sym (append_assoc (byte_told d x).0 (decoded (byte_told d x).1 a).0 (decoded (decoded (byte_told d x).1 a).1 b).0))

-- whatever has come, but text of a string, ESC begins anew
pub fed-escape : (state : State) (is_pasting : Bool) → IsNoText state
    → byte_told (record { state = state; is_pasting = is_pasting }) 27 ≡ escaped
    (cut state) is_pasting
unfolding byte_told stepped first after_escape after_bracket in_sequence after_single in_character cut
    pushed begun_anew
fed-escape Ground p h = refl
fed-escape Escape p h = refl
fed-escape (Single n) p h = refl
fed-escape Bracket p h = refl
fed-escape Function p h = refl
fed-escape (Numbers s) p h = refl
fed-escape Click p h = refl
fed-escape (ClickButton b) p h = refl
fed-escape (ClickColumn b c) p h = refl
fed-escape (Character q) p h = refl
fed-escape (Opened o) p h = refl
fed-escape (Text o n) p h = absurd h
fed-escape TextEscape p h = refl

-- outside a paste, what had come is told as it is
cut-plain : (state : State) → escaped (cut state) false ≡ (some_list (cut state), record { state = Escape; is_pasting = false })
unfolding cut read
cut-plain Ground = refl
cut-plain Escape = refl
cut-plain (Single n) =
    elim (n == 0) as (λ b. escaped (Some (if b then with_alt (typed_key 79) true else Unknown)) false
    ≡ (some_list (Some (if b then with_alt (typed_key 79) true else Unknown)), record { state = Escape; is_pasting = false }))
    [ true ↦ refl | false ↦ refl ]
cut-plain Bracket = refl
cut-plain Function = refl
cut-plain (Numbers s) = refl
cut-plain Click = refl
cut-plain (ClickButton b) = refl
cut-plain (ClickColumn b c) = refl
cut-plain (Character q) = refl
cut-plain (Opened o) = refl
cut-plain (Text o n) = refl
cut-plain TextEscape = refl

-- from ESC on all is read as if nothing had come
pub anew-from-escape : (state : State) (rest : List ℕ) → IsNoText state → decoded (record { state = state; is_pasting = false }) (27 ∷ rest)
    ≡ (some_list (cut state) ++ (decoded fresh_decoder (27 ∷ rest)).0, (decoded fresh_decoder (27 ∷ rest)).1)
unfolding decoded byte_told stepped first
anew-from-escape state rest quiet = ap (λ (t : Told). let r = decoded t.1 rest in (t.0 ++ r.0, r.1)) (fed-escape state false quiet
    ∙ cut-plain state)

-- ---- at most two events

fresh-one : (next : Next) (p : Bool) → length (fresh next p).0 ≤ 1
fresh-one (Whole event) p = omega arith
fresh-one (More state) p = omega arith
fresh-one Apart p = omega arith

after_cut-two : (what : Option Event) (next : Next) (p : Bool) → length (after_cut what next p).0 ≤ 2
after_cut-two None next p = let h = fresh-one next p in omega (arith, h)
after_cut-two (Some event) next p = let h = fresh-one next (read p event).1 in omega (arith, h)

next-two : (next : Next) (state : State) (b : ℕ) (p : Bool) → length (fed_next next state b p).0 ≤ 2
next-two (Whole event) state b p = omega arith
next-two (More further) state b p = omega arith
next-two Apart state b p = after_cut-two (cut state) (begun_anew state b) p

pub fed-two : (d : Decoder) (b : ℕ) → length (byte_told d b).0 ≤ 2
unfolding byte_told
fed-two d b = next-two (stepped d.state b) d.state b d.is_pasting

-- ---- settling

other-number : (n : ℕ) → n ≢ 0 → (n == 0) ≡ false
other-number n h = grind (arith, nat_tests)

single-others : (n : ℕ) (p : Bool) → (Single n ≡ Single 0 → ⊥)
    → settled_single n (record { state = Single n; is_pasting = p }) ≡ ([], record { state = Single n; is_pasting = p })
single-others n p z =
    ap (λ (b : Bool). if b then told_event (with_alt (typed_key 79) true) Ground p else (
      [],
      record {
        state = Single n;
        is_pasting = p;
      },
    ))
    (other-number n (λ e. z (ap Single e)))

pub settled-others : (state : State) (p : Bool) → (state ≡ Escape → ⊥) → (state ≡ Bracket → ⊥) → (state ≡ Single 0 → ⊥)
    → ((b : ℕ) → state ≡ Opened b → ⊥) → IsNoString state
    → settled state (record { state = state; is_pasting = p }) ≡ ([], record { state = state; is_pasting = p })
unfolding settled
settled-others Ground p x y z o quiet = refl
settled-others Escape p x y z o quiet = absurd (x refl)
settled-others (Single n) p x y z o quiet = single-others n p z
settled-others Bracket p x y z o quiet = absurd (y refl)
settled-others Function p x y z o quiet = refl
settled-others (Numbers s) p x y z o quiet = refl
settled-others Click p x y z o quiet = refl
settled-others (ClickButton b) p x y z o quiet = refl
settled-others (ClickColumn b c) p x y z o quiet = refl
settled-others (Character q) p x y z o quiet = refl
settled-others (Opened b) p x y z o quiet = absurd (o b refl)
settled-others (Text b n) p x y z o quiet = absurd quiet
settled-others TextEscape p x y z o quiet = absurd quiet

pub settled-waits : (b : Bool) (n : ℕ) (p : Bool) → n < 9
    → settled (Text b n) (record { state = Text b n; is_pasting = p }) ≡ ([], record { state = Text b (n + 1); is_pasting = p })
unfolding settled
settled-waits b n p h = grind (arith, nat_tests)

pub settled-over : (b : Bool) (n : ℕ) (p : Bool) → 9 ≤ n
    → settled (Text b n) (record { state = Text b n; is_pasting = p }) ≡ told_event Unknown Ground p
unfolding settled
settled-over b n p h = grind (arith, nat_tests)

pub settled-ended : (p : Bool)
    → settled TextEscape (record { state = TextEscape; is_pasting = p }) ≡ told_event Unknown Escape p
unfolding settled
settled-ended p = refl

pub settled-escape : settled_after (27 ∷ []) ≡ (Key (pressed Esc (held 0)) ∷ [], fresh_decoder)
unfolding decoded byte_told stepped first settled read
settled-escape = refl

pub settled-bracket : settled_after (27 ∷ 91 ∷ []) ≡ (with_alt (typed_key 91) true ∷ [], fresh_decoder)
unfolding decoded byte_told stepped first after_escape settled read
settled-bracket = refl

pub settled-single : settled_after (27 ∷ 79 ∷ []) ≡ (with_alt (typed_key 79) true ∷ [], fresh_decoder)
unfolding decoded byte_told stepped first after_escape settled read
settled-single = refl
