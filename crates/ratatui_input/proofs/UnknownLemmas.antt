-- Bytes that are told as unknown stand for nothing.
use Rattle.std.proofs.Common.{◌≡◌, ◌≢◌, ℕ, Bool, true, false, List, [], ◌∷◌, refl, ap, sym, ◌∙◌}
use Rattle.ratatui_events.specs.declared.event.Event.{Event}
use Rattle.ratatui_events.specs.declared.event.Event.TheVariants.{FocusGained, FocusLost, Key, Mouse, PasteBegun, PasteEnded}
use Rattle.ratatui_events.specs.declared.event.Event.TheVariants.{Pasted, Size, Position, Unknown}
use Rattle.ratatui_input.specs.declared.decoder.State.TheVariants.{Ground}
use Rattle.ratatui_input.specs.Encodings.{fresh_decoder}
use Rattle.ratatui_input.specs.Grammar.{Encodes, character, control, alt_character, alt_control, by_letter, by_letter_held}
use Rattle.ratatui_input.specs.Grammar.{by_single, single_enter, by_console, by_tilde, by_tilde_held, by_code, by_code_held}
use Rattle.ratatui_input.specs.Grammar.{by_codes, by_shifted, by_text, by_other, by_numbers_down, by_numbers_up, by_bytes, by_plain_numbers}
use Rattle.ratatui_input.specs.Grammar.{focus_gained, focus_lost, size, position}
use Rattle.ratatui_input.specs.Decoding.{Told, decoded, read, told_event}
use Rattle.ratatui_input.specs.Pieces.{IsNothing, Tolerates, any_letter, any_tilde, any_code, any_text, any_other, any_begun, any_ended}
use Rattle.ratatui_input.specs.Pieces.{any_size, any_position, any_plain_mouse, any_down, any_up, any_gained, any_lost}
use Rattle.std.proofs.Common.{Option, Some, None, ◌-◌, ◌%◌}
use Rattle.std.specs.Prelude.{if◌then◌else◌, ◌==◌}
use Rattle.ratatui_events.specs.declared.key.KeyCode.{KeyCode}
use Rattle.ratatui_events.specs.declared.key.KeyCode.TheVariants.{Char}
use Rattle.ratatui_events.specs.declared.key.KeyEvent.{KeyEvent}
use Rattle.ratatui_events.specs.declared.key.KeyEventKind.{KeyEventKind}
use Rattle.ratatui_input.specs.Sequences.{kind_of}
use Rattle.ratatui_input.specs.Grammar.{typed_told, told_character}
use Rattle.ratatui_input.proofs.StepLemmas.{at}
use Rattle.ratatui_input.proofs.GrammarLemmas.{encodes-read}
use Rattle.ratatui_input.proofs.ToleratedLemmas.{tolerated-read}

either-known : (b : Bool) (x y : KeyEvent) → (if b then Key x else Key y) ≢ Unknown
either-known true x y is = cc
either-known false x y is = cc

typed-known : (told : Option ℕ) (code : KeyCode) (is_keypad : Bool) (m : ℕ) (kind : KeyEventKind)
    → typed_told told code is_keypad m kind ≢ Unknown
typed-known (Some c) (Char d) is_keypad m kind is = either-known ((m - 1) % 2 == 1) _ _ is
typed-known (Some c) code is_keypad m kind is = cc
typed-known None code is_keypad m kind is = cc

encoded-known : {bytes : List ℕ} {event : Event} → Encodes bytes event → event ≢ Unknown
encoded-known (character c scalar plain) is = cc
encoded-known (control b low other) is = cc
encoded-known (alt_character c scalar plain x) is = cc
encoded-known (alt_control b low other) is = cc
encoded-known (by_letter letter w small) is = cc
encoded-known (by_letter_held letter w h small) is = cc
encoded-known (by_single letter w small) is = cc
encoded-known (single_enter w small) is = cc
encoded-known (by_console b low high) is = cc
encoded-known (by_tilde tilde w) is = cc
encoded-known (by_tilde_held tilde w h small) is = cc
encoded-known (by_code code w) is = cc
encoded-known (by_code_held code w h small) is = cc
encoded-known (by_codes {m = m} {t = t} {code = code} {is_keypad = is_keypad} {kind = kind} codes c w more h small told) is =
    typed-known (told_character t) code is_keypad m kind is
encoded-known (by_shifted {m = m} {t = t} {code = code} {is_keypad = is_keypad} {kind = kind} c w told h small) is =
    typed-known (told_character t) code is_keypad m kind is
encoded-known (by_text w h small u scalar plain) is = cc
encoded-known (by_other code w v small u) is = cc
encoded-known (by_numbers_down w v u a b c e) is = cc
encoded-known (by_numbers_up w v u a b c e) is = cc
encoded-known (by_bytes n x y a b c e) is = cc
encoded-known (by_plain_numbers w v u a b c e) is = cc
encoded-known focus_gained is = cc
encoded-known focus_lost is = cc
encoded-known (size w n v a u b) is = cc
encoded-known (position w n a v b) is = cc

tolerated-known : {bytes : List ℕ} {event : Event} → Tolerates bytes event → event ≢ Unknown
tolerated-known (any_letter a b c d) is = cc
tolerated-known (any_tilde a b c) is = cc
tolerated-known (any_code {m = m} {t = t} {k = k} {code = code} {is_keypad = is_keypad} a b c) is =
    typed-known (told_character t) code is_keypad m (kind_of k) is
tolerated-known (any_text a b c d) is = cc
tolerated-known (any_other a b c d) is = cc
tolerated-known (any_begun a) is = cc
tolerated-known (any_ended a) is = cc
tolerated-known (any_size a b c d e) is = cc
tolerated-known (any_position a b c d) is = cc
tolerated-known (any_plain_mouse a b c d e f) is = cc
tolerated-known (any_down a b c d e) is = cc
tolerated-known (any_up a b c d e) is = cc
tolerated-known (any_gained a) is = cc
tolerated-known (any_lost a) is = cc

-- an event that is unknown both within a paste and outside one
quiet : (event : Event) → (read false event).0 ≡ Unknown → (read true event).0 ≡ Unknown → event ≡ Unknown
unfolding read
quiet (Key key) h k = cc
quiet (Mouse m) h k = cc
quiet FocusGained h k = cc
quiet FocusLost h k = cc
quiet PasteBegun h k = cc
quiet (Pasted c) h k = cc
quiet PasteEnded h k = cc
quiet (Size x y) h k = cc
quiet (Position x y) h k = cc
quiet Unknown h k = refl

abbrev first_of : List Event → Event
first_of [] = PasteEnded
first_of (e ∷ es) = e

-- bytes that are told as unknown when the last has come
pub nothing-whole : (bytes : List ℕ) → bytes ≢ [] → ((q : Bool) → decoded (at q Ground) bytes ≡ told_event Unknown Ground q)
    → IsNothing bytes
unfolding read
nothing-whole bytes some h = record {
  some = some;
  not_encoded = λ event e. encoded-known e (sym (ap (λ (t : Told). first_of t.0) (sym (h false) ∙ (encodes-read e).all)));
  not_tolerated = λ event e. tolerated-known e
      (quiet event (sym (ap (λ (t : Told). first_of t.0) (sym (h false) ∙ tolerated-read e false)))
      (sym (ap (λ (t : Told). first_of t.0) (sym (h true) ∙ tolerated-read e true))));
}

-- bytes that tell nothing by themselves
pub nothing-cut : (bytes : List ℕ) → bytes ≢ [] → (decoded fresh_decoder bytes).0 ≡ [] → IsNothing bytes
nothing-cut bytes some h = record {
  some = some;
  not_encoded = λ event e. let x = sym h ∙ ap (λ (t : Told). t.0) (encodes-read e).all in cc;
  not_tolerated = λ event e. let x = sym h ∙ ap (λ (t : Told). t.0) (tolerated-read e false) in cc;
}
