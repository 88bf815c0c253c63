-- Each encoding is read as its event.
use Rattle.std.proofs.Common.{◌≡◌, ◌≢◌, ◌⊎◌, inl, inr, ℕ, ◌+◌, ◌-◌, ◌*◌, min, ◌<◌, ◌≤◌, ◌^◌, Bool, true, false, List, [], ◌∷◌}
use Rattle.std.proofs.Common.{◌%◌, ◌++◌, Option, Some, None, refl, ap, ◌∙◌, subst, append_assoc, arith}
use Rattle.std.specs.Prelude.{nat_lt, if◌then◌else◌}
use Rattle.std.proofs.lemmas.Bool.{cases_eq}
use Rattle.std.proofs.lemmas.Grind.{common_steps}
use Rattle.std.proofs.lemmas.Bool.Decides.{nat_tests}
use Rattle.ratatui_events.specs.declared.event.Event.{Event}
use Rattle.ratatui_events.specs.declared.event.Event.TheVariants.{Key, Mouse, FocusGained, FocusLost, Size, Position}
use Rattle.ratatui_events.specs.declared.key.KeyCode.{KeyCode}
use Rattle.ratatui_events.specs.declared.key.KeyCode.TheVariants.{F, Enter}
use Rattle.ratatui_events.specs.declared.key.KeyEvent.{KeyEvent}
use Rattle.ratatui_events.specs.declared.key.KeyEventKind.{KeyEventKind}
use Rattle.ratatui_events.specs.declared.key.KeyEventKind.TheVariants.{Press}
use Rattle.ratatui_events.specs.declared.mouse.MouseEventKind.{MouseEventKind}
use Rattle.ratatui_events.specs.declared.mouse.MouseEvent.{MouseEvent}
use Rattle.ratatui_events.specs.Key.{pressed, held}
use Rattle.ratatui_input.specs.declared.decoder.State.{State}
use Rattle.ratatui_input.specs.declared.decoder.State.TheVariants.{Bracket, Function, Single, Click, ClickButton, ClickColumn}
use Rattle.ratatui_input.specs.declared.decoder.State.TheVariants.{Numbers}
use Rattle.ratatui_input.specs.Decoding.{Whole, More}
use Rattle.ratatui_input.specs.declared.sequence.Source.TheVariants.{Keys, Mouse as FromMouse}
use Rattle.ratatui_input.specs.Keys.{key_at, code_key, tab_key}
use Rattle.ratatui_input.specs.Mouse.{mouse_kind, mouse_event, kind_told}
use Rattle.ratatui_input.specs.Sequences.{sequence_event, keys_event, pointer_event, tilde_event, code_event, code_key_event}
use Rattle.ratatui_input.specs.Sequences.{pushed, digit_pushed, size_event, position_event, letter_event, single_event, key_event}
use Rattle.ratatui_input.specs.Sequences.{kind_of}
use Rattle.ratatui_input.specs.Decoding.{Told, stepped, first, after_escape, after_bracket, in_sequence, after_single}
use Rattle.ratatui_input.specs.Decoding.{cut, read, byte_told, decoded, some_list}
use Rattle.ratatui_input.specs.Encodings.{fresh_decoder, Gives, IsNoText}
use Rattle.ratatui_input.specs.KeyTables.{IsLetter, IsTilde, IsCode}
use Rattle.ratatui_input.specs.Grammar.{Encodes, WritesNumber, Held, AreCodes, held_down, held_told, csi, two_numbers}
use Rattle.ratatui_input.specs.Grammar.{three_numbers, key_told, letter_told, code_told, mouse_told}
use Rattle.ratatui_input.specs.Grammar.{character, control, alt_character, alt_control, by_letter, by_letter_held, by_single}
use Rattle.ratatui_input.specs.Grammar.{single_enter, by_console}
use Rattle.ratatui_input.specs.Grammar.{by_tilde, by_tilde_held, by_code, by_code_held, by_codes, by_shifted, by_text, by_other, by_numbers_down}
use Rattle.ratatui_input.specs.Grammar.{by_numbers_up, by_bytes, by_plain_numbers}
use Rattle.ratatui_input.specs.Grammar.{focus_gained, focus_lost, size, position}
use lib.Utf8.{scalar_cases}
use Rattle.std.specs.Prelude.{◌==◌}
use Rattle.std.specs.Char.{IsScalar, is_control}
use Rattle.ratatui_events.specs.declared.key.KeyCode.TheVariants.{Char}
use Rattle.ratatui_input.specs.Keys.{keypad_key, name_key}
use Rattle.ratatui_input.specs.Sequences.{told_code_event, text_event, typed_mask}
use Rattle.ratatui_input.specs.Grammar.{ToldFirst, told_alone, told_with_codes, typed_told, told_character}
use Rattle.ratatui_input.proofs.ToldLemmas.{told-is, typed-is, beside-some}
use Rattle.ratatui_input.proofs.DecodingLemmas.{anew-from-escape}
use Rattle.ratatui_input.proofs.EncodingLemmas.{gives-before, gives-append}
use Rattle.ratatui_input.proofs.TableLemmas.{seq, EndsSequence, letter-alone, letter-held, letter-single, letter-ends, letter-is}
use Rattle.ratatui_input.proofs.TableLemmas.{tilde-told, tilde-small, code-told, code-small, key-is}
use Rattle.ratatui_input.proofs.StepLemmas.{at, Leads, leads-none, leads-one, leads-cons, leads-append, IsPlain, ends-plain}
use Rattle.ratatui_input.proofs.StepLemmas.{csi-alone, csi-gives, single-read, bracket-two, bracket-colon, number-read}
use Rattle.ratatui_input.proofs.StepLemmas.{bracket-three, mouse-three, kind-read, digit_of}
use Rattle.ratatui_input.proofs.CharacterLemmas.{character-gives, alt-character-gives, control-gives, alt-control-gives}

key-plain : (key : KeyEvent) → IsPlain (Key key)
unfolding read
key-plain key = record { told = refl }

either-plain : (b : Bool) (x y : KeyEvent) → IsPlain (if b then Key x else Key y)
either-plain true x y = key-plain x
either-plain false x y = key-plain y

mouse-plain : (mouse : MouseEvent) → IsPlain (Mouse mouse)
unfolding read
mouse-plain mouse = record { told = refl }

gained-plain : IsPlain FocusGained
unfolding read
gained-plain = record { told = refl }

lost-plain : IsPlain FocusLost
unfolding read
lost-plain = record { told = refl }

size-plain : (x y : ℕ) → IsPlain (Size x y)
unfolding read
size-plain x y = record { told = refl }

position-plain : (x y : ℕ) → IsPlain (Position x y)
unfolding read
position-plain x y = record { told = refl }

less : (n : ℕ) → n ≤ 65535 → n < 2 ^ 32
less n h = omega arith

-- ---- keys

-- a first number, and what is held
record HeldRead (body : List ℕ) (n m : ℕ) (kind : KeyEventKind) : Type 0 where
  parts : ℕ
  number : ℕ
  leads : Leads Bracket body (Numbers (seq Keys 1 parts n m 0 number))
  is : kind_of number ≡ kind

held-read : {ds tail : List ℕ} {n m : ℕ} {kind : KeyEventKind} → WritesNumber ds n → n < 2 ^ 32 → Held tail m kind → m ≤ 256
    → HeldRead (ds ++ tail) n m kind
held-read {ds = ds} {n = n} {m = m} w small (held_down {es = es} v) low =
    record { parts = 0; number = 0; leads = bracket-two ds es n m w small v (omega arith); is = refl }
held-read {ds = ds} {n = n} {m = m} w small (held_told {es = es} {ks = ks} {k = k} v u tiny) low = record {
  parts = 1;
  number = k;
  leads = subst (λ (bs : List ℕ). Leads Bracket bs (Numbers (seq Keys 1 1 n m 0 k))) (append_assoc ds (59 ∷ es) (58 ∷ ks))
      (leads-append Bracket (Numbers (seq Keys 1 0 n m 0 0)) (Numbers (seq Keys 1 1 n m 0 k)) (ds ++ (59 ∷ es)) (58 ∷ ks)
      (bracket-two ds es n m w small v (omega arith)) (kind-read n m ks k u (omega arith)));
  is = refl;
}

letter-read : {b n : ℕ} {code : KeyCode} {ds : List ℕ} → IsLetter b code → WritesNumber ds n → n ≤ 256
    → Gives (csi ds b) (letter_told code n Press ∷ [])
letter-read {b = b} {n = n} {code = code} {ds = ds} letter w small =
    csi-alone ds n b (letter_told code n Press) w (omega arith) (letter-ends letter) (letter-alone letter n
    ∙ letter-is letter 0 n small) (key-plain _)

letter-held-read : {b m : ℕ} {code : KeyCode} {ds tail : List ℕ} {kind : KeyEventKind} → IsLetter b code → WritesNumber ds 1
    → Held tail m kind → m ≤ 256
    → Gives (csi (ds ++ tail) b) (letter_told code m kind ∷ [])
letter-held-read {b = b} {m = m} {code = code} {ds = ds} {tail = tail} {kind = kind} letter w h small =
    let r = held-read w (omega arith) h small in
    let ending = letter-ends letter in
    csi-gives (ds ++ tail) (seq Keys 1 r.parts 1 m 0 r.number) b (letter_told code m kind) r.leads ending.low ending.high
    (letter-held letter r.parts m r.number ∙ letter-is letter r.number m small ∙ ap (letter_told code m) r.is) (key-plain _)

single-reached : (rest : List ℕ) → decoded fresh_decoder (27 ∷ 79 ∷ rest) ≡ decoded (at false (Single 0)) rest
unfolding decoded byte_told stepped first after_escape
single-reached rest = refl

single-last : (n b : ℕ) → 64 ≤ b → b ≤ 126 → stepped (Single n) b ≡ Whole (single_event n b)
unfolding stepped after_single
single-last n b low high = grind (arith, common_steps)

single-gives : (ds : List ℕ) (n b : ℕ) (event : Event) → WritesNumber ds n → n < 2 ^ 32 → 64 ≤ b → b ≤ 126
    → single_event n b ≡ event → IsPlain event
    → Gives (27 ∷ 79 ∷ (ds ++ (b ∷ []))) (event ∷ [])
single-gives ds n b event w small low high e plain = record {
  all = single-reached (ds ++ (b ∷ [])) ∙ Leads.to (single-read ds n w small) false (b ∷ [])
      ∙ ends-plain (Single n) b event (single-last n b low high ∙ ap Whole e) plain;
}

single-read-letter : {b n : ℕ} {code : KeyCode} {ds : List ℕ} → IsLetter b code → WritesNumber ds n → n ≤ 256
    → Gives (27 ∷ 79 ∷ (ds ++ (b ∷ []))) (letter_told code n Press ∷ [])
single-read-letter {b = b} {n = n} {code = code} {ds = ds} letter w small =
    let ending = letter-ends letter in
    single-gives ds n b (letter_told code n Press) w (omega arith) ending.low ending.high (letter-single letter n
    ∙ letter-is letter 0 n small) (key-plain _)

enter-told : (n : ℕ) → single_event n 77 ≡ key_event 0 Enter false n
unfolding single_event letter_event key_at
enter-told n = refl

single-read-enter : {n : ℕ} {ds : List ℕ} → WritesNumber ds n → n ≤ 256
    → Gives (27 ∷ 79 ∷ (ds ++ (77 ∷ []))) (key_told Enter false n Press ∷ [])
single-read-enter {n = n} {ds = ds} w small =
    single-gives ds n 77 (key_told Enter false n Press) w (omega arith) (omega arith) (omega arith)
    (enter-told n ∙ key-is 0 Enter false n small) (key-plain _)

function-reached : (rest : List ℕ) → decoded fresh_decoder (27 ∷ 91 ∷ 91 ∷ rest) ≡ decoded (at false Function) rest
unfolding decoded byte_told stepped first after_escape after_bracket
function-reached rest = refl

console-last : (b : ℕ) → 65 ≤ b → b ≤ 69 → stepped Function b ≡ Whole (Key (pressed (F (b - 64)) (held 0)))
unfolding stepped
console-last b low high = grind (arith, common_steps)

console-read : (b : ℕ) → 65 ≤ b → b ≤ 69 → Gives (27 ∷ 91 ∷ 91 ∷ b ∷ []) (Key (pressed (F (b - 64)) (held 0)) ∷ [])
console-read b low high = record {
  all = function-reached (b ∷ []) ∙ ends-plain Function b (Key (pressed (F (b - 64)) (held 0)))
      (console-last b low high) (key-plain _);
}

tilde-ends : EndsSequence 126
tilde-ends = record {
  low = omega arith;
  high = omega arith;
  no_bracket = λ e. omega (arith, e);
  no_click = λ e. omega (arith, e);
}

tilde-read : {n : ℕ} {code : KeyCode} {ds : List ℕ} → IsTilde n code → WritesNumber ds n
    → Gives (csi ds 126) (key_told code false 0 Press ∷ [])
tilde-read {n = n} {code = code} {ds = ds} tilde w =
    csi-alone ds n 126 (key_told code false 0 Press) w (tilde-small tilde) tilde-ends (tilde-told tilde 0 0 0 0 0
    ∙ key-is 0 code false 0 (omega arith)) (key-plain _)

tilde-held-read : {n m : ℕ} {code : KeyCode} {ds tail : List ℕ} {kind : KeyEventKind} → IsTilde n code → WritesNumber ds n
    → Held tail m kind → m ≤ 256
    → Gives (csi (ds ++ tail) 126) (key_told code false m kind ∷ [])
tilde-held-read {n = n} {m = m} {code = code} {ds = ds} {tail = tail} {kind = kind} tilde w h small =
    let r = held-read w (tilde-small tilde) h small in
    csi-gives (ds ++ tail) (seq Keys 1 r.parts n m 0 r.number) 126 (key_told code false m kind) r.leads (omega arith)
    (omega arith)
    (tilde-told tilde 1 r.parts m 0 r.number ∙ key-is r.number code false m small ∙ ap (key_told code false m) r.is) (key-plain _)

code-key-is : {n : ℕ} {code : KeyCode} {is_keypad : Bool} → IsCode n code is_keypad → (k m : ℕ) → m ≤ 256
    → code_key_event (code_key n) k m ≡ code_told code is_keypad m (kind_of k)
code-key-is {code = code} {is_keypad = is_keypad} h k m small =
    ap (λ (o : Option (KeyCode × Bool)). code_key_event o k m) (code-told h) ∙ key-is k (tab_key code m) is_keypad m small

code-event-is : {n : ℕ} {code : KeyCode} {is_keypad : Bool} → IsCode n code is_keypad → (numbers p m t k : ℕ) → m ≤ 256
    → told_code_event (code_key n) (told_character t) (seq Keys numbers p n m t k) ≡ typed_told (told_character t) code is_keypad m (kind_of k)
code-event-is {n = n} {code = code} {is_keypad = is_keypad} h numbers p m t k small =
    ap (λ (o : Option (KeyCode × Bool)). told_code_event o (told_character t) (seq Keys numbers p n m t k)) (code-told h)
    ∙ told-is (told_character t) code is_keypad k m small

pub code-first : (numbers p n m t k : ℕ)
    → sequence_event (seq Keys numbers p n m t k) 117 ≡ told_code_event (code_key n) (told_character t) (seq Keys numbers p n m t k)
unfolding sequence_event keys_event code_event
code-first numbers p n m t k = refl

code-third : (n m : ℕ) → sequence_event (seq Keys 2 0 27 m n 0) 126 ≡ code_key_event (code_key n) 0 m
unfolding sequence_event keys_event tilde_event code_event
code-third n m = refl

code-ends : EndsSequence 117
code-ends = record { low = omega arith; high = omega arith; no_bracket = λ e. omega (arith, e); no_click = λ e. omega (arith, e) }

code-read : {n : ℕ} {code : KeyCode} {is_keypad : Bool} {ds : List ℕ} → IsCode n code is_keypad → WritesNumber ds n
    → Gives (csi ds 117) (code_told code is_keypad 0 Press ∷ [])
code-read {n = n} {code = code} {is_keypad = is_keypad} {ds = ds} h w =
    csi-alone ds n 117 (code_told code is_keypad 0 Press) w (code-small h) code-ends (code-first 0 0 n 0 0 0
    ∙ code-event-is h 0 0 0 0 0 (omega arith)) (key-plain _)

code-held-read : {n m : ℕ} {code : KeyCode} {is_keypad : Bool} {ds tail : List ℕ} {kind : KeyEventKind} → IsCode n code is_keypad
    → WritesNumber ds n → Held tail m kind
    → m ≤ 256 → Gives (csi (ds ++ tail) 117) (code_told code is_keypad m kind ∷ [])
code-held-read {n = n} {m = m} {code = code} {is_keypad = is_keypad} {ds = ds} {tail = tail} {kind = kind} c w h small =
    let r = held-read w (code-small c) h small in
    csi-gives (ds ++ tail) (seq Keys 1 r.parts n m 0 r.number) 117 (code_told code is_keypad m kind) r.leads (omega arith)
    (omega arith)
    (code-first 1 r.parts n m 0 r.number ∙ code-event-is c 1 r.parts m 0 r.number small ∙ ap (code_told code is_keypad m) r.is)
    (key-plain _)

-- ---- further codes, of which the first is kept until a third number begins

-- codes that change no number
record Stays (numbers p n m t k : ℕ) (bytes : List ℕ) : Type 0 where
  to : ℕ
  leads : Leads (Numbers (seq Keys numbers p n m t k)) bytes (Numbers (seq Keys numbers to n m t k))

code-colon : (numbers p n m t k : ℕ) → stepped (Numbers (seq Keys numbers p n m t k)) 58 ≡ More
    (Numbers (seq Keys numbers (if nat_lt p 2 then p + 1 else 2) n m t k))
unfolding stepped in_sequence pushed
code-colon numbers p n m t k = refl

further : (low p : ℕ) → low ≤ 2 → low ≤ p → low ≤ (if nat_lt p 2 then p + 1 else 2)
further low p h k = grind (arith, nat_tests)

module _ (low numbers n m t k : ℕ) (few : low ≤ 2) (deaf : (q b : ℕ) → low ≤ q → 48 ≤ b → b ≤ 57
    → stepped (Numbers (seq Keys numbers q n m t k)) b ≡ More (Numbers (seq Keys numbers q n m t k))) where
  codes-stay : (bs : List ℕ) (p : ℕ) → AreCodes bs → low ≤ p → Stays numbers p n m t k bs
  codes-stay [] p h l = record { to = p; leads = leads-none (Numbers (seq Keys numbers p n m t k)) }
  codes-stay (b ∷ bs) p h l =
      elim (cases_eq b 58) [
        | inl e ↦
            let rest = codes-stay bs (if nat_lt p 2 then p + 1 else 2) h.2 (further low p few l) in
            record {
              to = rest.to;
              leads = leads-cons (Numbers (seq Keys numbers p n m t k))
                  (Numbers (seq Keys numbers (if nat_lt p 2 then p + 1 else 2) n m t k))
                  (Numbers (seq Keys numbers rest.to n m t k)) b bs (ap (stepped (Numbers (seq Keys numbers p n m t k))) e
                  ∙ code-colon numbers p n m t k) rest.leads;
            }
        | inr other ↦
            let rest = codes-stay bs p h.2 l in
            record {
              to = rest.to;
              leads = leads-cons (Numbers (seq Keys numbers p n m t k)) (Numbers (seq Keys numbers p n m t k))
                  (Numbers (seq Keys numbers rest.to n m t k)) b bs
                  (deaf p b l h.0 (omega (arith, h.1, other))) rest.leads;
            }
      ]

shift-digit : (n t b : ℕ) → 48 ≤ b → b ≤ 57
    → stepped (Numbers (seq Keys 0 1 n 0 t 0)) b ≡ More (Numbers (seq Keys 0 1 n 0 (min (t * 10 + (b - 48)) (2 ^ 32 - 1)) 0))
unfolding stepped in_sequence pushed digit_pushed
shift-digit n t b low high = grind (arith, common_steps, digit_of b low high)

shift-deaf : (n t q b : ℕ) → 2 ≤ q → 48 ≤ b → b ≤ 57
    → stepped (Numbers (seq Keys 0 q n 0 t 0)) b ≡ More (Numbers (seq Keys 0 q n 0 t 0))
unfolding stepped in_sequence pushed digit_pushed
shift-deaf n t q b many low high = grind (arith, nat_tests)

text-digit : (n m k t b : ℕ) → 48 ≤ b → b ≤ 57
    → stepped (Numbers (seq Keys 2 0 n m t k)) b ≡ More (Numbers (seq Keys 2 0 n m (min (t * 10 + (b - 48)) (2 ^ 32 - 1)) k))
unfolding stepped in_sequence pushed digit_pushed
text-digit n m k t b low high = grind (arith, common_steps, digit_of b low high)

text-deaf : (n m k t q b : ℕ) → 1 ≤ q → 48 ≤ b → b ≤ 57
    → stepped (Numbers (seq Keys 2 q n m t k)) b ≡ More (Numbers (seq Keys 2 q n m t k))
unfolding stepped in_sequence pushed digit_pushed
text-deaf n m k t q b some low high = grind (arith, nat_tests)

-- the first of the codes is kept
record FirstRead (n t : ℕ) (bytes : List ℕ) : Type 0 where
  to : ℕ
  leads : Leads (Numbers (seq Keys 0 1 n 0 0 0)) bytes (Numbers (seq Keys 0 to n 0 t 0))

first-told : {bytes : List ℕ} {t : ℕ} (n : ℕ) → ToldFirst bytes t → FirstRead n t bytes
first-told {bytes = bytes} {t = t} n (told_alone w small) =
    record { to = 1; leads = number-read (λ (v : ℕ). Numbers (seq Keys 0 1 n 0 v 0)) (shift-digit n) bytes t w small }
first-told {t = t} n (told_with_codes {ds = ds} cs w small h) =
    let rest = codes-stay 2 0 n 0 t 0 (omega arith) (shift-deaf n t) cs 2 h (omega arith) in
    record {
      to = rest.to;
      leads = leads-append (Numbers (seq Keys 0 1 n 0 0 0)) (Numbers (seq Keys 0 1 n 0 t 0)) (Numbers (seq Keys 0 rest.to n 0 t 0))
          ds (58 ∷ cs)
          (number-read (λ (v : ℕ). Numbers (seq Keys 0 1 n 0 v 0)) (shift-digit n) ds t w small)
          (leads-cons (Numbers (seq Keys 0 1 n 0 t 0)) (Numbers (seq Keys 0 2 n 0 t 0)) (Numbers (seq Keys 0 rest.to n 0 t 0)) 58 cs
          (code-colon 0 1 n 0 t 0) rest.leads);
    }

record TextRead (n m k t : ℕ) (bytes : List ℕ) : Type 0 where
  to : ℕ
  leads : Leads (Numbers (seq Keys 2 0 n m 0 k)) bytes (Numbers (seq Keys 2 to n m t k))

text-told : {bytes : List ℕ} {t : ℕ} (n m k : ℕ) → ToldFirst bytes t → TextRead n m k t bytes
text-told {bytes = bytes} {t = t} n m k (told_alone w small) =
    record { to = 0; leads = number-read (λ (v : ℕ). Numbers (seq Keys 2 0 n m v k)) (text-digit n m k) bytes t w small }
text-told {t = t} n m k (told_with_codes {ds = ds} cs w small h) =
    let rest = codes-stay 1 2 n m t k (omega arith) (text-deaf n m k t) cs 1 h (omega arith) in
    record {
      to = rest.to;
      leads = leads-append (Numbers (seq Keys 2 0 n m 0 k)) (Numbers (seq Keys 2 0 n m t k)) (Numbers (seq Keys 2 rest.to n m t k))
          ds (58 ∷ cs)
          (number-read (λ (v : ℕ). Numbers (seq Keys 2 0 n m v k)) (text-digit n m k) ds t w small)
          (leads-cons (Numbers (seq Keys 2 0 n m t k)) (Numbers (seq Keys 2 1 n m t k)) (Numbers (seq Keys 2 rest.to n m t k)) 58 cs
          (code-colon 2 0 n m t k) rest.leads);
    }

-- any codes
record CodesRead (p n t : ℕ) (bytes : List ℕ) : Type 0 where
  to : ℕ
  third : ℕ
  leads : Leads (Numbers (seq Keys 0 p n 0 t 0)) bytes (Numbers (seq Keys 0 to n 0 third 0))

codes-read : (bs : List ℕ) (p n t : ℕ) → AreCodes bs → 1 ≤ p → CodesRead p n t bs
codes-read [] p n t h low = record { to = p; third = t; leads = leads-none (Numbers (seq Keys 0 p n 0 t 0)) }
codes-read (b ∷ bs) p n t h low =
    elim (cases_eq b 58) [
      | inl e ↦
          let rest = codes-read bs (if nat_lt p 2 then p + 1 else 2) n t h.2 (further 1 p (omega arith) low) in
          record {
            to = rest.to;
            third = rest.third;
            leads = leads-cons (Numbers (seq Keys 0 p n 0 t 0)) (Numbers (seq Keys 0 (if nat_lt p 2 then p + 1 else 2) n 0 t 0))
                (Numbers (seq Keys 0 rest.to n 0 rest.third 0)) b bs (ap (stepped (Numbers (seq Keys 0 p n 0 t 0))) e
                ∙ code-colon 0 p n 0 t 0) rest.leads;
          }
      | inr other ↦ elim (cases_eq p 1) [
        | inl one ↦
            let rest = codes-read bs 1 n (min (t * 10 + (b - 48)) (2 ^ 32 - 1)) h.2 (omega arith) in
            record {
              to = rest.to;
              third = rest.third;
              leads = leads-cons (Numbers (seq Keys 0 p n 0 t 0))
                  (Numbers (seq Keys 0 1 n 0 (min (t * 10 + (b - 48)) (2 ^ 32 - 1)) 0))
                  (Numbers (seq Keys 0 rest.to n 0 rest.third 0)) b bs
                  (ap (λ (q : ℕ). stepped (Numbers (seq Keys 0 q n 0 t 0)) b) one
                  ∙ shift-digit n t b h.0 (omega (arith, h.1, other))) rest.leads;
            }
        | inr more ↦
            let rest = codes-read bs p n t h.2 low in
            record {
              to = rest.to;
              third = rest.third;
              leads = leads-cons (Numbers (seq Keys 0 p n 0 t 0)) (Numbers (seq Keys 0 p n 0 t 0))
                  (Numbers (seq Keys 0 rest.to n 0 rest.third 0)) b bs
                  (shift-deaf n t p b (omega (arith, low, more)) h.0 (omega (arith, h.1, other))) rest.leads;
            }
      ]
    ]

-- what is held after them
record HeldAfter (parts n t : ℕ) (tail : List ℕ) (m : ℕ) (kind : KeyEventKind) : Type 0 where
  to : ℕ
  number : ℕ
  leads : Leads (Numbers (seq Keys 0 parts n 0 t 0)) tail (Numbers (seq Keys 1 to n m t number))
  is : kind_of number ≡ kind

held-digit : (n t m b : ℕ) → 48 ≤ b → b ≤ 57
    → stepped (Numbers (seq Keys 1 0 n m t 0)) b ≡ More (Numbers (seq Keys 1 0 n (min (m * 10 + (b - 48)) (2 ^ 32 - 1)) t 0))
unfolding stepped in_sequence pushed digit_pushed
held-digit n t m b low high = grind (arith, common_steps, digit_of b low high)

held-kind-digit : (n m t k b : ℕ) → 48 ≤ b → b ≤ 57
    → stepped (Numbers (seq Keys 1 1 n m t k)) b ≡ More (Numbers (seq Keys 1 1 n m t (min (k * 10 + (b - 48)) (2 ^ 32 - 1))))
unfolding stepped in_sequence pushed digit_pushed
held-kind-digit n m t k b low high = grind (arith, common_steps, digit_of b low high)

held-begins : (parts n t : ℕ) → stepped (Numbers (seq Keys 0 parts n 0 t 0)) 59 ≡ More (Numbers (seq Keys 1 0 n 0 t 0))
unfolding stepped in_sequence pushed
held-begins parts n t = refl

held-second : (parts n t : ℕ) (es : List ℕ) (m : ℕ) → WritesNumber es m → m < 2 ^ 32
    → Leads (Numbers (seq Keys 0 parts n 0 t 0)) (59 ∷ es) (Numbers (seq Keys 1 0 n m t 0))
held-second parts n t es m w small =
    leads-cons (Numbers (seq Keys 0 parts n 0 t 0)) (Numbers (seq Keys 1 0 n 0 t 0)) (Numbers (seq Keys 1 0 n m t 0)) 59 es
    (held-begins parts n t)
    (number-read (λ (v : ℕ). Numbers (seq Keys 1 0 n v t 0)) (held-digit n t) es m w small)

held-after : {tail : List ℕ} {m : ℕ} {kind : KeyEventKind} (parts n t : ℕ) → Held tail m kind → m ≤ 256
    → HeldAfter parts n t tail m kind
held-after {m = m} parts n t (held_down {es = es} v) low =
    record { to = 0; number = 0; leads = held-second parts n t es m v (omega arith); is = refl }
held-after {m = m} parts n t (held_told {es = es} {ks = ks} {k = k} v u tiny) low = record {
  to = 1;
  number = k;
  leads = leads-append (Numbers (seq Keys 0 parts n 0 t 0)) (Numbers (seq Keys 1 0 n m t 0)) (Numbers (seq Keys 1 1 n m t k))
      (59 ∷ es) (58 ∷ ks) (held-second parts n t es m v (omega arith))
      (leads-cons (Numbers (seq Keys 1 0 n m t 0)) (Numbers (seq Keys 1 1 n m t 0)) (Numbers (seq Keys 1 1 n m t k)) 58 ks
      (code-colon 1 0 n m t 0)
      (number-read (λ (v : ℕ). Numbers (seq Keys 1 1 n m t v)) (held-kind-digit n m t) ks k u (omega arith)));
  is = refl;
}

text-begins : (p n m t k : ℕ) → stepped (Numbers (seq Keys 1 p n m t k)) 59 ≡ More (Numbers (seq Keys 2 0 n m 0 k))
unfolding stepped in_sequence pushed
text-begins p n m t k = refl

typed-plain : (told : Option ℕ) (code : KeyCode) (is_keypad : Bool) (m : ℕ) (kind : KeyEventKind)
    → IsPlain (typed_told told code is_keypad m kind)
typed-plain (Some c) (Char d) is_keypad m kind = either-plain ((m - 1) % 2 == 1) _ _
typed-plain (Some c) code is_keypad m kind = key-plain _
typed-plain None code is_keypad m kind = key-plain _

codes-held-read : {n m t : ℕ} {code : KeyCode} {is_keypad : Bool} {ds tail text : List ℕ} {kind : KeyEventKind} (codes : List ℕ)
    → IsCode n code is_keypad → WritesNumber ds n
    → AreCodes codes → Held tail m kind → m ≤ 256 → ToldFirst text t
    → Gives (csi (ds ++ (58 ∷ (codes ++ (tail ++ (59 ∷ text))))) 117) (typed_told (told_character t) code is_keypad m kind ∷ [])
codes-held-read {n = n} {m = m} {t = t} {code = code} {is_keypad = is_keypad} {ds = ds} {tail = tail} {text = text} {kind = kind}
    codes c w further_codes h small told =
    let r = codes-read codes 1 n 0 further_codes (omega arith) in
    let held_part = held-after r.to n r.third h small in
    let last = text-told n m held_part.number told in
    let first_state = Numbers (seq Keys 0 1 n 0 0 0) in
    let codes_state = Numbers (seq Keys 0 r.to n 0 r.third 0) in
    let held_state = Numbers (seq Keys 1 held_part.to n m r.third held_part.number) in
    let last_state = Numbers (seq Keys 2 last.to n m t held_part.number) in
    let body : Leads Bracket (ds ++ (58 ∷ (codes ++ (tail ++ (59 ∷ text))))) last_state =
    subst (λ (bs : List ℕ). Leads Bracket bs last_state) (append_assoc ds (58 ∷ []) (codes ++ (tail ++ (59 ∷ text))))
    (leads-append Bracket first_state last_state (ds ++ (58 ∷ [])) (codes ++ (tail ++ (59 ∷ text)))
    (bracket-colon ds n w (code-small c))
    (leads-append first_state codes_state last_state codes (tail ++ (59 ∷ text)) r.leads
    (leads-append codes_state held_state last_state tail (59 ∷ text) held_part.leads
    (leads-cons held_state (Numbers (seq Keys 2 0 n m 0 held_part.number)) last_state 59 text
    (text-begins held_part.to n m r.third held_part.number) last.leads)))) in
    csi-gives (ds ++ (58 ∷ (codes ++ (tail ++ (59 ∷ text))))) (seq Keys 2 last.to n m t held_part.number) 117
    (typed_told (told_character t) code is_keypad m kind) body (omega arith) (omega arith)
    (code-first 2 last.to n m t held_part.number ∙ code-event-is c 2 last.to m t held_part.number small
    ∙ ap (typed_told (told_character t) code is_keypad m) held_part.is) (typed-plain (told_character t) code is_keypad m kind)

shifted-read : {n m t : ℕ} {code : KeyCode} {is_keypad : Bool} {ds codes tail : List ℕ} {kind : KeyEventKind}
    → IsCode n code is_keypad → WritesNumber ds n
    → ToldFirst codes t → Held tail m kind → m ≤ 256
    → Gives (csi (ds ++ (58 ∷ (codes ++ tail))) 117) (typed_told (told_character t) code is_keypad m kind ∷ [])
shifted-read {n = n} {m = m} {t = t} {code = code} {is_keypad = is_keypad} {ds = ds} {codes = codes} {tail = tail} {kind = kind}
    c w told h small =
    let r = first-told n told in
    let held_part = held-after r.to n t h small in
    let first_state = Numbers (seq Keys 0 1 n 0 0 0) in
    let codes_state = Numbers (seq Keys 0 r.to n 0 t 0) in
    let held_state = Numbers (seq Keys 1 held_part.to n m t held_part.number) in
    let body : Leads Bracket (ds ++ (58 ∷ (codes ++ tail))) held_state =
    subst (λ (bs : List ℕ). Leads Bracket bs held_state) (append_assoc ds (58 ∷ []) (codes ++ tail))
    (leads-append Bracket first_state held_state (ds ++ (58 ∷ [])) (codes ++ tail) (bracket-colon ds n w (code-small c))
    (leads-append first_state codes_state held_state codes tail r.leads held_part.leads)) in
    csi-gives (ds ++ (58 ∷ (codes ++ tail))) (seq Keys 1 held_part.to n m t held_part.number) 117
    (typed_told (told_character t) code is_keypad m kind) body (omega arith) (omega arith)
    (code-first 1 held_part.to n m t held_part.number ∙ code-event-is c 1 held_part.to m t held_part.number small
    ∙ ap (typed_told (told_character t) code is_keypad m) held_part.is) (typed-plain (told_character t) code is_keypad m kind)

-- ---- text without a key

no-key : code_key 0 ≡ None
unfolding code_key keypad_key name_key key_at
no-key = refl

pub text-says : (m t k : ℕ) → IsScalar t → is_control t ≡ false → m ≤ 256
    → sequence_event (seq Keys 2 0 0 m t k) 117 ≡ key_told (Char t) false (typed_mask t m) (kind_of k)
text-says m t k scalar plain small =
    code-first 2 0 0 m t k
    ∙ ap (λ (o : Option (KeyCode × Bool)). told_code_event o (told_character t) (seq Keys 2 0 0 m t k)) no-key
    ∙ ap (λ (o : Option ℕ). text_event o (seq Keys 2 0 0 m t k)) (beside-some t scalar plain)
    ∙ typed-is k t false m small

text-read : {m t : ℕ} {ds tail fs : List ℕ} {kind : KeyEventKind} → WritesNumber ds 0 → Held tail m kind → m ≤ 256
    → WritesNumber fs t → IsScalar t → is_control t ≡ false
    → Gives (csi ((ds ++ tail) ++ (59 ∷ fs)) 117) (key_told (Char t) false (typed_mask t m) kind ∷ [])
text-read {m = m} {t = t} {ds = ds} {tail = tail} {fs = fs} {kind = kind} w h small u scalar plain =
    let r = held-read w (omega arith) h small in
    let below = scalar_cases t scalar in
    csi-gives ((ds ++ tail) ++ (59 ∷ fs)) (seq Keys 2 0 0 m t r.number) 117 (key_told (Char t) false (typed_mask t m) kind)
    (leads-append Bracket (Numbers (seq Keys 1 r.parts 0 m 0 r.number)) (Numbers (seq Keys 2 0 0 m t r.number)) (ds ++ tail)
    (59 ∷ fs) r.leads
    (leads-cons (Numbers (seq Keys 1 r.parts 0 m 0 r.number)) (Numbers (seq Keys 2 0 0 m 0 r.number))
    (Numbers (seq Keys 2 0 0 m t r.number)) 59 fs
    (text-begins r.parts 0 m 0 r.number)
    (number-read (λ (v : ℕ). Numbers (seq Keys 2 0 0 m v r.number)) (text-digit 0 m r.number) fs t u (omega (arith, below)))))
    (omega arith) (omega arith)
    (text-says m t r.number scalar plain small ∙ ap (key_told (Char t) false (typed_mask t m)) r.is) (key-plain _)

other-read : {n m : ℕ} {code : KeyCode} {is_keypad : Bool} {ds es fs : List ℕ} → IsCode n code is_keypad → WritesNumber ds 27
    → WritesNumber es m → m ≤ 256 → WritesNumber fs n
    → Gives (csi (three_numbers ds es fs) 126) (code_told code is_keypad m Press ∷ [])
other-read {n = n} {m = m} {code = code} {is_keypad = is_keypad} {ds = ds} {es = es} {fs = fs} c w v small u =
    csi-gives (three_numbers ds es fs) (seq Keys 2 0 27 m n 0) 126 (code_told code is_keypad m Press)
    (bracket-three ds es fs 27 m n w (omega arith) v (omega arith) u (code-small c)) (omega arith) (omega arith)
    (code-third n m ∙ code-key-is c 0 m small) (key-plain _)

-- ---- the mouse

pub mouse-is : (n x y : ℕ) (is_up : Bool) (kind : MouseEventKind) → n ≤ 255 → x ≤ 65535 → y ≤ 65535
    → mouse_kind n is_up ≡ Some kind
    → mouse_event n x y is_up ≡ mouse_told kind n x y
unfolding mouse_event
mouse-is n x y is_up kind a b c e =
    let within : mouse_event n x y is_up ≡ kind_told (mouse_kind n is_up) n x y = grind (arith, nat_tests) in
    within ∙ ap (λ (o : Option MouseEventKind). kind_told o n x y) e

pointer-down : (n x y : ℕ) → sequence_event (seq FromMouse 2 0 n x y 0) 77 ≡ mouse_event n x y false
unfolding sequence_event pointer_event
pointer-down n x y = refl

pointer-up : (n x y : ℕ) → sequence_event (seq FromMouse 2 0 n x y 0) 109 ≡ mouse_event n x y true
unfolding sequence_event pointer_event
pointer-up n x y = refl

plain-numbers : (n x y : ℕ) → sequence_event (seq Keys 2 0 (n + 32) x y 0) 77 ≡ mouse_event n x y false
unfolding sequence_event keys_event
plain-numbers n x y = grind (arith, nat_tests)

down-read : {n x y : ℕ} {ds es fs : List ℕ} {kind : MouseEventKind} → WritesNumber ds n → WritesNumber es x → WritesNumber fs y
    → n ≤ 255 → x ≤ 65535 → y ≤ 65535
    → mouse_kind n false ≡ Some kind → Gives (csi (60 ∷ three_numbers ds es fs) 77) (mouse_told kind n x y ∷ [])
down-read {n = n} {x = x} {y = y} {ds = ds} {es = es} {fs = fs} {kind = kind} w v u a b c e =
    csi-gives (60 ∷ three_numbers ds es fs) (seq FromMouse 2 0 n x y 0) 77 (mouse_told kind n x y)
    (mouse-three ds es fs n x y w (omega arith) v (less x b) u (less y c)) (omega arith) (omega arith)
    (pointer-down n x y ∙ mouse-is n x y false kind a b c e) (mouse-plain _)

up-read : {n x y : ℕ} {ds es fs : List ℕ} {kind : MouseEventKind} → WritesNumber ds n → WritesNumber es x → WritesNumber fs y
    → n ≤ 255 → x ≤ 65535 → y ≤ 65535
    → mouse_kind n true ≡ Some kind → Gives (csi (60 ∷ three_numbers ds es fs) 109) (mouse_told kind n x y ∷ [])
up-read {n = n} {x = x} {y = y} {ds = ds} {es = es} {fs = fs} {kind = kind} w v u a b c e =
    csi-gives (60 ∷ three_numbers ds es fs) (seq FromMouse 2 0 n x y 0) 109 (mouse_told kind n x y)
    (mouse-three ds es fs n x y w (omega arith) v (less x b) u (less y c)) (omega arith) (omega arith)
    (pointer-up n x y ∙ mouse-is n x y true kind a b c e) (mouse-plain _)

plain-numbers-read : {n x y : ℕ} {ds es fs : List ℕ} {kind : MouseEventKind} → WritesNumber ds (n + 32) → WritesNumber es x
    → WritesNumber fs y → n ≤ 255 → x ≤ 65535 → y ≤ 65535
    → mouse_kind n false ≡ Some kind → Gives (csi (three_numbers ds es fs) 77) (mouse_told kind n x y ∷ [])
plain-numbers-read {n = n} {x = x} {y = y} {ds = ds} {es = es} {fs = fs} {kind = kind} w v u a b c e =
    csi-gives (three_numbers ds es fs) (seq Keys 2 0 (n + 32) x y 0) 77 (mouse_told kind n x y)
    (bracket-three ds es fs (n + 32) x y w (omega arith) v (less x b) u (less y c)) (omega arith) (omega arith)
    (plain-numbers n x y ∙ mouse-is n x y false kind a b c e) (mouse-plain _)

click-reached : (rest : List ℕ) → decoded fresh_decoder (27 ∷ 91 ∷ 77 ∷ rest) ≡ decoded (at false Click) rest
unfolding decoded byte_told stepped first after_escape after_bracket
click-reached rest = refl

click-first : (n : ℕ) → stepped Click (n + 32) ≡ More (ClickButton (n + 32))
unfolding stepped
click-first n = grind (arith, nat_tests)

click-second : (b x : ℕ) → stepped (ClickButton b) (x + 32) ≡ More (ClickColumn b (x + 32))
unfolding stepped
click-second b x = grind (arith, nat_tests)

click-last : (n x y : ℕ) → stepped (ClickColumn (n + 32) (x + 32)) (y + 32) ≡ Whole (mouse_event n x y false)
unfolding stepped
click-last n x y = grind (arith, nat_tests)

bytes-read : {kind : MouseEventKind} (n x y : ℕ) → n ≤ 223 → x ≤ 223 → y ≤ 223 → mouse_kind n false ≡ Some kind
    → Gives (27 ∷ 91 ∷ 77 ∷ (n + 32) ∷ (x + 32) ∷ (y + 32) ∷ []) (mouse_told kind n x y ∷ [])
bytes-read {kind = kind} n x y a b c e =
    let column = leads-cons Click (ClickButton (n + 32)) (ClickColumn (n + 32) (x + 32)) (n + 32) ((x + 32) ∷ []) (click-first n)
    (leads-one (ClickButton (n + 32)) (ClickColumn (n + 32) (x + 32)) (x + 32) (click-second (n + 32) x)) in
    record {
      all = click-reached ((n + 32) ∷ (x + 32) ∷ (y + 32) ∷ []) ∙ column.to false ((y + 32) ∷ [])
          ∙ ends-plain (ClickColumn (n + 32) (x + 32)) (y + 32) (mouse_told kind n x y)
          (click-last n x y ∙ ap Whole (mouse-is n x y false kind (omega arith) (omega arith) (omega arith) e)) (mouse-plain _);
    }

-- ---- the focus and the reports

gained-told : sequence_event (seq Keys 0 0 0 0 0 0) 73 ≡ FocusGained
unfolding sequence_event keys_event
gained-told = refl

lost-told : sequence_event (seq Keys 0 0 0 0 0 0) 79 ≡ FocusLost
unfolding sequence_event keys_event
lost-told = refl

no-digits : WritesNumber [] 0
no-digits = record { digits = tt; number = refl }

gained-read : Gives (csi [] 73) (FocusGained ∷ [])
gained-read = csi-alone [] 0 73 FocusGained no-digits (omega arith)
    (record {
      low = omega arith;
      high = omega arith;
      no_bracket = λ e. omega (arith, e);
      no_click = λ e. omega (arith, e);
    }) gained-told gained-plain

lost-read : Gives (csi [] 79) (FocusLost ∷ [])
lost-read = csi-alone [] 0 79 FocusLost no-digits (omega arith)
    (record {
      low = omega arith;
      high = omega arith;
      no_bracket = λ e. omega (arith, e);
      no_click = λ e. omega (arith, e);
    }) lost-told lost-plain

size-told : (n rows columns : ℕ) → (n ≡ 8) ⊎ (n ≡ 48) → rows ≤ 65535 → columns ≤ 65535
    → sequence_event (seq Keys 2 0 n rows columns 0) 116 ≡ Size columns rows
unfolding sequence_event keys_event size_event
size-told n rows columns h a b = grind (arith, nat_tests)

size-read : {n rows columns : ℕ} {ds es fs : List ℕ} → WritesNumber ds n → (n ≡ 8) ⊎ (n ≡ 48) → WritesNumber es rows
    → rows ≤ 65535 → WritesNumber fs columns → columns ≤ 65535
    → Gives (csi (three_numbers ds es fs) 116) (Size columns rows ∷ [])
size-read {n = n} {rows = rows} {columns = columns} {ds = ds} {es = es} {fs = fs} w h v a u b =
    csi-gives (three_numbers ds es fs) (seq Keys 2 0 n rows columns 0) 116 (Size columns rows)
    (bracket-three ds es fs n rows columns w (omega (arith, h)) v (less rows a) u (less columns b)) (omega arith) (omega arith)
    (size-told n rows columns h a b) (size-plain columns rows)

position-told : (row column : ℕ) → row ≢ 1 → row ≤ 65535 → column ≤ 65535
    → sequence_event (seq Keys 1 0 row column 0 0) 82 ≡ Position (column - 1) (row - 1)
unfolding sequence_event keys_event position_event
position-told row column h a b = grind (arith, nat_tests)

position-read : {row column : ℕ} {ds es : List ℕ} → WritesNumber ds row → row ≢ 1 → row ≤ 65535 → WritesNumber es column
    → column ≤ 65535
    → Gives (csi (two_numbers ds es) 82) (Position (column - 1) (row - 1) ∷ [])
position-read {row = row} {column = column} {ds = ds} {es = es} w h a v b =
    csi-gives (two_numbers ds es) (seq Keys 1 0 row column 0 0) 82 (Position (column - 1) (row - 1))
    (bracket-two ds es row column w (less row a) v (less column b))
    (omega arith) (omega arith) (position-told row column h a b) (position-plain (column - 1) (row - 1))

-- each encoding is read as its event
pub encodes-read : {bytes : List ℕ} {event : Event} → Encodes bytes event → Gives bytes (event ∷ [])
encodes-read (character c scalar plain) = character-gives c scalar plain
encodes-read (control b low other) = control-gives b low other
encodes-read (alt_character c scalar plain x) = alt-character-gives c scalar plain x
encodes-read (alt_control b low other) = alt-control-gives b low other
encodes-read (by_letter letter w small) = letter-read letter w small
encodes-read (by_letter_held letter w h small) = letter-held-read letter w h small
encodes-read (by_single letter w small) = single-read-letter letter w small
encodes-read (single_enter w small) = single-read-enter w small
encodes-read (by_console b low high) = console-read b low high
encodes-read (by_tilde tilde w) = tilde-read tilde w
encodes-read (by_tilde_held tilde w h small) = tilde-held-read tilde w h small
encodes-read (by_code code w) = code-read code w
encodes-read (by_code_held code w h small) = code-held-read code w h small
encodes-read (by_codes codes code w more h small told) = codes-held-read codes code w more h small told
encodes-read (by_shifted code w told h small) = shifted-read code w told h small
encodes-read (by_text w h small u scalar plain) = text-read w h small u scalar plain
encodes-read (by_other code w v small u) = other-read code w v small u
encodes-read (by_numbers_down w v u a b c e) = down-read w v u a b c e
encodes-read (by_numbers_up w v u a b c e) = up-read w v u a b c e
encodes-read (by_bytes n x y a b c e) = bytes-read n x y a b c e
encodes-read (by_plain_numbers w v u a b c e) = plain-numbers-read w v u a b c e
encodes-read focus_gained = gained-read
encodes-read focus_lost = lost-read
encodes-read (size w n v a u b) = size-read w n v a u b
encodes-read (position w n a v b) = position-read w n a v b

-- among others
pub encodes-among : (before bytes after : List ℕ) (events : List Event) (event : Event) → Gives before events
    → Encodes bytes event
    → decoded fresh_decoder ((before ++ bytes) ++ after) ≡ (
      (events ++ (event ∷ [])) ++ (decoded fresh_decoder after).0,
      (decoded fresh_decoder after).1,
    )
encodes-among before bytes after events event h e =
    gives-before (before ++ bytes) after (events ++ (event ∷ []))
    (gives-append before bytes events (event ∷ []) h (encodes-read e))

-- after whatever has come of an event that isn't whole
pub encodes-anyhow : (state : State) (bytes after : List ℕ) (event : Event) → IsNoText state → Encodes (27 ∷ bytes) event
    → decoded (at false state) (27 ∷ (bytes ++ after)) ≡ (
      some_list (cut state) ++ (event ∷ (decoded fresh_decoder after).0),
      (decoded fresh_decoder after).1,
    )
encodes-anyhow state bytes after event quiet e =
    anew-from-escape state (bytes ++ after) quiet
    ∙ ap (λ (t : Told). (some_list (cut state) ++ t.0, t.1)) (gives-before (27 ∷ bytes) after (event ∷ []) (encodes-read e))
