-- What has come of an event, and what each byte makes of it, state by state.
use Rattle.std.proofs.Common.{◌≡◌, ◌≢◌, ◌⊎◌, inl, inr, ℕ, ◌+◌, ◌-◌, ◌*◌, ◌/◌, ◌%◌, ◌^◌, min, ◌<◌, ◌≤◌, Bool, true, false, List}
use Rattle.std.proofs.Common.{[], ◌∷◌, ◌++◌, Option, Some, None, refl, ap, sym, ◌∙◌, subst, arith}
use Rattle.std.specs.Prelude.{nat_lt, nat_le, if◌then◌else◌, ◌==◌, ◌&&◌, ◌||◌}
use Rattle.std.proofs.lemmas.Bool.{cases_eq}
use Rattle.std.proofs.lemmas.Bool.Decides.{nat_tests}
use Rattle.std.proofs.lemmas.Nat.{and_mask}
use Rattle.std.specs.Int.Bits.{bit_and}
use lib.Utf8.{encode}
use Rattle.std.specs.Char.{IsScalar, is_control}
use Rattle.ratatui_events.specs.declared.event.Event.{Event}
use Rattle.ratatui_events.specs.declared.event.Event.TheVariants.{Unknown}
use Rattle.ratatui_events.specs.declared.key.KeyCode.TheVariants.{Enter}
use Rattle.ratatui_events.specs.declared.key.KeyEventKind.TheVariants.{Press}
use Rattle.ratatui_input.specs.declared.decoder.Partial.{Partial}
use Rattle.ratatui_input.specs.declared.decoder.State.{State}
use Rattle.ratatui_input.specs.declared.decoder.State.TheVariants.{Ground, Escape, Single, Bracket, Function, Numbers, Click}
use Rattle.ratatui_input.specs.declared.decoder.State.TheVariants.{ClickButton, ClickColumn, Character, Opened, Text, TextEscape}
use Rattle.ratatui_input.specs.Decoding.{Next, Whole, More, Apart}
use Rattle.ratatui_input.specs.declared.sequence.Sequence.{Sequence}
use Rattle.ratatui_input.specs.declared.sequence.Source.{Source}
use Rattle.ratatui_input.specs.declared.sequence.Source.TheVariants.{Keys, Mouse as FromMouse, Other}
use Rattle.ratatui_input.specs.Keys.{typed_key, control_key, with_alt, letter_key, is_scalar}
use Rattle.ratatui_input.specs.Mouse.{mouse_event}
use Rattle.ratatui_input.specs.Encodings.{value_after}
use Rattle.ratatui_input.specs.Grammar.{WritesNumber, value_from, csi, key_told, mouse_told}
use Rattle.ratatui_input.specs.Grammar.{character, control, alt_character, alt_control, by_single, single_enter, by_console}
use Rattle.ratatui_input.specs.Grammar.{by_bytes, IsOpener, OpensNothing, AreText}
use Rattle.ratatui_input.specs.Sequences.{pushed, digit_pushed, from_mouse, sequence_event, source_event, letter_event}
use Rattle.ratatui_input.specs.Sequences.{single_event}
use Rattle.ratatui_input.specs.Decoding.{stepped, first, begun, beginning, after_escape, after_bracket, in_sequence, going_on}
use Rattle.ratatui_input.specs.Decoding.{after_single, after_function, in_character, character_event, scalar_event, after_click}
use Rattle.ratatui_input.specs.Decoding.{cut, lies_in, opens_string, may_be_in_string, after_opened, in_text, after_text}
use Rattle.ratatui_input.specs.Pieces.{KeepsNumber}
use Rattle.ratatui_input.proofs.CharacterLemmas.{encode-one, encode-two, encode-three, encode-four, opens-nothing}
use Rattle.ratatui_input.proofs.StandLemmas.{Stands, if-stands, same, differ, lies, not-below, grammar_stands, escape_stands}
use Rattle.ratatui_input.proofs.StandLemmas.{bracket_stands, single_stands, not_known, opener_stands}
use Rattle.ratatui_input.proofs.StringLemmas.{opener-asked, opener-not, text-asked, text-snoc, IsJoined}
use Rattle.ratatui_input.proofs.CodeLemmas.{letter-of, scalar-is}
use Rattle.ratatui_input.proofs.NumberLemmas.{keeps-digit, keeps-none, Come, come-numbers, come-text, come-source, come-digit, with_colon}
use Rattle.ratatui_input.proofs.NumberLemmas.{with_semicolon, come-colon, come-semicolon, held_comes, come_one}
use Rattle.ratatui_input.proofs.NothingLemmas.{digit-keeps}
use Rattle.ratatui_input.proofs.TableLemmas.{printed-plain}
use Rattle.ratatui_input.proofs.SequenceLemmas.{csi-some, letter-answer, mouse-stands, keys-stand, pointer-stands}

pub data InSequence : Sequence → List ℕ → Type 0 where
  keys_come : {s : Sequence} {body : List ℕ} → Come Keys s body → InSequence s body
  mouse_comes : {s : Sequence} {body : List ℕ} → Come FromMouse s body → InSequence s (60 ∷ body)
  mark_comes : {s : Sequence} (body : List ℕ) → s.source ≡ Other → InSequence s body

sequence-stands : {s : Sequence} {body : List ℕ} (b : ℕ) → InSequence s body → Stands (csi body b) (sequence_event s b)
unfolding sequence_event
sequence-stands {s = s} {body = body} b (keys_come h) =
    subst (λ (x : Source). Stands (csi body b) (source_event x s b)) (sym (come-source h)) (keys-stand s body b (come-numbers h) (come-text h))
sequence-stands {s = s} b (mouse_comes {body = body} h) =
    subst (λ (x : Source). Stands (csi (60 ∷ body) b) (source_event x s b)) (sym (come-source h))
    (pointer-stands s body b (come-numbers h))
sequence-stands {s = s} b (mark_comes body e) =
    subst (λ (x : Source). Stands (csi body b) (source_event x s b)) (sym e) (not_known (csi-some body b))

-- one further byte in a sequence
abbrev IsPushed : List ℕ → Option Sequence → Type 0
IsPushed body None = Unit {0}
IsPushed body (Some s) = InSequence s body

if-pushed : (body : List ℕ) (t : Bool) (x y : Option Sequence) → (t ≡ true → IsPushed body x) → (t ≡ false → IsPushed body y)
    → IsPushed body (if t then x else y)
if-pushed body true x y f g = f refl
if-pushed body false x y f g = g refl

digit-come : {s : Sequence} {body : List ℕ} (b : ℕ) → InSequence s body → 48 ≤ b → b ≤ 57
    → InSequence (digit_pushed s b) (body ++ (b ∷ []))
digit-come b (keys_come h) low high = keys_come (come-digit b h low high)
digit-come b (mouse_comes h) low high = mouse_comes (come-digit b h low high)
digit-come {s = s} b (mark_comes body e) low high = mark_comes (body ++ (b ∷ [])) (digit-keeps s b e)

semicolon-come : {s : Sequence} {body : List ℕ} → InSequence s body → InSequence (with_semicolon s) (body ++ (59 ∷ []))
semicolon-come (keys_come h) = keys_come (come-semicolon h)
semicolon-come (mouse_comes h) = mouse_comes (come-semicolon h)
semicolon-come (mark_comes body e) = mark_comes (body ++ (59 ∷ [])) e

colon-come : {s : Sequence} {body : List ℕ} → InSequence s body → InSequence (with_colon s) (body ++ (58 ∷ []))
colon-come (keys_come h) = keys_come (come-colon h)
colon-come (mouse_comes h) = mouse_comes (come-colon h)
colon-come (mark_comes body e) = mark_comes (body ++ (58 ∷ [])) e

digit-asked : (b : ℕ) → (nat_le 48 b && nat_le b 57) ≡ true → (48 ≤ b) × (b ≤ 57)
digit-asked b h = grind (arith, nat_tests)

pushed-come : {s : Sequence} {body : List ℕ} (b : ℕ) → InSequence s body → IsPushed (body ++ (b ∷ [])) (pushed s b)
unfolding pushed
pushed-come {s = s} {body = body} b h =
    if-pushed (body ++ (b ∷ [])) (nat_le 48 b && nat_le b 57) _ _ (λ e. let f = digit-asked b e in digit-come b h f.0 f.1)
    (λ n1. if-pushed (body ++ (b ∷ [])) (b == 59) _ _
    (λ e. subst (λ (x : ℕ). InSequence (with_semicolon s) (body ++ (x ∷ []))) (sym (same b 59 e)) (semicolon-come h))
    (λ n2. if-pushed (body ++ (b ∷ [])) (b == 58) _ _
    (λ e. subst (λ (x : ℕ). InSequence (with_colon s) (body ++ (x ∷ []))) (sym (same b 58 e)) (colon-come h))
    (λ n3. if-pushed (body ++ (b ∷ [])) ((nat_le 32 b && nat_le b 47) || (nat_le 60 b && nat_le b 63))
    (Some (record s { source = Other })) None
    (λ e. mark_comes (body ++ (b ∷ [])) refl) (λ e. tt))))

-- a character of which some bytes have come
abbrev pub part : Bool → ℕ → ℕ → ℕ → ℕ → Partial
part alt code left low high = record { is_alt = alt; code = code; left = left; low = low; high = high }

pub data CharacterComes : Bool → Partial → List ℕ → Type 0 where
  one_of_two : {alt : Bool} (b x : ℕ) → 194 ≤ b → b ≤ 223 → x ≡ b - 192 → CharacterComes alt (part alt x 1 128 191) (b ∷ [])
  one_of_three : {alt : Bool} (b x low high : ℕ) → 224 ≤ b → b ≤ 239 → x ≡ b - 224 → 128 ≤ low → high ≤ 191
      → (b ≡ 224 → 160 ≤ low) → (b ≡ 237 → high ≤ 159)
      → CharacterComes alt (part alt x 2 low high) (b ∷ [])
  two_of_three : {alt : Bool} (b c x : ℕ) → 224 ≤ b → b ≤ 239 → 128 ≤ c → c ≤ 191 → (b ≡ 224 → 160 ≤ c) → (b ≡ 237 → c ≤ 159)
      → x ≡ (b - 224) * 64 + (c - 128)
      → CharacterComes alt (part alt x 1 128 191) (b ∷ c ∷ [])
  one_of_four : {alt : Bool} (b x low high : ℕ) → 240 ≤ b → b ≤ 244 → x ≡ b - 240 → 128 ≤ low → high ≤ 191 → (b ≡ 240 → 144 ≤ low)
      → (b ≡ 244 → high ≤ 143)
      → CharacterComes alt (part alt x 3 low high) (b ∷ [])
  two_of_four : {alt : Bool} (b c x : ℕ) → 240 ≤ b → b ≤ 244 → 128 ≤ c → c ≤ 191 → (b ≡ 240 → 144 ≤ c) → (b ≡ 244 → c ≤ 143)
      → x ≡ (b - 240) * 64 + (c - 128)
      → CharacterComes alt (part alt x 2 128 191) (b ∷ c ∷ [])
  three_of_four : {alt : Bool} (b c d x : ℕ) → 240 ≤ b → b ≤ 244 → 128 ≤ c → c ≤ 191 → (b ≡ 240 → 144 ≤ c) → (b ≡ 244 → c ≤ 143)
      → 128 ≤ d → d ≤ 191
      → x ≡ ((b - 240) * 64 + (c - 128)) * 64 + (d - 128)
      → CharacterComes alt (part alt x 1 128 191) (b ∷ c ∷ d ∷ [])

-- bytes with ESC before them, where Alt is held
abbrev pub after_alt : Bool → List ℕ → List ℕ
after_alt true bytes = 27 ∷ bytes
after_alt false bytes = bytes

-- what has come of an event, in each state
pub data HasCome : State → List ℕ → Type 0 where
  nothing : HasCome Ground []
  escape_comes : HasCome Escape (27 ∷ [])
  single_comes : {n : ℕ} {ds : List ℕ} → KeepsNumber ds n → HasCome (Single n) (27 ∷ 79 ∷ ds)
  bracket_comes : HasCome Bracket (27 ∷ 91 ∷ [])
  function_comes : HasCome Function (27 ∷ 91 ∷ 91 ∷ [])
  numbers_come : {s : Sequence} {body : List ℕ} → InSequence s body → HasCome (Numbers s) (27 ∷ 91 ∷ body)
  click_comes : HasCome Click (27 ∷ 91 ∷ 77 ∷ [])
  button_comes : (n : ℕ) → 32 ≤ n → n < 256 → HasCome (ClickButton n) (27 ∷ 91 ∷ 77 ∷ n ∷ [])
  column_comes : (n x : ℕ) → 32 ≤ n → n < 256 → 32 ≤ x → x < 256 → HasCome (ClickColumn n x) (27 ∷ 91 ∷ 77 ∷ n ∷ x ∷ [])
  opened_comes : {opener : ℕ} → IsOpener opener → HasCome (Opened opener) (27 ∷ opener ∷ [])
  text_comes : {opener : ℕ} (t : ℕ) (ts : List ℕ) → IsOpener opener → AreText (t ∷ ts)
      → HasCome (Text (opener == 93) 0) (27 ∷ opener ∷ t ∷ ts)
  text_escape_comes : {opener : ℕ} (t : ℕ) (ts : List ℕ) → IsOpener opener → AreText (t ∷ ts)
      → HasCome TextEscape (27 ∷ opener ∷ t ∷ (ts ++ (27 ∷ [])))
  character_comes : {alt : Bool} {p : Partial} {bytes : List ℕ} → CharacterComes alt p bytes
      → HasCome (Character p) (after_alt alt bytes)

-- what a byte makes of it
abbrev pub Follows : Next → List ℕ → Type 0
Follows (Whole event) bytes = Stands bytes event
Follows (More s) bytes = HasCome s bytes
Follows Apart bytes = Unit {0}

if-follows : (bytes : List ℕ) (t : Bool) (x y : Next) → (t ≡ true → Follows x bytes) → (t ≡ false → Follows y bytes)
    → Follows (if t then x else y) bytes
if-follows bytes true x y f g = f refl
if-follows bytes false x y f g = g refl

control-asked : (b : ℕ) → (nat_le b 31 || (b == 127)) ≡ true → (b < 32) ⊎ (b ≡ 127)
control-asked b h = grind (arith, nat_tests)

control-stands : (alt : Bool) (b : ℕ) → (b < 32) ⊎ (b ≡ 127) → b ≢ 27
    → Stands (after_alt alt (b ∷ [])) (with_alt (control_key b) alt)
control-stands false b low other = grammar_stands (control b low other)
control-stands true b low other = grammar_stands (alt_control b low other)

low-scalar : (c : ℕ) → c < 128 → IsScalar c
low-scalar c h = grind (arith, nat_tests)

typed-stands : (alt : Bool) (b : ℕ) → 32 ≤ b → b ≤ 126 → (alt ≡ true → OpensNothing b)
    → Stands (after_alt alt (b ∷ [])) (with_alt (typed_key b) alt)
typed-stands false b low high other =
    subst (λ (x : List ℕ). Stands x (with_alt (typed_key b) false)) (encode-one b (omega arith))
    (grammar_stands (character b (low-scalar b (omega arith)) (printed-plain b low high)))
typed-stands true b low high other =
    subst (λ (x : List ℕ). Stands (27 ∷ x) (with_alt (typed_key b) true)) (encode-one b (omega arith))
    (grammar_stands (alt_character b (low-scalar b (omega arith)) (printed-plain b low high) (other refl)))

-- the first byte of a character
abbrev IsBegun : Bool → ℕ → Option Partial → Type 0
IsBegun alt b None = Unit {0}
IsBegun alt b (Some p) = CharacterComes alt p (b ∷ [])

if-begun : (alt : Bool) (b : ℕ) (t : Bool) (x y : Option Partial) → (t ≡ true → IsBegun alt b x) → (t ≡ false → IsBegun alt b y)
    → IsBegun alt b (if t then x else y)
if-begun alt b true x y f g = f refl
if-begun alt b false x y f g = g refl

low-five : (b : ℕ) → 194 ≤ b → b ≤ 223 → bit_and b 31 ≡ b - 192
low-five b low high = and_mask b 5 ∙ omega arith

low-four : (b : ℕ) → 224 ≤ b → b ≤ 239 → bit_and b 15 ≡ b - 224
low-four b low high = and_mask b 4 ∙ omega arith

low-three : (b : ℕ) → 240 ≤ b → b ≤ 244 → bit_and b 7 ≡ b - 240
low-three b low high = and_mask b 3 ∙ omega arith

low-six : (b : ℕ) → 128 ≤ b → b ≤ 191 → bit_and b 63 ≡ b - 128
low-six b low high = and_mask b 6 ∙ omega arith

begun-comes : (alt : Bool) (b : ℕ) → IsBegun alt b (begun b alt)
unfolding begun
begun-comes alt b =
    if-begun alt b (lies_in 194 223 b) _ _ (λ e. let f = lies 194 223 b e in
    one_of_two b (bit_and b 31) f.0 f.1 (low-five b f.0 f.1))
    (λ n1. if-begun alt b (b == 224) _ _
    (λ e. let is : b ≡ 224 = same b 224 e in
    one_of_three b 0 160 191 (omega arith) (omega arith) (omega arith) (omega arith) (omega arith) (λ x. omega arith)
    (λ x. omega (arith, x, is)))
    (λ n2. if-begun alt b (b == 237) _ _
    (λ e. let is : b ≡ 237 = same b 237 e in
    one_of_three b 13 128 159 (omega arith) (omega arith) (omega arith) (omega arith) (omega arith) (λ x. omega (arith, x, is))
    (λ x. omega arith))
    (λ n3. if-begun alt b (lies_in 225 239 b) _ _
    (λ e. let f = lies 225 239 b e in
    one_of_three b (bit_and b 15) 128 191 (omega (arith, f.0)) f.1 (low-four b (omega (arith, f.0)) f.1) (omega arith)
    (omega arith)
    (λ x. omega (arith, f.0, x)) (λ x. absurd (differ b 237 n3 x)))
    (λ n4. if-begun alt b (b == 240) _ _
    (λ e. let is : b ≡ 240 = same b 240 e in
    one_of_four b 0 144 191 (omega arith) (omega arith) (omega arith) (omega arith) (omega arith) (λ x. omega arith)
    (λ x. omega (arith, x, is)))
    (λ n5. if-begun alt b (lies_in 241 243 b) _ _
    (λ e. let f = lies 241 243 b e in
    one_of_four b (bit_and b 7) 128 191 (omega (arith, f.0)) (omega (arith, f.1))
    (low-three b (omega (arith, f.0)) (omega (arith, f.1))) (omega arith) (omega arith)
    (λ x. omega (arith, f.0, x)) (λ x. omega (arith, f.1, x)))
    (λ n6. if-begun alt b (b == 244) _ _
    (λ e. let is : b ≡ 244 = same b 244 e in
    one_of_four b 4 128 143 (omega arith) (omega arith) (omega arith) (omega arith) (omega arith) (λ x. omega (arith, x, is))
    (λ x. omega arith))
    (λ n7. tt)))))))

one-some : (b : ℕ) → b ∷ [] ≢ []
one-some b e = cc

beginning-follows : (alt : Bool) (b : ℕ) (o : Option Partial) → IsBegun alt b o
    → Follows (beginning o alt) (after_alt alt (b ∷ []))
beginning-follows alt b (Some p) h = character_comes h
beginning-follows true b None h = tt
beginning-follows false b None h = not_known (one-some b)

at-escape : (alt : Bool) (b : ℕ) → b ≡ 27 → (alt ≡ true → b ≢ 27) → HasCome Escape (after_alt alt (b ∷ []))
at-escape false b e other = subst (λ (x : ℕ). HasCome Escape (x ∷ [])) (sym e) escape_comes
at-escape true b e other = absurd (other refl e)

any-first : (alt : Bool) (b : ℕ) → (alt ≡ true → (b ≢ 27) × OpensNothing b) → Follows (first b alt) (after_alt alt (b ∷ []))
unfolding first
any-first alt b other =
    if-follows (after_alt alt (b ∷ [])) (b == 27) _ _ (λ e. at-escape alt b (same b 27 e) (λ a. (other a).0))
    (λ n1. if-follows (after_alt alt (b ∷ [])) (nat_le b 31 || (b == 127)) _ _ (λ e. control-stands alt b (control-asked b e)
    (differ b 27 n1))
    (λ n2. if-follows (after_alt alt (b ∷ [])) (lies_in 32 126 b) _ _ (λ e. let f = lies 32 126 b e in
    typed-stands alt b f.0 f.1 (λ a. (other a).1))
    (λ n3. beginning-follows alt b (begun b alt) (begun-comes alt b))))

pub first-follows : (b : ℕ) → Follows (first b false) (b ∷ [])
first-follows b = any-first false b (λ e. cc)

escape-follows : (b : ℕ) → Follows (after_escape b) (27 ∷ b ∷ [])
unfolding after_escape
escape-follows b =
    if-follows (27 ∷ b ∷ []) (b == 27) _ _ (λ e. tt)
    (λ n1. if-follows (27 ∷ b ∷ []) (b == 91) _ _ (λ e. subst (λ (x : ℕ). HasCome Bracket (27 ∷ x ∷ []))
    (sym (same b 91 e)) bracket_comes)
    (λ n2. if-follows (27 ∷ b ∷ []) (b == 79) _ _ (λ e. subst (λ (x : ℕ). HasCome (Single 0) (27 ∷ x ∷ [])) (sym (same b 79 e))
    (single_comes keeps-none))
    (λ n3. if-follows (27 ∷ b ∷ []) (opens_string b) _ _ (λ e. opened_comes (opener-asked b e))
    (λ n4. any-first true b (λ a. let other = opener-not b n4 in
    (differ b 27 n1, (differ b 91 n2, differ b 79 n3, other.0, other.1, other.2)))))))

-- a number that is kept whole
kept-least : (ds : List ℕ) (n : ℕ) → value_after (min n (2 ^ 32 - 1)) ds ≡ min (value_from n ds) (2 ^ 32 - 1)
kept-least [] n = refl
kept-least (b ∷ ds) n =
    let e : min (min n (2 ^ 32 - 1) * 10 + (b - 48)) (2 ^ 32 - 1) ≡ min (n * 10 + (b - 48)) (2 ^ 32 - 1) = omega arith in
    ap (λ (m : ℕ). value_after m ds) e ∙ kept-least ds (n * 10 + (b - 48))

writes : {ds : List ℕ} {n : ℕ} → KeepsNumber ds n → n ≤ 256 → WritesNumber ds n
writes {ds = ds} {n = n} h small = record {
  digits = h.digits;
  number = let e : value_after 0 ds ≡ min (value_from 0 ds) (2 ^ 32 - 1) = kept-least ds 0 in let i = h.number in
      omega (arith, e, i);
}

single-some : (bs : List ℕ) → 27 ∷ 79 ∷ bs ≢ []
single-some bs e = cc

single-letter : {ds : List ℕ} {n : ℕ} (b : ℕ) → KeepsNumber ds n → Stands (27 ∷ 79 ∷ (ds ++ (b ∷ []))) (single_event n b)
unfolding single_event letter_event
single-letter {ds = ds} {n = n} b h =
    letter-answer b (letter_key b) 0 n (single-some (ds ++ (b ∷ []))) (letter-of b)
    (λ code letter small. grammar_stands (by_single letter (writes h small) small))
    (λ e small. subst (λ (x : ℕ). Stands (27 ∷ 79 ∷ (ds ++ (x ∷ []))) (key_told Enter false n Press)) (sym e)
    (grammar_stands (single_enter (writes h small) small)))

single-follows : {ds : List ℕ} {n : ℕ} (b : ℕ) → KeepsNumber ds n → Follows (after_single n b) (27 ∷ 79 ∷ (ds ++ (b ∷ [])))
unfolding after_single
single-follows {ds = ds} {n = n} b h =
    if-follows (27 ∷ 79 ∷ (ds ++ (b ∷ []))) (lies_in 48 57 b) _ _ (λ e. let f = lies 48 57 b e in
    single_comes (keeps-digit b h f.0 f.1))
    (λ n1. if-follows (27 ∷ 79 ∷ (ds ++ (b ∷ []))) (lies_in 64 126 b) _ _ (λ e. single-letter b h) (λ n2. tt))

going-follows : (body : List ℕ) (o : Option Sequence) → IsPushed body o → Follows (going_on o) (27 ∷ 91 ∷ body)
going-follows body None h = tt
going-follows body (Some s) h = numbers_come h

sequence-follows : {s : Sequence} {body : List ℕ} (b : ℕ) → InSequence s body
    → Follows (in_sequence s b) (27 ∷ 91 ∷ (body ++ (b ∷ [])))
unfolding in_sequence
sequence-follows {s = s} {body = body} b h =
    if-follows (27 ∷ 91 ∷ (body ++ (b ∷ []))) (lies_in 64 126 b) _ _ (λ e. sequence-stands b h)
    (λ n1. going-follows (body ++ (b ∷ [])) (pushed s b) (pushed-come b h))

bracket-follows : (b : ℕ) → Follows (after_bracket b) (27 ∷ 91 ∷ b ∷ [])
unfolding after_bracket
bracket-follows b =
    if-follows (27 ∷ 91 ∷ b ∷ []) (b == 91) _ _ (λ e. subst (λ (x : ℕ). HasCome Function (27 ∷ 91 ∷ x ∷ []))
    (sym (same b 91 e)) function_comes)
    (λ n1. if-follows (27 ∷ 91 ∷ b ∷ []) (b == 77) _ _ (λ e. subst (λ (x : ℕ). HasCome Click (27 ∷ 91 ∷ x ∷ []))
    (sym (same b 77 e)) click_comes)
    (λ n2. if-follows (27 ∷ 91 ∷ b ∷ []) (b == 60) _ _
    (λ e. subst (λ (x : ℕ). HasCome (Numbers from_mouse) (27 ∷ 91 ∷ x ∷ [])) (sym (same b 60 e))
    (numbers_come (mouse_comes (come_one (held_comes keeps-none)))))
    (λ n3. sequence-follows b (keys_come (come_one (held_comes keeps-none))))))

function-some : (b : ℕ) → 27 ∷ 91 ∷ 91 ∷ b ∷ [] ≢ []
function-some b e = cc

function-follows : (b : ℕ) → Follows (after_function b) (27 ∷ 91 ∷ 91 ∷ b ∷ [])
function-follows b =
    if-follows (27 ∷ 91 ∷ 91 ∷ b ∷ []) (lies_in 65 69 b) _ _ (λ e. let f = lies 65 69 b e in
    grammar_stands (by_console b f.0 f.1))
    (λ n1. if-follows (27 ∷ 91 ∷ 91 ∷ b ∷ []) (lies_in 64 126 b) _ _ (λ e. not_known (function-some b)) (λ n2. tt))

-- the mouse by three bytes
click-follows : (bytes : List ℕ) (b : ℕ) (next : Next) → (32 ≤ b → Follows next bytes) → Follows (after_click b next) bytes
click-follows bytes b next h = if-follows bytes (nat_lt b 32) Apart next (λ e. tt) (λ e. h (not-below b 32 e))

click-some : (n x y : ℕ) → 27 ∷ 91 ∷ 77 ∷ n ∷ x ∷ y ∷ [] ≢ []
click-some n x y e = cc

click-bytes : (n x y : ℕ) → 32 ≤ n → 32 ≤ x → 32 ≤ y
    → 27 ∷ 91 ∷ 77 ∷ (n - 32 + 32) ∷ (x - 32 + 32) ∷ (y - 32 + 32) ∷ [] ≡ 27 ∷ 91 ∷ 77 ∷ n ∷ x ∷ y ∷ []
click-bytes n x y a b c =
    let e : n - 32 + 32 ≡ n = omega arith in
    let f : x - 32 + 32 ≡ x = omega arith in
    let g : y - 32 + 32 ≡ y = omega arith in
    cc

click-stands : (n x y : ℕ) → 32 ≤ n → n < 256 → 32 ≤ x → x < 256 → 32 ≤ y → y < 256
    → Stands (27 ∷ 91 ∷ 77 ∷ n ∷ x ∷ y ∷ []) (mouse_event (n - 32) (x - 32) (y - 32) false)
click-stands n x y a1 a2 b1 b2 c1 c2 =
    mouse-stands (n - 32) (x - 32) (y - 32) false (click-some n x y)
    (λ kind p q r is. subst (λ (bs : List ℕ). Stands bs (mouse_told kind (n - 32) (x - 32) (y - 32))) (click-bytes n x y a1 b1 c1)
    (grammar_stands (by_bytes (n - 32) (x - 32) (y - 32) (omega arith) (omega arith) (omega arith) is)))

after-some : (alt : Bool) (bytes : List ℕ) → bytes ≢ [] → after_alt alt bytes ≢ []
after-some true bytes h e = cc
after-some false bytes h e = h e

plain-stands : (alt : Bool) (c : ℕ) (bytes : List ℕ) → 128 ≤ c → IsScalar c → encode c ≡ bytes → is_control c ≡ false
    → Stands (after_alt alt bytes) (with_alt (typed_key c) alt)
plain-stands false c bytes high scalar_it is plain = subst (λ (x : List ℕ). Stands x (with_alt (typed_key c) false)) is
    (grammar_stands (character c scalar_it plain))
plain-stands true c bytes high scalar_it is plain =
    subst (λ (x : List ℕ). Stands (27 ∷ x) (with_alt (typed_key c) true)) is
    (grammar_stands (alt_character c scalar_it plain (opens-nothing c (inr (omega arith)))))

scalar-answer : (alt : Bool) (c : ℕ) (bytes : List ℕ) (t : Bool) → 128 ≤ c → bytes ≢ []
    → (t ≡ true → IsScalar c × (encode c ≡ bytes))
    → Stands (after_alt alt bytes) (scalar_event (if t then Some c else None) alt)
scalar-answer alt c bytes false high some h = not_known (after-some alt bytes some)
scalar-answer alt c bytes true high some h =
    if-stands (is_control c) Unknown (with_alt (typed_key c) alt) (λ e. not_known (after-some alt bytes some))
    (λ e. plain-stands alt c bytes high (h refl).0 (h refl).1 e)

scalar-stands : (alt : Bool) (code : ℕ) (bytes : List ℕ) → 128 ≤ code → bytes ≢ [] → (IsScalar code → encode code ≡ bytes)
    → Stands (after_alt alt bytes) (character_event code alt)
unfolding character_event
scalar-stands alt code bytes high some h = scalar-answer alt code bytes (is_scalar code) high some
    (λ e. (scalar-is code e, h (scalar-is code e)))

two-some : (a b : ℕ) → a ∷ b ∷ [] ≢ []
two-some a b e = cc

three-some : (a b c : ℕ) → a ∷ b ∷ c ∷ [] ≢ []
three-some a b c e = cc

four-some : (a b c d : ℕ) → a ∷ b ∷ c ∷ d ∷ [] ≢ []
four-some a b c d e = cc

two-are : (a b code : ℕ) → 194 ≤ a → a ≤ 223 → 128 ≤ b → b ≤ 191 → code ≡ (a - 192) * 64 + (b - 128) → encode code ≡ a ∷ b ∷ []
two-are a b code a1 a2 b1 b2 is =
    let p : 192 + code / 64 ≡ a = omega arith in
    let q : 128 + code % 64 ≡ b = omega arith in
    let e = encode-two code (omega arith) (omega arith) in
    cc

three-are : (a b c code : ℕ) → 224 ≤ a → a ≤ 239 → 128 ≤ b → b ≤ 191 → (a ≡ 224 → 160 ≤ b) → 128 ≤ c → c ≤ 191
    → code ≡ ((a - 224) * 64 + (b - 128)) * 64 + (c - 128)
    → encode code ≡ a ∷ b ∷ c ∷ []
three-are a b c code a1 a2 b1 b2 low c1 c2 is =
    let p : 224 + code / 4096 ≡ a = omega arith in
    let q : 128 + code / 64 % 64 ≡ b = omega arith in
    let r : 128 + code % 64 ≡ c = omega arith in
    let least : 2048 ≤ code = elim (cases_eq a 224) [
      | inl e ↦ let l = low e in
          omega (arith, l, e, is)
      | inr n ↦ omega (arith, n, is)
    ] in
    let e = encode-three code least (omega arith) in
    cc

four-are : (a b c d code : ℕ) → 240 ≤ a → a ≤ 244 → 128 ≤ b → b ≤ 191 → (a ≡ 240 → 144 ≤ b) → 128 ≤ c → c ≤ 191 → 128 ≤ d
    → d ≤ 191
    → code ≡ (((a - 240) * 64 + (b - 128)) * 64 + (c - 128)) * 64 + (d - 128)
    → encode code ≡ a ∷ b ∷ c ∷ d ∷ []
four-are a b c d code a1 a2 b1 b2 low c1 c2 d1 d2 is =
    let p : 240 + code / 262144 ≡ a = omega arith in
    let q : 128 + code / 4096 % 64 ≡ b = omega arith in
    let r : 128 + code / 64 % 64 ≡ c = omega arith in
    let s : 128 + code % 64 ≡ d = omega arith in
    let least : 65536 ≤ code = elim (cases_eq a 240) [
      | inl e ↦ let l = low e in
          omega (arith, l, e, is)
      | inr n ↦ omega (arith, n, is)
    ] in
    let e = encode-four code least in
    cc

going-on : (b low high : ℕ) → 128 ≤ low → high ≤ 191 → (nat_lt b 128 || (nat_lt b low || nat_lt high b)) ≡ false
    → (low ≤ b) × (b ≤ high)
going-on b low high x y h = grind (arith, nat_tests)

code-now : (x b : ℕ) → x < 2 ^ 20 → 128 ≤ b → b ≤ 191 → min (x * 64 + bit_and b 63) (2 ^ 32 - 1) ≡ x * 64 + (b - 128)
code-now x b h low high = let e = low-six b low high in omega (arith, e)

character-follows : {alt : Bool} {p : Partial} {bytes : List ℕ} (b : ℕ) → CharacterComes alt p bytes
    → Follows (in_character p b) (after_alt alt (bytes ++ (b ∷ [])))
unfolding in_character
character-follows {alt = alt} b (one_of_two a x a1 a2 is) =
    if-follows (after_alt alt (a ∷ b ∷ [])) (nat_lt b 128 || (nat_lt b 128 || nat_lt 191 b)) _ _ (λ e. tt)
    (λ e. let f = going-on b 128 191 (omega arith) (omega arith) e in
    let c = code-now x b (omega arith) f.0 f.1 in
    scalar-stands alt (min (x * 64 + bit_and b 63) (2 ^ 32 - 1)) (a ∷ b ∷ []) (omega (arith, c, is, f)) (two-some a b)
    (λ s. two-are a b (min (x * 64 + bit_and b 63) (2 ^ 32 - 1)) a1 a2 f.0 f.1 (omega (arith, c, is))))
character-follows {alt = alt} b (one_of_three a x low high a1 a2 is l h l2 h2) =
    if-follows (after_alt alt (a ∷ b ∷ [])) (nat_lt b 128 || (nat_lt b low || nat_lt high b)) _ _ (λ e. tt)
    (λ e. let f = going-on b low high l h e in
    let c = code-now x b (omega arith) (omega (arith, f)) (omega (arith, f)) in
    character_comes (two_of_three a b (min (x * 64 + bit_and b 63) (2 ^ 32 - 1)) a1 a2 (omega (arith, f)) (omega (arith, f))
    (λ e. let m = l2 e in omega (arith, m, f)) (λ e. let m = h2 e in omega (arith, m, f)) (omega (arith, c, is))))
character-follows {alt = alt} b (two_of_three a a' x a1 a2 b1 b2 l2 h2 is) =
    if-follows (after_alt alt (a ∷ a' ∷ b ∷ [])) (nat_lt b 128 || (nat_lt b 128 || nat_lt 191 b)) _ _ (λ e. tt)
    (λ e. let f = going-on b 128 191 (omega arith) (omega arith) e in
    let c = code-now x b (omega arith) f.0 f.1 in
    let are = three-are a a' b (min (x * 64 + bit_and b 63) (2 ^ 32 - 1)) a1 a2 b1 b2 l2 f.0 f.1 (omega (arith, c, is)) in
    scalar-stands alt (min (x * 64 + bit_and b 63) (2 ^ 32 - 1)) (a ∷ a' ∷ b ∷ [])
    (elim (cases_eq a 224) [ inl e ↦ let m = l2 e in omega (arith, m, e, c, is) | inr n ↦ omega (arith, n, c, is) ])
    (three-some a a' b) (λ s. are))
character-follows {alt = alt} b (one_of_four a x low high a1 a2 is l h l2 h2) =
    if-follows (after_alt alt (a ∷ b ∷ [])) (nat_lt b 128 || (nat_lt b low || nat_lt high b)) _ _ (λ e. tt)
    (λ e. let f = going-on b low high l h e in
    let c = code-now x b (omega arith) (omega (arith, f)) (omega (arith, f)) in
    character_comes (two_of_four a b (min (x * 64 + bit_and b 63) (2 ^ 32 - 1)) a1 a2 (omega (arith, f)) (omega (arith, f))
    (λ e. let m = l2 e in omega (arith, m, f)) (λ e. let m = h2 e in omega (arith, m, f)) (omega (arith, c, is))))
character-follows {alt = alt} b (two_of_four a a' x a1 a2 b1 b2 l2 h2 is) =
    if-follows (after_alt alt (a ∷ a' ∷ b ∷ [])) (nat_lt b 128 || (nat_lt b 128 || nat_lt 191 b)) _ _ (λ e. tt)
    (λ e. let f = going-on b 128 191 (omega arith) (omega arith) e in
    let c = code-now x b (omega arith) f.0 f.1 in
    character_comes (three_of_four a a' b (min (x * 64 + bit_and b 63) (2 ^ 32 - 1)) a1 a2 b1 b2 l2 h2 f.0 f.1
    (omega (arith, c, is))))
character-follows {alt = alt} b (three_of_four a a' d x a1 a2 b1 b2 l2 h2 d1 d2 is) =
    if-follows (after_alt alt (a ∷ a' ∷ d ∷ b ∷ [])) (nat_lt b 128 || (nat_lt b 128 || nat_lt 191 b)) _ _ (λ e. tt)
    (λ e. let f = going-on b 128 191 (omega arith) (omega arith) e in
    let c = code-now x b (omega arith) f.0 f.1 in
    let are = four-are a a' d b (min (x * 64 + bit_and b 63) (2 ^ 32 - 1)) a1 a2 b1 b2 l2 d1 d2 f.0 f.1 (omega (arith, c, is)) in
    scalar-stands alt (min (x * 64 + bit_and b 63) (2 ^ 32 - 1)) (a ∷ a' ∷ d ∷ b ∷ [])
    (elim (cases_eq a 240) [ inl e ↦ let m = l2 e in omega (arith, m, e, c, is) | inr n ↦ omega (arith, n, c, is) ])
    (four-some a a' d b) (λ s. are))

after-snoc : (alt : Bool) (bytes : List ℕ) (b : ℕ) → after_alt alt (bytes ++ (b ∷ [])) ≡ after_alt alt bytes ++ (b ∷ [])
after-snoc true bytes b = refl
after-snoc false bytes b = refl

opened-follows : {opener : ℕ} (b : ℕ) → IsOpener opener → Follows (after_opened opener b) (27 ∷ opener ∷ b ∷ [])
opened-follows {opener = opener} b o =
    if-follows (27 ∷ opener ∷ b ∷ []) (may_be_in_string b) _ _ (λ e. text_comes b [] o (text-asked b e, tt)) (λ n. tt)

pub string-some : (opener t : ℕ) (ts : List ℕ) → 27 ∷ opener ∷ t ∷ ts ≢ []
string-some opener t ts e = cc

text-follows : {opener : ℕ} (t : ℕ) (ts : List ℕ) (b : ℕ) → IsOpener opener → AreText (t ∷ ts)
    → Follows (in_text (opener == 93) b) (27 ∷ opener ∷ t ∷ (ts ++ (b ∷ [])))
unfolding in_text
text-follows {opener = opener} t ts b o h =
    let all = 27 ∷ opener ∷ t ∷ (ts ++ (b ∷ [])) in
    if-follows all (may_be_in_string b) _ _ (λ e. text_comes t (ts ++ (b ∷ [])) o (h.0, text-snoc ts b h.1 (text-asked b e)))
    (λ n1. if-follows all (b == 27) _ _
    (λ e. subst (λ (x : ℕ). HasCome TextEscape (27 ∷ opener ∷ t ∷ (ts ++ (x ∷ [])))) (sym (same b 27 e))
    (text_escape_comes t ts o h))
    (λ n2. if-follows all ((b == 7) && (opener == 93)) _ _ (λ e. not_known (string-some opener t (ts ++ (b ∷ []))))
    (λ n3. tt)))

after_text-follows : (come : List ℕ) (b : ℕ) → come ≢ [] → Follows (after_text b) come
after_text-follows come b some = if-follows come (b == 92) _ _ (λ e. not_known some) (λ n. tt)

pub follows : {s : State} {come : List ℕ} → HasCome s come → (b : ℕ) → b < 256 → Follows (stepped s b) (come ++ (b ∷ []))
unfolding stepped
follows nothing b small = first-follows b
follows escape_comes b small = escape-follows b
follows (single_comes h) b small = single-follows b h
follows bracket_comes b small = bracket-follows b
follows function_comes b small = function-follows b
follows (numbers_come h) b small = sequence-follows b h
follows click_comes b small = click-follows (27 ∷ 91 ∷ 77 ∷ b ∷ []) b (More (ClickButton b)) (λ low. button_comes b low small)
follows (button_comes n n1 n2) b small =
    click-follows (27 ∷ 91 ∷ 77 ∷ n ∷ b ∷ []) b (More (ClickColumn n b)) (λ low. column_comes n b n1 n2 low small)
follows (column_comes n x n1 n2 x1 x2) b small =
    click-follows (27 ∷ 91 ∷ 77 ∷ n ∷ x ∷ b ∷ []) b (Whole (mouse_event (n - 32) (x - 32) (b - 32) false))
    (λ low. click-stands n x b n1 n2 x1 x2 low small)
follows (opened_comes o) b small = opened-follows b o
follows (text_comes t ts o h) b small = text-follows t ts b o h
follows (text_escape_comes {opener = opener} t ts o h) b small =
    after_text-follows (27 ∷ opener ∷ t ∷ ((ts ++ (27 ∷ [])) ++ (b ∷ []))) b
    (string-some opener t ((ts ++ (27 ∷ [])) ++ (b ∷ [])))
follows (character_comes {alt = alt} {p = p} {bytes = bytes} h) b small =
    subst (Follows (in_character p b)) (after-snoc alt bytes b) (character-follows b h)

-- a byte with nothing before it is never apart from it
if-joined : (t : Bool) (x y : Next) → IsJoined x → IsJoined y → IsJoined (if t then x else y)
if-joined true x y h k = h
if-joined false x y h k = k

beginning-joined : (o : Option Partial) → IsJoined (beginning o false)
beginning-joined (Some p) = tt
beginning-joined None = tt

pub first-joined : (b : ℕ) → IsJoined (first b false)
unfolding first
first-joined b = if-joined (b == 27) _ _ tt (if-joined (nat_le b 31 || (b == 127)) _ _ tt
    (if-joined (lies_in 32 126 b) _ _ tt (beginning-joined (begun b false))))

-- what has come, where nothing goes on with it
abbrev pub IsCut : Option Event → State → List ℕ → Type 0
IsCut None s come = s ≡ Ground
IsCut (Some e) s come = Stands come e × (come ≢ [])

character-some : {alt : Bool} {p : Partial} {bytes : List ℕ} → CharacterComes alt p bytes → bytes ≢ []
character-some (one_of_two b x h i j) = one-some b
character-some (one_of_three b x low high h i j k l m n) = one-some b
character-some (two_of_three b c x h i j k l m n) = two-some b c
character-some (one_of_four b x low high h i j k l m n) = one-some b
character-some (two_of_four b c x h i j k l m n) = two-some b c
character-some (three_of_four b c d x h i j k l m n o p) = three-some b c d

unknown-cut : {come : List ℕ} → come ≢ [] → Stands come Unknown × (come ≢ [])
unknown-cut some = (not_known some, some)

pub cut-stands : {s : State} {come : List ℕ} → HasCome s come → IsCut (cut s) s come
unfolding cut
cut-stands nothing = refl
cut-stands escape_comes = (escape_stands, λ e. cc)
cut-stands (single_comes {n = n} {ds = ds} h) = (
  if-stands (n == 0) (with_alt (typed_key 79) true) Unknown
      (λ e. let is = same n 0 e in single_stands (writes (subst (KeepsNumber ds) is h) (omega arith)))
      (λ e. not_known (single-some ds)),
  single-some ds,
)
cut-stands bracket_comes = (bracket_stands, λ e. cc)
cut-stands function_comes = unknown-cut (λ e. cc)
cut-stands (numbers_come h) = unknown-cut (λ e. cc)
cut-stands (opened_comes o) = (opener_stands o, λ e. cc)
cut-stands (text_comes t ts o h) = unknown-cut (λ e. cc)
cut-stands (text_escape_comes t ts o h) = unknown-cut (λ e. cc)
cut-stands click_comes = unknown-cut (λ e. cc)
cut-stands (button_comes n n1 n2) = unknown-cut (λ e. cc)
cut-stands (column_comes n x n1 n2 x1 x2) = unknown-cut (λ e. cc)
cut-stands (character_comes {alt = alt} {bytes = bytes} h) = unknown-cut (after-some alt bytes (character-some h))
