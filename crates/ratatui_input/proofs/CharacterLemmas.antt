-- Characters by their UTF-8, with Alt and without.
use Rattle.std.proofs.Common.{◌≡◌, ◌≢◌, ◌⊎◌, inl, inr, ℕ, ◌+◌, ◌-◌, ◌*◌, ◌/◌, ◌%◌, ◌^◌, ◌<◌, ◌≤◌, Bool, true, false, List, []}
use Rattle.std.proofs.Common.{◌∷◌, ◌++◌, refl, ap, sym, ◌∙◌, arith}
use lib.Utf8.{encode, scalar, scalar_cases}
use Rattle.std.specs.Int.Bits.{bit_and}
use Rattle.std.specs.Char.{IsScalar, is_control}
use Rattle.std.proofs.lemmas.Nat.{and_mask}
use Rattle.std.proofs.lemmas.Bool.{cases_eq, cases_lt}
use Rattle.std.proofs.lemmas.Bool.Decides.{nat_tests}
use Rattle.std.proofs.lemmas.Grind.{common_steps}
use Rattle.ratatui_events.specs.declared.key.KeyEvent.{KeyEvent}
use Rattle.ratatui_input.specs.declared.decoder.State.{State}
use Rattle.ratatui_input.specs.declared.decoder.State.TheVariants.{Ground, Escape, Character}
use Rattle.ratatui_input.specs.Decoding.{Whole, More}
use Rattle.ratatui_input.specs.Keys.{typed_key, control_key, with_alt}
use Rattle.ratatui_input.specs.Decoding.{stepped, first, begun, partial, after_escape, in_character, character_event, read}
use Rattle.ratatui_input.specs.Decoding.{byte_told, decoded, told_event}
use Rattle.ratatui_input.specs.Encodings.{fresh_decoder, Gives}
use Rattle.ratatui_input.specs.Grammar.{OpensNothing}
use Rattle.ratatui_input.proofs.EncodingLemmas.{first-typed}
use Rattle.ratatui_input.proofs.StepLemmas.{at, Leads, leads-one, leads-cons, ends}

-- the state of a character of which some bytes have come
abbrev waiting : Bool → ℕ → ℕ → ℕ → ℕ → State
waiting alt code left low high = Character (record { is_alt = alt; code = code; left = left; low = low; high = high })

low_five : (q : ℕ) → q < 32 → bit_and (192 + q) 31 ≡ q
low_five q h = and_mask (192 + q) 5 ∙ omega arith

low_four : (q : ℕ) → q < 16 → bit_and (224 + q) 15 ≡ q
low_four q h = and_mask (224 + q) 4 ∙ omega arith

low_three : (q : ℕ) → q < 8 → bit_and (240 + q) 7 ≡ q
low_three q h = and_mask (240 + q) 3 ∙ omega arith

low_six : (r : ℕ) → r < 64 → bit_and (128 + r) 63 ≡ r
low_six r h = and_mask (128 + r) 6 ∙ omega arith

-- ---- the first byte

begun-two : (alt : Bool) (q : ℕ) → 2 ≤ q → q < 32 → begun (192 + q) alt ≡ partial alt (bit_and (192 + q) 31) 1 128 191
unfolding begun
begun-two alt q low high = grind (arith, common_steps)

first-two : (alt : Bool) (q : ℕ) → 2 ≤ q → q < 32 → first (192 + q) alt ≡ More (waiting alt q 1 128 191)
unfolding first
first-two alt q low high = grind (arith, common_steps, begun-two alt q low high, low_five q high)

begun-three : (alt : Bool) (q : ℕ) → 1 ≤ q → q < 16 → q ≢ 13 → begun (224 + q) alt ≡ partial alt (bit_and (224 + q) 15) 2 128 191
unfolding begun
begun-three alt q low high other = grind (arith, common_steps)

first-three : (alt : Bool) (q : ℕ) → 1 ≤ q → q < 16 → q ≢ 13 → first (224 + q) alt ≡ More (waiting alt q 2 128 191)
unfolding first
first-three alt q low high other = grind (arith, common_steps, begun-three alt q low high other, low_four q high)

begun-four : (alt : Bool) (q : ℕ) → 1 ≤ q → q < 4 → begun (240 + q) alt ≡ partial alt (bit_and (240 + q) 7) 3 128 191
unfolding begun
begun-four alt q low high = grind (arith, common_steps)

first-four : (alt : Bool) (q : ℕ) → 1 ≤ q → q < 4 → first (240 + q) alt ≡ More (waiting alt q 3 128 191)
unfolding first
first-four alt q low high = grind (arith, common_steps, begun-four alt q low high, low_three q (omega arith))

first-e0 : (alt : Bool) → first 224 alt ≡ More (waiting alt 0 2 160 191)
unfolding first begun
first-e0 alt = refl

first-ed : (alt : Bool) → first 237 alt ≡ More (waiting alt 13 2 128 159)
unfolding first begun
first-ed alt = refl

first-f0 : (alt : Bool) → first 240 alt ≡ More (waiting alt 0 3 144 191)
unfolding first begun
first-f0 alt = refl

first-f4 : (alt : Bool) → first 244 alt ≡ More (waiting alt 4 3 128 143)
unfolding first begun
first-f4 alt = refl

-- ---- the bytes after it

middle-byte : (alt : Bool) (code left low high r : ℕ) → code < 2 ^ 20 → 1 < left → r < 64 → low ≤ 128 + r → 128 + r ≤ high
    → stepped (waiting alt code left low high) (128 + r) ≡ More (waiting alt (code * 64 + r) (left - 1) 128 191)
unfolding stepped in_character
middle-byte alt code left low high r h l k a b = grind (arith, common_steps, low_six r k)

last-byte : (alt : Bool) (code r : ℕ) → code < 2 ^ 20 → r < 64
    → stepped (waiting alt code 1 128 191) (128 + r) ≡ Whole (character_event (code * 64 + r) alt)
unfolding stepped in_character
last-byte alt code r h k = grind (arith, common_steps, low_six r k)

character-is : (c : ℕ) (alt : Bool) → (c < 55296) ⊎ ((57344 ≤ c) × (c < 1114112)) → is_control c ≡ false
    → character_event c alt ≡ with_alt (typed_key c) alt
unfolding character_event
character-is c alt scalar h = grind (arith, common_steps)

key-told : (key : KeyEvent) (alt : Bool) → told_event (with_alt key alt) Ground false ≡ (with_alt key alt ∷ [], fresh_decoder)
unfolding read
key-told key alt = refl

-- ---- a whole character

-- the state that a character is read from: its first byte is one of a character, with Alt or without
pub record Begins (s : State) (alt : Bool) : Type 0 where
  pub begins : (b : ℕ) → 128 ≤ b → stepped s b ≡ first b alt

-- the last byte, after the others
whole : (p : Bool) (s : State) (alt : Bool) (bytes : List ℕ) (code r c : ℕ) → Leads s bytes (waiting alt code 1 128 191)
    → code < 2 ^ 20 → r < 64 → code * 64 + r ≡ c
    → IsScalar c → is_control c ≡ false
    → decoded (at p s) (bytes ++ ((128 + r) ∷ [])) ≡ told_event (with_alt (typed_key c) alt) Ground p
whole p s alt bytes code r c h low k e scalar plain =
    h.to p ((128 + r) ∷ [])
    ∙ ends p (waiting alt code 1 128 191) (128 + r) (with_alt (typed_key c) alt)
    (last-byte alt code r low k ∙ ap Whole (ap (λ (x : ℕ). character_event x alt) e
    ∙ character-is c alt (scalar_cases c scalar) plain))

pub encode-two : (c : ℕ) → 128 ≤ c → c < 2048 → encode c ≡ (192 + c / 64) ∷ (128 + c % 64) ∷ []
unfolding encode
encode-two c low high = grind (arith, nat_tests)

pub encode-three : (c : ℕ) → 2048 ≤ c → c < 65536 → encode c ≡ (224 + c / 4096) ∷ (128 + c / 64 % 64) ∷ (128 + c % 64) ∷ []
unfolding encode
encode-three c low high = grind (arith, nat_tests)

pub encode-four : (c : ℕ) → 65536 ≤ c → encode c ≡ (240 + c / 262144) ∷ (128 + c / 4096 % 64) ∷ (128 + c / 64 % 64) ∷
    (128 + c % 64) ∷ []
unfolding encode
encode-four c low = grind (arith, nat_tests)

-- the first byte of three, and the bounds of the second
record Second (s : State) (alt : Bool) (first_byte code left r : ℕ) : Type 0 where
  low : ℕ
  high : ℕ
  led : stepped s first_byte ≡ More (waiting alt code left low high)
  above : low ≤ 128 + r
  below : 128 + r ≤ high

second-of_three : (s : State) (alt : Bool) (q r : ℕ) → Begins s alt → q < 16 → (q ≡ 0 → 32 ≤ r) → (q ≡ 13 → r < 32) → r < 64
    → Second s alt (224 + q) q 2 r
second-of_three s alt q r h small zero thirteen k =
    elim (cases_eq q 0) [
      | inl e ↦ record {
        low = 160;
        high = 191;
        led = ap (λ (x : ℕ). stepped s (224 + x)) e ∙ h.begins 224 (omega arith) ∙ first-e0 alt
            ∙ ap (λ (x : ℕ). More (waiting alt x 2 160 191)) (sym e);
        above = let l = zero e in omega (arith, l);
        below = omega arith;
      }
      | inr other ↦ elim (cases_eq q 13) [
        | inl e ↦ record {
          low = 128;
          high = 159;
          led = ap (λ (x : ℕ). stepped s (224 + x)) e ∙ h.begins 237 (omega arith) ∙ first-ed alt
              ∙ ap (λ (x : ℕ). More (waiting alt x 2 128 159)) (sym e);
          above = omega arith;
          below = let l = thirteen e in omega (arith, l);
        }
        | inr none ↦ record {
          low = 128;
          high = 191;
          led = h.begins (224 + q) (omega arith) ∙ first-three alt q (omega (arith, other)) small none;
          above = omega arith;
          below = omega arith;
        }
      ]
    ]

second-of_four : (s : State) (alt : Bool) (q r : ℕ) → Begins s alt → q < 5 → (q ≡ 0 → 16 ≤ r) → (q ≡ 4 → r < 16) → r < 64
    → Second s alt (240 + q) q 3 r
second-of_four s alt q r h small zero four k =
    elim (cases_eq q 0) [
      | inl e ↦ record {
        low = 144;
        high = 191;
        led = ap (λ (x : ℕ). stepped s (240 + x)) e ∙ h.begins 240 (omega arith) ∙ first-f0 alt
            ∙ ap (λ (x : ℕ). More (waiting alt x 3 144 191)) (sym e);
        above = let l = zero e in omega (arith, l);
        below = omega arith;
      }
      | inr other ↦ elim (cases_eq q 4) [
        | inl e ↦ record {
          low = 128;
          high = 143;
          led = ap (λ (x : ℕ). stepped s (240 + x)) e ∙ h.begins 244 (omega arith) ∙ first-f4 alt
              ∙ ap (λ (x : ℕ). More (waiting alt x 3 128 143)) (sym e);
          above = omega arith;
          below = let l = four e in omega (arith, l);
        }
        | inr none ↦ record {
          low = 128;
          high = 191;
          led = h.begins (240 + q) (omega arith) ∙ first-four alt q (omega (arith, other)) (omega (arith, none));
          above = omega arith;
          below = omega arith;
        }
      ]
    ]

two-bytes : (p : Bool) (s : State) (alt : Bool) (c : ℕ) → Begins s alt → IsScalar c → is_control c ≡ false → 128 ≤ c → c < 2048
    → decoded (at p s) (encode c) ≡ told_event (with_alt (typed_key c) alt) Ground p
two-bytes p s alt c h scalar plain low high =
    ap (decoded (at p s)) (encode-two c low high)
    ∙ whole p s alt ((192 + c / 64) ∷ []) (c / 64) (c % 64) c
    (leads-one s (waiting alt (c / 64) 1 128 191) (192 + c / 64) (h.begins (192 + c / 64) (omega arith) ∙ first-two alt (c / 64)
    (omega arith) (omega arith)))
    (omega arith) (omega arith) (omega arith) scalar plain

three-bytes : (p : Bool) (s : State) (alt : Bool) (c : ℕ) → Begins s alt → IsScalar c → is_control c ≡ false → 2048 ≤ c
    → c < 65536
    → decoded (at p s) (encode c) ≡ told_event (with_alt (typed_key c) alt) Ground p
three-bytes p s alt c h scalar plain low high =
    let ranges = scalar_cases c scalar in
    let second = second-of_three s alt (c / 4096) (c / 64 % 64) h (omega arith) (λ e. omega arith) (λ e. omega (arith, ranges))
    (omega arith) in
    ap (decoded (at p s)) (encode-three c low high)
    ∙ whole p s alt ((224 + c / 4096) ∷ (128 + c / 64 % 64) ∷ []) (c / 4096 * 64 + c / 64 % 64) (c % 64) c
    (leads-cons s (waiting alt (c / 4096) 2 second.low second.high) (waiting alt (c / 4096 * 64 + c / 64 % 64) 1 128 191)
    (224 + c / 4096) ((128 + c / 64 % 64) ∷ [])
    second.led (leads-one (waiting alt (c / 4096) 2 second.low second.high) (waiting alt (c / 4096 * 64 + c / 64 % 64) 1 128 191)
    (128 + c / 64 % 64)
    (middle-byte alt (c / 4096) 2 second.low second.high (c / 64 % 64) (omega arith) (omega arith)
    (omega arith) second.above second.below)))
    (omega arith) (omega arith) (omega arith) scalar plain

four-bytes : (p : Bool) (s : State) (alt : Bool) (c : ℕ) → Begins s alt → IsScalar c → is_control c ≡ false → 65536 ≤ c
    → c < 1114112
    → decoded (at p s) (encode c) ≡ told_event (with_alt (typed_key c) alt) Ground p
four-bytes p s alt c h scalar plain low high =
    let second = second-of_four s alt (c / 262144) (c / 4096 % 64) h (omega arith) (λ e. omega arith) (λ e. omega arith)
    (omega arith) in
    ap (decoded (at p s)) (encode-four c low)
    ∙ whole p s alt ((240 + c / 262144) ∷ (128 + c / 4096 % 64) ∷ (128 + c / 64 % 64) ∷ [])
    ((c / 262144 * 64 + c / 4096 % 64) * 64 + c / 64 % 64) (c % 64) c
    (leads-cons s (waiting alt (c / 262144) 3 second.low second.high)
    (waiting alt ((c / 262144 * 64 + c / 4096 % 64) * 64 + c / 64 % 64) 1 128 191)
    (240 + c / 262144) ((128 + c / 4096 % 64) ∷ (128 + c / 64 % 64) ∷ []) second.led
    (leads-cons (waiting alt (c / 262144) 3 second.low second.high) (waiting alt (c / 262144 * 64 + c / 4096 % 64) 2 128 191)
    (waiting alt ((c / 262144 * 64 + c / 4096 % 64) * 64 + c / 64 % 64) 1 128 191) (128 + c / 4096 % 64)
    ((128 + c / 64 % 64) ∷ [])
    (middle-byte alt (c / 262144) 3 second.low second.high (c / 4096 % 64) (omega arith) (omega arith)
    (omega arith) second.above second.below)
    (leads-one (waiting alt (c / 262144 * 64 + c / 4096 % 64) 2 128 191)
    (waiting alt ((c / 262144 * 64 + c / 4096 % 64) * 64 + c / 64 % 64) 1 128 191) (128 + c / 64 % 64)
    (middle-byte alt (c / 262144 * 64 + c / 4096 % 64) 2 128 191 (c / 64 % 64) (omega arith) (omega arith) (omega arith)
    (omega arith) (omega arith)))))
    (omega arith) (omega arith) (omega arith) scalar plain

pub encode-one : (c : ℕ) → c < 128 → encode c ≡ c ∷ []
unfolding encode
encode-one c low = grind (arith, nat_tests)

printed : (c : ℕ) → is_control c ≡ false → c < 128 → (32 ≤ c) × (c ≤ 126)
printed c plain low = grind (arith, nat_tests)

one-byte : (p : Bool) (s : State) (alt : Bool) (c : ℕ) → stepped s c ≡ first c alt → is_control c ≡ false → c < 128
    → decoded (at p s) (encode c) ≡ told_event (with_alt (typed_key c) alt) Ground p
one-byte p s alt c h plain low =
    let bounds = printed c plain low in
    ap (decoded (at p s)) (encode-one c low)
    ∙ ends p s c (with_alt (typed_key c) alt) (h ∙ first-typed c alt bounds.0 bounds.1)

-- a character by its UTF-8
pub character-read : (p : Bool) (s : State) (alt : Bool) (c : ℕ) → Begins s alt → stepped s c ≡ first c alt → IsScalar c
    → is_control c ≡ false
    → decoded (at p s) (encode c) ≡ told_event (with_alt (typed_key c) alt) Ground p
character-read p s alt c h one scalar plain =
    let below : c < 1114112 = let ranges = scalar_cases c scalar in omega (arith, ranges) in
    elim (cases_lt c 128) [
      | inl small ↦ one-byte p s alt c one plain small
      | inr low ↦ elim (cases_lt c 2048) [
        | inl two ↦ two-bytes p s alt c h scalar plain low two
        | inr more ↦ elim (cases_lt c 65536) [
          | inl three ↦ three-bytes p s alt c h scalar plain more three
          | inr four ↦ four-bytes p s alt c h scalar plain four below
        ]
      ]
    ]

pub ground-begins : Begins Ground false
unfolding stepped
ground-begins = record { begins = λ b h. refl }

pub after-escape : (b : ℕ) → b ≢ 27 → OpensNothing b → stepped Escape b ≡ first b true
unfolding stepped after_escape
after-escape b x h =
    let bracket = h.0 in let single = h.1 in let dcs = h.2 in let sos = h.3 in let others = h.4 in
    grind (arith, common_steps)

-- what is below these or above them opens nothing
pub opens-nothing : (b : ℕ) → (b < 79) ⊎ (95 < b) → OpensNothing b
opens-nothing b h = (
  λ e. omega (arith, h, e),
  λ e. omega (arith, h, e),
  λ e. omega (arith, h, e),
  λ e. omega (arith, h, e),
  elim h [ inl low ↦ inl (omega (arith, low)) | inr high ↦ inr high ],
)

escape-begins : Begins Escape true
escape-begins = record {
  begins = λ b h. after-escape b (λ e. omega (arith, e, h)) (opens-nothing b (inr (omega (arith, h))));
}

pub ground-first : (b : ℕ) → stepped Ground b ≡ first b false
unfolding stepped
ground-first b = refl

no-escape : (c : ℕ) → is_control c ≡ false → c ≢ 27
no-escape c plain e = grind (arith, nat_tests)

pub escape-reached : (rest : List ℕ) → decoded fresh_decoder (27 ∷ rest) ≡ decoded (at false Escape) rest
unfolding decoded byte_told stepped first
escape-reached rest = refl

pub character-gives : (c : ℕ) → IsScalar c → is_control c ≡ false → Gives (encode c) (with_alt (typed_key c) false ∷ [])
character-gives c scalar plain = record {
  all = character-read false Ground false c ground-begins (ground-first c) scalar plain
      ∙ key-told (typed_key c) false;
}

pub alt-character-gives : (c : ℕ) → IsScalar c → is_control c ≡ false → OpensNothing c
    → Gives (27 ∷ encode c) (with_alt (typed_key c) true ∷ [])
alt-character-gives c scalar plain x = record {
  all = escape-reached (encode c) ∙ character-read false Escape true c escape-begins (after-escape c (no-escape c plain) x)
      scalar plain
      ∙ key-told (typed_key c) true;
}

-- a control character
pub first-control : (b : ℕ) (alt : Bool) → (b < 32) ⊎ (b ≡ 127) → b ≢ 27 → first b alt ≡ Whole (with_alt (control_key b) alt)
unfolding first
first-control b alt low other = grind (arith, common_steps)

pub control-gives : (b : ℕ) → (b < 32) ⊎ (b ≡ 127) → b ≢ 27 → Gives (b ∷ []) (with_alt (control_key b) false ∷ [])
control-gives b low other = record {
  all = ends false Ground b (with_alt (control_key b) false) (ground-first b ∙ first-control b false low other)
      ∙ key-told (control_key b) false;
}

pub alt-control-gives : (b : ℕ) → (b < 32) ⊎ (b ≡ 127) → b ≢ 27 → Gives (27 ∷ b ∷ []) (with_alt (control_key b) true ∷ [])
alt-control-gives b low other = record {
  all = escape-reached (b ∷ [])
      ∙ ends false Escape b (with_alt (control_key b) true)
      (after-escape b other (opens-nothing b (elim low [ inl l ↦ inl (omega (arith, l)) | inr e ↦ inr (omega (arith, e)) ]))
      ∙ first-control b true low other)
      ∙ key-told (control_key b) true;
}
