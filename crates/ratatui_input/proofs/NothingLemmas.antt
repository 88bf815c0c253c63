-- Bytes that belong together and stand for nothing.
use Rattle.std.proofs.Common.{◌≡◌, ◌≢◌, ◌⊎◌, inl, inr, ℕ, ◌+◌, ◌<◌, ◌≤◌, ◌^◌, Bool, true, false, List, [], ◌∷◌, ◌++◌, Option}
use Rattle.std.proofs.Common.{Some, None, refl, ap, ◌∙◌, arith}
use Rattle.std.specs.Prelude.{if◌then◌else◌, ◌==◌, ◌&&◌, ◌||◌, nat_lt}
use Rattle.std.proofs.lemmas.Bool.{cases_lt, cases_eq}
use Rattle.std.proofs.lemmas.Bool.Decides.{nat_tests}
use Rattle.std.proofs.lemmas.Grind.{common_steps}
use Rattle.ratatui_events.specs.declared.event.Event.TheVariants.{Unknown}
use Rattle.ratatui_events.specs.declared.key.KeyCode.{KeyCode}
use Rattle.ratatui_events.specs.declared.key.KeyCode.TheVariants.{BackTab, Up, Down, Right, Left, KeypadBegin, End, Home, F}
use Rattle.ratatui_input.specs.declared.decoder.State.{State}
use Rattle.ratatui_input.specs.declared.decoder.State.TheVariants.{Ground, Bracket, Numbers}
use Rattle.ratatui_input.specs.Decoding.{Whole}
use Rattle.ratatui_input.specs.declared.sequence.Sequence.{Sequence}
use Rattle.ratatui_input.specs.declared.sequence.Source.{Source}
use Rattle.ratatui_input.specs.declared.sequence.Source.TheVariants.{Keys, Other}
use Rattle.ratatui_input.specs.declared.keys.TheConstants.{NUMBERS}
use Rattle.ratatui_input.specs.Keys.{key_at, letter_key, number_key, tab_key}
use Rattle.ratatui_input.specs.Sequences.{keys_event, letter_event, tilde_event, number_key_event, sequence_event, source_event}
use Rattle.ratatui_input.specs.Sequences.{pushed, digit_pushed, no_numbers, key_event, letter_code_event, told_code_event}
use Rattle.ratatui_input.specs.Sequences.{with_shift}
use Rattle.ratatui_input.specs.Decoding.{stepped, first, begun, beginning, after_bracket, in_sequence, going_on, read}
use Rattle.ratatui_input.specs.declared.decoder.Partial.{Partial}
use Rattle.ratatui_input.specs.Encodings.{Gives}
use Rattle.ratatui_input.specs.KeyTables.{IsLetter, IsTilde, IsCode, letter_keys}
use Rattle.ratatui_input.proofs.EntryLemmas.{AllAre, entries-are, ◌▸◌}
use Rattle.ratatui_input.specs.Grammar.{WritesNumber, csi, two_numbers, IsMark, AreNumbers, AreInside, StandsForNothing, stray, string}
use Rattle.ratatui_input.specs.Grammar.{marked, held_by_letter, held_by_tilde, held_by_code, nameless, numberless, IsNameless}
use Rattle.ratatui_input.specs.Grammar.{IsNoTilde}
use Rattle.ratatui_input.proofs.TableLemmas.{none-above, seq, EndsSequence, letter-held, letter-ends, tilde-told, tilde-small}
use Rattle.ratatui_input.proofs.TableLemmas.{code-told, code-small}
use Rattle.ratatui_input.proofs.StepLemmas.{csi-alone, Leads, leads-none, leads-cons, leads-append, IsPlain, ends-plain}
use Rattle.ratatui_input.proofs.StepLemmas.{csi-gives, bracket-two}
use Rattle.ratatui_input.proofs.GrammarLemmas.{code-first}
use Rattle.ratatui_input.proofs.StringLemmas.{string-told}

unknown-plain : IsPlain Unknown
unfolding read
unknown-plain = record { told = refl }

-- ---- a byte that begins no character

begun-none : (b : ℕ) → ((128 ≤ b) × (b ≤ 193)) ⊎ (245 ≤ b) → begun b false ≡ None
unfolding begun
begun-none b h = grind (arith, common_steps)

first-stray : (b : ℕ) → ((128 ≤ b) × (b ≤ 193)) ⊎ (245 ≤ b) → first b false ≡ beginning (begun b false) false
unfolding first
first-stray b h = grind (arith, common_steps)

ground-stray : (b : ℕ) → ((128 ≤ b) × (b ≤ 193)) ⊎ (245 ≤ b) → stepped Ground b ≡ Whole Unknown
unfolding stepped
ground-stray b h = first-stray b h ∙ ap (λ (p : Option Partial). beginning p false) (begun-none b h)

stray-told : (b : ℕ) → ((128 ≤ b) × (b ≤ 193)) ⊎ (245 ≤ b) → Gives (b ∷ []) (Unknown ∷ [])
stray-told b h = record { all = ends-plain Ground b Unknown (ground-stray b h) unknown-plain }

-- ---- a sequence with a mark

-- a byte in a sequence leads on in it, and a sequence with a mark keeps it
pub record Goes (s : Sequence) (b : ℕ) : Type 0 where
  pub next : Sequence
  pub leads : pushed s b ≡ Some next
  pub keeps : s.source ≡ Other → next.source ≡ Other

either : (b : Bool) (x y : Sequence) → x.source ≡ Other → y.source ≡ Other → (if b then x else y).source ≡ Other
either true x y h k = h
either false x y h k = k

pub digit-keeps : (s : Sequence) (b : ℕ) → s.source ≡ Other → (digit_pushed s b).source ≡ Other
unfolding digit_pushed
digit-keeps s b h =
    either ((s.numbers == 0) && (s.parts == 0)) _ _ h
    (either ((s.numbers == 1) && (s.parts == 0)) _ _ h (either (((s.numbers == 0) && (s.parts == 1)) || ((s.numbers == 2) && (s.parts == 0))) _ _ h
    (either ((s.numbers == 1) && (s.parts == 1)) _ _ h h)))

pub digit-goes : (s : Sequence) (b : ℕ) → 48 ≤ b → b ≤ 57 → pushed s b ≡ Some (digit_pushed s b)
unfolding pushed
digit-goes s b low high = grind (arith, nat_tests)

mark-goes : (s : Sequence) (b : ℕ) → ((32 ≤ b) × (b ≤ 47)) ⊎ ((60 ≤ b) × (b ≤ 63))
    → pushed s b ≡ Some (record s { source = Other })
unfolding pushed
mark-goes s b h = grind (arith, nat_tests)

colon-goes : (s : Sequence) → pushed s 58 ≡ Some (record s { parts = if nat_lt s.parts 2 then s.parts + 1 else 2 })
unfolding pushed
colon-goes s = refl

semicolon-goes : (s : Sequence) → pushed s 59 ≡ Some (record s {
  numbers = if nat_lt s.numbers 3 then s.numbers + 1 else 3;
  parts = 0;
  third = if s.numbers == 1 then 0 else s.third;
})
unfolding pushed
semicolon-goes s = refl

pub goes : (s : Sequence) (b : ℕ) → 32 ≤ b → b ≤ 63 → Goes s b
goes s b low high =
    elim (cases_lt b 48) [
      | inl small ↦ record {
        next = record s { source = Other };
        leads = mark-goes s b (inl (low, omega arith));
        keeps = λ h. refl;
      }
      | inr a ↦ elim (cases_lt b 58) [
        | inl digit ↦ record { next = digit_pushed s b; leads = digit-goes s b a (omega arith); keeps = digit-keeps s b }
        | inr c ↦ elim (cases_eq b 58) [
          | inl e ↦ record {
            next = record s { parts = if nat_lt s.parts 2 then s.parts + 1 else 2 };
            leads = ap (pushed s) e ∙ colon-goes s;
            keeps = λ h. h;
          }
          | inr d ↦ elim (cases_eq b 59) [
            | inl e ↦ record {
              next = record s {
                numbers = if nat_lt s.numbers 3 then s.numbers + 1 else 3;
                parts = 0;
                third = if s.numbers == 1 then 0 else s.third;
              };
              leads = ap (pushed s) e ∙ semicolon-goes s;
              keeps = λ h. h;
            }
            | inr f ↦ record {
              next = record s { source = Other };
              leads = mark-goes s b (inr (omega (arith, d, f), high));
              keeps = λ h. refl;
            }
          ]
        ]
      ]
    ]

pub inside-step : (s : Sequence) (b : ℕ) → 32 ≤ b → b ≤ 63 → stepped (Numbers s) b ≡ going_on (pushed s b)
unfolding stepped in_sequence
inside-step s b low high = grind (arith, nat_tests)

pub bracket-step : (b : ℕ) → 32 ≤ b → b ≤ 63 → b ≢ 60 → stepped Bracket b ≡ going_on (pushed no_numbers b)
unfolding stepped after_bracket in_sequence
bracket-step b low high other = grind (arith, nat_tests)

-- where bytes in a sequence lead
record Reaches (from : State) (bytes : List ℕ) : Type 0 where
  to : Sequence
  leads : Leads from bytes (Numbers to)

record Marks (from : State) (bytes : List ℕ) : Type 0 where
  to : Sequence
  leads : Leads from bytes (Numbers to)
  is : to.source ≡ Other

numbers-reach : (bs : List ℕ) (s : Sequence) → AreNumbers bs → Reaches (Numbers s) bs
numbers-reach [] s h = record { to = s; leads = leads-none (Numbers s) }
numbers-reach (b ∷ bs) s h =
    let one = goes s b (omega (arith, h.0)) (omega (arith, h.1)) in
    let rest = numbers-reach bs one.next h.2 in
    record {
      to = rest.to;
      leads = leads-cons (Numbers s) (Numbers one.next) (Numbers rest.to) b bs
          (inside-step s b (omega (arith, h.0)) (omega (arith, h.1)) ∙ ap going_on one.leads) rest.leads;
    }

inside-marks : (bs : List ℕ) (s : Sequence) → AreInside bs → s.source ≡ Other → Marks (Numbers s) bs
inside-marks [] s h e = record { to = s; leads = leads-none (Numbers s); is = e }
inside-marks (b ∷ bs) s h e =
    let one = goes s b h.0 h.1 in
    let rest = inside-marks bs one.next h.2 (one.keeps e) in
    record {
      to = rest.to;
      leads = leads-cons (Numbers s) (Numbers one.next) (Numbers rest.to) b bs (inside-step s b h.0 h.1
          ∙ ap going_on one.leads) rest.leads;
      is = rest.is;
    }

-- a mark, and what follows it
mark-then : (from : State) (s : Sequence) (mark : ℕ) (after : List ℕ) → stepped from mark ≡ going_on (pushed s mark) → IsMark mark
    → AreInside after
    → Marks from (mark ∷ after)
mark-then from s mark after e h k =
    let rest = inside-marks after (record s { source = Other }) k refl in
    record {
      to = rest.to;
      leads = leads-cons from (Numbers (record s { source = Other })) (Numbers rest.to) mark after
          (e ∙ ap going_on (mark-goes s mark (elim h [ inl a ↦ inl a | inr b ↦ inr (omega (arith, b.0), b.1) ]))) rest.leads;
      is = rest.is;
    }

mark-inside : (mark : ℕ) → IsMark mark → (32 ≤ mark) × (mark ≤ 63) × (mark ≢ 60)
mark-inside mark h = (omega (arith, h), omega (arith, h), λ e. omega (arith, h, e))

bracket-marks : (before after : List ℕ) (mark : ℕ) → AreNumbers before → IsMark mark → AreInside after
    → Marks Bracket (before ++ (mark ∷ after))
bracket-marks [] after mark h m k =
    let bounds = mark-inside mark m in mark-then Bracket no_numbers mark after (bracket-step mark bounds.0 bounds.1 bounds.2) m k
bracket-marks (b ∷ bs) after mark h m k =
    let bounds = mark-inside mark m in
    let one = goes no_numbers b (omega (arith, h.0)) (omega (arith, h.1)) in
    let middle = numbers-reach bs one.next h.2 in
    let rest = mark-then (Numbers middle.to) middle.to mark after (inside-step middle.to mark bounds.0 bounds.1) m k in
    record {
      to = rest.to;
      leads = leads-cons Bracket (Numbers one.next) (Numbers rest.to) b (bs ++ (mark ∷ after))
          (bracket-step b (omega (arith, h.0)) (omega (arith, h.1)) (λ e. omega (arith, h.1, e)) ∙ ap going_on one.leads)
          (leads-append (Numbers one.next) (Numbers middle.to) (Numbers rest.to) bs (mark ∷ after) middle.leads rest.leads);
      is = rest.is;
    }

marked-event : (s : Sequence) (b : ℕ) → s.source ≡ Other → sequence_event s b ≡ Unknown
unfolding sequence_event
marked-event s b e = ap (λ (x : Source). source_event x s b) e

marked-told : (before after : List ℕ) (mark last : ℕ) → AreNumbers before → IsMark mark → AreInside after → 64 ≤ last → last ≤ 126
    → Gives (csi (before ++ (mark ∷ after)) last) (Unknown ∷ [])
marked-told before after mark last h m k low high =
    let r = bracket-marks before after mark h m k in
    csi-gives (before ++ (mark ∷ after)) r.to last Unknown r.leads low high (marked-event r.to last r.is) unknown-plain

-- ---- more held than there is to hold

too-many : (k : ℕ) (code : KeyCode) (is_keypad : Bool) (m : ℕ) → 256 < m → key_event k code is_keypad m ≡ Unknown
unfolding key_event
too-many k code is_keypad m h = grind (arith, nat_tests)

shift-stays : (m : ℕ) → 256 < m → with_shift m ≡ m
shift-stays m h = grind (arith, nat_tests)

shift-too-many : (k m : ℕ) → 256 < m → key_event k BackTab false (with_shift m) ≡ Unknown
shift-too-many k m h = ap (key_event k BackTab false) (shift-stays m h) ∙ too-many k BackTab false m h

abbrev IsTooMany : ℕ → KeyCode → Type 0
IsTooMany b code = (k m : ℕ) → 256 < m → letter_code_event (Some code) k m ≡ Unknown

letters-too-many : AllAre IsTooMany letter_keys
unfolding letter_keys
letters-too-many =
    (λ k m h. too-many k Up false m h) ▸ (λ k m h. too-many k Down false m h) ▸ (λ k m h. too-many k Right false m h) ▸
    (λ k m h. too-many k Left false m h) ▸ (λ k m h. too-many k KeypadBegin false m h) ▸
    (λ k m h. too-many k End false m h) ▸ (λ k m h. too-many k Home false m h) ▸ (λ k m h. too-many k (F 1) false m h) ▸
    (λ k m h. too-many k (F 2) false m h) ▸ (λ k m h. too-many k (F 3) false m h) ▸ (λ k m h. too-many k (F 4) false m h) ▸
    shift-too-many ▸ tt

pub letter-too-many : {b : ℕ} {code : KeyCode} → IsLetter b code → (k m : ℕ) → 256 < m
    → letter_code_event (Some code) k m ≡ Unknown
letter-too-many letter k m h = entries-are IsTooMany letters-too-many letter k m h

letter-told : {b m : ℕ} {code : KeyCode} {ds es : List ℕ} → IsLetter b code → WritesNumber ds 1 → WritesNumber es m → 256 < m
    → m < 2 ^ 32
    → Gives (csi (two_numbers ds es) b) (Unknown ∷ [])
letter-told {b = b} {m = m} {ds = ds} {es = es} letter w v many small =
    let ending = letter-ends letter in
    csi-gives (two_numbers ds es) (seq Keys 1 0 1 m 0 0) b Unknown (bracket-two ds es 1 m w (omega arith) v small) ending.low
    ending.high
    (letter-held letter 0 m 0 ∙ letter-too-many letter 0 m many) unknown-plain

tilde-nothing : {n m : ℕ} {code : KeyCode} {ds es : List ℕ} → IsTilde n code → WritesNumber ds n → WritesNumber es m → 256 < m
    → m < 2 ^ 32
    → Gives (csi (two_numbers ds es) 126) (Unknown ∷ [])
tilde-nothing {n = n} {m = m} {code = code} {ds = ds} {es = es} tilde w v many small =
    csi-gives (two_numbers ds es) (seq Keys 1 0 n m 0 0) 126 Unknown (bracket-two ds es n m w (tilde-small tilde) v small)
    (omega arith) (omega arith)
    (tilde-told tilde 1 0 m 0 0 ∙ too-many 0 code false m many) unknown-plain

code-nothing : {n m : ℕ} {code : KeyCode} {is_keypad : Bool} {ds es : List ℕ} → IsCode n code is_keypad → WritesNumber ds n
    → WritesNumber es m → 256 < m → m < 2 ^ 32
    → Gives (csi (two_numbers ds es) 117) (Unknown ∷ [])
code-nothing {n = n} {m = m} {code = code} {is_keypad = is_keypad} {ds = ds} {es = es} c w v many small =
    csi-gives (two_numbers ds es) (seq Keys 1 0 n m 0 0) 117 Unknown (bracket-two ds es n m w (code-small c) v small)
    (omega arith) (omega arith)
    (code-first 1 0 n m 0 0 ∙ ap (λ (o : Option (KeyCode × Bool)). told_code_event o None (seq Keys 1 0 n m 0 0)) (code-told c)
    ∙ too-many 0 (tab_key code m) is_keypad m many) unknown-plain

-- ---- a letter and a number that no key has

nameless-bounds : (b : ℕ) → IsNameless b → EndsSequence b
nameless-bounds b h = record {
  low = omega (arith, h);
  high = omega (arith, h);
  no_bracket = λ e. omega (arith, h, e);
  no_click = λ e. omega (arith, h, e);
}

nameless-key : (b : ℕ) → IsNameless b → letter_key b ≡ None
unfolding key_at
nameless-key b h = grind (arith, nat_tests)

nameless-event : (n b : ℕ) → IsNameless b → sequence_event (seq Keys 0 0 n 0 0 0) b ≡ letter_code_event (letter_key b) 0 n
unfolding sequence_event keys_event letter_event
nameless-event n b h = grind (arith, nat_tests)

nameless-told : {b n : ℕ} {ds : List ℕ} → IsNameless b → WritesNumber ds n → n < 2 ^ 32 → Gives (csi ds b) (Unknown ∷ [])
nameless-told {b = b} {n = n} {ds = ds} h w small =
    csi-alone ds n b Unknown w small (nameless-bounds b h)
    (nameless-event n b h ∙ ap (λ (o : Option KeyCode). letter_code_event o 0 n) (nameless-key b h)) unknown-plain

numberless-key : (n : ℕ) → IsNoTilde n → number_key n ≡ None
unfolding key_at
numberless-key n (inl e) = ap number_key e
numberless-key n (inr (inl e)) = ap number_key e
numberless-key n (inr (inr (inl e))) = ap number_key e
numberless-key n (inr (inr (inr (inl e)))) = ap number_key e
numberless-key n (inr (inr (inr (inr (inl e))))) = ap number_key e
numberless-key n (inr (inr (inr (inr (inr (inl e)))))) = ap number_key e
numberless-key n (inr (inr (inr (inr (inr (inr h)))))) = none-above NUMBERS n refl h.0

numberless-event : (n : ℕ) → IsNoTilde n → sequence_event (seq Keys 0 0 n 0 0 0) 126 ≡ number_key_event (number_key n) 0 0
unfolding sequence_event keys_event tilde_event
numberless-event n h = grind (arith, nat_tests)

tilde-ending : EndsSequence 126
tilde-ending = record {
  low = omega arith;
  high = omega arith;
  no_bracket = λ e. omega (arith, e);
  no_click = λ e. omega (arith, e);
}

numberless-told : {n : ℕ} {ds : List ℕ} → IsNoTilde n → WritesNumber ds n → n < 2 ^ 32 → Gives (csi ds 126) (Unknown ∷ [])
numberless-told {n = n} {ds = ds} h w small =
    csi-alone ds n 126 Unknown w small tilde-ending
    (numberless-event n h ∙ ap (λ (o : Option KeyCode). number_key_event o 0 0) (numberless-key n h)) unknown-plain

pub nothing-told : {bytes : List ℕ} → StandsForNothing bytes → Gives bytes (Unknown ∷ [])
nothing-told (stray b h) = stray-told b h
nothing-told (string b text end o h e) = string-told b text end o h e
nothing-told (marked before after mark last h m k low high) = marked-told before after mark last h m k low high
nothing-told (held_by_letter letter w v many small) = letter-told letter w v many small
nothing-told (held_by_tilde tilde w v many small) = tilde-nothing tilde w v many small
nothing-told (held_by_code c w v many small) = code-nothing c w v many small
nothing-told (nameless h w small) = nameless-told h w small
nothing-told (numberless h w small) = numberless-told h w small
