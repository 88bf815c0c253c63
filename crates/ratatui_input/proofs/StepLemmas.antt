-- How bytes lead from one state to another, within a paste and outside one.
use Rattle.std.proofs.Common.{◌≡◌, ℕ, ◌+◌, ◌-◌, ◌*◌, ◌^◌, ◌<◌, ◌≤◌, min, Bool, false, List, [], ◌∷◌, ◌++◌, refl, ap, sym, ◌∙◌}
use Rattle.std.proofs.Common.{subst, append_assoc, arith}
use Rattle.std.specs.Int.Bits.{bit_and}
use Rattle.std.proofs.lemmas.Nat.{and_mask}
use Rattle.std.proofs.lemmas.Grind.{common_steps}
use Rattle.ratatui_events.specs.declared.event.Event.{Event}
use Rattle.ratatui_input.specs.declared.decoder.State.{State}
use Rattle.ratatui_input.specs.declared.decoder.State.TheVariants.{Ground, Bracket, Numbers, Single}
use Rattle.ratatui_input.specs.declared.decoder.Decoder.{Decoder}
use Rattle.ratatui_input.specs.Decoding.{Next, Whole, More}
use Rattle.ratatui_input.specs.declared.sequence.Sequence.{Sequence}
use Rattle.ratatui_input.specs.declared.sequence.Source.{Source}
use Rattle.ratatui_input.specs.declared.sequence.Source.TheVariants.{Keys, Mouse as FromMouse}
use Rattle.ratatui_input.specs.Sequences.{sequence_event, pushed, digit_pushed, no_numbers}
use Rattle.ratatui_input.specs.Decoding.{stepped, first, after_escape, after_bracket, in_sequence, after_single, read, byte_told}
use Rattle.ratatui_input.specs.Decoding.{fed_next, decoded, told_event}
use Rattle.ratatui_input.specs.Encodings.{fresh_decoder, Gives, IsDigits, value_after}
use Rattle.ratatui_input.specs.Grammar.{WritesNumber, value_from, csi, three_numbers}
use Rattle.ratatui_input.proofs.TableLemmas.{seq, EndsSequence}

-- a decoder within a paste, or outside one
abbrev pub at : Bool → State → Decoder
at p s = record { state = s; is_pasting = p }

-- the bytes lead from the first state to the second, and tell nothing
pub record Leads (s : State) (bytes : List ℕ) (s' : State) : Type 0 where
  pub to : (p : Bool) (rest : List ℕ) → decoded (at p s) (bytes ++ rest) ≡ decoded (at p s') rest

pub leads-none : (s : State) → Leads s [] s
leads-none s = record { to = λ p rest. refl }

pub leads-one : (s s' : State) (b : ℕ) → stepped s b ≡ More s' → Leads s (b ∷ []) s'
unfolding decoded byte_told
leads-one s s' b e = record {
  to = λ p rest. ap (λ (n : Next). let t = fed_next n s b p in let u = decoded t.1 rest in
      (t.0 ++ u.0, u.1)) e;
}

pub leads-append : (s s' s'' : State) (a b : List ℕ) → Leads s a s' → Leads s' b s'' → Leads s (a ++ b) s''
leads-append s s' s'' a b h k = record {
  to = λ p rest. ap (decoded (at p s)) (append_assoc a b rest) ∙ h.to p (b ++ rest)
      ∙ k.to p rest;
}

pub leads-cons : (s s' s'' : State) (b : ℕ) (bs : List ℕ) → stepped s b ≡ More s' → Leads s' bs s'' → Leads s (b ∷ bs) s''
leads-cons s s' s'' b bs e k = leads-append s s' s'' (b ∷ []) bs (leads-one s s' b e) k

-- a byte that ends an event
pub ends : (p : Bool) (s : State) (b : ℕ) (event : Event) → stepped s b ≡ Whole event
    → decoded (at p s) (b ∷ []) ≡ told_event event Ground p
unfolding decoded byte_told
ends p s b event e = ap (λ (n : Next). let t = fed_next n s b p in (t.0 ++ [], t.1)) e

-- an event that is told as it is, outside a paste
pub record IsPlain (event : Event) : Type 0 where
  pub told : read false event ≡ (event, false)

pub ends-plain : (s : State) (b : ℕ) (event : Event) → stepped s b ≡ Whole event → IsPlain event
    → decoded (at false s) (b ∷ []) ≡ (event ∷ [], fresh_decoder)
ends-plain s b event e plain = ends false s b event e
    ∙ ap (λ (t : Event × Bool). (t.0 ∷ [], record { state = Ground; is_pasting = t.1 })) plain.told

-- ---- numbers

-- where a number doesn't grow above what is kept, what is kept is the number
grows : (ds : List ℕ) (n : ℕ) → n ≤ value_from n ds
grows [] n = omega arith
grows (b ∷ ds) n = let h = grows ds (n * 10 + (b - 48)) in omega (arith, h)

kept-whole : (ds : List ℕ) (n : ℕ) → value_from n ds < 2 ^ 32 → value_after n ds ≡ value_from n ds
kept-whole [] n h = refl
kept-whole (b ∷ ds) n h =
    let low = grows ds (n * 10 + (b - 48)) in
    let same : min (n * 10 + (b - 48)) (2 ^ 32 - 1) ≡ n * 10 + (b - 48) = omega (arith, low) in
    ap (λ (m : ℕ). value_after m ds) same ∙ kept-whole ds (n * 10 + (b - 48)) h

pub digit_of : (b : ℕ) → 48 ≤ b → b ≤ 57 → bit_and b 15 ≡ b - 48
digit_of b low high = and_mask b 4 ∙ omega arith

-- states that differ by a number, to which each digit is added
module _ (state : ℕ → State) (one : (n b : ℕ) → 48 ≤ b → b ≤ 57 → stepped (state n) b ≡ More
    (state (min (n * 10 + (b - 48)) (2 ^ 32 - 1)))) where
  pub digits-kept : (ds : List ℕ) (n : ℕ) → IsDigits ds → Leads (state n) ds (state (value_after n ds))
  digits-kept [] n h = leads-none (state n)
  digits-kept (b ∷ ds) n h = leads-cons (state n) (state (min (n * 10 + (b - 48)) (2 ^ 32 - 1)))
      (state (value_after (min (n * 10 + (b - 48)) (2 ^ 32 - 1)) ds)) b ds
      (one n b h.0 h.1) (digits-kept ds (min (n * 10 + (b - 48)) (2 ^ 32 - 1)) h.2)

  pub digits-from : (ds : List ℕ) (m n : ℕ) → IsDigits ds → value_from m ds ≡ n → n < 2 ^ 32 → Leads (state m) ds (state n)
  digits-from ds m n h e small =
      subst (λ (v : ℕ). Leads (state m) ds (state v)) (kept-whole ds m (subst (λ (v : ℕ). v < 2 ^ 32) (sym e) small) ∙ e)
      (digits-kept ds m h)

  pub number-read : (ds : List ℕ) (n : ℕ) → WritesNumber ds n → n < 2 ^ 32 → Leads (state 0) ds (state n)
  number-read ds n w small = digits-from ds 0 n w.digits w.number small

abbrev pub at_first : Source → ℕ → State
at_first source n = Numbers (seq source 0 0 n 0 0 0)

abbrev pub at_second : Source → ℕ → ℕ → State
at_second source f n = Numbers (seq source 1 0 f n 0 0)

abbrev pub at_third : Source → ℕ → ℕ → ℕ → State
at_third source f s n = Numbers (seq source 2 0 f s n 0)

abbrev pub at_kind : ℕ → ℕ → ℕ → State
at_kind f s n = Numbers (seq Keys 1 1 f s 0 n)

pub first-digit : (source : Source) (n b : ℕ) → 48 ≤ b → b ≤ 57
    → stepped (at_first source n) b ≡ More (at_first source (min (n * 10 + (b - 48)) (2 ^ 32 - 1)))
unfolding stepped in_sequence pushed digit_pushed
first-digit source n b low high = grind (arith, common_steps, digit_of b low high)

pub second-digit : (source : Source) (f n b : ℕ) → 48 ≤ b → b ≤ 57
    → stepped (at_second source f n) b ≡ More (at_second source f (min (n * 10 + (b - 48)) (2 ^ 32 - 1)))
unfolding stepped in_sequence pushed digit_pushed
second-digit source f n b low high = grind (arith, common_steps, digit_of b low high)

third-digit : (source : Source) (f s n b : ℕ) → 48 ≤ b → b ≤ 57
    → stepped (at_third source f s n) b ≡ More (at_third source f s (min (n * 10 + (b - 48)) (2 ^ 32 - 1)))
unfolding stepped in_sequence pushed digit_pushed
third-digit source f s n b low high = grind (arith, common_steps, digit_of b low high)

kind-digit : (f s n b : ℕ) → 48 ≤ b → b ≤ 57
    → stepped (at_kind f s n) b ≡ More (at_kind f s (min (n * 10 + (b - 48)) (2 ^ 32 - 1)))
unfolding stepped in_sequence pushed digit_pushed
kind-digit f s n b low high = grind (arith, common_steps, digit_of b low high)

single-digit : (n b : ℕ) → 48 ≤ b → b ≤ 57 → stepped (Single n) b ≡ More (Single (min (n * 10 + (b - 48)) (2 ^ 32 - 1)))
unfolding stepped after_single
single-digit n b low high = grind (arith, common_steps, digit_of b low high)

pub first-read : (source : Source) (ds : List ℕ) (n : ℕ) → WritesNumber ds n → n < 2 ^ 32
    → Leads (at_first source 0) ds (at_first source n)
first-read source = number-read (at_first source) (first-digit source)

pub single-read : (ds : List ℕ) (n : ℕ) → WritesNumber ds n → n < 2 ^ 32 → Leads (Single 0) ds (Single n)
single-read = number-read Single single-digit

-- a semicolon, and a further number
pub second-read : (source : Source) (f : ℕ) (es : List ℕ) (n : ℕ) → WritesNumber es n → n < 2 ^ 32
    → Leads (at_first source f) (59 ∷ es) (at_second source f n)
unfolding stepped in_sequence pushed
second-read source f es n w small =
    leads-cons (at_first source f) (at_second source f 0) (at_second source f n) 59 es refl (number-read (at_second source f)
    (second-digit source f) es n w small)

pub third-read : (source : Source) (f s : ℕ) (es : List ℕ) (n : ℕ) → WritesNumber es n → n < 2 ^ 32
    → Leads (at_second source f s) (59 ∷ es) (at_third source f s n)
unfolding stepped in_sequence pushed
third-read source f s es n w small =
    leads-cons (at_second source f s) (at_third source f s 0) (at_third source f s n) 59 es refl
    (number-read (at_third source f s) (third-digit source f s) es n w small)

-- a colon, and what the key did
pub kind-read : (f s : ℕ) (es : List ℕ) (n : ℕ) → WritesNumber es n → n < 2 ^ 32
    → Leads (at_second Keys f s) (58 ∷ es) (at_kind f s n)
unfolding stepped in_sequence pushed
kind-read f s es n w small = leads-cons (at_second Keys f s) (at_kind f s 0) (at_kind f s n) 58 es refl (number-read (at_kind f s)
    (kind-digit f s) es n w small)

-- ---- after ESC [

pub bracket-reached : (rest : List ℕ) → decoded fresh_decoder (27 ∷ 91 ∷ rest) ≡ decoded (at false Bracket) rest
unfolding decoded byte_told stepped first after_escape
bracket-reached rest = refl

bracket-digit : (b : ℕ) → 48 ≤ b → b ≤ 57 → stepped Bracket b ≡ More (at_first Keys (b - 48))
unfolding stepped after_bracket in_sequence pushed digit_pushed
bracket-digit b low high = grind (arith, common_steps, digit_of b low high)

-- a first number, and a semicolon and a second one
pub bracket-two : (ds es : List ℕ) (n m : ℕ) → WritesNumber ds n → n < 2 ^ 32 → WritesNumber es m → m < 2 ^ 32
    → Leads Bracket (ds ++ (59 ∷ es)) (at_second Keys n m)
unfolding stepped after_bracket in_sequence pushed
bracket-two [] es n m w small v less =
    leads-cons Bracket (at_second Keys n 0) (at_second Keys n m) 59 es (ap (λ (f : ℕ). More (at_second Keys f 0)) w.number)
    (number-read (at_second Keys n) (second-digit Keys n) es m v less)
bracket-two (b ∷ ds) es n m w small v less =
    leads-append Bracket (at_first Keys n) (at_second Keys n m) (b ∷ ds) (59 ∷ es)
    (leads-cons Bracket (at_first Keys (b - 48)) (at_first Keys n) b ds (bracket-digit b w.digits.0 w.digits.1)
    (digits-from (at_first Keys) (first-digit Keys) ds (b - 48) n w.digits.2 (ap (λ (v : ℕ). value_from v ds) (omega arith)
    ∙ w.number) small))
    (second-read Keys n es m v less)

-- a first number, and a colon
pub bracket-colon : (ds : List ℕ) (n : ℕ) → WritesNumber ds n → n < 2 ^ 32
    → Leads Bracket (ds ++ (58 ∷ [])) (Numbers (seq Keys 0 1 n 0 0 0))
unfolding stepped after_bracket in_sequence pushed
bracket-colon [] n w small =
    leads-one Bracket (Numbers (seq Keys 0 1 n 0 0 0)) 58 (ap (λ (f : ℕ). More (Numbers (seq Keys 0 1 f 0 0 0))) w.number)
bracket-colon (b ∷ ds) n w small =
    leads-append Bracket (at_first Keys n) (Numbers (seq Keys 0 1 n 0 0 0)) (b ∷ ds) (58 ∷ [])
    (leads-cons Bracket (at_first Keys (b - 48)) (at_first Keys n) b ds (bracket-digit b w.digits.0 w.digits.1)
    (digits-from (at_first Keys) (first-digit Keys) ds (b - 48) n w.digits.2 (ap (λ (v : ℕ). value_from v ds) (omega arith)
    ∙ w.number) small))
    (leads-one (at_first Keys n) (Numbers (seq Keys 0 1 n 0 0 0)) 58 refl)

pub bracket-three : (ds es fs : List ℕ) (n m t : ℕ) → WritesNumber ds n → n < 2 ^ 32 → WritesNumber es m → m < 2 ^ 32
    → WritesNumber fs t → t < 2 ^ 32
    → Leads Bracket (three_numbers ds es fs) (at_third Keys n m t)
bracket-three ds es fs n m t w small v less u little =
    subst (λ (bs : List ℕ). Leads Bracket bs (at_third Keys n m t)) (append_assoc ds (59 ∷ es) (59 ∷ fs))
    (leads-append Bracket (at_second Keys n m) (at_third Keys n m t) (ds ++ (59 ∷ es)) (59 ∷ fs)
    (bracket-two ds es n m w small v less) (third-read Keys n m fs t u little))

-- the same after <
pub mouse-three : (ds es fs : List ℕ) (n m t : ℕ) → WritesNumber ds n → n < 2 ^ 32 → WritesNumber es m → m < 2 ^ 32
    → WritesNumber fs t → t < 2 ^ 32
    → Leads Bracket (60 ∷ three_numbers ds es fs) (at_third FromMouse n m t)
unfolding stepped after_bracket
mouse-three ds es fs n m t w small v less u little =
    leads-cons Bracket (at_first FromMouse 0) (at_third FromMouse n m t) 60 (three_numbers ds es fs) refl
    (leads-append (at_first FromMouse 0) (at_first FromMouse n) (at_third FromMouse n m t) ds (59 ∷ (es ++ (59 ∷ fs)))
    (first-read FromMouse ds n w small)
    (leads-append (at_first FromMouse n) (at_second FromMouse n m) (at_third FromMouse n m t) (59 ∷ es) (59 ∷ fs)
    (second-read FromMouse n es m v less)
    (third-read FromMouse n m fs t u little)))

-- the last byte of a sequence
pub last-byte : (q : Sequence) (b : ℕ) → 64 ≤ b → b ≤ 126 → stepped (Numbers q) b ≡ Whole (sequence_event q b)
unfolding stepped in_sequence
last-byte q b low high = grind (arith, common_steps)

pub bracket-last : (b : ℕ) → EndsSequence b → stepped Bracket b ≡ Whole (sequence_event no_numbers b)
unfolding stepped after_bracket in_sequence
bracket-last b h = let low = h.low in let high = h.high in let x = h.no_bracket in let y = h.no_click in
    grind (arith, common_steps)

pub csi-gives : (body : List ℕ) (q : Sequence) (b : ℕ) (event : Event) → Leads Bracket body (Numbers q) → 64 ≤ b → b ≤ 126
    → sequence_event q b ≡ event → IsPlain event
    → Gives (csi body b) (event ∷ [])
csi-gives body q b event h low high e plain = record {
  all = bracket-reached (body ++ (b ∷ [])) ∙ h.to false (b ∷ []) ∙ ends-plain (Numbers q) b event (last-byte q b low high
      ∙ ap Whole e) plain;
}

-- a lone number, or none
pub csi-alone : (ds : List ℕ) (n b : ℕ) (event : Event) → WritesNumber ds n → n < 2 ^ 32 → EndsSequence b
    → sequence_event (seq Keys 0 0 n 0 0 0) b ≡ event → IsPlain event
    → Gives (csi ds b) (event ∷ [])
csi-alone [] n b event w small h e plain = record {
  all = bracket-reached (b ∷ [])
      ∙ ends-plain Bracket b event (bracket-last b h ∙ ap Whole (ap (λ (f : ℕ). sequence_event (seq Keys 0 0 f 0 0 0) b) w.number
      ∙ e)) plain;
}
csi-alone (d ∷ ds) n b event w small h e plain =
    csi-gives (d ∷ ds) (seq Keys 0 0 n 0 0 0) b event
    (leads-cons Bracket (at_first Keys (d - 48)) (at_first Keys n) d ds (bracket-digit d w.digits.0 w.digits.1)
    (digits-from (at_first Keys) (first-digit Keys) ds (d - 48) n w.digits.2 (ap (λ (v : ℕ). value_from v ds) (omega arith)
    ∙ w.number) small))
    h.low h.high e plain
