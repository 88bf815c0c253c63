-- Each sequence that is tolerated is read as its event.
use Rattle.std.proofs.Common.{◌≡◌, ◌≢◌, ◌⊎◌, inl, inr, ℕ, ◌+◌, ◌-◌, ◌*◌, ◌^◌, min, ◌<◌, ◌≤◌, Bool, true, false, List, [], ◌∷◌}
use Rattle.std.proofs.Common.{◌++◌, Option, Some, None, refl, ap, sym, ◌∙◌, subst, arith}
use Rattle.std.specs.Prelude.{nat_lt, if◌then◌else◌, ◌==◌}
use Rattle.std.proofs.lemmas.Bool.{cases_eq}
use Rattle.std.proofs.lemmas.Bool.Decides.{nat_tests}
use Rattle.std.proofs.lemmas.Grind.{common_steps}
use Rattle.ratatui_events.specs.declared.event.Event.{Event}
use Rattle.ratatui_events.specs.declared.event.Event.TheVariants.{FocusGained, FocusLost, PasteBegun, PasteEnded, Size, Position}
use Rattle.ratatui_events.specs.declared.key.KeyCode.{KeyCode}
use Rattle.ratatui_events.specs.declared.key.KeyCode.TheVariants.{Char}
use Rattle.ratatui_input.specs.declared.decoder.State.{State}
use Rattle.ratatui_input.specs.declared.decoder.State.TheVariants.{Ground, Bracket, Numbers}
use Rattle.ratatui_input.specs.Decoding.{Whole, More}
use Rattle.ratatui_input.specs.declared.sequence.Sequence.{Sequence}
use Rattle.ratatui_input.specs.declared.sequence.Source.{Source}
use Rattle.ratatui_input.specs.declared.sequence.Source.TheVariants.{Keys, Mouse as FromMouse}
use Rattle.ratatui_input.specs.declared.keys.TheConstants.{CODES, KEYPAD}
use Rattle.ratatui_input.specs.Keys.{key_at, code_key, keypad_key, name_key, named_key, pad_key, tab_key}
use Rattle.ratatui_input.specs.Mouse.{mouse_event}
use Rattle.ratatui_input.specs.Encodings.{IsDigits}
use Rattle.ratatui_input.specs.Grammar.{csi, AreCodes, AreNumbers, code_told, typed_told, told_character}
use Rattle.ratatui_input.specs.Sequences.{kind_of, pushed, digit_pushed, no_numbers, sequence_event, keys_event, pointer_event}
use Rattle.ratatui_input.specs.Sequences.{tilde_event, code_event, size_event, position_event}
use Rattle.ratatui_input.specs.Sequences.{code_key_event, told_code_event}
use Rattle.ratatui_input.specs.Decoding.{Told, stepped, first, after_escape, after_bracket, in_sequence, going_on, decoded}
use Rattle.ratatui_input.specs.Decoding.{byte_told, told_event}
use Rattle.ratatui_input.specs.Pieces.{KeepsNumber, Field, plain_field, field_with_codes, HeldField, held_field, held_with_kind}
use Rattle.ratatui_input.specs.Pieces.{held_with_more, HasNumbers, has_one, has_two, has_three, has_more, HasText, has_text, IsCodePoint, named_code}
use Rattle.ratatui_input.specs.Pieces.{private_code}
use Rattle.ratatui_input.specs.Pieces.{Tolerates, any_letter, any_tilde, any_code, any_text, any_other, any_begun, any_ended, any_size}
use Rattle.ratatui_input.specs.Pieces.{any_position, any_plain_mouse, any_down, any_up, any_gained, any_lost}
use Rattle.ratatui_input.proofs.TableLemmas.{seq, letter-says, letter-is, key-is, letter-ends, tilde-told, code-told}
use Rattle.ratatui_input.proofs.StepLemmas.{at, Leads, leads-none, leads-one, leads-cons, leads-append, ends, digit_of}
use Rattle.ratatui_input.proofs.StepLemmas.{digits-kept, first-digit, bracket-last, last-byte}
use Rattle.ratatui_input.proofs.NothingLemmas.{inside-step, digit-goes, bracket-step, goes}
use Rattle.ratatui_input.proofs.GrammarLemmas.{code-first, text-says, mouse-is}
use Rattle.ratatui_input.proofs.ToldLemmas.{told-is}
use Rattle.ratatui_input.proofs.CodeLemmas.{name-of, pad-of}
use Rattle.ratatui_input.proofs.NumberLemmas.{more_parts}

-- ---- digits and colons that mean nothing

-- no digit is taken where so many semicolons and then colons have come
record IsDeaf (numbers parts : ℕ) : Type 0 where
  some : parts ≢ 0
  no_kind : numbers ≡ 1 → parts ≢ 1
  no_shift : numbers ≡ 0 → parts ≢ 1

deaf : (source : Source) (c p n m t k b : ℕ) → IsDeaf c p → digit_pushed (seq source c p n m t k) b ≡ seq source c p n m t k
unfolding digit_pushed
deaf source c p n m t k b h = let x = h.some in let y = h.no_kind in let z = h.no_shift in grind (arith, nat_tests)

two-deaf : (c : ℕ) → IsDeaf c 2
two-deaf c = record { some = λ e. omega (arith, e); no_kind = λ i e. omega (arith, e); no_shift = λ i e. omega (arith, e) }

more-two : (p : ℕ) → p ≢ 0 → more_parts p ≡ 2
more-two p h = grind (arith, nat_tests)

colon-step : (s : Sequence) → stepped (Numbers s) 58 ≡ More
    (Numbers (record s { parts = if nat_lt s.parts 2 then s.parts + 1 else 2 }))
unfolding stepped in_sequence pushed
colon-step s = refl

semicolon-step : (s : Sequence)
    → stepped (Numbers s) 59 ≡ More (Numbers (record s {
      numbers = if nat_lt s.numbers 3 then s.numbers + 1 else 3;
      parts = 0;
      third = if s.numbers == 1 then 0 else s.third;
    }))
unfolding stepped in_sequence pushed
semicolon-step s = refl

digit-step : (s : Sequence) (b : ℕ) → 48 ≤ b → b ≤ 57 → stepped (Numbers s) b ≡ More (Numbers (digit_pushed s b))
digit-step s b low high = inside-step s b (omega arith) (omega arith) ∙ ap going_on (digit-goes s b low high)

-- bytes that lead on with the same numbers
record LeadsOver (from : State) (bytes : List ℕ) (source : Source) (c n m t k : ℕ) : Type 0 where
  parts : ℕ
  leads : Leads from bytes (Numbers (seq source c parts n m t k))

codes-over : (cs : List ℕ) (source : Source) (c p n m t k : ℕ) → AreCodes cs → IsDeaf c p
    → LeadsOver (Numbers (seq source c p n m t k)) cs source c n m t k
codes-over [] source c p n m t k h d = record { parts = p; leads = leads-none (Numbers (seq source c p n m t k)) }
codes-over (b ∷ cs) source c p n m t k h d =
    elim (cases_eq b 58) [
      | inl e ↦
          let rest = codes-over cs source c 2 n m t k h.2 (two-deaf c) in
          record {
            parts = rest.parts;
            leads = leads-cons (Numbers (seq source c p n m t k)) (Numbers (seq source c 2 n m t k))
                (Numbers (seq source c rest.parts n m t k)) b cs
                (ap (stepped (Numbers (seq source c p n m t k))) e ∙ colon-step (seq source c p n m t k)
                ∙ ap (λ (q : ℕ). More (Numbers (seq source c q n m t k))) (more-two p d.some)) rest.leads;
          }
      | inr other ↦
          let rest = codes-over cs source c p n m t k h.2 d in
          record {
            parts = rest.parts;
            leads = leads-cons (Numbers (seq source c p n m t k)) (Numbers (seq source c p n m t k))
                (Numbers (seq source c rest.parts n m t k)) b cs
                (digit-step (seq source c p n m t k) b h.0 (omega (arith, h.1, other)) ∙ ap (λ (s : Sequence). More (Numbers s))
                (deaf source c p n m t k b d)) rest.leads;
          }
    ]

past : (source : Source) (p n m t k b : ℕ) → digit_pushed (seq source 3 p n m t k) b ≡ seq source 3 p n m t k
unfolding digit_pushed
past source p n m t k b = refl

numbers-over : (gs : List ℕ) (source : Source) (p n m t k : ℕ) → AreNumbers gs
    → LeadsOver (Numbers (seq source 3 p n m t k)) gs source 3 n m t k
numbers-over [] source p n m t k h = record { parts = p; leads = leads-none (Numbers (seq source 3 p n m t k)) }
numbers-over (b ∷ gs) source p n m t k h =
    elim (cases_eq b 58) [
      | inl e ↦
          let rest = numbers-over gs source (more_parts p) n m t k h.2 in
          record {
            parts = rest.parts;
            leads = leads-cons (Numbers (seq source 3 p n m t k)) (Numbers (seq source 3 (more_parts p) n m t k))
                (Numbers (seq source 3 rest.parts n m t k)) b gs
                (ap (stepped (Numbers (seq source 3 p n m t k))) e ∙ colon-step (seq source 3 p n m t k)) rest.leads;
          }
      | inr x ↦ elim (cases_eq b 59) [
        | inl e ↦
            let rest = numbers-over gs source 0 n m t k h.2 in
            record {
              parts = rest.parts;
              leads = leads-cons (Numbers (seq source 3 p n m t k)) (Numbers (seq source 3 0 n m t k))
                  (Numbers (seq source 3 rest.parts n m t k)) b gs
                  (ap (stepped (Numbers (seq source 3 p n m t k))) e ∙ semicolon-step (seq source 3 p n m t k)) rest.leads;
            }
        | inr y ↦
            let rest = numbers-over gs source p n m t k h.2 in
            record {
              parts = rest.parts;
              leads = leads-cons (Numbers (seq source 3 p n m t k)) (Numbers (seq source 3 p n m t k))
                  (Numbers (seq source 3 rest.parts n m t k)) b gs
                  (digit-step (seq source 3 p n m t k) b h.0 (omega (arith, h.1, x, y)) ∙ ap (λ (s : Sequence). More (Numbers s))
                  (past source p n m t k b)) rest.leads;
            }
      ]
    ]

-- ---- the numbers

kind-digit : (source : Source) (f s t n b : ℕ) → 48 ≤ b → b ≤ 57
    → stepped (Numbers (seq source 1 1 f s t n)) b ≡ More (Numbers (seq source 1 1 f s t (min (n * 10 + (b - 48)) (2 ^ 32 - 1))))
unfolding stepped in_sequence pushed digit_pushed
kind-digit source f s t n b low high = grind (arith, common_steps, digit_of b low high)

second-digit : (source : Source) (f t n b : ℕ) → 48 ≤ b → b ≤ 57
    → stepped (Numbers (seq source 1 0 f n t 0)) b ≡ More (Numbers (seq source 1 0 f (min (n * 10 + (b - 48)) (2 ^ 32 - 1)) t 0))
unfolding stepped in_sequence pushed digit_pushed
second-digit source f t n b low high = grind (arith, common_steps, digit_of b low high)

shift-digit : (source : Source) (f n b : ℕ) → 48 ≤ b → b ≤ 57
    → stepped (Numbers (seq source 0 1 f 0 n 0)) b ≡ More (Numbers (seq source 0 1 f 0 (min (n * 10 + (b - 48)) (2 ^ 32 - 1)) 0))
unfolding stepped in_sequence pushed digit_pushed
shift-digit source f n b low high = grind (arith, common_steps, digit_of b low high)

third-digit : (source : Source) (f s k n b : ℕ) → 48 ≤ b → b ≤ 57
    → stepped (Numbers (seq source 2 0 f s n k)) b ≡ More (Numbers (seq source 2 0 f s (min (n * 10 + (b - 48)) (2 ^ 32 - 1)) k))
unfolding stepped in_sequence pushed digit_pushed
third-digit source f s k n b low high = grind (arith, common_steps, digit_of b low high)

module _ (state : ℕ → State) (one : (n b : ℕ) → 48 ≤ b → b ≤ 57 → stepped (state n) b ≡ More
    (state (min (n * 10 + (b - 48)) (2 ^ 32 - 1)))) where
  kept-read : (ds : List ℕ) (n : ℕ) → KeepsNumber ds n → Leads (state 0) ds (state n)
  kept-read ds n h = subst (λ (v : ℕ). Leads (state 0) ds (state v)) h.number (digits-kept state one ds 0 h.digits)

shift-over : (source : Source) {ds ks : List ℕ} {n t : ℕ} → KeepsNumber ds n → KeepsNumber ks t
    → Leads (Numbers (seq source 0 0 0 0 0 0)) (ds ++ (58 ∷ ks)) (Numbers (seq source 0 1 n 0 t 0))
shift-over source {ds = ds} {ks = ks} {n = n} {t = t} h i =
    leads-append (Numbers (seq source 0 0 0 0 0 0)) (Numbers (seq source 0 0 n 0 0 0)) (Numbers (seq source 0 1 n 0 t 0)) ds
    (58 ∷ ks)
    (kept-read (λ (v : ℕ). Numbers (seq source 0 0 v 0 0 0)) (first-digit source) ds n h)
    (leads-cons (Numbers (seq source 0 0 n 0 0 0)) (Numbers (seq source 0 1 n 0 0 0)) (Numbers (seq source 0 1 n 0 t 0)) 58 ks
    (colon-step (seq source 0 0 n 0 0 0))
    (kept-read (λ (v : ℕ). Numbers (seq source 0 1 n 0 v 0)) (shift-digit source n) ks t i))

first-over : (source : Source) {ds : List ℕ} {n t : ℕ} → HeldField ds n t
    → LeadsOver (Numbers (seq source 0 0 0 0 0 0)) ds source 0 n 0 t 0
first-over source {ds = ds} {n = n} (held_field h) = record {
  parts = 0;
  leads = kept-read (λ (v : ℕ). Numbers (seq source 0 0 v 0 0 0)) (first-digit source) ds n h;
}
first-over source (held_with_kind h i) = record { parts = 1; leads = shift-over source h i }
first-over source {n = n} {t = t} (held_with_more {ds = ds} {ks = ks} cs h i c) =
    let rest = codes-over cs source 0 2 n 0 t 0 c (two-deaf 0) in
    record {
      parts = rest.parts;
      leads = leads-append (Numbers (seq source 0 0 0 0 0 0)) (Numbers (seq source 0 1 n 0 t 0))
          (Numbers (seq source 0 rest.parts n 0 t 0)) (ds ++ (58 ∷ ks)) (58 ∷ cs)
          (shift-over source h i)
          (leads-cons (Numbers (seq source 0 1 n 0 t 0)) (Numbers (seq source 0 2 n 0 t 0))
          (Numbers (seq source 0 rest.parts n 0 t 0)) 58 cs
          (colon-step (seq source 0 1 n 0 t 0)) rest.leads);
    }

kind-over : (source : Source) (n t : ℕ) {ds ks : List ℕ} {m k : ℕ} → KeepsNumber ds m → KeepsNumber ks k
    → Leads (Numbers (seq source 1 0 n 0 t 0)) (ds ++ (58 ∷ ks)) (Numbers (seq source 1 1 n m t k))
kind-over source n t {ds = ds} {ks = ks} {m = m} {k = k} h i =
    leads-append (Numbers (seq source 1 0 n 0 t 0)) (Numbers (seq source 1 0 n m t 0)) (Numbers (seq source 1 1 n m t k)) ds
    (58 ∷ ks)
    (kept-read (λ (v : ℕ). Numbers (seq source 1 0 n v t 0)) (second-digit source n t) ds m h)
    (leads-cons (Numbers (seq source 1 0 n m t 0)) (Numbers (seq source 1 1 n m t 0)) (Numbers (seq source 1 1 n m t k)) 58 ks
    (colon-step (seq source 1 0 n m t 0))
    (kept-read (λ (v : ℕ). Numbers (seq source 1 1 n m t v)) (kind-digit source n m t) ks k i))

second-over : (source : Source) (n t : ℕ) {es : List ℕ} {m k : ℕ} → HeldField es m k
    → LeadsOver (Numbers (seq source 1 0 n 0 t 0)) es source 1 n m t k
second-over source n t {es = es} {m = m} (held_field h) = record {
  parts = 0;
  leads = kept-read (λ (v : ℕ). Numbers (seq source 1 0 n v t 0)) (second-digit source n t) es m h;
}
second-over source n t (held_with_kind h i) = record { parts = 1; leads = kind-over source n t h i }
second-over source n t {m = m} {k = k} (held_with_more {ds = ds} {ks = ks} cs h i c) =
    let rest = codes-over cs source 1 2 n m t k c (two-deaf 1) in
    record {
      parts = rest.parts;
      leads = leads-append (Numbers (seq source 1 0 n 0 t 0)) (Numbers (seq source 1 1 n m t k))
          (Numbers (seq source 1 rest.parts n m t k)) (ds ++ (58 ∷ ks)) (58 ∷ cs)
          (kind-over source n t h i)
          (leads-cons (Numbers (seq source 1 1 n m t k)) (Numbers (seq source 1 2 n m t k))
          (Numbers (seq source 1 rest.parts n m t k)) 58 cs
          (colon-step (seq source 1 1 n m t k)) rest.leads);
    }

third-over : (source : Source) (n m k : ℕ) {fs : List ℕ} {t : ℕ} → Field fs t
    → LeadsOver (Numbers (seq source 2 0 n m 0 k)) fs source 2 n m t k
third-over source n m k {fs = fs} {t = t} (plain_field h) = record {
  parts = 0;
  leads = kept-read (λ (v : ℕ). Numbers (seq source 2 0 n m v k)) (third-digit source n m k) fs t h;
}
third-over source n m k {t = t} (field_with_codes {ds = ds} cs h i) =
    let rest = codes-over cs source 2 1 n m t k i
    (record { some = λ e. omega (arith, e); no_kind = λ x e. omega (arith, x); no_shift = λ x e. omega (arith, x) }) in
    record {
      parts = rest.parts;
      leads = leads-append (Numbers (seq source 2 0 n m 0 k)) (Numbers (seq source 2 0 n m t k))
          (Numbers (seq source 2 rest.parts n m t k)) ds (58 ∷ cs)
          (kept-read (λ (v : ℕ). Numbers (seq source 2 0 n m v k)) (third-digit source n m k) ds t h)
          (leads-cons (Numbers (seq source 2 0 n m t k)) (Numbers (seq source 2 1 n m t k))
          (Numbers (seq source 2 rest.parts n m t k)) 58 cs
          (colon-step (seq source 2 0 n m t k)) rest.leads);
    }

two-over : (source : Source) {ds es : List ℕ} {n m t k : ℕ} → HeldField ds n t → HeldField es m k
    → LeadsOver (Numbers (seq source 0 0 0 0 0 0)) (ds ++ (59 ∷ es)) source 1 n m t k
two-over source {ds = ds} {es = es} {n = n} {m = m} {t = t} {k = k} f h =
    let a = first-over source f in
    let b = second-over source n t h in
    record {
      parts = b.parts;
      leads = leads-append (Numbers (seq source 0 0 0 0 0 0)) (Numbers (seq source 0 a.parts n 0 t 0))
          (Numbers (seq source 1 b.parts n m t k)) ds (59 ∷ es) a.leads
          (leads-cons (Numbers (seq source 0 a.parts n 0 t 0)) (Numbers (seq source 1 0 n 0 t 0))
          (Numbers (seq source 1 b.parts n m t k)) 59 es
          (semicolon-step (seq source 0 a.parts n 0 t 0)) b.leads);
    }

-- a third number begins
third-begins : (source : Source) {ds es fs : List ℕ} {n m s t k : ℕ} (r : ℕ) → HeldField ds n s → HeldField es m k
    → Leads (Numbers (seq source 2 0 n m 0 k)) fs (Numbers (seq source 2 r n m t k))
    → Leads (Numbers (seq source 0 0 0 0 0 0)) ((ds ++ (59 ∷ es)) ++ (59 ∷ fs)) (Numbers (seq source 2 r n m t k))
third-begins source {ds = ds} {es = es} {fs = fs} {n = n} {m = m} {s = s} {t = t} {k = k} r f h leads =
    let a = two-over source f h in
    leads-append (Numbers (seq source 0 0 0 0 0 0)) (Numbers (seq source 1 a.parts n m s k))
    (Numbers (seq source 2 r n m t k)) (ds ++ (59 ∷ es)) (59 ∷ fs) a.leads
    (leads-cons (Numbers (seq source 1 a.parts n m s k)) (Numbers (seq source 2 0 n m 0 k))
    (Numbers (seq source 2 r n m t k)) 59 fs
    (semicolon-step (seq source 1 a.parts n m s k)) leads)

three-over : (source : Source) {ds es fs : List ℕ} {n m s t k : ℕ} → HeldField ds n s → HeldField es m k → Field fs t
    → LeadsOver (Numbers (seq source 0 0 0 0 0 0)) ((ds ++ (59 ∷ es)) ++ (59 ∷ fs)) source 2 n m t k
three-over source {n = n} {m = m} {k = k} f h g =
    let b = third-over source n m k g in
    record { parts = b.parts; leads = third-begins source b.parts f h b.leads }

numbers-read : (source : Source) {body : List ℕ} {c n m t k : ℕ} → HasNumbers body c n m t k
    → LeadsOver (Numbers (seq source 0 0 0 0 0 0)) body source c n m t k
numbers-read source (has_one f) = first-over source f
numbers-read source (has_two f h) = two-over source f h
numbers-read source (has_three f h g) = three-over source f h g
numbers-read source {n = n} {m = m} {t = t} {k = k} (has_more {ds = ds} {es = es} {fs = fs} gs f h g over) =
    let a = three-over source f h g in
    let b = numbers-over gs source 0 n m t k over in
    record {
      parts = b.parts;
      leads = leads-append (Numbers (seq source 0 0 0 0 0 0)) (Numbers (seq source 2 a.parts n m t k))
          (Numbers (seq source 3 b.parts n m t k))
          ((ds ++ (59 ∷ es)) ++ (59 ∷ fs)) (59 ∷ gs) a.leads
          (leads-cons (Numbers (seq source 2 a.parts n m t k)) (Numbers (seq source 3 0 n m t k))
          (Numbers (seq source 3 b.parts n m t k)) 59 gs
          (semicolon-step (seq source 2 a.parts n m t k)) b.leads);
    }

-- ---- after ESC [

-- numbers are digits, colons and semicolons
numbers-append : (a b : List ℕ) → AreNumbers a → AreNumbers b → AreNumbers (a ++ b)
numbers-append [] b h k = k
numbers-append (x ∷ a) b h k = (h.0, h.1, numbers-append a b h.2 k)

digits-are : (ds : List ℕ) → IsDigits ds → AreNumbers ds
digits-are [] h = tt
digits-are (d ∷ ds) h = (h.0, omega (arith, h.1), digits-are ds h.2)

codes-are : (cs : List ℕ) → AreCodes cs → AreNumbers cs
codes-are [] h = tt
codes-are (d ∷ cs) h = (h.0, omega (arith, h.1), codes-are cs h.2)

joined-are : (a b : List ℕ) (x : ℕ) → 48 ≤ x → x ≤ 59 → AreNumbers a → AreNumbers b → AreNumbers (a ++ (x ∷ b))
joined-are a b x low high h k = numbers-append a (x ∷ b) h (low, high, k)

field-are : {ds : List ℕ} {n : ℕ} → Field ds n → AreNumbers ds
field-are {ds = ds} (plain_field h) = digits-are ds h.digits
field-are (field_with_codes {ds = ds} cs h k) = joined-are ds cs 58 (omega arith) (omega arith) (digits-are ds h.digits)
    (codes-are cs k)

held-are : {ds : List ℕ} {m k : ℕ} → HeldField ds m k → AreNumbers ds
held-are {ds = ds} (held_field h) = digits-are ds h.digits
held-are (held_with_kind {ds = ds} {ks = ks} h i) = joined-are ds ks 58 (omega arith) (omega arith) (digits-are ds h.digits)
    (digits-are ks i.digits)
held-are (held_with_more {ds = ds} {ks = ks} cs h i c) =
    joined-are (ds ++ (58 ∷ ks)) cs 58 (omega arith) (omega arith) (joined-are ds ks 58 (omega arith) (omega arith)
    (digits-are ds h.digits) (digits-are ks i.digits))
    (codes-are cs c)

two-are : {ds es : List ℕ} {n m s k : ℕ} → HeldField ds n s → HeldField es m k → AreNumbers (ds ++ (59 ∷ es))
two-are {ds = ds} {es = es} f h = joined-are ds es 59 (omega arith) (omega arith) (held-are f) (held-are h)

three-are : {ds es fs : List ℕ} {n m s t k : ℕ} → HeldField ds n s → HeldField es m k → Field fs t
    → AreNumbers ((ds ++ (59 ∷ es)) ++ (59 ∷ fs))
three-are {ds = ds} {es = es} {fs = fs} f h g = joined-are (ds ++ (59 ∷ es)) fs 59 (omega arith) (omega arith) (two-are f h)
    (field-are g)

all-are : {body : List ℕ} {c n m t k : ℕ} → HasNumbers body c n m t k → AreNumbers body
all-are (has_one f) = held-are f
all-are (has_two f h) = two-are f h
all-are (has_three f h g) = three-are f h g
all-are (has_more {ds = ds} {es = es} {fs = fs} gs f h g k) =
    joined-are ((ds ++ (59 ∷ es)) ++ (59 ∷ fs)) gs 59 (omega arith) (omega arith) (three-are f h g) k

-- the first byte after ESC [ leads where it leads in a sequence without numbers
bracket-as : (b : ℕ) (bs : List ℕ) (s : State) → 48 ≤ b → b ≤ 59 → Leads (Numbers no_numbers) (b ∷ bs) s
    → Leads Bracket (b ∷ bs) s
bracket-as b bs s low high h =
    let g = goes no_numbers b (omega arith) (omega arith) in
    let one = leads-one Bracket (Numbers g.next) b (bracket-step b (omega arith) (omega arith) (λ e. omega (arith, e))
    ∙ ap going_on g.leads) in
    let other = leads-one (Numbers no_numbers) (Numbers g.next) b (inside-step no_numbers b (omega arith) (omega arith)
    ∙ ap going_on g.leads) in
    record { to = λ p rest. one.to p (bs ++ rest) ∙ sym (other.to p (bs ++ rest)) ∙ h.to p rest }

-- the state and the bytes are those of a sequence that ends with this byte
abbrev sequence_in : State → Sequence
sequence_in (Numbers s) = s
sequence_in state = no_numbers

same-state : (s s' : Sequence) → Leads (Numbers s) [] (Numbers s') → s ≡ s'
unfolding decoded
same-state s s' h = ap (λ (t : Told). sequence_in t.1.state) (h.to false [])

any-bracket : (q : Bool) (rest : List ℕ) → decoded (at q Ground) (27 ∷ 91 ∷ rest) ≡ decoded (at q Bracket) rest
unfolding decoded byte_told stepped first after_escape
any-bracket q rest = refl

csi-from : (q : Bool) (body : List ℕ) (c p n m t k last : ℕ) (event : Event)
    → Leads (Numbers no_numbers) body (Numbers (seq Keys c p n m t k)) → AreNumbers body → 64 ≤ last → last ≤ 126
    → last ≢ 91 → (last ≡ 77 → 2 ≤ c)
    → sequence_event (seq Keys c p n m t k) last ≡ event → decoded (at q Ground) (csi body last) ≡ told_event event Ground q
csi-from q [] c p n m t k last event h are low high no_bracket click is =
    let e = same-state no_numbers (seq Keys c p n m t k) h in
    let none : 0 ≡ c = ap (λ (s : Sequence). s.numbers) e in
    any-bracket q (last ∷ [])
    ∙ ends q Bracket last event
    (bracket-last last (record {
      low = low;
      high = high;
      no_bracket = no_bracket;
      no_click = λ x. let many = click x in
          omega (arith, many, none);
    })
    ∙ ap Whole (ap (λ (s : Sequence). sequence_event s last) e ∙ is))
csi-from q (b ∷ bs) c p n m t k last event h are low high no_bracket click is =
    any-bracket q ((b ∷ bs) ++ (last ∷ []))
    ∙ (bracket-as b bs (Numbers (seq Keys c p n m t k)) are.0 are.1 h).to q (last ∷ [])
    ∙ ends q (Numbers (seq Keys c p n m t k)) last event (last-byte (seq Keys c p n m t k) last low high ∙ ap Whole is)

csi-told : (q : Bool) {body : List ℕ} {c n m t k : ℕ} (last : ℕ) (event : Event) → HasNumbers body c n m t k → 64 ≤ last
    → last ≤ 126 → last ≢ 91 → (last ≡ 77 → 2 ≤ c)
    → ((p : ℕ) → sequence_event (seq Keys c p n m t k) last ≡ event)
    → decoded (at q Ground) (csi body last) ≡ told_event event Ground q
csi-told q {body = body} {c = c} {n = n} {m = m} {t = t} {k = k} last event h low high no_bracket click is =
    let r = numbers-read Keys h in
    csi-from q body c r.parts n m t k last event r.leads (all-are h) low high no_bracket click (is r.parts)

mouse-reached : (q : Bool) (rest : List ℕ)
    → decoded (at q Ground) (27 ∷ 91 ∷ 60 ∷ rest) ≡ decoded (at q (Numbers (seq FromMouse 0 0 0 0 0 0))) rest
unfolding decoded byte_told stepped first after_escape after_bracket
mouse-reached q rest = refl

pointer-told : (q : Bool) {body : List ℕ} {c n m t k : ℕ} (last : ℕ) (event : Event) → HasNumbers body c n m t k → 64 ≤ last
    → last ≤ 126
    → ((p : ℕ) → sequence_event (seq FromMouse c p n m t k) last ≡ event)
    → decoded (at q Ground) (csi (60 ∷ body) last) ≡ told_event event Ground q
pointer-told q {body = body} {c = c} {n = n} {m = m} {t = t} {k = k} last event h low high is =
    let r = numbers-read FromMouse h in
    mouse-reached q (body ++ (last ∷ []))
    ∙ r.leads.to q (last ∷ [])
    ∙ ends q (Numbers (seq FromMouse c r.parts n m t k)) last event (last-byte (seq FromMouse c r.parts n m t k) last low high
    ∙ ap Whole (is r.parts))

-- ---- what each last byte says

-- the key of a code point
no-entry : (o : Option KeyCode) → ((code : KeyCode) → o ≡ Some code → ⊥) → o ≡ None
no-entry None h = refl
no-entry (Some code) h = absurd (h code refl)

private-named : (c : ℕ) → 57344 ≤ c → c < 63744 → named_key None c ≡ Some (Char c, false)
private-named c low high = grind (arith, nat_tests)

point-told : {n : ℕ} {code : KeyCode} {is_keypad : Bool} → IsCodePoint n code is_keypad → code_key n ≡ Some (code, is_keypad)
unfolding code_key keypad_key name_key
point-told (named_code c) = code-told c
point-told (private_code c low high free) =
    ap (λ (o : Option KeyCode). pad_key o (named_key (key_at CODES c) c))
    (no-entry (key_at KEYPAD c) (λ code e. free code true (pad-of c code e)))
    ∙ ap (λ (o : Option KeyCode). named_key o c)
    (no-entry (key_at CODES c) (λ code e. free code false (name-of c code e)))
    ∙ private-named c low high

third-says : {n : ℕ} {code : KeyCode} {is_keypad : Bool} (k m : ℕ) → IsCodePoint n code is_keypad → m ≤ 256
    → code_key_event (code_key n) k m ≡ code_told code is_keypad m (kind_of k)
third-says {code = code} {is_keypad = is_keypad} k m h small =
    ap (λ (o : Option (KeyCode × Bool)). code_key_event o k m) (point-told h) ∙ key-is k (tab_key code m) is_keypad m small

point-says : {n : ℕ} {code : KeyCode} {is_keypad : Bool} (c p m t k : ℕ) → IsCodePoint n code is_keypad → m ≤ 256
    → told_code_event (code_key n) (told_character t) (seq Keys c p n m t k) ≡ typed_told (told_character t) code is_keypad m (kind_of k)
point-says {n = n} {code = code} {is_keypad = is_keypad} c p m t k h small =
    ap (λ (o : Option (KeyCode × Bool)). told_code_event o (told_character t) (seq Keys c p n m t k)) (point-told h)
    ∙ told-is (told_character t) code is_keypad k m small

-- one code point of text
record TextOver (body : List ℕ) (n m t k : ℕ) : Type 0 where
  leads : Leads (Numbers no_numbers) body (Numbers (seq Keys 2 0 n m t k))
  are : AreNumbers body

text-over : {body : List ℕ} {n m t k : ℕ} → HasText body n m t k → TextOver body n m t k
text-over {n = n} {m = m} {t = t} {k = k} (has_text {fs = fs} f h g) = record {
  leads = third-begins Keys 0 f h (kept-read (λ (v : ℕ). Numbers (seq Keys 2 0 n m v k)) (third-digit Keys n m k) fs t g);
  are = three-are f h (plain_field g);
}

other-says : (c p m t k : ℕ) → 2 ≤ c → sequence_event (seq Keys c p 27 m t k) 126 ≡ code_key_event (code_key t) k m
unfolding sequence_event keys_event tilde_event code_event
other-says c p m t k many = grind (arith, nat_tests)

begun-says : (c p m t k : ℕ) → sequence_event (seq Keys c p 200 m t k) 126 ≡ PasteBegun
unfolding sequence_event keys_event tilde_event
begun-says c p m t k = refl

ended-says : (c p m t k : ℕ) → sequence_event (seq Keys c p 201 m t k) 126 ≡ PasteEnded
unfolding sequence_event keys_event tilde_event
ended-says c p m t k = refl

size-says : (c p n m t k : ℕ) → (n ≡ 48) ⊎ (n ≡ 8) → 2 ≤ c → m ≤ 65535 → t ≤ 65535
    → sequence_event (seq Keys c p n m t k) 116 ≡ Size t m
unfolding sequence_event keys_event size_event
size-says c p n m t k h many a b = grind (arith, nat_tests)

position-says : (p n m t k : ℕ) → n ≢ 1 → n ≤ 65535 → m ≤ 65535 → sequence_event (seq Keys 1 p n m t k) 82 ≡ Position (m - 1)
    (n - 1)
unfolding sequence_event keys_event position_event
position-says p n m t k h a b = grind (arith, nat_tests)

plain-says : (c p n m t k : ℕ) → 2 ≤ c → sequence_event (seq Keys c p (n + 32) m t k) 77 ≡ mouse_event n m t false
unfolding sequence_event keys_event
plain-says c p n m t k many = grind (arith, nat_tests)

down-says : (p n m t k : ℕ) → sequence_event (seq FromMouse 2 p n m t k) 77 ≡ mouse_event n m t false
unfolding sequence_event pointer_event
down-says p n m t k = refl

up-says : (p n m t k : ℕ) → sequence_event (seq FromMouse 2 p n m t k) 109 ≡ mouse_event n m t true
unfolding sequence_event pointer_event
up-says p n m t k = refl

gained-says : (p n m t k : ℕ) → sequence_event (seq Keys 0 p n m t k) 73 ≡ FocusGained
unfolding sequence_event keys_event
gained-says p n m t k = refl

lost-says : (p n m t k : ℕ) → sequence_event (seq Keys 0 p n m t k) 79 ≡ FocusLost
unfolding sequence_event keys_event
lost-says p n m t k = refl

-- each is read as its event
pub tolerated-read : {bytes : List ℕ} {event : Event} → Tolerates bytes event → (q : Bool)
    → decoded (at q Ground) bytes ≡ told_event event Ground q
tolerated-read (any_letter {c = c} {n = n} {m = m} {t = t} {k = k} {b = b} h letter report small) q =
    let e = letter-ends letter in
    csi-told q b _ h e.low e.high e.no_bracket (λ x. absurd (e.no_click x))
    (λ p. letter-says letter c p n m t k report ∙ letter-is letter k (if c == 0 then n else m) small)
tolerated-read (any_tilde {c = c} {n = n} {m = m} {t = t} {k = k} {code = code} h tilde small) q =
    csi-told q 126 _ h (omega arith) (omega arith) (λ e. omega (arith, e)) (λ e. omega (arith, e))
    (λ p. tilde-told tilde c p m t k ∙ key-is k code false m small)
tolerated-read (any_code {c = c} {n = n} {m = m} {t = t} {k = k} h code small) q =
    csi-told q 117 _ h (omega arith) (omega arith) (λ e. omega (arith, e)) (λ e. omega (arith, e)) (λ p. code-first c p n m t k
    ∙ point-says c p m t k code small)
tolerated-read (any_text {body = body} {m = m} {t = t} {k = k} h scalar plain small) q =
    let over = text-over h in
    csi-from q body 2 0 0 m t k 117 _ over.leads over.are (omega arith) (omega arith) (λ e. omega (arith, e))
    (λ e. omega (arith, e)) (text-says m t k scalar plain small)
tolerated-read (any_other {c = c} {m = m} {t = t} {k = k} h many code small) q =
    csi-told q 126 _ h (omega arith) (omega arith) (λ e. omega (arith, e)) (λ e. omega (arith, e)) (λ p. other-says c p m t k many
    ∙ third-says k m code small)
tolerated-read (any_begun {c = c} {m = m} {t = t} {k = k} h) q =
    csi-told q 126 _ h (omega arith) (omega arith) (λ e. omega (arith, e)) (λ e. omega (arith, e)) (λ p. begun-says c p m t k)
tolerated-read (any_ended {c = c} {m = m} {t = t} {k = k} h) q =
    csi-told q 126 _ h (omega arith) (omega arith) (λ e. omega (arith, e)) (λ e. omega (arith, e)) (λ p. ended-says c p m t k)
tolerated-read (any_size {c = c} {n = n} {m = m} {t = t} {k = k} h which many a b) q =
    csi-told q 116 _ h (omega arith) (omega arith) (λ e. omega (arith, e)) (λ e. omega (arith, e))
    (λ p. size-says c p n m t k which many a b)
tolerated-read (any_position {n = n} {m = m} {t = t} {k = k} h other a b) q =
    csi-told q 82 _ h (omega arith) (omega arith) (λ e. omega (arith, e)) (λ e. omega (arith, e))
    (λ p. position-says p n m t k other a b)
tolerated-read (any_plain_mouse {c = c} {n = n} {m = m} {t = t} {k = k} {kind = kind} h many a b d is) q =
    csi-told q 77 _ h (omega arith) (omega arith) (λ e. omega (arith, e)) (λ e. many) (λ p. plain-says c p n m t k many
    ∙ mouse-is n m t false kind a b d is)
tolerated-read (any_down {n = n} {m = m} {t = t} {k = k} {kind = kind} h a b d is) q =
    pointer-told q 77 _ h (omega arith) (omega arith) (λ p. down-says p n m t k ∙ mouse-is n m t false kind a b d is)
tolerated-read (any_up {n = n} {m = m} {t = t} {k = k} {kind = kind} h a b d is) q =
    pointer-told q 109 _ h (omega arith) (omega arith) (λ p. up-says p n m t k ∙ mouse-is n m t true kind a b d is)
tolerated-read (any_gained {n = n} {m = m} {t = t} {k = k} h) q =
    csi-told q 73 _ h (omega arith) (omega arith) (λ e. omega (arith, e)) (λ e. omega (arith, e)) (λ p. gained-says p n m t k)
tolerated-read (any_lost {n = n} {m = m} {t = t} {k = k} h) q =
    csi-told q 79 _ h (omega arith) (omega arith) (λ e. omega (arith, e)) (λ e. omega (arith, e)) (λ p. lost-says p n m t k)
