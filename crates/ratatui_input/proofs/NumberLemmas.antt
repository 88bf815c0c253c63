-- The numbers of a sequence, byte by byte.
use Rattle.std.proofs.Common.{◌≡◌, ℕ, ◌+◌, ◌-◌, ◌*◌, ◌^◌, min, ◌≤◌, List, [], ◌∷◌, ◌++◌, refl, ap, sym, ◌∙◌, subst, append_assoc}
use Rattle.std.proofs.Common.{arith}
use Rattle.std.specs.Prelude.{nat_lt, if◌then◌else◌, ◌==◌}
use Rattle.ratatui_input.specs.declared.sequence.Sequence.{Sequence}
use Rattle.ratatui_input.specs.declared.sequence.Source.{Source}
use Rattle.ratatui_input.specs.Encodings.{IsDigits, value_after}
use Rattle.ratatui_input.specs.Grammar.{AreCodes, AreNumbers}
use Rattle.ratatui_input.specs.Sequences.{with_digit, digit_pushed}
use Rattle.ratatui_input.specs.Pieces.{KeepsNumber, Field, plain_field, field_with_codes, HeldField, held_field, held_with_kind}
use Rattle.ratatui_input.specs.Pieces.{held_with_more, HasNumbers, has_one, has_two, has_three, has_more, HasText, has_text}
use Rattle.ratatui_input.proofs.TableLemmas.{seq}
use Rattle.ratatui_input.proofs.StepLemmas.{digit_of}

value-snoc : (ds : List ℕ) (n b : ℕ) → value_after n (ds ++ (b ∷ [])) ≡ min (value_after n ds * 10 + (b - 48)) (2 ^ 32 - 1)
value-snoc [] n b = refl
value-snoc (d ∷ ds) n b = value-snoc ds (min (n * 10 + (d - 48)) (2 ^ 32 - 1)) b

digits-snoc : (ds : List ℕ) (b : ℕ) → IsDigits ds → 48 ≤ b → b ≤ 57 → IsDigits (ds ++ (b ∷ []))
digits-snoc [] b h low high = (low, high, tt)
digits-snoc (d ∷ ds) b h low high = (h.0, h.1, digits-snoc ds b h.2 low high)

pub keeps-digit : {ds : List ℕ} {n : ℕ} (b : ℕ) → KeepsNumber ds n → 48 ≤ b → b ≤ 57
    → KeepsNumber (ds ++ (b ∷ [])) (with_digit n b)
keeps-digit {ds = ds} {n = n} b h low high = record {
  digits = digits-snoc ds b h.digits low high;
  number = value-snoc ds 0 b ∙ ap (λ (v : ℕ). min (v * 10 + (b - 48)) (2 ^ 32 - 1)) h.number
      ∙ ap (λ (d : ℕ). min (n * 10 + d) (2 ^ 32 - 1)) (sym (digit_of b low high));
}

pub keeps-none : KeepsNumber [] 0
keeps-none = record { digits = tt; number = refl }

codes-snoc : (cs : List ℕ) (b : ℕ) → AreCodes cs → 48 ≤ b → b ≤ 58 → AreCodes (cs ++ (b ∷ []))
codes-snoc [] b h low high = (low, high, tt)
codes-snoc (c ∷ cs) b h low high = (h.0, h.1, codes-snoc cs b h.2 low high)

numbers-snoc : (cs : List ℕ) (b : ℕ) → AreNumbers cs → 48 ≤ b → b ≤ 59 → AreNumbers (cs ++ (b ∷ []))
numbers-snoc [] b h low high = (low, high, tt)
numbers-snoc (c ∷ cs) b h low high = (h.0, h.1, numbers-snoc cs b h.2 low high)

-- a field, of which so many colons have come, 2 for more
pub data FieldComes : ℕ → List ℕ → ℕ → Type 0 where
  field_comes : {ds : List ℕ} {n : ℕ} → KeepsNumber ds n → FieldComes 0 ds n
  codes_come : {ds : List ℕ} {n : ℕ} (cs : List ℕ) → KeepsNumber ds n → AreCodes cs → FieldComes 1 (ds ++ (58 ∷ cs)) n
  more_codes_come : {ds : List ℕ} {n : ℕ} (cs : List ℕ) → KeepsNumber ds n → AreCodes cs → FieldComes 2 (ds ++ (58 ∷ cs)) n

pub data HeldComes : ℕ → List ℕ → ℕ → ℕ → Type 0 where
  held_comes : {ds : List ℕ} {m : ℕ} → KeepsNumber ds m → HeldComes 0 ds m 0
  kind_comes : {ds ks : List ℕ} {m k : ℕ} → KeepsNumber ds m → KeepsNumber ks k → HeldComes 1 (ds ++ (58 ∷ ks)) m k
  more_kinds_come : {ds ks : List ℕ} {m k : ℕ} (cs : List ℕ) → KeepsNumber ds m → KeepsNumber ks k → AreCodes cs
      → HeldComes 2 ((ds ++ (58 ∷ ks)) ++ (58 ∷ cs)) m k

field-whole : {p n : ℕ} {ds : List ℕ} → FieldComes p ds n → Field ds n
field-whole (field_comes h) = plain_field h
field-whole (codes_come cs h k) = field_with_codes cs h k
field-whole (more_codes_come cs h k) = field_with_codes cs h k

held-whole : {p m k : ℕ} {ds : List ℕ} → HeldComes p ds m k → HeldField ds m k
held-whole (held_comes h) = held_field h
held-whole (kind_comes h i) = held_with_kind h i
held-whole (more_kinds_come cs h i c) = held_with_more cs h i c

-- a number grows only before a colon
field-digit : {p n : ℕ} {ds : List ℕ} (b : ℕ) → FieldComes p ds n → 48 ≤ b → b ≤ 57
    → FieldComes p (ds ++ (b ∷ [])) (if p == 0 then with_digit n b else n)
field-digit b (field_comes h) low high = field_comes (keeps-digit b h low high)
field-digit {n = n} b (codes_come {ds = ds} cs h k) low high =
    subst (λ (x : List ℕ). FieldComes 1 x n) (sym (append_assoc ds (58 ∷ cs) (b ∷ [])))
    (codes_come (cs ++ (b ∷ [])) h (codes-snoc cs b k low (omega arith)))
field-digit {n = n} b (more_codes_come {ds = ds} cs h k) low high =
    subst (λ (x : List ℕ). FieldComes 2 x n) (sym (append_assoc ds (58 ∷ cs) (b ∷ [])))
    (more_codes_come (cs ++ (b ∷ [])) h (codes-snoc cs b k low (omega arith)))

abbrev pub more_parts : ℕ → ℕ
more_parts p = if nat_lt p 2 then p + 1 else 2

field-colon : {p n : ℕ} {ds : List ℕ} → FieldComes p ds n → FieldComes (more_parts p) (ds ++ (58 ∷ [])) n
field-colon (field_comes h) = codes_come [] h tt
field-colon {n = n} (codes_come {ds = ds} cs h k) =
    subst (λ (x : List ℕ). FieldComes 2 x n) (sym (append_assoc ds (58 ∷ cs) (58 ∷ [])))
    (more_codes_come (cs ++ (58 ∷ [])) h (codes-snoc cs 58 k (omega arith) (omega arith)))
field-colon {n = n} (more_codes_come {ds = ds} cs h k) =
    subst (λ (x : List ℕ). FieldComes 2 x n) (sym (append_assoc ds (58 ∷ cs) (58 ∷ [])))
    (more_codes_come (cs ++ (58 ∷ [])) h (codes-snoc cs 58 k (omega arith) (omega arith)))

held-digit : {p m k : ℕ} {ds : List ℕ} (b : ℕ) → HeldComes p ds m k → 48 ≤ b → b ≤ 57
    → HeldComes p (ds ++ (b ∷ [])) (if p == 0 then with_digit m b else m) (if p == 1 then with_digit k b else k)
held-digit b (held_comes h) low high = held_comes (keeps-digit b h low high)
held-digit {m = m} {k = k} b (kind_comes {ds = ds} {ks = ks} h i) low high =
    subst (λ (x : List ℕ). HeldComes 1 x m (with_digit k b)) (sym (append_assoc ds (58 ∷ ks) (b ∷ [])))
    (kind_comes h (keeps-digit b i low high))
held-digit {m = m} {k = k} b (more_kinds_come {ds = ds} {ks = ks} cs h i c) low high =
    subst (λ (x : List ℕ). HeldComes 2 x m k) (sym (append_assoc (ds ++ (58 ∷ ks)) (58 ∷ cs) (b ∷ [])))
    (more_kinds_come (cs ++ (b ∷ [])) h i (codes-snoc cs b c low (omega arith)))

held-colon : {p m k : ℕ} {ds : List ℕ} → HeldComes p ds m k → HeldComes (more_parts p) (ds ++ (58 ∷ [])) m k
held-colon (held_comes h) = kind_comes h keeps-none
held-colon (kind_comes h i) = more_kinds_come [] h i tt
held-colon {m = m} {k = k} (more_kinds_come {ds = ds} {ks = ks} cs h i c) =
    subst (λ (x : List ℕ). HeldComes 2 x m k) (sym (append_assoc (ds ++ (58 ∷ ks)) (58 ∷ cs) (58 ∷ [])))
    (more_kinds_come (cs ++ (58 ∷ [])) h i (codes-snoc cs 58 c (omega arith) (omega arith)))

-- what stands in a sequence
pub data Come : Source → Sequence → List ℕ → Type 0 where
  come_one : {source : Source} {ds : List ℕ} {n t p : ℕ} → HeldComes p ds n t → Come source (seq source 0 p n 0 t 0) ds
  come_two : {source : Source} {ds es : List ℕ} {n m t k p q : ℕ} → HeldComes p ds n t → HeldComes q es m k
      → Come source (seq source 1 q n m t k) (ds ++ (59 ∷ es))
  come_three : {source : Source} {ds es fs : List ℕ} {n m t u k p q r : ℕ} → HeldComes p ds n u → HeldComes q es m k
      → FieldComes r fs t
      → Come source (seq source 2 r n m t k) ((ds ++ (59 ∷ es)) ++ (59 ∷ fs))
  come_more : {source : Source} {ds es fs : List ℕ} {n m t u k p q r s : ℕ} (gs : List ℕ) → HeldComes p ds n u
      → HeldComes q es m k
      → FieldComes r fs t → AreNumbers gs
      → Come source (seq source 3 s n m t k) (((ds ++ (59 ∷ es)) ++ (59 ∷ fs)) ++ (59 ∷ gs))

pub come-numbers : {source : Source} {s : Sequence} {body : List ℕ} → Come source s body
    → HasNumbers body s.numbers s.first s.second s.third s.kind
come-numbers (come_one h) = has_one (held-whole h)
come-numbers (come_two h i) = has_two (held-whole h) (held-whole i)
come-numbers (come_three h i j) = has_three (held-whole h) (held-whole i) (field-whole j)
come-numbers (come_more gs h i j k) = has_more gs (held-whole h) (held-whole i) (field-whole j) k

-- where the third number is one code point, it is a text
pub come-text : {source : Source} {s : Sequence} {body : List ℕ} → Come source s body → s.numbers ≡ 2 → s.parts ≡ 0
    → HasText body s.first s.second s.third s.kind
come-text (come_one h) two none = absurd (let e : 0 ≡ 2 = two in omega (arith, e))
come-text (come_two h i) two none = absurd (let e : 1 ≡ 2 = two in omega (arith, e))
come-text (come_three h i (field_comes j)) two none = has_text (held-whole h) (held-whole i) j
come-text (come_three h i (codes_come cs j k)) two none = absurd (let e : 1 ≡ 0 = none in omega (arith, e))
come-text (come_three h i (more_codes_come cs j k)) two none = absurd (let e : 2 ≡ 0 = none in omega (arith, e))
come-text (come_more gs h i j k) two none = absurd (let e : 3 ≡ 2 = two in omega (arith, e))

pub come-source : {source : Source} {s : Sequence} {body : List ℕ} → Come source s body → s.source ≡ source
come-source (come_one h) = refl
come-source (come_two h i) = refl
come-source (come_three h i j) = refl
come-source (come_more gs h i j k) = refl

-- a digit of the first, second or third number
one-digit : {source : Source} {p n t : ℕ} {ds : List ℕ} (b : ℕ) → HeldComes p ds n t → 48 ≤ b → b ≤ 57
    → Come source (digit_pushed (seq source 0 p n 0 t 0) b) (ds ++ (b ∷ []))
unfolding digit_pushed
one-digit b (held_comes h) low high = come_one (held-digit b (held_comes h) low high)
one-digit b (kind_comes h i) low high = come_one (held-digit b (kind_comes h i) low high)
one-digit b (more_kinds_come cs h i c) low high = come_one (held-digit b (more_kinds_come cs h i c) low high)

two-digit : {source : Source} {p q n m t k : ℕ} {ds es : List ℕ} (b : ℕ) → HeldComes p ds n t → HeldComes q es m k → 48 ≤ b
    → b ≤ 57
    → Come source (digit_pushed (seq source 1 q n m t k) b) (ds ++ (59 ∷ (es ++ (b ∷ []))))
unfolding digit_pushed
two-digit b f (held_comes h) low high = come_two f (held-digit b (held_comes h) low high)
two-digit b f (kind_comes h i) low high = come_two f (held-digit b (kind_comes h i) low high)
two-digit b f (more_kinds_come cs h i c) low high = come_two f (held-digit b (more_kinds_come cs h i c) low high)

three-digit : {source : Source} {p q r n m t u k : ℕ} {ds es fs : List ℕ} (b : ℕ) → HeldComes p ds n u → HeldComes q es m k
    → FieldComes r fs t → 48 ≤ b → b ≤ 57
    → Come source (digit_pushed (seq source 2 r n m t k) b) ((ds ++ (59 ∷ es)) ++ (59 ∷ (fs ++ (b ∷ []))))
unfolding digit_pushed
three-digit b f g (field_comes h) low high = come_three f g (field-digit b (field_comes h) low high)
three-digit b f g (codes_come cs h k) low high = come_three f g (field-digit b (codes_come cs h k) low high)
three-digit b f g (more_codes_come cs h k) low high = come_three f g (field-digit b (more_codes_come cs h k) low high)

pub come-digit : {source : Source} {s : Sequence} {body : List ℕ} (b : ℕ) → Come source s body → 48 ≤ b → b ≤ 57
    → Come source (digit_pushed s b) (body ++ (b ∷ []))
unfolding digit_pushed
come-digit b (come_one f) low high = one-digit b f low high
come-digit {source = source} {s = s} b (come_two {ds = ds} {es = es} f h) low high =
    subst (Come source (digit_pushed s b)) (sym (append_assoc ds (59 ∷ es) (b ∷ []))) (two-digit b f h low high)
come-digit {source = source} {s = s} b (come_three {ds = ds} {es = es} {fs = fs} f h g) low high =
    subst (Come source (digit_pushed s b)) (sym (append_assoc (ds ++ (59 ∷ es)) (59 ∷ fs) (b ∷ [])))
    (three-digit b f h g low high)
come-digit {source = source} {s = s} b (come_more {ds = ds} {es = es} {fs = fs} gs f h g a) low high =
    subst (Come source s) (sym (append_assoc ((ds ++ (59 ∷ es)) ++ (59 ∷ fs)) (59 ∷ gs) (b ∷ [])))
    (come_more (gs ++ (b ∷ [])) f h g (numbers-snoc gs b a low (omega arith)))

-- a colon, and a semicolon
abbrev pub with_colon : Sequence → Sequence
with_colon s = record s { parts = if nat_lt s.parts 2 then s.parts + 1 else 2 }

abbrev pub with_semicolon : Sequence → Sequence
with_semicolon s = record s {
  numbers = if nat_lt s.numbers 3 then s.numbers + 1 else 3;
  parts = 0;
  third = if s.numbers == 1 then 0 else s.third;
}

pub come-colon : {source : Source} {s : Sequence} {body : List ℕ} → Come source s body
    → Come source (with_colon s) (body ++ (58 ∷ []))
come-colon (come_one f) = come_one (held-colon f)
come-colon {source = source} {s = s} (come_two {ds = ds} {es = es} f h) =
    subst (Come source (with_colon s)) (sym (append_assoc ds (59 ∷ es) (58 ∷ []))) (come_two f (held-colon h))
come-colon {source = source} {s = s} (come_three {ds = ds} {es = es} {fs = fs} f h g) =
    subst (Come source (with_colon s)) (sym (append_assoc (ds ++ (59 ∷ es)) (59 ∷ fs) (58 ∷ []))) (come_three f h (field-colon g))
come-colon {source = source} {s = s} (come_more {ds = ds} {es = es} {fs = fs} gs f h g a) =
    subst (Come source (with_colon s)) (sym (append_assoc ((ds ++ (59 ∷ es)) ++ (59 ∷ fs)) (59 ∷ gs) (58 ∷ [])))
    (come_more (gs ++ (58 ∷ [])) f h g (numbers-snoc gs 58 a (omega arith) (omega arith)))

pub come-semicolon : {source : Source} {s : Sequence} {body : List ℕ} → Come source s body
    → Come source (with_semicolon s) (body ++ (59 ∷ []))
come-semicolon (come_one f) = come_two f (held_comes keeps-none)
come-semicolon (come_two f h) = come_three f h (field_comes keeps-none)
come-semicolon (come_three f h g) = come_more [] f h g tt
come-semicolon {source = source} {s = s} (come_more {ds = ds} {es = es} {fs = fs} gs f h g a) =
    subst (Come source (with_semicolon s)) (sym (append_assoc ((ds ++ (59 ∷ es)) ++ (59 ∷ fs)) (59 ∷ gs) (59 ∷ [])))
    (come_more (gs ++ (59 ∷ [])) f h g (numbers-snoc gs 59 a (omega arith) (omega arith)))
