-- The beginnings of keys, as numbers, never contradict the order of keys.
use Rattle.std.proofs.Common.{◌≡◌, ◌≢◌, ◌≤◌, ◌<◌, ℕ, zero, suc, ◌+◌, ◌-◌, ◌*◌, ◌/◌, ◌%◌, ◌^◌, ◌==◌, min, nat_lt}
use Rattle.std.proofs.Common.{Bool, true, false}
use Rattle.std.proofs.Common.{List, [], ◌∷◌, refl, ap, sym, ◌∙◌, subst, arith}
use Rattle.std.specs.Prelude.{if◌then◌else◌}
use Rattle.std.specs.declared.cmp.Ordering.{Ordering}
use Rattle.std.specs.declared.cmp.Ordering.TheVariants.{Less, Equal, Greater}
use Rattle.std.specs.Ordering.{nat_cmp, ordering_then, ordering_reverse}
use Rattle.std.specs.Cmp.Lexicographic.{slice_cmp}
use Rattle.std.proofs.lemmas.{Bool.Decides.nat_tests}
use Rattle.std.proofs.lemmas.Nat.{mul-le, div-add-mod', mod_below}
use Rattle.std.proofs.lemmas.Cmp.{ranked, nat_list_cmp_total, nat_cmp_total, tied_itself}
use Rattle.files.specs.Ranks.{in_bytes, more_bytes, key_bytes, worth, key_rank}
use Rattle.files.proofs.NameLemmas.{is-below}

-- ---- lists in order

abbrev compared : List ℕ → List ℕ → Ordering
compared = slice_cmp nat_cmp

not-below : (a b : ℕ) → nat_lt a b ≡ false → b ≤ a
not-below a b h = grind (arith, nat_tests)

nat-less : (x y : ℕ) → x < y → nat_cmp x y ≡ Less
nat-less x y h = grind (arith, nat_tests)

first-same : (x : ℕ) (s t : List ℕ) → compared (x ∷ s) (x ∷ t) ≡ compared s t
first-same x s t = ap (λ o. ordering_then o (compared s t)) (tied_itself nat_cmp_total x)

first-less : (x y : ℕ) (s t : List ℕ) → x < y → compared (x ∷ s) (y ∷ t) ≡ Less
first-less x y s t h = ap (λ o. ordering_then o (compared s t)) (nat-less x y h)

less-back : (s t : List ℕ) → compared t s ≡ Less → compared s t ≡ Greater
less-back s t h = nat_list_cmp_total.antisymm s t ∙ ap ordering_reverse h

not-both : (s t : List ℕ) → compared t s ≡ Less → compared s t ≡ Less → ⊥
not-both s t h g = let back = less-back s t h in cc

none-before-nothing : (s : List ℕ) → compared s [] ≡ Less → ⊥
none-before-nothing [] h = cc
none-before-nothing (x ∷ s) h = cc

-- ---- bytes as one number

-- all bytes are worth no more than 256 of the first one
worth-most : (unit : ℕ) (bytes : List ℕ) → worth unit bytes ≤ 256 * unit
unfolding worth
worth-most unit [] = omega arith
worth-most unit (b ∷ bytes) = by (nat_lt b 255) refl (worth-most (unit / 256) bytes)
  where
    by : (t : Bool) → nat_lt b 255 ≡ t → worth (unit / 256) bytes ≤ 256 * (unit / 256)
        → (if t then b * unit + worth (unit / 256) bytes else 255 * unit) ≤ 256 * unit
    by true is most =
        let low : b * unit ≤ 254 * unit = mul-le b unit 254 unit (omega (arith, is-below b 255 is)) (omega arith) in
        omega (arith, low, most, div-add-mod' unit 256)
    by false is most = omega arith

rest-less : (unit b : ℕ) (s t : List ℕ) → worth unit (b ∷ s) < worth unit (b ∷ t)
    → worth (unit / 256) s < worth (unit / 256) t
unfolding worth
rest-less unit b s t = by (nat_lt b 255)
  where
    by : (is : Bool) → (if is then b * unit + worth (unit / 256) s else 255 * unit)
        < (if is then b * unit + worth (unit / 256) t else 255 * unit)
        → worth (unit / 256) s < worth (unit / 256) t
    by true h = omega arith
    by false h = absurd (omega arith)

first-not_more : (unit a b : ℕ) (s t : List ℕ) → b < a → worth unit (a ∷ s) < worth unit (b ∷ t) → ⊥
unfolding worth
first-not_more unit a b s t more = by (nat_lt a 255) (nat_lt b 255) refl refl
  where
    by : (one two : Bool) → nat_lt a 255 ≡ one → nat_lt b 255 ≡ two
        → (if one then a * unit + worth (unit / 256) s else 255 * unit)
        < (if two then b * unit + worth (unit / 256) t else 255 * unit) → ⊥
    by true true is also h =
        let low : (b + 1) * unit ≤ a * unit = mul-le (b + 1) unit a unit (omega (arith, more)) (omega arith) in
        omega (arith, low, worth-most (unit / 256) t, div-add-mod' unit 256, h)
    by false true is also h =
        let low : (b + 1) * unit ≤ 255 * unit =
        mul-le (b + 1) unit 255 unit (omega (arith, is-below b 255 also)) (omega arith) in
        omega (arith, low, worth-most (unit / 256) t, div-add-mod' unit 256, h)
    by true false is also h = omega (arith, is-below a 255 is, not-below b 255 also, more)
    by false false is also h = omega arith

none-worth : (unit n : ℕ) → n < worth unit [] → ⊥
unfolding worth
none-worth unit n h = omega (arith, h)

worth-less : (unit : ℕ) (s t : List ℕ) → worth unit s < worth unit t → compared s t ≡ Less
worth-less unit [] [] h = absurd (none-worth unit (worth unit []) h)
worth-less unit [] (b ∷ t) h = refl
worth-less unit (a ∷ s) [] h = absurd (none-worth unit (worth unit (a ∷ s)) h)
worth-less unit (a ∷ s) (b ∷ t) h = by (nat_cmp a b) refl (worth-less (unit / 256) s t)
  where
    by : (o : Ordering) → nat_cmp a b ≡ o
        → (worth (unit / 256) s < worth (unit / 256) t → compared s t ≡ Less) → ordering_then o (compared s t) ≡ Less
    by Less is next = refl
    by Equal is next =
        next (rest-less unit b s t (subst (λ x. worth unit (x ∷ s) < worth unit (b ∷ t)) (ranked a b Equal (sym is)) h))
    by Greater is next = absurd (first-not_more unit a b s t (ranked a b Greater (sym is)) h)

-- a byte less than 255 counts, and what follows it
pub worth-byte : (unit b : ℕ) (rest : List ℕ) → b < 255 → b * unit + worth (unit / 256) rest ≡ worth unit (b ∷ rest)
unfolding worth
worth-byte unit b rest h = let is : nat_lt b 255 ≡ true = grind (arith, nat_tests) in rw is refl

-- another one counts as 255, and nothing follows
pub worth-end : (unit b : ℕ) (rest : List ℕ) → 255 ≤ b → 255 * unit + worth 0 rest ≡ worth unit (b ∷ rest)
unfolding worth
worth-end unit b rest h =
    let is : nat_lt b 255 ≡ false = grind (arith, nat_tests) in rw is (omega (arith, worth-most 0 rest))

worth-clamped : (unit k : ℕ) (rest : List ℕ) → worth unit ((min k 251 + 4) ∷ rest) ≡ worth unit ((k + 4) ∷ rest)
worth-clamped unit k rest = by (nat_lt k 251) refl
  where
    by : (t : Bool) → nat_lt k 251 ≡ t → worth unit ((min k 251 + 4) ∷ rest) ≡ worth unit ((k + 4) ∷ rest)
    by true is =
        let same : min k 251 ≡ k = omega (arith, is-below k 251 is) in ap (λ x. worth unit ((x + 4) ∷ rest)) same
    by false is =
        let high : 251 ≤ k = not-below k 251 is in
        sym (worth-end unit (min k 251 + 4) rest (omega (arith, high)))
        ∙ worth-end unit (k + 4) rest (omega (arith, high))

-- ---- numbers in bytes

bytes-same : (more n : ℕ) (s t : List ℕ) → compared (in_bytes more n s) (in_bytes more n t) ≡ compared s t
unfolding in_bytes
bytes-same zero n s t = first-same n s t
bytes-same (suc more) n s t = bytes-same more (n / 256) (n % 256 ∷ s) (n % 256 ∷ t) ∙ first-same (n % 256) s t

bytes-less : (more m n : ℕ) (s t : List ℕ) → m < n → compared (in_bytes more m s) (in_bytes more n t) ≡ Less
unfolding in_bytes
bytes-less zero m n s t h = first-less m n s t h
bytes-less (suc more) m n s t h =
    by (nat_cmp (m / 256) (n / 256)) refl (bytes-less more (m / 256) (n / 256) (m % 256 ∷ s) (n % 256 ∷ t))
  where
    by : (o : Ordering) → nat_cmp (m / 256) (n / 256) ≡ o
        → (m / 256 < n / 256
        → compared (in_bytes more (m / 256) (m % 256 ∷ s)) (in_bytes more (n / 256) (n % 256 ∷ t)) ≡ Less)
        → compared (in_bytes more (m / 256) (m % 256 ∷ s)) (in_bytes more (n / 256) (n % 256 ∷ t)) ≡ Less
    by Less is next = next (ranked (m / 256) (n / 256) Less (sym is))
    by Equal is next =
        let same : m / 256 ≡ n / 256 = ranked (m / 256) (n / 256) Equal (sym is) in
        ap (λ k. compared (in_bytes more k (m % 256 ∷ s)) (in_bytes more (n / 256) (n % 256 ∷ t))) same
        ∙ bytes-same more (n / 256) (m % 256 ∷ s) (n % 256 ∷ t)
        ∙ first-less (m % 256) (n % 256) s t (omega (arith, div-add-mod' m 256, div-add-mod' n 256, same, h))
    by Greater is next =
        absurd (omega (
          arith,
          div-add-mod' m 256,
          div-add-mod' n 256,
          ranked (m / 256) (n / 256) Greater (sym is),
          h,
          mod_below m 256 (omega arith),
          mod_below n 256 (omega arith),
        ))

more-most : (n : ℕ) → more_bytes n ≤ 3
more-most n = grind (arith, nat_tests)

more-rises : (m n : ℕ) → m < n → more_bytes m ≤ more_bytes n
more-rises m n h = grind (arith, nat_tests)

-- a number, with how many bytes it takes before it
number_bytes : ℕ → List ℕ → List ℕ
number_bytes n rest = (more_bytes n + 1) ∷ in_bytes (more_bytes n) n rest

number-same : (n : ℕ) (s t : List ℕ) → compared (number_bytes n s) (number_bytes n t) ≡ compared s t
unfolding number_bytes
number-same n s t =
    first-same (more_bytes n + 1) (in_bytes (more_bytes n) n s) (in_bytes (more_bytes n) n t)
    ∙ bytes-same (more_bytes n) n s t

number-less : (m n : ℕ) (s t : List ℕ) → m < n → compared (number_bytes m s) (number_bytes n t) ≡ Less
unfolding number_bytes
number-less m n s t h = by (nat_cmp (more_bytes m) (more_bytes n)) refl
  where
    by : (o : Ordering) → nat_cmp (more_bytes m) (more_bytes n) ≡ o
        → compared ((more_bytes m + 1) ∷ in_bytes (more_bytes m) m s)
        ((more_bytes n + 1) ∷ in_bytes (more_bytes n) n t) ≡ Less
    by Less is =
        first-less (more_bytes m + 1) (more_bytes n + 1) (in_bytes (more_bytes m) m s) (in_bytes (more_bytes n) n t)
        (omega (arith, ranked (more_bytes m) (more_bytes n) Less (sym is)))
    by Equal is =
        let same : more_bytes m ≡ more_bytes n = ranked (more_bytes m) (more_bytes n) Equal (sym is) in
        ap (λ k. compared ((k + 1) ∷ in_bytes k m s) ((more_bytes n + 1) ∷ in_bytes (more_bytes n) n t)) same
        ∙ first-same (more_bytes n + 1) (in_bytes (more_bytes n) m s) (in_bytes (more_bytes n) n t)
        ∙ bytes-less (more_bytes n) m n s t h
    by Greater is = absurd (omega (arith, more-rises m n h, ranked (more_bytes m) (more_bytes n) Greater (sym is)))

-- ---- keys in bytes

above-zero : (b a : ℕ) → b < a → (a == 0) ≡ false
above-zero b a h = grind (arith, nat_tests)

-- what is no number stands above numbers
above-numbers : {b : ℕ} (a : ℕ) (s t : List ℕ) → b < a → compared ((a + 4) ∷ s) (key_bytes true t) ≡ Less → ⊥
unfolding key_bytes
above-numbers a s [] more h = none-before-nothing ((a + 4) ∷ s) h
above-numbers a s (n ∷ t) more h =
    not-both ((a + 4) ∷ s) ((more_bytes n + 1) ∷ in_bytes (more_bytes n) n (key_bytes false t))
    (first-less (more_bytes n + 1) (a + 4) (in_bytes (more_bytes n) n (key_bytes false t)) s
    (omega (arith, more-most n, more))) h

-- the bytes of what is no number, but perhaps the zero before one
other_bytes : ℕ → List ℕ → Bool → List ℕ
other_bytes k rest zeroes = if zeroes then key_bytes true rest else (k + 4) ∷ key_bytes false rest

other-not_less : (a b : ℕ) (s t : List ℕ) (zeroes : Bool) → b < a
    → compared (other_bytes a s false) (other_bytes b t zeroes) ≡ Less → ⊥
unfolding other_bytes
other-not_less a b s t true more h = above-numbers a (key_bytes false s) t more h
other-not_less a b s t false more h =
    not-both ((a + 4) ∷ key_bytes false s) ((b + 4) ∷ key_bytes false t)
    (first-less (b + 4) (a + 4) (key_bytes false t) (key_bytes false s) (omega (arith, more))) h

other-less : (k : ℕ) (s t : List ℕ) (zeroes : Bool)
    → (compared (key_bytes true s) (key_bytes true t) ≡ Less → compared s t ≡ Less)
    → (compared (key_bytes false s) (key_bytes false t) ≡ Less → compared s t ≡ Less)
    → compared (other_bytes k s zeroes) (other_bytes k t zeroes) ≡ Less → compared s t ≡ Less
unfolding other_bytes
other-less k s t true numbers others h = numbers h
other-less k s t false numbers others h = others (sym (first-same (k + 4) (key_bytes false s) (key_bytes false t)) ∙ h)

key-less : (number : Bool) (s t : List ℕ) → compared (key_bytes number s) (key_bytes number t) ≡ Less
    → compared s t ≡ Less
unfolding key_bytes number_bytes other_bytes
key-less number [] [] h = absurd cc
key-less number [] (b ∷ t) h = refl
key-less number (a ∷ s) [] h = absurd (none-before-nothing (key_bytes number (a ∷ s)) h)
key-less true (a ∷ s) (b ∷ t) h = by (nat_cmp a b) refl (key-less false s t)
  where
    by : (o : Ordering) → nat_cmp a b ≡ o
        → (compared (key_bytes false s) (key_bytes false t) ≡ Less → compared s t ≡ Less)
        → ordering_then o (compared s t) ≡ Less
    by Less is next = refl
    by Equal is next =
        next (sym (number-same b (key_bytes false s) (key_bytes false t))
        ∙ subst (λ x. compared (number_bytes x (key_bytes false s)) (number_bytes b (key_bytes false t)) ≡ Less)
        (ranked a b Equal (sym is)) h)
    by Greater is next =
        absurd (not-both (number_bytes a (key_bytes false s)) (number_bytes b (key_bytes false t))
        (number-less b a (key_bytes false t) (key_bytes false s) (ranked a b Greater (sym is))) h)
key-less false (a ∷ s) (b ∷ t) h =
    by (nat_cmp a b) refl (other-less b s t (b == 0) (key-less true s t) (key-less false s t))
  where
    by : (o : Ordering) → nat_cmp a b ≡ o
        → (compared (other_bytes b s (b == 0)) (other_bytes b t (b == 0)) ≡ Less → compared s t ≡ Less)
        → ordering_then o (compared s t) ≡ Less
    by Less is next = refl
    by Equal is next =
        next (subst (λ x. compared (other_bytes x s (x == 0)) (other_bytes b t (b == 0)) ≡ Less)
        (ranked a b Equal (sym is)) h)
    by Greater is next =
        let more : b < a = ranked a b Greater (sym is) in
        absurd (other-not_less a b s t (b == 0) more
        (subst (λ z. compared (other_bytes a s z) (other_bytes b t (b == 0)) ≡ Less) (above-zero b a more) h))

rank-less : (s t : List ℕ) → key_rank s < key_rank t → compared s t ≡ Less
rank-less s t h = key-less false s t (worth-less (2 ^ 120) (key_bytes false s) (key_bytes false t) h)

pub rank_decides : (s t : List ℕ) (o : Ordering) → o ≡ nat_cmp (key_rank s) (key_rank t) → (o ≡ Equal → ⊥)
    → o ≡ slice_cmp nat_cmp s t
rank_decides s t Less is unlike = sym (rank-less s t (ranked (key_rank s) (key_rank t) Less is))
rank_decides s t Equal is unlike = absurd (unlike refl)
rank_decides s t Greater is unlike = sym (less-back s t (rank-less t s (ranked (key_rank s) (key_rank t) Greater is)))

-- ---- what is pushed

pub bytes-one : (more n : ℕ) (rest : List ℕ) → more ≡ 0 → n ∷ rest ≡ in_bytes more n rest
unfolding in_bytes
bytes-one zero n rest none = refl
bytes-one (suc more) n rest none = absurd cc

pub bytes-more : (more n : ℕ) (rest : List ℕ) → 0 < more
    → in_bytes (more - 1) (n / 256) (n % 256 ∷ rest) ≡ in_bytes more n rest
unfolding in_bytes
bytes-more zero n rest some = absurd (omega (arith, some))
bytes-more (suc more) n rest some = let less : suc more - 1 ≡ more = omega arith in rw less refl

pub bytes-number : (n byte more : ℕ) (rest : List ℕ) → more ≡ more_bytes n → byte ≡ more + 1
    → byte ∷ in_bytes more n (key_bytes false rest) ≡ key_bytes true (n ∷ rest)
unfolding key_bytes
bytes-number n byte more rest is next = rw next (rw is refl)

pub bytes-zero : (k : ℕ) (rest : List ℕ) → k ≡ 0 → key_bytes true rest ≡ key_bytes false (k ∷ rest)
unfolding key_bytes
bytes-zero k rest is = rw is refl

bytes-other : (k : ℕ) (rest : List ℕ) → k ≢ 0 → (k + 4) ∷ key_bytes false rest ≡ key_bytes false (k ∷ rest)
unfolding key_bytes
bytes-other k rest unlike = let is : (k == 0) ≡ false = grind (arith, nat_tests) in rw is refl

-- an item that is no number, nor the zero before one
pub item-worth : (unit k : ℕ) (rest : List ℕ) → k ≢ 0
    → worth unit ((min k 251 + 4) ∷ key_bytes false rest) ≡ worth unit (key_bytes false (k ∷ rest))
item-worth unit k rest unlike =
    worth-clamped unit k (key_bytes false rest) ∙ ap (worth unit) (bytes-other k rest unlike)

pub none-left : (value unit : ℕ) (number : Bool) → value ≡ value + worth unit (key_bytes number [])
unfolding worth key_bytes
none-left value unit number = omega arith
