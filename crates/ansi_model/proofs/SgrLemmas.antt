-- A rendition is read back as it is written.
use Rattle.std.proofs.Common.{◌≡◌, ℕ, ◌+◌, ◌<◌, ◌^◌, ◌==◌, nat_lt, nat_eq, List, [], ◌∷◌, ◌++◌, Bool, true, false, IsTrue, zero}
use Rattle.std.proofs.Common.{suc, inl, inr, ◌⊎◌, ◌&&◌, ◌≤◌, nat_le, length, length-append, if◌then◌else◌, refl, sym, ap, ap₂}
use Rattle.std.proofs.Common.{◌∙◌, arith, append_assoc, append-nil, take, get_or, map, Option, Some, None, eqb-true}
use Rattle.std.specs.{Fmt.decimal, List.list_all, List.flat_map, Int.RustNames.bit_and, Int.RustNames.bit_or}
use Rattle.std.proofs.lemmas.{Bool.false≢true, Bool.and_parts, Bool.Decides.nat_tests, List.Folds.list_all-append, List.take_more}
use Rattle.std.proofs.lemmas.{Grind.flat_map-append}
use Rattle.std.proofs.Math.ListN.{get_or-map}
use Rattle.ratatui_core.specs.Style.{Color, Reset, Rgb, Indexed, Modifier, no_modifier, bits_of, modifier_of}
use Rattle.ratatui_core.specs.Style.{ModifierRow, modifiers, modifier_sets}
use Rattle.ratatui_core.proofs.StyleLemmas.{same_color, same_modifier}
use Rattle.ansi_model.specs.contracts.sgr.SgrPartialEq.TheImpl as sgr_equality
use Rattle.ansi_model.specs.{declared.sgr.Sgr.Sgr, Emulator.Phase.Ground, Emulator.Phase.Opened, Emulator.Phase.Sequence}
use Rattle.ansi_model.specs.{Sequences.feed, Sends.Performs}
use Rattle.ratatui_core.specs.Buffer.{Cell}
use Rattle.ansi_model.specs.Sgr.{Awaits, Inking, inks, inks_in, is_known_parameter, are_known, default_sgr, done_with, sgr_of}
use Rattle.ansi_model.specs.Sgr.{bit_numbered}
use Rattle.ansi_model.specs.Sgr.Awaits.{Nothing, Kind, Number, Parts}
use Rattle.ansi_model.specs.Emulator.{Emulator, rested, if_so, with_sgr}
use Rattle.ansi_model.specs.Parameters.{color_parameters}
use Rattle.ansi_model.specs.Inner.{underline_parameters, modifier_parameters, modifier_parameter}
use Rattle.ansi_model.specs.Parameters.{is_underline, is_sendable, color_count}
use Rattle.ansi_model.specs.Inner.{parameters_of, semicolons, led, AddsParameters}
use Rattle.ansi_model.specs.Parameters.{lead_of, count_with, is_joined}
use Rattle.ansi_model.proofs.ReadLemmas.{feed-append, number-read, first-read, begun, within, after-those}
use Rattle.ansi_model.proofs.ReadLemmas.{and-true}

fits : (p : ℕ) → nat_lt p 256 ≡ true → p < 2 ^ 64
fits p small =
    let below : p < 256 = grind (arith, nat_tests) in
    omega arith

semicolons-append : (ps qs : List ℕ) → semicolons (ps ++ qs) ≡ semicolons ps ++ semicolons qs
semicolons-append [] qs = refl
semicolons-append (p ∷ ps) qs =
    ap (λ rest. 59 ∷ (decimal p ++ rest)) (semicolons-append ps qs) ∙ ap (λ rest. 59 ∷ rest)
    (sym (append_assoc (decimal p) (semicolons ps) (semicolons qs)))

-- a semicolon before the first of some parameters
led-semicolon : (ps : List ℕ) → led (59 ∷ []) ps ≡ semicolons ps
led-semicolon [] = refl
led-semicolon (p ∷ ps) = refl

-- parameters after others
pub Parameters-then : (a b c ps qs : List ℕ) → AddsParameters (59 ∷ []) a b ps → AddsParameters (59 ∷ []) b c qs
    → AddsParameters (59 ∷ []) a c (ps ++ qs)
Parameters-then a b c ps qs first second = record {
  appended = second.appended ∙ ap₂ (λ xs ys. xs ++ ys) (first.appended ∙ ap (λ ys. a ++ ys) (led-semicolon ps)) (led-semicolon qs)
      ∙ append_assoc a (semicolons ps) (semicolons qs) ∙ ap (λ xs. a ++ xs)
      (sym (led-semicolon (ps ++ qs) ∙ semicolons-append ps qs));
  small = list_all-append (λ p. nat_lt p 256) ps qs ∙ rw (first.small, second.small) refl;
}

-- what a sequence has read of its numbers but the one at hand, and that one, after more parameters
abbrev done_after : List ℕ → ℕ → List ℕ → List ℕ
done_after done n [] = done
done_after done n (p ∷ ps) = done_after (done ++ n ∷ []) p ps

abbrev last_after : ℕ → List ℕ → ℕ
last_after n [] = n
last_after n (p ∷ ps) = last_after p ps

all-after : (done : List ℕ) (n : ℕ) (ps : List ℕ) → done_after done n ps ++ last_after n ps ∷ [] ≡ done ++ n ∷ ps
all-after done n [] = refl
all-after done n (p ∷ ps) = all-after (done ++ n ∷ []) p ps ∙ append_assoc done (n ∷ []) (p ∷ ps)

-- a terminal in the midst of a sequence without a mark, with a rendition
abbrev midway : List ℕ → ℕ → Sgr → Emulator → Emulator
midway done n sgr t = record t { sgr = sgr; phase = Sequence false done n }

-- written parameters are read
semicolons-read : (ps : List ℕ) → list_all (λ p. nat_lt p 256) ps ≡ true → (done : List ℕ) (n : ℕ) (sgr : Sgr) (t : Emulator)
    → feed (semicolons ps) (midway done n sgr t) ≡ midway (done_after done n ps) (last_after n ps) sgr t
unfolding feed
semicolons-read [] small done n sgr t = refl
semicolons-read (p ∷ ps) small done n sgr t =
    let both = and_parts (nat_lt p 256) (list_all (λ q. nat_lt q 256) ps) small in
    feed-append (decimal p) (semicolons ps) (midway (done ++ n ∷ []) 0 sgr t)
    ∙ ap (feed (semicolons ps)) (number-read p (fits p both.0) false (done ++ n ∷ []) (record t { sgr = sgr }))
    ∙ semicolons-read ps both.1 (done ++ n ∷ []) p sgr t

-- the modifiers, each with its number
abbrev pub numbered : List (Modifier × ℕ)
numbered = map (λ m. (modifier_of m.bit, m.number)) modifiers

-- the parameters of the first modifiers, as many as i
abbrev pub first_modifiers : ℕ → ℕ → List ℕ
first_modifiers bits i = parameters_of bits (take i modifiers)

-- one more of them
pub modifiers-more : (bits i : ℕ) → i < length modifiers
    → first_modifiers bits (i + 1) ≡ first_modifiers bits i ++ modifier_parameter bits (get_or numbered i (no_modifier, 0)).0.0
    (get_or numbered i (no_modifier, 0)).1
modifiers-more bits i below =
    let none : ModifierRow = record { name = []; bit = 0; number = 0 } in
    let f : ModifierRow → List ℕ = λ m. modifier_parameter bits m.bit m.number in
    let g : ModifierRow → Modifier × ℕ = λ m. (modifier_of m.bit, m.number) in
    let h : Modifier × ℕ → List ℕ = λ p. modifier_parameter bits p.0.0 p.1 in
    ap (flat_map f) (take_more modifiers i none below)
    ∙ flat_map-append f (take i modifiers) (get_or modifiers i none ∷ [])
    ∙ ap (λ xs. first_modifiers bits i ++ xs) (append-nil (f (get_or modifiers i none))
    ∙ ap h (sym (get_or-map g modifiers i none)))

pub inks-append : (xs ys : List ℕ) (i : Inking) → inks (xs ++ ys) i ≡ inks ys (inks xs i)
unfolding inks
inks-append [] ys i = refl
inks-append (x ∷ xs) ys i = inks-append xs ys (inks_in i.awaits x i.sgr)

fg-inks : (c : Color) (sgr : Sgr) → sgr.fg ≡ Reset
    → inks (color_parameters 30 c) (done_with sgr) ≡ done_with (record sgr { fg = c })
unfolding inks
fg-inks Reset sgr e = ap (λ f. done_with (record sgr { fg = f })) e
fg-inks (Rgb r g b) sgr e = refl
fg-inks (Indexed n) sgr e = refl
fg-inks _ sgr e = refl

bg-inks : (c : Color) (sgr : Sgr) → sgr.bg ≡ Reset
    → inks (color_parameters 40 c) (done_with sgr) ≡ done_with (record sgr { bg = c })
unfolding inks
bg-inks Reset sgr e = ap (λ f. done_with (record sgr { bg = f })) e
bg-inks (Rgb r g b) sgr e = refl
bg-inks (Indexed n) sgr e = refl
bg-inks _ sgr e = refl

underline-inks : (c : Color) (sgr : Sgr) → IsTrue (is_underline c) → sgr.underline_color ≡ Reset
    → inks (underline_parameters c) (done_with sgr) ≡ done_with (record sgr { underline_color = c })
unfolding inks
underline-inks Reset sgr sent e = ap (λ f. done_with (record sgr { underline_color = f })) e
underline-inks (Rgb r g b) sgr sent e = refl
underline-inks (Indexed n) sgr sent e = refl
underline-inks _ sgr sent e = let h : ⊥ = cc in absurd h

-- whether a bit is the one that was found
abbrev is_bit : Option ℕ → ℕ → Bool
is_bit None bit = false
is_bit (Some found) bit = found == bit

bit-found : (o : Option ℕ) (bit : ℕ) → is_bit o bit ≡ true → o ≡ Some bit
bit-found None bit is = absurd (false≢true is)
bit-found (Some found) bit is = ap Some (eqb-true found bit is)

-- whether a modifier's number tells its bit
abbrev is_told : ModifierRow → Bool
is_told m = is_bit (bit_numbered m.number modifiers) m.bit

all-told : list_all is_told modifiers ≡ true
all-told = refl

-- a set of modifiers with one more, unless it is left out
abbrev marks : Bool → ℕ → Modifier → Modifier
marks b v m = if b then m else modifier_of (bit_or (bits_of m) v)

-- a modifier's number, unless it is left out, marks the modifier
marked : (row : ModifierRow) (b : Bool) (m : Modifier) → is_told row ≡ true
    → inks (if b then [] else row.number ∷ []) (done_with (record default_sgr { modifier = m })) ≡ done_with
    (record default_sgr { modifier = marks b row.bit m })
unfolding inks
marked row true m told = refl
marked row false m told = rw (bit-found (bit_numbered row.number modifiers) row.bit told) refl

-- the modifiers of a list that are read back
abbrev read_of : ℕ → List ModifierRow → Modifier → Modifier
read_of bits [] m = m
read_of bits (row ∷ rows) m = read_of bits rows (marks (bit_and bits row.bit == 0) row.bit m)

rows-inked : (bits : ℕ) (rows : List ModifierRow) (m : Modifier) → list_all is_told rows ≡ true
    → inks (parameters_of bits rows) (done_with (record default_sgr { modifier = m })) ≡ done_with
    (record default_sgr { modifier = read_of bits rows m })
unfolding inks
rows-inked bits [] m told = refl
rows-inked bits (row ∷ rows) m told =
    let both = and_parts (is_told row) (list_all is_told rows) told in
    let is_out : Bool = bit_and bits row.bit == 0 in
    inks-append (modifier_parameter bits row.bit row.number) (parameters_of bits rows) (done_with (record default_sgr { modifier = m }))
    ∙ ap (inks (parameters_of bits rows)) (marked row is_out m both.0)
    ∙ rows-inked bits rows (marks is_out row.bit m) both.1

-- all modifiers that are read back
abbrev read_back : ℕ → ℕ
read_back bits = (read_of bits modifiers no_modifier).0

-- whether a test holds of each number below n
abbrev pub up_to : (ℕ → Bool) → ℕ → Bool
up_to f zero = true
up_to f (suc n) = f n && up_to f n

less_or_same : (k n : ℕ) → k < n + 1 → (k < n) ⊎ (k ≡ n)
less_or_same k n below = grind (arith, nat_tests)

pub up_to-at : (f : ℕ → Bool) (n k : ℕ) → up_to f n ≡ true → k < n → f k ≡ true
up_to-at f zero k all below = absurd (omega arith)
up_to-at f (suc n) k all below =
    let both = and_parts (f n) (up_to f n) all in
    elim (less_or_same k n (omega arith)) [ inl less ↦ up_to-at f n k both.1 less | inr same ↦ rw same both.0 ]

all-back : up_to (λ k. read_back k == k) modifier_sets ≡ true
all-back = refl

-- all modifiers, for each set of them
modifier-inks : (bits : ℕ) → bits < modifier_sets
    → inks (modifier_parameters bits) (done_with default_sgr) ≡ done_with (record default_sgr { modifier = modifier_of bits })
modifier-inks bits small =
    rows-inked bits modifiers no_modifier all-told ∙ ap (λ k. done_with (record default_sgr { modifier = modifier_of k }))
    (eqb-true (read_back bits) bits (up_to-at (λ k. read_back k == k) modifier_sets bits all-back small))

-- ---- terminals take a rendition's parameters alike

known-append : (xs ys : List ℕ) (a : Awaits) → are_known xs a ≡ true → are_known ys Nothing ≡ true → are_known (xs ++ ys) a ≡ true
unfolding are_known
known-append [] ys Nothing first second = second
known-append [] ys (Kind target) first second = absurd (false≢true first)
known-append [] ys (Number target) first second = absurd (false≢true first)
known-append [] ys (Parts target parts) first second = absurd (false≢true first)
known-append (x ∷ xs) ys a first second =
    let both = and_parts (is_known_parameter a x) (are_known xs (inks_in a x default_sgr).awaits) first in
    ap₂ (λ p q. p && q) both.0 (known-append xs ys (inks_in a x default_sgr).awaits both.1 second)

told-known : (row : ModifierRow) (b : Bool) → is_told row ≡ true → are_known (if b then [] else row.number ∷ []) Nothing ≡ true
unfolding are_known
told-known row true told = refl
told-known row false told = rw (bit-found (bit_numbered row.number modifiers) row.bit told) refl

rows-known : (bits : ℕ) (rows : List ModifierRow) → list_all is_told rows ≡ true → are_known (parameters_of bits rows) Nothing ≡ true
unfolding are_known
rows-known bits [] told = refl
rows-known bits (row ∷ rows) told =
    let both = and_parts (is_told row) (list_all is_told rows) told in
    known-append (modifier_parameter bits row.bit row.number) (parameters_of bits rows) Nothing
    (told-known row (bit_and bits row.bit == 0) both.0) (rows-known bits rows both.1)

modifiers-known : (bits : ℕ) → are_known (modifier_parameters bits) Nothing ≡ true
modifiers-known bits = rows-known bits modifiers all-told

abbrev are_bytes : List ℕ → Bool
are_bytes ps = list_all (λ q. nat_lt q 256) ps

fg-known : (c : Color) → are_bytes (color_parameters 30 c) ≡ true → are_known (color_parameters 30 c) Nothing ≡ true
unfolding are_known
fg-known Reset small = refl
fg-known (Rgb r g b) small = small
fg-known (Indexed n) small = small
fg-known _ small = refl

bg-known : (c : Color) → are_bytes (color_parameters 40 c) ≡ true → are_known (color_parameters 40 c) Nothing ≡ true
unfolding are_known
bg-known Reset small = refl
bg-known (Rgb r g b) small = small
bg-known (Indexed n) small = small
bg-known _ small = refl

underline-known : (c : Color) → IsTrue (is_underline c) → are_bytes (underline_parameters c) ≡ true
    → are_known (underline_parameters c) Nothing ≡ true
unfolding are_known
underline-known Reset sent small = refl
underline-known (Rgb r g b) sent small = small
underline-known (Indexed n) sent small = small
underline-known _ sent small = let h : ⊥ = cc in absurd h

-- ---- a rendition is read back

-- a terminal in the midst of a sequence of so many parameters: once that is closed, it has this rendition
record IsMidway (sgr : Sgr) (count : ℕ) (t u : Emulator) : Type 0 where
  done : List ℕ
  number : ℕ
  from : Sgr
  is : u ≡ midway done number from t
  inked : inks (done ++ number ∷ []) (done_with from) ≡ done_with sgr
  known : are_known (done ++ number ∷ []) Nothing ≡ true
  counted : length (done ++ number ∷ []) ≡ count

-- more parameters of the same sequence
joins : (sgr next : Sgr) (count : ℕ) (ps : List ℕ) (t u : Emulator) → IsMidway sgr count t u
    → inks ps (done_with sgr) ≡ done_with next
    → are_known ps Nothing ≡ true → are_bytes ps ≡ true → IsMidway next (count + length ps) t (feed (semicolons ps) u)
joins sgr next count ps t u mid inked known small =
    let all = all-after mid.done mid.number ps in
    let split : mid.done ++ mid.number ∷ ps ≡ (mid.done ++ mid.number ∷ []) ++ ps =
    sym (append_assoc mid.done (mid.number ∷ []) ps) in
    record {
      done = done_after mid.done mid.number ps;
      number = last_after mid.number ps;
      from = mid.from;
      is = ap (feed (semicolons ps)) mid.is ∙ semicolons-read ps small mid.done mid.number mid.from t;
      inked = ap (λ xs. inks xs (done_with mid.from)) (all ∙ split) ∙ inks-append (mid.done ++ mid.number ∷ []) ps
          (done_with mid.from) ∙ ap (inks ps) mid.inked ∙ inked;
      known = ap (λ xs. are_known xs Nothing) (all ∙ split)
          ∙ known-append (mid.done ++ mid.number ∷ []) ps Nothing mid.known known;
      counted = ap length (all ∙ split) ∙ length-append (mid.done ++ mid.number ∷ []) ps ∙ ap (λ k. k + length ps) mid.counted;
    }

-- the sequence is closed
closes : (sgr : Sgr) (count : ℕ) (t u : Emulator) → IsMidway sgr count (rested t) u → count ≤ 16
    → feed (109 ∷ []) u ≡ with_sgr sgr (rested t)
unfolding feed
closes sgr count t u mid few =
    let s : Emulator = rested t in
    let all = mid.done ++ mid.number ∷ [] in
    let fits : nat_le (length all) 16 ≡ true = let e = mid.counted in grind (arith, nat_tests) in
    ap (feed (109 ∷ [])) mid.is
    ∙ ap₂ (λ a b. if_so (a && b) (with_sgr (inks all (done_with mid.from)).sgr s)) fits mid.known
    ∙ ap (λ (i : Inking). if_so true (with_sgr i.sgr s)) mid.inked
    ∙ ap (λ sure. record (with_sgr sgr s) { sure = sure }) (and-true s.sure)

-- the sequence is closed, and another one begun
reopens : (sgr next : Sgr) (count p : ℕ) (ps : List ℕ) (t u : Emulator) → IsMidway sgr count (rested t) u → count ≤ 16
    → inks (p ∷ ps) (done_with sgr) ≡ done_with next → are_known (p ∷ ps) Nothing ≡ true → are_bytes (p ∷ ps) ≡ true
    → IsMidway next (length (p ∷ ps)) (rested t) (feed (109 ∷ 27 ∷ 91 ∷ (decimal p ++ semicolons ps)) u)
unfolding feed
reopens sgr next count p ps t u mid few inked known small =
    let both = and_parts (nat_lt p 256) (are_bytes ps) small in
    let all = all-after [] p ps in
    let closed : Emulator = with_sgr sgr (rested t) in
    record {
      done = done_after [] p ps;
      number = last_after p ps;
      from = sgr;
      is = feed-append (109 ∷ []) (27 ∷ 91 ∷ (decimal p ++ semicolons ps)) u
          ∙ ap (feed (27 ∷ 91 ∷ (decimal p ++ semicolons ps))) (closes sgr count t u mid few)
          ∙ begun (decimal p ++ semicolons ps) closed refl
          ∙ feed-append (decimal p) (semicolons ps) (within Opened closed)
          ∙ ap (feed (semicolons ps)) (first-read p (fits p both.0) closed)
          ∙ semicolons-read ps both.1 [] p sgr (rested t);
      inked = ap (λ xs. inks xs (done_with sgr)) all ∙ inked;
      known = ap (λ xs. are_known xs Nothing) all ∙ known;
      counted = ap length all;
    }

-- a colour, in the same sequence or in another
colors : (sgr next : Sgr) (count more : ℕ) (ps : List ℕ) (t u : Emulator) → IsMidway sgr count (rested t) u → count ≤ 16
    → length ps ≡ more → more ≤ 16
    → inks ps (done_with sgr) ≡ done_with next → are_known ps Nothing ≡ true → are_bytes ps ≡ true
    → IsMidway next (count_with count more) (rested t) (feed (led (lead_of count more) ps) u) × (count_with count more ≤ 16)
unfolding feed inks
colors sgr next count more [] t u mid few long room inked known small =
    let none : more ≡ 0 = sym long in
    let fits : is_joined count more ≡ true = grind (arith, nat_tests) in
    let same : sgr ≡ next = ap (λ (i : Inking). i.sgr) inked in
    let e : count_with count more ≡ count = rw fits (omega arith) in
    (rw (e, ← same) mid, rw e few)
colors sgr next count more (p ∷ ps) t u mid few long room inked known small =
    elim (is_joined count more) as (λ b. is_joined count more ≡ b
    → IsMidway next (if b then count + more else more) (rested t)
    (feed ((if b then 59 ∷ [] else 109 ∷ 27 ∷ 91 ∷ []) ++ (decimal p ++ semicolons ps)) u)
    × ((if b then count + more else more) ≤ 16)) [
      | true ↦ λ is. (rw (← long) (joins sgr next count (p ∷ ps) (rested t) u mid inked known small), grind (arith, nat_tests))
      | false ↦ λ is. (rw (← long) (reopens sgr next count p ps t u mid few inked known small), room)
    ] refl

-- how many parameters the colours have
fg-count : (c : Color) → length (color_parameters 30 c) ≡ color_count c
fg-count Reset = refl
fg-count (Rgb r g b) = refl
fg-count (Indexed n) = refl
fg-count _ = refl

bg-count : (c : Color) → length (color_parameters 40 c) ≡ color_count c
bg-count Reset = refl
bg-count (Rgb r g b) = refl
bg-count (Indexed n) = refl
bg-count _ = refl

underline-count : (c : Color) → IsTrue (is_underline c) → length (underline_parameters c) ≡ color_count c
underline-count Reset sent = refl
underline-count (Rgb r g b) sent = refl
underline-count (Indexed n) sent = refl
underline-count _ sent = let h : ⊥ = cc in absurd h

pub count-small : (c : Color) → color_count c ≤ 5
count-small Reset = omega arith
count-small (Rgb r g b) = omega arith
count-small (Indexed n) = omega arith
count-small _ = omega arith

-- the sequence begins: the terminal's own rendition
opens : (t : Emulator) → t.phase ≡ Ground → IsMidway default_sgr 1 (rested t) (feed (27 ∷ 91 ∷ 48 ∷ []) t)
unfolding feed inks are_known
opens t ground = record {
  done = [];
  number = 0;
  from = (rested t).sgr;
  is = begun (48 ∷ []) t ground;
  inked = refl;
  known = refl;
  counted = refl;
}

-- the bytes that set a rendition: the modifiers and the colour of the text in the first sequence, and the other colours where
-- they fit
abbrev pub first_count : Sgr → ℕ
first_count p = 1 + length (modifier_parameters (bits_of p.modifier)) + color_count p.fg

abbrev pub second_count : Sgr → ℕ
second_count p = count_with (first_count p) (color_count p.bg)

abbrev sgr_bytes : Sgr → List ℕ
sgr_bytes p =
    (27 ∷ 91 ∷ 48 ∷ []) ++ (semicolons (modifier_parameters (bits_of p.modifier) ++ color_parameters 30 p.fg)
    ++ (led (lead_of (first_count p) (color_count p.bg)) (color_parameters 40 p.bg)
    ++ (led (lead_of (second_count p) (color_count p.underline_color)) (underline_parameters p.underline_color) ++ 109 ∷ [])))

-- a rendition that can be sent is read back
sgr-read : (p : Sgr) (t : Emulator) → bits_of p.modifier < modifier_sets → IsTrue (is_underline p.underline_color)
    → length (modifier_parameters (bits_of p.modifier)) ≤ 9
    → are_bytes (modifier_parameters (bits_of p.modifier) ++ color_parameters 30 p.fg) ≡ true
    → are_bytes (color_parameters 40 p.bg) ≡ true → are_bytes (underline_parameters p.underline_color) ≡ true
    → t.phase ≡ Ground → feed (sgr_bytes p) t ≡ with_sgr p (rested t)
sgr-read p t bits sent few first second third ground =
    let m = modifier_parameters (bits_of p.modifier) in
    let f = color_parameters 30 p.fg in
    let b = color_parameters 40 p.bg in
    let u = underline_parameters p.underline_color in
    let p1 : Sgr = record default_sgr { modifier = p.modifier } in
    let p2 : Sgr = record p1 { fg = p.fg } in
    let p3 : Sgr = record p2 { bg = p.bg } in
    let parts = and_parts (are_bytes m) (are_bytes f) (sym (list_all-append (λ q. nat_lt q 256) m f) ∙ first) in
    let fg_few = count-small p.fg in
    let bg_few = count-small p.bg in
    let underline_few = count-small p.underline_color in
    let fs = fg-count p.fg in
    let one = joins default_sgr p2 1 (m ++ f) (rested t) (feed (27 ∷ 91 ∷ 48 ∷ []) t) (opens t ground)
    (inks-append m f (done_with default_sgr) ∙ ap (inks f) (modifier-inks (bits_of p.modifier) bits) ∙ fg-inks p.fg p1 refl)
    (known-append m f Nothing (modifiers-known (bits_of p.modifier)) (fg-known p.fg parts.1)) first in
    let counted : 1 + length (m ++ f) ≡ first_count p = omega (arith, length-append m f, fs) in
    let one_counted : IsMidway p2 (first_count p) (rested t) (feed (semicolons (m ++ f)) (feed (27 ∷ 91 ∷ 48 ∷ []) t)) =
    rw (← counted) one in
    let two = colors p2 p3 (first_count p) (color_count p.bg) b t _ one_counted (omega arith) (bg-count p.bg) (omega arith)
    (bg-inks p.bg p2 refl) (bg-known p.bg second) second in
    let three = colors p3 p (second_count p) (color_count p.underline_color) u t _ two.0 two.1
    (underline-count p.underline_color sent) (omega arith)
    (underline-inks p.underline_color p3 sent refl) (underline-known p.underline_color sent third) third in
    let lead_b = led (lead_of (first_count p) (color_count p.bg)) b in
    let lead_u = led (lead_of (second_count p) (color_count p.underline_color)) u in
    feed-append (27 ∷ 91 ∷ 48 ∷ []) (semicolons (m ++ f) ++ (lead_b ++ (lead_u ++ 109 ∷ []))) t
    ∙ feed-append (semicolons (m ++ f)) (lead_b ++ (lead_u ++ 109 ∷ [])) _
    ∙ feed-append lead_b (lead_u ++ 109 ∷ []) _
    ∙ feed-append lead_u (109 ∷ []) _
    ∙ closes p (count_with (second_count p) (color_count p.underline_color)) t _ three.0 three.1

-- the bytes of a rendition that can be sent set it
pub sgr-sent : (p : Sgr) (old a b c new : List ℕ) → IsTrue (is_sendable p) → length (modifier_parameters (bits_of p.modifier)) ≤ 9
    → AddsParameters (59 ∷ []) (old ++ (27 ∷ 91 ∷ 48 ∷ [])) a (modifier_parameters (bits_of p.modifier)
    ++ color_parameters 30 p.fg)
    → AddsParameters (lead_of (first_count p) (color_count p.bg)) a b (color_parameters 40 p.bg)
    → AddsParameters (lead_of (second_count p) (color_count p.underline_color)) b c (underline_parameters p.underline_color)
    → new ≡ c ++ 109 ∷ [] → Performs old new (with_sgr p)
sgr-sent p old a b c new is few first second third e =
    let sent : is_sendable p ≡ true = grind (arith, nat_tests) in
    let both = and_parts (is_underline p.underline_color) (nat_lt (bits_of p.modifier) modifier_sets) sent in
    let bits : bits_of p.modifier < modifier_sets = let test = both.1 in grind (arith, nat_tests) in
    let underline : IsTrue (is_underline p.underline_color) = let test = both.0 in grind (arith, nat_tests) in
    let mf = modifier_parameters (bits_of p.modifier) ++ color_parameters 30 p.fg in
    record {
      bytes = sgr_bytes p;
      appended = after-those old (old ++ (27 ∷ 91 ∷ 48 ∷ [])) new _ _ refl
          (after-those _ a new _ _ (first.appended ∙ ap (λ ys. (old ++ (27 ∷ 91 ∷ 48 ∷ [])) ++ ys) (led-semicolon mf))
          (after-those a b new _ _ second.appended (after-those b c new _ _ third.appended e)));
      read = λ t ground. sgr-read p t bits underline few first.small second.small third.small ground;
    }

-- ---- equal renditions

pub same_sgr : (a b : Sgr) → sgr_equality.eq-value.it a b ≡ true → a ≡ b
same_sgr a b e =
    let one = and_parts _ _ e in
    let two = and_parts _ _ one.1 in
    let three = and_parts _ _ two.1 in
    let fg = same_color a.fg b.fg one.0 in
    let bg = same_color a.bg b.bg two.0 in
    let underline = same_color a.underline_color b.underline_color three.0 in
    let modifier = same_modifier a.modifier b.modifier three.1 in
    rw (fg, bg, underline, modifier) refl

pub sgr-of-cell : (sgr : Sgr) (cell : Cell) → sgr.fg ≡ cell.fg → sgr.bg ≡ cell.bg → sgr.underline_color ≡ cell.underline_color
    → sgr.modifier ≡ cell.modifier → sgr ≡ sgr_of cell
sgr-of-cell sgr cell fg bg underline modifier = rw (fg, bg, underline, modifier) refl

pub equal-number : (n : ℕ) → nat_eq n n ≡ true
equal-number n = grind (arith, nat_tests)

pub same-bits : (sgr : Sgr) (cell : Cell) → sgr ≡ sgr_of cell → nat_eq (bits_of sgr.modifier) (bits_of cell.modifier) ≡ true
same-bits sgr cell e = ap (λ (p : Sgr). nat_eq (bits_of p.modifier) (bits_of cell.modifier)) e
    ∙ equal-number (bits_of cell.modifier)
