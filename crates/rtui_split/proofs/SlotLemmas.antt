-- Slots, their parts and their sizes.
use Rattle.std.proofs.Common.{ℕ, ◌≡◌, ◌≤◌, ◌<◌, List, [], ◌∷◌, None, All, sum_by, map, take, length, get_or, set, slice_index}
use Rattle.std.proofs.Common.{zero, suc, refl, sym, ◌∙◌, ap, subst, arith}
use Rattle.std.proofs.lemmas.List.Elements.{All-head, All-tail, All-nil, All-cons, All-weaker}
use Rattle.std.proofs.{Math.Seq.map-set_same, lemmas.List.take_all, lemmas.List.length-map, lemmas.List.map-set}
use Rattle.rtui_layout.specs.declared.constraint.Constraint.TheVariants.{Min}
use Rattle.rtui_split.specs.{declared.part.Part.Part, declared.slot.Slot.Slot, Inner.Slots.slot_parts, Inner.Slots.sizes_of}
use Rattle.rtui_split.specs.{Inner.Slots.AllSlots}
use Rattle.rtui_split.proofs.Lists.{map-map, sum_by-map}

-- what stands for an element that isn't there
abbrev pub no_part : Part
no_part = record { constraint = Min 0; wanted = 0 }

abbrev pub no_slot : Slot
no_slot = record { part = no_part; size = 0; base = None }

-- a slot of which another size is written
abbrev pub resized : List Slot → ℕ → ℕ → Slot
resized ss i size = record { part = (get_or ss i no_slot).part; size = size; base = (get_or ss i no_slot).base }

pub parts_stay : (ss : List Slot) (i size : ℕ) → slot_parts (set ss i (resized ss i size)) ≡ slot_parts ss
parts_stay ss i size = map-set_same (λ (s : Slot). s.part) ss i (resized ss i size) no_slot refl

-- the size at a place, and one written
pub size_at : (ss : List Slot) (i : ℕ) (s : Slot) → i < length ss → (get_or ss i s).size ≡ slice_index (sizes_of ss) i
size_at [] i s within = absurd (omega (arith, within))
size_at (r ∷ ss) zero s within = refl
size_at (r ∷ ss) (suc i) s within = size_at ss i s (omega (arith, within))

pub sizes_set : (ss : List Slot) (i : ℕ) (s : Slot) → sizes_of (set ss i s) ≡ set (sizes_of ss) i s.size
sizes_set ss i s = map-set (λ (r : Slot). r.size) ss i s

-- slots of the same parts
pub same_map : {X : Type 0} (f : Part → X) (ss ts : List Slot) → slot_parts ss ≡ slot_parts ts
    → map (λ (s : Slot). f s.part) ss ≡ map (λ (s : Slot). f s.part) ts
same_map f ss ts same =
    sym (map-map f (λ (s : Slot). s.part) ss) ∙ ap (map f) same ∙ map-map f (λ (s : Slot). s.part) ts

pub same_sum : (f : Part → ℕ) (ss ts : List Slot) → slot_parts ss ≡ slot_parts ts
    → sum_by (λ (s : Slot). f s.part) ss ≡ sum_by (λ (s : Slot). f s.part) ts
same_sum f ss ts same =
    sym (sum_by-map f (λ (s : Slot). s.part) ss) ∙ ap (sum_by f) same ∙ sum_by-map f (λ (s : Slot). s.part) ts

pub same_all : (P : Part → Type 0) (ss ts : List Slot) → slot_parts ss ≡ slot_parts ts → All (λ (s : Slot). P s.part) ss
    → All (λ (s : Slot). P s.part) ts
same_all P [] [] same all = All-nil (λ (s : Slot). P s.part)
same_all P [] (t ∷ ts) same all = cc
same_all P (s ∷ ss) [] same all = cc
same_all P (s ∷ ss) (t ∷ ts) same all =
    let Q : Slot → Type 0 = λ r. P r.part in
    let own : s.part ≡ t.part = cc in
    All-cons Q t ts (subst P own (All-head Q s ss all)) (same_all P ss ts (cc) (All-tail Q s ss all))

pub same_length : (ss ts : List Slot) → slot_parts ss ≡ slot_parts ts → length ss ≡ length ts
same_length ss ts same = sym (length-map ss (λ (s : Slot). s.part)) ∙ ap length same ∙ length-map ts (λ (s : Slot). s.part)

pub AllSlots-weaker : (R S : Part → ℕ → Type 0) → ((p : Part) (n : ℕ) → R p n → S p n) → (ss : List Slot) → AllSlots R ss
    → AllSlots S ss
AllSlots-weaker R S weaker ss all =
    All-weaker (λ (s : Slot). R s.part s.size) (λ (s : Slot). S s.part s.size) (λ s. weaker s.part s.size) ss all

-- what holds of all up to the last
pub All-taken : {A : Type 0} (P : A → Type 0) (xs : List A) (i : ℕ) → length xs ≤ i → All P (take i xs) → All P xs
All-taken {A} P xs i out all = let Q : List A → Type 0 = λ ys. All P ys in subst Q (take_all i xs out) all
