use Rattle.std.proofs.Common.{ℕ, ◌≡◌, ◌≤◌, ◌<◌, ◌∙◌, List, Option, set, get_or, sym, ap, ap₂, subst, arith}
use Rattle.std.proofs.{Math.Seq.map-set_same, lemmas.List.set-get_or, lemmas.List.Elements.All-set}
use Rattle.std.proofs.{lemmas.List.Elements.All-get_or, lemmas.List.Sums.sum_by-set, lemmas.List.Sums.get_or-le-sum_by}
use Rattle.rtui_layout.specs.declared.constraint.Constraint.{Constraint}
use Rattle.rtui_split.specs.{declared.part.Part.Part, declared.slot.Slot.Slot, Wishes.turn, Inner.Slots.slot_parts}
use Rattle.rtui_split.specs.{Inner.Slots.sizes_of, Inner.Shares.IsGranted, Inner.Shares.IsStretchableAt}
use Rattle.rtui_split.proofs.SlotLemmas.{no_slot, size_at, sizes_set, same_map}
use Rattle.rtui_split.proofs.share.stretch.Goals as goal

pub returns-then-at-slots : goal.returns-then-at-slots
returns-then-at-slots c =
    let ss = c.args.slots.now in
    let at = c.stretchable_of-at.result in
    let one = get_or ss at no_slot in
    let other = c.stretched_by.result in
    let does = c.stretched_by.ensures in
    let within = c.if-at-slots.true in
    let new = set ss at other in
    let parts : slot_parts new ≡ slot_parts ss = map-set_same (λ (s : Slot). s.part) ss at other no_slot does.part in
    let own : one.size ≡ get_or (sizes_of ss) at 0 = size_at ss at no_slot within in
    let P : List Constraint → Type 0 = λ cs. IsStretchableAt cs at in
    record {
      parts = parts;
      granted = λ t each.
          let Q : Slot → Type 0 = λ s. IsGranted t s.part s.size in
          let R : Part → Type 0 = λ p. turn p.constraint < t → p.wanted ≤ other.size in
          let granted = All-get_or Q ss at no_slot within each in
          All-set Q ss at other (subst R (sym does.part) (λ first. omega (arith, granted first, does.least))) each;
      all = omega (arith, sum_by-set (λ s. s.size) ss at other no_slot within, does.size);
      nothing = λ none.
          let same : other ≡ one = same_slot other one does.part (omega (arith, does.size, does.least, none)) does.base in
          ap (set ss at) same ∙ set-get_or ss at no_slot;
      one = λ some few. (
        at,
        subst P (sym (same_map (λ (p : Part). p.constraint) new ss parts)) (c.stretchable_of-at.ensures some),
        sizes_set ss at other ∙ ap (set (sizes_of ss) at)
            (omega (arith, few, own, does.size, get_or-le-sum_by (λ s. s.size) ss at no_slot within)),
      );
    }
  where
    same_slot : (s t : Slot) → s.part ≡ t.part → s.size ≡ t.size → s.base ≡ t.base → s ≡ t
    same_slot s t part size base =
        let made : Part → ℕ → Option ℕ → Slot = λ p n b. record { part = p; size = n; base = b } in
        ap (λ p. made p s.size s.base) part ∙ ap₂ (made t.part) size base

pub returns-else-at-slots-clause-granted : goal.returns-else-at-slots-clause-granted
returns-else-at-slots-clause-granted c = λ t each. each
