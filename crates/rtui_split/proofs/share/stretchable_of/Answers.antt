use Rattle.std.proofs.Common.{◌≡◌, ◌+◌, ◌∙◌, inl, inr, sym, ap, subst, arith}
use Rattle.std.proofs.lemmas.{Bool.cases_lt, List.get_or-map, List.length-map}
use Rattle.rtui_layout.specs.declared.constraint.Constraint.TheVariants.{Max}
use Rattle.rtui_split.specs.declared.{slot.Slot.Slot, share.Stretchable.Stretchable}
use Rattle.rtui_split.specs.{Wishes.patience, Inner.Slots.constraints_of, Inner.Shares.patience_at}
use Rattle.rtui_split.proofs.{SlotLemmas.no_slot, StretchLemmas.IsLastOfLeast, StretchLemmas.last_here, StretchLemmas.last_still}
use Rattle.rtui_split.proofs.share.stretchable_of.Goals as goal

pub loop-at-preserved : goal.loop-at-preserved
loop-at-preserved c =
    let ss = c.args.slots.now in
    let cs = constraints_of ss in
    let i = c.loop-at.at in
    let last = c.loop-at.last in
    let kind = c.patience_of-patience.result in
    let own : patience_at cs i ≡ kind = ap patience (get_or-map (λ (s : Slot). s.part.constraint) ss i no_slot (Max 0)
    c.loop-at-test.true) ∙ sym c.patience_of-patience.ensures in
    let P : Stretchable → Type 0 = λ s. IsLastOfLeast cs (i + 1) s.at s.patience in
    elim (cases_lt kind last.patience) [
      | inl less ↦ subst P (sym (c.last_of-last.ensures.one less))
          (last_still cs i last.at last.patience kind c.loop-at.invariant own less)
      | inr more ↦ subst P (sym (c.last_of-last.ensures.after more))
          (last_here cs i last.at last.patience kind c.loop-at.invariant own more)
    ]

pub returns : goal.returns
returns c = λ some.
    let last = c.loop-at.invariant in
    let within = last.within (omega (arith, some)) in
    let kind = last.kind (omega (arith, some)) in
    let long = length-map c.args.slots.now (λ (s : Slot). s.part.constraint) in
    record {
      within = omega (arith, within, long);
      no_less = λ k before. omega (arith, last.no_less k (omega (arith, within, before)), kind);
      less = λ k after in_list. omega (arith, last.less k after (omega (arith, in_list, long)), kind);
    }
