use Rattle.std.proofs.Common.{ℕ, ◌≡◌, ◌+◌, subst, sym, ◌∙◌, arith, refl, slice_index, length, MatchOption, Option, get_or}
use Rattle.std.proofs.lemmas.List.{length-map}
use Rattle.rtui_split.specs.Inner.Slots.{if_in, wishes_of, heights_of, sizes_of}
use Rattle.rtui_split.specs.{declared.slot.Slot.Slot, Inner.Runs.as_run, Inner.Runs.IsFirstRun, Inner.Runs.StartsAt}
use Rattle.rtui_split.proofs.WalkLemmas.{NoneBefore, apart, next_more, next_same, next_out}
use Rattle.rtui_split.proofs.SlotLemmas.{no_slot, size_at}
use Rattle.rtui_split.specs.declared.smooth.Run as coded
use Rattle.rtui_split.proofs.smooth.next_run.Goals.{then-starts_at, else-starts_at}
use Rattle.rtui_split.proofs.smooth.next_run.Goals as goal

pub loop-first-preserved : goal.loop-first-preserved
loop-first-preserved c =
    let ss = c.args.slots.now in
    let t = c.args.turn in
    let ws = wishes_of t ss in
    let standing = heights_of t ss in
    let xs = sizes_of ss in
    let i = c.loop-first.first in
    let inside = c.loop-first-test.true in
    let height : (get_or ss i no_slot).size ≡ slice_index xs i = size_at ss i no_slot (omega arith) in
    let P : Option coded.Run → Type 0 = λ b. MatchOption b (NoneBefore ws xs (i + 1))
    (λ r. IsFirstRun ws standing xs (i + 1) (as_run r)) in
    elim c.if-starts_at.branch [
      | then-starts_at w ↦
          let run = w.run_from-run in
          subst P (sym w.best-is) (next_more ws standing xs c.loop-first.best run.result w.first_of.result i (apart t ss)
          run.ensures.run run.ensures.first (run.ensures.height ∙ height) w.first_of.ensures.new w.first_of.ensures.old
          c.loop-first.invariant)
      | else-starts_at w ↦
          let Q : ℕ → Type 0 = λ n. StartsAt ws n i → ⊥ in
          subst P (sym w.best-is) (next_same ws standing xs c.loop-first.best i
          (subst Q height (c.starts_at.ensures.no w.if-starts_at.false)) c.loop-first.invariant)
    ]

pub returns : goal.returns
returns c =
    let ss = c.args.slots.now in
    let ws = wishes_of c.args.turn ss in
    next_out ws (heights_of c.args.turn ss) (sizes_of ss) c.loop-first.best c.loop-first.first (length ws)
    (omega (arith, c.loop-first-test.false, length-map ss (λ (s : Slot). if_in c.args.turn s.part))) refl c.loop-first.invariant
