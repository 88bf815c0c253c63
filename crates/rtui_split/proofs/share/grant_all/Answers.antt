use Rattle.std.proofs.Common.{◌≡◌, ◌≤◌, ◌<◌, ◌+◌, ◌∙◌, take, drop, length, get_or, List, [], take_all, min, ap, refl, sym, subst}
use Rattle.std.proofs.Common.{arith}
use Rattle.std.proofs.{lemmas.List.drop-set-lt, Math.ListN.drop_of_length-le, lemmas.List.Elements.All-get_or}
use Rattle.std.proofs.{lemmas.List.Elements.All-nil, lemmas.List.Sums.sum_by-drop_more}
use Rattle.rtui_split.specs.Inner.Slots.{total_of, if_before, if_in, wanted_before, wanted_in, tries_in, TriesItsWish}
use Rattle.rtui_split.specs.Inner.Shares.{KeepsToTurn, HasAtLeast, HaveTried, ComeFirst}
use Rattle.rtui_split.specs.declared.slot.Slot.{Slot}
use Rattle.rtui_split.proofs.Lists.{All-written, AllZip-written, sum-written, rest_same}
use Rattle.rtui_split.proofs.SlotLemmas.{no_slot, resized, parts_stay, All-taken}
use Rattle.rtui_split.proofs.TryLemmas.{tries_few, tries_wishes, tries_own, ComeFirst-written}
use Rattle.rtui_split.proofs.share.grant_all.Goals as goal

pub loop-slot-init : goal.loop-slot-init
loop-slot-init c =
    let t = c.args.short.turn in
    let few = tries_few t c.args.slots.now in
    let left = c.requires in
    let spare = c.spare_of-spare.ensures in
    record {
      parts = refl;
      rest = refl;
      each = All-nil (λ (s : Slot). KeepsToTurn t s.part s.size);
      given = omega arith;
      bound = omega (arith, spare);
      wished = omega (arith, spare, few, left);
      fits = λ fit. omega (arith, spare, fit);
      tried = λ fit. tt;
      first = λ wish. (omega (arith, spare, left, tries_wishes t c.args.slots.now wish), omega arith, tt);
    }

pub loop-slot-preserved : goal.loop-slot-preserved
loop-slot-preserved c =
    let old = c.args.slots.now in
    let ss = c.loop-slot.slots in
    let i = c.loop-slot.slot-index in
    let t = c.args.short.turn in
    let grant = c.grant_of-grant.result in
    let does = c.grant_of-grant.ensures in
    let inv = c.loop-slot.invariant in
    let new = resized ss i grant.size in
    let within : i < length ss = omega arith in
    let in_old : i < length old = omega arith in
    let rest = tries_in t (drop (i + 1) ss) in
    let next = sum_by-drop_more (λ (s : Slot). min (if_in t s.part) s.size) ss i no_slot within in
    let wished = sum_by-drop_more (λ (s : Slot). if_in t s.part) ss i no_slot within in
    let same = rest_same ss old i no_slot within in_old inv.rest in
    let after = drop-set-lt (i + 1) ss i new (omega arith) in
    let P : List Slot → Type 0 = λ rs. tries_in t rs + grant.spare ≤ wanted_in t rs in
    record {
      parts = parts_stay ss i grant.size ∙ inv.parts;
      rest = after ∙ same.1;
      each = All-written (λ (s : Slot). KeepsToTurn t s.part s.size) ss i new within inv.each does.turn;
      given = omega (
        arith,
        inv.given,
        does.given,
        sum-written (λ (s : Slot). s.size) ss i new within,
        sum-written (λ (s : Slot). if_before t s.part) ss i new within,
      );
      bound = omega (arith, does.bound rest (omega (arith, inv.bound, next)), ap (tries_in t) after);
      wished = subst P (sym after) (does.wished rest (wanted_in t (drop (i + 1) ss)) (tries_few t (drop (i + 1) ss))
          (omega (arith, inv.wished, next, wished)));
      fits = λ fit. omega (arith, (does.tried rest (omega (arith, inv.fits fit, next))).1, ap (tries_in t) after);
      tried = λ fit.
          let H : Slot → Type 0 = λ o. HasAtLeast t o.size new.part new.size in
          AllZip-written (λ (o n : Slot). HasAtLeast t o.size n.part n.size) old ss i no_slot new in_old within (inv.tried fit)
          (subst H same.0 (does.tried rest (omega (arith, inv.fits fit, next))).0);
      first = λ wish.
          let own = subst TriesItsWish (sym same.0) (All-get_or TriesItsWish old i no_slot in_old wish) in
          let first = does.first (tries_own t (get_or ss i no_slot) own) (inv.first wish).0 in (
            first.2,
            omega (arith, first.1, (inv.first wish).1, sum-written (λ (s : Slot). if_in t s.part) ss i new within),
            ComeFirst-written t c.args.short.left ss i new within (inv.first wish).2
                (λ is. omega (arith, first.0 is, (inv.first wish).1)),
          );
    }

pub returns : goal.returns
returns c =
    let ss = c.loop-slot.slots in
    let old = c.args.slots.now in
    let i = c.loop-slot.slot-index in
    let t = c.args.short.turn in
    let inv = c.loop-slot.invariant in
    let all : take i ss ≡ ss = take_all i ss (omega arith) in
    let none : drop i ss ≡ [] = drop_of_length-le ss (omega arith) in
    let P : List Slot → Type 0 = λ rs. total_of rs + c.loop-slot.left ≡ wanted_before t rs + c.args.short.left in
    let Q : List Slot → Type 0 = λ rs. HaveTried t old rs in
    let R : List Slot → Type 0 = λ rs. HaveTried t rs (take i ss) in
    let S : List Slot → Type 0 = λ rs. ComeFirst t c.args.short.left rs in
    record {
      parts = inv.parts;
      each = All-taken (λ (s : Slot). KeepsToTurn t s.part s.size) ss i (omega arith) inv.each;
      all = omega (arith, subst P all inv.given, inv.bound, inv.wished, ap (tries_in t) none, ap (wanted_in t) none);
      tried = λ fit. subst Q all (subst R (take_all i old (omega arith)) (inv.tried fit));
      first = λ wish. subst S all (inv.first wish).2;
    }
