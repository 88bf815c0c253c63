use Rattle.std.proofs.Common.{ℕ, ◌≡◌, ◌≤◌, ◌+◌, ◌*◌, length, ap, ◌∙◌, subst, arith}
use Rattle.rtui_split.specs.Spaces.{least_spaces, KeepsWishes}
use Rattle.rtui_split.specs.Inner.Spaces.{FitsBefore, first_share, middle_share}
use Rattle.rtui_split.specs.Inner.Slots.{total_of, if_before, wanted_before, TakeNothing}
use Rattle.rtui_split.proofs.{SlotLemmas.same_sum}
use Rattle.rtui_split.proofs.FlexLemmas.{arranged, spread_room, spread_beside, spread_spaced, spread_flexed, given_in}
use Rattle.rtui_split.proofs.flex.arrange_spread.Goals as goal

pub returns : goal.returns
returns c =
    let ss = c.share.new.slots in
    let room = c.args.room in
    let n = length ss in
    let shared = c.share.ensures.shared in
    let for_parts = c.room_after_mins-for_parts.result in
    let first = c.least_of-first.result.0 in
    let after = c.least_of-first.result.1 in
    let least = least_spaces room.flex n in
    let count : first + after ≡ least = c.least_of-first.ensures c.requires ∙ ap (least_spaces room.flex) (omega arith) in
    let within : total_of ss ≤ for_parts = omega (arith, shared.total) in
    let most = c.room_after_mins-for_parts.ensures.most in
    let spaces = c.spaces_of.result in
    let same : n * spaces.middle ≡ length c.args.slots.now * spaces.middle = ap (λ k. k * spaces.middle) (omega arith) in
    let fit : (t : ℕ) → FitsBefore t ss room → wanted_before t ss ≤ for_parts = λ t fits.
    spread_room room.whole room.gap first after least c.min-least.result c.saturating_mul-2.result for_parts (wanted_before t ss)
    count (omega arith) (omega arith) (omega arith) fits in
    let P : ℕ → Type 0 = λ k. KeepsWishes room.flex k in
    record {
      parts = c.share.ensures.parts;
      given = given_in ss room spaces (λ t last fits. shared.granted t last (fit t fits))
          (λ t fits. omega (arith, c.spaces_of.ensures.fit, same, c.rest_of.ensures, within, most));
      arranged = λ keeps. arranged ss room c.share.result for_parts spaces shared (omega arith) fit
          (λ t fits. spread_beside room.whole room.gap first after least c.min-least.result c.saturating_mul-2.result for_parts
          count (omega arith) (omega arith) (omega arith))
          (λ spaced more. omega (
            arith,
            spaced,
            c.room_after_mins-for_parts.ensures.spared
                (omega (arith, more, same_sum (if_before 1) ss c.args.slots.now c.share.ensures.parts)),
            spread_spaced room.gap first after least count,
          ))
          (λ some small spaced. spread_flexed room.flex (TakeNothing ss) n room.gap (total_of ss) c.rest_of.result room.whole
          spaces.first spaces.middle c.requires keeps some
          (omega (arith, c.rest_of.ensures, within, most))
          (c.spaces_of.ensures.first c.requires (omega (arith, some))
          ∙ ap (λ k. first_share room.flex k c.rest_of.result) (omega arith))
          (c.spaces_of.ensures.middle c.requires (subst P (omega arith) keeps) (omega (arith, some))
          ∙ ap (λ k. middle_share room.flex k c.rest_of.result) (omega arith)));
    }
