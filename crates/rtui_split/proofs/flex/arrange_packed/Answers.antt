use Rattle.std.proofs.Common.{ℕ, ◌≡◌, ◌+◌, ◌*◌, ◌-◌, ◌≤◌, length, sym, Bool, true, false, subst, ◌∙◌, arith}
use Rattle.rtui_split.specs.Inner.Slots.{total_of, wanted_before, TakeNothing}
use Rattle.rtui_split.specs.Inner.{Shares.IsShared, Spaces.FitsBefore, Spaces.IsFlexedIn, Spaces.least_gaps}
use Rattle.rtui_split.proofs.FlexLemmas.{arranged, given_in, one_more, packed_room, packed_flexed, lead_le}
use Rattle.rtui_split.proofs.{ShareLemmas.all_modest_in, LegacyLemmas.stretched_given, LegacyLemmas.legacy_arranged}
use Rattle.rtui_split.proofs.flex.arrange_packed.Goals as goal

pub returns : goal.returns
returns c =
    let ss = c.share-left.new.slots in
    let room = c.args.room in
    let n = length ss in
    let left = c.share-left.result in
    let led : c.lead_of.result ≤ left = omega (arith, lead_le room.flex left, c.lead_of.ensures) in
    let for_parts = c.saturating_sub-for_parts.result in
    let shared = c.share-left.ensures.shared in
    let beside : (t : ℕ) → FitsBefore t ss room → (for_parts + least_gaps room ss ≡ room.whole)
    × (for_parts + (n - 1) * room.gap ≡ room.whole) = λ t fits.
    packed_room room.flex n room.gap c.saturating_sub-inner.result room.whole for_parts (wanted_before t ss) c.requires
    (omega arith) (omega arith) (omega arith) fits in
    let P : ℕ → Type 0 = λ f. IsFlexedIn ss room (record { first = f; middle = room.gap }) in
    let Q : Bool → Type 0 = λ b. IsShared b ss for_parts left in
    record {
      parts = c.share-left.ensures.parts;
      given = given_in ss room (record { first = c.lead_of.result; middle = room.gap })
          (λ t last fits. shared.granted t last (omega (arith, (beside t fits).0, fits)))
          (λ t fits. omega (arith, (beside t fits).1, one_more n room.gap, shared.total, led));
      arranged = λ keeps.
          arranged ss room left for_parts (record { first = c.lead_of.result; middle = room.gap })
          (subst Q (c.is_legacy-legacy.ensures.keeps n keeps) shared)
          (omega arith)
          (λ t fits. omega (arith, (beside t fits).0, fits))
          (λ t fits. omega (arith, (beside t fits).0))
          (λ spaced more. omega (arith, (beside 0 spaced).0))
          (λ some small spaced. subst P (sym c.lead_of.ensures)
          (packed_flexed room.flex (TakeNothing ss) n room.gap (total_of ss) left room.whole c.requires
          (omega (arith, (beside 0 spaced).1, shared.total))
          (λ nobody. omega (
            arith,
            (beside 0 spaced).1,
            shared.rest (omega (arith, (beside 0 spaced).0))
                (all_modest_in c.is_legacy-legacy.result ss nobody),
          ))));
      legacy = λ flex.
          let no : false ≡ true = sym c.if-legacy.false ∙ c.is_legacy-legacy.ensures.legacy flex in absurd (cc);
    }

pub returns-then-legacy : goal.returns-then-legacy
returns-then-legacy c =
    let old = c.share-left.new.slots in
    let new = c.stretch.new.slots in
    let room = c.args.room in
    let n = length new in
    let left = c.share-left.result in
    let for_parts = c.saturating_sub-for_parts.result in
    let shared = c.share-left.ensures.shared in
    let beside : (t : ℕ) → FitsBefore t new room → (for_parts + least_gaps room new ≡ room.whole)
    × (for_parts + (n - 1) * room.gap ≡ room.whole) = λ t fits.
    packed_room room.flex n room.gap c.saturating_sub-inner.result room.whole for_parts (wanted_before t new) c.requires
    (omega arith) (omega arith) (omega arith) fits in
    let P : Bool → Type 0 = λ b. IsShared b old for_parts left in
    record {
      parts = c.stretch.ensures.parts ∙ c.share-left.ensures.parts;
      given = stretched_given c.is_legacy-legacy.result old new room left for_parts shared c.stretch.ensures.parts
          c.stretch.ensures.granted c.stretch.ensures.all (λ t fits. (beside t fits).1)
          (λ t fits. omega (arith, (beside t fits).0, fits));
      arranged = λ keeps.
          let no : true ≡ false = sym c.if-legacy.true ∙ c.is_legacy-legacy.ensures.keeps n keeps in absurd (cc);
      legacy = λ flex. legacy_arranged old new room left for_parts (subst P c.if-legacy.true shared) c.stretch.ensures.parts
          c.stretch.ensures.nothing c.stretch.ensures.all
          (λ some. c.stretch.ensures.one (omega (arith, some)) (omega (arith, shared.total)))
          (omega arith) (λ t fits. (beside t fits).0);
    }
