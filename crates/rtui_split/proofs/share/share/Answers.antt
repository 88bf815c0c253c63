use Rattle.std.proofs.Common.{ℕ, Bool, ◌≡◌, ◌+◌, ◌-◌, ◌==◌, ◌∙◌, ap, subst, sym, arith}
use Rattle.rtui_split.specs.Inner.Slots.{slot_parts, if_before, if_in, wanted_before, sized, weights}
use Rattle.rtui_split.specs.{declared.part.Part.Part, Units.unit_levels, Wishes.weight_in, Wishes.TakesNothingIn}
use Rattle.rtui_split.specs.{Inner.Shares.IsShared, Inner.Shares.ComeFirst, Inner.Shares.DifferLeast}
use Rattle.rtui_split.proofs.ShareLemmas.{before-next, all_left, short_share, filled_share}
use Rattle.rtui_split.proofs.{SlotLemmas.same_sum, SlotLemmas.same_all, TryLemmas.levelled_share, TryLemmas.ragged_share}
use Rattle.rtui_split.proofs.share.share.Goals as goal

pub try_short-requires : goal.try_short-requires
try_short-requires c =
    let short = c.first_short-short.result in
    let misses = c.first_short-short.ensures.short (omega arith) in
    omega (arith, misses, c.first_short-short.ensures.left, before-next short.turn c.args.slots.now)

pub grant_all-requires : goal.grant_all-requires
grant_all-requires c =
    let short = c.first_short-short.result in
    omega (
      arith,
      c.first_short-short.ensures.short (omega arith),
      before-next short.turn c.args.slots.now,
      same_sum (if_in short.turn) c.try_short.new.slots c.args.slots.now c.try_short.ensures.parts,
    )

pub returns-then-short-lt-FILL : goal.returns-then-short-lt-FILL
returns-then-short-lt-FILL c =
    let short = c.first_short-short.result in
    let t = short.turn in
    let old = c.args.slots.now in
    let tried = c.try_short.new.slots in
    let new = c.grant_all.new.slots in
    let granted = c.grant_all.ensures in
    let parts : slot_parts new ≡ slot_parts old = granted.parts ∙ c.try_short.ensures.parts in
    let before : wanted_before t new ≡ wanted_before t old = same_sum (if_before t) new old parts in
    let next = same_sum (if_before (t + 1)) new old parts in
    let left : short.left ≡ c.args.room - wanted_before t new = omega (arith, before, c.first_short-short.ensures.left) in
    let P : ℕ → Type 0 = λ n. ComeFirst t n new in
    let Q : ℕ → Type 0 = λ n. DifferLeast t n new in
    record {
      parts = parts;
      shared = short_share c.args.legacy new c.args.room t c.if-short-lt-FILL.true granted.each
          (omega (arith, granted.all, c.first_short-short.ensures.left, before))
          (omega (arith, c.first_short-short.ensures.left, before))
          (omega (arith, c.first_short-short.ensures.short c.if-short-lt-FILL.true, next))
          (λ other first. levelled_share t short.left old tried new first parts granted.all
          (c.try_short.ensures.level other first) c.try_short.ensures.parts granted.tried)
          (λ legacy. subst P left (granted.first (c.try_short.ensures.first legacy)))
          (λ other some. subst Q left (ragged_share t short.left tried new granted.parts (c.try_short.ensures.smooth other some)
          granted.tried));
    }

pub returns-clause-shared : goal.returns-clause-shared
returns-clause-shared c =
    let old = c.args.slots.now in
    let new = c.fill.new.slots in
    let room = c.args.room in
    let takers = c.takers_of-takers.result in
    let level = c.level_of-level.result in
    let parts = c.fill.ensures.parts in
    let legacy : takers.legacy ≡ c.args.legacy = c.takers_of-takers.ensures.legacy in
    let turn : c.first_short-short.result.turn ≡ 5 = omega (arith, c.first_short-short.ensures.turn, c.if-short-lt-FILL.false) in
    let whole = all_left old room c.first_short-short.result.turn c.first_short-short.result.left turn
    c.first_short-short.ensures.left in
    let weigh : weights takers.legacy new ≡ weights c.args.legacy old =
    same_sum (λ (p : Part). weight_in takers.legacy p.constraint) new old parts ∙ ap (λ b. weights b old) legacy in
    let P : Bool → Type 0 = λ b. IsShared b new room c.left_at.result in
    subst P legacy (filled_share takers new room level c.left_at.result c.fill.ensures.sizes
    (omega (arith, whole, same_sum (if_before 5) new old parts))
    (omega (arith, c.level_of-level.ensures.fits, same_sum (sized takers level) new old parts))
    c.left_at.ensures.most
    (λ small modest. c.left_at.ensures.top small (c.level_of-level.ensures.top small
    (same_all (λ (p : Part). TakesNothingIn takers.legacy p.constraint) new old parts modest)))
    (c.takers_of-takers.ensures.even ∙ ap (λ n. n == 0) (sym weigh))
    (λ small low. omega (
      arith,
      c.level_of-level.ensures.most small low,
      same_sum (sized takers (level + unit_levels)) new old parts,
    ))
    c.left_at.ensures.below)
