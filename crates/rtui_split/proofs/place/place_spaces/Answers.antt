use Rattle.std.proofs.Common.{ℕ, ◌≡◌, ◌≤◌, ◌<◌, ◌+◌, take, drop, length, get_or, All, refl, subst, arith}
use Rattle.rtui_geometry.specs.declared.rect.Rect.{Rect}
use Rattle.rtui_split.specs.Cut.{first_cell, after_of, SpansAcross, InOrder}
use Rattle.rtui_split.proofs.Lists.{All-written, All-closed}
use Rattle.rtui_split.proofs.CutLemmas.{InTurn, InTurn-written, InTurn-closed, InOrder-drop, InOrder-le}
use Rattle.rtui_split.proofs.place.place_spaces.Goals as goal

pub loop-i-preserved : goal.loop-i-preserved
loop-i-preserved c =
    let lane = c.args.lane in
    let d = lane.direction in
    let i = c.loop-i.i in
    let parts = c.args.parts.now in
    let empty : Rect = record { x = 0; y = 0; width = 0; height = 0 } in
    let part = get_or parts i empty in
    let inv = c.loop-i.invariant in
    let within : i < length c.loop-i.spaces = omega arith in
    let next : InOrder d lane.start lane.end parts → (c.loop-i.before ≤ first_cell d part)
    × InOrder d (after_of d part) lane.end (drop (i + 1) parts) =
    λ ordered. InOrder-drop d c.loop-i.before lane.end i parts empty c.loop-i-test.true (inv.rest ordered) in
    let after : InOrder d lane.start lane.end parts → after_of d part ≡ c.ends_of-from.result.1 =
    λ ordered. omega (
      arith,
      c.ends_of-from.ensures.after,
      InOrder-le d (after_of d part) lane.end (drop (i + 1) parts)
          (next ordered).1,
      lane.on_grid,
    ) in
    record {
      across = All-written (SpansAcross d lane.area) c.loop-i.spaces i c.space_up_to.result within inv.across
          c.space_up_to.ensures.across;
      done = λ ordered. InTurn-written d lane.start c.loop-i.before c.ends_of-from.result.1 i c.loop-i.spaces parts
          c.space_up_to.result empty within c.loop-i-test.true
          (inv.done ordered) c.space_up_to.ensures.from
          (omega (arith, c.space_up_to.ensures.to, c.ends_of-from.ensures.first, (next ordered).0))
          (after ordered);
      rest = λ ordered.
          let P : ℕ → Type 0 = λ n. InOrder d n lane.end (drop (i + 1) parts) in
          subst P (after ordered) (next ordered).1;
    }

pub returns : goal.returns
returns c =
    let lane = c.args.lane in
    let d = lane.direction in
    let parts = c.args.parts.now in
    let spaces = c.loop-i.spaces in
    let before = c.loop-i.before in
    let inv = c.loop-i.invariant in
    let n = length parts in
    let all : c.loop-i.i ≡ n = omega arith in
    let long : length spaces ≡ n + 1 = omega arith in
    let last = c.last_space.ensures in
    let P : Rect → Type 0 = SpansAcross d lane.area in
    let Q : ℕ → Type 0 = λ k. All P (take k spaces) in
    let R : ℕ → Type 0 = λ k. InTurn d lane.start before (take k spaces) (take k parts) in
    record {
      across = All-closed P spaces n c.last_space.result long (subst Q all inv.across) last.across;
      turns = λ ordered. InTurn-closed d lane.start before lane.end n spaces parts c.last_space.result long refl
          (subst R all (inv.done ordered)) last.from
          (omega (
            arith,
            last.to,
            InOrder-le d before lane.end (drop c.loop-i.i parts) (inv.rest ordered),
          ));
    }
