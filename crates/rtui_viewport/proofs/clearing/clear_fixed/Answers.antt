use Rattle.std.proofs.Common.{refl, arith}
use Rattle.rtui_viewport.proofs.ClearLemmas.{none_needed}
use Rattle.rtui_viewport.proofs.clearing.clear_fixed.Goals as goal

pub returns-then-is_empty-clause-written : goal.returns-then-is_empty-clause-written
returns-then-is_empty-clause-written g c =
    let none = none_needed c.args.area (g.B.Backend.screen c.args.backend.now) (c.if-is_empty.ensures.0 refl) in
    λ room. omega (arith, none)
