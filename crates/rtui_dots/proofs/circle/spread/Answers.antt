use Rattle.std.proofs.Common.{rules, SFits, ◌<◌, ◌^◌, ◌*ℤ◌, pos, arith}
use Rattle.std.specs.Int.{w128}
use Rattle.std.proofs.lemmas.Int.{to_z-of_z, fits_signed_from_abs}
use Rattle.rtui_dots.proofs.CircleLemmas.{product-in}
use Rattle.rtui_dots.proofs.circle.spread.Goals as goal

pub returns-clause-within : goal.returns-clause-within
returns-clause-within c =
    let fz : SFits w128 c.args.cosine = search rules in
    let radius : c.args.radius < 2 ^ 64 = search rules in
    let p = product-in c.args.radius c.args.cosine radius c.requires in
    let fp : SFits w128 (pos c.args.radius *ℤ c.args.cosine) = fits_signed_from_abs w128 (pos c.args.radius *ℤ c.args.cosine)
    (omega (arith, p)) in
    let fr : SFits w128 (pos c.args.radius) = search rules in
    rw c.from.ensures (simp to_z-of_z p)
