-- Two rectangles that overlap share the greater of both corners.
use Rattle.std.proofs.Common.{max, arith}
use Rattle.std.proofs.lemmas.Bool.Decides.{nat_tests}
use Rattle.rtui_geometry.proofs.rect.Rect.intersects.Goals as goal

pub returns-then-self-bottom-clause-shared : goal.returns-then-self-bottom-clause-shared
returns-then-self-bottom-clause-shared c = λ some other.
    let a = c.args.self in
    let b = c.args.other in (
      λ overlap. (
        record { x = max a.x b.x; y = max a.y b.y },
        record { left = omega arith; right = grind (arith, nat_tests); top = omega arith; bottom = grind (arith, nat_tests) },
        record { left = omega arith; right = grind (arith, nat_tests); top = omega arith; bottom = grind (arith, nat_tests) },
      ),
      λ share. grind (arith, nat_tests),
    )
