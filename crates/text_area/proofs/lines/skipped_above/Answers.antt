use Rattle.std.proofs.Common.{rules, ℕ, List, ◌≡◌, ◌-◌, ◌≤◌, refl, arith, slice_range}
use Rattle.text_area.specs.Lines.{feeds}
use Rattle.text_area.proofs.KeptLemmas.{feeds-forth}
use Rattle.text_area.proofs.lines.skipped_above.Goals as goal

pub walk-preserved : goal.walk-preserved
walk-preserved c =
    let bytes : List ℕ = c.as_bytes-bytes.result.now in
    let part : c.from-count.result ≡ feeds (slice_range bytes (c.walk.top - 192) c.walk.top) = search rules in
    let few : c.from-count.result ≤ c.walk.left = search rules in
    let forth = feeds-forth bytes (c.walk.top - 192) c.walk.top _ c.from-count.result (omega arith) refl part in
    (omega (arith, c.walk.invariant.0), omega (arith, c.walk.invariant.1, forth, few))
