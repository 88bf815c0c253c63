use Rattle.std.proofs.Common.{rules, ℕ, List, ◌≡◌, ◌+◌, ◌≤◌, refl, arith, length, slice_range}
use Rattle.text_area.specs.Lines.{feeds}
use Rattle.text_area.proofs.KeptLemmas.{feeds-forth}
use Rattle.text_area.proofs.lines.skipped_below.Goals as goal

pub walk-preserved : goal.walk-preserved
walk-preserved c =
    let bytes : List ℕ = c.as_bytes-bytes.result.now in
    let part : c.from-count.result ≡ feeds (slice_range bytes c.walk.end (c.walk.end + 192)) = search rules in
    let few : c.from-count.result ≤ c.walk.left = search rules in
    let within : c.walk.end + 192 ≤ length bytes = search rules in
    let forth = feeds-forth bytes c.walk.end (c.walk.end + 192) _ c.from-count.result (omega arith) refl part in
    (within, omega (arith, c.walk.invariant.1, forth, few))
