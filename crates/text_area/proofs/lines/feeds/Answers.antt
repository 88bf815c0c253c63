use Rattle.std.proofs.Common.{rules, ℕ, List, ◌≡◌, ◌+◌, ◌≤◌, length, slice_range, arith}
use Rattle.text_area.specs.Lines.{feeds}
use Rattle.text_area.proofs.LineLemmas.{count-within}
use Rattle.text_area.proofs.KeptLemmas.{feeds-forth}
use Rattle.text_area.proofs.lines.feeds.Goals as goal

pub walk-preserved : goal.walk-preserved
walk-preserved c =
    let bytes : List ℕ = c.as_bytes-bytes.result.now in
    let end : ℕ = c.walk.at + c.min.result in
    let part : c.from-count.result ≡ feeds (slice_range bytes c.walk.at end) = search rules in
    let size : length (slice_range bytes c.walk.at end) ≤ c.min.result = search rules in
    let within : end ≤ length bytes = search rules in (
      feeds-forth bytes c.walk.at end c.walk.count c.from-count.result (omega arith) c.walk.invariant.0 part,
      omega (arith, c.walk.invariant.1, part, count-within (slice_range bytes c.walk.at end), size),
      within,
    )
