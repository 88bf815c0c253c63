use Rattle.std.proofs.Common.{rules, ◌≡◌, ◌+◌, ◌<◌, ◌≤◌, ℕ, List, true, refl, arith, length, slice_index, slice_range}
use Rattle.text_area.specs.Inner.{in_run}
use Rattle.text_area.proofs.RunLemmas.{block-byte, run-joined}
use Rattle.text_area.proofs.runs.blocks_end.Goals as goal

pub walk-preserved : goal.walk-preserved
walk-preserved c =
    let bytes : List ℕ = c.args.bytes.now in
    let part : List ℕ = slice_range bytes c.walk.end (c.walk.end + 192) in
    let within : c.walk.end + 192 ≤ length bytes = search rules in
    let all : (k : ℕ) → k < length part → in_run c.args.run (slice_index part k) ≡ true = search rules in (
      omega (arith, c.walk.invariant.0),
      within,
      run-joined (in_run c.args.run) bytes c.args.start c.walk.end (c.walk.end + 192) c.walk.invariant.2
          (block-byte (in_run c.args.run) bytes part c.walk.end 192 within refl all),
    )
