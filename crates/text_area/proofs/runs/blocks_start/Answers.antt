use Rattle.std.proofs.Common.{rules, ◌≡◌, ◌+◌, ◌-◌, ◌<◌, ◌≤◌, ℕ, List, true, ap, sym, arith, length, slice_index, slice_range}
use Rattle.text_area.specs.Inner.{in_run}
use Rattle.text_area.proofs.RunLemmas.{block-byte, run-joined}
use Rattle.text_area.proofs.runs.blocks_start.Goals as goal

pub walk-preserved : goal.walk-preserved
walk-preserved c =
    let bytes : List ℕ = c.args.bytes.now in
    let part : List ℕ = slice_range bytes (c.walk.start - 192) c.walk.start in
    let some : 192 ≤ c.walk.start = search rules in
    let there : c.walk.start - 192 + 192 ≡ c.walk.start = omega (arith, some) in
    let all : (k : ℕ) → k < length part → in_run c.args.run (slice_index part k) ≡ true = search rules in (
      omega (arith, c.walk.invariant.0),
      run-joined (in_run c.args.run) bytes (c.walk.start - 192) c.walk.start c.args.end
          (λ k from to. block-byte (in_run c.args.run) bytes part (c.walk.start - 192) 192
          (omega (arith, there, c.walk.invariant.0, c.requires)) (ap (slice_range bytes (c.walk.start - 192)) (sym there)) all k
          from (omega (arith, there, to)))
          c.walk.invariant.1,
    )
