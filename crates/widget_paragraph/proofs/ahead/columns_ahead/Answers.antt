use Rattle.std.proofs.Common.{rules, ap, arith, drop}
use Rattle.std.proofs.lemmas.List.{take_rest}
use Rattle.widget_paragraph.specs.Reflow.{columns_taken}
use Rattle.widget_paragraph.proofs.ReflowLemmas.{start-inside}
use Rattle.widget_paragraph.proofs.ahead.columns_ahead.Goals as goal

pub offset_bounds-graphemes-trimmed_start : goal.offset_bounds-graphemes-trimmed_start
offset_bounds-graphemes-trimmed_start c = let le =
    start-inside c.args.graphemes.now c.args.trim c.trimmed_start.result c.trimmed_start.ensures in search rules

pub slice_bounds-columns_of-count : goal.slice_bounds-columns_of-count
slice_bounds-columns_of-count c = start-inside c.args.graphemes.now c.args.trim c.trimmed_start.result c.trimmed_start.ensures

pub slice_bounds-columns_of-start : goal.slice_bounds-columns_of-start
slice_bounds-columns_of-start c = let le =
    start-inside c.args.graphemes.now c.args.trim c.trimmed_start.result c.trimmed_start.ensures in search rules

pub returns : goal.returns
returns c =
    let gs = c.args.graphemes.now in
    let tail = ap columns_taken (take_rest gs c.trimmed_start.result) in
    let start = ap (λ s. columns_taken (drop s gs)) c.trimmed_start.ensures in
    omega (arith, c.from.ensures, c.columns_of.ensures, tail, start)
