use Rattle.std.proofs.Common.{rules}
use Rattle.widget_paragraph.proofs.ReflowLemmas.{start-inside, split-value, split-is, next-inside, end-inside}
use Rattle.widget_paragraph.proofs.reflow.split_row.Goals as goal

pub offset_bounds-graphemes-start : goal.offset_bounds-graphemes-start
offset_bounds-graphemes-start c = let le =
    start-inside c.args.graphemes.now c.args.trim c.trimmed_start-start.result c.trimmed_start-start.ensures in search rules

pub slice_bounds-rest-count : goal.slice_bounds-rest-count
slice_bounds-rest-count c = start-inside c.args.graphemes.now c.args.trim c.trimmed_start-start.result
    c.trimmed_start-start.ensures

pub slice_bounds-rest-start : goal.slice_bounds-rest-start
slice_bounds-rest-start c = let le =
    start-inside c.args.graphemes.now c.args.trim c.trimmed_start-start.result c.trimmed_start-start.ensures in search rules

pub slice_bounds-result-end : goal.slice_bounds-result-end
slice_bounds-result-end c = end-inside c.args.graphemes.now c.args.width c.args.trim c.trimmed_start-start.result
    c.row_ends-end.result c.requires c.trimmed_start-start.ensures c.row_ends-end.ensures

pub overflow_add-result : goal.overflow_add-result
overflow_add-result c = let le = next-inside c.args.graphemes.now c.args.width c.args.trim c.trimmed_start-start.result
    c.row_ends-end.result c.requires c.trimmed_start-start.ensures c.row_ends-end.ensures in search rules

pub returns-clause-value : goal.returns-clause-value
returns-clause-value c = split-value c.args.graphemes.now c.args.width c.args.trim c.trimmed_start-start.result
    c.row_ends-end.result c.requires c.trimmed_start-start.ensures c.row_ends-end.ensures

pub returns-clause-fits : goal.returns-clause-fits
returns-clause-fits c = (split-is c.args.graphemes.now c.args.width c.args.trim c.trimmed_start-start.result c.row_ends-end.result
    c.requires c.trimmed_start-start.ensures c.row_ends-end.ensures).fits

pub returns-clause-keeps : goal.returns-clause-keeps
returns-clause-keeps c = (split-is c.args.graphemes.now c.args.width c.args.trim c.trimmed_start-start.result
    c.row_ends-end.result c.requires c.trimmed_start-start.ensures c.row_ends-end.ensures).keeps

pub returns-clause-some : goal.returns-clause-some
returns-clause-some c = λ some.
    (split-is c.args.graphemes.now c.args.width c.args.trim c.trimmed_start-start.result c.row_ends-end.result c.requires
    c.trimmed_start-start.ensures c.row_ends-end.ensures).some some

pub returns-clause-inside : goal.returns-clause-inside
returns-clause-inside c = next-inside c.args.graphemes.now c.args.width c.args.trim c.trimmed_start-start.result
    c.row_ends-end.result c.requires c.trimmed_start-start.ensures c.row_ends-end.ensures
