use Rattle.std.proofs.Common.{rules, ◌≤◌, ◌<◌, length, arith, ap, sym, ◌∙◌}
use Rattle.widget_paragraph.specs.Reflow.{is_break}
use Rattle.widget_paragraph.proofs.ReflowLemmas.{count-inside, break-blank, break-word}
use Rattle.widget_paragraph.proofs.reflow.row_ends.Goals as goal

pub offset_bounds-graphemes-count : goal.offset_bounds-graphemes-count
offset_bounds-graphemes-count c = let le : c.fitting_count-count.result ≤ length c.args.graphemes.now =
    count-inside c.args.graphemes.now c.args.width c.fitting_count-count.result c.fitting_count-count.ensures in search rules

pub bounds-graphemes-count : goal.bounds-graphemes-count
bounds-graphemes-count c = let le =
    count-inside c.args.graphemes.now c.args.width c.fitting_count-count.result c.fitting_count-count.ensures in
    let more = c.if-count-graphemes.false in omega arith

pub break_at_blank-requires : goal.break_at_blank-requires
break_at_blank-requires c = let le =
    count-inside c.args.graphemes.now c.args.width c.fitting_count-count.result c.fitting_count-count.ensures in
    let more = c.if-count-graphemes.false in omega arith

pub break_in_word-requires : goal.break_in_word-requires
break_in_word-requires c = count-inside c.args.graphemes.now c.args.width c.fitting_count-count.result
    c.fitting_count-count.ensures

pub returns-then-is_blank : goal.returns-then-is_blank
returns-then-is_blank c =
    let lt : c.fitting_count-count.result < length c.args.graphemes.now =
    (let le = count-inside c.args.graphemes.now c.args.width c.fitting_count-count.result c.fitting_count-count.ensures in
    let more = c.if-count-graphemes.false in omega arith) in
    break-blank c.args.graphemes.now c.args.width c.fitting_count-count.result c.fitting_count-count.ensures _ lt
    c.break_at_blank.result c.break_at_blank.ensures
    (ap is_break (sym c.index-graphemes-count.is) ∙ (sym c.is_blank.ensures ∙ c.if-is_blank.true))

pub returns-else-is_blank : goal.returns-else-is_blank
returns-else-is_blank c =
    let lt : c.fitting_count-count.result < length c.args.graphemes.now =
    (let le = count-inside c.args.graphemes.now c.args.width c.fitting_count-count.result c.fitting_count-count.ensures in
    let more = c.if-count-graphemes.false in omega arith) in
    break-word c.args.graphemes.now c.args.width c.fitting_count-count.result c.fitting_count-count.ensures _ lt
    c.break_in_word.result c.break_in_word.ensures
    (ap is_break (sym c.index-graphemes-count.is) ∙ (sym c.is_blank.ensures ∙ c.if-is_blank.false))
