use Rattle.std.proofs.Common.{false, sym, ap, ◌∙◌, arith}
use Rattle.widget_tree.specs.Depths.{is_opened}
use Rattle.widget_tree.proofs.MoveLemmas.{opened-there, marks-set}
use Rattle.widget_tree.proofs.marks.close.Goals as goal

pub index_mut-requires : goal.index_mut-requires
index_mut-requires c =
    let v = c.args.opened.now in
    let lt = opened-there v.items c.args.k
    (sym (c.if-not-is_opened.ensures ∙ ap (λ xs. is_opened xs c.args.k) c.as_slice.ensures.value)) in
    omega (arith, v.ok.0)

pub returns-clause-marks : goal.returns-clause-marks
returns-clause-marks c =
    let v = c.args.opened.now in
    marks-set v.items c.args.k false (opened-there v.items c.args.k
    (sym (c.if-not-is_opened.ensures ∙ ap (λ xs. is_opened xs c.args.k) c.as_slice.ensures.value)))
