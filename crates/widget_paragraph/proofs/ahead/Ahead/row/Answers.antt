use Rattle.std.proofs.Common.{◌-◌, ◌∙◌, ap, length, take, drop}
use Rattle.widget_paragraph.specs.Reflow.{split_row}
use Rattle.widget_paragraph.proofs.AheadLemmas.{row-of-left, none-left}
use Rattle.widget_paragraph.proofs.ahead.Ahead.row.Goals as goal

pub returns-clause-value : goal.returns-clause-value
returns-clause-value c =
    let a = c.args.self.now in
    c.split_row.ensures.value
    ∙ (ap (λ gs. split_row a.width a.trim (take (length gs - a.passed) (drop a.passed gs))) c.deref.ensures.value
    ∙ row-of-left a.width a.passed a.trim a.held.items _ (none-left a.width _ c.requires.ready.enough) c.requires.fit)
