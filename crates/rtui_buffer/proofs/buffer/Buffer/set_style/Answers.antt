use Rattle.std.proofs.Common.{◌≢◌, arith, ap, length, ◌∙◌, inr}
use Rattle.std.proofs.lemmas.Bool.{false≢true}
use Rattle.rtui_buffer.proofs.StyleLemmas.{rows_fit}
use Rattle.rtui_buffer.proofs.buffer.Buffer.set_style.Goals as goal

pub style_rows-requires-clause-inside : goal.style_rows-requires-clause-inside
style_rows-requires-clause-inside c =
    let y = ap (λ r. r.y) c.intersection-common.ensures.value in
    let height = ap (λ r. r.height) c.intersection-common.ensures.value in
    let some : c.intersection-common.result.height ≢ 0 = λ e. false≢true (c.if-is_empty.ensures.1 (inr e)) in
    rows_fit _ c.self.inside.area.height _ _ (omega arith) (rw c.from-width.ensures (ap length c.as_mut_slice.ensures.value
    ∙ c.self.invariant.count))
