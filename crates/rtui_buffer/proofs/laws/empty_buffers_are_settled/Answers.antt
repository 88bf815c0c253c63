use Rattle.rtui_buffer.proofs.EmptyLemmas.{IsSettledBuffer-empty, IsPaintable-empty}
use Rattle.rtui_buffer.proofs.laws.empty_buffers_are_settled.Goals as goal

pub returns-clause-settled : goal.returns-clause-settled
returns-clause-settled c = IsSettledBuffer-empty

pub returns-clause-paintable : goal.returns-clause-paintable
returns-clause-paintable c = λ r s p n empty. IsPaintable-empty r s empty p n
