use Rattle.rtui_buffer.proofs.ShownLemmas.{IsSettledBuffer-styled, IsPaintable-styled}
use Rattle.rtui_buffer.proofs.laws.styled_empty_buffers_are_settled.Goals as goal

pub returns-clause-settled : goal.returns-clause-settled
returns-clause-settled c = IsSettledBuffer-styled

pub returns-clause-paintable : goal.returns-clause-paintable
returns-clause-paintable c = λ r area style old new p n edges emptied styled.
    IsPaintable-styled r area style old new edges emptied styled p n
