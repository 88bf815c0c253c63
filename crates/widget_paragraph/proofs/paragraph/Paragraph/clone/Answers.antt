use Rattle.widget_boxes.proofs.CloneLemmas.{block-same}
use Rattle.widget_paragraph.specs.contracts.paragraph.ParagraphEq.TheImpl.Laws.{laws-law}
use Rattle.widget_paragraph.proofs.paragraph.Paragraph.clone.Goals as goal

pub returns : goal.returns
returns c =
    rw (block-same _ _ c.in_ok-cloned_block.ensures, c.in_ok-clone.ensures.value) (laws-law.refl c.args.self.now)
