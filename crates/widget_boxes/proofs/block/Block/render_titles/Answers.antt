use Rattle.std.proofs.Common.{refl}
use Rattle.ratatui_core.proofs.BufferLemmas.{on-ok, within-same}
use Rattle.widget_boxes.specs.{declared.title.TitlePosition.TheVariants.Top, declared.title.TitlePosition.TheVariants.Bottom}
use Rattle.widget_boxes.specs.{Boxes.row_titles, Boxes.titles_area}
use Rattle.widget_boxes.proofs.{BoxLemmas.titles-keep, TitleLemmas.titles-then}
use Rattle.widget_boxes.proofs.block.Block.render_titles.Goals as goal

pub returns-clause-keeps : goal.returns-clause-keeps
returns-clause-keeps c =
    titles-keep c.args.self.now c.args.area c.args.buf.now c.render_title_position.new.buf c.render_title_position-2.new.buf
    c.render_title_position.ensures.within c.render_title_position.ensures.none c.render_title_position-2.ensures.within
    c.render_title_position-2.ensures.none

pub returns-clause-ok : goal.returns-clause-ok
returns-clause-ok c =
    on-ok c.render_title_position-2.result
    (titles-then c.args.self.now.titles_style (row_titles c.args.self.now (titles_area c.args.self.now c.args.area Top) Top)
    (row_titles c.args.self.now (titles_area c.args.self.now c.args.area Bottom) Bottom)
    c.args.buf.now c.render_title_position.new.buf c.render_title_position-2.new.buf c.in_ok-render_title_position.ensures.ok)
    c.render_title_position-2.ensures.ok

pub returns-in_err-render_title_position-clause-keeps : goal.returns-in_err-render_title_position-clause-keeps
returns-in_err-render_title_position-clause-keeps c =
    titles-keep c.args.self.now c.args.area c.args.buf.now c.render_title_position.new.buf c.render_title_position.new.buf
    c.render_title_position.ensures.within c.render_title_position.ensures.none
    (within-same (titles_area c.args.self.now c.args.area Bottom) c.render_title_position.new.buf) (λ none. refl)
