use Rattle.std.proofs.Common.{◌++◌, ◌∙◌, sym, refl, subst, OnOk, reverse}
use Rattle.ratatui_core.specs.declared.layout.HorizontalAlignment.TheVariants.{Left, Center, Right}
use Rattle.ratatui_core.specs.Widgets.{ChangesWithin}
use Rattle.ratatui_core.proofs.{BufferLemmas.on-ok, WidgetLemmas.within-then}
use Rattle.widget_boxes.specs.Titles.{RendersTitles, from_left, from_centre, from_right}
use Rattle.widget_boxes.specs.Boxes.{row_titles, titles_area, lines_placed}
use Rattle.widget_boxes.proofs.TitleLemmas.{titles-then, row-none}
use Rattle.widget_boxes.proofs.block.Block.render_title_position.Goals as goal

pub returns-then-not-has_title_at_position-clause-ok : goal.returns-then-not-has_title_at_position-clause-ok
returns-then-not-has_title_at_position-clause-ok c =
    subst (λ ts. RendersTitles c.args.self.now.titles_style ts c.args.buf.now c.args.buf.now)
    (sym (row-none c.args.self.now (titles_area c.args.self.now c.args.area c.args.position) c.args.position
    (sym c.has_title_at_position.ensures ∙ c.if-not-has_title_at_position.true))) refl

pub returns-clause-ok : goal.returns-clause-ok
returns-clause-ok c =
    let left = from_left c.titles_area-row.result (lines_placed c.args.self.now c.args.position Left c.args.self.now.titles.items)
    in
    let centre = from_centre c.titles_area-row.result
    (lines_placed c.args.self.now c.args.position Center c.args.self.now.titles.items) in
    let right = from_right c.titles_area-row.result (lines_placed c.args.self.now c.args.position Right
    (reverse c.args.self.now.titles.items)) in
    subst (λ row. OnOk c.render_right_titles.result (RendersTitles c.args.self.now.titles_style
    (row_titles c.args.self.now row c.args.position) c.args.buf.now c.render_right_titles.new.buf)) c.titles_area-row.ensures
    (on-ok c.render_right_titles.result
    (λ last. titles-then c.args.self.now.titles_style left (centre ++ right) c.args.buf.now c.render_from_left.new.buf
    c.render_right_titles.new.buf c.in_ok-render_from_left.ensures.ok
    (titles-then c.args.self.now.titles_style centre right c.render_from_left.new.buf c.render_center_titles.new.buf
    c.render_right_titles.new.buf c.in_ok-render_center_titles.ensures.ok last))
    c.render_right_titles.ensures.ok)

pub returns-in_err-render_center_titles-clause-within : goal.returns-in_err-render_center_titles-clause-within
returns-in_err-render_center_titles-clause-within c =
    subst (λ r. ChangesWithin r c.args.buf.now c.render_center_titles.new.buf) c.titles_area-row.ensures
    (within-then c.titles_area-row.result c.args.buf.now c.render_from_left.new.buf c.render_center_titles.new.buf
    c.render_from_left.ensures.within c.render_center_titles.ensures.within)

pub returns-clause-within : goal.returns-clause-within
returns-clause-within c =
    subst (λ r. ChangesWithin r c.args.buf.now c.render_right_titles.new.buf) c.titles_area-row.ensures
    (within-then c.titles_area-row.result c.args.buf.now c.render_center_titles.new.buf c.render_right_titles.new.buf
    (within-then c.titles_area-row.result c.args.buf.now c.render_from_left.new.buf c.render_center_titles.new.buf
    c.render_from_left.ensures.within c.render_center_titles.ensures.within) c.render_right_titles.ensures.within)
