use Rattle.std.proofs.Common.{rules, ◌≡◌, ◌∷◌, [], ◌-◌, ◌+◌, length, arith, ap, sym, subst, ◌∙◌, length-append}
use Rattle.unicode_segmentation.specs.Iter.{graphemes_left}
use Rattle.ratatui_core.specs.Layout.{IsInside}
use Rattle.ratatui_core.proofs.WidgetLemmas.{within-then}
use Rattle.std.specs.List.{concat}
use Rattle.pager.specs.Symbols.{shown_columns, marked_bytes, mark_style, runs_after, first_style, marked_at, runs_at, style_at}
use Rattle.pager.specs.Symbols.{reach_after}
use Rattle.pager.specs.Inner.{IsKnownAhead}
use Rattle.pager.proofs.PatternLemmas.{ahead-later}
use Rattle.pager.proofs.PaintLemmas.{reach, line-turn, line-full, line-end}
use Rattle.pager.proofs.painting.paint_line.Goals as goal

pub returns-in_default-clause-ok : goal.returns-in_default-clause-ok
returns-in_default-clause-ok c =
    let end : graphemes_left c.loop-column.graphemes ≡ [] = search rules in
    line-end c.args.x c.args.y c.args.view c.args.finder.now c.args.runs.now
    (reach c.args.line.now c.loop-column.column c.loop-column.marked c.loop-column.runs.now)
    (graphemes_left c.loop-column.graphemes) c.args.line.now c.args.buf.now c.loop-column.buf end
    c.loop-column.invariant.paints

pub marked-here-requires : goal.marked-here-requires
marked-here-requires c =
    let i = c.loop-column.invariant in let line = c.args.line.now in
    subst (λ f. IsKnownAhead f line (length line - length c.as_str-rest.result.now) c.loop-column.ahead) (sym i.finds)
    (subst (λ t. IsKnownAhead c.args.finder.now line (length line - length t) c.loop-column.ahead) (sym c.as_str-rest.ensures) i.ahead)

pub paint_grapheme-requires-clause-inside : goal.paint_grapheme-requires-clause-inside
paint_grapheme-requires-clause-inside c =
    subst (λ area. IsInside c.args.part area) (sym c.loop-column.invariant.within.same_area) c.requires.inside

pub loop-column-preserved : goal.loop-column-preserved
loop-column-preserved c =
    let i = c.loop-column.invariant in
    let all = graphemes_left c.loop-column.graphemes in
    let g = c.in-Some.grapheme.now in let rest = graphemes_left c.next.new.self in
    let is : all ≡ g ∷ rest = search rules in
    let x = c.args.x in let y = c.args.y in let v = c.args.view in let sought = c.args.finder.now in
    let line = c.args.line.now in
    let at = reach line c.loop-column.column c.loop-column.marked c.loop-column.runs.now in
    let text : c.as_str-rest.result.now ≡ concat (g ∷ rest) = c.as_str-rest.ensures ∙ ap concat is in
    let here : c.marked-here.result ≡ marked_at sought at (g ∷ rest) =
    c.marked-here.ensures.marked
    ∙ ap (λ f. marked_bytes f line at.marked c.as_str-rest.result.now) i.finds
    ∙ ap (λ t. marked_bytes sought line at.marked t) text in
    let left : c.runs_after-runs.result.now ≡ runs_at at (g ∷ rest) =
    c.runs_after-runs.ensures ∙ ap (λ k. runs_after k at.runs) (c.saturating_sub-byte.ensures ∙ ap (λ t. length line - length t) text) in
    let style_is : c.mark_style-style.result ≡ style_at sought at (g ∷ rest) =
    c.mark_style-style.ensures
    ∙ ap (λ s. mark_style c.marked-here.result s) (c.first_style.ensures ∙ ap first_style left)
    ∙ ap (λ m. mark_style m (first_style (runs_at at (g ∷ rest)))) here in
    let next_is : reach line c.in_ok-column.column c.saturating_sub-marked.result c.runs_after-runs.result.now
    ≡ reach_after sought at g rest =
    ap (λ k. reach line k c.saturating_sub-marked.result c.runs_after-runs.result.now) c.in_ok-column.ensures.end
    ∙ ap (λ m. reach line (at.column + shown_columns at.column g) m c.runs_after-runs.result.now)
    (c.saturating_sub-marked.ensures ∙ ap (λ m. m - length g) here)
    ∙ ap (λ r. reach line (at.column + shown_columns at.column g) (marked_at sought at (g ∷ rest) - length g) r) left in
    let known : IsKnownAhead sought line (length line - length c.as_str-rest.result.now) c.marked-here.new.ahead =
    subst (λ f. IsKnownAhead f line (length line - length c.as_str-rest.result.now) c.marked-here.new.ahead) i.finds
    c.marked-here.ensures.ahead in
    record {
      finds = c.marked-here.ensures.same ∙ i.finds;
      ahead = ahead-later sought line _ _ c.marked-here.new.ahead
          (omega (arith, ap length text, length-append g (concat rest))) known;
      within = within-then c.args.part c.args.buf.now c.loop-column.buf c.paint_grapheme.new.buf i.within
          c.paint_grapheme.ensures.within;
      paints = line-turn x y v sought c.args.runs.now at
          (reach line c.in_ok-column.column c.saturating_sub-marked.result c.runs_after-runs.result.now)
          c.mark_style-style.result g all rest c.args.line.now c.args.buf.now c.loop-column.buf c.paint_grapheme.new.buf is
          style_is next_is i.paints c.in_ok-column.ensures.ok;
      ready = λ from. c.in_ok-column.ensures.ready (i.ready from);
    }

pub returns-clause-ok : goal.returns-clause-ok
returns-clause-ok c =
    line-full c.args.x c.args.y c.args.view c.args.finder.now c.args.runs.now
    (reach c.args.line.now c.loop-column.column c.loop-column.marked c.loop-column.runs.now)
    (graphemes_left c.loop-column.graphemes) c.args.line.now c.args.buf.now c.loop-column.buf
    (omega arith) c.loop-column.invariant.paints

pub returns-in_err-column-clause-within : goal.returns-in_err-column-clause-within
returns-in_err-column-clause-within c = within-then c.args.part c.args.buf.now c.loop-column.buf c.paint_grapheme.new.buf
    c.loop-column.invariant.within c.paint_grapheme.ensures.within
