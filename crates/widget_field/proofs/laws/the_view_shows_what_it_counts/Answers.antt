use Rattle.std.proofs.Common.{ap, ◌+◌, ◌∙◌, Some}
use Rattle.ratatui_core.specs.Style.{new_style}
use Rattle.widget_field.specs.Fields.{masked}
use Rattle.widget_field.proofs.ShownLemmas.{view-painted, view-columns}
use Rattle.widget_field.proofs.laws.the_view_shows_what_it_counts.Goals as goal

pub returns-clause-graphemes : goal.returns-clause-graphemes
returns-clause-graphemes c = λ input f g r old new shows. shows.parts.shown

pub returns-clause-painted : goal.returns-clause-painted
returns-clause-painted c = λ input f g r old new shows.
    view-painted _ _ _ _ (masked input.mask f.before) shows.parts.view shows.parts.shown new_style

pub returns-clause-cursor : goal.returns-clause-cursor
returns-clause-cursor c = λ input f g r old new shows plain.
    shows.place ∙ ap (λ x. Some (x, r.y)) (shows.parts.cursor
    ∙ ap (λ n. r.x + n) (view-columns _ _ _ _ (masked input.mask f.before) shows.parts.view shows.parts.shown new_style plain))
