use Rattle.std.proofs.Common.{sym, ◌∙◌}
use Rattle.ratatui_events.proofs.TextLemmas.{only-one, one-of_more}
use Rattle.ratatui_events.proofs.parsing.only_character.Goals as goal

pub returns-in-None : goal.returns-in-None
returns-in-None c =
    only-one c.args.text.now _ c.in_ok-first.first c.utf8.text (sym c.chars-characters.ensures.rest
    ∙ c.in_ok-first.ensures.steps.0) c.in-None.ensures.steps.2

pub returns-in-Some : goal.returns-in-Some
returns-in-Some c =
    one-of_more c.args.text.now _ c.in_ok-first.first c.in-Some.field-0 c.utf8.text (sym c.chars-characters.ensures.rest
    ∙ c.in_ok-first.ensures.steps.0)
    c.in-Some.ensures.steps.2
