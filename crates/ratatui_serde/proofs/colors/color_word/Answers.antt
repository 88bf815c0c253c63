use Rattle.std.proofs.Common.{◌++◌, ◌∙◌, ap}
use Rattle.std.proofs.lemmas.Fmt.{contents_after_writes}
use Rattle.rtui_style.specs.Color.{color_text}
use Rattle.ratatui_serde.proofs.colors.color_word.Goals as goal

pub returns : goal.returns
returns c =
    contents_after_writes _ (λ w. w.bytes) (λ _ _ _ t. t) _ (color_text c.args.color) _
    c.in_ok-write.ensures.writes
    ∙ ap (λ l. l ++ color_text c.args.color) c.new-word.ensures
