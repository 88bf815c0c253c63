use Rattle.std.proofs.Common.{◌∙◌, ap}
use Rattle.rtui_style.specs.Color.{color_of, color_or_error}
use Rattle.ratatui_serde.proofs.Words.{read-color}
use Rattle.ratatui_serde.proofs.colors.ColorSetting.read.Goals as goal

pub returns-in-Ok : goal.returns-in-Ok
returns-in-Ok g c = (
  _,
  c.in_ok-word.ensures,
  read-color c.in-Ok.color _ (c.in-Ok.ensures ∙ ap (λ t. color_or_error (color_of t)) c.as_str.ensures.value),
)
