use Rattle.std.specs.Prelude.{⊤}
use Rattle.ratatui_app.specs.{Light.TakesNoMemory, FromBlank.counter_rules}
use Rattle.ratatui_app.proofs.from_blank.counting_is_never_refused.Goals as goal

pub returns : goal.returns
returns g c =
    let none : TakesNoMemory counter_rules (λ _ _ _. ⊤) =
    record { light = λ s m. tt; short = λ s r blank empty. tt } in record {
      messages = c.light_applications_are_never_refused.ensures.messages none;
      frames = c.light_applications_are_never_refused.ensures.frames none;
    }
