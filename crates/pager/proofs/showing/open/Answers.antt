use Rattle.std.proofs.Common.{List, ℕ, ◌++◌, sym, subst, ap, ◌∙◌, append_assoc}
use Rattle.ratatui_core.specs.Backend.{Screen, IsBlankScreen}
use Rattle.ansi_model.specs.Commands.{command_bytes}
use Rattle.ansi_model.specs.declared.command.Command.TheVariants.{EnableMouseCapture, EnableSizeReports}
use Rattle.ratatui_ansi.specs.Settings.{after_command}
use Rattle.ratatui_ansi.specs.declared.settings.Settings.{Settings}
use Rattle.pager.proofs.ShowLemmas.{begins-at}
use Rattle.pager.proofs.showing.open.Goals as goal

pub returns : goal.returns
returns g c =
    let made = c.in_ok-backend.ensures in
    let mouse = c.in_ok-set_mouse_capture.ensures in
    let sizes = c.in_ok-set_size_reports.ensures in
    let w = c.args.size.width in
    let h = c.args.size.height in record {
      is_size = sizes.state.size ∙ mouse.state.size ∙ made.is_size;
      screen = subst (λ (s : Screen). IsBlankScreen w h s) (sym (sizes.ok ∙ mouse.ok)) made.blank;
      alternate = sizes.state.alternate ∙ mouse.state.alternate ∙ made.alternate;
      opened = begins-at _ _ _ _ (sizes.state.start ∙ mouse.state.start) made.before;
      begun = c.in_ok-backend.backend.sent;
      blank = made.sent;
      sent = sizes.sent ∙ ap (λ (xs : List ℕ). xs ++ command_bytes EnableSizeReports) mouse.sent
          ∙ append_assoc c.in_ok-backend.backend.sent (command_bytes EnableMouseCapture) (command_bytes EnableSizeReports);
      settings = sizes.state.settings ∙ ap (λ (s : Settings). after_command EnableSizeReports s)
          (mouse.state.settings ∙ ap (λ (s : Settings). after_command EnableMouseCapture s) made.settings);
      failures = sizes.counts ∙ mouse.counts ∙ made.failures;
    }
