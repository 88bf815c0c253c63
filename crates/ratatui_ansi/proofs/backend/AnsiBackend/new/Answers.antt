use Rattle.std.proofs.Common.{[], sym, subst, string_bytes}
use Rattle.std.proofs.lemmas.Result.{IfOk-weaker}
use Rattle.ansi_model.specs.Beginnings.{SavesScreen, SavesHigher}
use Rattle.ratatui_ansi.proofs.backend.AnsiBackend.new.Goals as goal

pub returns-clause-before : goal.returns-clause-before
returns-clause-before g c =
    let w = c.args.size.width in
    let h = c.args.size.height in
    let does = c.in_ok-save_screen.ensures.saves w c.in_ok-tracker.ensures.size.0 c.in_ok-tracker.ensures.size.1 in
    let begins = subst (λ xs. SavesScreen w h [] xs) (sym c.as_str.ensures.value)
    (subst (λ xs. SavesScreen w h xs (string_bytes c.save_screen.new.out)) c.new-first.ensures.bytes does) in
    IfOk-weaker c.begin.result _ _ (λ b tied. record {
      first = c.as_str.result.now;
      begins = begins;
      tied = tied;
    }) c.begin.ensures.before

pub returns-clause-higher : goal.returns-clause-higher
returns-clause-higher g c =
    let w = c.args.size.width in
    let h = c.args.size.height in
    let does = c.in_ok-save_screen.ensures.higher w c.in_ok-tracker.ensures.size.0 in
    let begins = subst (λ xs. SavesHigher w h [] xs) (sym c.as_str.ensures.value)
    (subst (λ xs. SavesHigher w h xs (string_bytes c.save_screen.new.out)) c.new-first.ensures.bytes does) in
    IfOk-weaker c.begin.result _ _ (λ b tied. record {
      first = c.as_str.result.now;
      begins = begins;
      tied = tied;
    }) c.begin.ensures.before
