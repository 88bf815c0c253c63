use Rattle.std.proofs.Common.{◌≡◌, ◌==◌, ◌∙◌, ◌++◌, false, ap, rules}
use Rattle.std.specs.Fmt.{digits}
use Rattle.ratatui_serde.proofs.Words.{stray-is}
use Rattle.ratatui_serde.proofs.flags.push_stray.Goals as goal

pub returns : goal.returns
returns c =
    let some : (c.args.bits == 0) ≡ false = search rules in
    c.in_ok-push_hex.ensures ∙ ap (λ l. l ++ digits 16 false c.args.bits) c.in_ok-push_part.ensures
    ∙ stray-is c.args.text.now.bytes c.args.bits some
