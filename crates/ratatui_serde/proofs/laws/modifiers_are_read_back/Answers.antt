use Rattle.std.proofs.Common.{arith}
use Rattle.rtui_style.specs.Modifier.{bits_of}
use Rattle.ratatui_serde.proofs.ReadBack.{modifiers-read-back, no-more}
use Rattle.ratatui_serde.proofs.laws.modifiers_are_read_back.Goals as goal

pub returns : goal.returns
returns c h =
    let most = no-more 511 (bits_of c.args.modifier) h in
    modifiers-read-back (bits_of c.args.modifier) (omega (arith, most))
