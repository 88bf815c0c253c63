use Rattle.std.proofs.Common.{◌≡◌, Some, false, rules}
use Rattle.std.specs.Fmt.{digits, digits_output}
use Rattle.ratatui_serde.proofs.Words.{text-after}
use Rattle.ratatui_serde.proofs.flags.push_hex.Goals as goal

pub returns : goal.returns
returns c =
    let out : digits_output c.in_radix.result ≡ Some (digits 16 false c.args.number) = search rules in
    text-after _ (λ w. w.bytes) (λ _ _ _ t. t) _ _ _ _ out c.in_ok-write.ensures.writes
