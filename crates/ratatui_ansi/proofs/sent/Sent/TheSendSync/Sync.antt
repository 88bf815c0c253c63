-- Nor does a `&` to it reach anything.
use denote.Param.Send.{IsSync, part_keyless}
use Rattle.ratatui_ansi.specs.contracts.sent.Sent.{the_row}
use Rattle.ratatui_ansi.proofs.sent.Sent.TheSendSync.Send.{send}

pub sync : IsSync the_row
sync = record { shared = λ d b o κ q. part_keyless the_row send q d b o }
