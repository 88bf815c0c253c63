use Rattle.std.proofs.lemmas.Result.{on_ok_weaker}
use Rattle.ansi_model.specs.Emulator.{Emulator, rested}
use Rattle.ansi_model.specs.Commands.{command_bytes}
use Rattle.ansi_model.proofs.{ReadLemmas.pushed, ReadLemmas.command-read, ScrollLemmas.turns-from, CallLemmas.nothing-changed}
use Rattle.ansi_model.proofs.command.push_command.Goals as goal

pub returns-clause-turns : goal.returns-clause-turns
returns-clause-turns c =
    on_ok_weaker c.push_str.result (λ does w h. turns-from w h _ _ (λ (t : Emulator). t) _ does (nothing-changed w h))
    (pushed c.push_str.result _ _ (command_bytes c.args.command) rested (rw c.bytes.ensures.bytes at c.push_str.ensures.bytes)
    (command-read c.args.command))
