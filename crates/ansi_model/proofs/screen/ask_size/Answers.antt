use Rattle.std.proofs.Common.{refl}
use Rattle.std.proofs.lemmas.Result.{on_ok_weaker}
use Rattle.ansi_model.specs.{Emulator.cursor_moved, Commands.end_question, Commands.cursor_bytes}
use Rattle.ansi_model.proofs.{ReadLemmas.after-those, ScrollLemmas.turns-from, RegionLemmas.Does-then, CallLemmas.cursor-back}
use Rattle.ansi_model.proofs.screen.ask_size.Goals as goal

pub returns-clause-asks : goal.returns-clause-asks
returns-clause-asks c =
    on_ok_weaker c.move_to.result (λ bytes. after-those _ _ _ end_question (cursor_bytes c.args.x c.args.y)
    c.in_ok-ask_at_the_end.ensures.bytes bytes) c.move_to.ensures.bytes

pub returns-clause-turns : goal.returns-clause-turns
returns-clause-turns c =
    on_ok_weaker c.move_to.result (λ does w h wide high.
    turns-from w h _ _ (λ t. cursor_moved c.args.x c.args.y (cursor_moved 65534 65534 t)) _
    (Does-then _ _ _ (cursor_moved 65534 65534) (cursor_moved c.args.x c.args.y) c.in_ok-ask_at_the_end.ensures.moves does
    (λ t. refl))
    (cursor-back w h 65534 65534 c.args.x c.args.y wide high)) c.move_to.ensures.moves
