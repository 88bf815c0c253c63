use Rattle.std.proofs.Common.{◌∙◌, ap, ◌++◌, subst, length, ◌<◌}
use Rattle.ratatui_reads.specs.Reads.{told_by}
use Rattle.ratatui_acts.specs.Turns.{events_room}
use Rattle.ratatui_acts.proofs.TakingLemmas.{queued, queue-full}
use Rattle.ratatui_acts.proofs.queue.Queue.add.Goals as goal

pub returns-in-Ok-clause-events : goal.returns-in-Ok-clause-events
returns-in-Ok-clause-events c =
    let told = (told_by c.args.decoder.now c.args.bytes.now).0 in
    c.in-Ok.ensures.state ∙ queued c.rewind.new.self told ∙ ap (λ l. l ++ told) c.rewind.ensures

pub returns-in-Err-clause-full : goal.returns-in-Err-clause-full
returns-in-Err-clause-full c =
    let told = (told_by c.args.decoder.now c.args.bytes.now).0 in
    subst (λ l. events_room < length (l ++ told)) c.rewind.ensures
    (queue-full c.rewind.new.self told c.take.new.state c.in-Err.ensures.refused)
