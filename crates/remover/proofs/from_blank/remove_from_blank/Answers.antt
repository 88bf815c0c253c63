use Rattle.std.proofs.Common.{[], ap, ◌∙◌, subst, false}
use Rattle.ratatui_input.specs.Encodings.{fresh_decoder}
use Rattle.ratatui_acts.specs.{Seats.seated, Turns.Standing, Runs.RunsToEnd}
use Rattle.remover.specs.declared.remover.Remover.{Remover}
use Rattle.ratatui_acts.specs.Hearing.{GivesUntimed, FailsToGive}
use Rattle.remover.specs.Laws.{on_terminal, gave_answer}
use Rattle.remover.proofs.RemoverLemmas.{run-named}
use Rattle.remover.proofs.from_blank.remove_from_blank.Goals as goal

pub returns-in-Ok-run : goal.returns-in-Ok-run
returns-in-Ok-run g c =
    let coming = g.S.Source.coming in
    let ran = subst (λ (s : Standing Remover). RunsToEnd (on_terminal (GivesUntimed coming) (FailsToGive coming) gave_answer) false (record {
      standing = s;
      glass = c.in-Ok-begin.glass;
      ears = c.args.source.now;
      outside = c.args.folder.now;
    }) (record {
      standing = seated c.run.new.seat;
      glass = c.run.new.glass;
      ears = c.run.new.ears;
      outside = c.run.new.outside;
    })) (c.new-seat.ensures ∙ ap (λ (s : Remover). record { decoder = fresh_decoder; left = []; state = s }) c.new-2.ensures)
    c.in-Ok-run.ensures.runs in record {
      begun = c.in-Ok-begin.glass;
      after = seated c.run.new.seat;
      runs = ran;
      named = run-named (GivesUntimed coming) (FailsToGive coming) gave_answer _ _ ran.runs.past ran.runs.has_run;
    }
