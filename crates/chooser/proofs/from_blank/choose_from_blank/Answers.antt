use Rattle.std.proofs.Common.{refl, ap, subst, ◌∙◌, false, []}
use Rattle.ratatui_input.specs.Encodings.{fresh_decoder}
use Rattle.ratatui_acts.specs.Seats.{seated}
use Rattle.ratatui_acts.specs.{Turns.Standing, Runs.RunsToEnd}
use Rattle.chooser.specs.declared.chooser.Chooser.{Chooser}
use Rattle.chooser.specs.Laws.{choosing_on}
use Rattle.chooser.proofs.{SettlingLemmas.new-settled, RunLemmas.run-settled}
use Rattle.chooser.proofs.from_blank.choose_from_blank.Goals as goal

pub returns-in-Ok-run : goal.returns-in-Ok-run
returns-in-Ok-run g c =
    let ran = subst (λ (s : Standing Chooser). RunsToEnd (choosing_on g.S.Source.coming) false (record {
      standing = s;
      glass = c.in-Ok-begin.glass;
      ears = c.args.source.now;
      outside = record {};
    }) (record {
      standing = seated c.run.new.seat;
      glass = c.run.new.glass;
      ears = c.run.new.ears;
      outside = c.run.new.outside;
    })) (c.new-seat.ensures ∙ ap (λ (s : Chooser). record { decoder = fresh_decoder; left = []; state = s }) c.new-2.ensures)
    c.in-Ok-run.ensures.runs in
    let settled = run-settled g.S.Source.coming _ _ ran.runs.past (new-settled c.args.alloc c.args.size) ran.runs.has_run in record {
      begun = c.in-Ok-begin.glass;
      after = seated c.run.new.seat;
      outside = record {};
      outside' = c.run.new.outside;
      runs = ran;
      chosen = c.reads_decide_where_nothing_is_asked_for.ensures (record { asks = λ s. refl; ticks = λ s passed. refl }) _ _
          ran.runs.past refl ran.runs.has_run;
      given = c.the_reads_are_what_a_source_gave.ensures _ _ ran.runs.past ran.runs.has_run;
      were_settled = settled.were;
      is_settled = settled.now_is;
    }
