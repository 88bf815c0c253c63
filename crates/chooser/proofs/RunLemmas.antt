-- The states of a run are settled.
use Rattle.std.proofs.Common.{ℕ, Bool, true, false, if◌then◌else◌, List, [], ◌∷◌, ◌++◌, sym, subst}
use Rattle.std.specs.declared.time.Duration.{Duration}
use Rattle.ratatui_events.specs.declared.event.Event.{Event}
use Rattle.ratatui_input.specs.declared.decoder.Decoder.{Decoder}
use Rattle.ratatui_reads.specs.{Reads.told_by, Sources.Coming}
use Rattle.ratatui_acts.specs.declared.message.Message.TheVariants as message
use Rattle.ratatui_acts.specs.declared.nothing.{Never.Never, Nothing.Nothing}
use Rattle.ratatui_acts.specs.Turns.{Turn, Came, Done, Standing, taking, ticked, waits, after_turn}
use Rattle.ratatui_acts.specs.Runs.{Now, Past, HasRun}
use Rattle.ratatui_app.specs.declared.on_glass.OnGlass.{OnGlass}
use Rattle.chooser.specs.declared.chooser.Chooser.{Chooser}
use Rattle.chooser.specs.Choosing.{chooser_after}
use Rattle.chooser.specs.Laws.{chooser_rules, IsSettledChooser, choosing_on, WereSettled}
use Rattle.chooser.proofs.SettlingLemmas.{stays-settled}

-- events are told to settled states
taking-if : (test : Bool) (one two : Standing Chooser) → IsSettledChooser one.state → IsSettledChooser two.state
    → IsSettledChooser (if test then one else two).state
taking-if true one two a b = a
taking-if false one two a b = b

taking-settled : (d : Decoder) (events : List Event) (c : Chooser) → IsSettledChooser c
    → IsSettledChooser (taking chooser_rules d events c).state
taking-settled d [] c is = is
taking-settled d (e ∷ es) c is =
    taking-if (waits chooser_rules c) (record { decoder = d; left = e ∷ es; state = c })
    (taking chooser_rules d es (chooser_after {R = Never} c (message.Event e))) is
    (taking-settled d es (chooser_after {R = Never} c (message.Event e)) (stays-settled {R = Never} c (message.Event e) is))

ticked-settled : (bytes : List ℕ) (passed : Duration) (c : Chooser) → IsSettledChooser c
    → IsSettledChooser (ticked chooser_rules bytes passed c)
ticked-settled [] passed c is = is
ticked-settled (b ∷ bytes) passed c is = is

turn-settled : (b : Standing Chooser) (turn : Turn Never Never) → IsSettledChooser b.state
    → IsSettledChooser (after_turn chooser_rules b turn).state
turn-settled b (Came bytes passed) is =
    taking-settled (told_by b.decoder bytes).1 (b.left ++ (told_by b.decoder bytes).0) (ticked chooser_rules bytes passed b.state)
    (ticked-settled bytes passed b.state is)
turn-settled b (Done command answer) is = taking-settled b.decoder b.left b.state is

-- and so are those of all turns
pub record AreSettled {W H : Type 0} (now : Now Chooser (OnGlass W) H Nothing)
    (past : List (Past Chooser Never Never (OnGlass W) H Nothing)) : Type 0 where
  pub now_is : IsSettledChooser now.standing.state
  pub were : WereSettled past

pub run-settled : {W H : Type 0} (coming : H → Coming) (begun now : Now Chooser (OnGlass W) H Nothing)
    (past : List (Past Chooser Never Never (OnGlass W) H Nothing)) → IsSettledChooser begun.standing.state
    → HasRun (choosing_on coming) begun past now → AreSettled now past
run-settled {W} {H} coming begun now [] is has =
    record { now_is = subst (λ (n : Now Chooser (OnGlass W) H Nothing). IsSettledChooser n.standing.state) (sym has) is; were = tt }
run-settled {W} {H} coming begun now (p ∷ earlier) is has =
    let before = run-settled coming begun p.before earlier is has.0 in
    record {
      now_is = subst (λ (b : Standing Chooser). IsSettledChooser b.state) (sym has.1.made)
          (turn-settled p.before.standing p.turn before.now_is);
      were = (before.now_is, before.were);
    }
