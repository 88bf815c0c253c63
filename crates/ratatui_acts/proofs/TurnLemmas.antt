-- One turn: a read, or something that was done.
use Rattle.std.proofs.Common.{rules, ◌≡◌, ℕ, true, false, List, Some, None, Result, Ok, Err, OnOk, IfOk, IfErr, refl}
use Rattle.std.specs.declared.time.Duration.{Duration}
use Rattle.ratatui_acts.specs.declared.message.Message.TheVariants as message
use Rattle.ratatui_acts.specs.declared.told.Told.{Told}
use Rattle.ratatui_acts.specs.Turns.{Came, Done, Standing, ActingRules, taking, Tells, RefusesTurn}
use Rattle.ratatui_acts.specs.Seats.{TurnsTo, HearsTo, TurnLacksMemory, StopsHearing, StopsTurn}
use Rattle.ratatui_acts.specs.declared.fault.Fault.{Fault}
use Rattle.ratatui_acts.specs.declared.fault.Fault.TheVariants.{Read, Outside, Memory, Show, Endless}

pub true-false : true ≡ false → ⊥
true-false e = search rules

pub ok-then : {A E P Q : Type 0} (r : Result A E) → (P → Q) → OnOk r P → OnOk r Q
ok-then (Ok x) f p = f p
ok-then (Err e) f p = tt

module _ {S C R H O : Type 0} (u : ActingRules S C R) (gives : H → ℕ → List ℕ → Duration → H → Type 0) (fails : H → H → Type 0)
    (answers : O → C → R → O → Type 0) where
  pub heard-turn : {E : Type 0} (r : Result Told E) (before : Standing S) (h : H) (o : O) (after : Standing S) (h' : H) (o' : O)
      → u.asked before.state ≡ None → o' ≡ o → IfOk r (λ told. HearsTo u gives fails before h told after h')
      → IfOk r (λ told. TurnsTo u gives fails answers before h o told after h' o')
  heard-turn (Ok told) before h o after h' o' free stays heard = record {
    turn = Came heard.bytes heard.passed;
    wanted = free;
    given = (heard.given, stays);
    made = heard.made;
    tells = heard.tells;
  }
  heard-turn (Err e) before h o after h' o' free stays heard = tt

  pub heard-stops : {E : Type 0} (r : Result Told (Fault E)) (before : Standing S) (h : H) (o : O) (after : Standing S) (h' : H)
      (o' : O) → u.asked before.state ≡ None → o' ≡ o → IfErr r (StopsHearing u gives fails before h after h')
      → IfErr r (StopsTurn u gives fails answers before h o after h' o')
  heard-stops (Ok told) before h o after h' o' free stays stops = tt
  heard-stops (Err (Read error)) before h o after h' o' free stays stops = (stops.0, stops.1, stays)
  heard-stops (Err (Outside error)) before h o after h' o' free stays stops = absurd stops
  heard-stops (Err Memory) before h o after h' o' free stays stops = record {
    turn = Came stops.0 stops.1;
    wanted = free;
    given = (stops.2, stays);
    refused = stops.3;
  }
  heard-stops (Err (Show error)) before h o after h' o' free stays stops = absurd stops
  heard-stops (Err Endless) before h o after h' o' free stays stops = absurd stops

  pub done-turn : (answer : R) (before : Standing S) (h : H) (o : O) (told : Told) (after : Standing S) (o' : O)
      → ((command : C) × (u.asked before.state ≡ Some command) × answers o command answer o')
      → after ≡ taking u before.decoder before.left (u.updated before.state (message.Answer answer))
      → ((command : C) → Tells u before (Done command answer) told after)
      → TurnsTo u gives fails answers before h o told after h o'
  done-turn answer before h o told after o' done made tells = record {
    turn = Done done.0 answer;
    wanted = done.1;
    given = (done.2, refl);
    made = made;
    tells = tells done.0;
  }

  pub done-refused : (answer : R) (before : Standing S) (h : H) (o : O) (after : Standing S) (o' : O)
      → ((command : C) × (u.asked before.state ≡ Some command) × answers o command answer o')
      → ((command : C) → RefusesTurn u before (Done command answer) after)
      → TurnLacksMemory u gives fails answers before h o after h o'
  done-refused answer before h o after o' done refused = record {
    turn = Done done.0 answer;
    wanted = done.1;
    given = (done.2, refl);
    refused = refused done.0;
  }
