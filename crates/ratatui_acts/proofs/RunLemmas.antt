-- A run grows by a turn.
use Rattle.std.proofs.Common.{◌≡◌, Bool, true, false, List, [], ◌∷◌, ◌++◌, refl, ap, ap₂, sym, ◌∙◌}
use Rattle.std.proofs.Common.{◌⊎◌, inl, inr, subst, Option, Some, None, is_some, ◌||◌}
use Rattle.ratatui_acts.specs.Turns.{Turn, Came, Done, Standing, ActingRules, waits, after_turn, after_turns, IsWanted}
use Rattle.ratatui_acts.specs.Turns.{WasNothing, IsQuiet, first_told, HasLightMessages, IsHeavy, LacksPlaces}
use Rattle.ratatui_acts.specs.declared.message.Message.TheVariants as message
use Rattle.ratatui_acts.specs.declared.fault.Fault.TheVariants.{Memory}
use Rattle.ratatui_acts.specs.declared.told.Told.{Told}
use Rattle.ratatui_acts.proofs.TakingLemmas.{Rests, taking-rests}
use Rattle.ratatui_acts.proofs.TurnLemmas.{true-false}
use Rattle.ratatui_acts.specs.Seats.{TurnsTo}
use Rattle.ratatui_acts.specs.Runs.{Now, Past, Ground, IsTurn, HasRun, Runs, turns_of, IsAnswered, AreAnswered}
use Rattle.ratatui_acts.specs.Runs.{GaveNothing, GaveSomething, LastGaveNothing, RunsToEnd}
use Rattle.ratatui_acts.specs.Runs.{LacksMemory, StopsTurning, AreSome, OnlyLastGaveNothing, BeforeRead, AreTimely}
use Rattle.ratatui_acts.specs.Steps.{ShowsTurn, ends_by}

-- one turn more
turns-append : {S C R : Type 0} (rules : ActingRules S C R) (b : Standing S) (ts : List (Turn C R)) (t : Turn C R)
    → after_turns rules b (ts ++ (t ∷ [])) ≡ after_turn rules (after_turns rules b ts) t
turns-append rules b [] t = refl
turns-append rules b (x ∷ ts) t = turns-append rules (after_turn rules b x) ts t

-- a run that wasn't at its end asks again
pub asks-again : (used asks asked : Bool) → ((used ≡ true) × (asks ≡ true)) ⊎ (used ≡ false) → asks ≡ asked
    → used ≡ true → asked ≡ true
asks-again used asks asked (inl again) is true_is = sym is ∙ again.1
asks-again used asks asked (inr no') is true_is = absurd (true-false (sym true_is ∙ no'))

module _ {S C R G E H O : Type 0} (ground : Ground S C R G E H O) where
  -- the first frame
  pub runs-start : (before : Now S G H O) (glass : G) → ground.shows glass before.standing.state
      → ground.moves first_told before.glass glass → Runs ground before (record before { glass = glass })
  runs-start before glass shows moves = record {
    glass = glass;
    began = moves;
    past = [];
    has_run = refl;
    shown = shows;
  }

  -- one more turn
  pub runs-step : (before now after : Now S G H O) (came : Bool) → Runs ground before now → ShowsTurn ground now after came
      → Runs ground before after
  runs-step before now after came ran step = record {
    glass = ran.glass;
    began = ran.began;
    past = record { before = now; turn = step.turn } ∷ ran.past;
    has_run = (ran.has_run, step.is);
    shown = step.shown;
  }

  -- a run up to here, and whether nothing more comes
  pub record RunsOn (has_ticks : Bool) (before now : Now S G H O) (is_used_up : Bool) : Type 0 where
    pub runs : Runs ground before now
    pub ends : is_used_up ≡ true → (has_ticks ≡ false) × LastGaveNothing ground runs.past
    pub some : has_ticks ≡ false → is_used_up ≡ false → AreSome ground runs.past
    pub typed : has_ticks ≡ false → OnlyLastGaveNothing ground runs.past

  gave-nothing : (t : Turn C R) (earlier : Type 0) → WasNothing t → GaveNothing t earlier
  gave-nothing (Came bytes passed) earlier is = is
  gave-nothing (Done command answer) earlier is = absurd is

  gave-before : (s : S) (t : Turn C R) (earlier : Type 0) → is_some (ground.rules.asked s) ≡ true → IsWanted ground.rules s t
      → earlier → GaveNothing t earlier
  gave-before s (Came bytes passed) earlier asks wanted e =
      absurd (true-false (sym asks ∙ ap (λ (o : Option C). is_some o) wanted))
  gave-before s (Done command answer) earlier asks wanted e = e

  -- nothing more comes after a turn
  ends-next : (has_ticks : Bool) (now after : Now S G H O) (used came asks : Bool) (past : List (Past S C R G H O))
      (t : Turn C R) → (used ≡ true → (has_ticks ≡ false) × LastGaveNothing ground past)
      → (used ≡ true → is_some (ground.rules.asked now.standing.state) ≡ true)
      → IsWanted ground.rules now.standing.state t → (came ≡ false → WasNothing t) → ends_by used came has_ticks ≡ true
      → (has_ticks ≡ false) × GaveNothing t (LastGaveNothing ground past)
  ends-next has_ticks now after true came asks past t before again wanted nothing is =
      ((before refl).0, gave-before now.standing.state t _ (again refl) wanted (before refl).1)
  ends-next false now after false false asks past t before again wanted nothing is = (refl, gave-nothing t _ (nothing refl))
  ends-next true now after false false asks past t before again wanted nothing is = absurd (true-false (sym is))
  ends-next has_ticks now after false true asks past t before again wanted nothing is = absurd (true-false (sym is))

  gave-something : (t : Turn C R) → (WasNothing t → ⊥) → GaveSomething t
  gave-something (Came [] passed) f = f refl
  gave-something (Came (b ∷ bytes) passed) f = tt
  gave-something (Done command answer) f = tt

  -- something came at each turn
  some-next : (used came ticks : Bool) (t : Turn C R) (earlier : Type 0) → ticks ≡ false → ends_by used came ticks ≡ false
      → (came ≡ true → WasNothing t → ⊥) → (used ≡ false → earlier) → GaveSomething t × earlier
  some-next true came ticks t earlier no' ends some before = absurd (true-false ends)
  some-next false true ticks t earlier no' ends some before = (gave-something t (some refl), before refl)
  some-next false false false t earlier no' ends some before = absurd (true-false ends)
  some-next false false true t earlier no' ends some before = absurd (true-false no')

  -- or at each but the last read
  typed-next : (used : Bool) (s : S) (t : Turn C R) (some typed : Type 0)
      → (used ≡ true → is_some (ground.rules.asked s) ≡ true) → IsWanted ground.rules s t → (used ≡ false → some) → typed
      → BeforeRead t some typed
  typed-next true s (Came bytes passed) some typed again wanted before is =
      absurd (true-false (sym (again refl) ∙ ap (λ (o : Option C). is_some o) wanted))
  typed-next false s (Came bytes passed) some typed again wanted before is = before refl
  typed-next used s (Done command answer) some typed again wanted before is = is

  pub runs-on-start : (has_ticks : Bool) (before : Now S G H O) (glass : G) → ground.shows glass before.standing.state
      → ground.moves first_told before.glass glass → RunsOn has_ticks before (record before { glass = glass }) false
  unfolding runs-start
  runs-on-start has_ticks before glass shows moves = record {
    runs = runs-start before glass shows moves;
    ends = λ e. absurd (true-false (sym e));
    some = λ e f. tt;
    typed = λ e. tt;
  }

  pub runs-on-step : (has_ticks : Bool) (before now after : Now S G H O) (used came : Bool)
      → (used ≡ true → is_some (ground.rules.asked now.standing.state) ≡ true) → ShowsTurn ground now after came
      → RunsOn has_ticks before now used → RunsOn has_ticks before after (ends_by used came has_ticks)
  unfolding runs-step
  runs-on-step has_ticks before now after used came again step ran = record {
    runs = runs-step before now after came ran.runs step;
    ends = ends-next has_ticks now after used came came ran.runs.past step.turn ran.ends again step.is.wanted
        (λ none. step.is.tells.nothing (sym step.came_is ∙ none));
    some = λ no' ends. some-next used came has_ticks step.turn (AreSome ground ran.runs.past) no' ends
        (λ some. step.is.tells.something (sym step.came_is ∙ some)) (ran.some no');
    typed = λ no'. typed-next used now.standing.state step.turn _ _ again step.is.wanted (ran.some no') (ran.typed no');
  }

  pub ends-over : (has_ticks : Bool) (before now : Now S G H O) (used : Bool) → ground.rules.is_over now.standing.state ≡ true
      → RunsOn has_ticks before now used → RunsToEnd ground has_ticks before now
  ends-over has_ticks before now used over ran = record { runs = ran.runs; ended = inl over; typed = ran.typed }

  is-none : (o : Option C) → is_some o ≡ false → o ≡ None
  is-none None e = refl
  is-none (Some x) e = absurd (true-false e)

  pub ends-used-up : (has_ticks : Bool) (before now : Now S G H O) (used : Bool) → used ≡ true
      → is_some (ground.rules.asked now.standing.state) ≡ false
      → RunsOn has_ticks before now used → RunsToEnd ground has_ticks before now
  ends-used-up has_ticks before now used is free ran = record {
    runs = ran.runs;
    ended = let e = ran.ends is in inr (e.0, is-none _ free, e.1);
    typed = ran.typed;
  }

  -- a turn and its frame
  pub steps : (now : Now S G H O) (told : Told) (standing : Standing S) (glass : G) (h : H) (o : O)
      → ground.shows now.glass now.standing.state → ground.rules.is_over now.standing.state ≡ false
      → TurnsTo ground.rules ground.gives ground.fails ground.answers now.standing now.ears now.outside told standing h o
      → ground.shows glass standing.state → ground.moves told now.glass glass → (IsQuiet told → glass ≡ now.glass)
      → ShowsTurn ground now (record { standing = standing; glass = glass; ears = h; outside = o }) told.came
  steps now told standing glass h o shown goes_on turns shows moves stays = record {
    turn = turns.turn;
    is = record {
      shown = shown;
      goes_on = goes_on;
      wanted = turns.wanted;
      given = turns.given;
      made = turns.made;
      told = told;
      tells = turns.tells;
      moved = moves;
      stayed = stays;
    };
    shown = shows;
    came_is = refl;
  }

  -- a run makes what its turns make
  pub run-makes : (begun now : Now S G H O) (past : List (Past S C R G H O)) → HasRun ground begun past now
      → now.standing ≡ after_turns ground.rules begun.standing (turns_of ground past)
  run-makes begun now [] is = ap (λ (n : Now S G H O). n.standing) is
  run-makes begun now (p ∷ earlier) is =
      is.1.made
      ∙ ap (λ (b : Standing S). after_turn ground.rules b p.turn) (run-makes begun p.before earlier is.0)
      ∙ sym (turns-append ground.rules begun.standing (turns_of ground earlier) p.turn)

  turn-rests : (b : Standing S) (t : Turn C R) → Rests ground.rules (after_turn ground.rules b t)
  turn-rests b (Came bytes passed) = taking-rests ground.rules _ _ _
  turn-rests b (Done command answer) = taking-rests ground.rules _ _ _

  pub run-rests : (begun now : Now S G H O) (past : List (Past S C R G H O)) → begun.standing.left ≡ []
      → HasRun ground begun past now → Rests ground.rules now.standing
  run-rests begun now [] none is = subst (λ (n : Now S G H O). Rests ground.rules n.standing) (sym is) (inl none)
  run-rests begun now (p ∷ earlier) none is =
      subst (λ (b : Standing S). Rests ground.rules b) (sym is.1.made) (turn-rests p.before.standing p.turn)

  -- a state that goes on and asks for nothing doesn't wait
  no-wait : (s : S) → ground.rules.is_over s ≡ false → ground.rules.asked s ≡ None → waits ground.rules s ≡ false
  no-wait s goes_on free = ap₂ (λ (x : Bool) (o : Option C). x || is_some o) goes_on free

  nothing-left : (b : Standing S) → waits ground.rules b.state ≡ false → Rests ground.rules b → b.left ≡ []
  nothing-left b no' (inl none) = none
  nothing-left b no' (inr waits_is) = absurd (true-false (sym waits_is ∙ no'))

  turn-answered : (before after : Now S G H O) (t : Turn C R) → Rests ground.rules before.standing
      → IsTurn ground before t after → IsAnswered ground before.standing t
  turn-answered before after (Came bytes passed) rests is =
      nothing-left before.standing (no-wait before.standing.state is.goes_on is.wanted) rests
  turn-answered before after (Done command answer) rests is = tt

  pub run-answered : (begun now : Now S G H O) (past : List (Past S C R G H O)) → begun.standing.left ≡ []
      → HasRun ground begun past now → AreAnswered ground past
  run-answered begun now [] none is = tt
  run-answered begun now (p ∷ earlier) none is = (
    turn-answered p.before now p.turn (run-rests begun p.before earlier none is.0) is.1,
    run-answered begun p.before earlier none is.0,
  )

  -- each turn was made while its state was shown
  pub run-timely : (begun now : Now S G H O) (past : List (Past S C R G H O)) → HasRun ground begun past now
      → AreTimely ground begun.standing past
  run-timely begun now [] is = tt
  run-timely begun now (p ∷ earlier) is =
      let made = run-makes begun p.before earlier is.0 in (
        record {
          shown = subst (λ (b : Standing S). ground.shows p.before.glass b.state) made is.1.shown;
          wanted = subst (λ (b : Standing S). IsWanted ground.rules b.state p.turn) made is.1.wanted;
        },
        run-timely begun p.before earlier is.0,
      )

  -- a turn of light messages is refused no memory, where nothing is left that wasn't told
  light-turn : HasLightMessages ground.rules → (s : S) (t : Turn C R) → IsHeavy ground.rules s t → ⊥
  light-turn light s (Came [] passed) heavy = heavy (light s (message.Tick passed))
  light-turn light s (Came (b ∷ bytes) passed) heavy = heavy
  light-turn light s (Done command answer) heavy = heavy (light s (message.Answer answer))

  read-left : (b after : Standing S) (t : Turn C R) → Rests ground.rules b → ground.rules.is_over b.state ≡ false
      → IsWanted ground.rules b.state t → LacksPlaces ground.rules b t after → ⊥
  read-left b after (Came bytes passed) rests goes_on wanted lacks =
      lacks.some (nothing-left b (no-wait b.state goes_on wanted) rests)
  read-left b after (Done command answer) rests goes_on wanted lacks = lacks.read

  light-refused : HasLightMessages ground.rules → (before after : Now S G H O) → Rests ground.rules before.standing
      → LacksMemory ground before after → ⊥
  light-refused light before after rests lacks = elim lacks.refused [
    | inl first ↦ light-turn light before.standing.state lacks.turn first.heavy
    | inr (inl some) ↦ some.heavy (light _ _)
    | inr (inr places) ↦ read-left before.standing after.standing lacks.turn rests lacks.goes_on lacks.wanted places
  ]

  -- so a run of light messages is refused none
  pub light-runs : HasLightMessages ground.rules → (before after : Now S G H O) → before.standing.left ≡ []
      → StopsTurning ground before after Memory → ⊥
  light-runs light before after none (inl first) = first
  light-runs light before after none (inr at) =
      light-refused light at.now after (run-rests (record before { glass = at.runs.glass }) at.now at.runs.past none at.runs.has_run)
      at.stops
