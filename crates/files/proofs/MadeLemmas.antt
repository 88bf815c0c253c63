-- What a run makes of files in memory is what was confirmed.
use Rattle.std.proofs.Common.{◌≡◌, ◌⊎◌, inl, inr, ℕ, Bool, true, List, [], ◌∷◌, ◌++◌, All, Option, Some, None, Ok}
use Rattle.std.proofs.Common.{refl, sym, ap, ◌∙◌, subst}
use Rattle.std.specs.Option.{option_map_or}
use Rattle.std.proofs.lemmas.List.Elements.{All-nil, All-cons, All-head, All-append, All-weaker}
use Rattle.std.specs.declared.time.Duration.{Duration}
use Rattle.jiff_core.specs.declared.civil.datetime.DateTime.{DateTime}
use Rattle.ratatui_core.specs.Terminal.{TerminalError}
use Rattle.ratatui_ansi.specs.{declared.error.AnsiError.AnsiError}
use Rattle.ratatui_acts.specs.Turns.{Turn, Came, Done}
use Rattle.ratatui_acts.specs.Runs.{Now, Past, Ground, IsTurn, HasRun}
use Rattle.ratatui_app.specs.declared.on_glass.OnGlass.{OnGlass}
use Rattle.ratatui_files.specs.declared.node.Entry.{Entry}
use Rattle.ratatui_files.specs.declared.answer.Failure.{Failure}
use Rattle.ratatui_files.specs.declared.answer.Failure.TheVariants as failure
use Rattle.ratatui_files.specs.declared.answer.Answer.{Answer}
use Rattle.ratatui_files.specs.declared.answer.Answer.TheVariants as answer
use Rattle.ratatui_files.specs.declared.command.Command.{Command}
use Rattle.ratatui_files.specs.declared.command.Command.TheVariants.{List as ListFolder, Read, Rename}
use Rattle.ratatui_files.specs.declared.command.Command.TheVariants.{MakeFolder, Now as TellTime}
use Rattle.ratatui_files.specs.Trees.{Tree}
use Rattle.ratatui_files.specs.Changes.{refusal, done, done_answer, tree_after}
use Rattle.ratatui_files.specs.Performing.{DoesExactly}
use Rattle.files.specs.declared.browser.Browser.{Browser}
use Rattle.files.specs.declared.browser.Mode.{Mode}
use Rattle.files.specs.declared.browser.Mode.TheVariants.{Looking, Listing, Entering, Leaving}
use Rattle.files.specs.declared.browser.Mode.TheVariants.{Returning, Trashing, Removing}
use Rattle.files.specs.declared.browser.Mode.TheVariants.{Renaming, Making, Pasting, Undoing}
use Rattle.files.specs.declared.browser.Mode.TheVariants.{Visiting, Locating, Completing, CountingToTrash, CountingToRemove}
use Rattle.files.specs.declared.hands.Hands.{Hands}
use Rattle.files.specs.declared.hands.Wanted.{Wanted}
use Rattle.files.specs.declared.looks.Aim.{Aim}
use Rattle.files.specs.declared.list.Outcome.{Outcome}
use Rattle.files.specs.declared.list.Outcome.TheVariants as outcome
use Rattle.files.specs.declared.order.Order.{Order}
use Rattle.files.specs.declared.trash.Discard.{Discard}
use Rattle.files.specs.declared.trash.Plan.{Plan}
use Rattle.files.specs.Answers.{told_of}
use Rattle.files.specs.Moves.{asks, browser_asked}
use Rattle.files.specs.Trash.{discard_in, IsTrashFolder, discard_plan}
use Rattle.files.specs.Questions.{change_in, IsNamedIn}
use Rattle.files.specs.Discards.{IsPreparing, ArePreparing, Did, Prepares, IsPrepared, EndsMoved}
use Rattle.files.specs.Discards.{EndsWritten, Ends, PutsAway, StopsShort, Discarded}
use Rattle.files.specs.Looks.{TellsGlance, Looked}
use Rattle.files.specs.Doing.{TellsListing, TellsCompletion, TellsCount, Changed, Listed, Completed, Counted, DoesIn, DoesAsked}
use Rattle.files.specs.Laws.{IsLook, is_change}
use Rattle.files.specs.RunLaws.{browsing_on, tree_after_all, IsAskedIn, NoneIsAsked, IsTold, MadeInTurn, MadeByTurns}
use Rattle.files.proofs.DiscardLemmas.{prepares-then, prepares-entries, prepares-time}
use Rattle.files.proofs.GlanceLemmas.{aim-light}
use Rattle.files.proofs.SoundLemmas.{asked-self, asks-true, acts-true, sure-in}

-- ---- commands, one after the other

after-then : (one two : List Command) (t : Tree)
    → tree_after_all (one ++ two) t ≡ tree_after_all two (tree_after_all one t)
after-then [] two t = refl
after-then (command ∷ one) two t = after-then one two (tree_after command t)

-- some commands, each of this kind, and what they made of a tree
record Steps (Is : Command → Type 0) (t t' : Tree) : Type 0 where
  pub commands : List Command
  pub all : All Is commands
  pub made : t' ≡ tree_after_all commands t

abbrev no-steps : (Is : Command → Type 0) (t t' : Tree) → t' ≡ t → Steps Is t t'
no-steps Is t t' same = record { commands = []; all = All-nil Is; made = same }

abbrev step : (Is : Command → Type 0) (command : Command) (t t' : Tree) → Is command → t' ≡ tree_after command t
    → Steps Is t t'
step Is command t t' is made =
    record { commands = command ∷ []; all = All-cons Is command [] is (All-nil Is); made = made }

-- one for which memory was refused is none
steps-by : (Is : Command → Type 0) (command : Command) (a : Answer) (t t' : Tree) → Is command
    → DoesExactly t command a t' → Steps Is t t'
steps-by Is command a t t' is (inl exactly) = step Is command t t' is exactly.1
steps-by Is command a t t' is (inr refused) = no-steps Is t t' refused.1

abbrev steps-then : (Is : Command → Type 0) (t u v : Tree) → Steps Is t u → Steps Is u v → Steps Is t v
steps-then Is t u v one two = record {
  commands = one.commands ++ two.commands;
  all = All-append Is one.commands two.commands one.all two.all;
  made = two.made ∙ ap (tree_after_all two.commands) one.made ∙ sym (after-then one.commands two.commands t);
}

-- ---- what changes nothing

-- a command that leaves what stands there
keeps-by : (why : Option Failure) (t : Tree) (entries : List Entry) → entries ≡ t.entries
    → option_map_or (λ (f : Failure). t) why (record { entries = entries; time = t.time }) ≡ t
keeps-by None t entries same = ap (λ (x : List Entry). record { entries = x; time = t.time }) same
keeps-by (Some f) t entries same = refl

keeps : (command : Command) (t : Tree) → done command t ≡ t.entries → tree_after command t ≡ t
keeps command t same = keeps-by (refusal command t.entries) t (done command t) same

-- a command that isn't answered that it was done
no-change : (command : Command) (t : Tree) → (done_answer command t ≡ answer.Done → ⊥) → done command t ≡ t.entries
no-change (ListFolder path) t none = refl
no-change (Read path start most) t none = refl
no-change TellTime t none = refl
no-change _ t none = absurd (none refl)

stays-by : (why : Option Failure) (command : Command) (t : Tree)
    → (option_map_or answer.Failed why (done_answer command t) ≡ answer.Done → ⊥)
    → option_map_or (λ (f : Failure). t) why (record { entries = done command t; time = t.time }) ≡ t
stays-by None command t none = keeps-by None t (done command t) (no-change command t none)
stays-by (Some f) command t none = refl

stays : (command : Command) (a : Answer) (t t' : Tree) → (a ≡ answer.Done → ⊥) → DoesExactly t command a t' → t' ≡ t
stays command a t t' none (inl exactly) =
    exactly.1 ∙ stays-by (refusal command t.entries) command t (λ is. none (exactly.0 ∙ is))
stays command a t t' none (inr refused) = refused.1

-- a command that is answered so isn't refused
allowed-by : (why : Option Failure) (a : Answer) → answer.Done ≡ option_map_or answer.Failed why a → why ≡ None
allowed-by None a is = refl
allowed-by (Some f) a is = absurd (cc)

-- a command that only reads
does-nothing : (command : Command) (a : Answer) (t t' : Tree) → done command t ≡ t.entries
    → DoesExactly t command a t' → t' ≡ t
does-nothing command a t t' same (inl exactly) = exactly.1 ∙ keeps command t same
does-nothing command a t t' same (inr refused) = refused.1

look-same : (command : Command) (t : Tree) → IsLook command → done command t ≡ t.entries
look-same (Read path start most) t is = refl
look-same (ListFolder path) t is = refl
look-same _ t is = absurd is

-- ---- what is told

undone : (o : Outcome) (why : Failure) → o ≡ outcome.Failed why → o ≡ outcome.Done → ⊥
undone o why one two = let bad : outcome.Failed why ≡ outcome.Done = sym one ∙ two in absurd (cc)

listing-undone : (order : Order) (hidden : Bool) (w : Wanted) (a : Answer) (o : Outcome)
    → TellsListing order hidden w a o → o ≡ outcome.Done → ⊥
listing-undone order hidden w (answer.Listed entries unnamed) (outcome.Listed l) tells is = absurd (cc)
listing-undone order hidden w a o tells is = undone o _ tells is

completion-undone : (b : Browser) (a : Answer) (o : Outcome) → TellsCompletion b a o → o ≡ outcome.Done → ⊥
completion-undone b (answer.Listed entries unnamed) o tells is =
    let bad : outcome.Completed _ ≡ outcome.Done = sym tells ∙ is in absurd (cc)
completion-undone b a o tells is = undone o _ tells is

count-undone : (a : Answer) (o : Outcome) → TellsCount a o → o ≡ outcome.Done → ⊥
count-undone (answer.Listed entries unnamed) o tells is =
    let bad : outcome.Counted _ ≡ outcome.Done = sym tells ∙ is in absurd (cc)
count-undone a o tells is = undone o _ tells is

glance-undone : (b : Browser) (aim : Aim) (a : Answer) (o : Outcome) → TellsGlance b aim a o → o ≡ outcome.Done → ⊥
glance-undone b aim a (outcome.Glanced g) tells is = absurd (cc)
glance-undone b aim a o tells is = absurd tells

undone-or : (Tells : Type 0) (o : Outcome) → (Tells → o ≡ outcome.Done → ⊥)
    → Tells ⊎ (o ≡ outcome.Failed failure.Memory) → o ≡ outcome.Done → ⊥
undone-or Tells o by (inl tells) is = by tells is
undone-or Tells o by (inr refused) is = undone o failure.Memory refused is

-- ---- what a browser asks for makes of a tree

record Makes (mode : Mode) (b : Browser) (o : Outcome) (t t' : Tree) : Type 0 where
  pub steps : Steps (IsNamedIn mode b) t t'
  pub told : IsTold o mode b t steps.commands

not-done : (o : Outcome) (mode : Mode) (b : Browser) (t : Tree) (commands : List Command) → (o ≡ outcome.Done → ⊥)
    → NoneIsAsked mode b commands → IsTold o mode b t commands
not-done outcome.Done mode b t commands none all = absurd (none refl)
not-done o mode b t commands none all = all

makes-nothing : (mode : Mode) (b : Browser) (o : Outcome) (t t' : Tree) → (o ≡ outcome.Done → ⊥) → t' ≡ t
    → Makes mode b o t t'
makes-nothing mode b o t t' none same = record {
  steps = no-steps (IsNamedIn mode b) t t' same;
  told = not-done o mode b t [] none (All-nil (λ command. IsAskedIn mode b command → ⊥));
}

change-makes : (mode : Mode) (b : Browser) (command : Command) (a : Answer) (o : Outcome) (t t' : Tree)
    → IsNamedIn mode b command
    → IsAskedIn mode b command → o ≡ told_of a → DoesExactly t command a t' → Makes mode b o t t'
change-makes mode b command answer.Done o t t' named asked tells (inl exactly) = record {
  steps = step (IsNamedIn mode b) command t t' named exactly.1;
  told = subst (λ (x : Outcome). IsTold x mode b t (command ∷ [])) (sym tells) (record {
    earlier = [];
    last = command;
    split = refl;
    before = All-nil (λ command. IsAskedIn mode b command → ⊥);
    asked = asked;
    allowed = allowed-by (refusal command t.entries) (done_answer command t) exactly.0;
  });
}
change-makes mode b command answer.Done o t t' named asked tells (inr refused) =
    let bad : answer.Done ≡ answer.Failed failure.Memory = refused.0 in absurd (cc)
change-makes mode b command a o t t' named asked tells does =
    makes-nothing mode b o t t' (undone o _ tells) (stays command a t t' (λ is. absurd (cc)) does)

changed-makes : (mode : Mode) (b : Browser) (change : Option Command) (o : Outcome) (t t' : Tree)
    → ((command : Command) → change ≡ Some command → IsNamedIn mode b command)
    → ((command : Command) → change ≡ Some command → IsAskedIn mode b command) → Changed DoesExactly change t o t'
    → Makes mode b o t t'
changed-makes mode b None o t t' named asked is = makes-nothing mode b o t t' (undone o is.why is.tells) is.kept
changed-makes mode b (Some command) o t t' named asked (inl is) =
    makes-nothing mode b o t t' (undone o is.why is.tells) is.kept
changed-makes mode b (Some command) o t t' named asked (inr is) =
    change-makes mode b command is.answer o t t' (named command refl) (asked command refl) is.tells is.done

look-makes : (mode : Mode) (b : Browser) (command : Command) (a : Answer) (o : Outcome) (t t' : Tree) → IsLook command
    → (o ≡ outcome.Done → ⊥) → DoesExactly t command a t' → Makes mode b o t t'
look-makes mode b command a o t t' look none does =
    makes-nothing mode b o t t' none (does-nothing command a t t' (look-same command t look) does)

listed-makes : (mode : Mode) (b : Browser) (o : Outcome) (t t' : Tree) → Listed DoesExactly b t o t'
    → Makes mode b o t t'
listed-makes mode b o t t' (inl is) = makes-nothing mode b o t t' (undone o is.why is.tells) is.kept
listed-makes mode b o t t' (inr is) = look-makes mode b (ListFolder is.wanted.folder) is.answer o t t' tt
    (undone-or (TellsListing b.order b.has_hidden is.wanted is.answer o) o
    (listing-undone b.order b.has_hidden is.wanted is.answer o) is.tells) is.done

completed-makes : (mode : Mode) (b : Browser) (o : Outcome) (t t' : Tree) → Completed DoesExactly b t o t'
    → Makes mode b o t t'
completed-makes mode b o t t' (inl is) = makes-nothing mode b o t t' (undone o is.why is.tells) is.kept
completed-makes mode b o t t' (inr is) = look-makes mode b (ListFolder is.folder) is.answer o t t' tt
    (undone-or (TellsCompletion b is.answer o) o (completion-undone b is.answer o) is.tells) is.done

counted-makes : (mode : Mode) (b : Browser) (o : Outcome) (t t' : Tree) → Counted DoesExactly b t o t'
    → Makes mode b o t t'
counted-makes mode b o t t' (inl is) = makes-nothing mode b o t t' (undone o is.why is.tells) is.kept
counted-makes mode b o t t' (inr is) = look-makes mode b (ListFolder is.folder) is.answer o t t' tt
    (count-undone is.answer o is.tells) is.done

looked-makes : (mode : Mode) (b : Browser) (o : Outcome) (t t' : Tree) → Looked DoesExactly b t o t'
    → Makes mode b o t t'
looked-makes mode b o t t' (inl is) = makes-nothing mode b o t t' (undone o is.why is.tells) is.kept
looked-makes mode b o t t' (inr is) = look-makes mode b is.aim.command is.answer o t t'
    (aim-light b is.side is.aim is.is)
    (undone-or (TellsGlance b is.aim is.answer o) o (glance-undone b is.aim is.answer o) is.tells) is.done

-- ---- what comes into the trash

-- a step that isn't the move
abbrev IsAround : Browser → Command → Type 0
IsAround b command = IsNamedIn Trashing b command × (IsAskedIn Trashing b command → ⊥)

none-asked : (b : Browser) (commands : List Command) → All (IsAround b) commands → NoneIsAsked Trashing b commands
none-asked b commands all =
    All-weaker (IsAround b) (λ command. IsAskedIn Trashing b command → ⊥) (λ command is. is.1) commands all

abbrev around-named : (b : Browser) (t t' : Tree) → Steps (IsAround b) t t' → Steps (IsNamedIn Trashing b) t t'
around-named b t t' around = record {
  commands = around.commands;
  all = All-weaker (IsAround b) (IsNamedIn Trashing b) (λ command is. is.0) around.commands around.all;
  made = around.made;
}

folder-around : (b : Browser) (d : Discard) (path : List ℕ) → discard_in b ≡ Some d → IsTrashFolder d path
    → IsAround b (MakeFolder path)
folder-around b d path is folder =
    ((d, is, folder), λ asked. let bad : MakeFolder path ≡ Rename _ _ = asked.2.1 in absurd (cc))

preparing-steps : (b : Browser) (d : Discard) (command : Command) (a : Answer) (t t' : Tree) → discard_in b ≡ Some d
    → IsPreparing d command → DoesExactly t command a t' → Steps (IsAround b) t t'
preparing-steps b d (MakeFolder path) a t t' is prepares does =
    steps-by (IsAround b) (MakeFolder path) a t t' (folder-around b d path is prepares) does
preparing-steps b d (ListFolder path) a t t' is prepares does =
    no-steps (IsAround b) t t' (does-nothing (ListFolder path) a t t' refl does)
preparing-steps b d TellTime a t t' is prepares does =
    no-steps (IsAround b) t t' (does-nothing TellTime a t t' refl does)
preparing-steps b d _ a t t' is prepares does = absurd prepares

did-steps : (b : Browser) (d : Discard) (commands : List Command) (t t' : Tree) → discard_in b ≡ Some d
    → ArePreparing d commands → Did DoesExactly commands t t' → Steps (IsAround b) t t'
did-steps b d [] t t' is are did = no-steps (IsAround b) t t' did
did-steps b d (command ∷ commands) t t' is are did = steps-then (IsAround b) t did.1 t'
    (preparing-steps b d command did.0 t did.1 is are.0 did.2) (did-steps b d commands did.1 t' is are.1 did.3)

prepared-all : (d : Discard) (plan : Plan) (t t' : Tree) → IsPrepared DoesExactly d t plan t'
    → Prepares DoesExactly d t t'
prepared-all d plan t t' is = let saw = is.saw in prepares-then DoesExactly d t is.made t' is.makes
    (prepares-then DoesExactly d is.made saw.one t'
    (prepares-entries DoesExactly d d.files (Ok is.seen.files) is.made saw.one (inr (inl refl)) saw.held)
    (prepares-then DoesExactly d saw.one saw.two t'
    (prepares-entries DoesExactly d d.info (Ok is.seen.info) saw.one saw.two (inr (inr refl)) saw.written)
    (prepares-time DoesExactly d (Ok is.seen.time) saw.two t' saw.now)))

-- nothing is moved
around-makes : (b : Browser) (o : Outcome) (t t' : Tree) → (o ≡ outcome.Done → ⊥) → Steps (IsAround b) t t'
    → Makes Trashing b o t t'
around-makes b o t t' none around = record {
  steps = around-named b t t' around;
  told = not-done o Trashing b t around.commands none (none-asked b around.commands around.all);
}

module _ (b : Browser) (d : Discard) (is : discard_in b ≡ Some d) (n : ℕ) (date : DateTime) where
  abbrev plan : Plan
  plan = discard_plan d n date

  write-around : IsAround b plan.write
  write-around = ((d, is, (n, date, inl refl)), λ asked. let bad : plan.write ≡ Rename _ _ = asked.2.1 in absurd (cc))

  undo-around : IsAround b plan.undo
  undo-around =
      ((d, is, (n, date, inr (inr refl))), λ asked. let bad : plan.undo ≡ Rename _ _ = asked.2.1 in absurd (cc))

  put-makes : (o : Outcome) (t written t' : Tree) → o ≡ outcome.Done → Steps (IsAround b) t written
      → refusal plan.put written.entries ≡ None → t' ≡ tree_after plan.put written → Makes Trashing b o t t'
  put-makes o t written t' tells around allowed put = record {
    steps = steps-then (IsNamedIn Trashing b) t written t'
        (around-named b t written around)
        (step (IsNamedIn Trashing b) plan.put written t' (d, is, (n, date, inr (inl refl))) put);
    told = subst (λ (x : Outcome). IsTold x Trashing b t (around.commands ++ plan.put ∷ [])) (sym tells) (record {
      earlier = around.commands;
      last = plan.put;
      split = refl;
      before = none-asked b around.commands around.all;
      asked = (d, is, (n, refl));
      allowed = subst (λ (x : Tree). refusal plan.put x.entries ≡ None) around.made allowed;
    });
  }

  moved-makes : (a : Answer) (o : Outcome) (t written moved t' : Tree) → Steps (IsAround b) t written
      → DoesExactly written plan.put a moved → EndsMoved DoesExactly a plan moved o t' → Makes Trashing b o t t'
  moved-makes answer.Done o t written moved t' around (inl exactly) ends =
      put-makes o t written t' ends.1 around
      (allowed-by (refusal plan.put written.entries) (done_answer plan.put written) exactly.0) (ends.0 ∙ exactly.1)
  moved-makes answer.Done o t written moved t' around (inr refused) ends =
      let bad : answer.Done ≡ answer.Failed failure.Memory = refused.0 in absurd (cc)
  moved-makes a o t written moved t' around put ends =
      let same = stays plan.put a written moved (λ told. absurd (cc)) put in
      around-makes b o t t' (undone o _ ends.2)
      (steps-then (IsAround b) t moved t'
      (steps-then (IsAround b) t written moved around (no-steps (IsAround b) written moved same))
      (steps-by (IsAround b) plan.undo ends.0 moved t' undo-around ends.1))

  written-makes : (a : Answer) (o : Outcome) (t ready written t' : Tree) → Steps (IsAround b) t ready
      → DoesExactly ready plan.write a written → EndsWritten DoesExactly a plan written o t' → Makes Trashing b o t t'
  written-makes answer.Done o t ready written t' around write ends = moved-makes ends.0 o t written ends.1 t'
      (steps-then (IsAround b) t ready written around
      (steps-by (IsAround b) plan.write answer.Done ready written write-around write)) ends.2 ends.3
  written-makes a o t ready written t' around write ends = around-makes b o t t' (undone o _ ends.1)
      (steps-then (IsAround b) t written t'
      (steps-then (IsAround b) t ready written around
      (steps-by (IsAround b) plan.write a ready written write-around write))
      (no-steps (IsAround b) written t' ends.0))

begun-makes : (b : Browser) (d : Discard) (o : Outcome) (t t' : Tree) → discard_in b ≡ Some d
    → StopsShort DoesExactly d t o t' ⊎ PutsAway DoesExactly d t o t' → Makes Trashing b o t t'
begun-makes b d o t t' is (inl stops) =
    let all = stops.prepared in around-makes b o t t' (undone o stops.why stops.tells)
    (did-steps b d all.commands t t' is all.only all.did)
begun-makes b d o t t' is (inr puts) =
    let planned = puts.prepared.planned in
    let ends = subst (λ (p : Plan). Ends DoesExactly p puts.ready o t') planned.is puts.ends in
    let all = prepared-all d puts.plan t puts.ready puts.prepared in
    written-makes b d is planned.number planned.date ends.0 o t puts.ready ends.1 t'
    (did-steps b d all.commands t puts.ready is all.only all.did) ends.2 ends.3

discarded-makes : (b : Browser) (o : Outcome) (t t' : Tree) → Discarded DoesExactly (discard_in b) t o t'
    → Makes Trashing b o t t'
discarded-makes b o t t' (inl is) = makes-nothing Trashing b o t t' (undone o is.why is.tells) is.kept
discarded-makes b o t t' (inr is) = begun-makes b is.0 o t t' is.1 is.2

-- ---- turns

does-makes : (mode : Mode) (b : Browser) (o : Outcome) (t t' : Tree) → DoesIn DoesExactly mode b t o t'
    → Makes mode b o t t'
does-makes Listing b o t t' is = listed-makes Listing b o t t' is
does-makes Entering b o t t' is = listed-makes Entering b o t t' is
does-makes Leaving b o t t' is = listed-makes Leaving b o t t' is
does-makes Returning b o t t' is = listed-makes Returning b o t t' is
does-makes Visiting b o t t' is = listed-makes Visiting b o t t' is
does-makes Locating b o t t' is = listed-makes Locating b o t t' is
does-makes Completing b o t t' is = completed-makes Completing b o t t' is
does-makes CountingToTrash b o t t' is = counted-makes CountingToTrash b o t t' is
does-makes CountingToRemove b o t t' is = counted-makes CountingToRemove b o t t' is
does-makes Looking b o t t' is = looked-makes Looking b o t t' is
does-makes Trashing b o t t' is = discarded-makes b o t t' is
does-makes mode b o t t' is =
    changed-makes mode b (change_in mode b) o t t' (λ command here. here) (λ command here. here) is

named-change : (mode : Mode) (b : Browser) (command : Command) → IsNamedIn mode b command → is_change mode ≡ true
named-change Trashing b command is = refl
named-change Removing b command is = refl
named-change Renaming b command is = refl
named-change Making b command is = refl
named-change Pasting b command is = refl
named-change Undoing b command is = refl
named-change _ b command is = absurd (cc)

asked-sure : (state b : Browser) → browser_asked state ≡ Some b → is_change b.mode ≡ true → b.is_sure ≡ true
asked-sure state b asked =
    subst (λ (x : Browser). is_change x.mode ≡ true → x.is_sure ≡ true) (asked-self state b asked)
    (λ change. sure-in state.mode state.is_sure change
    (acts-true state change (asks-true (asks state) state b asked)))

named-sure : (b : Browser) (commands : List Command) → All (IsNamedIn b.mode b) commands
    → (is_change b.mode ≡ true → b.is_sure ≡ true) → (commands ≡ []) ⊎ (b.is_sure ≡ true)
named-sure b [] all sure = inl refl
named-sure b (command ∷ commands) all sure =
    inr (sure (named-change b.mode b command (All-head (IsNamedIn b.mode b) command commands all)))

-- ---- runs

record TurnMade (turn : Turn Browser Outcome) (t t' : Tree) : Type 0 where
  pub commands : List Command
  pub turn_is : MadeInTurn turn t commands
  pub made : t' ≡ tree_after_all commands t

-- files in memory are outside
abbrev in_memory : Hands Tree → Browser → Outcome → Hands Tree → Type 0
in_memory hands b o after = DoesAsked DoesExactly b hands.files o after.files

module _ {W H : Type 0} (gives : H → ℕ → List ℕ → Duration → H → Type 0) (fails : H → H → Type 0) where
  abbrev at_glass : Ground Browser Browser Outcome (OnGlass W) (TerminalError AnsiError) H (Hands Tree)
  at_glass = browsing_on gives fails in_memory

  turn-made : (before after : Now Browser (OnGlass W) H (Hands Tree)) (turn : Turn Browser Outcome)
      → IsTurn at_glass before turn after → TurnMade turn before.outside.files after.outside.files
  turn-made before after (Came bytes passed) is =
      record { commands = []; turn_is = refl; made = ap (λ (hands : Hands Tree). hands.files) is.given.1 }
  turn-made before after (Done b o) is =
      let makes = does-makes b.mode b o before.outside.files after.outside.files is.given.0 in record {
        commands = makes.steps.commands;
        turn_is = record {
          named = makes.steps.all;
          sure = named-sure b makes.steps.commands makes.steps.all (asked-sure before.standing.state b is.wanted);
          told = makes.told;
        };
        made = makes.steps.made;
      }

  pub run-made : (begun now : Now Browser (OnGlass W) H (Hands Tree))
      (past : List (Past Browser Browser Outcome (OnGlass W) H (Hands Tree))) → HasRun at_glass begun past now
      → (commands : List Command) × MadeByTurns past commands
      × (now.outside.files ≡ tree_after_all commands begun.outside.files)
  run-made begun now [] has = ([], refl, ap (λ (n : Now Browser (OnGlass W) H (Hands Tree)). n.outside.files) has)
  run-made begun now (p ∷ earlier) has =
      let before = run-made begun p.before earlier has.0 in
      let turn = turn-made p.before now p.turn has.1 in (
        before.0 ++ turn.commands,
        (before.0, turn.commands, refl, before.1, turn.turn_is),
        turn.made ∙ ap (tree_after_all turn.commands) before.2
            ∙ sym (after-then before.0 turn.commands begun.outside.files),
      )
