-- How something comes into the trash.
use Rattle.std.proofs.Common.{◌≡◌, inl, inr, List, [], ◌∷◌, ◌++◌, ℕ, Some, refl, sym, subst, Result, Ok, Err}
use Rattle.ratatui_files.specs.declared.answer.Info.{Info}
use Rattle.ratatui_files.specs.declared.answer.Failure.{Failure}
use Rattle.ratatui_files.specs.declared.answer.Answer.{Answer}
use Rattle.ratatui_files.specs.declared.answer.Answer.TheVariants as answer
use Rattle.std.specs.declared.time.Duration.{Duration}
use Rattle.files.specs.declared.list.Outcome.{Outcome}
use Rattle.files.specs.Answers.{told_of}
use Rattle.ratatui_files.specs.declared.command.Command.{Command}
use Rattle.ratatui_files.specs.declared.command.Command.TheVariants.{List as ListFolder, Now}
use Rattle.files.specs.declared.browser.Browser.{Browser}
use Rattle.files.specs.declared.browser.Mode.{Mode}
use Rattle.files.specs.declared.browser.Mode.TheVariants.{Looking, Listing, Entering, Leaving, Trashing, Removing}
use Rattle.files.specs.declared.browser.Mode.TheVariants.{Renaming, Making, Over, Pasting, Sorting, Seeking}
use Rattle.files.specs.declared.browser.Mode.TheVariants.{Going, Visiting, Locating, Completing}
use Rattle.files.specs.declared.browser.Mode.TheVariants.{CountingToTrash, CountingToRemove}
use Rattle.files.specs.declared.browser.Mode.TheVariants.{Returning, Undoing, Helping, Chosen}
use Rattle.files.specs.declared.trash.Discard.{Discard}
use Rattle.files.specs.declared.trash.Plan.{Plan}
use Rattle.files.specs.Trash.{discard_in, IsTrashFolder, IsStep, IsPlanOf, discard_plan}
use Rattle.files.specs.Questions.{AsksToDiscard, IsNamedIn, change_in}
use Rattle.files.specs.Discards.{IsPreparing, ArePreparing, Did, Prepares, GivesEntries, GivesTime, EndsMoved, Ends, Discarded}
use Rattle.files.specs.Looks.{Looked}
use Rattle.files.specs.Doing.{Changed, DoesIn, DoesAsked}
use Rattle.files.specs.Moves.{browser_asked}
use Rattle.files.proofs.SoundLemmas.{asked-self}

-- ---- what a question names

named-step : (b : Browser) (d : Discard) (command : Command) → AsksToDiscard b d → IsStep d command → IsNamedIn b.mode b command
named-step b d command asks step =
    subst (λ mode. IsNamedIn mode b command) (sym asks.mode) (d, asks.is, step)

pub named-write : (b : Browser) (d : Discard) (plan : Plan) → AsksToDiscard b d → IsPlanOf d plan → IsNamedIn b.mode b plan.write
named-write b d plan asks is = subst (λ (p : Plan). IsNamedIn b.mode b p.write) (sym is.2)
    (named-step b d (discard_plan d is.0 is.1).write asks (is.0, is.1, inl refl))

-- ---- what comes before

are-then : (d : Discard) (one two : List Command) → ArePreparing d one → ArePreparing d two → ArePreparing d (one ++ two)
are-then d [] two first are = are
are-then d (command ∷ one) two first are = (first.0, are-then d one two first.1 are)

module _ {P : Type 0} (does : P → Command → Answer → P → Type 0) where
  did-then : (one two : List Command) (a b c : P) → Did does one a b → Did does two b c → Did does (one ++ two) a c
  did-then [] two a b c same did = subst (λ (x : P). Did does two x c) same did
  did-then (command ∷ one) two a b c first did = (first.0, first.1, first.2, did-then one two first.1 b c first.3 did)

  pub prepares-none : (d : Discard) (a : P) → Prepares does d a a
  prepares-none d a = record { commands = []; only = tt; did = refl }

  pub prepares-one : (d : Discard) (command : Command) (answer : Answer) (a b : P) → IsPreparing d command
      → does a command answer b → Prepares does d a b
  prepares-one d command answer a b is done = record { commands = command ∷ []; only = (is, tt); did = (answer, b, done, refl) }

  pub prepares-then : (d : Discard) (a b c : P) → Prepares does d a b → Prepares does d b c → Prepares does d a c
  prepares-then d a b c one two = record {
    commands = one.commands ++ two.commands;
    only = are-then d one.commands two.commands one.only two.only;
    did = did-then one.commands two.commands a b c one.did two.did;
  }

  -- a folder of the trash was listed, or that failed
  pub prepares-entries : (d : Discard) (folder : List ℕ) (r : Result (List Info) Failure) (a b : P) → IsTrashFolder d folder
      → GivesEntries does folder a r b → Prepares does d a b
  prepares-entries d folder (Ok entries) a b is gives = prepares-one d (ListFolder folder) _ a b is gives.1
  prepares-entries d folder (Err why) a b is (inl same) = subst (λ (x : P). Prepares does d a x) (sym same) (prepares-none d a)
  prepares-entries d folder (Err why) a b is (inr gives) = prepares-one d (ListFolder folder) gives.0 a b is gives.1

  -- the time was told, or that failed
  pub prepares-time : (d : Discard) (r : Result Duration Failure) (a b : P) → GivesTime does a r b → Prepares does d a b
  prepares-time d (Ok time) a b gives = prepares-one d Now _ a b tt gives
  prepares-time d (Err why) a b gives = prepares-one d Now gives.0 a b tt gives.1

  -- ---- the end

  moved-undone : (plan : Plan) (a b : Answer) (files files' : P) (o : Outcome) → (a ≡ answer.Done → ⊥) → does files plan.undo b files'
      → o ≡ told_of a → EndsMoved does a plan files o files'
  moved-undone plan answer.Done b files files' o unlike undone is = absurd (unlike refl)
  moved-undone plan (answer.Listed entries unnamed) b files files' o unlike undone is = (b, undone, is)
  moved-undone plan (answer.Read bytes) b files files' o unlike undone is = (b, undone, is)
  moved-undone plan (answer.Time time) b files files' o unlike undone is = (b, undone, is)
  moved-undone plan (answer.Failed why) b files files' o unlike undone is = (b, undone, is)

  pub ends-undone : (plan : Plan) (first second third : Answer) (files written moved files' : P) (o : Outcome) → first ≡ answer.Done
      → does files plan.write first written → (second ≡ answer.Done → ⊥) → does written plan.put second moved
      → does moved plan.undo third files' → o ≡ told_of second → Ends does plan files o files'
  ends-undone plan first second third files written moved files' o is writes unlike puts undoes told = (
    answer.Done,
    written,
    subst (λ (a : Answer). does files plan.write a written) is writes,
    (second, moved, puts, moved-undone plan second third moved files' o unlike undoes told),
  )

-- what a browser asks for was done, where it asks whether something is to be put into the trash
pub asked-discard : {P : Type 0} (does : P → Command → Answer → P → Type 0) (state b : Browser)
    (files : P) (o : Outcome) (files' : P) → browser_asked state ≡ Some b → state.mode ≡ Trashing
    → Discarded does (discard_in state) files o files' → DoesAsked does b files o files'
asked-discard does state b files o files' asked at is =
    subst (λ (x : Browser). DoesAsked does x files o files') (asked-self state b asked)
    (subst (λ mode. DoesIn does mode state files o files') (sym at) is)

-- the same, where it looks at something
pub asked-look : {P : Type 0} (does : P → Command → Answer → P → Type 0) (state b : Browser)
    (files : P) (o : Outcome) (files' : P) → browser_asked state ≡ Some b → state.mode ≡ Looking
    → Looked does state files o files' → DoesAsked does b files o files'
asked-look does state b files o files' asked at is =
    subst (λ (x : Browser). DoesAsked does x files o files') (asked-self state b asked)
    (subst (λ mode. DoesIn does mode state files o files') (sym at) is)

-- the same, where it asks for a change
changes-in : {P : Type 0} (does : P → Command → Answer → P → Type 0) (mode : Mode) (b : Browser) (files : P) (o : Outcome) (files' : P)
    → (mode ≡ Listing → ⊥) → (mode ≡ Entering → ⊥) → (mode ≡ Leaving → ⊥) → (mode ≡ Returning → ⊥) → (mode ≡ Trashing → ⊥)
    → (mode ≡ Looking → ⊥) → (mode ≡ Visiting → ⊥) → (mode ≡ Locating → ⊥) → (mode ≡ Completing → ⊥)
    → (mode ≡ CountingToTrash → ⊥) → (mode ≡ CountingToRemove → ⊥)
    → Changed does (change_in mode b) files o files' → DoesIn does mode b files o files'
changes-in does Looking b files o files' one two three back four five six seven eight nine ten is = absurd (five refl)
changes-in does Listing b files o files' one two three back four five six seven eight nine ten is = absurd (one refl)
changes-in does Entering b files o files' one two three back four five six seven eight nine ten is = absurd (two refl)
changes-in does Leaving b files o files' one two three back four five six seven eight nine ten is = absurd (three refl)
changes-in does Trashing b files o files' one two three back four five six seven eight nine ten is = absurd (four refl)
changes-in does Removing b files o files' one two three back four five six seven eight nine ten is = is
changes-in does Renaming b files o files' one two three back four five six seven eight nine ten is = is
changes-in does Making b files o files' one two three back four five six seven eight nine ten is = is
changes-in does Pasting b files o files' one two three back four five six seven eight nine ten is = is
changes-in does Sorting b files o files' one two three back four five six seven eight nine ten is = is
changes-in does Seeking b files o files' one two three back four five six seven eight nine ten is = is
changes-in does Going b files o files' one two three back four five six seven eight nine ten is = is
changes-in does Visiting b files o files' one two three back four five six seven eight nine ten is = absurd (six refl)
changes-in does Locating b files o files' one two three back four five six seven eight nine ten is = absurd (seven refl)
changes-in does Completing b files o files' one two three back four five six seven eight nine ten is = absurd (eight refl)
changes-in does CountingToTrash b files o files' one two three back four five six seven eight nine ten is = absurd (nine refl)
changes-in does CountingToRemove b files o files' one two three back four five six seven eight nine ten is = absurd (ten refl)
changes-in does Over b files o files' one two three back four five six seven eight nine ten is = is
changes-in does Returning b files o files' one two three back four five six seven eight nine ten is = absurd (back refl)
changes-in does Undoing b files o files' one two three back four five six seven eight nine ten is = is
changes-in does Helping b files o files' one two three back four five six seven eight nine ten is = is
changes-in does Chosen b files o files' one two three back four five six seven eight nine ten is = is

pub asked-change : {P : Type 0} (does : P → Command → Answer → P → Type 0) (state b : Browser) (files : P) (o : Outcome) (files' : P)
    → browser_asked state ≡ Some b → (state.mode ≡ Listing → ⊥) → (state.mode ≡ Entering → ⊥) → (state.mode ≡ Leaving → ⊥)
    → (state.mode ≡ Returning → ⊥) → (state.mode ≡ Trashing → ⊥) → (state.mode ≡ Looking → ⊥)
    → (state.mode ≡ Visiting → ⊥) → (state.mode ≡ Locating → ⊥) → (state.mode ≡ Completing → ⊥)
    → (state.mode ≡ CountingToTrash → ⊥) → (state.mode ≡ CountingToRemove → ⊥)
    → Changed does (change_in state.mode state) files o files' → DoesAsked does b files o files'
asked-change does state b files o files' asked one two three back four five six seven eight nine ten is =
    subst (λ (x : Browser). DoesAsked does x files o files') (asked-self state b asked)
    (changes-in does state.mode state files o files' one two three back four five six seven eight nine ten is)
