-- What is done to put something into the trash.
use Rattle.std.specs.Prelude.{◌≡◌, ◌⊎◌, ℕ, List, [], ◌∷◌, Option, Some, Result, Ok, Err}
use Rattle.std.specs.declared.time.Duration.{Duration}
use Rattle.ratatui_files.specs.declared.answer.Info.{Info}
use Rattle.ratatui_files.specs.declared.answer.Failure.{Failure}
use Rattle.ratatui_files.specs.declared.answer.Answer.{Answer}
use Rattle.ratatui_files.specs.declared.answer.Answer.TheVariants as answer
use Rattle.ratatui_files.specs.declared.command.Command.{Command}
use Rattle.ratatui_files.specs.declared.command.Command.TheVariants.{MakeFolder, List as ListFolder, Now}
use Rattle.files.specs.declared.list.Outcome.{Outcome}
use Rattle.files.specs.declared.list.Outcome.TheVariants as outcome
use Rattle.files.specs.declared.trash.Discard.{Discard}
use Rattle.files.specs.declared.trash.Seen.{Seen}
use Rattle.files.specs.declared.trash.Plan.{Plan}
use Rattle.files.specs.Trash.{IsTrashFolder, IsPlanFor}
use Rattle.files.specs.Answers.{told_of, DoesNothing}

-- a command that comes before: a folder of the trash is made, or listed, or the time is told
abbrev pub IsPreparing : Discard → Command → Type 0
IsPreparing d (MakeFolder path) = IsTrashFolder d path
IsPreparing d (ListFolder path) = IsTrashFolder d path
IsPreparing d Now = Unit {0}
IsPreparing d _ = ⊥

abbrev pub ArePreparing : Discard → List Command → Type 0
ArePreparing d [] = Unit {0}
ArePreparing d (command ∷ commands) = IsPreparing d command × ArePreparing d commands

module _ {P : Type 0} (does : P → Command → Answer → P → Type 0) where
  -- commands were done in turn, whatever they were answered
  abbrev pub Did : List Command → P → P → Type 0
  Did [] files files' = files' ≡ files
  Did (command ∷ commands) files files' =
      (a : Answer) × (next : P) × does files command a next × Did commands next files'

  -- nothing was done but what comes before
  pub record Prepares (d : Discard) (files files' : P) : Type 0 where
    pub commands : List Command
    pub only : ArePreparing d commands
    pub did : Did commands files files'

  -- a folder was listed, or that failed
  abbrev pub GivesEntries : List ℕ → P → Result (List Info) Failure → P → Type 0
  GivesEntries folder files (Ok entries) files' =
      (unnamed : ℕ) × does files (ListFolder folder) (answer.Listed entries unnamed) files'
  GivesEntries folder files (Err why) files' =
      (files' ≡ files) ⊎ ((a : Answer) × does files (ListFolder folder) a files')

  -- the time was told, or that failed
  abbrev pub GivesTime : P → Result Duration Failure → P → Type 0
  GivesTime files (Ok time) files' = does files Now (answer.Time time) files'
  GivesTime files (Err why) files' = (a : Answer) × does files Now a files'

  -- the folders of the trash were listed, and the time told
  pub record Saw (d : Discard) (files : P) (seen : Seen) (files' : P) : Type 0 where
    pub one : P
    pub held : GivesEntries d.files files (Ok seen.files) one
    pub two : P
    pub written : GivesEntries d.info one (Ok seen.info) two
    pub now : GivesTime two (Ok seen.time) files'

  -- the trash is there, and it is planned by what it holds, and by the time, how something is put into it
  pub record IsPrepared (d : Discard) (files : P) (plan : Plan) (files' : P) : Type 0 where
    pub made : P
    pub makes : Prepares d files made
    pub seen : Seen
    pub saw : Saw d made seen files'
    pub planned : IsPlanFor d seen plan

  -- the entry was moved; or it wasn't, and what was written is removed
  abbrev pub EndsMoved : Answer → Plan → P → Outcome → P → Type 0
  EndsMoved answer.Done plan files o files' = (files' ≡ files) × (o ≡ outcome.Done)
  EndsMoved a plan files o files' = (b : Answer) × does files plan.undo b files' × (o ≡ told_of a)

  -- it was written where the entry was, and the entry is moved; or that wasn't written, and nothing more is
  -- done
  abbrev pub EndsWritten : Answer → Plan → P → Outcome → P → Type 0
  EndsWritten answer.Done plan files o files' =
      (a : Answer) × (moved : P) × does files plan.put a moved × EndsMoved a plan moved o files'
  EndsWritten a plan files o files' = (files' ≡ files) × (o ≡ told_of a)

  abbrev pub Ends : Plan → P → Outcome → P → Type 0
  Ends plan files o files' =
      (a : Answer) × (written : P) × does files plan.write a written × EndsWritten a plan written o files'

  -- something was put into the trash, or that ended with a reason that is told, and the entry is where it was
  pub record PutsAway (d : Discard) (files : P) (o : Outcome) (files' : P) : Type 0 where
    pub plan : Plan
    pub ready : P
    pub prepared : IsPrepared d files plan ready
    pub ends : Ends plan ready o files'

  -- it wasn't begun, for a reason that is told
  pub record StopsShort (d : Discard) (files : P) (o : Outcome) (files' : P) : Type 0 where
    pub why : Failure
    pub tells : o ≡ outcome.Failed why
    pub prepared : Prepares d files files'

  -- a question was answered by yes: what it asks about was put into the trash, or that wasn't begun
  abbrev pub Discarded : Option Discard → P → Outcome → P → Type 0
  Discarded asked files o files' = DoesNothing files o files'
      ⊎ ((d : Discard) × (asked ≡ Some d) × (StopsShort d files o files' ⊎ PutsAway d files o files'))
