-- What is known of runs of a browser on a terminal.
use Rattle.std.specs.Prelude.{◌≡◌, ◌⊎◌, ℕ, true, false, List, [], ◌∷◌, ◌++◌, All, Some, None}
use Rattle.std.specs.declared.time.Duration.{Duration}
use Rattle.ratatui_core.specs.Terminal.{TerminalError}
use Rattle.ratatui_ansi.specs.{declared.error.AnsiError.AnsiError}
use Rattle.ratatui_acts.specs.Turns.{Turn, Came, Done}
use Rattle.ratatui_acts.specs.Runs.{Past, Ground}
use Rattle.ratatui_app.specs.Runs.{on_glass}
use Rattle.ratatui_app.specs.Glass.{StandsOnGlass, never_short}
use Rattle.ratatui_app.specs.declared.on_glass.OnGlass.{OnGlass}
use Rattle.ratatui_files.specs.Paths.{path_in}
use Rattle.ratatui_files.specs.Trees.{Tree}
use Rattle.ratatui_files.specs.Changes.{refusal, tree_after}
use Rattle.ratatui_files.specs.declared.command.Command.{Command}
use Rattle.ratatui_files.specs.declared.command.Command.TheVariants.{Rename}
use Rattle.files.specs.declared.browser.Browser.{Browser}
use Rattle.files.specs.declared.browser.Mode.{Mode}
use Rattle.files.specs.declared.browser.Mode.TheVariants.{Trashing}
use Rattle.files.specs.declared.hands.Hands.{Hands}
use Rattle.files.specs.declared.list.Outcome.{Outcome}
use Rattle.files.specs.declared.list.Outcome.TheVariants as outcome
use Rattle.files.specs.declared.trash.Discard.{Discard}
use Rattle.files.specs.Texts.{fits, status_told}
use Rattle.files.specs.Trash.{discard_in, numbered}
use Rattle.files.specs.Questions.{change_in, IsNamedIn}
use Rattle.files.specs.Pages.{PaintsBrowser, browser_cursor}
use Rattle.files.specs.Laws.{browsing, is_change}

-- what a browser asks for is on the glass: each terminal that has read what was sent shows the browser; and if that
-- is a change, its screen has columns for the whole question
pub record NamesWhatIsDone {W : Type 0} (glass : OnGlass W) (b : Browser) : Type 0 where
  pub shown : StandsOnGlass (PaintsBrowser b) (browser_cursor b) glass.terminal
  pub whole : is_change b.mode ≡ true → fits b.size.width b ≡ true

-- two browsers ask the same of a folder
pub record AsksTheSame (b c : Browser) : Type 0 where
  pub mode : b.mode ≡ c.mode
  pub folder : b.folder ≡ c.folder
  pub status : status_told b ≡ status_told c

-- a turn at a glass: if something was done, that was on the glass
abbrev pub NamesTurn : {W : Type 0} → OnGlass W → Turn Browser Outcome → Type 0
NamesTurn glass (Came bytes passed) = Unit {0}
NamesTurn glass (Done b o) = NamesWhatIsDone glass b

module _ {W H O : Type 0} where
  -- what a run of a browser stands on, on a terminal that is sent bytes
  abbrev pub browsing_on : (H → ℕ → List ℕ → Duration → H → Type 0) → (H → H → Type 0) → (O → Browser → Outcome → O → Type 0)
      → Ground Browser Browser Outcome (OnGlass W) (TerminalError AnsiError) H O
  browsing_on = on_glass browsing PaintsBrowser never_short browser_cursor

  -- so it was at each turn
  abbrev pub WereOnTheGlass : List (Past Browser Browser Outcome (OnGlass W) H O) → Type 0
  WereOnTheGlass [] = Unit {0}
  WereOnTheGlass (p ∷ earlier) = NamesTurn p.before.glass p.turn × WereOnTheGlass earlier

  -- a turn was a read that found nothing while each terminal that had read what was sent showed this question, which
  -- was not answered then
  pub record StoodThere (b : Browser) (p : Past Browser Browser Outcome (OnGlass W) H O) : Type 0 where
    pub passed : Duration
    pub nothing : p.turn ≡ Came [] passed
    pub shown : StandsOnGlass (PaintsBrowser p.before.standing.state) (browser_cursor p.before.standing.state) p.before.glass.terminal
    pub unanswered : p.before.standing.state.is_sure ≡ false
    pub same : AsksTheSame p.before.standing.state b

  abbrev pub StoodBefore : Browser → List (Past Browser Browser Outcome (OnGlass W) H O) → Type 0
  StoodBefore b [] = ⊥
  StoodBefore b (p ∷ earlier) = StoodThere b p ⊎ StoodBefore b earlier

  -- if a turn changed something, its question stood there before while a read found nothing
  abbrev pub AskedTurn : List (Past Browser Browser Outcome (OnGlass W) H O) → Turn Browser Outcome → Type 0
  AskedTurn earlier (Came bytes passed) = Unit {0}
  AskedTurn earlier (Done b o) = is_change b.mode ≡ true → StoodBefore b earlier

  abbrev pub WereAsked : List (Past Browser Browser Outcome (OnGlass W) H O) → Type 0
  WereAsked [] = Unit {0}
  WereAsked (p ∷ earlier) = AskedTurn earlier p.turn × WereAsked earlier

-- ---- what is made of files in memory

-- what commands make of a tree, one after the other; one that is refused changes nothing
abbrev pub tree_after_all : List Command → Tree → Tree
tree_after_all [] t = t
tree_after_all (command ∷ commands) t = tree_after_all commands (tree_after command t)

-- what a question asks for: the change, or the move of an entry into the trash
abbrev pub IsAskedIn : Mode → Browser → Command → Type 0
IsAskedIn Trashing b command = (d : Discard) × (discard_in b ≡ Some d)
    × ((n : ℕ) × (command ≡ Rename d.from (path_in d.files (numbered n d.name))))
IsAskedIn mode b command = change_in mode b ≡ Some command

-- none of these commands is what the question asks for
abbrev pub NoneIsAsked : Mode → Browser → List Command → Type 0
NoneIsAsked mode b commands = All (λ command. IsAskedIn mode b command → ⊥) commands

-- the last one of these commands is what it asks for, and no other; and after the others it isn't refused
pub record EndsAsAsked (mode : Mode) (b : Browser) (t : Tree) (commands : List Command) : Type 0 where
  pub earlier : List Command
  pub last : Command
  pub split : commands ≡ earlier ++ last ∷ []
  pub before : NoneIsAsked mode b earlier
  pub asked : IsAskedIn mode b last
  pub allowed : refusal last (tree_after_all earlier t).entries ≡ None

-- what is told is so: what the question asks for was done, or it wasn't
abbrev pub IsTold : Outcome → Mode → Browser → Tree → List Command → Type 0
IsTold outcome.Done mode b t commands = EndsAsAsked mode b t commands
IsTold o mode b t commands = NoneIsAsked mode b commands

-- the commands that were done to a tree for a question: it names each of them; without a yes there is none;
-- and what is told of them is so
pub record MadeBy (b : Browser) (o : Outcome) (t : Tree) (commands : List Command) : Type 0 where
  pub named : All (IsNamedIn b.mode b) commands
  pub sure : (commands ≡ []) ⊎ (b.is_sure ≡ true)
  pub told : IsTold o b.mode b t commands

-- a turn at files in memory: a read does nothing
abbrev pub MadeInTurn : Turn Browser Outcome → Tree → List Command → Type 0
MadeInTurn (Came bytes passed) t commands = commands ≡ []
MadeInTurn (Done b o) t commands = MadeBy b o t commands

module _ {W H : Type 0} where
  -- the commands of turns, in the order in which they were done
  abbrev pub MadeByTurns : List (Past Browser Browser Outcome (OnGlass W) H (Hands Tree)) → List Command
      → Type 0
  MadeByTurns [] commands = commands ≡ []
  MadeByTurns (p ∷ earlier) commands = (before : List Command) × (last : List Command)
      × (commands ≡ before ++ last) × MadeByTurns earlier before
      × MadeInTurn p.turn p.before.outside.files last
