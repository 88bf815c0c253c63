-- What is looked at beside a folder.
use Rattle.std.specs.Prelude.{◌≡◌, ◌⊎◌, ℕ, Bool, true, false, List, [], Some, slice_get, unwrap_or, string_bytes}
use Rattle.ratatui_files.specs.Paths.{path_in}
use Rattle.ratatui_files.specs.declared.command.Command.{Command}
use Rattle.ratatui_files.specs.declared.command.Command.TheVariants.{List as ListFolder, Read}
use Rattle.ratatui_files.specs.declared.answer.Answer.{Answer}
use Rattle.ratatui_files.specs.declared.answer.Failure.TheVariants.{Memory}
use Rattle.files.specs.declared.list.Row.{Row}
use Rattle.files.specs.declared.list.Outcome.{Outcome}
use Rattle.files.specs.declared.list.Outcome.TheVariants as outcome
use Rattle.files.specs.declared.glance.Side.{Side}
use Rattle.files.specs.declared.glance.Side.TheVariants.{Above, Ahead}
use Rattle.files.specs.declared.glance.Glance.{Glance}
use Rattle.files.specs.declared.looks.Aim.{Aim}
use Rattle.files.specs.declared.browser.Browser.{Browser}
use Rattle.files.specs.declared.hands.Wanted.{Wanted}
use Rattle.files.specs.Above.{IsAbove}
use Rattle.files.specs.Answers.{DoesNothing}
use Rattle.files.specs.Glances.{side_wanted}
use Rattle.files.specs.Sights.{IsSightOf, IsPlaceIn}

-- what is asked for to see what is at a path: the first 65536 bytes of a file, or what a folder holds
abbrev pub look_by : Bool → List ℕ → Command
look_by true path = Read path 0 65536
look_by false path = ListFolder path

abbrev pub look_command : Row → List ℕ → Command
look_command row path = look_by row.is_leaf path

-- the entry that is selected
pub record IsAimAhead (b : Browser) (aim : Aim) : Type 0 where
  pub row : Row
  pub selected : slice_get b.list b.selected ≡ Some row
  pub side : aim.side ≡ Ahead
  pub folder : aim.folder ≡ b.folder
  pub name : aim.name ≡ string_bytes row.name
  pub command : aim.command ≡ look_command row (path_in b.folder (string_bytes row.name))
  pub size : aim.size ≡ unwrap_or row.size 0
  pub inner : aim.inner ≡ []

-- the folder above
pub record IsAimAbove (b : Browser) (aim : Aim) : Type 0 where
  pub wanted : Wanted
  pub above : IsAbove b.folder wanted
  pub side : aim.side ≡ Above
  pub folder : aim.folder ≡ b.folder
  pub name : aim.name ≡ []
  pub command : aim.command ≡ ListFolder wanted.folder
  pub inner : aim.inner ≡ wanted.name

-- what is to be looked at on a side
abbrev pub IsAim : Side → Browser → Aim → Type 0
IsAim Above b aim = IsAimAbove b aim
IsAim Ahead b aim = IsAimAhead b aim

-- what is seen by an answer is told
pub record IsGlanceOf (b : Browser) (aim : Aim) (a : Answer) (g : Glance) : Type 0 where
  pub side : g.side ≡ aim.side
  pub folder : g.folder ≡ aim.folder
  pub name : g.name ≡ aim.name
  pub sight : IsSightOf b.order b.has_hidden aim.size a g.sight
  pub place : IsPlaceIn aim.inner g.sight g.place

abbrev pub TellsGlance : Browser → Aim → Answer → Outcome → Type 0
TellsGlance b aim a (outcome.Glanced g) = IsGlanceOf b aim a g
TellsGlance b aim a o = ⊥

module _ {P : Type 0} (does : P → Command → Answer → P → Type 0) where
  -- what is wanted to be seen was looked at, by a command that changes nothing, and what was answered is told; or
  -- memory was refused for that
  pub record LooksBeside (b : Browser) (files : P) (o : Outcome) (files' : P) : Type 0 where
    pub side : Side
    pub wanted : side_wanted b ≡ Some side
    pub aim : Aim
    pub is : IsAim side b aim
    pub answer : Answer
    pub done : does files aim.command answer files'
    pub tells : TellsGlance b aim answer o ⊎ (o ≡ outcome.Failed Memory)

  abbrev pub Looked : Browser → P → Outcome → P → Type 0
  Looked b files o files' = DoesNothing files o files' ⊎ LooksBeside b files o files'
