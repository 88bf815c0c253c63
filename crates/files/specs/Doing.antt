-- What is done to files for a browser.
use Rattle.std.specs.Prelude.{◌≡◌, ◌⊎◌, ℕ, Bool, true, List, [], Option, Some, None}
use Rattle.ratatui_files.specs.declared.command.Command.{Command}
use Rattle.ratatui_files.specs.declared.command.Command.TheVariants.{List as ListFolder}
use Rattle.ratatui_files.specs.declared.answer.Answer.{Answer}
use Rattle.ratatui_files.specs.declared.answer.Answer.TheVariants as answer
use Rattle.ratatui_files.specs.declared.answer.Failure.TheVariants as failure
use Rattle.files.specs.declared.order.Order.{Order}
use Rattle.files.specs.declared.list.Listing.{Listing as ListingData}
use Rattle.files.specs.declared.list.Outcome.{Outcome}
use Rattle.files.specs.declared.list.Outcome.TheVariants as outcome
use Rattle.files.specs.declared.browser.Browser.{Browser}
use Rattle.files.specs.declared.browser.Mode.{Mode}
use Rattle.files.specs.declared.browser.Mode.TheVariants.{Looking, Listing, Entering, Leaving, Returning, Trashing}
use Rattle.files.specs.declared.browser.Mode.TheVariants.{Visiting, Locating, Completing}
use Rattle.files.specs.declared.browser.Mode.TheVariants.{CountingToTrash, CountingToRemove}
use Rattle.files.specs.declared.hands.Wanted.{Wanted}
use Rattle.ratatui_files.specs.declared.answer.Info.{Info}
use Rattle.files.specs.Texts.{selected_text, sought_text}
use Rattle.files.specs.Questions.{named_path, change_in}
use Rattle.files.specs.Sorting.{IsListOf, IsPlaceOf}
use Rattle.files.specs.Answers.{told_of, DoesNothing}
use Rattle.files.specs.Above.{IsAbove}
use Rattle.files.specs.Looks.{Looked}
use Rattle.files.specs.Trash.{discard_in}
use Rattle.files.specs.Discards.{Discarded}
use Rattle.text_field.specs.Field.{field_text}
use Rattle.ratatui_files.specs.Paths.{is_inside}
use Rattle.files.specs.Ways.{way_of}
use Rattle.files.specs.Completions.{folder_part, last_part, completion}
use Rattle.files.specs.Counting.{entry_count}

-- the folder that is shown is wanted, with the same entry selected, or the one whose name was typed
pub record WantsShown (b : Browser) (w : Wanted) : Type 0 where
  pub folder : w.folder ≡ b.folder
  pub name : w.name ≡ sought_text b
  pub other : w.other ≡ b.selected

-- the folder that is selected is wanted, with its first entry selected
pub record WantsSelected (b : Browser) (w : Wanted) : Type 0 where
  pub folder : named_path b (selected_text b) ≡ Some w.folder
  pub name : w.name ≡ []
  pub other : w.other ≡ 0

-- the folder is wanted above which nothing is reached, with its first entry selected
pub record WantsBase (b : Browser) (w : Wanted) : Type 0 where
  pub folder : w.folder ≡ b.base
  pub name : w.name ≡ []
  pub other : w.other ≡ 0

-- the folder is wanted to which the typed path leads, with its first entry selected
pub record WantsTyped (b : Browser) (w : Wanted) : Type 0 where
  pub folder : way_of b (field_text b.typed) ≡ Some w.folder
  pub name : w.name ≡ []
  pub other : w.other ≡ 0

-- the folder is wanted in which that is to which the typed path leads, with this selected
pub record WantsLocated (b : Browser) (w : Wanted) : Type 0 where
  pub path : List ℕ
  pub leads : way_of b (field_text b.typed) ≡ Some path
  pub inside : is_inside b.base path ≡ true
  pub above : IsAbove path w

-- the folder that is asked for: the one that is shown, the one that is selected, the one above, the one that
-- all is in, or one to which the typed path leads
abbrev pub Lists : Mode → Browser → Wanted → Type 0
Lists Listing b w = WantsShown b w
Lists Entering b w = WantsSelected b w
Lists Leaving b w = IsAbove b.folder w
Lists Returning b w = WantsBase b w
Lists Visiting b w = WantsTyped b w
Lists Locating b w = WantsLocated b w
Lists _ b w = ⊥

-- a folder was listed with this answer: it is told in order, or why it wasn't
pub record TellsRows (order : Order) (hidden : Bool) (w : Wanted) (entries : List Info) (count : ℕ)
    (l : ListingData) : Type 0 where
  pub folder : l.folder ≡ w.folder
  pub unnamed : l.unnamed ≡ count
  pub rows : IsListOf order hidden entries l.rows
  pub place : IsPlaceOf w.name w.other l.rows l.place

abbrev pub TellsListing : Order → Bool → Wanted → Answer → Outcome → Type 0
TellsListing order hidden w (answer.Listed entries unnamed) (outcome.Listed l) = TellsRows order hidden w entries unnamed l
TellsListing order hidden w (answer.Failed why) o = o ≡ outcome.Failed why
TellsListing order hidden w a o = o ≡ outcome.Failed failure.Other

-- a folder was listed with this answer: it is told how the typed path goes on, or why nobody knows
abbrev pub TellsCompletion : Browser → Answer → Outcome → Type 0
TellsCompletion b (answer.Listed entries unnamed) o =
    o ≡ outcome.Completed (completion b.has_hidden (last_part (field_text b.typed)) entries)
TellsCompletion b (answer.Failed why) o = o ≡ outcome.Failed why
TellsCompletion b a o = o ≡ outcome.Failed failure.Other

-- a folder was listed with this answer: it is told how many entries it has, or why nobody knows
abbrev pub TellsCount : Answer → Outcome → Type 0
TellsCount (answer.Listed entries unnamed) o = o ≡ outcome.Counted (entry_count entries unnamed)
TellsCount (answer.Failed why) o = o ≡ outcome.Failed why
TellsCount a o = o ≡ outcome.Failed failure.Other

module _ {P : Type 0} (does : P → Command → Answer → P → Type 0) where
  -- a change was done, this one and no other, and what came of it is told; or nothing was done
  pub record Touches (command : Command) (files : P) (o : Outcome) (files' : P) : Type 0 where
    pub answer : Answer
    pub done : does files command answer files'
    pub tells : o ≡ told_of answer

  abbrev pub Changed : Option Command → P → Outcome → P → Type 0
  Changed None files o files' = DoesNothing files o files'
  Changed (Some command) files o files' = DoesNothing files o files' ⊎ Touches command files o files'

  -- a folder that is asked for was listed, and what it holds is told; or memory was refused for that
  pub record Looks (b : Browser) (files : P) (o : Outcome) (files' : P) : Type 0 where
    pub wanted : Wanted
    pub asked : Lists b.mode b wanted
    pub answer : Answer
    pub done : does files (ListFolder wanted.folder) answer files'
    pub tells : TellsListing b.order b.has_hidden wanted answer o ⊎ (o ≡ outcome.Failed failure.Memory)

  abbrev pub Listed : Browser → P → Outcome → P → Type 0
  Listed b files o files' = DoesNothing files o files' ⊎ Looks b files o files'

  -- the folder was listed to which the folder part of the typed path leads, and how that goes on is told; or
  -- memory was refused for that
  pub record LooksOn (b : Browser) (files : P) (o : Outcome) (files' : P) : Type 0 where
    pub folder : List ℕ
    pub leads : way_of b (folder_part (field_text b.typed)) ≡ Some folder
    pub answer : Answer
    pub done : does files (ListFolder folder) answer files'
    pub tells : TellsCompletion b answer o ⊎ (o ≡ outcome.Failed failure.Memory)

  abbrev pub Completed : Browser → P → Outcome → P → Type 0
  Completed b files o files' = DoesNothing files o files' ⊎ LooksOn b files o files'

  -- the folder that is selected was listed, and how many entries it has is told
  pub record LooksInto (b : Browser) (files : P) (o : Outcome) (files' : P) : Type 0 where
    pub folder : List ℕ
    pub is : named_path b (selected_text b) ≡ Some folder
    pub answer : Answer
    pub done : does files (ListFolder folder) answer files'
    pub tells : TellsCount answer o

  abbrev pub Counted : Browser → P → Outcome → P → Type 0
  Counted b files o files' = DoesNothing files o files' ⊎ LooksInto b files o files'

  abbrev pub DoesIn : Mode → Browser → P → Outcome → P → Type 0
  DoesIn Listing b files o files' = Listed b files o files'
  DoesIn Entering b files o files' = Listed b files o files'
  DoesIn Leaving b files o files' = Listed b files o files'
  DoesIn Returning b files o files' = Listed b files o files'
  DoesIn Visiting b files o files' = Listed b files o files'
  DoesIn Locating b files o files' = Listed b files o files'
  DoesIn Completing b files o files' = Completed b files o files'
  DoesIn CountingToTrash b files o files' = Counted b files o files'
  DoesIn CountingToRemove b files o files' = Counted b files o files'
  DoesIn Looking b files o files' = Looked does b files o files'
  DoesIn Trashing b files o files' = Discarded does (discard_in b) files o files'
  DoesIn mode b files o files' = Changed (change_in mode b) files o files'

  -- what a browser asks for was done
  abbrev pub DoesAsked : Browser → P → Outcome → P → Type 0
  DoesAsked b = DoesIn b.mode b
