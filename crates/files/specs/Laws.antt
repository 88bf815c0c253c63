-- What is known of browsers.
use Rattle.std.specs.Prelude.{◌≡◌, ◌⊎◌, false, ◌+◌, ◌<◌, ◌≤◌, ℕ, Bool, true, List, take, Option, Some, ◌++◌, codes, string_bytes}
use Rattle.text_field.specs.Field.{field_text}
use Rattle.ratatui_files.specs.Paths.{path_in, is_inside}
use Rattle.ratatui_files.specs.declared.command.Command.{Command}
use Rattle.ratatui_files.specs.declared.command.Command.TheVariants.{Read, List as ListFolder}
use Rattle.ratatui_acts.specs.Turns.{ActingRules}
use Rattle.files.specs.declared.list.Row.{Row}
use Rattle.files.specs.declared.list.Outcome.{Outcome}
use Rattle.files.specs.declared.trash.Discard.{Discard}
use Rattle.files.specs.declared.glance.Side.{Side}
use Rattle.files.specs.declared.glance.Side.TheVariants.{Above, Ahead}
use Rattle.files.specs.declared.glance.Glance.{Glance}
use Rattle.files.specs.declared.browser.Browser.{Browser}
use Rattle.files.specs.declared.browser.Mode.{Mode}
use Rattle.files.specs.declared.browser.Mode.TheVariants.{Listing, Trashing, Removing, Renaming, Making, Pasting, Undoing}
use Rattle.files.specs.Moves.{last_row_place, list_rows, acts, browsed_after, browser_asked, is_over}
use Rattle.files.specs.Names.{shown_name}
use Rattle.files.specs.Sorting.{IsPlaceOf}
use Rattle.files.specs.Ways.{way_of}
use Rattle.files.specs.Counting.{asked_mode, row_count_told, selects_folder, entry_count}
use Rattle.files.specs.Questions.{named_path}
use Rattle.files.specs.declared.list.Outcome.TheVariants as outcome
use Rattle.files.specs.declared.browser.Mode.TheVariants.{CountingToTrash, CountingToRemove}
use Rattle.ratatui_acts.specs.declared.message.Message.{Message}
use Rattle.ratatui_acts.specs.declared.message.Message.TheVariants as message
use Rattle.ratatui_files.specs.declared.answer.Answer.{Answer}
use Rattle.ratatui_files.specs.declared.answer.Answer.TheVariants as answer
use Rattle.ratatui_files.specs.declared.answer.Info.{Info}
use Rattle.files.specs.declared.list.Listing.{Listing as ListingData}
use Rattle.files.specs.Texts.{shown_row, selected_text, status_told, fits, name_typed}

-- the selection is an entry of the list, unless that is empty, and stands in one of its rows, if there are some
pub record IsPlaced (b : Browser) : Type 0 where
  pub within : b.selected ≤ last_row_place b
  pub above : b.top ≤ b.selected
  pub below : 0 < list_rows b → b.selected < b.top + list_rows b

-- the folder and its list are the same
pub record ListsSame (b c : Browser) : Type 0 where
  pub folder : c.folder ≡ b.folder
  pub list : c.list ≡ b.list
  pub unnamed : c.unnamed ≡ b.unnamed

-- the status asks whether the entry of a path is to be removed for good, and tells of a folder how many
-- entries it has
pub record AsksToRemove (b : Browser) (path : List ℕ) : Type 0 where
  pub row : Row
  pub path_is : path ≡ path_in b.folder (string_bytes row.name)
  pub asks : status_told b
      ≡ codes "remove \"" ++ shown_row row ++ codes "\"" ++ row_count_told row b.count
      ++ codes " for good? y/n"

-- the status asks whether an entry is to be moved to the trash, names both, and tells of a folder how many
-- entries it has
pub record AsksToTrash (b : Browser) (d : Discard) : Type 0 where
  pub row : Row
  pub from_is : d.from ≡ path_in b.folder (string_bytes row.name)
  pub asks : status_told b
      ≡ codes "move \"" ++ shown_row row ++ codes "\"" ++ row_count_told row b.count ++ codes " to \""
      ++ (codes "/" ++ shown_name d.trash) ++ codes "\"? y/n"

-- the status asks for another name of the entry of a path: that of another path
pub record AsksToRename (b : Browser) (from to : List ℕ) : Type 0 where
  pub row : Row
  pub name : List ℕ
  pub from_is : from ≡ path_in b.folder (string_bytes row.name)
  pub to_is : to ≡ path_in b.folder name
  pub asks : status_told b ≡ (codes "rename \"" ++ shown_row row ++ codes "\" to \"") ++ shown_name name ++ codes "\""

-- the status asks for the name of what is to be made at a path: what is typed, and of a folder what stands
-- before the slash at its end
pub record AsksToMake (beginning : List ℕ) (b : Browser) (path : List ℕ) : Type 0 where
  pub path_is : path ≡ path_in b.folder (name_typed (field_text b.typed))
  pub asks : status_told b ≡ beginning ++ shown_name (field_text b.typed) ++ codes "\""

-- the status asks whether what is at a path is to be copied, or moved, to another one
pub record AsksToPaste (verb : List ℕ) (b : Browser) (from to : List ℕ) : Type 0 where
  pub name : List ℕ
  pub to_is : to ≡ path_in b.folder name
  pub asks : status_told b
      ≡ (verb ++ codes " \"" ++ (codes "/" ++ shown_name from) ++ codes "\" to \"") ++ shown_name name ++ codes "\""

-- the status asks whether what is at a path is to get its old place back, and names both, whole
pub record AsksToUndo (b : Browser) (from to : List ℕ) : Type 0 where
  pub asks : status_told b
      ≡ codes "move \"" ++ (codes "/" ++ shown_name from) ++ codes "\" back to \"" ++ (codes "/" ++ shown_name to)
      ++ codes "\"? y/n"

-- an entry is selected, by its name, and this is asked about it; but a folder is counted first
pub record AsksAbout (question : Mode) (name : List ℕ) (b : Browser) : Type 0 where
  pub mode : b.mode ≡ asked_mode question b
  pub entry : selected_text b ≡ name

-- the folder is listed anew, and then this is asked about an entry that is selected, by its name
pub record WillAskAbout (question : Mode) (name : List ℕ) (b : Browser) : Type 0 where
  pub mode : b.mode ≡ Listing
  pub entry : selected_text b ≡ name
  pub follows : b.follows ≡ question

-- nothing is sure, or a question is that the screen shows whole
abbrev pub IsSound : Browser → Type 0
IsSound b = (b.is_sure ≡ false) ⊎ ((acts b ≡ true) × (fits b.size.width b ≡ true))

-- browsing, as a state that acts
abbrev pub browsing : ActingRules Browser Browser Outcome
browsing = record {
  updated = browsed_after;
  asked = browser_asked;
  is_over = is_over;
  is_light = λ _ _. ⊥;
}

-- a question is asked that changes something
abbrev pub is_change : Mode → Bool
is_change Trashing = true
is_change Removing = true
is_change Renaming = true
is_change Making = true
is_change Pasting = true
is_change Undoing = true
is_change _ = false

-- a command that only reads: a folder's entries, or the first 65536 bytes of a file
abbrev pub IsLook : Command → Type 0
IsLook (Read path start most) = (start ≡ 0) × (most ≡ 65536)
IsLook (ListFolder path) = Unit {0}
IsLook _ = ⊥

-- what was seen last on a side
abbrev pub seen_last : Side → Browser → Option Glance
seen_last Above b = b.glances.above
seen_last Ahead b = b.glances.ahead

-- ---- typed paths

-- a path is a folder's, or leads into it
abbrev pub IsWithin : List ℕ → List ℕ → Type 0
IsWithin folder path = (path ≡ folder) ⊎ (is_inside folder path ≡ true)

-- the typed path leads to a name in the folder that is shown then, and that is selected, or else the first
-- entry
pub record LeadsToEntry (b : Browser) (l : ListingData) (c : Browser) : Type 0 where
  pub name : List ℕ
  pub leads : way_of b (field_text b.typed) ≡ Some (path_in c.folder name)
  pub place : IsPlaceOf name 0 l.rows l.place

-- a text is the beginning of another one
pub record IsFront (front text : List ℕ) : Type 0 where
  pub count : ℕ
  pub is : front ≡ take count text

-- ---- folders that are counted

-- it is asked whether an entry is to be removed, or put into the trash
abbrev pub is_removal : Mode → Bool
is_removal Trashing = true
is_removal Removing = true
is_removal _ = false

-- a folder is counted before that is asked about it
abbrev pub is_counting : Mode → Bool
is_counting CountingToTrash = true
is_counting CountingToRemove = true
is_counting _ = false

-- that is asked about a folder
pub record AsksOfFolder (b : Browser) : Type 0 where
  pub removal : is_removal b.mode ≡ true
  pub folder : selects_folder b ≡ true

-- the same entry is selected in the same folder
pub record SelectsSame (b c : Browser) : Type 0 where
  pub folder : c.folder ≡ b.folder
  pub list : c.list ≡ b.list
  pub selected : c.selected ≡ b.selected

-- the same was asked about the same entry before, with the same number
pub record AskedBefore (b c : Browser) : Type 0 where
  pub mode : c.mode ≡ b.mode
  pub entry : SelectsSame b c
  pub count : c.count ≡ b.count

-- it was just answered how many entries there are, as was asked about the same entry
pub record JustCounted (b : Browser) (m : Message Outcome) (c : Browser) : Type 0 where
  pub counting : is_counting b.mode ≡ true
  pub entry : SelectsSame b c
  pub count : m ≡ message.Answer (outcome.Counted c.count)

-- just the folder that is selected was listed, and so many entries were answered
pub record WasListed {P : Type 0} (does : P → Command → Answer → P → Type 0) (b : Browser) (files : P) (n : ℕ)
    (files' : P) : Type 0 where
  pub folder : List ℕ
  pub is : named_path b (selected_text b) ≡ Some folder
  pub entries : List Info
  pub unnamed : ℕ
  pub done : does files (ListFolder folder) (answer.Listed entries unnamed) files'
  pub count : n ≡ entry_count entries unnamed
