-- What is put into the trash, under which name, and what is written of it.
use Rattle.std.specs.Prelude.{◌≡◌, ◌≤◌, ◌<◌, ◌⊎◌, ◌==◌, ◌&&◌, ℕ, Bool, true, false, not, if◌then◌else◌}
use Rattle.std.specs.Prelude.{List, ◌++◌, codes, Option, Some, None, pos}
use Rattle.std.specs.{Option.option_and_then, Fmt.decimal, Str.bytes_eq, List.list_any}
use Rattle.percent_encoding.specs.Percent.{percent_encode}
use Rattle.std.specs.Duration.{as_nanos}
use Rattle.jiff_core.specs.DateTime.{civil_nanos}
use Rattle.jiff_core.specs.declared.civil.datetime.DateTime.{DateTime}
use Rattle.ratatui_files.specs.Paths.{is_name, path_in}
use Rattle.ratatui_files.specs.declared.answer.Info.{Info}
use Rattle.ratatui_files.specs.declared.command.Command.{Command}
use Rattle.ratatui_files.specs.declared.command.Command.TheVariants.{Write, Rename, Remove, MakeFolder}
use Rattle.files.specs.declared.browser.Browser.{Browser}
use Rattle.files.specs.declared.trash.Discard.{Discard}
use Rattle.files.specs.declared.trash.Seen.{Seen}
use Rattle.files.specs.declared.trash.Plan.{Plan}
use Rattle.files.specs.declared.trash.TheConstants.{KEPT}
use Rattle.files.specs.Texts.{selected_text}
use Rattle.files.specs.Dates.{date_time_text}

-- ---- what is put there

-- an entry of the folder that is shown; the trash has a folder of what was put there, and one of what is written
-- of it
abbrev pub discard_of : Browser → List ℕ → List ℕ → Discard
discard_of b name trash = record {
  from = path_in b.folder name;
  name = name;
  trash = trash;
  files = path_in trash (codes "files");
  info = path_in trash (codes "info");
}

abbrev pub discard_to : Browser → List ℕ → Option Discard
discard_to b trash = if is_name (selected_text b) then Some (discard_of b (selected_text b) trash) else None

-- the entry that is selected, if there is one, and a trash
abbrev pub discard_in : Browser → Option Discard
discard_in b = option_and_then (discard_to b) b.trash

-- ---- names in the trash

-- its own name, or one with a number after it
abbrev pub numbered : ℕ → List ℕ → List ℕ
numbered n name = if n == 1 then name else name ++ codes "." ++ decimal n

-- the name of what is written of it
abbrev pub info_name : ℕ → List ℕ → List ℕ
info_name n name = numbered n name ++ codes ".trashinfo"

abbrev pub has_name : List ℕ → List Info → Bool
has_name name entries = list_any (λ e. bytes_eq e.name name) entries

-- neither folder has the name
abbrev pub is_free : List ℕ → Seen → ℕ → Bool
is_free name seen n =
    not (has_name (numbered n name) seen.files) && not (has_name (info_name n name) seen.info)

-- the least number with which a name is free
pub record IsLeastFree (name : List ℕ) (seen : Seen) (n : ℕ) : Type 0 where
  pub some : 1 ≤ n
  pub free : is_free name seen n ≡ true
  pub least : (k : ℕ) → k < n → 1 ≤ k → is_free name seen k ≡ false

-- ---- what is written

-- where it was, and when it was put into the trash
abbrev pub place_line : List ℕ → List ℕ
place_line from = codes "[Trash Info]\nPath=/" ++ percent_encode KEPT from

abbrev pub date_line : DateTime → List ℕ
date_line date = codes "\nDeletionDate=" ++ date_time_text date ++ codes "\n"

abbrev pub info_text : List ℕ → DateTime → List ℕ
info_text from date = place_line from ++ date_line date

-- ---- the steps

-- what is written, the move, and what takes back the first if the second fails
abbrev pub discard_plan : Discard → ℕ → DateTime → Plan
discard_plan d n date =
    let info = path_in d.info (info_name n d.name) in
    record {
      write = Write info (info_text d.from date);
      put = Rename d.from (path_in d.files (numbered n d.name));
      undo = Remove info;
    }

-- the trash itself, and its folders
abbrev pub IsTrashFolder : Discard → List ℕ → Type 0
IsTrashFolder d path = (path ≡ d.trash) ⊎ (path ≡ d.files) ⊎ (path ≡ d.info)

-- a step of a plan
abbrev pub IsPlanStep : Plan → Command → Type 0
IsPlanStep plan command = (command ≡ plan.write) ⊎ (command ≡ plan.put) ⊎ (command ≡ plan.undo)

-- a step by which an entry comes into the trash: a folder of the trash is made; or it is one of a plan, whatever the
-- number and the date
abbrev pub IsStep : Discard → Command → Type 0
IsStep d (MakeFolder path) = IsTrashFolder d path
IsStep d command = (n : ℕ) × (date : DateTime) × IsPlanStep (discard_plan d n date) command

-- a plan for something, whatever the number and the date
abbrev pub IsPlanOf : Discard → Plan → Type 0
IsPlanOf d plan = (n : ℕ) × (date : DateTime) × (plan ≡ discard_plan d n date)

-- a plan for something, with the least number with which its name is free, and the date of that time
pub record IsPlanFor (d : Discard) (seen : Seen) (plan : Plan) : Type 0 where
  pub number : ℕ
  pub free : IsLeastFree d.name seen number
  pub date : DateTime
  pub now : civil_nanos date ≡ pos (as_nanos seen.time)
  pub is : plan ≡ discard_plan d number date
