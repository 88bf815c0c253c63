-- Folders are counted before it is asked whether they are to be removed.
use Rattle.std.specs.Prelude.{ℕ, Bool, false, not, ◌+◌, ◌-◌, ◌^◌, ◌==◌, min, if◌then◌else◌, List, [], ◌++◌}
use Rattle.std.specs.Prelude.{length, codes, slice_get}
use Rattle.std.specs.{Option.option_map_or, Fmt.decimal}
use Rattle.ratatui_files.specs.declared.answer.Info.{Info}
use Rattle.files.specs.declared.list.Row.{Row}
use Rattle.files.specs.declared.browser.Browser.{Browser}
use Rattle.files.specs.declared.browser.Mode.{Mode}
use Rattle.files.specs.declared.browser.Mode.TheVariants.{Trashing, Removing}
use Rattle.files.specs.declared.browser.Mode.TheVariants.{CountingToTrash, CountingToRemove}

-- a folder is selected
abbrev pub selects_folder : Browser → Bool
selects_folder b = option_map_or (λ row. not row.is_leaf) (slice_get b.list b.selected) false

-- in this mode a folder is counted before that is asked about it
abbrev pub counting_for : Mode → Mode
counting_for Trashing = CountingToTrash
counting_for Removing = CountingToRemove
counting_for mode = mode

-- that is asked about the entry that is selected; but a folder is counted first
abbrev pub asked_mode : Mode → Browser → Mode
asked_mode question b = if selects_folder b then counting_for question else question

abbrev pub asking_about : Mode → Browser → Browser
asking_about question b = record b { mode = asked_mode question b }

-- how many entries a folder has: those of names, and those whose names are no texts
abbrev pub entry_count : List Info → ℕ → ℕ
entry_count entries unnamed = min (length entries + unnamed) (2 ^ 64 - 1)

-- what questions say of that
abbrev pub entries_told : ℕ → List ℕ
entries_told n = codes " with " ++ decimal n ++ (if n == 1 then codes " entry" else codes " entries")

abbrev pub row_count_told : Row → ℕ → List ℕ
row_count_told row n = if row.is_leaf then [] else entries_told n

abbrev pub count_told : Browser → List ℕ
count_told b = option_map_or (λ row. row_count_told row b.count) (slice_get b.list b.selected) []
