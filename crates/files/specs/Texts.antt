-- The texts that stand in the rows.
use Rattle.std.specs.Prelude.{ℕ, Bool, true, false, ◌+◌, ◌-◌, ◌==◌, ◌^◌, min, nat_lt, nat_le, if◌then◌else◌}
use Rattle.std.specs.Prelude.{List, [], ◌++◌, length, codes, Option, Some, None, is_some, slice_get}
use Rattle.std.specs.Prelude.{string_bytes}
use Rattle.std.specs.{Option.option_map_or, Option.option_and_then, Option.unwrap_or}
use Rattle.std.specs.{Fmt.decimal, List.repeat}
use Rattle.std.specs.{Str.byte, Path.rsplit_once}
use Rattle.ratatui_core.specs.Buffer.{text_columns}
use Rattle.text_field.specs.Field.{FieldData, field_text}
use Rattle.ratatui_files.specs.declared.answer.Failure.{Failure}
use Rattle.ratatui_files.specs.declared.answer.Failure.TheVariants as failure
use Rattle.files.specs.declared.list.Row.{Row}
use Rattle.files.specs.declared.browser.Browser.{Browser}
use Rattle.files.specs.declared.browser.Mode.{Mode}
use Rattle.files.specs.declared.browser.Mode.TheVariants.{Entering, Leaving, Trashing, Removing, Renaming, Making}
use Rattle.files.specs.declared.browser.Mode.TheVariants.{Pasting, Sorting, Seeking, Returning, Undoing, Helping}
use Rattle.files.specs.declared.browser.Mode.TheVariants.{Going, Visiting, Locating, Completing}
use Rattle.files.specs.declared.browser.Mode.TheVariants.{CountingToTrash, CountingToRemove}
use Rattle.files.specs.declared.browser.Note.{Note}
use Rattle.files.specs.declared.browser.Note.TheVariants.{Place, Failed, Narrow, NoTrash, Missing}
use Rattle.files.specs.declared.browser.Note.TheVariants.{Noted as TellsNoted, NothingNoted, NothingMoved}
use Rattle.files.specs.declared.browser.Note.TheVariants.{Outside, NothingAbove}
use Rattle.files.specs.declared.notes.Noted.{Noted}
use Rattle.files.specs.declared.undo.Moved.{Moved}
use Rattle.files.specs.Help.{keys_row}
use Rattle.files.specs.declared.order.Order.{Order}
use Rattle.files.specs.declared.order.SortBy.{SortBy}
use Rattle.files.specs.declared.order.SortBy.TheVariants.{Name, Size, Date}
use Rattle.ratatui_files.specs.Paths.{after_start}
use Rattle.files.specs.Names.{shown_name}
use Rattle.files.specs.Marks.{mark_lead}
use Rattle.files.specs.Details.{date_shown, details_told}
use Rattle.files.specs.Counting.{count_told}

-- ---- the list

-- what an entry is: a slash for a folder, and an at sign for a link
abbrev pub kind_mark : Bool → Bool → List ℕ
kind_mark false link = codes "/"
kind_mark true true = codes "@"
kind_mark true false = []

abbrev pub shown_row : Row → List ℕ
shown_row row = shown_name (string_bytes row.name) ++ kind_mark row.is_leaf row.is_link

-- the size of a file, in bytes
abbrev pub file_size_text : Option ℕ → List ℕ
file_size_text (Some size) = decimal size
file_size_text None = []

-- a text after so many blanks that it ends in the last column; nothing if there is no room
abbrev pub text_beside : ℕ → List ℕ → List ℕ → List ℕ
text_beside width text beside =
    let gap = width - (text_columns text + length beside) in
    if gap == 0 then [] else repeat gap (codes " ") ++ beside

-- what stands before it, and the entry
abbrev pub led_row : List ℕ → Row → List ℕ
led_row lead row = lead ++ shown_row row

-- rows of 48 columns and more have dates in the last 16, and two blanks before them
abbrev pub has_dates : ℕ → Bool
has_dates width = nat_le 48 width

abbrev pub size_end : ℕ → ℕ
size_end width = if has_dates width then width - 18 else width

abbrev pub sized_row : ℕ → List ℕ → Row → List ℕ
sized_row width lead row =
    led_row lead row ++ text_beside (size_end width) (led_row lead row) (file_size_text row.size)

abbrev pub row_date : ℕ → Row → List ℕ
row_date width row = if has_dates width then date_shown row.date else []

abbrev pub row_told : ℕ → List ℕ → Row → List ℕ
row_told width lead row =
    sized_row width lead row ++ text_beside width (sized_row width lead row) (row_date width row)

-- an entry in a row, if there is one
abbrev pub entry_at : ℕ → ℕ → Browser → List ℕ
entry_at width place b = option_map_or (λ row. row_told width (mark_lead b row) row) (slice_get b.list place) []

-- ---- the title

-- what follows a beginning of a text, or the text if it begins otherwise
abbrev pub without_start : List ℕ → List ℕ → List ℕ
without_start start text = option_map_or (λ rest. rest) (after_start start text) text

-- the folder that is shown, as it is called in the one above which nothing is reached
abbrev pub inner_text : Browser → List ℕ
inner_text b = without_start (codes "/") (without_start b.base b.folder)

-- where the folder is
abbrev pub title_text : Browser → List ℕ
title_text b = shown_name b.title ++ codes "/" ++ shown_name (inner_text b)

-- ---- the status

-- the entry that is selected: its name, and how it is shown
abbrev pub selected_text : Browser → List ℕ
selected_text b = option_map_or (λ row. string_bytes row.name) (slice_get b.list b.selected) []

-- a slash at the end of what is typed says that it is the name of a folder, which stands before it
abbrev pub front_if_last : List ℕ × List ℕ → Option (List ℕ)
front_if_last parts = if length parts.1 == 0 then Some parts.0 else None

abbrev pub folder_typed : List ℕ → Option (List ℕ)
folder_typed text = option_and_then front_if_last (rsplit_once (byte "/") text)

abbrev pub name_typed : List ℕ → List ℕ
name_typed text = unwrap_or (folder_typed text) text

-- the name that is to be selected once the folder is listed anew: the typed one, or the one that is selected
abbrev pub sought_text : Browser → List ℕ
sought_text b = if b.seeks_typed then name_typed (field_text b.typed) else selected_text b

abbrev pub selected_shown : Browser → List ℕ
selected_shown b = option_map_or shown_row (slice_get b.list b.selected) []

-- how many more entries there are, whose names are no texts
abbrev pub unnamed_text : ℕ → List ℕ
unnamed_text n = if nat_lt 0 n then codes ", and " ++ decimal n ++ codes " whose names are no texts" else []

-- what entries are sorted by, if not by their names
abbrev pub sort_told : SortBy → Bool → List ℕ
sort_told Name false = []
sort_told Name true = codes ", the last name first"
sort_told Size false = codes ", the least size first"
sort_told Size true = codes ", the largest size first"
sort_told Date false = codes ", the first date first"
sort_told Date true = codes ", the last date first"

abbrev pub order_told : Order → List ℕ
order_told order = sort_told order.by order.is_reversed

-- how many entries are marked
abbrev pub marked_text : ℕ → List ℕ
marked_text n = if nat_lt 0 n then codes ", " ++ decimal n ++ codes " marked" else []

-- what is told of the entry that is selected
abbrev pub selected_details : Browser → List ℕ
selected_details b = option_map_or details_told (slice_get b.list b.selected) []

-- how many entries have names that are no texts, the order, how many are marked, and what is told of the
-- selected one
abbrev pub place_notes : Browser → List ℕ
place_notes b =
    unnamed_text b.unnamed ++ order_told b.order ++ marked_text (length b.marks) ++ selected_details b

-- which entry is selected, of how many, as `3/120`, and that
abbrev pub place_told : Browser → List ℕ
place_told b =
    decimal (min (b.selected + 1) (length b.list)) ++ codes "/" ++ decimal (length b.list) ++ place_notes b

-- why something wasn't done
abbrev pub failure_text : Failure → List ℕ
failure_text failure.NotFound = codes "not found"
failure_text failure.NotAllowed = codes "not allowed"
failure_text failure.Exists = codes "it exists already"
failure_text failure.Full = codes "no room is left"
failure_text failure.NotEmpty = codes "the folder isn't empty"
failure_text failure.NotAFolder = codes "not a folder"
failure_text failure.IsAFolder = codes "a folder"
failure_text failure.NotAFile = codes "not a file"
failure_text failure.IntoItself = codes "it would lie in itself"
failure_text failure.OtherDevice = codes "on another device"
failure_text failure.BadName = codes "not a name"
failure_text failure.Memory = codes "no memory"
failure_text failure.Other = codes "the system refused"

-- where it is that is noted, from the folder on that all is in
abbrev pub noted_shown : Option Noted → List ℕ
noted_shown (Some noted) = codes "/" ++ shown_name noted.path
noted_shown None = []

-- what is done to it
abbrev pub verb_if : Bool → List ℕ
verb_if true = codes "move"
verb_if false = codes "copy"

abbrev pub paste_verb : Option Noted → List ℕ
paste_verb noted = verb_if (option_map_or (λ it. it.is_moved) noted false)

-- how many more are noted
abbrev pub more_text : ℕ → List ℕ
more_text n = if nat_lt 0 n then codes " and " ++ decimal n ++ codes " more" else []

-- what is noted, and how it comes to another folder
abbrev pub paste_note_told : Browser → List ℕ
paste_note_told b =
    codes "p will " ++ paste_verb b.noted ++ codes " \"" ++ noted_shown b.noted ++ codes "\"" ++ more_text (length b.more)
    ++ codes " here"

-- no name has what is sought
abbrev pub missing_told : Browser → List ℕ
missing_told b = codes "\"" ++ shown_name b.sought ++ codes "\" is in no name"

-- where a typed path leads nothing is reached
abbrev pub outside_told : Browser → List ℕ
outside_told b = codes "\"" ++ shown_name (field_text b.typed) ++ codes "\" isn't in the folder that all is in"

-- what stands before the name under which what is noted comes here
abbrev pub paste_prompt : Browser → List ℕ
paste_prompt b = paste_verb b.noted ++ codes " \"" ++ noted_shown b.noted ++ codes "\" to \""

-- where something is, from the folder on that all is in
abbrev pub place_shown : List ℕ → List ℕ
place_shown path = codes "/" ++ shown_name path

-- where it is that was renamed or moved last, and where it was
abbrev pub now_shown : Option Moved → List ℕ
now_shown (Some moved) = place_shown moved.to
now_shown None = []

abbrev pub was_shown : Option Moved → List ℕ
was_shown (Some moved) = place_shown moved.from
was_shown None = []

-- what it was that wasn't done
abbrev pub subject : Mode → Browser → List ℕ
subject Entering b = selected_shown b
subject Trashing b = selected_shown b
subject Removing b = selected_shown b
subject Renaming b = selected_shown b
subject CountingToTrash b = selected_shown b
subject CountingToRemove b = selected_shown b
subject Making b = shown_name (field_text b.typed)
subject Pasting b = noted_shown b.noted
subject Undoing b = now_shown b.last_move
subject Leaving b = codes "the folder above"
subject Returning b = codes "the folder that all is in"
subject Visiting b = shown_name (field_text b.typed)
subject Locating b = shown_name (field_text b.typed)
subject _ b = codes "this folder"

-- what is told while an entry is selected
abbrev pub note_told : Note → Browser → List ℕ
note_told Place b = place_told b
note_told (Failed mode failure) b = subject mode b ++ codes ": " ++ failure_text failure
note_told Narrow b = codes "the screen is too narrow for the question"
note_told NoTrash b = codes "there is no trash: X removes for good"
note_told Missing b = missing_told b
note_told TellsNoted b = paste_note_told b
note_told NothingNoted b = codes "nothing is noted: y takes a file, d a file or a folder"
note_told NothingMoved b = codes "nothing was renamed or moved"
note_told Outside b = outside_told b
note_told NothingAbove b = codes "can't go above the folder that was opened"

-- a file is made, or a folder if what is typed ends in a slash
abbrev pub make_prompt : FieldData → List ℕ
make_prompt typed =
    if is_some (folder_typed (field_text typed)) then codes "make the folder \"" else codes "make the file \""

-- what stands before a name or a path, with that in the field
abbrev pub prompt : Mode → FieldData → Browser → List ℕ
prompt Renaming typed b = codes "rename \"" ++ selected_shown b ++ codes "\" to \""
prompt Pasting typed b = paste_prompt b
prompt Seeking typed b = codes "/"
prompt Going typed b = codes ":"
prompt _ typed b = make_prompt typed

-- where the trash is, from the folder on that all is in
abbrev pub trash_shown : Option (List ℕ) → List ℕ
trash_shown (Some trash) = codes "/" ++ shown_name trash
trash_shown None = []

-- a question with a name that is typed, and the questions whether an entry is to be put into the trash, or
-- removed
abbrev pub name_question : Mode → Browser → List ℕ
name_question mode b = prompt mode b.typed b ++ shown_name (field_text b.typed) ++ codes "\""

abbrev pub trash_question : Browser → List ℕ
trash_question b =
    codes "move \"" ++ selected_shown b ++ codes "\"" ++ count_told b ++ codes " to \"" ++ trash_shown b.trash
    ++ codes "\"? y/n"

abbrev pub removal_question : Browser → List ℕ
removal_question b =
    codes "remove \"" ++ selected_shown b ++ codes "\"" ++ count_told b ++ codes " for good? y/n"

abbrev pub undo_question : Browser → List ℕ
undo_question b =
    codes "move \"" ++ now_shown b.last_move ++ codes "\" back to \"" ++ was_shown b.last_move ++ codes "\"? y/n"

-- a path that is typed
abbrev pub typed_path_told : Browser → List ℕ
typed_path_told b = prompt Going b.typed b ++ shown_name (field_text b.typed)

-- what the last row tells
abbrev pub status_in : Mode → Browser → List ℕ
status_in Trashing b = trash_question b
status_in Removing b = removal_question b
status_in Undoing b = undo_question b
status_in Helping b = codes "any key goes on, or back"
status_in Renaming b = name_question Renaming b
status_in Making b = name_question Making b
status_in Pasting b = name_question Pasting b
status_in Seeking b = prompt Seeking b.typed b ++ shown_name (field_text b.typed)
status_in Going b = typed_path_told b
status_in Visiting b = typed_path_told b
status_in Locating b = typed_path_told b
status_in Completing b = typed_path_told b
status_in Sorting b = codes "sort by n name, s size, d date; N S D the other way round"
status_in _ b = note_told b.note b

abbrev pub status_told : Browser → List ℕ
status_told b = status_in b.mode b

-- so many columns of the status stand before the cursor, with a name in the field
abbrev pub column_in : Mode → FieldData → Browser → ℕ
column_in mode typed b = text_columns (prompt mode typed b ++ shown_name typed.before)

-- so many columns show all that the last row tells
abbrev pub fits : ℕ → Browser → Bool
fits width b = nat_le (text_columns (status_told b)) width

-- ---- the rows

-- the place of what stands in a row of the list, whose first row has this one; so many as a number has no
-- more are nowhere
abbrev pub row_place : ℕ → ℕ → ℕ
row_place first k = min (first + k) (2 ^ 64 - 1) - 1

-- the place of the entry in a row
abbrev pub place_in_row : ℕ → Browser → ℕ
place_in_row k b = row_place b.top k

-- what stands between the title and the status: an entry, or a row of the list of the keys
abbrev pub body_in : Mode → ℕ → ℕ → Browser → List ℕ
body_in Helping width k b = keys_row (row_place b.helped k)
body_in _ width k b = entry_at width (place_in_row k b) b

-- what stands in a row, of as many as there are: the status in the last one, the title in the first one, and
-- entries between them, or the list of the keys
abbrev pub text_in : ℕ → ℕ → ℕ → Browser → List ℕ
text_in k width height b =
    if k == height - 1 then status_told b
    else if k == 0 then title_text b
    else body_in b.mode width k b
