-- What each event and each answer makes of a browser.
use Rattle.std.specs.Prelude.{ℕ, zero, suc, Bool, true, false, not, ◌+◌, ◌-◌, ◌/◌, ◌==◌, ◌&&◌, ◌||◌, min, max, nat_lt}
use Rattle.std.specs.Prelude.{if◌then◌else◌, List, [], length, Option, Some, None, option_map, is_some, slice_get, get_or, string_bytes, nat_le}
use Rattle.std.specs.Prelude.{drop, filter_map, ◌++◌}
use Rattle.std.specs.Str.{byte, bytes_eq}
use Rattle.std.specs.List.{list_any}
use Rattle.std.specs.Option.{option_map_or, option_and_then, option_or, option_to_list}
use Rattle.std.specs.declared.alloc.Global.{Global}
use Rattle.ratatui_core.specs.Layout.{Size}
use Rattle.ratatui_events.specs.declared.event.Event.{Event}
use Rattle.ratatui_reads.specs.Reads.{size_in}
use Rattle.ratatui_acts.specs.declared.message.Message.{Message}
use Rattle.ratatui_acts.specs.declared.message.Message.TheVariants as message
use Rattle.text_field.specs.Field.{FieldData, field_text, new_field, typing, moved_left, moved_right}
use Rattle.text_field.specs.{Reach.reach_left, Reach.reach_right, Keys.edited}
use Rattle.text_field.specs.declared.reach.Reach.TheVariants.{Grapheme, All}
use Rattle.files.specs.declared.browser.Browser.{Browser}
use Rattle.files.specs.declared.browser.Mode.{Mode}
use Rattle.files.specs.declared.browser.Mode.TheVariants.{Looking, Listing, Entering, Leaving, Trashing, Removing}
use Rattle.files.specs.declared.browser.Mode.TheVariants.{Renaming, Making, Pasting, Sorting, Seeking, Over}
use Rattle.files.specs.declared.browser.Mode.TheVariants.{Returning, Undoing, Helping, Chosen}
use Rattle.files.specs.declared.browser.Mode.TheVariants.{Going, Visiting, Locating, Completing}
use Rattle.files.specs.declared.browser.Mode.TheVariants.{CountingToTrash, CountingToRemove}
use Rattle.files.specs.declared.browser.Note.{Note}
use Rattle.files.specs.declared.browser.Note.TheVariants.{Place, Failed, Narrow, NoTrash, Missing}
use Rattle.files.specs.declared.browser.Note.TheVariants.{Noted as TellsNoted, NothingNoted, NothingMoved}
use Rattle.files.specs.declared.browser.Note.TheVariants.{Outside, NothingAbove}
use Rattle.files.specs.declared.notes.Noted.{Noted}
use Rattle.files.specs.declared.order.Order.{Order}
use Rattle.files.specs.declared.order.SortBy.TheVariants.{Name}
use Rattle.files.specs.declared.keys.Wish.{Wish}
use Rattle.files.specs.declared.keys.Wish.TheVariants as wish
use Rattle.files.specs.declared.typing.Typing.{Typing}
use Rattle.files.specs.declared.typing.Typing.TheVariants.{Change, Accept, Cancel, Ignore}
use Rattle.files.specs.declared.list.Row.{Row}
use Rattle.files.specs.declared.list.Listing.{Listing as ListingData}
use Rattle.files.specs.declared.list.Outcome.{Outcome}
use Rattle.files.specs.declared.list.Outcome.TheVariants as outcome
use Rattle.files.specs.Keys.{event_wish, event_typing, event_order, is_tab_key, is_input, says_yes}
use Rattle.files.specs.Finding.{next_named, previous_named}
use Rattle.files.specs.declared.marks.Mark.{Mark}
use Rattle.files.specs.Marks.{is_selected_marked, marks_turned, marks_but, marks_left, first_mark_place}
use Rattle.files.specs.declared.undo.Moved.{Moved}
use Rattle.ratatui_files.specs.declared.command.Command.{Command}
use Rattle.ratatui_files.specs.declared.command.Command.TheVariants.{Rename}
use Rattle.files.specs.Help.{help_rows}
use Rattle.files.specs.Glances.{no_glances, aged, glance_taken, side_wanted}
use Rattle.files.specs.Texts.{selected_text, column_in, fits, place_in_row}
use Rattle.files.specs.Questions.{named_path, change_in}
use Rattle.files.specs.Ways.{way_of}
use Rattle.files.specs.Counting.{asked_mode, asking_about}
use Rattle.ratatui_files.specs.declared.answer.Failure.{Failure}
use Rattle.ratatui_files.specs.declared.answer.Failure.TheVariants as failure

-- a browser that asks for the folder that all is in
abbrev pub new_browser : Global → List ℕ → Size → Browser
new_browser alloc title size = record {
  alloc = alloc;
  size = size;
  title = title;
  base = [];
  trash = None;
  folder = [];
  list = [];
  unnamed = 0;
  has_hidden = false;
  order = record { by = Name; is_reversed = false };
  selected = 0;
  top = 0;
  mode = Listing;
  is_sure = false;
  is_quiet = false;
  seeks_typed = false;
  note = Place;
  sought = [];
  noted = None;
  more = [];
  left = 0;
  marks = [];
  follows = Looking;
  last_move = None;
  count = 0;
  helped = 0;
  typed = new_field;
  column = 0;
  glances = no_glances;
}

-- a folder is shown in its place, above which nothing is reached
abbrev pub within_folder : List ℕ → Browser → Browser
within_folder folder b = record b { folder = folder; base = folder }

-- ---- the selection

-- how many rows the list has, between the title and the status
abbrev pub list_rows : Browser → ℕ
list_rows b = b.size.height - 2

abbrev pub last_row_place : Browser → ℕ
last_row_place b = length b.list - 1

-- the entry that is selected stands in the rows, which move as little as they can
abbrev pub scrolled_list : Browser → Browser
scrolled_list b =
    let first = min b.top (length b.list - list_rows b) in
    record b { top = min (max first (b.selected - (list_rows b - 1))) b.selected }

-- an entry is selected, or the last one
abbrev pub selected_at : ℕ → Browser → Browser
selected_at place b = scrolled_list (record b { selected = min place (last_row_place b) })

abbrev pub selection_moved : Wish → Browser → Browser
selection_moved wish.Down b = selected_at (b.selected + 1) b
selection_moved wish.Up b = selected_at (b.selected - 1) b
selection_moved wish.PageDown b = selected_at (b.selected + list_rows b) b
selection_moved wish.PageUp b = selected_at (b.selected - list_rows b) b
selection_moved wish.HalfDown b = selected_at (b.selected + list_rows b / 2) b
selection_moved wish.HalfUp b = selected_at (b.selected - list_rows b / 2) b
selection_moved wish.WheelDown b = selected_at (b.selected + 3) b
selection_moved wish.WheelUp b = selected_at (b.selected - 3) b
selection_moved wish.ToFirst b = selected_at 0 b
selection_moved wish.ToLast b = selected_at (last_row_place b) b
selection_moved _ b = b

-- the entry that was marked first is selected, if one is marked
abbrev pub first_mark_selected : Browser → Browser
first_mark_selected b = option_map_or (λ place. selected_at place b) (first_mark_place b) b

-- the entry that is selected is marked, or no longer, and the next one is selected
abbrev pub marking : Browser → Browser
marking b = selected_at (b.selected + 1) (record b { marks = marks_turned b })

-- ---- wishes

-- a folder is selected, or a link, which may lead to one
abbrev pub may_enter : Row → Bool
may_enter row = not row.is_leaf || row.is_link

abbrev pub is_folder_selected : Browser → Bool
is_folder_selected b = option_map_or may_enter (slice_get b.list b.selected) false

-- the cursor stands after a dot that isn't the first character
abbrev pub is_after_dot : List ℕ → Bool
is_after_dot before = nat_lt 1 (length before) && (get_or before (length before - 1) 0 == byte ".")

abbrev pub follows_dot : FieldData → Bool
follows_dot f = is_after_dot f.before

-- the cursor before the dot that it comes to first on its way to the left, or at the start
unfoldable pub to_dot : ℕ → FieldData → FieldData
to_dot zero f = f
to_dot (suc n) f =
    let left = moved_left (reach_left Grapheme f.before) f in if follows_dot f then left else to_dot n left

-- the cursor before the extension of a name at whose end it stands; without one it stays
abbrev pub from_start : FieldData → FieldData
from_start f = if length f.before == 0 then moved_right (reach_right All f.after) f else f

abbrev pub at_extension : FieldData → FieldData
at_extension f = from_start (to_dot (length f.before) f)

-- a name, typed, with the cursor before its extension
abbrev pub typing_name : List ℕ → FieldData
typing_name name = at_extension (typing name new_field)

-- a name is typed
abbrev pub typing_in : Mode → FieldData → Browser → Browser
typing_in mode typed b = record b { mode = mode; typed = typed; column = column_in mode typed b }

abbrev pub renaming : Browser → Browser
renaming b = if length b.list == 0 then b else typing_in Renaming (typing_name (selected_text b)) b

abbrev pub entered : Browser → Browser
entered b = if is_folder_selected b then record b { mode = Entering } else b

-- a row of the screen has an entry of the list
abbrev pub is_entry_row : ℕ → Browser → Bool
is_entry_row row b = nat_lt 0 row && nat_le row (list_rows b) && nat_lt (place_in_row row b) (length b.list)

-- the left button is pressed in a row: its entry is selected; if it is selected already, its folder is
-- asked for
abbrev pub clicked : ℕ → Browser → Browser
clicked row b =
    if not (is_entry_row row b) then b
    else if place_in_row row b == b.selected then entered b
    else selected_at (place_in_row row b) b

abbrev pub went : Wish → Browser → Browser
went wish.Enter b = entered b
went (wish.Click row) b = clicked row b
went wish.Base b = if bytes_eq b.folder b.base then b else record b { mode = Returning }
went wish.Hidden b = record b { has_hidden = not b.has_hidden; mode = Listing }
went wish.Sort b = record b { mode = Sorting }
went wish.Remove b = if nat_lt 0 (length b.list) then asking_about Removing (first_mark_selected b) else b
went wish.Unmark b = record b { marks = [] }
went wish.Help b = record b { mode = Helping; helped = 0 }
went wish.Quit b = record b { mode = Over }
went wish.Choose b = record b { mode = Chosen }
went other b = selection_moved other b

-- the folder above is asked for, if it is reached
abbrev pub leaving : Browser → Browser
leaving b = if bytes_eq b.folder b.base then b else record b { mode = Leaving }

abbrev pub leave_note : Browser → Note
leave_note b = if bytes_eq b.folder b.base then NothingAbove else Place

-- the question whether an entry is to be put into the trash, if there is one: the one that was marked first, or
-- else the one that is selected
abbrev pub asking_to_trash : Browser → Browser
asking_to_trash b =
    if is_some b.trash && nat_lt 0 (length b.list) then asking_about Trashing (first_mark_selected b) else b

abbrev pub trash_note : Option (List ℕ) → Note
trash_note (Some trash) = Place
trash_note None = NoTrash

-- the question whether what was renamed or moved last is to get its old place back, if something was
abbrev pub asking_to_undo : Browser → Browser
asking_to_undo b = if is_some b.last_move then record b { mode = Undoing } else b

abbrev pub undo_note : Option Moved → Note
undo_note (Some moved) = Place
undo_note None = NothingMoved

-- ---- searches

-- the next entry whose name has what is sought, and the one before
abbrev pub next_found : Browser → Option ℕ
next_found b = next_named b.sought b.list b.selected

abbrev pub previous_found : Browser → Option ℕ
previous_found b = previous_named b.sought b.list b.selected

-- what was found is selected, if something was
abbrev pub found_selected : Option ℕ → Browser → Browser
found_selected found b = option_map_or (λ place. selected_at place b) found b

abbrev pub found_note : Option ℕ → Note
found_note (Some place) = Place
found_note None = Missing

-- what is typed is sought
abbrev pub seeking_typed : Browser → Browser
seeking_typed b = record b { sought = field_text b.typed; mode = Looking }

abbrev pub typed_sought : Browser → Browser
typed_sought b =
    let found = next_found (seeking_typed b) in
    record (found_selected found (seeking_typed b)) { note = found_note found }

abbrev pub sought_into : Typing → Browser → Browser
sought_into (Change edit) b = typing_in b.mode (edited edit b.typed) b
sought_into Accept b = typed_sought b
sought_into Cancel b = record b { mode = Looking }
sought_into Ignore b = b

-- ---- typed paths

-- a typed path is taken: it is asked for what it leads to, if that isn't outside
abbrev pub going_to : Option (List ℕ) → Browser → Browser
going_to (Some path) b = record b { mode = Visiting }
going_to None b = record b { mode = Looking; note = Outside }

abbrev pub path_into : Typing → Browser → Browser
path_into (Change edit) b = typing_in b.mode (edited edit b.typed) b
path_into Accept b = going_to (way_of b (field_text b.typed)) b
path_into Cancel b = record b { mode = Looking }
path_into Ignore b = b

-- Tab asks how it goes on
abbrev pub gone_by : Event → Browser → Browser
gone_by event b = if is_tab_key event then record b { mode = Completing } else path_into (event_typing event) b

-- what is typed goes on with this, at its end
abbrev pub typed_on : List ℕ → FieldData → FieldData
typed_on rest f = typing rest (moved_right (reach_right All f.after) f)

abbrev pub is_completing : Mode → Bool
is_completing Completing = true
is_completing _ = false

-- an answer to that; when it isn't asked any longer, the answer is dropped
abbrev pub path_completed : List ℕ → Browser → Browser
path_completed rest b = if is_completing b.mode then typing_in Going (typed_on rest b.typed) b else b

-- ---- what is noted

-- an entry, if it has a path and is to be moved, or is no folder
abbrev pub taken_row : Bool → Browser → Row → Option Noted
taken_row is_moved b row =
    if not is_moved && not row.is_leaf then None
    else option_map (λ path. record { path = path; name = string_bytes row.name; is_moved = is_moved })
    (named_path b (string_bytes row.name))

-- the entry that is selected
abbrev pub taken : Bool → Browser → Option Noted
taken is_moved b = option_and_then (taken_row is_moved b) (slice_get b.list b.selected)

-- the entries that are marked, if they can all be
abbrev pub mark_taken : Bool → Browser → Mark → Option Noted
mark_taken is_moved b mark =
    option_map (λ path. record { path = path; name = mark.name; is_moved = is_moved }) (named_path b mark.name)

abbrev pub marks_taken : Bool → Browser → List Noted
marks_taken is_moved b =
    if not is_moved && list_any (λ mark. not mark.is_leaf) b.marks then []
    else filter_map (mark_taken is_moved b) b.marks

-- those that are marked, or else the one that is selected
abbrev pub all_taken : Bool → Browser → List Noted
all_taken is_moved b =
    if length b.marks == 0 then option_to_list (taken is_moved b) else marks_taken is_moved b

-- these are noted, and then none is marked any longer
abbrev pub noting : List Noted → Browser → Browser
noting all b =
    record b { noted = slice_get all 0; more = drop 1 all; marks = if length all == 0 then b.marks else [] }

abbrev pub note_taken : Bool → Browser → Browser
note_taken is_moved b = noting (all_taken is_moved b) b

abbrev pub noted_note : Option Noted → Note
noted_note (Some noted) = TellsNoted
noted_note None = NothingNoted

-- the name is typed under which what is noted comes here; and then as many as there are more
abbrev pub typing_noted : Browser → Browser
typing_noted b = option_map_or (λ noted. typing_in Pasting (typing_name noted.name) b) b.noted b

abbrev pub pasting : Browser → Browser
pasting b = typing_noted (record b { left = length b.more })

abbrev pub paste_note : Option Noted → Note
paste_note (Some noted) = Place
paste_note None = NothingNoted

-- what was moved is noted no longer
abbrev pub noted_unless : Bool → Noted → Option Noted
noted_unless true noted = None
noted_unless false noted = Some noted

-- what is noted once what was noted first is pasted: the others, and what was copied, after them
abbrev pub noted_after : Browser → List Noted
noted_after b = b.more ++ option_to_list (option_and_then (λ it. noted_unless it.is_moved it) b.noted)

-- ---- what is wished

-- what a wish makes of it, without its note
abbrev pub granted : Wish → Browser → Browser
granted wish.Seek b = typing_in Seeking new_field b
granted wish.SeekOn b = found_selected (next_found b) b
granted wish.SeekBack b = found_selected (previous_found b) b
granted wish.Mark b = marking b
granted wish.NoteCopy b = note_taken false b
granted wish.NoteMove b = note_taken true b
granted wish.Paste b = pasting b
granted wish.Rename b = renaming b
granted wish.Make b = typing_in Making new_field b
granted wish.Go b = typing_in Going new_field b
granted wish.Trash b = asking_to_trash b
granted wish.Undo b = asking_to_undo b
granted wish.Leave b = leaving b
granted other b = went other b

abbrev pub note_of : Wish → Browser → Note
note_of wish.Trash b = trash_note b.trash
note_of wish.Undo b = undo_note b.last_move
note_of wish.Leave b = leave_note b
note_of wish.SeekOn b = found_note (next_found b)
note_of wish.SeekBack b = found_note (previous_found b)
note_of wish.NoteCopy b = noted_note (slice_get (all_taken false b) 0)
note_of wish.NoteMove b = noted_note (slice_get (all_taken true b) 0)
note_of wish.Paste b = paste_note b.noted
note_of _ b = Place

abbrev pub wished : Wish → Browser → Browser
wished w b = record (granted w b) { note = note_of w b }

-- ---- questions

-- a yes: it counts only if the last read found nothing while the question was shown, and if the screen has
-- columns for all of it
abbrev pub confirmed : Browser → Browser
confirmed b =
    if not b.is_quiet then b
    else if fits b.size.width b then record b { is_sure = true }
    else record b { mode = Looking; note = Narrow }

abbrev pub typed_into : Typing → Browser → Browser
typed_into (Change edit) b = typing_in b.mode (edited edit b.typed) b
typed_into Accept b = confirmed b
typed_into Cancel b = record b { mode = Looking }
typed_into Ignore b = b

-- an answer to the question whether an entry is to be removed, or put into the trash
abbrev pub removal_answered : Event → Browser → Browser
removal_answered event b = if says_yes event then confirmed b else record b { mode = Looking }

-- what is left of the list of the keys is shown, or the list of the entries again
abbrev pub help_left : Browser → Browser
help_left b =
    if nat_lt 0 (list_rows b) && nat_lt (list_rows b) (help_rows - b.helped) then record b { helped = b.helped + list_rows b }
    else record b { mode = Looking }

-- an order that is named: the folder is listed anew
abbrev pub order_taken : Option Order → Browser → Browser
order_taken (Some order) b = record b { order = order; mode = Listing }
order_taken None b = record b { mode = Looking }

abbrev pub browsed : Mode → Event → Browser → Browser
browsed Looking event b = wished (event_wish event) b
browsed Trashing event b = removal_answered event b
browsed Removing event b = removal_answered event b
browsed Renaming event b = typed_into (event_typing event) b
browsed Making event b = typed_into (event_typing event) b
browsed Pasting event b = typed_into (event_typing event) b
browsed Seeking event b = sought_into (event_typing event) b
browsed Going event b = gone_by event b
browsed Sorting event b = order_taken (event_order event) b
browsed Undoing event b = removal_answered event b
browsed Helping event b = help_left b
browsed _ event b = b

-- ---- what is told

-- the screen has another size
abbrev pub browser_at_size : ℕ × ℕ → Browser → Browser
browser_at_size size b = scrolled_list (record b {
  is_quiet = b.is_quiet && (b.size.width == size.0) && (b.size.height == size.1);
  size = record { width = size.0; height = size.1 };
})

abbrev pub browser_at_told_size : Option (ℕ × ℕ) → Browser → Browser
browser_at_told_size (Some size) b = browser_at_size size b
browser_at_told_size None b = b

-- what is typed acts, and then what is shown is new
abbrev pub told : Event → Browser → Browser
told event b =
    if is_input event then record (browsed b.mode event b) { is_quiet = false } else browser_at_told_size (size_in event) b

-- ---- answers

-- the name of what was done was typed
abbrev pub names_typed : Mode → Bool
names_typed Renaming = true
names_typed Making = true
names_typed Pasting = true
names_typed _ = false

-- what a command renames or moves
abbrev pub move_by : Command → Option Moved
move_by (Rename from to) = Some (record { from = from; to = to })
move_by _ = None

-- what is renamed or moved by the change that is asked about
abbrev pub move_made : Browser → Option Moved
move_made b = option_and_then move_by (change_in b.mode b)

-- a removal was done: its entry is marked no longer, and the one that was marked next is selected, whose question
-- follows
abbrev pub next_marked : Browser → Browser
next_marked b = first_mark_selected (record b { marks = marks_but (selected_text b) b.marks })

abbrev pub removals_go_on : Mode → Browser → Browser
removals_go_on mode b =
    let c = next_marked b in record c { follows = if length c.marks == 0 then Looking else mode }

-- something was pasted: what is noted next follows, if there was more
abbrev pub pastes_go_on : Browser → Browser
pastes_go_on b = record b {
  noted = slice_get (noted_after b) 0;
  more = drop 1 (noted_after b);
  left = b.left - 1;
  follows = if b.left == 0 then Looking else Pasting;
}

abbrev pub gone_on : Mode → Browser → Browser
gone_on Trashing b = removals_go_on Trashing b
gone_on Removing b = removals_go_on Removing b
gone_on Pasting b = pastes_go_on b
gone_on _ b = b

-- a change was done: the folder is listed anew
abbrev pub finished : Browser → Browser
finished b = record (gone_on b.mode b) {
  last_move = option_or (move_made b) b.last_move;
  mode = Listing;
  seeks_typed = names_typed b.mode;
}

-- what stands in a folder is shown
abbrev pub folder_shown : ListingData → Browser → Browser
folder_shown l b = selected_at l.place (record b {
  folder = l.folder;
  list = l.rows;
  unnamed = l.unnamed;
  marks = marks_left l b;
  follows = Looking;
  seeks_typed = false;
  mode = Looking;
  glances = aged b.glances;
})

-- the question that follows: whether the entry that is selected is to be removed, if it is marked; or under which
-- name what is noted next comes here
abbrev pub mode_following : Mode → Browser → Mode
mode_following Trashing b = if is_selected_marked b then asked_mode Trashing b else Looking
mode_following Removing b = if is_selected_marked b then asked_mode Removing b else Looking
mode_following Pasting b = if is_some b.noted then Pasting else Looking
mode_following _ b = Looking

abbrev pub is_paste : Mode → Bool
is_paste Pasting = true
is_paste _ = false

abbrev pub typed_following : Mode → Browser → FieldData
typed_following next b =
    if is_paste next then option_map_or (λ noted. typing_name noted.name) b.noted b.typed else b.typed

abbrev pub column_following : Mode → Browser → ℕ
column_following next b =
    if is_paste next then option_map_or (λ noted. column_in Pasting (typing_name noted.name) b) b.noted b.column
    else b.column

abbrev pub asking_next : Mode → Browser → Browser
asking_next next b = record b {
  mode = mode_following next b;
  typed = typed_following next b;
  column = column_following next b;
}

abbrev pub listing_shown : ListingData → Browser → Browser
listing_shown l b = asking_next b.follows (folder_shown l b)

-- the typed path leads to no folder, but to something
abbrev pub leads_to_leaf : Mode → Failure → Bool
leads_to_leaf Visiting failure.NotAFolder = true
leads_to_leaf _ _ = false

-- what was asked for failed, and why is told; but a path that was to be completed goes on being typed, and what
-- the typed path leads to is selected in its folder if it is none
abbrev pub failed : Failure → Browser → Browser
failed why b =
    if is_completing b.mode then record b { mode = Going }
    else if leads_to_leaf b.mode why then record b { mode = Locating }
    else record b { mode = Looking; follows = Looking; seeks_typed = false; note = Failed b.mode why }

-- a folder was counted: the question about it follows; one that has entries can't be removed for good. When
-- that isn't asked any longer, the answer is dropped
abbrev pub counted_in : Mode → ℕ → Browser → Browser
counted_in CountingToTrash n b = record b { mode = Trashing; count = n }
counted_in CountingToRemove n b =
    if n == 0 then record b { mode = Removing; count = 0 } else failed failure.NotEmpty b
counted_in _ n b = b

-- what is done leads to the folder anew, what is seen is shown beside it, and what failed leads to its reason
abbrev pub outcome_taken : Outcome → Browser → Browser
outcome_taken (outcome.Listed l) b = listing_shown l b
outcome_taken outcome.Done b = finished b
outcome_taken (outcome.Glanced g) b = glance_taken g b
outcome_taken (outcome.Completed rest) b = path_completed rest b
outcome_taken (outcome.Counted n) b = counted_in b.mode n b
outcome_taken (outcome.Failed why) b = failed why b

abbrev pub outcome_told : Outcome → Browser → Browser
outcome_told o b = record (outcome_taken o b) { is_sure = false; is_quiet = false }

unfoldable pub browsed_after : Browser → Message Outcome → Browser
browsed_after b (message.Event event) = told event b
browsed_after b (message.Tick passed) = record b { is_quiet = true }
browsed_after b (message.Answer o) = outcome_told o b

-- ---- what is asked for

-- something is asked for: a folder that is listed or counted, how a path goes on, or a change that was
-- answered by yes
abbrev pub asks_in : Mode → Bool → Bool
asks_in Listing sure = true
asks_in Entering sure = true
asks_in Leaving sure = true
asks_in Returning sure = true
asks_in Visiting sure = true
asks_in Locating sure = true
asks_in Completing sure = true
asks_in CountingToTrash sure = true
asks_in CountingToRemove sure = true
asks_in Trashing sure = sure
asks_in Removing sure = sure
asks_in Renaming sure = sure
asks_in Making sure = sure
asks_in Pasting sure = sure
asks_in Undoing sure = sure
asks_in Helping sure = false
asks_in Chosen sure = false
asks_in Sorting sure = false
asks_in Seeking sure = false
asks_in Going sure = false
asks_in Looking sure = false
asks_in Over sure = false

-- something is asked for that a person asked for
abbrev pub acts : Browser → Bool
acts b = asks_in b.mode b.is_sure

-- or something is to be seen beside the folder, while nothing is typed
abbrev pub asks : Browser → Bool
asks b = acts b || is_some (side_wanted b)

-- what is asked for is told by the browser itself
abbrev pub browser_asked : Browser → Option Browser
browser_asked b = if asks b then Some b else None

abbrev pub is_over_mode : Mode → Bool
is_over_mode Over = true
is_over_mode Chosen = true
is_over_mode _ = false

abbrev pub is_over : Browser → Bool
is_over b = is_over_mode b.mode

-- the folder that is told in the end
abbrev pub chosen_in : Mode → Browser → Option (List ℕ)
chosen_in Chosen b = Some b.folder
chosen_in _ b = None

abbrev pub chosen : Browser → Option (List ℕ)
chosen b = chosen_in b.mode b
