-- A text area: a text of lines with a cursor, and what is done to it.
use Rattle.std.specs.Prelude.{ℕ, ◌+◌, ◌-◌, ◌==◌, if◌then◌else◌, List, [], length, slice_range}
use Rattle.std.specs.Prelude.{min, max, Option, Some, None}
use Rattle.std.specs.Option.{unwrap_or}
use Rattle.text_field.specs.Field.{kept_of}
use Rattle.text_field.specs.History.{cursor_text_at}
use Rattle.text_area.specs.Extents.{extent_left, extent_right}
use Rattle.text_area.specs.Lines.{column_after, place_above, place_below}
use Rattle.text_area.specs.Drafts.{draft_text}
use Rattle.text_area.specs.Typing.{loaded_text, written_text}
use Rattle.text_area.specs.Journals.{JournalData, journal_of, moved_cursor, changed, undone, redone}
use Rattle.text_area.specs.Journals.{forgetting}
use Rattle.text_area.specs.declared.moves.Move.{Move}
use Rattle.text_area.specs.declared.moves.Move.TheVariants.{Left, Right, Up, Down, PageUp, PageDown}

-- the text with its cursor, and how its changes are undone; the byte at which what is selected begins or
-- ends, if
-- the cursor is not to be its only end; the column that the cursor aims at when it goes up and down, if it
-- does;
-- what was killed last; and how many lines a page has
pub record AreaData : Type 0 where
  pub journal : JournalData
  pub anchor : Option ℕ
  pub aim : Option ℕ
  pub killed : List ℕ
  pub page : ℕ

abbrev pub area_of : JournalData → Option ℕ → Option ℕ → List ℕ → ℕ → AreaData
area_of journal anchor aim killed page =
    record { journal = journal; anchor = anchor; aim = aim; killed = killed; page = page }

-- the whole text
abbrev pub area_text : AreaData → List ℕ
area_text a = draft_text a.journal.text

-- the text before the cursor
abbrev pub area_before : AreaData → List ℕ
area_before a = a.journal.text.before

-- the text after it
abbrev pub area_after : AreaData → List ℕ
area_after a = a.journal.text.after

-- the byte at which it stands
abbrev pub area_cursor : AreaData → ℕ
area_cursor a = length (area_before a)

-- a text with the cursor at its start
abbrev pub loaded_area : List ℕ → AreaData
loaded_area text = area_of (journal_of (cursor_text_at (loaded_text text) 0) [] [] 1000) None None [] 1

-- no text
abbrev pub new_area : AreaData
new_area = area_of (journal_of (cursor_text_at [] 0) [] [] 1000) None None [] 1

-- the column that the cursor aims at
abbrev pub aim_of : AreaData → ℕ
aim_of a = unwrap_or a.aim (column_after (area_before a))

-- where a move leads to
abbrev pub target : Move → AreaData → ℕ
target (Left extent) a = area_cursor a - extent_left extent (area_before a)
target (Right extent) a = area_cursor a + extent_right extent (area_after a)
target Up a = place_above 1 (aim_of a) (area_before a) (area_text a)
target Down a = place_below 1 (aim_of a) (area_before a) (area_text a)
target PageUp a = place_above a.page (aim_of a) (area_before a) (area_text a)
target PageDown a = place_below a.page (aim_of a) (area_before a) (area_text a)

-- a move to the left or to the right aims at no column
abbrev pub aim_after : Move → AreaData → Option ℕ
aim_after (Left extent) a = None
aim_after (Right extent) a = None
aim_after to a = Some (aim_of a)

-- the cursor has moved
abbrev pub gone : Move → AreaData → AreaData
gone to a = area_of (moved_cursor (target to a) a.journal) a.anchor (aim_after to a) a.killed a.page

-- the cursor is after so many graphemes of a line, of the last one if no line has the number
abbrev pub gone_to : ℕ → ℕ → AreaData → AreaData
gone_to line column a =
    let at = place_below line column [] (area_text a) in
    area_of (moved_cursor at a.journal) a.anchor None a.killed a.page

-- two places in their order
abbrev pub ends : ℕ → ℕ → ℕ × ℕ
ends a b = (min a b, max a b)

-- between which places is selected; without a selection both are the cursor's
abbrev pub selection : AreaData → ℕ × ℕ
selection a = ends (unwrap_or a.anchor (area_cursor a)) (area_cursor a)

-- what is selected
abbrev pub selected : AreaData → List ℕ
selected a = slice_range (area_text a) (selection a).0 (selection a).1

-- what a deletion by a move is about: what is selected, and else what is between the cursor and where the
-- move leads
abbrev pub reached : Move → AreaData → ℕ × ℕ
reached to a = if (selection a).0 == (selection a).1 then ends (area_cursor a) (target to a) else selection a

-- a part of the text gives way to a piece; after that nothing is selected
abbrev pub put_over : ℕ × ℕ → List ℕ → AreaData → AreaData
put_over part piece a = area_of (changed part.0 part.1 piece a.journal) None None a.killed a.page

-- a text is typed in place of what is selected
abbrev pub typing_over : List ℕ → AreaData → AreaData
typing_over text a = put_over (selection a) (written_text text) a

-- what was killed last is typed in place of what is selected
abbrev pub yanking : AreaData → AreaData
yanking a = put_over (selection a) a.killed a

-- a part is deleted
abbrev pub deleting : ℕ × ℕ → AreaData → AreaData
deleting part a = put_over part [] a

-- a part is kept for yanking; nothing is no part
abbrev pub keeping_part : ℕ × ℕ → AreaData → AreaData
keeping_part part a =
    area_of a.journal a.anchor a.aim (kept_of (slice_range (area_text a) part.0 part.1) a.killed) a.page

-- it is deleted, and kept
abbrev pub killing : ℕ × ℕ → AreaData → AreaData
killing part a = deleting part (keeping_part part a)

-- a selection begins at the cursor, unless there is one
abbrev pub selection_begun : AreaData → AreaData
selection_begun a = area_of a.journal (Some (unwrap_or a.anchor (area_cursor a))) a.aim a.killed a.page

-- all is selected, with the cursor at the end
abbrev pub selecting_all : AreaData → AreaData
selecting_all a = area_of (moved_cursor (length (area_text a)) a.journal) (Some 0) None a.killed a.page

-- nothing is selected
abbrev pub unselected : AreaData → AreaData
unselected a = area_of a.journal None a.aim a.killed a.page

-- the last change is undone, and done again
abbrev pub undoing : AreaData → AreaData
undoing a = area_of (undone a.journal) None None a.killed a.page

abbrev pub redoing : AreaData → AreaData
redoing a = area_of (redone a.journal) None None a.killed a.page

-- so many steps are kept from now on
abbrev pub keeping_steps : ℕ → AreaData → AreaData
keeping_steps most a = area_of (forgetting most a.journal) a.anchor a.aim a.killed a.page
