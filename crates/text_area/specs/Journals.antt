-- A text with a cursor, and how its changes are undone.
use Rattle.std.specs.Prelude.{ℕ, ◌+◌, ◌≤◌, ◌==◌, ltb, ◌&&◌, Bool, false, not, if◌then◌else◌}
use Rattle.std.specs.Prelude.{List, [], ◌∷◌, length, take, drop, slice_range}
use Rattle.std.specs.List.{replace_range}
use Rattle.std.specs.Str.{IsUtf8, IsCharBoundary}
use Rattle.text_field.specs.History.{CursorText, cursor_text_at}
use Rattle.text_area.specs.Drafts.{draft_text, cursor_at, part_replaced}

-- how a change is undone: the part between two bytes gives way to what stood there, and the cursor goes to
-- where it was
pub record StepData : Type 0 where
  pub at : ℕ
  pub to : ℕ
  pub was : List ℕ
  pub cursor : ℕ

abbrev pub undo_step : ℕ → ℕ → List ℕ → ℕ → StepData
undo_step at to was cursor = record { at = at; to = to; was = was; cursor = cursor }

-- a text after a step
abbrev pub undone_text : StepData → List ℕ → List ℕ
undone_text s text = replace_range text s.at s.to s.was

-- how it is undone that a part of a text gives way to so many bytes
abbrev pub step_for : ℕ → ℕ → ℕ → CursorText → StepData
step_for from to size t = undo_step from (from + size) (slice_range (draft_text t) from to) (length t.before)

-- a step can be made: no character is cut, and the cursor stands at a place of the text
pub record IsStepOf (s : StepData) (text : List ℕ) : Type 0 where
  pub was : IsUtf8 s.was
  pub order : s.at ≤ s.to
  pub start : IsCharBoundary text s.at
  pub end : IsCharBoundary text s.to
  pub cursor : IsCharBoundary (undone_text s text) s.cursor

-- these steps can be made one after the other
abbrev pub Undoes : List StepData → List ℕ → Type 0
Undoes [] text = Unit {0}
Undoes (s ∷ steps) text = IsStepOf s text × Undoes steps (undone_text s text)

-- a text with a cursor; how its last changes are undone, the last one first; how what was undone last is
-- done again,
-- the last one first; and how many steps of both are kept at most
pub record JournalData : Type 0 where
  pub text : CursorText
  pub past : List StepData
  pub future : List StepData
  pub most : ℕ

abbrev pub journal_of : CursorText → List StepData → List StepData → ℕ → JournalData
journal_of text past future most = record { text = text; past = past; future = future; most = most }

-- the cursor at another byte
abbrev pub moved_cursor : ℕ → JournalData → JournalData
moved_cursor at j = record j { text = cursor_at at j.text }

-- nothing gives way to nothing
abbrev pub changes_nothing : ℕ → ℕ → List ℕ → Bool
changes_nothing from to piece = (from == to) && (length piece == 0)

-- a text begins with a line feed
abbrev pub begins_line : List ℕ → Bool
begins_line [] = false
begins_line (byte ∷ rest) = byte == 10

-- a piece is put right after what a change has put
abbrev pub is_after : ℕ → ℕ → StepData → Bool
is_after from to s = (from == to) && ((s.to == from) && ltb s.at from)

-- a piece goes on with what was put last: nothing was undone since, and it begins no line
abbrev pub goes_on : ℕ → ℕ → List ℕ → List StepData → List StepData → Bool
goes_on from to piece [] future = false
goes_on from to piece (s ∷ past) (f ∷ future) = false
goes_on from to piece (s ∷ past) [] = is_after from to s && not (begins_line piece)

-- all up to a place is undone together with the last change
abbrev pub longer : ℕ → List StepData → List StepData
longer to [] = []
longer to (s ∷ past) = undo_step s.at to s.was s.cursor ∷ past

-- how changes are undone after one more: what goes on with what was put last is undone together with it
abbrev pub past_after : ℕ → ℕ → List ℕ → JournalData → List StepData
past_after from to piece j =
    if goes_on from to piece j.past j.future then longer (from + length piece) j.past
    else take j.most (step_for from to (length piece) j.text ∷ j.past)

-- a part of the text gives way to a piece: that can be undone, and nothing can be done again
abbrev pub changed : ℕ → ℕ → List ℕ → JournalData → JournalData
changed from to piece j =
    if changes_nothing from to piece then j
    else journal_of (part_replaced from to piece j.text) (past_after from to piece j) [] j.most

-- nothing can be undone or done again, and so many steps are kept from now on
abbrev pub forgetting : ℕ → JournalData → JournalData
forgetting most j = journal_of j.text [] [] most

-- the text after the first of these steps
abbrev pub stepped_text : List StepData → CursorText → CursorText
stepped_text [] t = t
stepped_text (s ∷ steps) t = cursor_text_at (undone_text s (draft_text t)) s.cursor

-- how that is undone, before these
abbrev pub stepped_onto : List StepData → CursorText → List StepData → List StepData
stepped_onto [] t onto = onto
stepped_onto (s ∷ steps) t onto = step_for s.at s.to (length s.was) t ∷ onto

-- the last change is undone, if there is one
abbrev pub undone : JournalData → JournalData
undone j = journal_of (stepped_text j.past j.text) (drop 1 j.past) (stepped_onto j.past j.text j.future)
    j.most

-- what was undone last is done again, if anything was
abbrev pub redone : JournalData → JournalData
redone j = journal_of (stepped_text j.future j.text) (stepped_onto j.future j.text j.past) (drop 1 j.future)
    j.most
