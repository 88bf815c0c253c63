-- What a field was, and how its edits are undone.
use Rattle.std.specs.Prelude.{◌≡◌, ℕ, ◌-◌, Bool, true, false, if◌then◌else◌, List, [], ◌∷◌, ◌++◌, length, take}
use Rattle.std.specs.Prelude.{drop, bytes_eq}
use Rattle.text_field.specs.Field.{FieldData, field_text}

-- a text with a cursor in it: what stands before it and what stands after it
pub record CursorText : Type 0 where
  pub before : List ℕ
  pub after : List ℕ

-- a text with the cursor at a byte of it
abbrev pub cursor_text_at : List ℕ → ℕ → CursorText
cursor_text_at text at = record { before = take at text; after = drop at text }

-- the text and the cursor of a field
abbrev pub cursor_text : FieldData → CursorText
cursor_text f = record { before = f.before; after = f.after }

-- a field with another text and cursor
abbrev pub with_cursor_text : CursorText → FieldData → FieldData
with_cursor_text line f = record f { before = line.before; after = line.after }

-- what a field was before each of its edits, the last one last; what it was before each undoing, the last one
-- last; and how many of both are kept at most
pub record HistoryData : Type 0 where
  pub past : List CursorText
  pub future : List CursorText
  pub most : ℕ

abbrev pub history_of : List CursorText → List CursorText → ℕ → HistoryData
history_of past future most = record { past = past; future = future; most = most }

-- the last n of these
abbrev pub last_texts : ℕ → List CursorText → List CursorText
last_texts n lines = drop (length lines - n) lines

-- what a field was is remembered, and nothing may be redone any more
abbrev pub remembering : CursorText → HistoryData → HistoryData
remembering line h = record h { past = last_texts h.most (h.past ++ line ∷ []); future = [] }

-- a history after an edit that leads from one field to another: as before if the text is the same
abbrev pub after_edit : FieldData → FieldData → HistoryData → HistoryData
after_edit f g h = if bytes_eq (field_text f) (field_text g) then h else remembering (cursor_text f) h

-- the last edit is undone: the field is what it was before it, and what it has been may be redone
pub record IsUndone (f g : FieldData) (h i : HistoryData) : Type 0 where
  pub past : h.past ≡ i.past ++ cursor_text g ∷ []
  pub future : i.future ≡ h.future ++ cursor_text f ∷ []
  pub most : i.most ≡ h.most
  pub field : g ≡ with_cursor_text (cursor_text g) f

-- the last undoing is undone
pub record IsRedone (f g : FieldData) (h i : HistoryData) : Type 0 where
  pub past : i.past ≡ h.past ++ cursor_text f ∷ []
  pub future : h.future ≡ i.future ++ cursor_text g ∷ []
  pub most : i.most ≡ h.most
  pub field : g ≡ with_cursor_text (cursor_text g) f

-- if anything is undone; without anything to undo all is as before
abbrev pub UndoesIf : FieldData → FieldData → HistoryData → HistoryData → Bool → Type 0
UndoesIf f g h i true = IsUndone f g h i
UndoesIf f g h i false = (h.past ≡ []) × (g ≡ f) × (i ≡ h)

-- the same of redoing
abbrev pub RedoesIf : FieldData → FieldData → HistoryData → HistoryData → Bool → Type 0
RedoesIf f g h i true = IsRedone f g h i
RedoesIf f g h i false = (h.future ≡ []) × (g ≡ f) × (i ≡ h)
