-- A field: a text with a cursor in it, and what is done to it.
use Rattle.std.specs.Prelude.{ℕ, ◌-◌, Bool, not, List, [], ◌∷◌, ◌++◌, length, take, drop, filter, Option, Some}
use Rattle.std.specs.Prelude.{None}
use Rattle.std.specs.Prelude.{chars, encode_utf8_all}
use Rattle.std.specs.Char.{is_control}

-- the text before the cursor and the text after it, each as its bytes; what was killed last; how many
-- characters there may be; and the view: the byte that it begins at, and where its cursor stood
pub record FieldData : Type 0 where
  pub before : List ℕ
  pub after : List ℕ
  pub killed : List ℕ
  pub limit : Option ℕ
  pub first : ℕ
  pub place : Option (ℕ × ℕ)

-- the whole text
abbrev pub field_text : FieldData → List ℕ
field_text f = f.before ++ f.after

-- a character that may stand in a field: no control character
abbrev pub is_typed : ℕ → Bool
is_typed c = not (is_control c)

-- of these characters those that a limit allows beside so many
abbrev pub allowed : Option ℕ → ℕ → List ℕ → List ℕ
allowed None used cs = cs
allowed (Some limit) used cs = take (limit - used) cs

-- what a field takes of a text: its characters but the control characters, as many as its limit allows
abbrev pub accepted : FieldData → List ℕ → List ℕ
accepted f text = encode_utf8_all (allowed f.limit (length (chars (field_text f))) (filter is_typed (chars text)))

-- a text that was typed at the cursor
abbrev pub typing : List ℕ → FieldData → FieldData
typing text f = record f { before = f.before ++ accepted f text }

-- the cursor n bytes to the left
abbrev pub moved_left : ℕ → FieldData → FieldData
moved_left n f =
    let at = length f.before - n in
    record f { before = take at f.before; after = drop at f.before ++ f.after }

-- the cursor n bytes to the right
abbrev pub moved_right : ℕ → FieldData → FieldData
moved_right n f = record f { before = f.before ++ take n f.after; after = drop n f.after }

-- the last n bytes before the cursor
abbrev pub part_left : ℕ → FieldData → List ℕ
part_left n f = drop (length f.before - n) f.before

-- the first n bytes after it
abbrev pub part_right : ℕ → FieldData → List ℕ
part_right n f = take n f.after

-- without the last n bytes before the cursor
abbrev pub cut_left : ℕ → FieldData → FieldData
cut_left n f = record f { before = take (length f.before - n) f.before }

-- without the first n bytes after it
abbrev pub cut_right : ℕ → FieldData → FieldData
cut_right n f = record f { after = drop n f.after }

-- what was killed last, after this part; nothing is no part
abbrev pub kept_of : List ℕ → List ℕ → List ℕ
kept_of [] killed = killed
kept_of (b ∷ part) killed = b ∷ part

-- this part was killed
abbrev pub keeping : List ℕ → FieldData → FieldData
keeping part f = record f { killed = kept_of part f.killed }

-- no text
abbrev pub cleared : FieldData → FieldData
cleared f = record f { before = []; after = [] }

-- a field with a text and the cursor at a byte of it
abbrev pub field_at : List ℕ → ℕ → List ℕ → Option ℕ → ℕ → Option (ℕ × ℕ) → FieldData
field_at text at killed limit first place = record {
  before = take at text;
  after = drop at text;
  killed = killed;
  limit = limit;
  first = first;
  place = place;
}

-- without a text and without a limit
abbrev pub new_field : FieldData
new_field = record { before = []; after = []; killed = []; limit = None; first = 0; place = None }
