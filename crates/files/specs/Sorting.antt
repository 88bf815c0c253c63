-- The rows of a folder, in order.
use Rattle.std.specs.Prelude.{◌≡◌, ◌⊎◌, ℕ, Bool, true, false, not, ◌||◌, ◌==◌, List, [], ◌∷◌, ◌++◌, filter, slice_get}
use Rattle.std.specs.Prelude.{Option, Some, None, option_map, string_bytes, IsPermutation, IsSorted}
use Rattle.std.specs.declared.time.Duration.{Duration}
use Rattle.jiff_core.specs.declared.civil.datetime.DateTime.{DateTime}
use Rattle.std.specs.{Str.byte, List.AllZip, Duration.as_nanos}
use Rattle.ratatui_files.specs.declared.answer.Info.{Info}
use Rattle.ratatui_files.specs.declared.answer.Kind.{Kind}
use Rattle.ratatui_files.specs.declared.answer.Kind.TheVariants.{Folder, File, Link}
use Rattle.files.specs.declared.list.Row.{Row}
use Rattle.files.specs.declared.order.Order.{Order}
use Rattle.files.specs.NameKeys.{name_sort_key}
use Rattle.files.specs.Dates.{IsDateAfter}
use Rattle.files.specs.Orders.{compare_rows}

-- a name is hidden that begins with a dot
abbrev pub begins_with_dot : List ℕ → Bool
begins_with_dot [] = false
begins_with_dot (b ∷ name) = b == byte "."

abbrev pub is_listed : Bool → List ℕ → Bool
is_listed hidden name = hidden || not (begins_with_dot name)

abbrev pub is_no_folder : Kind → Bool
is_no_folder Folder = false
is_no_folder _ = true

abbrev pub is_a_link : Kind → Bool
is_a_link Link = true
is_a_link _ = false

-- the size of a file; of nothing else is one told
abbrev pub told_size : Kind → ℕ → Option ℕ
told_size File size = Some size
told_size _ size = None

-- the date of a time; of none that isn't known
abbrev pub IsDateOf : Option Duration → Option DateTime → Type 0
IsDateOf (Some time) date = IsDateAfter (as_nanos time) date
IsDateOf None date = date ≡ None

-- what is told of an entry in its row
pub record IsRowFor (info : Info) (row : Row) : Type 0 where
  pub leaf : row.is_leaf ≡ is_no_folder info.kind
  pub name : string_bytes row.name ≡ info.name
  pub link : row.is_link ≡ is_a_link info.kind
  pub size : row.size ≡ told_size info.kind info.size
  pub changed : row.changed ≡ option_map as_nanos info.modified
  pub date : IsDateOf info.modified row.date
  pub mode : row.mode ≡ info.mode
  pub key : row.key ≡ name_sort_key info.name

-- the rows of entries that are listed
abbrev pub AreRowsFor : Bool → List Info → List Row → Type 0
AreRowsFor hidden entries = AllZip IsRowFor (filter (λ info. is_listed hidden info.name) entries)

-- a row more, if the entry is listed
abbrev pub AddsBy : Bool → Info → List Row → List Row → Type 0
AddsBy true info old new = (row : Row) × IsRowFor info row × (new ≡ old ++ row ∷ [])
AddsBy false info old new = new ≡ old

abbrev pub AddsIf : Bool → Info → List Row → List Row → Type 0
AddsIf hidden info old new = AddsBy (is_listed hidden info.name) info old new

-- the rows of the entries that are listed: each of them, in an order
pub record IsListOf (order : Order) (hidden : Bool) (entries : List Info) (list : List Row) : Type 0 where
  pub rows : List Row
  pub are : AreRowsFor hidden entries rows
  pub all : IsPermutation rows list
  pub ordered : IsSorted (compare_rows order) list

-- a row has a name
abbrev pub HasName : List ℕ → Option Row → Type 0
HasName name None = ⊥
HasName name (Some row) = string_bytes row.name ≡ name

-- the row of a name, or else another one
abbrev pub IsPlaceOf : List ℕ → ℕ → List Row → ℕ → Type 0
IsPlaceOf name other rows place = HasName name (slice_get rows place)
    ⊎ ((place ≡ other) × ((k : ℕ) → HasName name (slice_get rows k) → ⊥))
