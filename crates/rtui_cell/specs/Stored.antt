-- Where a symbol has its text.
use Rattle.std.specs.Prelude.{ℕ, ◌<◌, List, length, Option, Some, None}
use Rattle.std.specs.String.{string_bytes}
use Rattle.rtui_cell.specs.declared.symbol.Storage.{Storage}
use Rattle.rtui_cell.specs.declared.symbol.Storage.TheVariants as Stored

-- no text, the bytes of a short one, or those of a long one
abbrev pub stored_text : Storage → Option (List ℕ)
stored_text Stored.Unset = None
stored_text (Stored.Cleared room) = None
stored_text (Stored.Short text) = Some text.bytes
stored_text (Stored.Long text) = Some (string_bytes text)

-- only a long text takes memory
abbrev pub IsStoredByLength : Storage → Type 0
IsStoredByLength Stored.Unset = Unit {0}
IsStoredByLength (Stored.Cleared room) = Unit {0}
IsStoredByLength (Stored.Short text) = Unit {0}
IsStoredByLength (Stored.Long text) = 22 < length (string_bytes text)
