-- What an event reader has read and not told yet.
use Rattle.std.specs.Prelude.{◌≡◌, ◌⊎◌, ℕ, List, [], ◌∷◌, ◌++◌, take, drop, Option, IsSomeAnd}
use Rattle.std.specs.Io.KnownBytes.{Consumes, IsAtEnd}
use Rattle.ratatui_events.specs.declared.event.Event.{Event}
use Rattle.ratatui_input.specs.Decoding.{Told, decoded, next_told, settled, some_list}
use Rattle.ratatui_input.specs.declared.reader.Kept.{Kept}
use Rattle.ratatui_input.specs.declared.reader.EventReader.{EventReader}

-- the bytes that have come and aren't decoded
abbrev pub left_bytes : Kept → List ℕ
left_bytes k = drop k.next (take k.end k.bytes)

-- the events that what has come will tell, and the decoder after them
unfoldable pub kept_told : Kept → Told
kept_told k = let t = decoded k.decoder (left_bytes k) in (some_list k.second ++ t.0, t.1)

-- the reader that the bytes come from
abbrev pub source : {R : Type 0} → EventReader R → R
source r = r.reader

-- the events that what was read will tell, and the decoder after them
abbrev pub unread : {R : Type 0} → EventReader R → Told
unread r = kept_told r.kept

-- an event is told, of what was read before and of further bytes
abbrev pub TellsNext : {R : Type 0} → Told → Option Event → EventReader R → Type 0
TellsNext all told new = IsSomeAnd told (λ event. all ≡ (event ∷ (unread new).0, (unread new).1))

-- nothing more comes for now: all was told, and what had come of a further event is settled
pub record Settles {R : Type 0} (all : Told) (told : Option Event) (new : EventReader R) : Type 0 where
  pub told_all : all.0 ≡ []
  pub settles : (some_list told, (unread new).1) ≡ settled all.1.state all.1
  pub nothing_left : (unread new).0 ≡ []

module _ {R : Type 0} (remaining : R → Option (List ℕ)) where
  -- further bytes were read, none, some or many, and an event is told of them, or nothing more comes
  pub record Reads (old : EventReader R) (told : Option Event) (new : EventReader R) : Type 0 where
    pub bytes : List ℕ
    pub consumed : Consumes (remaining (source old)) (remaining (source new)) bytes
    pub tells : TellsNext (next_told (unread old) bytes) told new
        ⊎ (IsAtEnd (remaining (source new)) × Settles (next_told (unread old) bytes) told new)

  -- further bytes were read, and all of them are kept
  pub record KeepsAll (old new : EventReader R) : Type 0 where
    pub bytes : List ℕ
    pub consumed : Consumes (remaining (source old)) (remaining (source new)) bytes
    pub kept : unread new ≡ next_told (unread old) bytes
