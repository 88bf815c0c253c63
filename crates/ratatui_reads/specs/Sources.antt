-- What a source gives, one read after the other.
use Rattle.std.specs.Prelude.{◌≡◌, ◌<◌, ◌≤◌, ℕ, nat_le, if◌then◌else◌}
use Rattle.std.specs.Prelude.{List, [], ◌∷◌, ◌++◌, length, take, drop}
use Rattle.std.specs.Prelude.{Option, Some, None, ⊤}

-- what is known of what a source gives from here on: nothing; nothing but which reads it gave so far, since
-- these are recorded; its bytes, and that no more come, but not in which reads; or its reads, of which some
-- may be empty, and that it fails after them
pub data Coming : Type 0 where
  NotKnown : Coming
  ReadSoFar : List (List ℕ) → Coming
  KnownBytes : List ℕ → Coming
  KnownReads : List (List ℕ) → Coming

-- a reader's bytes, if they are known
abbrev pub coming_bytes : Option (List ℕ) → Coming
coming_bytes None = NotKnown
coming_bytes (Some bytes) = KnownBytes bytes

-- known bytes begin with those of a read
abbrev pub GivesBytes : List ℕ → Coming → List ℕ → Type 0
GivesBytes all new bytes = (rest : List ℕ) × (new ≡ KnownBytes rest) × (all ≡ bytes ++ rest)

-- what is left of reads of which the first one was given, as far as there was room for it
abbrev pub later_reads : ℕ → List ℕ → List (List ℕ) → List (List ℕ)
later_reads room first others = if nat_le (length first) room then others else drop room first ∷ others

-- a read with room for so many bytes gave the first ones, and the others are known then; or it is recorded
abbrev pub GivesFirst : ℕ → Coming → Coming → List ℕ → Type 0
GivesFirst room NotKnown new bytes = ⊤
GivesFirst room (ReadSoFar past) new bytes = new ≡ ReadSoFar (past ++ bytes ∷ [])
GivesFirst room (KnownBytes all) new bytes = GivesBytes all new bytes
GivesFirst room (KnownReads []) new bytes = ⊥
GivesFirst room (KnownReads (first ∷ others)) new bytes =
    (bytes ≡ take room first) × (new ≡ KnownReads (later_reads room first others))

-- no known byte is left; known reads can go on after an empty one
abbrev pub IsUsedUp : Coming → Type 0
IsUsedUp NotKnown = ⊤
IsUsedUp (ReadSoFar past) = ⊤
IsUsedUp (KnownBytes all) = all ≡ []
IsUsedUp (KnownReads all) = ⊤

-- a read gave the first bytes so, and none only where none was left
pub record GivesRead (room : ℕ) (all new : Coming) (bytes : List ℕ) : Type 0 where
  pub first : GivesFirst room all new bytes
  pub last : 0 < room → bytes ≡ [] → IsUsedUp new

-- what is known stays so where no read was made
abbrev pub StaysKnown : Coming → Coming → Type 0
StaysKnown NotKnown new = ⊤
StaysKnown (ReadSoFar past) new = new ≡ ReadSoFar past
StaysKnown (KnownBytes all) new = new ≡ KnownBytes all
StaysKnown (KnownReads all) new = new ≡ KnownReads all

-- a read can fail: one of known reads only after the last of them
abbrev pub MayFail : Coming → Type 0
MayFail NotKnown = ⊤
MayFail (ReadSoFar past) = ⊤
MayFail (KnownBytes all) = ⊤
MayFail (KnownReads all) = all ≡ []

-- the room of a run's reads, in bytes
abbrev pub read_room : ℕ
read_room = 1024

-- these reads were given, one after the other, and this is known of what comes after them
abbrev pub GivesReads : Coming → Coming → List (List ℕ) → Type 0
GivesReads all rest [] = rest ≡ all
GivesReads all rest (r ∷ rs) = (left : Coming) × GivesRead read_room all left r × GivesReads left rest rs

-- each of these reads has that room
abbrev pub AreWithinRoom : List (List ℕ) → Type 0
AreWithinRoom [] = ⊤
AreWithinRoom (r ∷ rs) = (length r ≤ read_room) × AreWithinRoom rs
