-- What a source gave, read after read.
use Rattle.std.proofs.Common.{◌≡◌, ◌≤◌, ℕ, nat_le, true, List, [], ◌∷◌, ◌++◌, length, take}
use Rattle.std.proofs.Common.{refl, ap, ap₂, sym, ◌∙◌, subst, append-nil, append_assoc, arith}
use Rattle.std.proofs.lemmas.Bool.Decides.{nat_tests}
use Rattle.std.proofs.lemmas.List.{take_all}
use Rattle.ratatui_reads.specs.Reads.{all_bytes}
use Rattle.ratatui_reads.specs.Sources.{Coming, ReadSoFar, KnownBytes, KnownReads, GivesRead}
use Rattle.ratatui_reads.specs.Sources.{GivesReads, AreWithinRoom, read_room, later_reads}

-- one read more
pub gives-more : (all rest new : Coming) (rs : List (List ℕ)) (r : List ℕ) → GivesReads all rest rs
    → GivesRead read_room rest new r → GivesReads all new (rs ++ (r ∷ []))
gives-more all rest new [] r none one = (new, subst (λ (x : Coming). GivesRead read_room x new r) none one, refl)
gives-more all rest new (x ∷ rs) r some one = (some.0, some.1, gives-more some.0 rest new rs r some.2 one)

-- a read that has room is given whole
whole-read : (first : List ℕ) (others : List (List ℕ)) → length first ≤ read_room
    → (take read_room first ≡ first) × (later_reads read_room first others ≡ others)
whole-read first others short =
    let fits : nat_le (length first) read_room ≡ true = grind (arith, nat_tests) in
    (take_all read_room first short, rw fits refl)

pub known-reads : (all reads : List (List ℕ)) (rest : Coming) → AreWithinRoom all → GivesReads (KnownReads all) rest reads
    → (left : List (List ℕ)) × (rest ≡ KnownReads left) × (all ≡ reads ++ left)
known-reads all [] rest short given = (all, given, refl)
known-reads [] (r ∷ reads) rest short given = absurd given.1.first
known-reads (first ∷ others) (r ∷ reads) rest short given =
    let one = given.1.first in
    let whole = whole-read first others short.0 in
    let more = known-reads others reads rest short.1
    (subst (λ (x : Coming). GivesReads x rest reads) (one.1 ∙ ap KnownReads whole.1) given.2) in
    (more.0, more.1, ap₂ (λ (x : List ℕ) (xs : List (List ℕ)). x ∷ xs) (sym whole.0 ∙ sym one.0) more.2)

pub known-bytes : (all : List ℕ) (reads : List (List ℕ)) (rest : Coming) → GivesReads (KnownBytes all) rest reads
    → (left : List ℕ) × (rest ≡ KnownBytes left) × (all ≡ all_bytes reads ++ left)
known-bytes all [] rest given = (all, given, refl)
known-bytes all (r ∷ reads) rest given =
    let one = given.1.first in
    let more = known-bytes one.0 reads rest (subst (λ (x : Coming). GivesReads x rest reads) one.1 given.2) in
    (more.0, more.1, one.2 ∙ ap (λ (l : List ℕ). r ++ l) more.2 ∙ sym (append_assoc r (all_bytes reads) more.0))

-- recorded reads grow by those that are made
pub recorded-reads : (past reads : List (List ℕ)) (rest : Coming) → GivesReads (ReadSoFar past) rest reads
    → rest ≡ ReadSoFar (past ++ reads)
recorded-reads past [] rest given = given ∙ ap ReadSoFar (sym (append-nil past))
recorded-reads past (r ∷ reads) rest given =
    let one = given.1.first in
    recorded-reads (past ++ r ∷ []) reads rest (subst (λ (x : Coming). GivesReads x rest reads) one given.2)
    ∙ ap ReadSoFar (append_assoc past (r ∷ []) reads)
