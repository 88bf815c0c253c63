-- Which lines have what is sought, one line more.
use Rattle.std.proofs.Common.{◌≡◌, ℕ, ◌+◌, if◌then◌else◌, List, [], ◌∷◌, ◌++◌, refl, add-one}
use Rattle.pager.specs.declared.sought.Sought.{Sought}
use Rattle.pager.specs.Search.{has_match, numbered_line, matching}

pub matching-next : (sought : Sought) (lines : List (List ℕ)) (k : ℕ)
    → matching sought lines (k + 1)
    ≡ (if has_match sought (numbered_line lines k) then matching sought lines k ++ k ∷ [] else matching sought lines k)
unfolding matching
matching-next sought lines k = rw add-one refl
