-- Writing a text piece by piece.
use Rattle.std.proofs.Common.{◌≡◌, ℕ, suc, ◌+◌, ◌-◌, ◌<◌, arith, List, ◌++◌, Option, Some, None, Result, Ok, Err, OnOk}
use Rattle.std.proofs.Common.{append_assoc}
use Rattle.std.specs.{List.flat_map, List.range_with_len, Io.KnownBytes.Appends}

-- the writer has taken all but the rest of a text
abbrev pub HasWritten : Option (List ℕ) → Option (List ℕ) → List ℕ → List ℕ → Type 0
HasWritten old new rest all = (last : Option (List ℕ)) → Appends new last rest → Appends old last all

Appends-both : (a b c : Option (List ℕ)) (xs ys : List ℕ) → Appends a b xs → Appends b c ys → Appends a c (xs ++ ys)
Appends-both None b c xs ys p q = tt
Appends-both (Some a) None c xs ys p q = absurd p
Appends-both (Some a) (Some b) None xs ys p q = absurd q
Appends-both (Some a) (Some b) (Some c) xs ys p q = rw (q, p) (append_assoc a xs ys)

pub HasWritten-more : (old mid new : Option (List ℕ)) (xs ys all : List ℕ) → HasWritten old mid (xs ++ ys) all
    → Appends mid new xs → HasWritten old new ys all
HasWritten-more old mid new xs ys all before piece last more = before last (Appends-both mid new last xs ys piece more)

pub HasWritten-next : (f : ℕ → List ℕ) (b last : ℕ) (old mid new : Option (List ℕ)) (all : List ℕ) → b < last
    → HasWritten old mid (flat_map f (range_with_len b (last - b))) all → Appends mid new (f b)
    → HasWritten old new (flat_map f (range_with_len (b + 1) (last - (b + 1)))) all
HasWritten-next f b last old mid new all lt before piece =
    let left : last - b ≡ suc (last - (b + 1)) = omega arith in
    HasWritten-more old mid new (f b) (flat_map f (range_with_len (b + 1) (last - (b + 1)))) all (rw left at before) piece

pub written_behind : {T E : Type 0} (r : Result T E) (a b c : Option (List ℕ)) (xs ys zs : List ℕ) → xs ≡ zs → Appends a b xs
    → OnOk r (Appends b c ys) → OnOk r (Appends a c (zs ++ ys))
written_behind (Ok x) a b c xs ys zs e p q = rw (← e) (Appends-both a b c xs ys p q)
written_behind (Err x) a b c xs ys zs e p q = tt
