-- Fields as their texts and cursors.
use Rattle.std.proofs.Common.{ℕ, ◌≡◌, ◌+◌, ◌-◌, ◌≤◌, List, ◌++◌, length, take, drop, sym, ap, ap₂, ◌∙◌, arith, Option}
use Rattle.std.proofs.Common.{slice_range}
use Rattle.std.proofs.lemmas.{List.length-take-le, List.take-take, List.take-append-drop, List.drop-append-le, List.drop-drop, List.drop-take}
use Rattle.text_field.specs.Field.{FieldData, field_at, moved_left, moved_right, cut_left, cut_right, part_left, part_right}
use Rattle.text_field.specs.Field.{keeping, kept_of}

-- a field of its parts
abbrev pub made : List ℕ → List ℕ → List ℕ → Option ℕ → ℕ → Option (ℕ × ℕ) → FieldData
made before after killed limit first place = record {
  before = before;
  after = after;
  killed = killed;
  limit = limit;
  first = first;
  place = place;
}

pub made-same : (b c a d k : List ℕ) (l : Option ℕ) (f : ℕ) (p : Option (ℕ × ℕ)) → b ≡ c → a ≡ d
    → made b a k l f p ≡ made c d k l f p
made-same b c a d k l f p before after = ap₂ (λ x y. made x y k l f p) before after

-- the bytes before a place, n fewer
pub less-before : (text : List ℕ) (at to n : ℕ) → to + n ≡ at → at ≤ length text → length (take at text) - n ≡ to
less-before text at to n is le = omega (arith, is, length-take-le at text le)

pub take-before : (text : List ℕ) (at to n : ℕ) → to + n ≡ at → at ≤ length text
    → take (length (take at text) - n) (take at text) ≡ take to text
take-before text at to n is le =
    ap (λ m. take m (take at text)) (less-before text at to n is le) ∙ take-take to at text (omega (arith, is))

pub drop-before : (text : List ℕ) (at to n : ℕ) → to + n ≡ at → at ≤ length text
    → drop (length (take at text) - n) (take at text) ++ drop at text ≡ drop to text
drop-before text at to n is le =
    ap (λ m. drop m (take at text) ++ drop at text) (less-before text at to n is le)
    ∙ sym (drop-append-le to (take at text) (drop at text) (omega (arith, is, length-take-le at text le)))
    ∙ ap (drop to) (take-append-drop at text)

pub take-behind : (text : List ℕ) (at n : ℕ) → take at text ++ take n (drop at text) ≡ take (at + n) text
take-behind text at n =
    ap₂ (λ x y. x ++ y) (sym (take-take at (at + n) text (omega arith))) (sym (drop-take at n text))
    ∙ take-append-drop at (take (at + n) text)

pub moved-left : (text : List ℕ) (at to n : ℕ) (k : List ℕ) (l : Option ℕ) (f : ℕ) (p : Option (ℕ × ℕ))
    → to + n ≡ at → at ≤ length text → field_at text to k l f p ≡ moved_left n (field_at text at k l f p)
moved-left text at to n k l f p is le = made-same _ _ _ _ k l f p
    (sym (take-before text at to n is le)) (sym (drop-before text at to n is le))

pub moved-right : (text : List ℕ) (at to n : ℕ) (k : List ℕ) (l : Option ℕ) (f : ℕ) (p : Option (ℕ × ℕ))
    → to ≡ at + n → field_at text to k l f p ≡ moved_right n (field_at text at k l f p)
moved-right text at to n k l f p is = made-same _ _ _ _ k l f p
    (ap (λ m. take m text) is ∙ sym (take-behind text at n))
    (ap (λ m. drop m text) is ∙ sym (drop-drop n at text))

-- a text with a part taken out to the left of its cursor, or to the right
pub deleted-left : (text new : List ℕ) (at from n : ℕ) (j : List ℕ) (l : Option ℕ) (f : ℕ) (p : Option (ℕ × ℕ))
    → from + n ≡ at → at ≤ length text → take from new ≡ take from text → drop from new ≡ drop at text
    → field_at new from j l f p ≡ cut_left n (field_at text at j l f p)
deleted-left text new at from n j l f p is le front back = made-same _ _ _ _ j l f p
    (front ∙ sym (take-before text at from n is le)) back

pub deleted-right : (text new : List ℕ) (at to n : ℕ) (j : List ℕ) (l : Option ℕ) (f : ℕ) (p : Option (ℕ × ℕ))
    → to ≡ at + n → take at new ≡ take at text → drop at new ≡ drop to text
    → field_at new at j l f p ≡ cut_right n (field_at text at j l f p)
deleted-right text new at to n j l f p is front back = made-same _ _ _ _ j l f p
    front (back ∙ ap (λ m. drop m text) is ∙ sym (drop-drop n at text))

-- the part that is taken out
pub part-left : (text : List ℕ) (at from n : ℕ) → from + n ≡ at → at ≤ length text
    → drop (length (take at text) - n) (take at text) ≡ slice_range text from at
part-left text at from n is le =
    ap (λ m. drop m (take at text)) (less-before text at from n is le)
    ∙ ap (λ m. drop from (take m text)) (sym is) ∙ drop-take from n text
    ∙ ap (λ m. take m (drop from text)) (omega (arith, is))

pub part-right : (text : List ℕ) (at to n : ℕ) → to ≡ at + n → take n (drop at text) ≡ slice_range text at to
part-right text at to n is = ap (λ m. take m (drop at text)) (omega (arith, is))

-- a text with a part taken out that is kept
pub killed-left : (text new : List ℕ) (at from n : ℕ) (j k : List ℕ) (l : Option ℕ) (f : ℕ) (p : Option (ℕ × ℕ))
    → from + n ≡ at → at ≤ length text → take from new ≡ take from text → drop from new ≡ drop at text
    → j ≡ kept_of (slice_range text from at) k
    → field_at new from j l f p ≡ cut_left n (keeping (part_left n (field_at text at k l f p)) (field_at text at k l f p))
killed-left text new at from n j k l f p is le front back kept =
    deleted-left text new at from n j l f p is le front back
    ∙ ap (λ m. cut_left n (field_at text at m l f p))
    (kept ∙ ap (λ part. kept_of part k) (sym (part-left text at from n is le)))

pub killed-right : (text new : List ℕ) (at to n : ℕ) (j k : List ℕ) (l : Option ℕ) (f : ℕ) (p : Option (ℕ × ℕ))
    → to ≡ at + n → take at new ≡ take at text → drop at new ≡ drop to text
    → j ≡ kept_of (slice_range text at to) k
    → field_at new at j l f p ≡ cut_right n (keeping (part_right n (field_at text at k l f p)) (field_at text at k l f p))
killed-right text new at to n j k l f p is front back kept =
    deleted-right text new at to n j l f p is front back
    ∙ ap (λ m. cut_right n (field_at text at m l f p))
    (kept ∙ ap (λ part. kept_of part k) (sym (part-right text at to n is)))
