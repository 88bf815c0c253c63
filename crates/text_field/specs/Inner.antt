-- What private functions promise one another.
use Rattle.std.specs.Prelude.{◌≡◌, ℕ, ◌+◌, List, ◌++◌, length, take, drop, filter, chars, encode_utf8_all}
use Rattle.std.specs.Str.{IsCharBoundary}
use Rattle.text_field.specs.Field.{is_typed}

-- the first n characters of a text that are typed
abbrev pub typed_front : ℕ → List ℕ → List ℕ
typed_front n text = encode_utf8_all (take n (filter is_typed (chars text)))

-- a piece was put into a text at a place, and ends at another one
pub record IsPutIn (at : ℕ) (piece old new : List ℕ) (end : ℕ) : Type 0 where
  pub place : end ≡ at + length piece
  pub front : take end new ≡ take at old ++ piece
  pub back : drop end new ≡ drop at old
  pub boundary : IsCharBoundary new end
