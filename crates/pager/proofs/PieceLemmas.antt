-- Pieces of what a reader gives.
use Rattle.std.proofs.Common.{◌≡◌, ℕ, ◌+◌, ◌-◌, ◌<◌, Bool, true, false, Option, Some, None, inr}
use Rattle.std.proofs.Common.{List, [], ◌∷◌, ◌++◌, length, take, drop, get_or, length-drop, append_assoc}
use Rattle.std.proofs.Common.{ap, sym, ◌∙◌, subst, eqb-true, arith}
use Rattle.std.specs.Io.KnownBytes.{Keeps, IsAtEnd}
use Rattle.pager.specs.declared.piece.Piece.{Piece}
use Rattle.pager.specs.Growing.{AreWholeLines, IsPieceOf, GivesPiece, GivesKnownPiece, to_come}
use Rattle.std.proofs.lemmas.List.{drop_all, take-append-drop, take_all, take_more, get_or-drop}
use Rattle.memchr.specs.Find.{Passes, is_byte}

-- a piece of what is kept is one of what is to come
pub gives-on : (rest rest' : List ℕ) (old left : Option (List ℕ)) (now : List ℕ) (piece : Piece)
    → Keeps (to_come rest old) (to_come now left) → (piece.is_last ≡ true → IsAtEnd left)
    → GivesPiece now piece rest' → GivesKnownPiece (to_come rest old) piece (to_come rest' left)
gives-on rest rest' None left now piece keeps end gives = tt
gives-on rest rest' (Some xs) None now piece keeps end gives = absurd keeps
gives-on rest rest' (Some xs) (Some ys) now piece keeps end gives = record {
  raw = gives.raw;
  is = gives.is;
  first = sym keeps ∙ ap (λ l. l ++ ys) gives.first ∙ append_assoc gives.raw rest' ys;
  whole = gives.whole;
  all = λ last. ap (λ l. l ++ ys) (gives.all last) ∙ end last;
}

-- so it is where the end was known before it was cut off
pub gives-next : (rest rest' : List ℕ) (old left left' : Option (List ℕ)) (now : List ℕ) (piece : Piece) (is_last : Bool)
    → Keeps (to_come rest old) (to_come now left) → (is_last ≡ true → IsAtEnd left) → left' ≡ left
    → GivesPiece now piece rest' → piece.is_last ≡ is_last → GivesKnownPiece (to_come rest old) piece (to_come rest' left')
gives-next rest rest' old left left' now piece is_last keeps end same gives last =
    subst (λ (l : Option (List ℕ)). GivesKnownPiece (to_come rest old) piece (to_come rest' l)) (sym same)
    (gives-on rest rest' old left now piece keeps (λ yes. end (sym last ∙ yes)) gives)

-- a piece that was cut off is one of what was read
pub cut-gives : (piece : Piece) (rest after : List ℕ) (count : ℕ) (is_last : Bool)
    → IsPieceOf (take count rest) piece → piece.is_last ≡ is_last → after ≡ drop count rest
    → (is_last ≡ false → AreWholeLines (take count rest)) → (is_last ≡ true → count ≡ length rest)
    → GivesPiece rest piece after
cut-gives piece rest after count is_last is last later whole all = record {
  raw = take count rest;
  is = is;
  first = sym (take-append-drop count rest) ∙ ap (λ l. take count rest ++ l) (sym later);
  whole = λ no. whole (sym last ∙ no);
  all = λ yes. later ∙ ap (λ n. drop n rest) (all (sym last ∙ yes)) ∙ drop_all (length rest) rest (omega arith);
}

-- lines are whole through the last line's end, sought behind so many first bytes
pub through-last : (bytes : List ℕ) (from last : ℕ)
    → last < length (take (length bytes - from) (drop from bytes))
    → Passes (is_byte 10) (take (length bytes - from) (drop from bytes)) last
    → AreWholeLines (take (from + last + 1) bytes)
through-last bytes from last within ends =
    let part : take (length bytes - from) (drop from bytes) ≡ drop from bytes =
    take_all _ _ (omega (arith, length-drop from bytes)) in
    let here : get_or bytes (from + last) 0 ≡ 10 =
    sym (get_or-drop from bytes last 0) ∙ ap (λ l. get_or l last 0) (sym part) ∙ eqb-true _ _ ends in
    let below : from + last < length bytes =
    omega (arith, within, ap length part, length-drop from bytes) in
    let front = take (from + last) bytes in
    inr (front, take_more bytes (from + last) 0 below ∙ ap (λ b. front ++ b ∷ []) here)
