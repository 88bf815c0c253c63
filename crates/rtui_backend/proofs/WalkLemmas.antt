-- How the walk along a row goes on.
use Rattle.std.proofs.Common.{◌≡◌, ◌↔◌, ℕ, ◌+◌, ◌-◌, ◌<◌, ◌≤◌, true, Bool, List, [], ◌∷◌, ◌++◌, map, Option, Some, None, sym, ap}
use Rattle.std.proofs.Common.{◌∙◌, arith, append_assoc}
use Rattle.std.specs.Borrow.{Bor}
use Rattle.std.proofs.lemmas.{List.map-append, List.append-nil, List.Sums.sum_by-cons}
use Rattle.rtui_style.specs.Style.{new_style}
use Rattle.rtui_text.specs.Text.{unstyled, line_of}
use Rattle.rtui_cell.specs.Width.{text_width}
use Rattle.rtui_buffer.specs.Painting.{painted_width, kept, Piece, piece_of, pieces, piece_width, columns, text_pieces}
use Rattle.rtui_buffer.proofs.PaintLemmas.{kept-nil, kept-skip, kept-take, kept-full, painted_width-painted}
use Rattle.rtui_buffer.specs.Line.{line_pieces}
use Rattle.rtui_buffer.proofs.LineLemmas.{columns-append, line_pieces-nil, line_pieces-cons}
use Rattle.rtui_backend.specs.Inner.{AreBlank, HasSymbol, Stand, EndsAfter, HasLine}
use Rattle.rtui_backend.proofs.RowLemmas.{stand-append, has-line, line-had}

module _ (row : ℕ → List ℕ) where
  pub ends-nil : (a : ℕ) → EndsAfter row a [] (Some a)
  unfolding Stand
  ends-nil a = (let e : a ≡ a + columns [] = omega arith in e, tt)

  pub ends-cons : (a : ℕ) (p : Piece) (ps : List Piece) (o : Option ℕ) → HasSymbol row a p.symbol
      → EndsAfter row (a + piece_width p) ps o → EndsAfter row a (p ∷ ps) o
  unfolding Stand
  ends-cons a p ps None has off = λ h. off h.1
  ends-cons a p ps (Some b) has end = (
    let e : b ≡ a + columns (p ∷ ps) = omega (arith, end.0, sum_by-cons piece_width p ps) in
        e,
    (has, end.1),
  )

  pub ends-not : (a : ℕ) (p : Piece) (ps : List Piece) → (HasSymbol row a p.symbol → ⊥) → EndsAfter row a (p ∷ ps) None
  unfolding Stand
  ends-not a p ps off = λ h. off h.0

  ends-append : (a b : ℕ) (ps qs : List Piece) (o : Option ℕ) → b ≡ a + columns ps → Stand row a ps → EndsAfter row b qs o
      → EndsAfter row a (ps ++ qs) o
  ends-append a b ps qs None e stand off = λ h. off (rw e ((stand-append row ps qs a).0 h).1)
  ends-append a b ps qs (Some c) e stand end = (
    let sum : c ≡ a + columns (ps ++ qs) = omega (arith, end.0, columns-append ps qs) in
        sum,
    (stand-append row ps qs a).1 (stand, rw e at end.1),
  )

-- a turn of the walk along a text, where what is left of it ends as the whole does
module _ (row : ℕ → List ℕ) (room at end : ℕ) (all : List Piece) (left : List (List ℕ))
    (h : (o : Option ℕ) → EndsAfter row end (pieces new_style (kept (room - end) left)) o → EndsAfter row at all o) where
  pub text-end : left ≡ [] → EndsAfter row at all (Some end)
  text-end is = h (Some end) (rw (is, kept-nil (room - end)) (ends-nil row end))

  module _ (g : List ℕ) (gs : List (List ℕ)) (is : left ≡ g ∷ gs) (width : ℕ) (is_width : width ≡ painted_width g) where
    pub text-skip : width ≡ 0 → (o : Option ℕ) → EndsAfter row end (pieces new_style (kept (room - end) gs)) o
        → EndsAfter row at all o
    text-skip none o e = h o (rw (is, kept-skip (room - end) g gs (sym is_width ∙ none)) e)

    pub width-text : 0 < width → width ≡ text_width g
    width-text some = is_width ∙ painted_width-painted g (omega arith)

    pub text-full : 0 < width → room - end < width → EndsAfter row at all (Some end)
    text-full some wide = h (Some end) (rw (is, kept-full (room - end) g gs (omega arith) (omega (arith, width-text some)))
        (ends-nil row end))

    pub text-not : 0 < width → width ≤ room - end → (HasSymbol row end g → ⊥) → EndsAfter row at all None
    text-not some fits off =
        h None (rw (is, kept-take (room - end) g gs (omega arith) (omega (arith, width-text some)))
        (ends-not row end (piece_of new_style g) (pieces new_style (kept (room - end - text_width g) gs)) off))

    pub text-take : 0 < width → width ≤ room - end → HasSymbol row end g →
        (o : Option ℕ) → EndsAfter row (end + width) (pieces new_style (kept (room - (end + width)) gs)) o
        → EndsAfter row at all o
    text-take some fits has o e =
        let rest : room - (end + width) ≡ room - end - text_width g = omega (arith, width-text some) in
        h o (rw (is, kept-take (room - end) g gs (omega arith) (omega (arith, width-text some)))
        (ends-cons row end (piece_of new_style g) (pieces new_style (kept (room - end - text_width g) gs)) o has
        (rw (rest, width-text some) at e)))

-- the pieces of unstyled texts and one more after them
line-push : (w : ℕ) (ts : List (List ℕ)) (t : List ℕ) → line_pieces w new_style (map unstyled (ts ++ t ∷ []))
    ≡ line_pieces w new_style (map unstyled ts)
    ++ text_pieces (w - columns (line_pieces w new_style (map unstyled ts))) new_style t
line-push w [] t =
    let none = line_pieces-nil w new_style in
    let all : w - columns [] ≡ w = omega arith in
    line_pieces-cons w new_style (unstyled t) [] ∙ ap (λ qs. text_pieces w new_style t ++ qs)
    (line_pieces-nil (w - columns (text_pieces w new_style t)) new_style) ∙ append-nil (text_pieces w new_style t)
    ∙ sym (ap (λ ps. ps ++ text_pieces (w - columns ps) new_style t) none ∙ ap (λ n. text_pieces n new_style t) all)
line-push w (u ∷ ts) t =
    let ps : List Piece = text_pieces w new_style u in
    let rest : List Piece = line_pieces (w - columns ps) new_style (map unstyled ts) in
    let whole = line_pieces-cons w new_style (unstyled u) (map unstyled ts) in
    let left : w - columns (ps ++ rest) ≡ w - columns ps - columns rest = omega (arith, columns-append ps rest) in
    line_pieces-cons w new_style (unstyled u) (map unstyled (ts ++ t ∷ []))
    ∙ ap (λ qs. ps ++ qs) (line-push (w - columns ps) ts t)
    ∙ sym (ap (λ qs. qs ++ text_pieces (w - columns qs) new_style t) whole ∙ append_assoc ps rest _
    ∙ ap (λ n. ps ++ (rest ++ text_pieces n new_style t)) left)

-- a turn of the walk along a line, where its texts so far end in a column, and if they don't stand there
module _ (row : ℕ → List ℕ) (w : ℕ) (texts : List (Bor (List ℕ))) (text : Bor (List ℕ)) where
  abbrev now : List (Bor (List ℕ)) → List (List ℕ)
  now ts = map (λ (t : Bor (List ℕ)). t.now) ts

  abbrev former : List Piece
  former = line_pieces w new_style (map unstyled (now texts))

  pushed : line_pieces w new_style (map unstyled (now (texts ++ text ∷ []))) ≡ former ++ text_pieces
      (w - columns former) new_style text.now
  pushed = ap (λ (ts : List (List ℕ)). line_pieces w new_style (map unstyled ts))
      (map-append (λ (t : Bor (List ℕ)). t.now) texts (text ∷ [])) ∙ line-push w (now texts) text.now

  pub line-turn : (x : ℕ) (end o : Option ℕ) → EndsAfter row 0 former end → end ≡ Some x
      → EndsAfter row x (text_pieces (w - x) new_style text.now) o
      → EndsAfter row 0 (line_pieces w new_style (map unstyled (now (texts ++ text ∷ [])))) o
  line-turn x end o done is more =
      let at = rw is at done in
      let here : x ≡ columns former = omega (arith, at.0) in
      rw pushed (ends-append row 0 (columns former) former _ o (omega arith) at.1 (rw here at more))

  pub line-over : (end : Option ℕ) → EndsAfter row 0 former end → end ≡ None
      → EndsAfter row 0 (line_pieces w new_style (map unstyled (now (texts ++ text ∷ [])))) None
  line-over end done is = let off = rw is at done in
      λ h. off ((stand-append row former (text_pieces (w - columns former) new_style text.now) 0).0 (rw pushed at h)).0

-- where its texts end, a row has a line if blanks are after them, and not if they don't stand
module _ (row : ℕ → List ℕ) (w : ℕ) (ts : List (List ℕ)) where
  pub line-if : (end : ℕ) (b : Bool) → EndsAfter row 0 (line_pieces w new_style (map unstyled ts)) (Some end)
      → ((b ≡ true) ↔ AreBlank row end w) → (b ≡ true) ↔ HasLine (line_of (map unstyled ts)) w row
  line-if end b at blank =
      let here : end ≡ columns (line_pieces w new_style (map unstyled ts)) = omega (arith, at.0) in
      (λ t. has-line w ts row at.1 (rw here at (blank.0 t)), λ h. blank.1 (rw here (line-had w ts row h).1))

  pub no-line : EndsAfter row 0 (line_pieces w new_style (map unstyled ts)) None → HasLine (line_of (map unstyled ts)) w row → ⊥
  no-line off h = off (line-had w ts row h).0
