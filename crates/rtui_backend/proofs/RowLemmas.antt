-- A row has the symbols of a line where the line's pieces stand in it, with blanks after them.
use Rattle.std.proofs.Common.{◌≡◌, ◌↔◌, ℕ, suc, ◌+◌, ◌-◌, ◌<◌, ◌≤◌, List, [], ◌∷◌, ◌++◌, length, take, map, refl, sym, ap, subst}
use Rattle.std.proofs.Common.{◌∙◌, arith, inl, inr}
use Rattle.std.proofs.lemmas.{Bool.cases_lt, List.Sums.sum_by-cons}
use Rattle.rtui_style.specs.Style.{new_style}
use Rattle.rtui_cell.specs.{declared.cell.Cell.Cell, Cell.empty_cell, Look.look_of, Symbol.blank}
use Rattle.rtui_cell.proofs.CellLemmas.{look-empty}
use Rattle.rtui_diff.specs.Cells.{cell}
use Rattle.rtui_text.specs.Text.{line_of, unstyled}
use Rattle.rtui_buffer.specs.{BufferData.empty_cells, Line.line_pieces, Line.line_row}
use Rattle.rtui_buffer.specs.Painting.{Piece, piece_width, piece_at, place_of, columns, AreWide, shown, HasPieces}
use Rattle.rtui_buffer.proofs.{EmptyLemmas.cell-empty, RowLemmas.HasPieces-row, LineLemmas.columns-line, LineLemmas.AreWide-line}
use Rattle.rtui_backend.specs.Inner.{symbol_in, AreBlank, Stand, HasLine}
use Rattle.rtui_backend.proofs.LineLemmas.{look_at-cell}

-- pieces and others after them
pub stand-append : (row : ℕ → List ℕ) (ps qs : List Piece) (a : ℕ)
    → Stand row a (ps ++ qs) ↔ (Stand row a ps × Stand row (a + columns ps) qs)
unfolding Stand
stand-append row [] qs a = let e : a + columns [] ≡ a = omega arith in (λ h. (tt, rw e h), λ h. rw e at h.1)
stand-append row (p ∷ ps) qs a =
    let e : a + columns (p ∷ ps) ≡ a + piece_width p + columns ps = omega (arith, sum_by-cons piece_width p ps) in
    let rest = stand-append row ps qs (a + piece_width p) in
    (λ h. let both = rest.0 h.1 in ((h.0, both.0), rw e both.1), λ h. (h.0.0, rest.1 (h.0.1, rw e at h.1)))

-- where pieces stand, they stand in a row exactly if it has the same symbols there
stand-agree : (r t : ℕ → List ℕ) (ps : List Piece) (a : ℕ) → AreWide ps → Stand t a ps
    → Stand r a ps ↔ ((c : ℕ) → a ≤ c → c < a + columns ps → r c ≡ t c)
unfolding Stand
stand-agree r t [] a wide g = (λ h c le lt. absurd (omega arith), λ same. tt)
stand-agree r t (p ∷ ps) a wide g =
    let sum : columns (p ∷ ps) ≡ piece_width p + columns ps = sum_by-cons piece_width p ps in
    let some : 0 < piece_width p = wide.0 in
    let rest = stand-agree r t ps (a + piece_width p) wide.1 g.1 in (
      λ h c le lt. elim (cases_lt c (a + piece_width p)) [
        | inl here ↦ elim (cases_lt a c) [
          | inl later ↦ h.0.others c (omega arith) here ∙ sym (g.0.others c (omega arith) here)
          | inr first ↦ let e : a ≡ c = omega arith in subst (λ i. r i ≡ t i) e (h.0.first ∙ sym g.0.first)
        ]
        | inr past ↦ rest.0 h.1 c past (omega arith)
      ],
      λ same. (
        record {
          first = same a (omega arith) (omega arith) ∙ g.0.first;
          others = λ c le lt. same c (omega arith) (omega arith)
              ∙ g.0.others c le lt;
        },
        rest.1 (λ c le lt. same c (omega arith) (omega arith)),
      ),
    )

-- pieces stand where they were painted
painted-stand : (row : ℕ → List ℕ) (ps : List Piece) (at : ℕ) → AreWide ps
    → ((k : ℕ) → k < length ps → row (place_of at ps k) ≡ (piece_at ps k).symbol)
    → ((k j : ℕ) → k < length ps → 0 < j → j < piece_width (piece_at ps k) → row (place_of at ps k + j) ≡ blank) → Stand row at ps
unfolding Stand
painted-stand row [] at wide starts others = tt
painted-stand row (p ∷ ps) at wide starts others =
    let here : at + columns [] ≡ at = omega arith in
    let some : 0 < piece_width p = wide.0 in
    let next : (k : ℕ) → at + piece_width p + columns (take k ps) ≡ at + columns (take (suc k) (p ∷ ps)) =
    λ k. omega (arith, sum_by-cons piece_width p (take k ps)) in (
      record {
        first = ap row (sym here) ∙ starts 0 (omega arith);
        others = λ c le lt. let e : at + columns [] + (c - at) ≡ c = omega arith in
            ap row (sym e) ∙ others 0 (c - at) (omega arith) (omega arith) (omega arith);
      },
      painted-stand row ps (at + piece_width p) wide.1
          (λ k lt. ap row (next k) ∙ starts (suc k) (omega arith))
          (λ k j lt pos low. ap (λ i. row (i + j)) (next k) ∙ others (suc k) j (omega arith) pos low),
    )

shown-symbol : (p : Piece) (c : Cell) → (look_of (shown p c)).symbol ≡ p.symbol
unfolding look_of
shown-symbol p c = refl

module _ (w : ℕ) (ts : List (List ℕ)) where
  abbrev line : List Piece
  line = line_pieces w new_style (map unstyled ts)

  abbrev cells : List Cell
  cells = line_row w (line_of (map unstyled ts))

  abbrev symbols : ℕ → List ℕ
  symbols = symbol_in cells

  wide : AreWide line
  wide = AreWide-line w new_style (map unstyled ts)

  by-cells : (a : ℕ) → symbols a ≡ (look_of (cell cells a)).symbol
  by-cells a = ap (λ l. l.symbol) (look_at-cell cells a)

  has : HasPieces 0 line (empty_cells w) cells
  has = HasPieces-row w (line_of (map unstyled ts))

  blank-at : (a : ℕ) → cell cells a ≡ empty_cell → symbols a ≡ blank
  blank-at a e = by-cells a ∙ ap (λ c. (look_of c).symbol) e ∙ ap (λ l. l.symbol) look-empty

  line-stands : Stand symbols 0 line
  line-stands =
      painted-stand symbols line 0 wide
      (λ k lt. by-cells (place_of 0 line k) ∙ ap (λ c. (look_of c).symbol) (has.starts k lt) ∙ shown-symbol (piece_at line k)
      (cell (empty_cells w) (place_of 0 line k)))
      (λ k j lt pos low. blank-at (place_of 0 line k + j) (has.behind k j lt pos low))

  line-blank : (c : ℕ) → columns line ≤ c → symbols c ≡ blank
  line-blank c le = blank-at c (has.outside.behind c (omega arith) ∙ cell-empty w c)

  pub has-line : (row : ℕ → List ℕ) → Stand row 0 line → AreBlank row (columns line) w → HasLine (line_of (map unstyled ts)) w row
  has-line row stand blanks a lt = elim (cases_lt a (columns line)) [
    | inl before ↦ (stand-agree row symbols line 0 wide line-stands).0 stand a (omega arith) (omega arith)
    | inr past ↦ blanks a past lt ∙ sym (line-blank a past)
  ]

  pub line-had : (row : ℕ → List ℕ) → HasLine (line_of (map unstyled ts)) w row → Stand row 0 line × AreBlank row (columns line) w
  line-had row same =
      let le = columns-line w new_style (map unstyled ts) in (
        (stand-agree row symbols line 0 wide line-stands).1 (λ c _ lt. same c (omega arith)),
        λ c past lt. same c lt
            ∙ line-blank c past,
      )
