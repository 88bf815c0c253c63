-- Printable characters of ASCII in a line: each is a grapheme and takes one column.
use Rattle.std.proofs.Common.{◌≡◌, ℕ, suc, ◌+◌, ◌-◌, ◌<◌, ◌≤◌, ◌==◌, true, false, List, [], ◌∷◌, ◌++◌, length, take, drop, refl}
use Rattle.std.proofs.Common.{inl, inr, nat_le, ap, sym, subst, ◌∙◌, arith, Result}
use Rattle.std.proofs.lemmas.{Bool.Decides.nat_tests, Bool.cases_lt, List.length-take-le}
use Rattle.std.specs.declared.alloc.AllocError.{AllocError}
use Rattle.std.specs.Str.{IsUtf8, IsCharBoundary}
use Rattle.unicode_segmentation.specs.Grapheme.{graphemes}
use Rattle.ratatui_core.specs.{Layout.Rect, Buffer.BufferData}
use Rattle.ratatui_core.proofs.BufferLemmas.{one_byte}
use Rattle.rtui_text.specs.Printable.{IsPrintable, ArePrintable, IsPrintableFront, singles}
use Rattle.rtui_text.proofs.PrintableLemmas.{front-bytes, front-boundary, graphemes-front}
use Rattle.rtui_drawing.specs.Drawings.{IsDone, DrawsAll}
use Rattle.rtui_drawing.proofs.DrawingLemmas.{draws-then}
use Rattle.widget_area.specs.declared.plan.Plan.{Plan}
use Rattle.widget_area.specs.declared.widget.TextAreaWidget.{TextAreaWidget}
use Rattle.widget_area.specs.Columns.{columns_of_grapheme, past, column_past}
use Rattle.widget_area.specs.TextAreas.{is_selected, grapheme_drawing, graphemes_drawing, wrapped_row, wrapped_graphemes_drawing}
use Rattle.widget_area.proofs.WrapLemmas.{wrapped-next, wrapped-hidden}
use Rattle.widget_area.proofs.RowLemmas.{grapheme-next, graphemes-end}

-- a part of a text of such characters
pub plain-front : (text : List ℕ) (n : ℕ) → ArePrintable text → n ≤ length text → IsPrintableFront text n
plain-front text n all le = record {
  within = le;
  printable = λ k lt. all k (omega (arith, lt, le));
  followed = λ some more. omega (arith, (all n more).high);
}

pub plain-boundary : (text : List ℕ) (n : ℕ) → IsUtf8 text → ArePrintable text → n ≤ length text → IsCharBoundary text n
plain-boundary text n utf8 all le = front-boundary text n utf8 (plain-front text n all le)

pub plain-graphemes : (text : List ℕ) (n : ℕ) → ArePrintable text → n ≤ length text
    → graphemes true text ≡ singles (take n text) ++ graphemes true (drop n text)
plain-graphemes text n all le = graphemes-front text n (plain-front text n all le)

pub ruleset front_rules = (plain-front, plain-boundary, plain-graphemes)

columns-one : (tab column b : ℕ) → IsPrintable b → columns_of_grapheme tab column (b ∷ []) ≡ 1
columns-one tab column b p =
    let no : (b == 9) ≡ false = grind (arith, nat_tests, p.low) in
    rw no (one_byte b)

past-past : (a n : ℕ) → past (past a 1) n ≡ past a (suc n)
past-past a n = omega arith

past-none : (a : ℕ) → a ≤ 18446744073709551615 → a ≡ past a 0
past-none a fits = omega (arith, fits)

rest-printable : (b : ℕ) (bs : List ℕ) → ArePrintable (b ∷ bs) → ArePrintable bs
rest-printable b bs all k lt = all (suc k) (omega (arith, lt))

-- the column after them
singles-past : (tab column : ℕ) (bs : List ℕ) (gs : List (List ℕ)) → ArePrintable bs → column ≤ 18446744073709551615
    → column_past tab (past column (length bs)) gs ≡ column_past tab column (singles bs ++ gs)
singles-past tab column [] gs all fits = ap (λ c. column_past tab c gs) (sym (past-none column fits))
singles-past tab column (b ∷ bs) gs all fits =
    ap (λ c. column_past tab c gs) (sym (past-past column (length bs)))
    ∙ singles-past tab (past column 1) bs gs (rest-printable b bs all) (omega arith)
    ∙ ap (λ n. column_past tab (past column n) (singles bs ++ gs)) (sym (columns-one tab column b (all 0 (omega arith))))

pub front-past : (tab from n : ℕ) (text : List ℕ) → from ≤ 18446744073709551615 → IsPrintableFront text n
    → graphemes true text ≡ singles (take n text) ++ graphemes true (drop n text)
    → column_past tab (past from n) (graphemes true (drop n text)) ≡ column_past tab from (graphemes true text)
front-past tab from n text fits front is =
    ap (λ m. column_past tab (past from m) (graphemes true (drop n text))) (sym (length-take-le n text front.within))
    ∙ singles-past tab from (take n text) (graphemes true (drop n text)) (front-bytes text n front) fits
    ∙ ap (column_past tab from) (sym is)

-- those that begin in rows above the view draw nothing
singles-hidden : {A : Type 0} (w : TextAreaWidget) (p : Plan) (r : Rect) (begin column byte : ℕ) (bs : List ℕ) (gs : List (List ℕ))
    (result : Result A AllocError) (old new : BufferData) → 0 < r.height → column ≤ 18446744073709551615
    → byte ≤ 18446744073709551615 → ArePrintable bs
    → ((k : ℕ) → column ≤ k → k < column + length bs → wrapped_row p begin k < p.above)
    → IsDone (wrapped_graphemes_drawing w p r begin (past column (length bs)) (past byte (length bs)) gs) r result old new
    → IsDone (wrapped_graphemes_drawing w p r begin column byte (singles bs ++ gs)) r result old new
singles-hidden w p r begin column byte [] gs result old new some fits byte_fits all above done =
    subst (λ c. IsDone (wrapped_graphemes_drawing w p r begin c byte gs) r result old new) (sym (past-none column fits))
    (subst (λ b. IsDone (wrapped_graphemes_drawing w p r begin (past column 0) b gs) r result old new)
    (sym (past-none byte byte_fits)) done)
singles-hidden w p r begin column byte (b ∷ bs) gs result old new some fits byte_fits all above done =
    let one : columns_of_grapheme w.tab column (b ∷ []) ≡ 1 = columns-one w.tab column b (all 0 (omega arith)) in
    let row : wrapped_row p begin column < p.above = above column (omega arith) (omega arith) in
    let rest : IsDone (wrapped_graphemes_drawing w p r begin (past column 1) (past byte 1) (singles bs ++ gs)) r result old new =
    singles-hidden w p r begin (past column 1) (past byte 1) bs gs result old new some (omega arith) (omega arith)
    (rest-printable b bs all) (λ k le lt. above k (omega (arith, le)) (omega (arith, lt)))
    (subst (λ c. IsDone (wrapped_graphemes_drawing w p r begin c (past (past byte 1) (length bs)) gs) r result old new)
    (sym (past-past column (length bs)))
    (subst (λ c. IsDone (wrapped_graphemes_drawing w p r begin (past column (suc (length bs))) c gs) r result old new)
    (sym (past-past byte (length bs))) done)) in
    let here : IsDone (wrapped_graphemes_drawing w p r begin (past column (columns_of_grapheme w.tab column (b ∷ []))) (past byte 1)
    (singles bs ++ gs)) r result old new = subst (λ n. IsDone (wrapped_graphemes_drawing w p r begin (past column n) (past byte 1)
    (singles bs ++ gs)) r result old new) (sym one) rest in
    rw (
      wrapped-next w p r begin column byte (b ∷ []) (singles bs ++ gs) ((b ∷ []) ∷ (singles bs ++ gs)) refl (omega (arith, row, some)),
      wrapped-hidden w p r.width begin column byte (wrapped_row p begin column) (b ∷ []) refl row,
    ) (draws-then result refl here)

pub front-hidden : {A : Type 0} (w : TextAreaWidget) (p : Plan) (r : Rect) (begin column byte n hidden : ℕ) (text : List ℕ)
    (result : Result A AllocError) (old new : BufferData) → 0 < r.height → column ≤ 18446744073709551615
    → byte ≤ 18446744073709551615 → IsPrintableFront text n
    → graphemes true text ≡ singles (take n text) ++ graphemes true (drop n text) → n ≤ hidden - column
    → ((k : ℕ) → k < hidden → wrapped_row p begin k < p.above)
    → IsDone (wrapped_graphemes_drawing w p r begin (past column n) (past byte n) (graphemes true (drop n text))) r result old new
    → IsDone (wrapped_graphemes_drawing w p r begin column byte (graphemes true text)) r result old new
front-hidden w p r begin column byte n hidden text result old new some fits byte_fits front is le above done =
    let size : length (take n text) ≡ n = length-take-le n text front.within in
    subst (λ gs. IsDone (wrapped_graphemes_drawing w p r begin column byte gs) r result old new) (sym is)
    (singles-hidden w p r begin column byte (take n text) (graphemes true (drop n text)) result old new some fits byte_fits
    (front-bytes text n front) (λ k low lt. above k (omega (arith, low, lt, size, le)))
    (subst (λ m. IsDone (wrapped_graphemes_drawing w p r begin (past column m) (past byte m) (graphemes true (drop n text)))
    r result old new) (sym size) done))

-- and those left of the view draw nothing, if nothing is selected
left-drawn : (w : TextAreaWidget) (p : Plan) (room column byte : ℕ) (g : List ℕ) (r : Rect) (old : BufferData)
    → column < p.left → p.to ≤ p.from → DrawsAll (grapheme_drawing w p room column byte g) r old old
left-drawn w p room column byte g r old left none =
    let out : nat_le p.left column ≡ false = grind (arith, nat_tests) in
    let plain : is_selected p byte ≡ false = grind (arith, nat_tests) in
    rw (out, plain) (old, refl, refl)

singles-left : {A : Type 0} (w : TextAreaWidget) (p : Plan) (r : Rect) (room column byte : ℕ) (bs : List ℕ) (gs : List (List ℕ))
    (result : Result A AllocError) (old new : BufferData) → 0 < room → column ≤ 18446744073709551615
    → byte ≤ 18446744073709551615 → ArePrintable bs → (0 < length bs → column + length bs ≤ p.left)
    → (0 < length bs → p.to ≤ p.from)
    → IsDone (graphemes_drawing w p room (past column (length bs)) (past byte (length bs)) gs) r result old new
    → IsDone (graphemes_drawing w p room column byte (singles bs ++ gs)) r result old new
singles-left w p r room column byte [] gs result old new some fits byte_fits all left none done =
    subst (λ c. IsDone (graphemes_drawing w p room c byte gs) r result old new) (sym (past-none column fits))
    (subst (λ b. IsDone (graphemes_drawing w p room (past column 0) b gs) r result old new)
    (sym (past-none byte byte_fits)) done)
singles-left w p r room column byte (b ∷ bs) gs result old new some fits byte_fits all left none done =
    let one : columns_of_grapheme w.tab column (b ∷ []) ≡ 1 = columns-one w.tab column b (all 0 (omega arith)) in
    let within : column + suc (length bs) ≤ p.left = left (omega arith) in
    let rest : IsDone (graphemes_drawing w p room (past column 1) (past byte 1) (singles bs ++ gs)) r result old new =
    singles-left w p r room (past column 1) (past byte 1) bs gs result old new some (omega arith) (omega arith)
    (rest-printable b bs all) (λ more. omega (arith, within)) (λ more. none (omega arith))
    (subst (λ c. IsDone (graphemes_drawing w p room c (past (past byte 1) (length bs)) gs) r result old new)
    (sym (past-past column (length bs)))
    (subst (λ c. IsDone (graphemes_drawing w p room (past column (suc (length bs))) c gs) r result old new)
    (sym (past-past byte (length bs))) done)) in
    let here : IsDone (graphemes_drawing w p room (past column (columns_of_grapheme w.tab column (b ∷ []))) (past byte 1)
    (singles bs ++ gs)) r result old new = subst (λ n. IsDone (graphemes_drawing w p room (past column n) (past byte 1)
    (singles bs ++ gs)) r result old new) (sym one) rest in
    rw (grapheme-next w p room column byte (b ∷ []) (singles bs ++ gs) ((b ∷ []) ∷ (singles bs ++ gs)) refl
    (omega (arith, within, some)))
    (draws-then result (left-drawn w p room column byte (b ∷ []) r old (omega (arith, within)) (none (omega arith))) here)

pub front-left : {A : Type 0} (w : TextAreaWidget) (p : Plan) (r : Rect) (room column byte n hidden : ℕ) (text : List ℕ)
    (result : Result A AllocError) (old new : BufferData) → column ≤ 18446744073709551615
    → byte ≤ 18446744073709551615 → IsPrintableFront text n
    → graphemes true text ≡ singles (take n text) ++ graphemes true (drop n text) → n ≤ hidden - column
    → hidden ≤ p.left → (0 < hidden → p.to ≤ p.from)
    → IsDone (graphemes_drawing w p room (past column n) (past byte n) (graphemes true (drop n text))) r result old new
    → IsDone (graphemes_drawing w p room column byte (graphemes true text)) r result old new
front-left w p r room column byte n hidden text result old new fits byte_fits front is le left none done = elim (cases_lt 0 room) [
  | inl some ↦ let size : length (take n text) ≡ n = length-take-le n text front.within in
      subst (λ gs. IsDone (graphemes_drawing w p room column byte gs) r result old new) (sym is)
      (singles-left w p r room column byte (take n text) (graphemes true (drop n text)) result old new some fits byte_fits
      (front-bytes text n front) (λ more. omega (arith, size, le, left, more))
      (λ more. none (omega (arith, size, le, more)))
      (subst (λ m. IsDone (graphemes_drawing w p room (past column m) (past byte m) (graphemes true (drop n text)))
      r result old new) (sym size) done))
  | inr closed ↦ rw (graphemes-end w p room column byte (graphemes true text) (omega (arith, closed)))
      (rw (graphemes-end w p room (past column n) (past byte n) (graphemes true (drop n text)) (omega (arith, closed))) at done)
]
