-- What covers a column, by looks alone, and why no update between settled frames lies there.
use Rattle.std.proofs.Common.{◌≡◌, inl, inr, ℕ, ◌+◌, ◌-◌, ◌<◌, ◌≤◌, ◌&&◌, nat_lt, nat_eq, if◌then◌else◌, Bool, true, false, List}
use Rattle.std.proofs.Common.{[], ◌∷◌, ◌++◌, All, chars, map, refl, sym, ap, ap₂, subst, ◌∙◌, arith, append-nil}
use Rattle.std.specs.{Borrow.Bor, Iterator.Yields, Iterator.YieldsFirstBy}
use Rattle.std.proofs.lemmas.{Bool.cases_lt, Bool.false≢true, Bool.Decides.nat_tests, List.Elements.All-head}
use Rattle.std.proofs.lemmas.{List.Elements.All-tail}
use Rattle.ratatui_core.specs.Buffer.{width_of, width_by, empty_cell, Grid, Update, put, puts, Look, look_of, symbol_text}
use Rattle.ratatui_core.specs.Buffer.{text_width, Cell, cell_at, is_forced, is_forced_by, IsDiff, IsSettled, Shows, ShowsColumn}
use Rattle.ratatui_core.specs.Buffer.{IsBefore, Rises, IsCellOfNext}
use Rattle.ratatui_core.proofs.BufferLemmas.{same_look, same_width, look-empty, width-empty}
use Rattle.ratatui_core.specs.DiffOption as DiffOption
use Rattle.ratatui_core.specs.{Layout.Position, Backend.Screen}
use Rattle.ansi_model.specs.Columns.{Column, Columns, look_in, is_continuation}
use Rattle.ansi_model.specs.{Columns.Column.Unknown, Columns.Column.Shows as Standing, Symbols.is_one_plain}
use Rattle.ansi_model.specs.{Symbols.printed_columns}
use Rattle.ratatui_ansi.specs.{Covered.IsCovered, Covered.IsOpen, Covered.IsOrdinary, Cells.IsVacant, Refusals.lent_update}
use Rattle.ratatui_ansi.specs.{Refusals.StopsInDiff}
use Rattle.ratatui_ansi.specs.declared.draw.CellError.TheVariants.{Cut}
use Rattle.ansi_model.specs.Screens.{HasOwnWidth, HaveOwnWidths, IsWhole, IsWholeAt}

-- ---- a column after the first one of its symbol is covered

covered-at : (c : Columns) (a b : ℕ) (column : Column) → HasOwnWidth column → IsWholeAt (λ k. c k b) a column
    → is_continuation column ≡ true → IsCovered (λ i j. look_in (c i j)) a b
covered-at c a b (Standing look index count) takes whole continuations =
    let inside : index < count = whole.0 in
    let in_row : index ≤ a = whole.1 in
    let some : 0 < index = grind (arith, nat_tests) in
    let first : a - index ≡ (a - index) + 0 = omega arith in
    let head : c (a - index) b ≡ Standing look 0 count = ap (λ k. c k b) first ∙ whole.2 0 (omega arith) in
    let columns : printed_columns (look_in (c (a - index) b)).symbol ≡ count =
    ap (λ column. printed_columns (look_in column).symbol) head ∙ sym takes in
    record { start = a - index; left = omega arith; reaches = omega arith }
covered-at c a b Unknown takes whole continuations = absurd takes

pub covered-continuation : (c : Columns) → HaveOwnWidths c → IsWhole c → (a b : ℕ) → is_continuation (c a b) ≡ true
    → IsCovered (λ i j. look_in (c i j)) a b
covered-continuation c sized whole a b continuations = covered-at c a b (c a b) (sized a b) (whole a b) continuations

-- ---- what puts leave

either : (p : Bool) (look : Look) → (if p then look else look) ≡ look
either true look = refl
either false look = refl

-- a put further right, or in another row
put-right : (w h : ℕ) (u : Update) (g : Grid) (k r : ℕ) → (u.y ≡ r → k < u.x) → put w h u g k r ≡ g k r
put-right w h u g k r right =
    elim (nat_eq r u.y) as (λ p. nat_eq r u.y ≡ p → put w h u g k r ≡ g k r) [
      | true ↦ λ e.
          let row : u.y ≡ r = grind (arith, nat_tests) in
          let far : k < u.x = right row in
          let other : nat_eq k u.x ≡ false = grind (arith, nat_tests) in
          let before : nat_lt u.x k ≡ false = grind (arith, nat_tests) in
          rw (other, before) (either (nat_lt u.x w && nat_lt u.y h && nat_eq r u.y) (g k r))
      | false ↦ λ e.
          let off : (nat_lt u.x w && nat_lt u.y h && nat_eq r u.y) ≡ false = grind (arith, nat_tests) in
          rw off refl
    ] refl

puts-right : (w h : ℕ) (before us : List Update) (g : Grid) (k r : ℕ) (P : Update → Type 0) → All P (before ++ us)
    → ((v : Update) → P v → v.y ≡ r → k < v.x) → puts w h before g k r ≡ g k r
puts-right w h [] us g k r P all right = refl
puts-right w h (v ∷ before) us g k r P all right =
    puts-right w h before us (put w h v g) k r P (All-tail P v (before ++ us) all) right
    ∙ put-right w h v g k r (right v (All-head P v (before ++ us) all))

puts-append : (w h : ℕ) (us vs : List Update) (g : Grid) → puts w h (us ++ vs) g ≡ puts w h vs (puts w h us g)
puts-append w h [] vs g = refl
puts-append w h (u ∷ us) vs g = puts-append w h us vs (put w h u g)

-- ---- one update among others

own-at : (P : Update → Type 0) (before : List Update) (u : Update) (after : List Update) → All P (before ++ u ∷ after) → P u
own-at P [] u after all = All-head P u after all
own-at P (v ∷ before) u after all = own-at P before u after (All-tail P v (before ++ u ∷ after) all)

rises-at : (before : List Update) (u : Update) (after : List Update) → Rises (before ++ u ∷ after) → All (IsBefore u) after
rises-at [] u after rises = rises.0
rises-at (v ∷ before) u after rises = rises-at before u after rises.1

before-right : (u v : Update) (k : ℕ) → k < u.x → IsBefore u v → v.y ≡ u.y → k < v.x
before-right u v k left is row = elim is [
  | inl above ↦ absurd (omega arith)
  | inr same ↦ let further = same.1 in omega arith
]

-- ---- widths

unforced-width : (c : Cell) → is_forced c ≡ false → width_of c ≡ text_width (symbol_text c.symbol)
unfolding is_forced width_of
unforced-width c e = elim c.diff_option as (λ o. is_forced_by o ≡ false
    → width_by o (text_width (symbol_text c.symbol)) ≡ text_width (symbol_text c.symbol)) [
      | DiffOption.None ↦ λ f. refl
      | DiffOption.Skip ↦ λ f. refl
      | DiffOption.AlwaysUpdate ↦ λ f. refl
      | DiffOption.ForcedWidth forced ↦ λ f. absurd (false≢true (sym f))
    ] e

wide-columns : (text : List ℕ) → 1 < printed_columns text → printed_columns text ≡ text_width text
wide-columns text wide = elim (is_one_plain (chars text)) as (λ p. 1 < (if p then 1 else text_width text)
    → (if p then 1 else text_width text) ≡ text_width text) [
      | true ↦ λ e. absurd (omega arith)
      | false ↦ λ e. refl
    ] wide

look-text : (c : Cell) → (look_of c).symbol ≡ symbol_text c.symbol
unfolding look_of
look-text c = refl

-- an unforced cell of more than one column takes those of its text
pub ordinary-width : (c : Cell) → is_forced c ≡ false → 1 < printed_columns (look_of c).symbol
    → width_of c ≡ printed_columns (look_of c).symbol
ordinary-width c unforced wide =
    let columns : printed_columns (look_of c).symbol ≡ text_width (look_of c).symbol = wide-columns (look_of c).symbol wide in
    unforced-width c unforced ∙ sym (columns ∙ ap text_width (look-text c))

-- ---- updates between settled frames

cuts-none : (x y w h width height : ℕ) (former next : List Cell) (g : Grid) (before : List Update) (u : Update)
    (after : List Update)
    → IsDiff x y w h former next (before ++ u ∷ after) → IsSettled w h former → IsSettled w h next
    → ((a b : ℕ) → a < w → b < h → IsOrdinary (cell_at w next a b))
    → x + w ≤ width → y + h ≤ height → Shows x y w h former g → IsOpen g x y h → IsCovered (puts width height before g) u.x u.y
    → IsVacant u.cell
cuts-none x y w h width height former next g before u after diff settled_former settled ordinary fits_x fits_y shows clear covered
    =
    let own : IsCellOfNext x y w h next u = own-at (IsCellOfNext x y w h next) before u after diff.own in
    let column : u.x ≡ x + own.a = own.x in
    let row : u.y ≡ y + own.b = own.y in
    let in_row : own.a < w = own.in_row in
    let start = covered.start in
    let left : start < u.x = covered.left in
    let seen : Grid = puts width height before g in
    let reaches : u.x < start + printed_columns (seen start u.y).symbol = covered.reaches in
    elim (cases_lt start x) [
      | inl outside ↦
          let same : seen start u.y ≡ g start u.y =
          puts-right width height before (u ∷ after) g start u.y (IsCellOfNext x y w h next) diff.own
          (λ v is at. let place = is.x in omega arith) in
          let there : seen start u.y ≡ g start (y + own.b) = same ∙ ap (g start) row in
          let over : printed_columns (seen start u.y).symbol ≡ printed_columns (g start (y + own.b)).symbol =
          ap (λ (look : Look). printed_columns look.symbol) there in
          absurd (clear own.b own.in_rows (record { start = start; left = outside; reaches = omega arith }))
      | inr inside ↦
          let j = start - x in
          let at : start ≡ x + j = omega arith in
          let j_in : j < w = omega arith in
          let all : Grid = puts width height (before ++ u ∷ after) g in
          let rest : puts width height after (put width height u seen) start u.y ≡ put width height u seen start u.y =
          puts-right width height after [] (put width height u seen) start u.y (IsBefore u)
          (subst (All (IsBefore u)) (sym (append-nil after)) (rises-at before u after diff.rises))
          (λ v is. before-right u v start left is) in
          let final : all start u.y ≡ seen start u.y =
          ap (λ (f : Grid). f start u.y) (puts-append width height before (u ∷ after) g) ∙ rest
          ∙ put-right width height u seen start u.y (λ e. left) in
          let shown : ShowsColumn w next j own.b (all (x + j) (y + own.b)) =
          ((diff.replays settled_former settled).shows width height g fits_x fits_y shows).at j own.b j_in own.in_rows in
          let c : Cell = cell_at w next j own.b in
          let is : IsOrdinary c = ordinary j own.b j_in own.in_rows in
          let look : seen start u.y ≡ look_of c = sym final ∙ ap₂ all at row ∙ shown.look is.unskipped in
          let over : printed_columns (seen start u.y).symbol ≡ printed_columns (look_of c).symbol =
          ap (λ (look : Look). printed_columns look.symbol) look in
          let wide : width_of c ≡ printed_columns (look_of c).symbol = ordinary-width c is.unforced (omega arith) in
          elim (settled.behind j own.b own.a j_in own.in_rows is.unskipped (omega arith) (omega arith)) [
            | inl blank ↦ record {
              look = ap look_of own.own ∙ same_look (cell_at w next own.a own.b) empty_cell blank ∙ look-empty;
              width = ap width_of own.own ∙ same_width (cell_at w next own.a own.b) empty_cell blank ∙ width-empty;
            }
            | inr skipped ↦
                let plain = ordinary own.a own.b own.in_row own.in_rows in
                absurd (false≢true (sym plain.unskipped ∙ skipped))
          ]
    ]

-- ---- draws of a diff

-- the updates that an iterator over updates gave, and those that it has left
gave-front : (us : List Update) (front : List (ℕ × ℕ × Bor Cell)) (left : List Update)
    → Yields (YieldsFirstBy lent_update (λ rest. rest)) us front left
    → us ≡ map lent_update front ++ left
gave-front us [] left e = e
gave-front us (item ∷ front) left gave = gave.1 ∙ ap (λ rest. lent_update item ∷ rest) (gave-front gave.0 front left gave.2)

covered-same : (f g : Grid) → ((a b : ℕ) → f a b ≡ g a b) → (a b : ℕ) → IsCovered f a b → IsCovered g a b
covered-same f g same a b covered =
    let columns : printed_columns (f covered.start b).symbol ≡ printed_columns (g covered.start b).symbol =
    ap (λ (look : Look). printed_columns look.symbol) (same covered.start b) in
    let reaches = covered.reaches in
    record { start = covered.start; left = covered.left; reaches = omega arith }

pub draw-cuts-none : (x y w h : ℕ) (former next : List Cell) (us : List Update) (s : Screen) (colors : Bool) (p : Position)
    → IsDiff x y w h former next us
    → IsSettled w h former → IsSettled w h next → ((a b : ℕ) → a < w → b < h → IsOrdinary (cell_at w next a b)) → x + w ≤ s.width
    → y + h ≤ s.height
    → Shows x y w h former s.grid → IsOpen s.grid x y h → StopsInDiff us colors s (Cut p) → ⊥
draw-cuts-none x y w h former next us s colors p diff settled_former settled ordinary fits_x fits_y shows clear stops =
    let before : List Update = map lent_update stops.front in
    let update : Update = lent_update stops.item in
    let gives = stops.gives in
    let all : us ≡ before ++ update ∷ stops.rest = gave-front us stops.front gives.0 gives.1
    ∙ ap (λ rest. before ++ rest) gives.2 in
    let refused = stops.refused in
    let there : IsCovered (puts s.width s.height before s.grid) update.x update.y =
    covered-same stops.between.grid _ stops.draws.grid update.x update.y refused.1 in
    refused.2 (cuts-none x y w h s.width s.height former next s.grid before update stops.rest
    (subst (IsDiff x y w h former next) all diff) settled_former settled ordinary fits_x fits_y shows clear there)
