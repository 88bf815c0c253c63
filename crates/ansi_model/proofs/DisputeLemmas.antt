-- A symbol of which terminals differ on the columns: over blanks all of them look alike.
use Rattle.std.proofs.Common.{◌≡◌, ℕ, ◌+◌, ◌-◌, ◌<◌, ◌≤◌, ◌&&◌, ◌||◌, min, nat_lt, nat_le, nat_eq, Bool, true, false, List, []}
use Rattle.std.proofs.Common.{◌∷◌, zero, suc, if◌then◌else◌, Some, None, IfSome, refl, sym, ap, ap₂, ◌∙◌, arith, subst}
use Rattle.std.specs.{List.list_any, List.list_all, List.range_with_len, Str.bytes_eq}
use Rattle.std.proofs.lemmas.{Bool.Decides.nat_tests, Str.IsUtf8-nil, Str.chars-nil}
use Rattle.std.proofs.Math.Path.{fun_ext}
use Rattle.ratatui_core.specs.{Buffer.blank, Style.bits_of}
use Rattle.ansi_model.specs.{declared.sgr.Sgr.Sgr, declared.pen.Pen.Pen, Sgr.inked, Parameters.color_parameters}
use Rattle.ansi_model.specs.{Emulator.Phase.Ground}
use Rattle.ansi_model.specs.{Symbols.is_plain_char, Symbols.is_printed, Symbols.is_disputed, Symbols.printed_columns, Sends.Sends}
use Rattle.ansi_model.specs.{Sends.Performs, Sends.typed}
use Rattle.ansi_model.specs.Columns.{Column, Columns, is_met, overwritten}
use Rattle.ansi_model.specs.Columns.Column.{Shows, Unknown}
use Rattle.ansi_model.specs.Emulator.{Emulator, rested, run, prints_disputed, is_blank_in, are_blank, cursor_moved}
use Rattle.ansi_model.specs.Drawing.{printed_at, disputed_at, drawn_at, blanked_in, WritesAt, IsDrawnBy, PenSends, Prints}
use Rattle.ansi_model.proofs.{ReadLemmas.Leads-so, ReadLemmas.Sends-then, TextLemmas.blank-one, ReadLemmas.and-true}
use Rattle.ansi_model.proofs.{MotionLemmas.not_met}
use Rattle.ansi_model.proofs.{PutLemmas.none_between, SymbolLemmas.alone-disputed}
use Rattle.ansi_model.proofs.{DrawLemmas.moved-there, PaintLemmas.PenSends-then, PaintLemmas.blanked-only}
use Rattle.ansi_model.proofs.{PaintLemmas.blanked-width, PaintLemmas.blanked-height, PaintLemmas.blanked-keeps}
use Rattle.ansi_model.proofs.{PaintLemmas.KeepsSize}

-- ---- columns that blanks were printed in

any-or : (p q r : ℕ → Bool) → ((k : ℕ) → p k ≡ (q k || r k)) → (xs : List ℕ) → list_any p xs ≡ (list_any q xs || list_any r xs)
any-or p q r each [] = refl
any-or p q r each (x ∷ xs) = ap₂ (λ a b. a || b) (each x) (any-or p q r each xs) ∙ swapped (q x) (r x) (list_any q xs)
    (list_any r xs)
  where
    swapped : (a b c d : Bool) → ((a || b) || (c || d)) ≡ ((a || c) || (b || d))
    swapped true b c d = refl
    swapped false true true d = refl
    swapped false true false d = refl
    swapped false false c d = refl

run-more : (x y n k b : ℕ) → run x y (suc n) k b ≡ (run x y n k b || run (x + n) y 1 k b)
run-more x y n k b = grind (arith, nat_tests)

met-more : (x y n a b : ℕ) (c : Column)
    → is_met (run x y (suc n)) a b c ≡ (is_met (run x y n) a b c || is_met (run (x + n) y 1) a b c)
met-more x y n a b Unknown = refl
met-more x y n a b (Shows look i m) =
    any-or (λ k. run x y (suc n) k b) (λ k. run x y n k b) (λ k. run (x + n) y 1 k b) (λ k. run-more x y n k b)
    (range_with_len (a - i) m)

-- the columns, blanks in n of a row
abbrev spaced : Sgr → ℕ → ℕ → ℕ → Columns → Columns
spaced sgr x y n c = overwritten (run x y n) (λ a b. Shows (inked blank sgr) 0 1) c

none-run : (x y a b : ℕ) → run x y 0 a b ≡ false
none-run x y a b = grind (arith, nat_tests)

-- one more
spaced-more : (sgr : Sgr) (x y n : ℕ) (c : Columns) (a b : ℕ)
    → overwritten (run (x + n) y 1) (λ i j. Shows (inked blank sgr) (i - (x + n)) 1) (spaced sgr x y n c) a b ≡ spaced sgr x y
    (suc n) c a b
spaced-more sgr x y n c a b =
    let look = inked blank sgr in
    let one = run (x + n) y 1 in
    let d = spaced sgr x y n c a b in
    elim (one a b) as (λ p. one a b ≡ p
    → (if p then Shows look (a - (x + n)) 1 else (if is_met one a b d then Unknown else d)) ≡ spaced sgr x y (suc n) c a b) [
      | true ↦ λ e.
          let all : run x y (suc n) a b ≡ true = grind (arith, nat_tests) in
          let here : a - (x + n) ≡ 0 = grind (arith, nat_tests) in
          rw all (ap (λ j. Shows look j 1) here)
      | false ↦ λ e. elim (run x y n a b) as (λ q. run x y n a b ≡ q
          → (if is_met one a b (if q then Shows look 0 1 else (if is_met (run x y n) a b (c a b) then Unknown else c a b))
          then Unknown
          else (if q then Shows look 0 1 else (if is_met (run x y n) a b (c a b) then Unknown else c a b))) ≡ spaced sgr x y
          (suc n) c a b) [
            | true ↦ λ f.
                let all : run x y (suc n) a b ≡ true = grind (arith, nat_tests) in
                let apart : is_met one a b (Shows look 0 1) ≡ false = none_between (λ k. one k b)
                (a - 0) 1 (λ k low high. grind (arith, nat_tests)) in
                rw (all, apart) refl
            | false ↦ λ f.
                let none : run x y (suc n) a b ≡ false = run-more x y n a b ∙ rw (f, e) refl in
                rw (none, met-more x y n a b (c a b)) (either (is_met (run x y n) a b (c a b)))
          ] refl
    ] refl
  where
    either : (m : Bool) → (if is_met (run (x + n) y 1) a b (if m then Unknown else c a b) then Unknown else
        (if m then Unknown else c a b))
        ≡ (if m || is_met (run (x + n) y 1) a b (c a b) then Unknown else c a b)
    either true = refl
    either false = refl

blanked-columns : (sgr : Sgr) (x y n : ℕ) (t : Emulator) (a b : ℕ)
    → (blanked_in sgr x y n t).columns a b ≡ spaced sgr x y n t.columns a b
blanked-columns sgr x y zero t a b = rw (none-run x y a b, not_met (run x y 0) a b (t.columns a b) (λ k. none-run x y k b)) refl
blanked-columns sgr x y (suc n) t a b =
    let look = inked blank sgr in
    let s : Emulator = blanked_in sgr x y n t in
    ap (λ j. overwritten (run (x + n) y j) (λ i r. Shows look (i - (x + n)) j) s.columns a b) blank-one
    ∙ ap (λ d. if run (x + n) y 1 a b then Shows look (a - (x + n)) 1 else
    (if is_met (run (x + n) y 1) a b d then Unknown else d)) (blanked-columns sgr x y n t a b)
    ∙ spaced-more sgr x y n t.columns a b

-- a symbol over those blanks leaves what it leaves without them
over-spaced : (sgr : Sgr) (x y n : ℕ) (new c : Columns) (a b : ℕ)
    → overwritten (run x y n) new (spaced sgr x y n c) a b ≡ overwritten (run x y n) new c a b
over-spaced sgr x y n new c a b =
    let area = run x y n in
    let met = is_met area a b (c a b) in
    elim (area a b) as (λ p. area a b ≡ p
    → (if p then new a b else (if is_met area a b (if p then Shows (inked blank sgr) 0 1 else
    (if met then Unknown else c a b)) then Unknown
    else (if p then Shows (inked blank sgr) 0 1 else (if met then Unknown else c a b)))) ≡
    (if p then new a b else (if met then Unknown else c a b))) [
      | true ↦ λ e. refl
      | false ↦ λ e. elim met as (λ m. met ≡ m → (if is_met area a b (if m then Unknown else c a b) then Unknown else
          (if m then Unknown else c a b)) ≡ (if m then Unknown else c a b)) [
            | true ↦ λ f. refl
            | false ↦ λ f. rw f refl
          ] refl
    ] refl

blanked-sure : (sgr : Sgr) (x y n : ℕ) (t : Emulator) → x + n ≤ t.width → y < t.height → (blanked_in sgr x y n t).sure ≡ t.sure
blanked-sure sgr x y zero t fits row = refl
blanked-sure sgr x y (suc n) t fits row =
    let before : (blanked_in sgr x y n t).sure ≡ t.sure = blanked-sure sgr x y n t (omega arith) row in
    let wide = blanked-width sgr x y n t in
    let high = blanked-height sgr x y n t in
    let column : nat_le (x + n + 1) t.width ≡ true = grind (arith, nat_tests) in
    let below : nat_lt y t.height ≡ true = grind (arith, nat_tests) in
    rw (before, blank-one, wide, high, column, below) (and-true t.sure)

-- ---- the columns show blanks

all-between : (p : ℕ → Bool) (from n : ℕ) → ((k : ℕ) → from ≤ k → k < from + n → p k ≡ true)
    → list_all p (range_with_len from n) ≡ true
all-between p from zero all = refl
all-between p from (suc n) all =
    let first : p from ≡ true = all from (omega arith) (omega arith) in
    let rest = all-between p (from + 1) n (λ k low high. all k (omega arith) (omega arith)) in
    rw (first, rest) refl

same-bytes : (xs : List ℕ) → bytes_eq xs xs ≡ true
same-bytes [] = refl
same-bytes (x ∷ xs) =
    let one : nat_eq x x ≡ true = grind (arith, nat_tests) in
    rw (one, same-bytes xs) refl

own-blank : (sgr : Sgr) → is_blank_in sgr (Shows (inked blank sgr) 0 1) ≡ true
own-blank sgr =
    let bits : nat_eq (bits_of sgr.modifier) (bits_of sgr.modifier) ≡ true = grind (arith, nat_tests) in
    rw (
      same-bytes blank,
      same-bytes (color_parameters 30 sgr.fg),
      same-bytes (color_parameters 30 sgr.bg),
      same-bytes (color_parameters 30 sgr.underline_color),
      bits,
    ) refl

blanks-shown : (sgr : Sgr) (x y n : ℕ) (t : Emulator) → are_blank n (drawn_at x y sgr (blanked_in sgr x y n t)) ≡ true
blanks-shown sgr x y n t =
    all-between (λ a. is_blank_in sgr ((blanked_in sgr x y n t).columns a y)) x n (λ k low high.
    let inside : run x y n k y ≡ true = grind (arith, nat_tests) in
    let at : spaced sgr x y n t.columns k y ≡ Shows (inked blank sgr) 0 1 = rw inside refl in
    ap (is_blank_in sgr) (blanked-columns sgr x y n t k y ∙ at) ∙ own-blank sgr)

-- ---- the whole

-- blanks, the symbol over them, and then a move if columns are left: as if it were printed
disputed-same : (x y : ℕ) (sgr : Sgr) (symbol : List ℕ) (t : Emulator) → x + printed_columns symbol ≤ t.width → y < t.height
    → disputed_at x y sgr symbol (blanked_in sgr x y (printed_columns symbol) t) ≡ record
    (printed_at x y sgr symbol t) { x = t.width }
disputed-same x y sgr symbol t fits row =
    let n = printed_columns symbol in
    let s : Emulator = blanked_in sgr x y n t in
    let new : Columns = λ a b. Shows (inked symbol sgr) (a - x) n in
    let columns : overwritten (run x y n) new s.columns ≡ overwritten (run x y n) new t.columns
    = fun_ext (λ a. fun_ext (λ b. ap (λ d. if run x y n a b then new a b else (if is_met (run x y n) a b d then Unknown else d))
    (blanked-columns sgr x y n t a b) ∙ over-spaced sgr x y n new t.columns a b)) in
    let sure : (s.sure && are_blank n (drawn_at x y sgr s)) && (nat_lt 0 n && nat_le (x + n) s.width
    && nat_lt y s.height) ≡ t.sure && (nat_lt 0 n && nat_le (x + n) t.width && nat_lt y t.height)
    = rw (blanks-shown sgr x y n t, blanked-sure sgr x y n t fits row, blanked-width sgr x y n t, blanked-height sgr x y n t)
    (ap (λ b. b && (nat_lt 0 n && nat_le (x + n) t.width && nat_lt y t.height)) (and-true t.sure)) in
    let placed : Emulator = record s { x = s.width; y = y; sgr = sgr } in
    ap₂ (λ cs b. record placed { columns = cs; sure = b }) columns sure
    ∙ ap (λ k. record placed {
      x = k;
      columns = overwritten (run x y n) new t.columns;
      sure = t.sure && (nat_lt 0 n && nat_le (x + n) t.width && nat_lt y t.height);
    }) (blanked-width sgr x y n t)
    ∙ ap (λ (v : Emulator). record v {
      columns = overwritten (run x y n) new t.columns;
      x = t.width;
      y = y;
      sgr = sgr;
      sure = t.sure && (nat_lt 0 n && nat_le (x + n) t.width && nat_lt y t.height);
    }) (blanked-only sgr x y n t)

moved-same : (x y end : ℕ) (sgr : Sgr) (symbol : List ℕ) (t : Emulator) → x + printed_columns symbol ≡ end → end < t.width
    → y < t.height
    → cursor_moved end y (disputed_at x y sgr symbol (blanked_in sgr x y (printed_columns symbol) t)) ≡ printed_at x y sgr symbol
    t
moved-same x y end sgr symbol t ends inside row =
    let column : min end (t.width - 1) ≡ x + printed_columns symbol = omega arith in
    let line : min y (t.height - 1) ≡ y = omega arith in
    ap (cursor_moved end y) (disputed-same x y sgr symbol t (omega arith) row)
    ∙ ap₂ (λ i j. record (printed_at x y sgr symbol t) { x = i; y = j }) column line

still-same : (x y end : ℕ) (sgr : Sgr) (symbol : List ℕ) (t : Emulator) → x + printed_columns symbol ≡ end → end ≡ t.width
    → y < t.height
    → disputed_at x y sgr symbol (blanked_in sgr x y (printed_columns symbol) t) ≡ printed_at x y sgr symbol t
still-same x y end sgr symbol t ends whole row =
    let column : t.width ≡ x + printed_columns symbol = omega arith in
    disputed-same x y sgr symbol t (omega arith) row ∙ ap (λ i. record (printed_at x y sgr symbol t) { x = i }) column

-- ---- bytes

pub over-paints : (x y : ℕ) (before after : Pen) (symbol old first new : List ℕ) → Performs old first (cursor_moved x y)
    → Sends first new (typed symbol) → is_printed symbol ≡ true
    → is_disputed symbol ≡ true → after.sgr ≡ before.sgr → after.at ≡ None → (w h : ℕ) → x < w → y < h
    → PenSends w h old before (disputed_at x y before.sgr symbol) new after
over-paints x y before after symbol old first new moves sends is disputed same unplaced w h x_in y_in =
    let sgr = before.sgr in
    let both : Sends old new (λ t. typed symbol (cursor_moved x y (rested t))) =
    Sends-then old first new (λ t. cursor_moved x y (rested t)) (typed symbol) moves sends (λ t. refl) in
    Leads-so both (λ t canvas. canvas.drawn.phase) (λ t u canvas e.
    let drawn = canvas.drawn in
    let shown : rested u ≡ disputed_at x y sgr symbol (rested t) =
    ap rested e ∙ ap (λ (v : Emulator). record v { phase = Ground })
    (alone-disputed symbol (cursor_moved x y (rested t)) drawn.modes is disputed refl)
    ∙ ap (prints_disputed symbol (printed_columns symbol)) (moved-there w h x y before t x_in y_in canvas) in
    record {
      drawn = record {
        phase = ap (λ (v : Emulator). v.phase) e;
        sgr = ap (λ (v : Emulator). v.sgr) shown ∙ sym same;
        modes = ap (λ (v : Emulator). v.modes) shown ∙ drawn.modes;
        placed = subst (λ at. IfSome at (λ p. WritesAt p.x p.y u)) (sym unplaced) tt;
      };
      printed = shown;
    })

pub place-paints : (x y : ℕ) (before after : Pen) (old new : List ℕ) → Performs old new (cursor_moved x y)
    → after.sgr ≡ before.sgr → after.at ≡ Some (record { x = x; y = y })
    → (w h : ℕ) → x < w → y < h → PenSends w h old before (cursor_moved x y) new after
place-paints x y before after old new does same at w h x_in y_in = Leads-so does (λ t canvas. canvas.drawn.phase) (λ t u canvas e.
    let wide : (rested t).width ≡ w = canvas.width in
    let high : (rested t).height ≡ h = canvas.height in
    record {
      drawn = subst (IsDrawnBy after) (sym e) (record {
        phase = refl;
        sgr = canvas.drawn.sgr ∙ sym same;
        modes = canvas.drawn.modes;
        placed = subst (λ place. IfSome place (λ p. WritesAt p.x p.y (cursor_moved x y (rested t)))) (sym at) (record {
          utf8 = IsUtf8-nil;
          plain = ap (list_all is_plain_char) chars-nil;
          column = omega arith;
          row = omega arith;
        });
      });
      printed = ap rested e;
    })

-- the same, its premises in the order of a caller's clause
pub put_over : (w h x y : ℕ) (before after : Pen) (symbol old first new : List ℕ) → Performs old first (cursor_moved x y)
    → Sends first new (typed symbol) → is_printed symbol ≡ true
    → after.sgr ≡ before.sgr → after.at ≡ None → is_disputed symbol ≡ true → x < w → y < h
    → PenSends w h old before (disputed_at x y before.sgr symbol) new after
put_over w h x y before after symbol old first new moves sends is same unplaced disputed x_in y_in =
    over-paints x y before after symbol old first new moves sends is disputed same unplaced w h x_in y_in

-- blanks and a symbol over them, and a move after it or none
module _ (w h x y n end : ℕ) (symbol : List ℕ) (p q r : Pen) (a b c : List ℕ) (columns : n ≡ printed_columns symbol)
    (ends : x + n ≡ end) (fits : end ≤ w) (row : y < h) (same : q.sgr ≡ p.sgr)
    (blanks : PenSends w h a p (blanked_in p.sgr x y n) b q) (over : PenSends w h b q (disputed_at x y q.sgr symbol) c r) where
  both : PenSends w h a p (λ t. disputed_at x y p.sgr symbol (blanked_in p.sgr x y n t)) c r
  both = PenSends-then w h a b c p q r (blanked_in p.sgr x y n) (disputed_at x y p.sgr symbol) (blanked-keeps p.sgr x y n) blanks
      (subst (λ sgr. PenSends w h b q (disputed_at x y sgr symbol) c r) same over)

  pub paints-still : end ≡ w → Prints w h a p x y p.sgr symbol c r
  paints-still whole = Leads-so both (λ t canvas. canvas) (λ t u canvas does.
      let wide : (rested t).width ≡ w = canvas.width in
      let high : (rested t).height ≡ h = canvas.height in
      record {
        drawn = does.drawn;
        printed = does.printed ∙ ap (λ k. disputed_at x y p.sgr symbol (blanked_in p.sgr x y k (rested t))) columns
            ∙ still-same x y end p.sgr symbol (rested t) (omega arith) (omega arith) (omega arith);
      })

  pub paints-moved : (d : List ℕ) (s : Pen) → end < w → PenSends w h c r (cursor_moved end y) d s
      → Prints w h a p x y p.sgr symbol d s
  paints-moved d s inside move =
      let keeps : KeepsSize (λ t. disputed_at x y p.sgr symbol (blanked_in p.sgr x y n t)) = λ t. blanked-keeps p.sgr x y n t in
      let all = PenSends-then w h a c d p r s (λ t. disputed_at x y p.sgr symbol (blanked_in p.sgr x y n t))
      (cursor_moved end y) keeps both move in
      Leads-so all (λ t canvas. canvas) (λ t u canvas does.
      let wide : (rested t).width ≡ w = canvas.width in
      let high : (rested t).height ≡ h = canvas.height in
      record {
        drawn = does.drawn;
        printed = does.printed
            ∙ ap (λ k. cursor_moved end y (disputed_at x y p.sgr symbol (blanked_in p.sgr x y k (rested t)))) columns
            ∙ moved-same x y end p.sgr symbol (rested t) (omega arith) (omega arith) (omega arith);
      })
