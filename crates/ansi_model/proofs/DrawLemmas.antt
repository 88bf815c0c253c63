-- What a sent symbol leaves on a terminal.
use Rattle.std.proofs.Common.{IfSome, Option, ◌≡◌, ℕ, ◌+◌, ◌-◌, ◌<◌, ◌||◌, not, min, Bool, List, ◌++◌, ◌==◌, length, IsUtf8}
use Rattle.std.proofs.Common.{chars, true, false, refl, sym, ap, ap₂, ◌∙◌, arith, subst, Some, None}
use Rattle.std.proofs.lemmas.{Bool.and_parts, Bool.Decides.nat_tests, List.Folds.list_all-append, Str.chars-append}
use Rattle.std.proofs.lemmas.{Str.IsUtf8-append}
use lib.Utf8.{encode}
use Rattle.std.specs.{List.list_all, Bool.then_some}
use Rattle.ratatui_core.specs.Layout.{Position}
use Rattle.ansi_model.specs.{declared.sgr.Sgr.Sgr, declared.pen.Pen.Pen, Emulator.Phase.Ground, Sends.Sends}
use Rattle.ansi_model.specs.{Sends.Performs, Sends.typed}
use Rattle.ansi_model.specs.Emulator.{Emulator, rested, prints, cursor_moved}
use Rattle.ansi_model.specs.Symbols.{is_plain_char, is_symbol, is_one_plain, is_printed, is_disputed, printed_columns}
use Rattle.ansi_model.specs.Drawing.{is_at, is_place, WritesAt, IsDrawnBy, IsCanvas, drawn_at, Prints}
use Rattle.ansi_model.specs.Modes.{no_modes}
use Rattle.ansi_model.proofs.ReadLemmas.{Leads-so, Sends-then}
use Rattle.ansi_model.proofs.SymbolLemmas.{symbol-utf8, rested-modes, after-standing, alone-standing, plain-printed, plain-single}

-- ---- a symbol in its place

-- a pen knows where the next plain character would be printed only after a plain one
abbrev pub KnowsPlace : ℕ → ℕ → List ℕ → Pen → Type 0
KnowsPlace x y symbol after = IfSome after.at (λ p. (p.x ≡ x + 1) × (p.y ≡ y) × (is_one_plain (chars symbol) ≡ true))

-- a place that is known after a plain character is the next one
pub known-by : (b : Bool) (x y : ℕ) (symbol : List ℕ) → is_one_plain (chars symbol) ≡ true
    → IfSome (then_some b (record { x = x + 1; y = y })) (λ (p : Position). (p.x ≡ x + 1) × (p.y ≡ y)
    × (is_one_plain (chars symbol) ≡ true))
known-by true x y symbol one = (refl, refl, one)
known-by false x y symbol one = tt

-- after a symbol that was printed the terminal is drawn as the pen says
drawn-after : (x y : ℕ) (sgr : Sgr) (symbol : List ℕ) (after : Pen) (t u : Emulator) → t.modes ≡ no_modes → u.phase ≡ Ground
    → after.sgr ≡ sgr → KnowsPlace x y symbol after
    → rested u ≡ prints symbol (printed_columns symbol) (drawn_at x y sgr t)
    → (is_one_plain (chars symbol) ≡ true → IsUtf8 u.text × (list_all is_plain_char (chars u.text) ≡ true))
    → IsDrawnBy after u
drawn-after x y sgr symbol after t u modes ground same knows e plain = record {
  phase = ground;
  sgr = ap (λ (v : Emulator). v.sgr) e ∙ sym same;
  modes = ap (λ (v : Emulator). v.modes) e ∙ modes;
  placed = placed after.at knows;
}
  where
    placed : (at : Option Position) → IfSome at (λ p. (p.x ≡ x + 1) × (p.y ≡ y) × (is_one_plain (chars symbol) ≡ true))
        → IfSome at (λ p. WritesAt p.x p.y u)
    placed None known = tt
    placed (Some p) known =
        let one : printed_columns symbol ≡ 1 = rw known.2 refl in
        record {
          utf8 = (plain known.2).0;
          plain = (plain known.2).1;
          column = ap (λ (v : Emulator). v.x) e ∙ ap (λ k. x + k) one ∙ sym known.0;
          row = ap (λ (v : Emulator). v.y) e ∙ sym known.1;
        }

-- one plain character is plain text
one-plain : (cs : List ℕ) → is_one_plain cs ≡ true → list_all is_plain_char cs ≡ true
one-plain cs e = (and_parts (length cs == 1) (list_all is_plain_char cs) e).1

more-plain : (xs ys : List ℕ) → IsUtf8 xs → list_all is_plain_char (chars xs) ≡ true → list_all is_plain_char (chars ys) ≡ true
    → list_all is_plain_char (chars (xs ++ ys)) ≡ true
more-plain xs ys utf8 e f = ap (list_all is_plain_char) (chars-append xs ys utf8) ∙ list_all-append is_plain_char (chars xs)
    (chars ys) ∙ rw (e, f) refl

-- what a symbol's bytes do to a terminal that has its cursor and its rendition
pub at-drawn : (x y : ℕ) (sgr : Sgr) (t : Emulator) → t.x ≡ x → t.y ≡ y → t.sgr ≡ sgr → t ≡ drawn_at x y sgr t
at-drawn x y sgr t ex ey ep = rw (← ex, ← ey, ← ep) refl

-- the cursor is all that a move on the screen changes
pub moved-there : (w h x y : ℕ) (pen : Pen) (t : Emulator) → x < w → y < h → IsCanvas w h pen t
    → cursor_moved x y (rested t) ≡ drawn_at x y pen.sgr (rested t)
moved-there w h x y pen t x_in y_in canvas =
    let wide : (rested t).width ≡ w = canvas.width in
    let high : (rested t).height ≡ h = canvas.height in
    let cursor_x : min x ((rested t).width - 1) ≡ x = omega arith in
    let cursor_y : min y ((rested t).height - 1) ≡ y = omega arith in
    at-drawn x y pen.sgr (cursor_moved x y (rested t)) cursor_x cursor_y canvas.drawn.sgr

writes-at : (x y : ℕ) (at : Option Position) (t : Emulator) → is_place x y at ≡ true → IfSome at (λ p. WritesAt p.x p.y t)
    → WritesAt x y t
writes-at x y None t e known = let h : ⊥ = cc in absurd h
writes-at x y (Some p) t e known =
    let column : p.x ≡ x = grind (arith, nat_tests) in
    let row : p.y ≡ y = grind (arith, nat_tests) in
    record { utf8 = known.utf8; plain = known.plain; column = known.column ∙ column; row = known.row ∙ row }

-- a plain character where the cursor is
pub put-here : (w h x y : ℕ) (before after : Pen) (c : ℕ) (old new : List ℕ) → Sends old new (typed (encode c))
    → is_plain_char c ≡ true → is_at x y before ≡ true
    → after.sgr ≡ before.sgr → KnowsPlace x y (encode c) after → Prints w h old before x y before.sgr (encode c) new after
put-here w h x y before after c old new sends plain at same knows =
    let symbol = encode c in
    let single = plain-single c plain in
    let text = (and_parts (is_symbol symbol) (is_one_plain (chars symbol) || not (list_all is_plain_char (chars symbol)))
    (plain-printed c plain)).0 in
    let utf8 = symbol-utf8 symbol text in
    let columns : 1 ≡ printed_columns symbol = rw single refl in
    Leads-so sends (λ t is. is.drawn.phase) (λ t u is e.
    let drawn = is.drawn in
    let here = writes-at x y before.at t at drawn.placed in
    let shown : rested u ≡ prints symbol (printed_columns symbol) (drawn_at x y before.sgr (rested t)) =
    ap rested e ∙ ap (λ (v : Emulator). record v { phase = Ground })
    (after-standing symbol t text single (sym (rested-modes t) ∙ drawn.modes) here.utf8 here.plain)
    ∙ ap₂ (λ n v. prints symbol n v) columns (at-drawn x y before.sgr (rested t) here.column here.row drawn.sgr) in
    record {
      drawn = drawn-after x y before.sgr symbol after (rested t) u drawn.modes (ap (λ (v : Emulator). v.phase) e ∙ drawn.phase)
          same knows shown (λ one. (
            subst IsUtf8 (sym (ap (λ (v : Emulator). v.text) e)) (IsUtf8-append t.text symbol here.utf8 utf8),
            ap (λ (v : Emulator). list_all is_plain_char (chars v.text)) e ∙ more-plain t.text symbol here.utf8 here.plain
                (one-plain (chars symbol) single),
          ));
      printed = shown;
    })

-- a symbol in a place, with a move
pub put-there : (w h x y : ℕ) (before after : Pen) (symbol old first new : List ℕ) → x < w → y < h
    → Performs old first (cursor_moved x y) → Sends first new (typed symbol)
    → is_printed symbol ≡ true → is_disputed symbol ≡ false → after.sgr ≡ before.sgr → KnowsPlace x y symbol after
    → Prints w h old before x y before.sgr symbol new after
put-there w h x y before after symbol old first new x_in y_in moves sends is agreed same knows =
    let sgr = before.sgr in
    let text = (and_parts (is_symbol symbol) (is_one_plain (chars symbol) || not (list_all is_plain_char (chars symbol))) is).0 in
    let both : Sends old new (λ t. typed symbol (cursor_moved x y (rested t))) =
    Sends-then old first new (λ t. cursor_moved x y (rested t)) (typed symbol) moves sends (λ t. refl) in
    Leads-so both (λ t canvas. canvas.drawn.phase) (λ t u canvas e.
    let drawn = canvas.drawn in
    let shown : rested u ≡ prints symbol (printed_columns symbol) (drawn_at x y sgr (rested t)) =
    ap rested e ∙ ap (λ (v : Emulator). record v { phase = Ground })
    (alone-standing symbol (cursor_moved x y (rested t)) drawn.modes is agreed refl)
    ∙ ap (prints symbol (printed_columns symbol)) (moved-there w h x y before t x_in y_in canvas) in
    let only : u.text ≡ symbol = ap (λ (v : Emulator). v.text) e in
    record {
      drawn = drawn-after x y sgr symbol after (rested t) u drawn.modes (ap (λ (v : Emulator). v.phase) e) same knows shown
          (λ one. (
            subst IsUtf8 (sym only) (symbol-utf8 symbol text),
            ap (λ xs. list_all is_plain_char (chars xs)) only ∙ one-plain (chars symbol) one,
          ));
      printed = shown;
    })

-- a symbol after which no place is known
pub put_unplaced : (w h x y : ℕ) (before after : Pen) (symbol old first new : List ℕ) → Performs old first (cursor_moved x y)
    → Sends first new (typed symbol) → is_printed symbol ≡ true → is_disputed symbol ≡ false
    → after.sgr ≡ before.sgr → after.at ≡ None → x < w → y < h → Prints w h old before x y before.sgr symbol new after
put_unplaced w h x y before after symbol old first new moves sends is agreed same unplaced column row =
    put-there w h x y before after symbol old first new column row moves sends is agreed same
    (subst (λ at. IfSome at (λ p. (p.x ≡ x + 1) × (p.y ≡ y) × (is_one_plain (chars symbol) ≡ true))) (sym unplaced) tt)

-- a pen with the rendition that it has
pub pen-kept : (b : Pen) (sgr : Sgr) → b.sgr ≡ sgr → b ≡ record b { sgr = sgr }
pen-kept b sgr e = rw (← e) refl
