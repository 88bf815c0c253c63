-- A symbol that is printed, and blanks in what is left of another one.
use Rattle.std.proofs.Common.{◌≡◌, ℕ, ◌+◌, ◌-◌, ◌*◌, ◌<◌, ◌≤◌, ◌&&◌, nat_lt, nat_le, if◌then◌else◌, Bool, List, true, false}
use Rattle.std.proofs.Common.{zero, suc, slice_index_or, Option, Some, None, IfSome, refl, sym, ap, ◌∙◌, arith, subst, inl, inr}
use Rattle.std.proofs.lemmas.{Bool.cases_lt, Bool.Decides.nat_tests, Str.chars-nil, Str.IsUtf8-nil}
use Rattle.std.specs.List.{list_all}
use Rattle.ratatui_core.specs.{Layout.Position, Buffer.blank, Buffer.Look, Buffer.empty_look}
use Rattle.ansi_model.specs.{declared.sgr.Sgr.Sgr, declared.pen.Pen.Pen, Columns.Columns, Columns.is_continuation}
use Rattle.ansi_model.specs.{Flags.AreContinuations}
use Rattle.ansi_model.specs.{Sgr.default_sgr, Sgr.inked, Symbols.is_plain_char, Symbols.printed_columns}
use Rattle.ansi_model.specs.Emulator.{Emulator, rested, run, with_sgr}
use Rattle.ansi_model.specs.Screens.{IsWhole, IsBlankBeyond, IsIdle, put_columns}
use Rattle.ansi_model.specs.Drawing.{printed_at, blanked, WritesAt, IsDrawnBy, ChangesSgr, PenSends}
use Rattle.ansi_model.specs.Drawing.ChangesSgr.{Stays, Sets}
use Rattle.ratatui_ansi.specs.{declared.draw.Draw.Draw}
use Rattle.ratatui_ansi.specs.Inner.Draw.{AreMarked, AreCovered, Covers}
use Rattle.ansi_model.proofs.{ReadLemmas.Leads-so, ReadLemmas.Leads-none, MotionLemmas.tidy-along, TextLemmas.blank-one}
use Rattle.ansi_model.proofs.PaintLemmas.{OnlyPrinted, blanked-only, blanked-width, blanked-height, PenSends-then, blanks-none}
use Rattle.ansi_model.proofs.PlaceLemmas.{places-on}
use Rattle.rtui_grid.proofs.PlaceLemmas.{by_rows}
use Rattle.ratatui_ansi.proofs.TailLemmas.{torn, put-torn, torn-more, torn-all, laid-sized, laid-whole, laid-beyond}
use Rattle.ratatui_ansi.proofs.TailLemmas.{laid-continuations, IsTail, laid}

-- ---- blanks

only-then : (s t u : Emulator) → OnlyPrinted s t → OnlyPrinted t u → OnlyPrinted s u
only-then s t u first second = ap (λ (v : Emulator). record v {
  columns = s.columns;
  x = s.x;
  y = s.y;
  sgr = s.sgr;
  sure = s.sure;
}) second ∙ first

blanked-x : (x y n : ℕ) (t : Emulator) → t.x ≡ x → (blanked x y n t).x ≡ x + n
blanked-x x y zero t e = e ∙ omega arith
blanked-x x y (suc n) t e = ap (λ k. x + n + k) blank-one ∙ omega arith

blanked-y : (x y n : ℕ) (t : Emulator) → t.y ≡ y → (blanked x y n t).y ≡ y
blanked-y x y zero t e = e
blanked-y x y (suc n) t e = refl

blanked-sure : (x y n : ℕ) (t : Emulator) → t.sure ≡ true → x + n ≤ t.width → y < t.height → (blanked x y n t).sure ≡ true
blanked-sure x y zero t sure fits row = sure
blanked-sure x y (suc n) t sure fits row =
    let before : (blanked x y n t).sure ≡ true = blanked-sure x y n t sure (omega arith) row in
    let wide = blanked-width default_sgr x y n t in
    let high = blanked-height default_sgr x y n t in
    let column : nat_le (x + n + 1) t.width ≡ true = grind (arith, nat_tests) in
    let below : nat_lt y t.height ≡ true = grind (arith, nat_tests) in
    rw (before, blank-one, wide, high, column, below) refl

blanked-torn : (x y n end m k : ℕ) (look : Look) (c : Columns) (t : Emulator) → IsWhole c → is_continuation (c x y) ≡ false
    → IsTail (x + n) end y c → ((a b : ℕ) → t.columns a b ≡ torn x y n (x + n) end look c a b)
    → x + n + m ≡ k → k ≤ end → (a b : ℕ) → (blanked (x + n) y m t).columns a b ≡ torn x y n k end look c a b
blanked-torn x y n end zero k look c t whole left tail same reached high a b =
    let e : x + n ≡ k = omega arith in
    same a b ∙ ap (λ j. torn x y n j end look c a b) e
blanked-torn x y n end (suc m) k look c t whole left tail same reached high a b =
    let e : x + n + m + 1 ≡ k = omega arith in
    let before = λ (i j : ℕ). blanked-torn x y n end m (x + n + m) look c t whole left tail same refl (omega arith) i j in
    ap (λ j. put_columns (x + n + m) y j empty_look (blanked (x + n) y m t).columns a b) blank-one
    ∙ torn-more x y n (x + n + m) end look c (blanked (x + n) y m t).columns whole left tail (omega arith)
    (omega arith) before a b
    ∙ ap (λ j. torn x y n j end look c a b) e

-- a rendition that is set where the terminal has another
with_sgr-same : (sgr : Sgr) (t : Emulator) → t.sgr ≡ sgr → t ≡ with_sgr sgr t
with_sgr-same sgr t e = rw (← e) refl

placed-with : (sgr : Sgr) (t : Emulator) (at : Option Position) → IfSome at (λ p. WritesAt p.x p.y t)
    → IfSome at (λ p. WritesAt p.x p.y (with_sgr sgr (rested t)))
placed-with sgr t None known = tt
placed-with sgr t (Some p) known = record {
  utf8 = IsUtf8-nil;
  plain = ap (list_all is_plain_char) chars-nil;
  column = known.column;
  row = known.row;
}

pub sgr-paints : (w h : ℕ) (before : Pen) (sgr : Sgr) (old new : List ℕ) → ChangesSgr before.sgr sgr old new
    → PenSends w h old before (with_sgr sgr) new (record before { sgr = sgr })
sgr-paints w h before sgr old new (Stays same none) = Leads-none none (λ t is. record {
  drawn = record {
    phase = is.drawn.phase;
    sgr = is.drawn.sgr ∙ same;
    modes = is.drawn.modes;
    placed = is.drawn.placed;
  };
  printed = with_sgr-same sgr (rested t) (is.drawn.sgr ∙ same);
})
sgr-paints w h before sgr old new (Sets does) = Leads-so does (λ t is. is.drawn.phase) (λ t u is e. record {
  drawn = subst (IsDrawnBy (record before { sgr = sgr })) (sym e) (record {
    phase = refl;
    sgr = refl;
    modes = is.drawn.modes;
    placed = placed-with sgr t before.at is.drawn.placed;
  });
  printed = ap rested e;
})

blanked-sgr : (x y n : ℕ) (t : Emulator) → blanked x y (suc n) (with_sgr default_sgr t) ≡ blanked x y (suc n) t
blanked-sgr x y zero t = refl
blanked-sgr x y (suc n) t = ap (printed_at (x + suc n) y default_sgr blank) (blanked-sgr x y n t)

-- blanks after the own rendition
pub blanks-own : (w h x y n m : ℕ) (old mid new : List ℕ) (before between after : Pen) → ChangesSgr before.sgr default_sgr old mid
    → between ≡ record before { sgr = default_sgr }
    → PenSends w h mid between (blanked x y n) new after → n ≡ suc m → PenSends w h old before (blanked x y n) new after
blanks-own w h x y n m old mid new before between after changes pens done some =
    let sgr_set : PenSends w h old before (with_sgr default_sgr) mid between =
    subst (PenSends w h old before (with_sgr default_sgr) mid) (sym pens) (sgr-paints w h before default_sgr old mid changes) in
    let both : PenSends w h old before (λ t. blanked x y n (with_sgr default_sgr t)) new after =
    PenSends-then w h old mid new before between after (with_sgr default_sgr) (blanked x y n)
    (λ t. (refl, refl)) sgr_set done in
    Leads-so both (λ t is. is) (λ t u is did. record {
      drawn = did.drawn;
      printed = did.printed ∙ ap (λ k. blanked x y k (with_sgr default_sgr (rested t))) some ∙ blanked-sgr x y m (rested t)
          ∙ ap (λ k. blanked x y k (rested t)) (sym some);
    })

-- ---- a symbol, and blanks in what is left of another one

-- a symbol stands in its place, and blanks up to column `end`
pub record IsLaid (x y n end : ℕ) (look : Look) (s u : Emulator) : Type 0 where
  pub only : OnlyPrinted s u
  pub columns : (a b : ℕ) → u.columns a b ≡ laid x y n end look s.columns a b
  pub x_at : u.x ≡ end
  pub y_at : u.y ≡ y
  pub certain : u.sure ≡ true

pub laid-by : (w h x y n end : ℕ) (sgr : Sgr) (symbol : List ℕ) (s : Emulator) → IsIdle w h (with_sgr default_sgr s)
    → printed_columns symbol ≡ n → 0 < n → x + n ≤ w → end ≤ w → y < h
    → is_continuation (s.columns x y) ≡ false → IsTail (x + n) end y s.columns
    → IsLaid x y n end (inked symbol sgr) s (blanked (x + n) y (end - (x + n)) (printed_at x y sgr symbol s))
laid-by w h x y n end sgr symbol s ready en some fits inside row left tail =
    let ordered : x + n ≤ end = tail.ordered in
    let m = end - (x + n) in
    let t = printed_at x y sgr symbol s in
    let wide : s.width ≡ w = ready.rest.width in
    let high : s.height ≡ h = ready.rest.height in
    let reached : x + n + m ≡ end = omega arith in
    let look = inked symbol sgr in
    let put : (a b : ℕ) → t.columns a b ≡ torn x y n (x + n) end look s.columns a b =
    λ a b. ap (λ j. put_columns x y j look s.columns a b) en
    ∙ put-torn x y n end look s.columns ready.tidy.whole left tail some a b in
    let sure : t.sure ≡ true =
    let one : nat_lt 0 n ≡ true = grind (arith, nat_tests) in
    let two : nat_le (x + n) s.width ≡ true = grind (arith, nat_tests) in
    let three : nat_lt y s.height ≡ true = grind (arith, nat_tests) in
    rw (ready.rest.sure, en, one, two, three) refl in
    record {
      only = only-then s t (blanked (x + n) y m t) refl (blanked-only default_sgr (x + n) y m t);
      columns = λ a b. blanked-torn x y n end m end look s.columns t ready.tidy.whole left tail put reached (omega arith) a b
          ∙ torn-all x y n end look s.columns a b;
      x_at = blanked-x (x + n) y m t (ap (λ j. x + j) en) ∙ reached;
      y_at = blanked-y (x + n) y m t refl;
      certain = blanked-sure (x + n) y m t sure (omega arith) (omega arith);
    }

pub laid-ready : (w h x y n end : ℕ) (look : Look) (s u : Emulator) → IsIdle w h (with_sgr default_sgr s)
    → n ≡ printed_columns look.symbol → x + n ≤ w → y < h → is_continuation (s.columns x y) ≡ false
    → IsTail (x + n) end y s.columns → IsLaid x y n end look s u → IsIdle w h (with_sgr default_sgr u)
laid-ready w h x y n end look s u ready takes fits row left tail is = record {
  rest = record {
    phase = ap (λ (v : Emulator). v.phase) is.only ∙ ready.rest.phase;
    text = ap (λ (v : Emulator). v.text) is.only ∙ ready.rest.text;
    width = ap (λ (v : Emulator). v.width) is.only ∙ ready.rest.width;
    height = ap (λ (v : Emulator). v.height) is.only ∙ ready.rest.height;
    sgr = refl;
    top = ap (λ (v : Emulator). v.top) is.only ∙ ready.rest.top;
    bottom = ap (λ (v : Emulator). v.bottom) is.only ∙ ready.rest.bottom;
    modes = ap (λ (v : Emulator). v.modes) is.only ∙ ready.rest.modes;
    sure = is.certain;
  };
  row = let at : u.y ≡ y = is.y_at in omega arith;
  tidy = tidy-along w (laid x y n end look s.columns) u.columns is.columns (record {
    sized = laid-sized x y n end look s.columns takes ready.tidy.sized;
    whole = laid-whole x y n end look s.columns ready.tidy.whole left tail;
    beyond = laid-beyond w x y n end look s.columns fits ready.tidy.beyond;
  });
}

-- ---- the flags

marked-in : (w x y n end a : ℕ) (old new is was : Bool) → x + n ≤ end → end ≤ w
    → new ≡ (if nat_le (y * w + x) (y * w + a) && nat_lt (y * w + a) (y * w + end) then nat_lt (y * w + x)
    (y * w + a) && nat_lt (y * w + a) (y * w + (x + n)) else old)
    → old ≡ was → is ≡ (if run x y n a y then nat_lt x a else (if run (x + n) y (end - (x + n)) a y then false else was))
    → new ≡ is
marked-in w x y n end a old new is was ordered inside e f g = grind (arith, nat_tests)

aside : (p q r in_p in_q old new is was : Bool) → p ≡ false → q ≡ false → r ≡ false → new ≡ (if p then in_p else old) → old ≡ was
    → is ≡ (if q then in_q else (if r then false else was)) → new ≡ is
aside p q r in_p in_q old new is was ep eq er e f g =
    let is_old : new ≡ old = rw ep at e in
    let is_was : is ≡ was = rw (eq, er) at g in
    is_old ∙ f ∙ sym is_was

marked-at : (w x y n end a b : ℕ) (old new is was : Bool) → x + n ≤ end → end ≤ w → a < w → 0 < n
    → new ≡ (if nat_le (y * w + x) (b * w + a) && nat_lt (b * w + a) (y * w + end) then nat_lt (y * w + x)
    (b * w + a) && nat_lt (b * w + a) (y * w + (x + n)) else old)
    → old ≡ was → is ≡ (if run x y n a b then nat_lt x a else (if run (x + n) y (end - (x + n)) a b then false else was))
    → new ≡ is
marked-at w x y n end a b old new is was ordered inside column some e f g =
    let apart : (nat_le (y * w + x) (b * w + a) && nat_lt (b * w + a) (y * w + end)) ≡ false → run x y n a b ≡ false
    → run (x + n) y (end - (x + n)) a b ≡ false → new ≡ is =
    λ no none blanks. aside _ _ _ _ _ old new is was no none blanks e f g in
    by_rows (new ≡ is) w b y
    (λ lower ends. apart (grind (arith, nat_tests)) (grind (arith, nat_tests)) (grind (arith, nat_tests)))
    (λ higher ends. apart (grind (arith, nat_tests)) (grind (arith, nat_tests)) (grind (arith, nat_tests)))
    (λ row. marked-in w x y n end a old new is was ordered inside (rw row at e) f (rw row at g))

-- a symbol of one column over no part of another one leaves the flags as they are
pub one-marked : (first past_it end : ℕ) (flags : List Bool) → slice_index_or flags first false ≡ false → end ≤ first + 1
    → (k : ℕ) → slice_index_or flags k false ≡ (if nat_le first k && nat_lt k end then nat_lt first k
    && nat_lt k past_it else slice_index_or flags k false)
one-marked first past_it end flags unset short k = grind (arith, nat_tests)

pub are-covered : (w : ℕ) (p : Position) (n end start : ℕ) (flags after : List Bool) → start ≡ p.y * w → p.x + n ≤ end → end ≤ w
    → ((k : ℕ) → p.x + n ≤ k → k < end → slice_index_or flags (start + k) false ≡ true)
    → (end < w → slice_index_or flags (start + end) false ≡ false)
    → AreMarked (p.y * w + p.x) (p.y * w + (p.x + n)) (p.y * w + end) flags after → AreCovered w p n end flags after
are-covered w p n end start flags after row ordered inside set unset marked = record {
  ordered = ordered;
  inside = inside;
  set = λ k low high. rw row at (set k low high);
  unset = λ within. rw row at (unset within);
  marked = marked;
}

-- a symbol that covers none of another one
pub covers-none : (p : Position) (n end : ℕ) (d : Draw) (flags : List Bool)
    → AreCovered d.target.width p n end d.continuations.now flags → end ≤ p.x + n
    → Covers d p n end (record d { continuations = record d.continuations { now = flags } })
covers-none p n end d flags covered none = record {
  flags = covered;
  paints = blanks-none d.target.width d.target.height _ _ default_sgr (p.x + n) p.y (end - (p.x + n)) (omega arith);
  sgr = inl refl;
  places = places-on _ _;
  state = refl;
}

pub tail-of : (w h from end y : ℕ) (flags : List Bool) (c : Columns) → AreContinuations w h flags c → IsBlankBeyond w c → y < h
    → from ≤ end → end ≤ w
    → ((k : ℕ) → from ≤ k → k < end → slice_index_or flags (y * w + k) false ≡ true)
    → (end < w → slice_index_or flags (y * w + end) false ≡ false) → IsTail from end y c
tail-of w h from end y flags c are beyond row ordered inside set unset = record {
  ordered = ordered;
  continuations = λ k low high. sym (are.each k y (omega arith) row) ∙ set k low high;
  ended = elim (cases_lt end w) [
    | inl within ↦ sym (are.each end y within row) ∙ unset within
    | inr past ↦ ap is_continuation (beyond end y (omega arith))
  ];
}

pub laid-flags : (w h x y n end : ℕ) (look : Look) (s u : Emulator) (flags after : List Bool)
    → AreContinuations w h flags s.columns → x + n ≤ end → end ≤ w → 0 < n → IsLaid x y n end look s u
    → AreMarked (y * w + x) (y * w + (x + n)) (y * w + end) flags after → AreContinuations w h after u.columns
laid-flags w h x y n end look s u flags after are ordered inside some is marked = record {
  count = marked.count ∙ are.count;
  each = λ a b column row.
      marked-at w x y n end a b (slice_index_or flags (b * w + a) false) (slice_index_or after (b * w + a) false)
      (is_continuation (u.columns a b)) (is_continuation (s.columns a b)) ordered inside column some
      (marked.each (b * w + a)) (are.each a b column row) (ap is_continuation (is.columns a b)
      ∙ laid-continuations x y n end look s.columns a b);
}
