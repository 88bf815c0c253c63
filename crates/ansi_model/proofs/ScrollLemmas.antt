-- Line feeds, and what they do to a screen.
use Rattle.std.proofs.Common.{◌≡◌, ℕ, ◌+◌, ◌-◌, ◌<◌, ◌≤◌, ◌++◌, ◌&&◌, min, nat_lt, nat_le, nat_eq, if◌then◌else◌, Bool, List, []}
use Rattle.std.proofs.Common.{◌∷◌, zero, suc, true, false, refl, sym, ap, ap₂, map, ◌∙◌, arith, append_assoc, append-nil, subst}
use Rattle.std.proofs.lemmas.Bool.Decides.{nat_tests}
use Rattle.std.specs.List.{list_all, range_with_len}
use Rattle.ratatui_core.specs.Buffer.{Look, empty_look}
use Rattle.ratatui_core.specs.Backend.{Scrolls, Appends, lines_past, scrolling_up}
use Rattle.ansi_model.specs.Columns.{Column, Columns, look_in, is_known_column, blank_column}
use Rattle.ansi_model.specs.{Sgr.default_sgr, Emulator.Phase.Ground, Sends.Performs}
use Rattle.ansi_model.specs.Emulator.{Emulator, blank_terminal, rested, printed, line_fed, fed, scrolled, returned, cursor_moved}
use Rattle.ansi_model.specs.Emulator.{columns_moved, if_so, row_shown, is_row_known}
use Rattle.ansi_model.specs.Screens.{screen_shown, HaveOwnWidths, IsTidy, IsIdle, Turns, Becomes}
use Rattle.ansi_model.specs.Beginnings.{AreKnown, empty_row}
use Rattle.ansi_model.proofs.{ReadLemmas.Leads-so, TextLemmas.blank-sized, TextLemmas.sized-known}
use Rattle.ratatui_core.proofs.BackendLemmas.{moved-through, moved-along}
use Rattle.ansi_model.proofs.MotionLemmas.{moved-known, moved-tidy, tidy-along, blank-whole, up-still, up-again}

-- ---- from what bytes do to what a screen shows

pub rested-ready : (w h : ℕ) (u : Emulator) → IsIdle w h u → rested u ≡ u
rested-ready w h u ready =
    ap (λ xs. record (printed xs u) { text = []; phase = Ground }) ready.rest.text
    ∙ ap₂ (λ xs p. record u { text = xs; phase = p }) (sym ready.rest.text) (sym ready.rest.phase)

abbrev pub KeepsReady : ℕ → ℕ → (Emulator → Emulator) → (Emulator → Emulator → Type 0) → Type 0
KeepsReady w h f related = (s : Emulator) → IsIdle w h s → IsIdle w h (f s) × related s (f s)

pub turns-from : (w h : ℕ) (old new : List ℕ) (f : Emulator → Emulator) (related : Emulator → Emulator → Type 0)
    → Performs old new f → KeepsReady w h f related → Turns w h old new related
turns-from w h old new f related does keeps = record {
  leads = Leads-so does (λ t is. is.phase) (λ t u is e.
      let both = keeps (rested t) is.idle in
      let rests : rested u ≡ f (rested t) = ap rested e ∙ rested-ready w h (f (rested t)) both.0 in (
        record { phase = ap (λ (v : Emulator). v.phase) e ∙ both.0.rest.phase; idle = subst (IsIdle w h) (sym rests) both.0 },
        subst (related (rested t)) (sym rests) both.1,
      ));
}

-- ---- terminals that stay idle

-- where only the cursor, the columns and the history changed, and real terminals agree
pub stays-idle : (w h x y : ℕ) (s : Emulator) (c d : Columns) (rows : List (List Look)) → IsIdle w h s → y < h
    → ((a b : ℕ) → d a b ≡ c a b) → IsTidy w c
    → IsIdle w h (record s { x = x; y = y; columns = d; history = rows; sure = true })
stays-idle w h x y s c d rows ready row same tidy = record {
  rest = record {
    phase = ready.rest.phase;
    text = ready.rest.text;
    width = ready.rest.width;
    height = ready.rest.height;
    sgr = ready.rest.sgr;
    top = ready.rest.top;
    bottom = ready.rest.bottom;
    modes = ready.rest.modes;
    sure = refl;
  };
  row = row;
  tidy = tidy-along w c d same tidy;
}

-- a cursor that is moved on the screen
pub moved-placed : (x y : ℕ) (t : Emulator) → x < t.width → y < t.height → record t { x = x; y = y } ≡ cursor_moved x y t
moved-placed x y t x_in y_in =
    let ex : x ≡ min x (t.width - 1) = omega arith in
    let ey : y ≡ min y (t.height - 1) = omega arith in
    ap₂ (λ i j. record t { x = i; y = j }) ex ey

-- a blank terminal is idle
pub blank-idle : (w h : ℕ) → 0 < h → IsIdle w h (blank_terminal w h)
blank-idle w h some = record {
  rest = record {
    phase = refl;
    text = refl;
    width = refl;
    height = refl;
    sgr = refl;
    top = refl;
    bottom = refl;
    modes = refl;
    sure = refl;
  };
  row = some;
  tidy = record { sized = λ a b. blank-sized; whole = λ a b. blank-whole a; beyond = λ a b out. refl };
}

-- ---- rows that go to the history

-- what has its own width is known
pub all-known : (c : Columns) → HaveOwnWidths c → AreKnown c
all-known c sized a b = sized-known (c a b) (sized a b)

-- what stands in a row of the rows up to `end`; below them all is empty
abbrev pub region_row : ℕ → Emulator → ℕ → List Look
region_row end t k = map (λ a. if nat_lt k end then look_in (t.columns a k) else empty_look) (range_with_len 0 t.width)

-- n of the rows up to `end` went to the history, the others of them moved up, and nothing else changed
pub record Feeds (end n : ℕ) (t u : Emulator) : Type 0 where
  pub rest : u ≡ record t { columns = u.columns; history = u.history; sure = u.sure }
  pub columns : (a b : ℕ) → u.columns a b ≡ columns_moved (scrolling_up 0 end n) t.columns a b
  pub history : u.history ≡ t.history ++ map (region_row end t) (range_with_len 0 n)
  pub sure : t.sure ≡ true → t.sgr ≡ default_sgr → t.x < t.width → AreKnown t.columns → u.sure ≡ true

map_same : {A B : Type 0} (f g : A → B) → ((a : A) → f a ≡ g a) → (xs : List A) → map f xs ≡ map g xs
map_same f g e [] = refl
map_same f g e (x ∷ xs) = ap₂ (λ y ys. y ∷ ys) (e x) (map_same f g e xs)

shift : (f g : ℕ → List Look) → ((b : ℕ) → g b ≡ f (b + 1)) → (k n : ℕ)
    → map g (range_with_len k n) ≡ map f (range_with_len (k + 1) n)
shift f g e k zero = refl
shift f g e k (suc n) = ap₂ (λ x xs. x ∷ xs) (e k) (shift f g e (k + 1) n)

all_range : (f : ℕ → Bool) → ((k : ℕ) → f k ≡ true) → (k n : ℕ) → list_all f (range_with_len k n) ≡ true
all_range f e k zero = refl
all_range f e k (suc n) = rw (e k, all_range f e (k + 1) n) refl

one-up : (p q : Bool) (x y : Column) → (p ≡ false → q ≡ false)
    → (if p then look_in (if p then (if q then x else blank_column) else y) else empty_look) ≡
    (if q then look_in x else empty_look)
one-up true true x y f = refl
one-up true false x y f = refl
one-up false true x y f = let h : true ≡ false = f refl in let none : ⊥ = cc in absurd none
one-up false false x y f = refl

seen-up : (end : ℕ) (c : Columns) (a k : ℕ)
    → (if nat_lt k end then look_in (columns_moved (scrolling_up 0 end 1) c a k) else empty_look) ≡
    (if nat_lt (k + 1) end then look_in (c a (k + 1)) else empty_look)
seen-up end c a k =
    let least : nat_le 0 k ≡ true = grind (arith, nat_tests) in
    rw least (one-up (nat_lt k end) (nat_lt (k + 1) end) (c a (k + 1)) (c a k) (λ e. grind (arith, nat_tests)))

-- rows of the region are those that the screen shows
region-row : (end : ℕ) (t : Emulator) (k : ℕ) → k < end → region_row end t k ≡ row_shown t k
region-row end t k inside =
    let e : nat_lt k end ≡ true = grind (arith, nat_tests) in
    map_same (λ a. if nat_lt k end then look_in (t.columns a k) else empty_look) (λ a. look_in (t.columns a k)) (λ a. rw e refl)
    (range_with_len 0 t.width)

pub region-rows : (end : ℕ) (t : Emulator) (m n : ℕ) → m + n ≤ end
    → map (region_row end t) (range_with_len m n) ≡ map (row_shown t) (range_with_len m n)
region-rows end t m zero inside = refl
region-rows end t m (suc n) inside = ap₂ (λ x xs. x ∷ xs) (region-row end t m (omega arith))
    (region-rows end t (m + 1) n (omega arith))

-- a row past the region's end is empty
pub region-past : (end : ℕ) (t : Emulator) (k : ℕ) → end ≤ k → region_row end t k ≡ empty_row t.width
region-past end t k past =
    let e : nat_lt k end ≡ false = grind (arith, nat_tests) in
    map_same (λ a. if nat_lt k end then look_in (t.columns a k) else empty_look) (λ a. empty_look) (λ a. rw e refl)
    (range_with_len 0 t.width)

first_row : (end : ℕ) (t : Emulator) → 0 < end → row_shown t 0 ≡ region_row end t 0
first_row end t some = sym (region-row end t 0 some)

pub feeds-none : (end : ℕ) (t : Emulator) → Feeds end 0 t t
feeds-none end t = record {
  rest = refl;
  columns = λ a b. up-still 0 end 0 blank_column t.columns a b (λ some. refl);
  history = sym (append-nil t.history);
  sure = λ sure sgr x known. sure;
}

-- one row, and then n more
pub feeds-next : (end n : ℕ) (t u : Emulator) (c : Columns) (now : Bool) → 0 < end
    → ((a b : ℕ) → c a b ≡ columns_moved (scrolling_up 0 end 1) t.columns a b)
    → (t.sure ≡ true → t.sgr ≡ default_sgr → t.x < t.width → is_row_known t 0 ≡ true → now ≡ true)
    → Feeds end n (record t { columns = c; history = t.history ++ row_shown t 0 ∷ []; sure = now }) u → Feeds end (suc n) t u
feeds-next end n t u c now some once agreed more =
    let s : Emulator = record t { columns = c; history = t.history ++ row_shown t 0 ∷ []; sure = now } in
    let next : (k : ℕ) → region_row end s k ≡ region_row end t (k + 1)
    = λ k. map_same (λ a. if nat_lt k end then look_in (c a k) else empty_look)
    (λ a. if nat_lt (k + 1) end then look_in (t.columns a (k + 1)) else empty_look)
    (λ a. ap (λ d. if nat_lt k end then look_in d else empty_look) (once a k) ∙ seen-up end t.columns a k)
    (range_with_len 0 t.width) in
    record {
      rest = more.rest;
      columns = λ a b. more.columns a b ∙ moved-along (scrolling_up 0 end n) blank_column c a b
          (columns_moved (scrolling_up 0 end 1) t.columns) (once a) ∙ up-again end n t.columns a b;
      history = more.history ∙ append_assoc t.history (row_shown t 0 ∷ []) (map (region_row end s) (range_with_len 0 n))
          ∙ ap₂ (λ x xs. t.history ++ (x ∷ xs)) (first_row end t some) (shift (region_row end t) (region_row end s) next 0 n);
      sure = λ sure sgr x known.
          let row : is_row_known t 0 ≡ true = all_range (λ a. is_known_column (t.columns a 0)) (λ a. known a 0) 0 t.width in
          more.sure (agreed sure sgr x row) sgr x (λ a b. subst (λ d. is_known_column d ≡ true) (sym (once a b))
          (moved-known (scrolling_up 0 end 1) t.columns known a b));
    }

-- line feeds in the last row of a region that begins with the first row
pub fed-feeds : (n : ℕ) (t : Emulator) → t.top ≡ 0 → (0 < n → t.y + 1 ≡ t.bottom) → Feeds t.bottom n t (fed n t)
fed-feeds zero t top last = feeds-none t.bottom t
fed-feeds (suc n) t top last =
    let y : t.y + 1 ≡ t.bottom = last (omega arith) in
    let s : Emulator = scrolled (if_so (nat_lt t.x t.width) t) in
    let e : nat_eq (t.y + 1) t.bottom ≡ true = grind (arith, nat_tests) in
    let here : line_fed t ≡ s = rw e refl in
    subst (Feeds t.bottom (suc n) t) (sym (ap (fed n) here)) (feeds-next t.bottom n t (fed n s) s.columns s.sure (omega arith)
    (λ a b. rw top refl)
    (λ sure sgr x row. let x_in : nat_lt t.x t.width ≡ true = grind (arith, nat_tests) in rw (sure, x_in, sgr, top, row) refl)
    (fed-feeds n s top (λ some. y)))

-- ---- line feeds above the last row

pub fed-above : (n : ℕ) (t : Emulator) → t.bottom ≡ t.height → t.sure ≡ true → t.x < t.width → t.y + n < t.height
    → fed n t ≡ record t { y = t.y + n }
fed-above zero t bottom sure x fits = let e : t.y ≡ t.y + 0 = omega arith in ap (λ k. record t { y = k }) e
fed-above (suc n) t bottom sure x fits =
    let e : nat_eq (t.y + 1) t.bottom ≡ false = grind (arith, nat_tests) in
    let x_in : nat_lt t.x t.width ≡ true = grind (arith, nat_tests) in
    let next : min (t.y + 1) (t.height - 1) ≡ t.y + 1 = omega arith in
    let stays : (t.sure && nat_lt t.x t.width) ≡ t.sure = rw (sure, x_in) refl in
    let here : line_fed t ≡ record t { y = t.y + 1 } = rw e (ap₂ (λ k b. record t { y = k; sure = b }) next stays) in
    let more : t.y + 1 + n ≡ t.y + suc n = omega arith in
    ap (fed n) here ∙ fed-above n (record t { y = t.y + 1 }) bottom sure x (omega arith) ∙ ap (λ k. record t { y = k }) more

pub fed-plus : (m k j : ℕ) (t : Emulator) → m + k ≡ j → fed j t ≡ fed k (fed m t)
fed-plus zero k j t e = let f : j ≡ k = omega arith in ap (λ i. fed i t) f
fed-plus (suc m) k zero t e = absurd (omega arith)
fed-plus (suc m) k (suc j) t e = fed-plus m k j (line_fed t) (omega arith)

-- what a row shows that moved up
shown-up : (end k : ℕ) (c : Columns) (a b : ℕ) → b < end
    → look_in (columns_moved (scrolling_up 0 end k) c a b) ≡ (if nat_lt (b + k) end then look_in (c a (b + k)) else empty_look)
shown-up end k c a b b_in =
    let here : (nat_le 0 b && nat_lt b end) ≡ true = grind (arith, nat_tests) in
    moved-through (scrolling_up 0 end k) blank_column c a b look_in ∙ rw here refl

-- ---- lines appended

pub appends-ready : (w h n : ℕ) → 0 < w → 0 < h
    → KeepsReady w h (λ t. fed n (returned t)) (λ s. Becomes (λ p q. Appends p n q × (q.cursor_x ≡ 0))
    (columns_moved (scrolling_up 0 h (s.y + n - (h - 1))) s.columns) s)
appends-ready w h n some_columns some_rows s ready =
    let r : Emulator = returned s in
    let y_in : s.y < h = ready.row in
    let high : s.height ≡ h = ready.rest.height in
    let wide : s.width ≡ w = ready.rest.width in
    let same : s.bottom ≡ h = ready.rest.bottom in
    let m = min n (h - 1 - s.y) in
    let k = n - m in
    let v : Emulator = record r { y = s.y + m } in
    let u : Emulator = fed k v in
    let feeds : Feeds h k v u = subst (λ end. Feeds end k v u) same (fed-feeds k v ready.rest.top (λ some. omega arith)) in
    let first : fed m r ≡ v = fed-above m r (ready.rest.bottom ∙ sym high) ready.rest.sure (omega arith) (omega arith) in
    let z : Emulator = record s { x = 0; y = s.y + m; columns = u.columns; history = u.history; sure = true } in
    let sure : u.sure ≡ true = feeds.sure ready.rest.sure ready.rest.sgr (omega arith) (all-known s.columns ready.tidy.sized) in
    let all : fed n r ≡ z = fed-plus m k n r (omega arith) ∙ ap (fed k) first ∙ feeds.rest
    ∙ ap (λ b. record z { sure = b }) sure in
    let past : s.y + n - (h - 1) ≡ k = omega arith in
    let up = columns_moved (scrolling_up 0 h (s.y + n - (h - 1))) s.columns in
    let columns : (a b : ℕ) → u.columns a b ≡ up a b = λ a b. feeds.columns a b
    ∙ ap (λ j. columns_moved (scrolling_up 0 h j) s.columns a b) (sym past) in
    subst (λ t. IsIdle w h t × Becomes (λ p q. Appends p n q × (q.cursor_x ≡ 0)) up s t) (sym all) (
      stays-idle w h 0 (s.y + m) s up u.columns u.history ready (omega arith) columns
          (moved-tidy w _ s.columns (λ i a b. refl) ready.tidy),
      record {
        columns = columns;
        screens = λ written.
            let lines : lines_past (screen_shown written s) n ≡ k = let e : nat_lt 0 s.height ≡ true = grind (arith, nat_tests) in
            rw e (omega arith) in (
              record {
                scrolled = subst (λ j. Scrolls (screen_shown written s) j (screen_shown written z)) (sym lines) (record {
                  history = feeds.history ∙ ap (λ q. s.history ++ map (region_row q s) (range_with_len 0 k)) (sym high);
                  width = refl;
                  height = refl;
                  grid = λ a b a_in b_in. ap look_in (feeds.columns a b) ∙ shown-up h k s.columns a b (omega arith)
                      ∙ ap (λ q. if nat_lt (b + k) q then look_in (s.columns a (b + k)) else empty_look) (sym high);
                  visible = refl;
                  written = refl;
                });
                row = let e : s.y + m ≡ min (s.y + n) (s.height - 1) = omega arith in e;
                no_rows = λ none. absurd (omega arith);
              },
              let e : min 0 (s.width - 1) ≡ 0 = omega arith in e,
            );
      },
    )
