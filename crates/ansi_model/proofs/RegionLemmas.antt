-- Regions that scroll, and what a screen shows of it.
use Rattle.std.proofs.Common.{◌≡◌, ℕ, ◌+◌, ◌-◌, ◌<◌, ◌≤◌, ◌++◌, ◌==◌, ◌&&◌, min, nat_lt, nat_le, nat_eq, if◌then◌else◌, Bool}
use Rattle.std.proofs.Common.{List, zero, suc, true, false, refl, sym, ap, ap₂, map, ◌∙◌, arith, append-nil, subst}
use Rattle.std.proofs.lemmas.Bool.Decides.{nat_tests}
use Rattle.std.proofs.Math.Path.{fun_ext}
use Rattle.std.specs.List.{range_with_len}
use Rattle.ratatui_core.specs.Buffer.{Look}
use Rattle.ratatui_core.specs.Backend.{Screen, Motion, ScrollsRegion, ScrollsUp, ScrollsDown, scrolling_up, scrolling_down}
use Rattle.ratatui_core.specs.Backend.{is_in_region, rows_above, upper_part, CurrentLine}
use Rattle.ansi_model.specs.Columns.{Columns, look_in, blank_column, overwritten}
use Rattle.ansi_model.specs.{Sgr.is_own, Sends.Performs}
use Rattle.ansi_model.specs.Emulator.{Emulator, rested, cursor_moved, erased, line_fed, fed, scrolled, if_so, returned}
use Rattle.ansi_model.specs.Emulator.{columns_moved, with_region, without_region}
use Rattle.ansi_model.specs.Inner.{fed_and_lowered, fed_and_lowered_by, scrolled_off_by}
use Rattle.ansi_model.specs.Emulator.{lines_deleted, lines_inserted}
use Rattle.ansi_model.specs.Screens.{screen_shown, IsIdle, Turns, Becomes}
use Rattle.ansi_model.proofs.ReadLemmas.{Leads-so, Leads-none, Sends-then, line_fed-rested, fed-rested}
use Rattle.ratatui_core.proofs.BackendLemmas.{moved-through}
use Rattle.ansi_model.proofs.MotionLemmas.{IsOfRows, moved-tidy, row-emptied, up-still, down-still, up-and-down}
use Rattle.ansi_model.proofs.ScrollLemmas.{all-known, KeepsReady, stays-idle, moved-placed, Feeds, feeds-none, feeds-next}
use Rattle.ansi_model.proofs.ScrollLemmas.{fed-feeds, fed-plus, region_row}

-- one action after another
pub Does-then : (a b c : List ℕ) (f g : Emulator → Emulator) → Performs a b f → Performs b c g
    → ((t : Emulator) → rested (f (rested t)) ≡ f (rested t)) → Performs a c (λ t. g (f t))
Does-then a b c f g first second stays =
    Leads-so (Sends-then a b c (λ t. f (rested t)) (λ t. g (rested t)) first second
    (λ t. ap (λ (u : Emulator). u.phase) (sym (stays t)))) (λ t ground. ground) (λ t u ground e. e ∙ ap g (stays t))

-- so many line feeds in a row, and one more
pub feeds-one-more : (a b c : List ℕ) (h : ℕ) → Performs a b (λ t. fed h (returned t)) → Performs b c line_fed
    → Performs a c (λ t. fed (h + 1) (returned t))
feeds-one-more a b c h feeds one =
    subst (λ f. Performs a c f) (fun_ext (λ t. sym (fed-plus h 1 (h + 1) (returned t) refl)))
    (Does-then a b c (λ t. fed h (returned t)) line_fed feeds one (λ t. sym (fed-rested h (returned (rested t)))))

-- rows scrolled off, and blank ones that come in
pub scrolls-off : (a b c d e : List ℕ) (h n : ℕ) → n ≡ min (h + 1) 65535 → Performs a b (cursor_moved 0 65534)
    → Performs b c (λ t. fed (h + 1) (returned t)) → Performs c d (cursor_moved 0 0) → Performs d e (lines_inserted n)
    → Performs a e (scrolled_off_by h)
scrolls-off a b c d e h n is down feeds up inserts =
    let left : Emulator → Emulator = λ t. fed (h + 1) (returned (cursor_moved 0 65534 t)) in
    let rests : (t : Emulator) → left (rested t) ≡ rested (left (rested t)) =
    λ t. fed-rested (h + 1) (returned (cursor_moved 0 65534 (rested t))) in
    let one : Performs a c left = Does-then a b c (cursor_moved 0 65534) (λ t. fed (h + 1) (returned t)) down feeds (λ t. refl) in
    let two : Performs a d (λ t. cursor_moved 0 0 (left t)) = Does-then a c d left (cursor_moved 0 0) one up (λ t. sym (rests t)) in
    subst (λ k. Performs a e (λ t. lines_inserted k (cursor_moved 0 0 (left t)))) is
    (Does-then a d e (λ t. cursor_moved 0 0 (left t)) (lines_inserted n) two inserts
    (λ t. ap (λ (u : Emulator). rested (cursor_moved 0 0 u)) (rests t) ∙ ap (cursor_moved 0 0) (sym (rests t))))

-- nothing sent
pub Turns-none : (w h : ℕ) (old : List ℕ) (related : Emulator → Emulator → Type 0) → ((t : Emulator) → IsIdle w h t → related t t)
    → Turns w h old old related
Turns-none w h old related same = record { leads = Leads-none refl (λ t is. (is, same (rested t) is.idle)) }

-- ---- a region, whatever its motion

-- with margins given up, of an idle terminal only the cursor, the columns and the history changed
without-margins : (w h x y : ℕ) (s : Emulator) (d : Columns) (rows : List (List Look)) (agreed : Bool) → IsIdle w h s
    → agreed ≡ true
    → record s { x = x; y = y; top = 0; bottom = s.height; columns = d; history = rows; sure = agreed } ≡ record s {
      x = x;
      y = y;
      columns = d;
      history = rows;
      sure = true;
    }
without-margins w h x y s d rows agreed ready sure =
    ap₂ (λ i j. record s { x = x; y = y; top = i; bottom = j; columns = d; history = rows; sure = agreed }) (sym ready.rest.top)
    (ready.rest.height ∙ sym ready.rest.bottom)
    ∙ ap (λ b. record s { x = x; y = y; columns = d; history = rows; sure = b }) sure

-- a region scrolls, from a up to b by n; `above` is the history then
module _ (w h a b n : ℕ) (motion : ℕ → ℕ → ℕ → Motion) (above : Screen → List (List Look))
    (rows : IsOfRows (motion a (min b h) n)) where
  abbrev Scrolled : Emulator → Emulator → Type 0
  Scrolled s = Becomes (λ p q. ScrollsRegion motion a b n (above p) p q) (columns_moved (motion a (min b h) n) s.columns) s

  region-scrolled : (x y : ℕ) (s : Emulator) (d : Columns) (left : List (List Look)) → IsIdle w h s → y < h
      → ((written : ℕ) → left ≡ above (screen_shown written s))
      → ((i j : ℕ) → d i j ≡ columns_moved (motion a (min b h) n) s.columns i j)
      → ((written : ℕ) → min b h ≤ a → screen_shown written (record s {
        x = x;
        y = y;
        columns = d;
        history = left;
        sure = true;
      }) ≡ screen_shown written s)
      → IsIdle w h (record s { x = x; y = y; columns = d; history = left; sure = true })
      × Scrolled s (record s { x = x; y = y; columns = d; history = left; sure = true })
  region-scrolled x y s d left ready row history columns no_rows =
      let high : s.height ≡ h = ready.rest.height in (
        stays-idle w h x y s (columns_moved (motion a (min b h) n) s.columns) d left ready row columns
            (moved-tidy w (motion a (min b h) n) s.columns rows ready.tidy),
        record {
          columns = columns;
          screens = λ written. record {
            history = history written;
            width = refl;
            height = refl;
            grid = λ i j i_in j_in. ap look_in (columns i j ∙ ap (λ q. columns_moved (motion a (min b q) n) s.columns i j)
                (sym high)) ∙ moved-through (motion a (min b s.height) n) blank_column s.columns i j look_in;
            visible = refl;
            written = refl;
            no_rows = λ none. no_rows written (omega arith);
          };
        },
      )

  module _ (some_columns : 0 < w) (stays : (s : Emulator) (written : ℕ) → IsIdle w h s
      → s.history ≡ above (screen_shown written s)) where
    -- one row, which is emptied
    row-scrolled : a < h → min b h ≡ a + 1 → ((x y : ℕ) → (motion a (a + 1) n).part x y ≡ is_in_region a (a + 1) y)
        → (motion a (a + 1) n).has_source a ≡ false
        → KeepsReady w h (λ t. erased CurrentLine (cursor_moved 0 a t)) Scrolled
    row-scrolled a_in one part none s ready =
        let wide : s.width ≡ w = ready.rest.width in
        let high : s.height ≡ h = ready.rest.height in
        let d = overwritten (λ k j. nat_eq j a) (λ i j. blank_column) s.columns in
        let x_in : nat_lt 0 s.width ≡ true = grind (arith, nat_tests) in
        let sure : (erased CurrentLine (record s { x = 0; y = a })).sure ≡ true =
        rw (ready.rest.sure, ready.rest.sgr, x_in) refl in
        let is : record s { x = 0; y = a; columns = d; sure = true } ≡ erased CurrentLine (cursor_moved 0 a s)
        = ap (λ k. record s { x = 0; y = a; columns = d; sure = k }) (sym sure) ∙ ap (erased CurrentLine)
        (moved-placed 0 a s (omega arith) (omega arith)) in
        subst (λ u. IsIdle w h u × Scrolled s u) is (region-scrolled 0 a s d s.history ready a_in
        (λ written. stays s written ready)
        (λ x y. row-emptied (motion a (a + 1) n) a s.columns x y (part x y) none
        ∙ ap (λ to. columns_moved (motion a to n) s.columns x y) (sym one)) (λ written empty. absurd (omega arith)))

    -- more rows, which move between margins; terminals agree on that where `agreed` says so
    rows-scrolled : (agreed : Emulator → Bool) → a + 1 < min b h
        → ((s : Emulator) → IsIdle w h s → agreed (record (with_region a (min b h) s) { x = 0; y = a }) ≡ true)
        → KeepsReady w h (λ t. let u : Emulator = cursor_moved 0 a (with_region a (min b h) t) in
        without_region (record u { columns = columns_moved (motion u.y u.bottom n) u.columns; sure = u.sure && agreed u }))
        Scrolled
    rows-scrolled agreed two agree s ready =
        let wide : s.width ≡ w = ready.rest.width in
        let high : s.height ≡ h = ready.rest.height in
        let end = min b h in
        let v : Emulator = record (with_region a end s) { x = 0; y = a } in
        let act : Emulator → Emulator = λ u. without_region (record u {
          columns = columns_moved (motion u.y u.bottom n) u.columns;
          sure = u.sure && agreed u;
        }) in
        let t1 : nat_lt (a + 1) end ≡ true = grind (arith, nat_tests) in
        let t2 : nat_le end s.height ≡ true = grind (arith, nat_tests) in
        let sure : (act v).sure ≡ true = rw (agree s ready, ready.rest.sure, t1, t2) refl in
        let d = columns_moved (motion a end n) s.columns in
        let is : record s { x = 0; y = 0; columns = d; sure = true } ≡ act (cursor_moved 0 a (with_region a end s))
        = sym (without-margins w h 0 0 s d s.history (act v).sure ready sure)
        ∙ ap act (moved-placed 0 a (with_region a end s) (omega arith) (omega arith)) in
        subst (λ u. IsIdle w h u × Scrolled s u) is (region-scrolled 0 0 s d s.history ready (omega arith)
        (λ written. stays s written ready) (λ x y. refl) (λ written empty. absurd (omega arith)))

  -- no row moves
  region-still : (s : Emulator) → IsIdle w h s → ((written : ℕ) → s.history ≡ above (screen_shown written s))
      → ((x y : ℕ) → s.columns x y ≡ columns_moved (motion a (min b h) n) s.columns x y) → Scrolled s s
  region-still s ready history columns =
      subst (Scrolled s) (ap (λ k. record s { sure = k }) (sym ready.rest.sure))
      (region-scrolled s.x s.y s s.columns s.history ready ready.row history columns (λ written none. refl)).1

-- ---- up, below the first row

abbrev above_up : ℕ → ℕ → ℕ → Screen → List (List Look)
above_up a b n p = if a == 0 && nat_lt 0 (min b p.height) then rows_above (upper_part b p) n else p.history

below : (a b n written : ℕ) (s : Emulator) → 0 < a → s.history ≡ above_up a b n (screen_shown written s)
below a b n written s low = let e : (a == 0) ≡ false = grind (arith, nat_tests) in rw e refl

pub row-up : (w h a b n : ℕ) → 0 < w → 0 < a → a < h → min b h ≡ a + 1 → 0 < n
    → KeepsReady w h (λ t. erased CurrentLine (cursor_moved 0 a t))
    (λ s. Becomes (ScrollsUp a b n) (columns_moved (scrolling_up a (min b h) n) s.columns) s)
row-up w h a b n some_columns low a_in one some =
    row-scrolled w h a b n scrolling_up (above_up a b n) (λ k i j. refl) some_columns
    (λ s written ready. below a b n written s low) a_in one (λ x y. refl) (grind (arith, nat_tests))

pub rows-up : (w h a b n : ℕ) → 0 < w → 0 < a → a + 1 < min b h
    → KeepsReady w h (λ t. without_region (lines_deleted n (cursor_moved 0 a (with_region a (min b h) t))))
    (λ s. Becomes (ScrollsUp a b n) (columns_moved (scrolling_up a (min b h) n) s.columns) s)
rows-up w h a b n some_columns low two =
    rows-scrolled w h a b n scrolling_up (above_up a b n) (λ k i j. refl) some_columns
    (λ s written ready. below a b n written s low)
    (λ t. is_own t.sgr && nat_lt 0 t.y && nat_le t.top t.y && nat_lt t.y t.bottom && nat_eq t.x 0) two
    (λ s ready.
    let t3 : nat_lt 0 a ≡ true = grind (arith, nat_tests) in
    let t4 : nat_le a a ≡ true = grind (arith, nat_tests) in
    let t5 : nat_lt a (min b h) ≡ true = grind (arith, nat_tests) in
    rw (ready.rest.sgr, t3, t4, t5) refl)

-- ---- down

pub row-down : (w h a b n : ℕ) → 0 < w → a < h → min b h ≡ a + 1 → 0 < n
    → KeepsReady w h (λ t. erased CurrentLine (cursor_moved 0 a t))
    (λ s. Becomes (ScrollsDown a b n) (columns_moved (scrolling_down a (min b h) n) s.columns) s)
row-down w h a b n some_columns a_in one some =
    row-scrolled w h a b n scrolling_down (λ p. p.history) (λ k i j. refl) some_columns (λ s written ready. refl) a_in one
    (λ x y. refl) (grind (arith, nat_tests))

pub rows-down : (w h a b n : ℕ) → 0 < w → a + 1 < min b h
    → KeepsReady w h (λ t. without_region (lines_inserted n (cursor_moved 0 a (with_region a (min b h) t))))
    (λ s. Becomes (ScrollsDown a b n) (columns_moved (scrolling_down a (min b h) n) s.columns) s)
rows-down w h a b n some_columns two =
    rows-scrolled w h a b n scrolling_down (λ p. p.history) (λ k i j. refl) some_columns (λ s written ready. refl)
    (λ t. is_own t.sgr && nat_le t.top t.y && nat_lt t.y t.bottom && nat_eq t.x 0) two
    (λ s ready.
    let t4 : nat_le a a ≡ true = grind (arith, nat_tests) in
    let t5 : nat_lt a (min b h) ≡ true = grind (arith, nat_tests) in
    rw (ready.rest.sgr, t4, t5) refl)

-- ---- where the region has no rows, or they move by none

pub still-up : (w h a b n : ℕ) (s : Emulator) → IsIdle w h s → (a < min b h → n ≡ 0)
    → Becomes (ScrollsUp a b n) (columns_moved (scrolling_up a (min b h) n) s.columns) s s
still-up w h a b n s ready none =
    let high : s.height ≡ h = ready.rest.height in
    region-still w h a b n scrolling_up (above_up a b n) (λ k i j. refl) s ready
    (λ written. elim (a == 0 && nat_lt 0 (min b s.height)) as (λ v. (a == 0 && nat_lt 0 (min b s.height)) ≡ v
    → s.history ≡ (if v then rows_above (upper_part b (screen_shown written s)) n else s.history)) [
      | true ↦ λ e. let z : n ≡ 0 = none (grind (arith, nat_tests)) in rw z (sym (append-nil s.history))
      | false ↦ λ e. refl
    ] refl)
    (λ x y. up-still a (min b h) n blank_column s.columns x y none)

pub still-down : (w h a b n : ℕ) (s : Emulator) → IsIdle w h s → (a < min b h → n ≡ 0)
    → Becomes (ScrollsDown a b n) (columns_moved (scrolling_down a (min b h) n) s.columns) s s
still-down w h a b n s ready none =
    region-still w h a b n scrolling_down (λ p. p.history) (λ k i j. refl) s ready (λ written. refl)
    (λ x y. down-still a (min b h) n blank_column s.columns x y none)

-- ---- up, from the first row on, of which rows go to the history

-- of an idle terminal only the cursor and the margins were set, and its first rows went to the history
first-scrolled : (w h b n x y : ℕ) (s v u : Emulator) → IsIdle w h s → 0 < min b h → y < h → v.columns ≡ s.columns
    → v.history ≡ s.history → v.width ≡ s.width → Feeds (min b h) n v u
    → IsIdle w h (record s { x = x; y = y; columns = u.columns; history = u.history; sure = true })
    × Becomes (ScrollsUp 0 b n) (columns_moved (scrolling_up 0 (min b h) n) s.columns) s (record s {
      x = x;
      y = y;
      columns = u.columns;
      history = u.history;
      sure = true;
    })
first-scrolled w h b n x y s v u ready some row columns history width feeds =
    let high : s.height ≡ h = ready.rest.height in
    let e : nat_lt 0 (min b s.height) ≡ true = grind (arith, nat_tests) in
    region-scrolled w h 0 b n scrolling_up (above_up 0 b n) (λ k i j. refl) x y s u.columns u.history ready row
    (λ written. rw e (rw (columns, history, width) at feeds.history
    ∙ ap (λ q. s.history ++ map (region_row (min b q) s) (range_with_len 0 n)) (sym high)))
    (rw columns at feeds.columns) (λ written none. absurd (omega arith))

pub screen-up : (w h b n : ℕ) → 0 < w → 0 < h → min b h ≡ h → KeepsReady w h (λ t. fed n (returned (cursor_moved 0 (h - 1) t)))
    (λ s. Becomes (ScrollsUp 0 b n) (columns_moved (scrolling_up 0 (min b h) n) s.columns) s)
screen-up w h b n some_columns some_rows all s ready =
    let wide : s.width ≡ w = ready.rest.width in
    let high : s.height ≡ h = ready.rest.height in
    let bottom : s.bottom ≡ h = ready.rest.bottom in
    let v : Emulator = record s { x = 0; y = h - 1 } in
    let u : Emulator = fed n v in
    let feeds : Feeds (min b h) n v u = subst (λ end. Feeds end n v u) (bottom ∙ sym all)
    (fed-feeds n v ready.rest.top (λ some. omega arith)) in
    let sure : u.sure ≡ true = feeds.sure ready.rest.sure ready.rest.sgr (omega arith) (all-known s.columns ready.tidy.sized) in
    let z : Emulator = record v { columns = u.columns; history = u.history; sure = true } in
    let is : z ≡ fed n (returned (cursor_moved 0 (h - 1) s)) = sym (feeds.rest ∙ ap (λ k. record z { sure = k }) sure)
    ∙ ap (λ t. fed n (returned t)) (moved-placed 0 (h - 1) s (omega arith) (omega arith)) in
    subst (λ t. IsIdle w h t × Becomes (ScrollsUp 0 b n) (columns_moved (scrolling_up 0 (min b h) n) s.columns) s t) is
    (first-scrolled w h b n 0 (h - 1) s v u ready (omega arith) (omega arith) refl refl refl feeds)

-- between margins, which are given up
margins-up : (w h b n : ℕ) (s v u : Emulator) → 0 < w → 1 < h → IsIdle w h s → 0 < min b h
    → v ≡ record s { x = v.x; y = v.y; top = v.top; bottom = v.bottom; sure = v.sure } → v.sure ≡ true → v.x < w
    → Feeds (min b h) n v u
    → IsIdle w h (without_region u) × Becomes (ScrollsUp 0 b n) (columns_moved (scrolling_up 0 (min b h) n) s.columns) s
    (without_region u)
margins-up w h b n s v u some_columns two ready some rest v_sure x_in feeds =
    let wide : s.width ≡ w = ready.rest.width in
    let columns : v.columns ≡ s.columns = ap (λ (t : Emulator). t.columns) rest in
    let sgr : v.sgr ≡ s.sgr = ap (λ (t : Emulator). t.sgr) rest in
    let width : v.width ≡ s.width = ap (λ (t : Emulator). t.width) rest in
    let sure : u.sure ≡ true = feeds.sure v_sure (sgr ∙ ready.rest.sgr) (omega arith)
    (all-known v.columns (rw (← columns) at ready.tidy.sized)) in
    let is : without_region u ≡ record s { x = 0; y = 0; columns = u.columns; history = u.history; sure = true }
    = ap without_region (feeds.rest ∙ ap (λ (t : Emulator). record t {
      columns = u.columns;
      history = u.history;
      sure = u.sure;
    }) rest) ∙ without-margins w h 0 0 s u.columns u.history u.sure ready sure in
    subst (λ t. IsIdle w h t × Becomes (ScrollsUp 0 b n) (columns_moved (scrolling_up 0 (min b h) n) s.columns) s t) (sym is)
    (first-scrolled w h b n 0 0 s v u ready some (omega arith) columns (ap (λ (t : Emulator). t.history) rest) width feeds)

pub first-up : (w h b n : ℕ) → 0 < w → 1 < min b h
    → KeepsReady w h (λ t. without_region (fed n (returned (cursor_moved 0 (min b h - 1) (with_region 0 (min b h) t)))))
    (λ s. Becomes (ScrollsUp 0 b n) (columns_moved (scrolling_up 0 (min b h) n) s.columns) s)
first-up w h b n some_columns two s ready =
    let wide : s.width ≡ w = ready.rest.width in
    let high : s.height ≡ h = ready.rest.height in
    let to = min b h in
    let v : Emulator = record (with_region 0 to s) { x = 0; y = to - 1 } in
    let t1 : nat_lt (0 + 1) to ≡ true = grind (arith, nat_tests) in
    let t2 : nat_le to s.height ≡ true = grind (arith, nat_tests) in
    let v_sure : v.sure ≡ true = rw (ready.rest.sure, t1, t2) refl in
    let is : fed n v ≡ fed n (returned (cursor_moved 0 (to - 1) (with_region 0 to s))) = ap (λ t. fed n (returned t))
    (moved-placed 0 (to - 1) (with_region 0 to s) (omega arith) (omega arith)) in
    subst (λ u. IsIdle w h (without_region u) × Becomes (ScrollsUp 0 b n) (columns_moved (scrolling_up 0 to n) s.columns) s
    (without_region u)) is
    (margins-up w h b n s v (fed n v) some_columns (omega arith) ready (omega arith) refl v_sure some_columns
    (fed-feeds n v refl (λ some. omega arith)))

-- ---- the first row alone

round-rested : (t : Emulator) → rested (fed_and_lowered (rested t)) ≡ fed_and_lowered (rested t)
round-rested t =
    let u : Emulator = cursor_moved 0 1 (rested t) in
    sym (ap (λ v. lines_inserted 1 (cursor_moved 0 0 v)) (line_fed-rested u)
    ∙ ap (λ v. rested (lines_inserted 1 (cursor_moved 0 0 v))) (sym (line_fed-rested u)))

pub rounds-rested : (n : ℕ) (t : Emulator) → rested t ≡ t → rested (fed_and_lowered_by n t) ≡ fed_and_lowered_by n t
rounds-rested zero t e = e
rounds-rested (suc n) t e = rounds-rested n (fed_and_lowered t) (ap (λ u. rested (fed_and_lowered u)) (sym e) ∙ round-rested t
    ∙ ap fed_and_lowered e)

rounds-next : (n : ℕ) (t : Emulator) → fed_and_lowered_by (suc n) t ≡ fed_and_lowered (fed_and_lowered_by n t)
rounds-next zero t = refl
rounds-next (suc n) t = rounds-next n (fed_and_lowered t)

pub rounds-all : (a b : List ℕ) (k n : ℕ) (f : Emulator → Emulator) → k ≡ n → Performs a b (λ t. fed_and_lowered_by k (f t))
    → Performs a b (λ t. fed_and_lowered_by n (f t))
rounds-all a b k n f e does = subst (λ m. Performs a b (λ t. fed_and_lowered_by m (f t))) e does

-- one more round
pub rounds-more : (a b c : List ℕ) (k : ℕ) (f : Emulator → Emulator) → ((t : Emulator) → rested (f (rested t)) ≡ f (rested t))
    → Performs a b (λ t. fed_and_lowered_by k (f t)) → Performs b c fed_and_lowered
    → Performs a c (λ t. fed_and_lowered_by (k + 1) (f t))
rounds-more a b c k f stays first next =
    let e : suc k ≡ k + 1 = omega arith in
    Leads-so (Does-then a b c (λ t. fed_and_lowered_by k (f t)) fed_and_lowered first next
    (λ t. rounds-rested k (f (rested t)) (stays t))) (λ t ground. ground)
    (λ t u ground does. does ∙ sym (rounds-next k (f (rested t))) ∙ ap (λ n. fed_and_lowered_by n (f (rested t))) e)

-- n rounds
pub rounds-are : (n : ℕ) (t : Emulator) → t.top ≡ 0 → t.bottom ≡ 2 → t.x ≡ 0 → t.y ≡ 0 → 0 < t.width → 1 < t.height
    → Feeds 1 n t (fed_and_lowered_by n t)
rounds-are zero t top bottom x y wide high = feeds-none 1 t
rounds-are (suc n) t top bottom x y wide high =
    let p : Emulator = record t { x = 0; y = 1 } in
    let v : Emulator = scrolled (if_so (nat_lt 0 t.width) p) in
    let s : Emulator = lines_inserted 1 (record v { x = 0; y = 0 }) in
    let z : Emulator = record t { columns = s.columns; history = s.history; sure = s.sure } in
    let e : nat_eq (1 + 1) t.bottom ≡ true = grind (arith, nat_tests) in
    let fed_is : line_fed p ≡ v = rw e refl in
    let here : fed_and_lowered t ≡ z = ap (λ u. lines_inserted 1 (cursor_moved 0 0 (line_fed u)))
    (sym (moved-placed 0 1 t wide high)) ∙ ap (λ u. lines_inserted 1 (cursor_moved 0 0 u)) fed_is
    ∙ ap (lines_inserted 1) (sym (moved-placed 0 0 v wide (omega arith))) ∙ ap₂ (λ i j. record z { x = i; y = j }) (sym x)
    (sym y) in
    subst (Feeds 1 (suc n) t) (sym (ap (fed_and_lowered_by n) here))
    (feeds-next 1 n t (fed_and_lowered_by n z) s.columns s.sure (omega arith)
    (λ a b. rw (top, bottom) (up-and-down t.columns a b))
    (λ sure sgr at row. let x_in : nat_lt 0 t.width ≡ true = grind (arith, nat_tests) in
    rw (sure, x_in, sgr, top, row, bottom) refl)
    (rounds-are n z top bottom x y wide high))

pub one-up : (w h b n : ℕ) → 0 < w → 1 < h → min b h ≡ 1
    → KeepsReady w h (λ t. without_region (fed_and_lowered_by n (with_region 0 2 t)))
    (λ s. Becomes (ScrollsUp 0 b n) (columns_moved (scrolling_up 0 (min b h) n) s.columns) s)
one-up w h b n some_columns two one s ready =
    let wide : s.width ≡ w = ready.rest.width in
    let high : s.height ≡ h = ready.rest.height in
    let v : Emulator = with_region 0 2 s in
    let u : Emulator = fed_and_lowered_by n v in
    let t2 : nat_le 2 s.height ≡ true = grind (arith, nat_tests) in
    let v_sure : v.sure ≡ true = rw (ready.rest.sure, t2) refl in
    margins-up w h b n s v u some_columns two ready (omega arith) refl v_sure some_columns
    (subst (λ end. Feeds end n v u) (sym one) (rounds-are n v refl refl refl refl (omega arith) (omega arith)))
