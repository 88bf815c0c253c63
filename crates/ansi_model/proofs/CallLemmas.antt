-- Moves of the cursor, its visibility, and the screen emptied.
use Rattle.std.proofs.Common.{◌≡◌, ◌⊎◌, inl, inr, ℕ, ◌+◌, ◌-◌, ◌<◌, ◌≤◌, ◌&&◌, ◌||◌, min, nat_lt, nat_le, nat_eq, if◌then◌else◌, Bool}
use Rattle.std.proofs.Common.{true, false, List, [], ◌∷◌, ◌++◌, map, refl, sym, ap, ap₂, subst, ◌∙◌, arith}
use Rattle.std.proofs.lemmas.Bool.Decides.{nat_tests}
use Rattle.std.proofs.Math.Path.{fun_ext}
use Rattle.std.specs.List.{range_with_len}
use Rattle.std.proofs.lemmas.List.FromFn.{map-range_with_len_more}
use Rattle.ratatui_core.specs.Backend.{Motion, scrolling_up, scrolling_down, clearing, Clears, with_cursor, with_visible, All, BeforeCursor}
use Rattle.ratatui_core.specs.Backend.{is_cleared}
use Rattle.ansi_model.specs.Columns.{Columns, look_in, is_met, blank_column, overwritten}
use Rattle.ansi_model.specs.{Columns.Column.Unknown, Sgr.default_sgr, Emulator.Phase.Ground, Sends.Performs}
use Rattle.ansi_model.specs.Emulator.{Emulator, rested, standing, printed, prints, returned, fed, run, blank_terminal}
use Rattle.ansi_model.specs.Emulator.{cursor_moved, erased, columns_moved, without_region, with_sgr, lines_inserted}
use Rattle.ansi_model.specs.Emulator as terminal
use Rattle.ansi_model.specs.Beginnings.{IsAsFound, anew, MakesBlank, SavesScreen, SavesHigher, SavesFirstRows, AreKnown}
use Rattle.ansi_model.specs.Inner.{without_modes, scrolled_off_by}
use Rattle.ansi_model.specs.Beginnings.{scrolled_off, screen_rows, empty_row, saved_rows}
use Rattle.ansi_model.specs.{Columns.Column.Shows, Sgr.inked, Modes.no_modes, Symbols.is_plain_char, Symbols.printed_columns}
use Rattle.ansi_model.specs.{Sends.Sends, Sends.typed}
use lib.Utf8.{encode}
use Rattle.ansi_model.proofs.{ReadLemmas.Sends-then, PutLemmas.none_between, SymbolLemmas.alone-standing}
use Rattle.ansi_model.proofs.{SymbolLemmas.plain-printed, SymbolLemmas.plain-single, SymbolLemmas.one-undisputed}
use Rattle.ansi_model.specs.Screens.{screen_shown, IsIdle, IsBlankBeyond, Becomes}
use Rattle.ansi_model.proofs.{MotionLemmas.moved-tidy, MotionLemmas.not_met, ScrollLemmas.KeepsReady, ScrollLemmas.stays-idle}
use Rattle.ansi_model.proofs.{ScrollLemmas.moved-placed, ScrollLemmas.Feeds, ScrollLemmas.fed-feeds, ScrollLemmas.region_row}
use Rattle.ansi_model.proofs.{ScrollLemmas.region-rows, ScrollLemmas.region-past}

pub cursor-moved : (w h x y : ℕ) → 0 < w → 0 < h
    → KeepsReady w h (cursor_moved x y) (λ s. Becomes (λ p q. q ≡ with_cursor x y p) s.columns s)
cursor-moved w h x y wide high s ready =
    let width : s.width ≡ w = ready.rest.width in
    let height : s.height ≡ h = ready.rest.height in
    let kept : min (min x (s.width - 1)) (s.width - 1) ≡ min x (s.width - 1) = omega arith in (
      record {
        rest = ready.rest;
        row = omega arith;
        tidy = ready.tidy;
      },
      record {
        screens = λ written. ap (λ k. record (screen_shown written s) { cursor_x = k; cursor_y = min y (s.height - 1) }) kept;
        columns = λ a b. refl;
      },
    )

pub cursor-visible : (w h : ℕ) (visible : Bool) → KeepsReady w h (terminal.cursor_shown visible)
    (λ s. Becomes (λ p q. q ≡ with_visible visible p) s.columns s)
cursor-visible w h visible s ready = (
  record {
    rest = ready.rest;
    row = ready.row;
    tidy = ready.tidy;
  },
  record { screens = λ written. refl; columns = λ a b. refl },
)

-- the cursor moved somewhere, and back
pub cursor-back : (w h a b x y : ℕ) → 0 < w → 0 < h → KeepsReady w h (λ t. cursor_moved x y (cursor_moved a b t))
    (λ s. Becomes (λ p q. p.cursor_x ≡ x → p.cursor_y ≡ y → q ≡ p) s.columns s)
cursor-back w h a b x y wide high s ready =
    let width : s.width ≡ w = ready.rest.width in
    let height : s.height ≡ h = ready.rest.height in
    let row : s.y < h = ready.row in (
      record {
        rest = ready.rest;
        row = omega arith;
        tidy = ready.tidy;
      },
      record {
        screens = λ written at_x at_y.
            let cursor_x : min (min x (s.width - 1)) (s.width - 1) ≡ min s.x (s.width - 1) = omega arith in
            let cursor_y : min y (s.height - 1) ≡ s.y = omega arith in
            ap₂ (λ i j. record (screen_shown written s) { cursor_x = i; cursor_y = j }) cursor_x cursor_y;
        columns = λ i j. refl;
      },
    )

pub nothing-changed : (w h : ℕ) → KeepsReady w h (λ t. t) (λ s. Becomes (λ p q. q ≡ p) s.columns s)
nothing-changed w h s ready = (ready, record { screens = λ written. refl; columns = λ a b. refl })

-- ---- the screen emptied

right-end : (p : Bool) → (if p then blank_column else (if p || false then Unknown else blank_column)) ≡ blank_column
right-end true = refl
right-end false = refl

-- the motion that empties the first h rows
abbrev pub emptying : ℕ → Motion
emptying h = clearing (λ a b. nat_lt b h)

erased-emptied : (w h : ℕ) (c : Columns) → 0 < w → 0 < h → IsBlankBeyond w c → (a b : ℕ)
    → overwritten (is_cleared BeforeCursor (w - 1) (h - 1)) (λ i j. blank_column) c a b ≡ columns_moved (emptying h) c a b
erased-emptied w h c wide high beyond a b =
    let area = is_cleared BeforeCursor (w - 1) (h - 1) in
    elim (nat_lt b h) as (λ p. nat_lt b h ≡ p
    → (if area a b then blank_column else (if is_met area a b (c a b) then Unknown else c a b)) ≡
    (if p then blank_column else c a b)) [
      | true ↦ λ inside. elim (nat_lt a w) as (λ q. nat_lt a w ≡ q
          → (if area a b then blank_column else (if is_met area a b (c a b) then Unknown else c a b)) ≡ blank_column) [
            | true ↦ λ left. let e : area a b ≡ true = grind (arith, nat_tests) in rw e refl
            | false ↦ λ right.
                let blank : c a b ≡ blank_column = beyond a b (grind (arith, nat_tests)) in
                let here : a - 0 ≡ a = omega arith in
                rw (blank, here) (right-end (area a b))
          ] refl
      | false ↦ λ below.
          let none : (k : ℕ) → area k b ≡ false = λ k. grind (arith, nat_tests) in
          rw (none a, not_met area a b (c a b) none) refl
    ] refl

pub screen-emptied : (w h x y : ℕ) → 0 < w → 0 < h
    → KeepsReady w h (λ t. cursor_moved x y (erased BeforeCursor (cursor_moved (w - 1) (h - 1) t)))
    (λ s. Becomes (λ p q. p.cursor_x ≡ x → p.cursor_y ≡ y → Clears p All q) (columns_moved (emptying h) s.columns) s)
screen-emptied w h x y wide high s ready =
    let width : s.width ≡ w = ready.rest.width in
    let height : s.height ≡ h = ready.rest.height in
    let d = overwritten (is_cleared BeforeCursor (w - 1) (h - 1)) (λ a b. blank_column) s.columns in
    let same : (a b : ℕ) → d a b ≡ columns_moved (emptying h) s.columns a b =
    erased-emptied w h s.columns wide high ready.tidy.beyond in
    let x_in : nat_lt (w - 1) s.width ≡ true = grind (arith, nat_tests) in
    let sure : (erased BeforeCursor (record s { x = w - 1; y = h - 1 })).sure ≡ true =
    rw (ready.rest.sure, ready.rest.sgr, x_in) refl in
    let z : Emulator = record s { x = min x (s.width - 1); y = min y (s.height - 1); columns = d; sure = true } in
    let is : z ≡ cursor_moved x y (erased BeforeCursor (cursor_moved (w - 1) (h - 1) s))
    = ap (λ k. record z { sure = k }) (sym sure) ∙ ap (λ t. cursor_moved x y (erased BeforeCursor t))
    (moved-placed (w - 1) (h - 1) s (omega arith) (omega arith)) in
    subst (λ u. IsIdle w h u × Becomes (λ p q. p.cursor_x ≡ x → p.cursor_y ≡ y → Clears p All q)
    (columns_moved (emptying h) s.columns) s u) is (
      stays-idle w h _ _ s (columns_moved (emptying h) s.columns) d s.history ready (omega arith) same
          (moved-tidy w (emptying h) s.columns (λ k a b. refl) ready.tidy),
      record {
        columns = same;
        screens = λ written at_x at_y.
            let cursor_x : min (min x (s.width - 1)) (s.width - 1) ≡ min s.x (s.width - 1) = omega arith in
            let row : s.y < h = ready.row in
            let cursor_y : min y (s.height - 1) ≡ s.y = omega arith in
            record {
              rest = ap₂ (λ i j. record (screen_shown written s) {
                grid = λ a b. look_in (d a b);
                cursor_x = i;
                cursor_y = j;
              }) cursor_x cursor_y;
              grid = λ a b a_in b_in. ap look_in (same a b) ∙ (let inside : nat_lt b h ≡ true = grind (arith, nat_tests) in
                  rw inside refl);
            };
      },
    )

-- ---- a blank beginning

same-fields : (s t : Emulator) → s.width ≡ t.width → s.height ≡ t.height → s.phase ≡ t.phase → s.text ≡ t.text → s.sgr ≡ t.sgr
    → s.x ≡ t.x → s.y ≡ t.y → s.top ≡ t.top → s.bottom ≡ t.bottom
    → s.columns ≡ t.columns → s.history ≡ t.history → s.visible ≡ t.visible → s.modes ≡ t.modes → s.sure ≡ t.sure → s ≡ t
same-fields s t width height phase text sgr x y top bottom columns history visible modes sure =
    rw (width, height, phase, text, sgr, x, y, top, bottom, columns, history, visible, modes, sure) refl

-- m and é, one over the other in the terminal's first column
abbrev pub lettered : Emulator → Emulator
lettered t = prints (encode 233) (printed_columns (encode 233)) (returned (prints (encode 109) (printed_columns (encode 109)) t))

abbrev pub own : Emulator → Emulator
own t = without_region (with_sgr default_sgr (without_modes t))

abbrev pub emptied : ℕ → ℕ → Emulator → Emulator
emptied w h t = terminal.cursor_shown true (cursor_moved 0 0 (erased BeforeCursor (cursor_moved (w - 1) (h - 1) t)))

abbrev pub begun : ℕ → ℕ → Emulator → Emulator
begun w h s = emptied w h (lettered (own s))

m-one : printed_columns (encode 109) ≡ 1
m-one = rw (plain-single 109 refl) refl

e-one : printed_columns (encode 233) ≡ 1
e-one = rw (plain-single 233 refl) refl

-- a letter that stands alone, in no mode
letter-stands : (c : ℕ) (t : Emulator) → is_plain_char c ≡ true → t.modes ≡ no_modes → t.text ≡ []
    → standing (typed (encode c) t) ≡ prints (encode c) (printed_columns (encode c)) (standing t)
letter-stands c t plain modes none = alone-standing (encode c) t modes (plain-printed c plain)
    (one-undisputed (encode c) (plain-single c plain)) none

letters-stand : (t : Emulator) → rested (typed (encode 233) (returned (rested (typed (encode 109) (own (rested t)))))) ≡ lettered
    (own (rested t))
letters-stand t =
    let u : Emulator = own (rested t) in
    let v : Emulator = returned (prints (encode 109) (printed_columns (encode 109)) u) in
    ap (λ (x : Emulator). rested (typed (encode 233) (returned (record x { phase = Ground }))))
    (letter-stands 109 u refl refl refl)
    ∙ ap (λ (x : Emulator). record x { phase = Ground }) (letter-stands 233 v refl refl refl)

-- what is blank off the screen stays so
off-kept : (new c : Columns) (a b : ℕ) → run 0 0 1 a b ≡ false → c a b ≡ blank_column
    → overwritten (run 0 0 1) new c a b ≡ blank_column
off-kept new c a b out blank =
    let met : is_met (run 0 0 1) a b blank_column ≡ false = none_between (λ k. run 0 0 1 k b)
    (a - 0) 1 (λ k low high. grind (arith, nat_tests)) in
    rw (out, blank, met) refl

letters-off : (w h : ℕ) (s : Emulator) → 0 < w → 0 < h → IsAsFound w h s → (a b : ℕ) → (w ≤ a) ⊎ (h ≤ b)
    → (lettered (own s)).columns a b ≡ blank_column
letters-off w h s wide high left a b out =
    let apart : run 0 0 1 a b ≡ false = elim out [
      | inl right ↦ grind (arith, nat_tests)
      | inr below ↦ grind (arith, nat_tests)
    ] in
    let first : Columns = overwritten (run 0 0 1) (λ i j. Shows (inked (encode 109) default_sgr) (i - 0) 1) s.columns in
    ap₂ (λ m n. overwritten (run 0 0 n) (λ i j. Shows (inked (encode 233) default_sgr) (i - 0) n)
    (overwritten (run 0 0 m) (λ i j. Shows (inked (encode 109) default_sgr) (i - 0) m) s.columns) a b) m-one e-one
    ∙ off-kept (λ i j. Shows (inked (encode 233) default_sgr) (i - 0) 1) first a b apart
    (off-kept (λ i j. Shows (inked (encode 109) default_sgr) (i - 0) 1) s.columns a b apart (left.off a b out))

blank-begun : (w h : ℕ) (s : Emulator) → 0 < w → 0 < h → IsAsFound w h s → s.sure ≡ true
    → begun w h s ≡ record (blank_terminal w h) { history = s.history }
blank-begun w h s wide high left sure =
    let width : s.width ≡ w = left.width in
    let height : s.height ≡ h = left.height in
    let column : min (w - 1) (s.width - 1) ≡ w - 1 = omega arith in
    let row : min (h - 1) (s.height - 1) ≡ h - 1 = omega arith in
    let side : min 0 (s.width - 1) ≡ 0 = omega arith in
    let top : min 0 (s.height - 1) ≡ 0 = omega arith in
    let inside : nat_lt (min (w - 1) (s.width - 1)) s.width ≡ true = grind (arith, nat_tests) in
    let one_wide : nat_le 1 s.width ≡ true = grind (arith, nat_tests) in
    let one_high : nat_lt 0 s.height ≡ true = grind (arith, nat_tests) in
    let fits : (n : ℕ) → n ≡ 1 → (nat_lt 0 n && nat_le (0 + n) s.width && nat_lt 0 s.height) ≡ true =
    λ n one. rw (one, one_wide, one_high) refl in
    let still : (begun w h s).sure ≡ true
    = ap (λ b. ((b && (nat_lt 0 (printed_columns (encode 109)) && nat_le (0 + printed_columns (encode 109)) s.width
    && nat_lt 0 s.height))
    && (nat_lt 0 (printed_columns (encode 233)) && nat_le (0 + printed_columns (encode 233)) s.width && nat_lt 0 s.height))
    && (true && nat_lt (min (w - 1) (s.width - 1)) s.width && true)) sure
    ∙ ap₂ (λ p q. (p && q) && (true && nat_lt (min (w - 1) (s.width - 1)) s.width && true))
    (fits (printed_columns (encode 109)) m-one) (fits (printed_columns (encode 233)) e-one)
    ∙ ap (λ b. b && true) inside in
    let c : Columns = (lettered (own s)).columns in
    let blank : (a b : ℕ) → (begun w h s).columns a b ≡ blank_column = λ a b.
    ap₂ (λ i j. overwritten (is_cleared BeforeCursor i j) (λ k r. blank_column) c a b) column row
    ∙ erased-emptied w h c wide high (λ k r out. letters-off w h s wide high left k r (inl out)) a b
    ∙ elim (nat_lt b h) as (λ p. nat_lt b h ≡ p → (if p then blank_column else c a b) ≡ blank_column) [
      | true ↦ λ in_rows. refl
      | false ↦ λ below. letters-off w h s wide high left a b (inr (grind (arith, nat_tests)))
    ] refl in
    same-fields (begun w h s) (record (blank_terminal w h) { history = s.history }) width height left.phase left.text refl side
    top refl height (fun_ext (λ a. fun_ext (λ b. blank a b))) refl refl refl still

pub rested-left : (w h : ℕ) (t : Emulator) → IsAsFound w h t → rested t ≡ t
rested-left w h t left =
    ap (λ xs. record (printed xs t) { text = []; phase = Ground }) left.text
    ∙ ap₂ (λ xs p. record t { text = xs; phase = p }) (sym left.text) (sym left.phase)

pub left-anew : (w h : ℕ) (t : Emulator) → IsAsFound w h t → IsAsFound w h (anew t)
left-anew w h t left = record { phase = left.phase; text = left.text; width = left.width; height = left.height; off = left.off }

pub makes-blank : (w h : ℕ) (old first second new : List ℕ) → 0 < w → 0 < h → Performs old first own
    → Sends first second (λ t. typed (encode 233) (returned (rested (typed (encode 109) t))))
    → Performs second new (emptied w h) → MakesBlank w h old new
makes-blank w h old first second new wide high owns letters empties =
    let letter : Emulator → Emulator = λ t. typed (encode 233) (returned (rested (typed (encode 109) t))) in
    let both = Sends-then old first second (λ t. own (rested t)) letter owns letters (λ t. refl) in
    let all = Sends-then old second new (λ t. letter (own (rested t))) (λ t. emptied w h (rested t)) both empties (λ t. refl) in
    record {
      bytes = all.bytes;
      appended = all.appended;
      read = λ t left.
          let again : IsAsFound w h (anew t) = left-anew w h t left in
          all.read (anew t) again.phase ∙ ap (emptied w h) (letters-stand (anew t))
          ∙ ap (begun w h) (rested-left w h (anew t) again) ∙ blank-begun w h (anew t) wide high again refl;
    }

-- ---- the screen scrolled into the history

-- where as many rows scroll as there are, or more, nothing is left
gone : (h n : ℕ) (c : Columns) (a b : ℕ) → h ≤ n → (h ≤ b → c a b ≡ blank_column)
    → columns_moved (scrolling_up 0 h n) c a b ≡ blank_column
gone h n c a b all off =
    let low : nat_le 0 b ≡ true = grind (arith, nat_tests) in
    elim (nat_lt b h) as (λ p. nat_lt b h ≡ p
    → (if nat_le 0 b && p then (if nat_lt (b + n) h then c a (b + n) else blank_column) else c a b) ≡ blank_column) [
      | true ↦ λ inside. let past : nat_lt (b + n) h ≡ false = grind (arith, nat_tests) in rw (low, past) refl
      | false ↦ λ below. rw low (off (grind (arith, nat_tests)))
    ] refl

-- where nothing stands, nothing stands after a motion
blank-moved : (m : Motion) (c : Columns) → ((a b : ℕ) → c a b ≡ blank_column) → (a b : ℕ)
    → columns_moved m c a b ≡ blank_column
blank-moved m c blank a b =
    elim (m.part a b) as (λ p. (if p then (if m.has_source b then c a (m.source b) else blank_column) else c a b) ≡ blank_column) [
      | true ↦ elim (m.has_source b) as (λ q. (if q then c a (m.source b) else blank_column) ≡ blank_column) [
        | true ↦ blank a (m.source b)
        | false ↦ refl
      ]
      | false ↦ blank a b
    ]

screen-saved : (w h : ℕ) (s : Emulator) → 0 < w → 0 < h → h ≤ 65535 → IsAsFound w h s → s.sure ≡ true → AreKnown s.columns
    → scrolled_off_by h (own s) ≡ scrolled_off w h (s.history ++ saved_rows w s) s
screen-saved w h s wide high most left sure known =
    let width : s.width ≡ w = left.width in
    let height : s.height ≡ h = left.height in
    let v : Emulator = returned (cursor_moved 0 65534 (own s)) in
    let feeds : Feeds s.height (h + 1) v (fed (h + 1) v) = fed-feeds (h + 1) v refl (λ some. omega arith) in
    let columns : (a b : ℕ) → (fed (h + 1) v).columns a b ≡ blank_column = λ a b.
    feeds.columns a b ∙ ap (λ end. columns_moved (scrolling_up 0 end (h + 1)) s.columns a b) height
    ∙ gone h (h + 1) s.columns a b (omega arith) (λ below. left.off a b (inr below)) in
    let first : map (region_row s.height v) (range_with_len 0 h) ≡ screen_rows s
    = ap (λ n. map (region_row s.height v) (range_with_len 0 n)) (sym height) ∙ region-rows s.height v 0 s.height (omega arith) in
    let last : region_row s.height v h ≡ empty_row w
    = region-past s.height v h (omega arith) ∙ ap empty_row width in
    let rows : map (region_row s.height v) (range_with_len 0 (h + 1)) ≡ saved_rows w s
    = map-range_with_len_more (region_row s.height v) 0 h h (omega arith) ∙ ap₂ (λ xs row. xs ++ row ∷ []) first last in
    let n = min (h + 1) 65535 in
    let u : Emulator = record v {
      columns = (fed (h + 1) v).columns;
      history = (fed (h + 1) v).history;
      sure = (fed (h + 1) v).sure;
    } in
    let z : Emulator = lines_inserted n (cursor_moved 0 0 u) in
    let side : min 0 (s.width - 1) ≡ 0 = omega arith in
    let top : min 0 (s.height - 1) ≡ 0 = omega arith in
    let inside : nat_lt (min 0 (s.height - 1)) s.height ≡ true = grind (arith, nat_tests) in
    let corner : nat_le 0 (min 0 (s.height - 1)) ≡ true = grind (arith, nat_tests) in
    let first : nat_eq (min 0 (s.width - 1)) 0 ≡ true = grind (arith, nat_tests) in
    let still : z.sure ≡ true = rw (feeds.sure sure refl (omega arith) known, corner, inside, first) refl in
    let all : (a b : ℕ) → z.columns a b ≡ blank_column
    = blank-moved (scrolling_down (min 0 (s.height - 1)) s.height n) (fed (h + 1) v).columns columns in
    ap (λ (x : Emulator). lines_inserted n (cursor_moved 0 0 x)) feeds.rest
    ∙ same-fields z (scrolled_off w h (s.history ++ saved_rows w s) s) width height left.phase left.text refl side top refl height
    (fun_ext (λ a. fun_ext (λ b. all a b))) (feeds.history ∙ ap (λ xs. s.history ++ xs) rows) refl refl still

pub saves-screen : (w h : ℕ) (old new : List ℕ) → 0 < w → 0 < h → h ≤ 65535
    → Performs old new (λ t. scrolled_off_by h (own t)) → SavesScreen w h old new
saves-screen w h old new wide high most does = record {
  bytes = does.bytes;
  appended = does.appended;
  read = λ t found.
      let again : IsAsFound w h (anew t) = left-anew w h t found.0 in
      does.read (anew t) again.phase ∙ ap (λ u. scrolled_off_by h (own u)) (rested-left w h (anew t) again)
      ∙ screen-saved w h (anew t) wide high most again refl found.1;
}

-- a higher terminal, of which the first rows were saved
higher-saved : (w h : ℕ) (t : Emulator) → 0 < w → h < t.height → t.height ≤ 65535
    → SavesFirstRows h t (scrolled_off_by h (own (anew t)))
higher-saved w h t wide more most =
    let high = t.height in
    let v : Emulator = returned (cursor_moved 0 65534 (own (anew t))) in
    let n = min (h + 1) 65535 in
    let feeds : Feeds high (h + 1) v (fed (h + 1) v) = fed-feeds (h + 1) v refl (λ some. omega arith) in
    let c : Columns = (fed (h + 1) v).columns in
    let z : Emulator = lines_inserted n (cursor_moved 0 0 (record v {
      columns = c;
      history = (fed (h + 1) v).history;
      sure = (fed (h + 1) v).sure;
    })) in
    let is : scrolled_off_by h (own (anew t)) ≡ z = ap (λ (x : Emulator). lines_inserted n (cursor_moved 0 0 x)) feeds.rest in
    let top : min 0 (high - 1) ≡ 0 = omega arith in
    subst (λ u. SavesFirstRows h t u) (sym is) (record {
      history = feeds.history ∙ ap (λ xs. t.history ++ xs) (region-rows high v 0 (h + 1) (omega arith));
      blank = λ a b within.
          let low : nat_le 0 b ≡ true = grind (arith, nat_tests) in
          let inside : nat_lt b high ≡ true = grind (arith, nat_tests) in
          let none : nat_le (0 + n) b ≡ false = grind (arith, nat_tests) in
          ap (λ k. columns_moved (scrolling_down k high n) c a b) top ∙ rw (low, inside, none) refl;
      below = λ a b from end.
          let low : nat_le 0 b ≡ true = grind (arith, nat_tests) in
          let inside : nat_lt b high ≡ true = grind (arith, nat_tests) in
          let some : nat_le (0 + n) b ≡ true = grind (arith, nat_tests) in
          let k = b - (h + 1) in
          let source : b - n ≡ k = omega arith in
          let low_there : nat_le 0 k ≡ true = grind (arith, nat_tests) in
          let inside_there : nat_lt k high ≡ true = grind (arith, nat_tests) in
          let some_there : nat_lt (k + (h + 1)) high ≡ true = grind (arith, nat_tests) in
          let back : k + (h + 1) ≡ b = omega arith in
          let there : c a k ≡ t.columns a b = feeds.columns a k
          ∙ rw (low_there, inside_there, some_there, back) refl in
          ap (λ j. columns_moved (scrolling_down j high n) c a b) top ∙ rw (low, inside, some, source) there;
    })

pub saves-higher : (w h : ℕ) (old new : List ℕ) → 0 < w → Performs old new (λ t. scrolled_off_by h (own t))
    → SavesHigher w h old new
saves-higher w h old new wide does = record {
  bytes = does.bytes;
  appended = does.appended;
  read = λ t found.
      let again : IsAsFound w t.height (anew t) = left-anew w t.height t found.0 in
      subst (λ u. SavesFirstRows h t u) (sym (does.read (anew t) again.phase
      ∙ ap (λ u. scrolled_off_by h (own u)) (rested-left w t.height (anew t) again)))
      (higher-saved w h t wide found.2 found.3);
}

-- a new terminal is one that was left so
pub fresh-left : (w h : ℕ) → IsAsFound w h (blank_terminal w h)
fresh-left w h = record { phase = refl; text = refl; width = refl; height = refl; off = λ a b out. refl }
