-- From what bytes do to a ready terminal to what a backend keeps of it.
use Rattle.std.proofs.Common.{◌≡◌, ℕ, ◌+◌, ◌-◌, ◌*◌, ◌<◌, ◌≤◌, ◌&&◌, ◌||◌, min, nat_lt, nat_le, nat_eq, if◌then◌else◌, Bool}
use Rattle.std.proofs.Common.{List, length, true, false, string_bytes, refl, sym, ap, ap₂, ◌∙◌, arith}
use Rattle.std.proofs.Common.{subst}
use Rattle.std.proofs.lemmas.Bool.{false≢true}
use Rattle.std.proofs.lemmas.Bool.Decides.{nat_tests}
use mathlib.Core.Bool.{beq}
use Rattle.ratatui_core.specs.{Layout.Position, Layout.Size, Buffer.Look, Buffer.empty_look, Buffer.Update}
use Rattle.ratatui_core.specs.Backend.{Screen, Motion, scrolling_up, Draws, ScrollsRegion, Appends, Erases, Clears, with_cursor}
use Rattle.ratatui_core.specs.Backend.{with_visible, cursor_of, ClearType, All, AfterCursor, BeforeCursor, is_cleared}
use Rattle.ansi_model.specs.Columns.{Columns, look_in, blank_column, overwritten}
use Rattle.ansi_model.specs.Emulator.{Emulator, rested, columns_moved, cursor_moved, erased, keeps_history}
use Rattle.ansi_model.specs.{Sends.Leads, Flags.flag, Flags.AreContinuations, Flags.is_cut, Sends.Performs}
use Rattle.ansi_model.specs.Screens.{screen_shown, IsIdle, Turns, Becomes}
use Rattle.ratatui_ansi.specs.{declared.tracker.Tracker.Tracker}
use Rattle.ratatui_ansi.specs.Inner.Draw.{SendsDraw}
use Rattle.ratatui_ansi.specs.Tracker.{IsAwaiting}
use Rattle.ratatui_ansi.specs.Inner.Tracker.{IsTracked, IsTracker, Collects}
use Rattle.ansi_model.proofs.ReadLemmas.{Leads-then, Leads-so, Leads-none}
use Rattle.ansi_model.proofs.{FlagLemmas.AreContinuations-along, EraseLemmas.erasing}
use Rattle.ansi_model.proofs.{EraseLemmas.part-erased, EraseLemmas.part-tidy}
use Rattle.ratatui_ansi.proofs.TailLemmas.{continuation-empty}
use Rattle.ratatui_core.proofs.BackendLemmas.{moved-through}
use Rattle.ansi_model.proofs.ScrollLemmas.{rested-ready, stays-idle, moved-placed}

-- bytes were appended, after which a terminal that awaited a call awaits the next one, with the cursor and the flags after it,
-- and its screen related so to the former
pub record SendsCall (w h : ℕ) (old new : List ℕ) (cursor : Position) (flags : List Bool) (cursor_after : Position)
    (flags_after : List Bool)
    (related : Screen → Screen → Type 0) : Type 0 where
  pub leads : Leads old new (IsAwaiting w h cursor flags) (λ t u. IsAwaiting w h cursor_after flags_after u
      × ((written : ℕ) → related (screen_shown written (rested t)) (screen_shown written (rested u))))

-- one after the other
pub Turns-then : (w h : ℕ) (a b c : List ℕ) (first second : Emulator → Emulator → Type 0) → Turns w h a b first
    → Turns w h b c second → Turns w h a c (λ s u. (t : Emulator) × first s t × second t u)
Turns-then w h a b c first second one two = record {
  leads = Leads-then one.leads two.leads (λ t u is did. did.0) (λ t u v is did more. (more.0, (rested u, did.1, more.1)));
}

-- what is known of a ready terminal after a call
pub record IsKept (w h : ℕ) (place : Position) (flags : List Bool) (related : Screen → Screen → Type 0)
    (s t : Emulator) : Type 0 where
  pub cursor : cursor_of (screen_shown 0 t) ≡ place
  pub continuations : AreContinuations w h flags t.columns
  pub screens : (written : ℕ) → related (screen_shown written s) (screen_shown written t)

pub call-from : (w h : ℕ) (a b : List ℕ) (place place_after : Position) (flags flags_after : List Bool)
    (turned : Emulator → Emulator → Type 0) (related : Screen → Screen → Type 0)
    → Turns w h a b turned
    → ((s t : Emulator) → IsIdle w h s → cursor_of (screen_shown 0 s) ≡ place → AreContinuations w h flags s.columns → turned s t
    → IsKept w h place_after flags_after related s t)
    → SendsCall w h a b place flags place_after flags_after related
call-from w h a b place place_after flags flags_after turned related turns kept =
    record {
      leads = Leads-so turns.leads (λ t is. record { phase = is.phase; idle = is.ready }) (λ t u is did.
          let all = kept (rested t) (rested u) is.ready is.placed is.continuations did.1 in (
            record { phase = did.0.phase; ready = did.0.idle; placed = all.cursor; continuations = all.continuations },
            all.screens,
          ));
    }

-- ---- the cursor

pub visible-kept : (w h : ℕ) (visible : Bool) (place : Position) (flags : List Bool) (s t : Emulator) → IsIdle w h s
    → cursor_of (screen_shown 0 s) ≡ place → AreContinuations w h flags s.columns
    → Becomes (λ p q. q ≡ with_visible visible p) s.columns s t → IsKept w h place flags (λ p q. q ≡ with_visible visible p) s t
visible-kept w h visible place flags s t ready at continuations became = record {
  cursor = ap cursor_of (became.screens 0) ∙ at;
  continuations = AreContinuations-along w h flags s.columns t.columns became.columns continuations;
  screens = became.screens;
}

pub still-kept : (w h : ℕ) (place : Position) (flags : List Bool) (s t : Emulator) → IsIdle w h s
    → cursor_of (screen_shown 0 s) ≡ place → AreContinuations w h flags s.columns
    → Becomes (λ p q. q ≡ p) s.columns s t → IsKept w h place flags (λ p q. q ≡ p) s t
still-kept w h place flags s t ready at continuations became = record {
  cursor = ap cursor_of (became.screens 0) ∙ at;
  continuations = AreContinuations-along w h flags s.columns t.columns became.columns continuations;
  screens = became.screens;
}

pub cursor-kept : (w h x y : ℕ) (flags : List Bool) (s t : Emulator) → IsIdle w h s → AreContinuations w h flags s.columns
    → Becomes (λ p q. q ≡ with_cursor x y p) s.columns s t
    → IsKept w h (record { x = min x (w - 1); y = min y (h - 1) }) flags (λ p q. q ≡ with_cursor x y p) s t
cursor-kept w h x y flags s t ready continuations became =
    let at : cursor_of (screen_shown 0 t) ≡ record { x = min x (s.width - 1); y = min y (s.height - 1) } =
    ap cursor_of (became.screens 0) in
    record {
      cursor = at ∙ ap₂ (λ i j. record { x = min x (i - 1); y = min y (j - 1) }) ready.rest.width ready.rest.height;
      continuations = AreContinuations-along w h flags s.columns t.columns became.columns continuations;
      screens = became.screens;
    }

-- ---- rows that move

pub append-kept : (w h n : ℕ) (place : Position) (flags flags_after : List Bool) (s t : Emulator) → IsIdle w h s
    → cursor_of (screen_shown 0 s) ≡ place → place.y < h
    → ((c : Columns) → AreContinuations w h flags c → AreContinuations w h flags_after
    (columns_moved (scrolling_up 0 (min h h) (n - (h - 1 - place.y))) c)) → AreContinuations w h flags s.columns
    → Becomes (λ p q. Appends p n q × (q.cursor_x ≡ 0)) (columns_moved (scrolling_up 0 h (s.y + n - (h - 1))) s.columns) s t
    → IsKept w h (record { x = 0; y = min (place.y + n) (h - 1) }) flags_after (λ p q. Appends p n q) s t
append-kept w h n place flags flags_after s t ready at row cursor_moved continuations became =
    let high : s.height ≡ h = ready.rest.height in
    let y : s.y ≡ place.y = ap (λ (p : Position). p.y) at in
    let both = became.screens 0 in
    let rows : t.y ≡ min (place.y + n) (h - 1) = both.0.row ∙ (let e : min (s.y + n) (s.height - 1) ≡ min (place.y + n)
    (h - 1) = omega arith in e) in
    let end : min h h ≡ h = omega arith in
    let past : n - (h - 1 - place.y) ≡ s.y + n - (h - 1) = omega arith in
    record {
      cursor = ap₂ (λ i j. record { x = i; y = j }) both.1 rows;
      continuations = AreContinuations-along w h flags_after (columns_moved (scrolling_up 0 h (s.y + n - (h - 1))) s.columns)
          t.columns became.columns (rw (end, past) at (cursor_moved s.columns continuations));
      screens = λ written. (became.screens written).0;
    }

-- the cursor put back where it was
module _ (x y : ℕ) (p q : Screen) (width : q.width ≡ p.width) (height : q.height ≡ p.height) (at_x : p.cursor_x ≡ x)
    (at_y : p.cursor_y ≡ y) (x_in : x < p.width) (y_in : y < p.height) where
  back : q ≡ p → with_cursor x y q ≡ p
  back e =
      let ex : min x (p.width - 1) ≡ p.cursor_x = omega arith in
      let ey : min y (p.height - 1) ≡ p.cursor_y = omega arith in
      ap (with_cursor x y) e ∙ ap₂ (λ i j. record p { cursor_x = i; cursor_y = j }) ex ey

  scroll-back : (motion : ℕ → ℕ → ℕ → Motion) (a b n : ℕ) (above : List (List Look)) → ScrollsRegion motion a b n above p q
      → ScrollsRegion motion a b n above p (with_cursor x y q)
  scroll-back motion a b n above scrolled = record {
    history = scrolled.history;
    width = scrolled.width;
    height = scrolled.height;
    grid = scrolled.grid;
    visible = scrolled.visible;
    written = scrolled.written;
    no_rows = λ none. back (scrolled.no_rows none);
  }

module _ (w h : ℕ) (place : Position) (flags flags_after : List Bool) (x_in : place.x < w) (y_in : place.y < h) (s u : Emulator)
    (ready : IsIdle w h s) (at : cursor_of (screen_shown 0 s) ≡ place) where
  -- a region scrolled, and then the cursor back
  pub scroll-kept : (motion : ℕ → ℕ → ℕ → Motion) (above : Screen → List (List Look)) (a b n : ℕ)
      → ((c : Columns) → AreContinuations w h flags c → AreContinuations w h flags_after (columns_moved (motion a (min b h) n) c))
      → AreContinuations w h flags s.columns
      → (t : Emulator) × Becomes (λ p q. ScrollsRegion motion a b n (above p) p q)
      (columns_moved (motion a (min b h) n) s.columns) s t × Becomes (λ p q. q ≡ with_cursor place.x place.y p) t.columns t u
      → IsKept w h place flags_after (λ p q. ScrollsRegion motion a b n (above p) p q) s u
  scroll-kept motion above a b n moved continuations both =
      let t = both.0 in
      let became = both.2 in
      let wide : t.width ≡ s.width = (both.1.screens 0).width in
      let high : t.height ≡ s.height = (both.1.screens 0).height in
      let s_wide : s.width ≡ w = ready.rest.width in
      let s_high : s.height ≡ h = ready.rest.height in
      let ex : min place.x (t.width - 1) ≡ place.x = omega arith in
      let ey : min place.y (t.height - 1) ≡ place.y = omega arith in
      record {
        cursor = ap cursor_of (became.screens 0) ∙ ap₂ (λ i j. record { x = i; y = j }) ex ey;
        continuations = AreContinuations-along w h flags_after (columns_moved (motion a (min b h) n) s.columns) u.columns
            (λ i j. became.columns i j ∙ both.1.columns i j) (moved s.columns continuations);
        screens = λ written. subst (λ q. ScrollsRegion motion a b n (above (screen_shown written s)) (screen_shown written s) q)
            (sym (became.screens written))
            (scroll-back place.x place.y (screen_shown written s) (screen_shown written t) wide high
            (ap (λ (p : Position). p.x) at) (ap (λ (p : Position). p.y) at) (omega arith) (omega arith)
            motion a b n (above (screen_shown written s)) (both.1.screens written));
      }

-- ---- the screen emptied, and parts of it

pub emptied-kept : (w h : ℕ) (place : Position) (flags flags_after : List Bool) (s t : Emulator) (columns : Columns)
    → cursor_of (screen_shown 0 s) ≡ place
    → AreContinuations w h flags_after columns
    → Becomes (λ p q. p.cursor_x ≡ place.x → p.cursor_y ≡ place.y → Clears p All q) columns s t
    → IsKept w h place flags_after (λ p q. Clears p All q) s t
emptied-kept w h place flags flags_after s t columns at continuations became =
    let x : min s.x (s.width - 1) ≡ place.x = ap (λ (p : Position). p.x) at in
    let y : s.y ≡ place.y = ap (λ (p : Position). p.y) at in
    record {
      cursor = ap cursor_of (became.screens 0 x y).rest ∙ at;
      continuations = AreContinuations-along w h flags_after columns t.columns became.columns continuations;
      screens = λ written. became.screens written x y;
    }

-- a cursor that went away and came back
pub back-kept : (w h : ℕ) (place : Position) (flags : List Bool) (s t : Emulator) → IsIdle w h s
    → cursor_of (screen_shown 0 s) ≡ place → AreContinuations w h flags s.columns
    → Becomes (λ p q. p.cursor_x ≡ place.x → p.cursor_y ≡ place.y → q ≡ p) s.columns s t
    → IsKept w h place flags (λ p q. q ≡ p) s t
back-kept w h place flags s t ready at continuations became =
    let x : min s.x (s.width - 1) ≡ place.x = ap (λ (p : Position). p.x) at in
    let y : s.y ≡ place.y = ap (λ (p : Position). p.y) at in
    still-kept w h place flags s t ready at continuations (record {
      screens = λ written. became.screens written x y;
      columns = became.columns;
    })

-- bytes whose action keeps a terminal awaiting
pub call-does : (w h : ℕ) (a b : List ℕ) (place place_after : Position) (flags flags_after : List Bool) (f : Emulator → Emulator)
    (related : Screen → Screen → Type 0) → Performs a b f
    → ((s : Emulator) → IsIdle w h s → cursor_of (screen_shown 0 s) ≡ place → AreContinuations w h flags s.columns
    → IsIdle w h (f s) × IsKept w h place_after flags_after related s (f s))
    → SendsCall w h a b place flags place_after flags_after related
call-does w h a b place place_after flags flags_after f related does kept = record {
  leads = Leads-so does (λ t is. is.phase) (λ t u is e.
      let both = kept (rested t) is.ready is.placed is.continuations in
      let rests : rested u ≡ f (rested t) = ap rested e ∙ rested-ready w h (f (rested t)) both.0 in (
        record {
          phase = ap (λ (v : Emulator). v.phase) e ∙ both.0.rest.phase;
          ready = subst (IsIdle w h) (sym rests) both.0;
          placed = ap (λ v. cursor_of (screen_shown 0 v)) rests ∙ both.1.cursor;
          continuations = subst (λ (v : Emulator). AreContinuations w h flags_after v.columns) (sym rests) both.1.continuations;
        },
        λ written. subst (λ v. related (screen_shown written (rested t)) (screen_shown written v)) (sym rests)
            (both.1.screens written),
      ));
}

pub part-kept : (w h x y : ℕ) (part : ClearType) (place : Position) (flags flags_after : List Bool) → x < w → y < h → place.x < w
    → place.y < h → is_cut part w x y flags ≡ false → keeps_history part x y ≡ true
    → ((c : Columns) → AreContinuations w h flags c → AreContinuations w h flags_after (columns_moved (erasing part x y) c))
    → (s : Emulator) → IsIdle w h s → cursor_of (screen_shown 0 s) ≡ place → AreContinuations w h flags s.columns
    → IsIdle w h (cursor_moved place.x place.y (erased part (cursor_moved x y s)))
    × IsKept w h place flags_after (Erases part x y) s (cursor_moved place.x place.y (erased part (cursor_moved x y s)))
part-kept w h x y part place flags flags_after x_in y_in at_x at_y uncut history cleared s ready at continuations =
    let width : s.width ≡ w = ready.rest.width in
    let height : s.height ≡ h = ready.rest.height in
    let d = overwritten (is_cleared part x y) (λ a b. blank_column) s.columns in
    let c = columns_moved (erasing part x y) s.columns in
    let same : (a b : ℕ) → d a b ≡ c a b =
    part-erased part w h x y flags s.columns x_in y_in ready.tidy.beyond continuations uncut ready.tidy.whole in
    let x_test : nat_lt x s.width ≡ true = grind (arith, nat_tests) in
    let sure : (erased part (record s { x = x; y = y })).sure ≡ true = rw (
      ready.rest.sure,
      ready.rest.sgr,
      x_test,
      history,
    ) refl in
    let x_at : min s.x (s.width - 1) ≡ place.x = ap (λ (p : Position). p.x) at in
    let y_at : s.y ≡ place.y = ap (λ (p : Position). p.y) at in
    let cursor_x : min (min place.x (s.width - 1)) (s.width - 1) ≡ min s.x (s.width - 1) = omega arith in
    let cursor_y : min place.y (s.height - 1) ≡ s.y = omega arith in
    let z : Emulator = record s { x = min place.x (s.width - 1); y = min place.y (s.height - 1); columns = d; sure = true } in
    let there : z ≡ cursor_moved place.x place.y (erased part (cursor_moved x y s))
    = ap (λ k. record z { sure = k }) (sym sure) ∙ ap (λ t. cursor_moved place.x place.y (erased part t))
    (moved-placed x y s (omega arith) (omega arith)) in
    subst (λ v. IsIdle w h v × IsKept w h place flags_after (Erases part x y) s v) there (
      stays-idle w h _ _ s c d s.history ready (omega arith) same
          (part-tidy part w h x y flags s.columns x_in y_in ready.tidy.beyond continuations uncut ready.tidy),
      record {
        cursor = ap₂ (λ i j. record { x = i; y = j }) cursor_x cursor_y ∙ at;
        continuations = AreContinuations-along w h flags_after c d same (cleared s.columns continuations);
        screens = λ written. record {
          rest = ap₂ (λ i j. record (screen_shown written s) {
            grid = λ a b. look_in (d a b);
            cursor_x = i;
            cursor_y = j;
          }) cursor_x cursor_y;
          grid = λ a b a_in b_in. ap look_in (same a b) ∙ moved-through (erasing part x y) blank_column s.columns a b look_in;
        };
      },
    )

-- ---- what a tracker keeps

module _ (old new : Tracker) (place : Position) (visible : Bool) (written : ℕ) (flags : List Bool) {related : Screen → Screen
    → Type 0} (is : IsTracker old)
    (rest : new ≡ record old {
      out = new.out;
      cursor = place;
      is_visible = visible;
      written = written;
      continuations = new.continuations;
      draft = new.draft;
    })
    (draft : length new.draft.items ≡ old.size.width * old.size.height) (same : new.continuations.items ≡ flags)
    (count : length flags ≡ length old.continuations.items) where
  -- bytes that keep a tracked terminal so were collected
  gathers : Leads (string_bytes old.out) (string_bytes new.out) (IsTracked old) (λ t u.
      IsAwaiting old.size.width old.size.height place flags u × ((rested u).visible ≡ visible)
      × related (screen_shown old.written (rested t)) (screen_shown written (rested u))) → Collects old related new
  gathers does =
      let size : new.size ≡ old.size = ap (λ (k : Tracker). k.size) rest in
      record {
        fits = record {
          columns = subst (λ (s : Size). 0 < s.width) (sym size) is.fits.columns;
          rows = subst (λ (s : Size). 0 < s.height) (sym size) is.fits.rows;
          most = subst (λ (s : Size). s.height ≤ 65535) (sym size) is.fits.most;
          count = ap length same ∙ count ∙ is.fits.count ∙ ap (λ (s : Size). s.width * s.height) (sym size);
          draft_count = draft ∙ ap (λ (s : Size). s.width * s.height) (sym size);
        };
        size = size;
        colors = ap (λ (k : Tracker). k.has_underline_colors) rest;
        ambiguous = ap (λ (k : Tracker). k.ambiguous_is_wide) rest;
        synchronized = ap (λ (k : Tracker). k.is_synchronized) rest;
        leads = Leads-so does (λ t tracked. tracked) (λ t u tracked did. (
          record {
            awaiting = subst (λ (s : Size). IsAwaiting s.width s.height new.cursor new.continuations.items u) (sym size)
                (subst (λ p. IsAwaiting old.size.width old.size.height p new.continuations.items u)
                (sym (ap (λ (k : Tracker). k.cursor) rest))
                (subst (λ xs. IsAwaiting old.size.width old.size.height place xs u) (sym same) did.0));
            visible = did.1 ∙ sym (ap (λ (k : Tracker). k.is_visible) rest);
          },
          subst (λ n. related (screen_shown old.written (rested t)) (screen_shown n (rested u)))
              (sym (ap (λ (k : Tracker). k.written) rest)) did.2,
        ));
      }

-- a call that draws no cells was collected
called : (old new : Tracker) (place : Position) (visible : Bool) (flags : List Bool) {related : Screen → Screen → Type 0}
    → IsTracker old
    → new ≡ record old { out = new.out; cursor = place; is_visible = visible; continuations = new.continuations }
    → new.continuations.items ≡ flags → length flags ≡ length old.continuations.items
    → SendsCall old.size.width old.size.height (string_bytes old.out)
    (string_bytes new.out) old.cursor old.continuations.items place flags related
    → ((p q : Screen) → p.visible ≡ old.is_visible → related p q → q.visible ≡ visible) → Collects old related new
called old new place visible flags is rest same count sends sees =
    let draft : new.draft ≡ old.draft = ap (λ (k : Tracker). k.draft) rest in
    let whole : new ≡ record old {
      out = new.out;
      cursor = place;
      is_visible = visible;
      written = old.written;
      continuations = new.continuations;
      draft = new.draft;
    }
    = rest ∙ ap (λ d. record old {
      out = new.out;
      cursor = place;
      is_visible = visible;
      continuations = new.continuations;
      draft = d;
    }) (sym draft) in
    gathers old new place visible old.written flags is whole (ap (λ (k : Tracker). length k.draft.items) rest
    ∙ is.fits.draft_count) same count (Leads-so sends.leads (λ t tracked. tracked.awaiting) (λ t u tracked did.
    (did.0, sees _ _ tracked.visible (did.1 old.written), did.1 old.written)))

-- one that shows a hidden cursor no more than before, nor hides it
pub collected : (old new : Tracker) (place : Position) (flags : List Bool) {related : Screen → Screen → Type 0} → IsTracker old
    → new ≡ record old { out = new.out; cursor = place; continuations = new.continuations } → new.continuations.items ≡ flags
    → length flags ≡ length old.continuations.items
    → ((p q : Screen) → related p q → q.visible ≡ p.visible)
    → SendsCall old.size.width old.size.height (string_bytes old.out)
    (string_bytes new.out) old.cursor old.continuations.items place flags related → Collects old related new
collected old new place flags is rest same count keeps sends =
    called old new place old.is_visible flags is rest same count sends (λ p q was shows. keeps p q shows ∙ was)

-- a cursor was hidden or shown
pub shown-collected : (old new : Tracker) (visible : Bool) → IsTracker old
    → new ≡ record old { out = new.out; is_visible = visible }
    → SendsCall old.size.width old.size.height (string_bytes old.out)
    (string_bytes new.out) old.cursor old.continuations.items old.cursor old.continuations.items
    (λ s t. t ≡ with_visible visible s)
    → Collects old (λ s t. t ≡ with_visible visible s) new
shown-collected old new visible is rest sends =
    let same : new.continuations ≡ old.continuations = ap (λ (k : Tracker). k.continuations) rest in
    called old new old.cursor visible old.continuations.items is
    (rest ∙ ap (λ c. record old { out = new.out; is_visible = visible; continuations = c }) (sym same))
    (ap (λ c. c.items) same) refl sends (λ p q was shows. ap (λ (s : Screen). s.visible) shows)

same-flags : (a b : Bool) → beq a b ≡ true → a ≡ b
same-flags true true e = refl
same-flags true false e = absurd (false≢true e)
same-flags false true e = absurd (false≢true e)
same-flags false false e = refl

-- or was so already
pub shown-already : (k : Tracker) (visible : Bool) → IsTracker k → beq visible k.is_visible ≡ true
    → Collects k (λ s t. t ≡ with_visible visible s) k
shown-already k visible is same = record {
  fits = is.fits;
  size = refl;
  colors = refl;
  ambiguous = refl;
  synchronized = refl;
  leads = Leads-none refl (λ t tracked. (
    tracked,
    ap (λ v. with_visible v (screen_shown k.written (rested t)))
        (tracked.visible ∙ sym (same-flags visible k.is_visible same)),
  ));
}

-- a draw was
pub drawn-collected : (old new : Tracker) (place : Position) (written : ℕ) (flags : List Bool) {us : List Update} → IsTracker old
    → new ≡ record old { out = new.out; cursor = place; written = written; continuations = new.continuations; draft = new.draft }
    → new.draft.items ≡ old.continuations.items → new.continuations.items ≡ flags
    → length flags ≡ length old.continuations.items
    → SendsDraw old.size.width old.size.height (string_bytes old.out) old.cursor old.written old.continuations.items us
    (string_bytes new.out) place written flags
    → Collects old (λ s t. Draws s us t) new
drawn-collected old new place written flags is rest draft same count sends =
    gathers old new place old.is_visible written flags is rest (ap length draft ∙ is.fits.count) same count
    (Leads-so sends (λ t tracked. tracked.awaiting) (λ t u tracked did. (did.0, did.1.visible ∙ tracked.visible, did.1)))

-- ---- the clears

weaker : (old new : Tracker) (first second : Screen → Screen → Type 0) → Collects old first new
    → ((t : Emulator) (q : Screen) → IsTracked old t → first (screen_shown old.written (rested t)) q
    → second (screen_shown old.written (rested t)) q) → Collects old second new
weaker old new first second call follows = record {
  fits = call.fits;
  size = call.size;
  colors = call.colors;
  ambiguous = call.ambiguous;
  synchronized = call.synchronized;
  leads = Leads-so call.leads (λ t tracked. tracked) (λ t u tracked did. (did.0, follows t _ tracked did.1));
}

clears-by : (kind done : ClearType) (x y : ℕ) (p q : Screen)
    → ((a b : ℕ) → b < p.height → (if is_cleared done x y a b then empty_look else p.grid a b) ≡
    (if is_cleared kind p.cursor_x p.cursor_y a b then empty_look else p.grid a b))
    → Erases done x y p q → Clears p kind q
clears-by kind done x y p q same erased = record {
  rest = erased.rest;
  grid = λ a b a_in b_in. erased.grid a b a_in b_in
      ∙ same a b b_in;
}

pub clears-at : (old new : Tracker) (kind : ClearType) → Collects old (Erases kind old.cursor.x old.cursor.y) new
    → Collects old (λ p q. Clears p kind q) new
clears-at old new kind call = weaker old new (Erases kind old.cursor.x old.cursor.y) (λ p q. Clears p kind q) call
    (λ t q awaits erased.
    subst (λ (k : Position). Erases kind k.x k.y (screen_shown old.written (rested t)) q) (sym awaits.awaiting.placed) erased)

pub clears-corner : (old new : Tracker) → old.cursor.x ≡ 0 → old.cursor.y ≡ 0 → Collects old (λ p q. Clears p All q) new
    → Collects old (λ p q. Clears p AfterCursor q) new
clears-corner old new at_x at_y call = weaker old new (λ p q. Clears p All q) (λ p q. Clears p AfterCursor q) call
    (λ t q awaits cleared.
    let p : Screen = screen_shown old.written (rested t) in
    let x : p.cursor_x ≡ 0 = ap (λ (k : Position). k.x) awaits.awaiting.placed ∙ at_x in
    let y : p.cursor_y ≡ 0 = ap (λ (k : Position). k.y) awaits.awaiting.placed ∙ at_y in
    clears-by AfterCursor All p.cursor_x p.cursor_y p q (λ i j j_in. rw (x, y)
    (let e : (nat_lt 0 j || (nat_eq j 0 && nat_le 0 i)) ≡ true = grind (arith, nat_tests) in rw e refl)) cleared)

-- up to the end of the symbol at the cursor, whose other columns show nothing of their own
module _ (w h end : ℕ) (place : Position) (flags : List Bool) (from : place.x ≤ end) (inside : end < w)
    (rest : (k : ℕ) → place.x < k → k ≤ end → flag flags (place.y * w + k) ≡ true) where
  before : (s : Emulator) → AreContinuations w h flags s.columns → (i j : ℕ) → j < h
      → (if is_cleared BeforeCursor end place.y i j then empty_look else look_in (s.columns i j)) ≡
      (if is_cleared BeforeCursor place.x place.y i j then empty_look else look_in (s.columns i j))
  before s continuations i j j_in = elim (is_cleared BeforeCursor place.x place.y i j) as
      (λ p. is_cleared BeforeCursor place.x place.y i j ≡ p
      → (if is_cleared BeforeCursor end place.y i j then empty_look else look_in (s.columns i j)) ≡
      (if p then empty_look else look_in (s.columns i j))) [
        | true ↦ λ e. let f : is_cleared BeforeCursor end place.y i j ≡ true = grind (arith, nat_tests) in rw f refl
        | false ↦ λ e. elim (is_cleared BeforeCursor end place.y i j) as (λ r. is_cleared BeforeCursor end place.y i j ≡ r
            → (if r then empty_look else look_in (s.columns i j)) ≡ look_in (s.columns i j)) [
              | true ↦ λ f.
                  let row : j ≡ place.y = grind (arith, nat_tests) in
                  let low : place.x < i = grind (arith, nat_tests) in
                  let high : i ≤ end = grind (arith, nat_tests) in
                  let flagged : flag flags (j * w + i) ≡ true = ap (λ r. flag flags (r * w + i)) row ∙ rest i low high in
                  sym (continuation-empty (s.columns i j) (sym (continuations.each i j (omega arith) j_in) ∙ flagged))
              | false ↦ λ f. refl
            ] refl
      ] refl

pub clears-before : (old new : Tracker) (end : ℕ) → old.cursor.x ≤ end → end < old.size.width
    → ((k : ℕ) → old.cursor.x < k → k ≤ end → flag old.continuations.items (old.cursor.y * old.size.width + k) ≡ true)
    → Collects old (Erases BeforeCursor end old.cursor.y) new → Collects old (λ p q. Clears p BeforeCursor q) new
clears-before old new end from inside rest call = weaker old new (Erases BeforeCursor end old.cursor.y)
    (λ p q. Clears p BeforeCursor q) call (λ t q awaits erased.
    let s : Emulator = rested t in
    let x_at : min s.x (s.width - 1) ≡ old.cursor.x = ap (λ (k : Position). k.x) awaits.awaiting.placed in
    let y_at : s.y ≡ old.cursor.y = ap (λ (k : Position). k.y) awaits.awaiting.placed in
    let height : s.height ≡ old.size.height = awaits.awaiting.ready.rest.height in
    clears-by BeforeCursor BeforeCursor end old.cursor.y (screen_shown old.written s) q
    (λ i j j_in. rw (x_at, y_at) (before old.size.width old.size.height end old.cursor old.continuations.items from inside rest s
    awaits.awaiting.continuations i j (omega arith))) erased)
