-- A terminal in the middle of a play: its start, its sizes, its frames and its clears.
use Rattle.std.proofs.Common.{◌≡◌, ℕ, ◌+◌, ◌-◌, ◌<◌, min, nat_lt, List, [], ◌++◌, map, Option, Some, None, refl, sym, ap, ap₂}
use Rattle.std.proofs.Common.{subst, ◌∙◌, inl, inr, arith, ◌||◌, ◌∷◌, zero, suc, replicate, true, false, if◌then◌else◌}
use Rattle.std.specs.List.{range_with_len}
use Rattle.std.proofs.lemmas.{Bool.cases_lt, Bool.Decides.nat_tests}
use Rattle.rtui_geometry.specs.{declared.rect.Rect.Rect, declared.size.Size.Size, Rect.HasPosition}
use Rattle.rtui_text.specs.Text.{TextData}
use Rattle.rtui_buffer.specs.{BufferData.BufferData, Shown.IsSettledBuffer, Shown.ShowsBuffer}
use Rattle.rtui_backend.proofs.ScrollLemmas.{above_kept, above_same}
use Rattle.rtui_backend.specs.Screen.{Screen, IsBlankScreen, TakesSize, IsOnScreen, row_of, rows_above, screen_area}
use Rattle.rtui_backend.specs.Screen.{size_of, seen}
use Rattle.rtui_backend.specs.{CellGrid.AreUnmarked, TestBackend.screen_of, declared.test.TestBackend.TestBackend}
use Rattle.rtui_viewport.specs.declared.viewport.Viewport.{Viewport}
use Rattle.rtui_viewport.specs.declared.viewport.Viewport.TheVariants.{Fullscreen, Inline, Fixed}
use Rattle.rtui_viewport.specs.{Viewports.IsFixed, Viewports.IsInline, Areas.KeepsOutside, Areas.IsBlankOver, Areas.Empties}
use Rattle.rtui_viewport.specs.Placing.{area_in, raised, inline_area, inline_top, rows_scrolled}
use Rattle.rtui_viewport.specs.Sizing.{first_area}
use Rattle.rtui_viewport.specs.{Clearing.HasPlace, Clearing.ClearsArea, Clearing.is_emptied, Lying.FitsSize, Lying.MayLie}
use Rattle.rtui_viewport.specs.{Lying.at_corner}
use Rattle.rtui_viewport.proofs.ClearLemmas.{blank_over}
use Rattle.rtui_terminal.specs.{TerminalData.TerminalData, TerminalData.cursor_offset, InStep.IsInStep, Starting.Starts}
use Rattle.rtui_terminal.proofs.RestLemmas.{same_size, inline_left, inline_width, raised_by, raised_same, has_place}
use Rattle.rtui_terminal.proofs.RestLemmas.{rests-started, rests-applied, rests-resized, rests-cleared, keeps-cleared}
use Rattle.rtui_terminal.proofs.RestLemmas.{rests-known, rests-takes, rests-inserted}
use Rattle.rtui_terminal.specs.{Insertion.inserted_area, Writing.Applies, Clearing.ClearsViewport, Resizing.Resizes}
use Rattle.screenplay.specs.Run.{stage_size, GoesOn, without_cursor, rows_above_view, IsGoodStage, IsFrame, IsStart}
use Rattle.screenplay.specs.Run.{first_viewport, rows_at_start}
use Rattle.rtui_cell.specs.Look.{empty_look}
use Rattle.rtui_geometry.specs.declared.position.Position.{Position}
use Rattle.screenplay.specs.Run.{KeepsSurroundings, size_after, IsCauseOfStep, View, row_count, text_area}
use Rattle.screenplay.proofs.FrameLemmas.{AreUnmarked-emptied, AreUnmarked-frame, shown_again}
use Rattle.screenplay.specs.Playing.{IsPlaying, view_in, Plays}
use Rattle.screenplay.specs.Inner.{TakesNewSize, IsSizedFor, InsertsBuffer}
use Rattle.screenplay.specs.{declared.scene.PlayCause.PlayCause, declared.scene.PlayCause.TheVariants.Memory}
use Rattle.screenplay.specs.{declared.scene.PlayCause.TheVariants.Unsettled}
use Rattle.screenplay.specs.declared.scene.Stage.{Stage}
use Rattle.screenplay.specs.declared.scene.Step.TheVariants as steps

-- ---- the start

-- a list of one value
all_same : {X : Type 0} (f : ℕ → X) (x : X) (a n : ℕ) → ((i : ℕ) → f i ≡ x) → map f (range_with_len a n) ≡ replicate n x
all_same f x a zero same = refl
all_same f x a (suc n) same = ap₂ (λ y ys. y ∷ ys) (same a) (all_same f x (a + 1) n same)

module _ (w h : ℕ) (s : Screen) (blank : IsBlankScreen w h s) where
  corner_y : s.cursor_y ≡ 0
  corner_y = ap (λ (p : Position). p.y) blank.cursor

  started_area : (kind : Viewport) → area_in kind (first_area kind s) 0 s.cursor_y ≡ first_viewport kind (size_of s)
  started_area Fullscreen = refl
  started_area (Inline n) = ap (λ y. record { x = 0; y = y; width = s.width; height = min n s.height }) (top s.cursor_y corner_y)
    where
      top : (r : ℕ) → r ≡ 0 → inline_top n s.height 0 r ≡ 0
      top r e = omega arith
  started_area (Fixed r) = refl

  started_rows : (kind : Viewport) → 0 < h → FitsSize kind (record { width = w; height = h })
      → rows_scrolled kind 0 s ≡ rows_at_start kind (record { width = w; height = h })
  started_rows Fullscreen some good = refl
  started_rows (Inline n) some good = let e = corner_y in let f = blank.height in grind (arith, nat_tests)
  started_rows (Fixed r) some good = refl

  seen_blank : (a b : ℕ) → seen s a b ≡ empty_look
  seen_blank a b = elim (nat_lt b s.height) as (λ t. (if t then s.grid a b else empty_look) ≡ empty_look) [
    | true ↦ blank.grid a b
    | false ↦ refl
  ]

  blank_rows : (k : ℕ) → rows_above s k ≡ replicate k (replicate w empty_look)
  blank_rows k =
      ap (λ xs. xs ++ map (row_of s) (range_with_len 0 k)) blank.history
      ∙ all_same (row_of s) (replicate w empty_look) 0 k
      (λ b. all_same (λ a. seen s a b) empty_look 0 s.width (λ a. seen_blank a b)
      ∙ ap (λ n. replicate n empty_look) blank.width)

pub IsPlaying-started : (stage : Stage) (b : TestBackend) (t : TerminalData TestBackend) → IsGoodStage stage
    → IsBlankScreen stage.width stage.height (screen_of b) → Starts screen_of stage.viewport b t
    → IsPlaying stage t × IsStart stage (view_in t)
IsPlaying-started stage b t good blank starts =
    let s : Screen = screen_of b in
    let u : Screen = screen_of t.backend in
    let kind = stage.viewport in
    let moved = starts.scrolls in
    let own : size_of s ≡ stage_size stage = rw (blank.width, blank.height) refl in (
      record {
        rest = rests-started screen_of kind b t (subst (FitsSize kind) (sym own) good.viewport)
            (record { at = λ a c a_in c_in. blank.grid a c }) starts;
        unmarked = AreUnmarked-emptied t.viewport_area t.previous starts.previous;
      },
      record {
        size = ap₂ (λ m n. record { width = m; height = n }) (moved.width ∙ blank.width) (moved.height ∙ blank.height);
        viewport = starts.viewport_area ∙ ap (λ r. area_in kind r 0 s.cursor_y) starts.last_known_area
            ∙ started_area stage.width stage.height s blank kind ∙ ap (first_viewport kind) own;
        history = moved.history ∙ blank_rows stage.width stage.height s blank _
            ∙ ap (λ k. replicate k (replicate stage.width empty_look))
            (started_rows stage.width stage.height s blank kind good.height good.viewport);
        blank = λ a c a_in c_in. moved.grid a c (omega (arith, a_in, blank.width)) (omega (arith, c_in, blank.height))
            ∙ seen_blank stage.width stage.height s blank a _;
      },
    )

-- a settled frame painted on the empty buffer and drawn
pub Plays-frame : (stage : Stage) (text : TextData) (puts : List (ℕ × ℕ × ℕ)) (frame : BufferData)
    (s t : TerminalData TestBackend) → IsPlaying stage s → IsFrame s.viewport_area text puts frame → IsSettledBuffer frame
    → Applies screen_of None (record s { current = frame }) t → Plays stage (steps.Draw None text puts) s t
Plays-frame stage text puts frame s t playing made settled applied =
    let at = playing.rest.in_step in
    let here : IsInStep screen_of (record s { current = frame }) = record {
      on_screen = at.on_screen;
      area = at.area;
      settled = at.settled;
      shown = at.shown;
    } in
    let keeps = applied.keeps here settled in
    let size : size_of (screen_of t.backend) ≡ size_of (screen_of s.backend) = same_size (screen_of t.backend)
    (screen_of s.backend) keeps.size.width keeps.size.height in
    record {
      playing = record {
        rest = rests-applied screen_of stage.viewport None frame s t playing.rest settled applied;
        unmarked = subst (λ (f : BufferData). AreUnmarked f.cells) (sym applied.painted)
            (AreUnmarked-frame s.viewport_area text puts frame made);
      };
      after = record {
        size = size;
        shows = record {
          frame = frame;
          made = subst (λ r. IsFrame r text puts frame) (sym keeps.viewport_area) made;
          settled = settled;
          shown = subst (λ f. ShowsBuffer f (screen_of t.backend).grid) applied.painted (applied.in_step here settled).shown;
        };
        same = λ _. record {
          viewport = keeps.viewport_area;
          size = record {
            width = keeps.size.width;
            height = keeps.size.height;
            history = keeps.size.history;
          };
          outside = record { at = keeps.outside.at };
        };
        other = λ out. absurd (out size);
      };
    }

-- the size that a draw gives is taken unless the viewport is fixed
size_after_free : (kind : Viewport) (given own : Size) → (IsFixed kind → ⊥) → size_after kind (Some given) own ≡ given
size_after_free Fullscreen given own free = refl
size_after_free (Inline n) given own free = refl
size_after_free (Fixed f) given own free = absurd (free tt)

-- above a viewport that was placed on a screen and cleared all stays; one that became narrower has no rows above
above_emptied : (kind : Viewport) (size : Size) (former o : ℕ) (b scrolled u : Screen) (r : Rect) → (IsFixed kind → ⊥)
    → FitsSize kind size → scrolled.width ≡ b.width → scrolled.height ≡ b.height
    → r ≡ raised former (area_in kind (screen_area b) o b.cursor_y) → (IsInline kind → r.x ≡ 0) → IsOnScreen r u
    → u.height ≡ scrolled.height
    → (HasPlace kind r scrolled → Empties (λ p. is_emptied kind r scrolled.height p || nat_lt b.width former) scrolled u)
    → (x y : ℕ) → x < scrolled.width → y < scrolled.height → y < r.y → u.grid x y ≡ scrolled.grid x y
above_emptied Fullscreen size former o b scrolled u r free good width height is left on tall empties x y x_in y_in above =
    let top : r.y ≡ 0 = ap (λ (q : Rect). q.y) (is ∙ raised_same (screen_area b) refl (nat_lt b.width former)) in
    absurd (omega (arith, top, above))
above_emptied (Inline n) size former o b scrolled u r free good width height is left on tall empties x y x_in y_in above =
    let top = ap (λ (q : Rect). q.y) is in
    let rows = ap (λ (q : Rect). q.height) is ∙ (raised_by (inline_area n b.width b.height o b.cursor_y)
    (nat_lt b.width former)).2 in
    let bottom = on.bottom in
    let now = (empties (left tt)).grid x y x_in y_in in
    grind (arith, nat_tests, top, rows, bottom, now)
above_emptied (Fixed f) size former o b scrolled u r free good width height is left on tall empties x y x_in y_in above =
    absurd (free tt)

-- a screen took another size, and the terminal was resized to it
module _ (stage : Stage) (given : Size) (s t : TerminalData TestBackend) (free : IsFixed stage.viewport → ⊥)
    (playing : IsPlaying stage s)
    (other : size_of (screen_of s.backend) ≡ given → ⊥) (taken : TakesNewSize given s t) where
  abbrev between : Screen
  between = screen_of taken.backend

  abbrev new : Screen
  new = screen_of t.backend

  resized : Resizes screen_of (screen_area between) (record s { backend = taken.backend }) t
  resized = subst (λ z. Resizes screen_of (at_corner z) (record s { backend = taken.backend }) t)
      (sym taken.takes.size) taken.resizes

  resized_size : size_of new ≡ given
  resized_size = same_size new between (resized.frame.size.width ∙ resized.scrolls.width) (resized.frame.size.height
      ∙ resized.scrolls.height) ∙ taken.takes.size

  pub IsPlaying-resized : IsPlaying stage t
  IsPlaying-resized = record {
    rest = rests-resized screen_of stage.viewport taken.backend s t free playing.rest resized;
    unmarked = AreUnmarked-emptied t.viewport_area t.previous resized.previous;
  }

  -- the rows above the viewport are the topmost of the screen in between
  goes_on : IsGoodStage stage → GoesOn (view_in s) (view_in t)
  goes_on good =
      let rows = rows_scrolled s.viewport (cursor_offset s) between in
      let corner : (n : ℕ) → 0 ≡ min 0 (n - 1) = λ n. omega arith in
      record {
        between = without_cursor between;
        takes =
            subst (λ z. TakesSize (without_cursor (screen_of s.backend)) z (without_cursor between)) (sym resized_size)
            (record {
              history = taken.takes.history;
              size = taken.takes.size;
              grid = taken.takes.grid;
              cursor = ap₂ (λ x y. record { x = x; y = y }) (corner given.width) (corner given.height);
              visible = refl;
              written = refl;
            });
        count = rows + t.viewport_area.y;
        above =
            above_same resized.scrolled new t.viewport_area.y resized.frame.size.history resized.frame.size.width
            resized.frame.size.height
            (above_emptied stage.viewport (stage_size stage) s.viewport_area.width (cursor_offset s) between resized.scrolled new
            t.viewport_area free good.viewport resized.scrolls.width resized.scrolls.height
            (subst (λ k. t.viewport_area ≡ raised s.viewport_area.width (area_in k (screen_area between)
            (cursor_offset s) between.cursor_y)) playing.rest.kind_is resized.viewport_area)
            (λ inline. inline_left stage.viewport (size_of new) t.viewport_area inline IsPlaying-resized.rest.lies)
            (resized.on_screen refl) resized.frame.size.height
            (subst (λ k. HasPlace k t.viewport_area resized.scrolled
            → Empties (λ p. is_emptied k t.viewport_area resized.scrolled.height p || nat_lt between.width
            s.viewport_area.width) resized.scrolled new) playing.rest.kind_is resized.empties))
            ∙ above_kept resized.scrolls t.viewport_area.y;
        left = map (row_of between) (range_with_len 0 rows);
        history = resized.frame.size.history ∙ resized.scrolls.history
            ∙ ap (λ h. h ++ map (row_of between) (range_with_len 0 rows)) taken.takes.history;
      }

  pub IsSizedFor-resized : IsSizedFor stage (Some given) s t
  IsSizedFor-resized = record {
    size = resized_size ∙ sym (size_after_free stage.viewport given (size_of (screen_of s.backend)) free);
    same = λ e. absurd (other (sym e ∙ resized_size));
    other = λ _. goes_on;
  }

pub is_free : (kind : Viewport) → ((r : Rect) → kind ≡ Fixed r → ⊥) → IsFixed kind → ⊥
is_free Fullscreen not fixed = fixed
is_free (Inline n) not fixed = fixed
is_free (Fixed r) not fixed = not r refl

pub Plays-cleared : (stage : Stage) (s t : TerminalData TestBackend) → IsGoodStage stage → IsPlaying stage s
    → ClearsViewport screen_of s t → Plays stage steps.Clear s t
Plays-cleared stage s t good playing clears =
    let old : Screen = screen_of s.backend in
    let new : Screen = screen_of t.backend in
    let kind = stage.viewport in
    let r = s.viewport_area in
    let on = playing.rest.in_step.on_screen in
    let view : t.viewport_area ≡ r = ap (λ t. t.viewport_area) clears.rest in
    let empties = subst (λ k. ClearsArea k r old new) playing.rest.kind_is clears.clears
    (has_place kind (size_of old) r old playing.rest.lies on) in
    let outside : KeepsOutside r old new =
    keeps-cleared screen_of kind (stage_size stage) s t good.viewport playing.rest clears in
    let blank : IsBlankOver r new = blank_over kind r on empties in
    record {
      playing = record {
        rest = rests-cleared screen_of kind s t playing.rest clears;
        unmarked = AreUnmarked-emptied s.previous.area t.previous clears.previous;
      };
      after = record {
        rest = record {
          viewport = view;
          size = record {
            width = clears.frame.size.width;
            height = clears.frame.size.height;
            history = clears.frame.size.history;
          };
          outside = record { at = outside.at };
        };
        blank = record { at = λ a b within. blank.at a b (subst (λ r. HasPosition r (record { x = a; y = b })) view within) };
      };
    }

-- what stays around a viewport keeps the rows above it
pub kept_rows : (old new : View) → KeepsSurroundings old new → rows_above_view new ≡ rows_above_view old
kept_rows old new k =
    subst (λ (r : Rect). rows_above new.screen r.y ≡ rows_above_view old) (sym k.viewport)
    (above_same old.screen new.screen old.viewport.y k.size.history k.size.width k.size.height
    (λ a b a_in b_in above. k.outside.at a b a_in b_in (λ within. omega (arith, within.top, above))))

-- a frame drawn after its size
pub Plays-drawn : (stage : Stage) (given : Option Size) (text : TextData) (puts : List (ℕ × ℕ × ℕ))
    (s m t : TerminalData TestBackend) → IsGoodStage stage → IsSizedFor stage given s m
    → Plays stage (steps.Draw None text puts) m t
    → Plays stage (steps.Draw given text puts) s t
Plays-drawn stage given text puts s m t good sized drawn =
    let size = drawn.after.size in
    let rest = drawn.after.same size in
    record {
      playing = drawn.playing;
      after = record {
        size = size ∙ sized.size;
        shows = drawn.after.shows;
        same = λ e. subst (λ x. KeepsSurroundings (view_in x) (view_in t)) (sized.same (sym size ∙ e)) rest;
        other = λ out.
            let goes = sized.other (λ e. out (size ∙ e)) good in
            record {
              between = goes.between;
              takes = subst (λ z. TakesSize (without_cursor (screen_of s.backend)) z goes.between) (sym size) goes.takes;
              count = goes.count;
              above = kept_rows (view_in m) (view_in t) rest ∙ goes.above;
              left = goes.left;
              history = rest.size.history ∙ goes.history;
            };
      };
    }

-- a frame that isn't settled, after its size
pub IsCauseOfStep-drawn : (stage : Stage) (given : Option Size) (text : TextData) (puts : List (ℕ × ℕ × ℕ))
    (s m : TerminalData TestBackend) (cause : PlayCause) → IsSizedFor stage given s m
    → IsCauseOfStep stage (steps.Draw None text puts) (view_in m) cause
    → IsCauseOfStep stage (steps.Draw given text puts) (view_in s) cause
IsCauseOfStep-drawn stage given text puts s m Memory sized why = tt
IsCauseOfStep-drawn stage given text puts s m (Unsettled area) sized why = (
  record {
    lies = subst (λ z. MayLie stage.viewport z area) sized.size why.0.lies;
    stays = λ e. why.0.stays refl ∙ ap (λ (x : TerminalData TestBackend). x.viewport_area) (sized.same (sized.size ∙ e));
  },
  why.1,
)

-- the area of the rows of a text
pub frame_area : (area : Rect) (text : TextData) (rows : BufferData) → IsFrame area text [] rows → rows.area ≡ area
frame_area area text rows made = ap (λ (x : BufferData). x.area) made.painted ∙ made.renders.within.same_area ∙ made.emptied.area

pub rows_area : (s : TerminalData TestBackend) (text : TextData) (rows : BufferData)
    → IsFrame (text_area s.viewport_area.width text) text [] rows → rows.area ≡ inserted_area s rows.area.height
rows_area s text rows made =
    let is = frame_area (text_area s.viewport_area.width text) text rows made in
    is ∙ ap (λ h. record { x = 0; y = 0; width = s.viewport_area.width; height = h }) (sym (ap (λ (r : Rect). r.height) is))

-- rows of a text that were inserted
module _ (stage : Stage) (text : TextData) (rows : BufferData) (s t : TerminalData TestBackend) (inline : IsInline stage.viewport)
    (playing : IsPlaying stage s)
    (made : IsFrame (text_area s.viewport_area.width text) text [] rows) (good : IsGoodStage stage)
    (settled : IsSettledBuffer rows) (has : InsertsBuffer rows s t) where
  abbrev old : Screen
  old = screen_of s.backend

  made_wide : IsFrame (text_area old.width text) text [] rows
  made_wide = subst (λ w. IsFrame (text_area w text) text [] rows)
      (inline_width stage.viewport (size_of old) s.viewport_area inline playing.rest.lies) made

  known_height : old.height ≡ s.last_known_area.height
  known_height = ap (λ (r : Rect). r.height) (rests-known screen_of stage.viewport s inline playing.rest)

  inserted_none : old.height ≡ 0 → Plays stage (steps.Insert text) s s
  inserted_none flat =
      let on = playing.rest.in_step.on_screen in
      record {
        playing = playing;
        after = (
          λ _. record {
            size = refl;
            viewport = ap (λ y. record s.viewport_area { y = y }) (omega (arith, on.bottom, flat));
            frame = rows;
            made = made_wide;
            settled = settled;
            above = λ some. absurd (omega (arith, flat, some));
            shown = λ a b a_in b_in. refl;
            none = λ _. refl;
          },
          λ not. absurd (not inline),
        );
      }

  inserted_some : 0 < old.height → Plays stage (steps.Insert text) s t
  inserted_some some =
      let new : Screen = screen_of t.backend in
      let at = playing.rest.in_step in
      let inserts = has.inserts (omega (arith, some, known_height)) in
      let takes = rests-takes screen_of stage.viewport (stage_size stage) s inline good.viewport some playing.rest in
      let view : t.viewport_area ≡ record s.viewport_area { y = t.viewport_area.y } =
      ap (λ (x : TerminalData TestBackend). x.viewport_area) inserts.rest in
      let count : rows.area.height ≡ row_count text = ap (λ (r : Rect). r.height)
      (frame_area (text_area s.viewport_area.width text) text rows made) in
      let shown = inserts.in_step takes at settled in
      record {
        playing = record {
          rest = rests-inserted screen_of stage.viewport rows s t inline playing.rest takes settled inserts;
          unmarked = subst (λ (f : BufferData). AreUnmarked f.cells) (sym (inserts.left takes at)) playing.unmarked;
        };
        after = (
          λ _. record {
            size = same_size new old inserts.shape.width inserts.shape.height;
            viewport = view ∙ ap (λ y. record s.viewport_area { y = y })
                (omega (arith, inserts.top, count, known_height, at.on_screen.bottom));
            frame = rows;
            made = made_wide;
            settled = settled;
            above = λ _. inserts.above takes at settled;
            shown =
                shown_again s.viewport_area t.viewport_area.y s.previous.cells old.grid new.grid playing.unmarked
                (subst (λ (r : Rect). ShowsBuffer (record s.previous { area = r }) old.grid) at.area at.shown)
                (subst (λ (r : Rect). ShowsBuffer (record s.previous { area = r }) new.grid) view
                (subst (λ f. ShowsBuffer f new.grid) (inserts.left takes at) shown.shown));
            none = λ flat. absurd (omega (arith, flat, some));
          },
          λ not. absurd (not inline),
        );
      }

  pub Plays-inserted : Plays stage (steps.Insert text) s t
  Plays-inserted = elim (cases_lt 0 old.height) [
    | inl some ↦ inserted_some some
    | inr none ↦
        let flat : old.height ≡ 0 = omega (arith, none) in
        subst (Plays stage (steps.Insert text) s) (sym (has.none (sym known_height ∙ flat))) (inserted_none flat)
  ]
