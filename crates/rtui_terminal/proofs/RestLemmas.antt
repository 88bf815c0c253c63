-- A terminal at rest: each call of an application keeps it so.
use Rattle.std.proofs.Common.{◌≡◌, ◌⊎◌, ℕ, ◌+◌, ◌-◌, ◌<◌, ◌≤◌, min, nat_lt, Bool, true, false, if◌then◌else◌, Option, refl, sym}
use Rattle.std.proofs.Common.{ap, subst, ◌∙◌, inl, inr, arith, nat_le, ◌||◌}
use Rattle.std.proofs.lemmas.{Bool.Decides.nat_tests}
use Rattle.rtui_geometry.specs.{declared.position.Position.Position, declared.rect.Rect.Rect, declared.size.Size.Size}
use Rattle.rtui_geometry.specs.{Rect.EdgesFit}
use Rattle.rtui_buffer.specs.{BufferData.BufferData, BufferData.IsEmptied, Shown.IsSettledBuffer}
use Rattle.rtui_backend.specs.Screen.{Screen, IsOnScreen, screen_area, size_of}
use Rattle.rtui_viewport.specs.declared.viewport.Viewport.{Viewport}
use Rattle.rtui_viewport.specs.declared.viewport.Viewport.TheVariants.{Fullscreen, Inline, Fixed}
use Rattle.rtui_viewport.specs.{Viewports.IsFixed, Viewports.IsInline, Areas.KeepsOutside, Areas.IsBlankBelow, Areas.Empties}
use Rattle.rtui_viewport.specs.{Sizing.first_area}
use Rattle.rtui_viewport.specs.{Placing.area_in, Placing.raised, Placing.inline_area, Clearing.HasPlace}
use Rattle.rtui_viewport.specs.{Clearing.is_emptied}
use Rattle.rtui_viewport.specs.Lying.{FitsSize, IsAcross, MayLie}
use Rattle.rtui_viewport.proofs.ClearLemmas.{keeps_outside}
use Rattle.rtui_terminal.specs.{TerminalData.TerminalData, TerminalData.cursor_offset, InStep.IsInStep, InStep.IsSized}
use Rattle.rtui_terminal.specs.{InStep.KeepsAroundViewport}
use Rattle.rtui_terminal.specs.{AtRest.IsAtRest, Cursor.Stays, Starting.IsBlank, Starting.Starts, Writing.Applies}
use Rattle.rtui_terminal.specs.{Drawing.DrawsFrame, Resizing.Resizes}
use Rattle.rtui_terminal.specs.{Clearing.ClearsViewport, Insertion.Inserts, Insertion.TakesRows}
pub use Rattle.rtui_terminal.proofs.{StepLemmas.raised_by, KeepLemmas.same_size}
use Rattle.rtui_terminal.proofs.{StepLemmas.not_both, StepLemmas.empties_or, StepLemmas.for_inline, StepLemmas.never_raised}
use Rattle.rtui_terminal.proofs.{HeadlineLemmas.stays_step}
use Rattle.rtui_terminal.proofs.{DifferenceLemmas.beside, RenderLemmas.in_step_painted, KeepLemmas.painted_rest}
use Rattle.rtui_terminal.proofs.{KeepLemmas.same_area}
use Rattle.rtui_terminal.proofs.{InsertionLemmas.emptied-moved, KeepLemmas.below-kept, KeepLemmas.stays_rest}
use Rattle.rtui_terminal.proofs.{RenderedLemmas.resized-empty, RenderedLemmas.sized-stays, StartLemmas.starts-blank}
use Rattle.rtui_terminal.proofs.{StartLemmas.starts-in-step}

-- a viewport that lies where it may is on the screen
pub lies_on : (kind : Viewport) (r : Rect) (s : Screen) → FitsSize kind (size_of s) → MayLie kind (size_of s) r → IsOnScreen r s
lies_on Fullscreen r s fits lies = rw lies (record { right = omega arith; bottom = omega arith })
lies_on (Inline n) r s fits lies = record { right = omega (arith, lies.x, lies.width); bottom = lies.bottom }
lies_on (Fixed f) r s fits lies = rw lies (record { right = omega (arith, fits.0); bottom = omega (arith, fits.1) })

started_sized : (kind : Viewport) (s t : Screen) (known : Rect) → t.width ≡ s.width → t.height ≡ s.height
    → known ≡ first_area kind s → IsFixed kind ⊎ (screen_area t ≡ known)
started_sized Fullscreen s t known w h is = inr (same_area t s w h ∙ sym is)
started_sized (Inline n) s t known w h is = inr (same_area t s w h ∙ sym is)
started_sized (Fixed r) s t known w h is = inl tt

pub raised_same : (r : Rect) → r.y ≡ 0 → (b : Bool) → (if b then record r { y = 0 } else r) ≡ r
raised_same r top true = ap (λ y. record r { y = y }) (sym top)
raised_same r top false = refl

-- where a viewport that isn't fixed lies on a screen that it was placed on
placed_lies : (kind : Viewport) (former o : ℕ) (b u : Screen) (r : Rect) → (IsFixed kind → ⊥) → u.width ≡ b.width
    → u.height ≡ b.height
    → r ≡ raised former (area_in kind (screen_area b) o b.cursor_y) → IsOnScreen r u → MayLie kind (size_of u) r
placed_lies Fullscreen former o b u r free width height is on = is ∙ raised_same (screen_area b) refl (nat_lt b.width former)
    ∙ rw (width, height) refl
placed_lies (Inline n) former o b u r free width height is on =
    let same = raised_by (inline_area n b.width b.height o b.cursor_y) (nat_lt b.width former) in
    record {
      x = ap (λ (q : Rect). q.x) is ∙ same.0;
      width = ap (λ (q : Rect). q.width) is ∙ same.1 ∙ sym width;
      height = ap (λ (q : Rect). q.height) is ∙ same.2 ∙ ap (min n) (sym height);
      bottom = on.bottom;
    }
placed_lies (Fixed f) former o b u r free width height is on = absurd (free tt)

-- where a new viewport lies
started_lies : (kind : Viewport) (s u : Screen) (r : Rect) → u.width ≡ s.width → u.height ≡ s.height
    → r ≡ area_in kind (first_area kind s) 0 s.cursor_y → ((IsFixed kind → ⊥) → IsOnScreen r u) → MayLie kind (size_of u) r
started_lies Fullscreen s u r w h is on = is ∙ rw (w, h) refl
started_lies (Inline n) s u r w h is on =
    placed_lies (Inline n) 0 0 s u r (λ fixed. fixed) w h (is ∙ sym (never_raised _)) (on (λ fixed. fixed))
started_lies (Fixed f) s u r w h is on = is

-- below an inline viewport that was cleared all is blank
emptied_below : (kind : Viewport) (r : Rect) (more : Bool) (old new : Screen) → IsInline kind → new.width ≡ old.width
    → new.height ≡ old.height → r.x ≡ 0
    → (HasPlace kind r old → Empties (λ p. is_emptied kind r old.height p || more) old new) → IsBlankBelow r new
emptied_below kind r more old new inline width height left empties = for_inline
    (λ k. (HasPlace k r old → Empties (λ p. is_emptied k r old.height p || more) old new) → IsBlankBelow r new)
    (λ n empties. record {
      at = λ a b a_in b_in under.
          let gone : nat_le (min r.y (old.height - 1)) b ≡ true = grind (arith, nat_tests) in
          (empties left).grid a b (omega (arith, width)) (omega (arith, height)) ∙ rw gone refl;
    }) kind inline empties

-- an inline viewport that lies where it may
across : (kind : Viewport) (size : Size) (r : Rect) → IsInline kind → MayLie kind size r → (n : ℕ) × IsAcross n size r
across kind size r = for_inline (λ k. MayLie k size r → (n : ℕ) × IsAcross n size r) (λ n lies. (n, lies)) kind

pub inline_left : (kind : Viewport) (size : Size) (r : Rect) → IsInline kind → MayLie kind size r → r.x ≡ 0
inline_left kind size r inline lies = (across kind size r inline lies).1.x

pub inline_width : (kind : Viewport) (size : Size) (r : Rect) → IsInline kind → MayLie kind size r → r.width ≡ size.width
inline_width kind size r inline lies = (across kind size r inline lies).1.width

inline_row : (kind : Viewport) (own size : Size) (r : Rect) → IsInline kind → FitsSize kind own → MayLie kind size r
    → 0 < size.height → 0 < r.height
inline_row kind own size r inline fits lies some = for_inline (λ k. FitsSize k own → MayLie k size r → 0 < r.height)
    (λ n fits lies. omega (arith, fits, lies.height, some)) kind inline fits lies

inline_moved : (kind : Viewport) (size : Size) (r : Rect) (y : ℕ) → IsInline kind → y + r.height ≤ size.height
    → MayLie kind size r → MayLie kind size (record r { y = y })
inline_moved kind size r y inline bottom = for_inline (λ k. MayLie k size r → MayLie k size (record r { y = y }))
    (λ n lies. record { x = lies.x; width = lies.width; height = lies.height; bottom = bottom }) kind inline

pub has_place : (kind : Viewport) (size : Size) (r : Rect) (s : Screen) → MayLie kind size r → IsOnScreen r s → HasPlace kind r s
has_place Fullscreen size r s lies on = tt
has_place (Inline n) size r s lies on = lies.x
has_place (Fixed f) size r s lies on = on

-- a clear of a viewport that lies where it may changes nothing outside it, and the rows below an inline one stay blank
cleared_outside : (kind : Viewport) (size : Size) (r : Rect) (old new : Screen) → FitsSize kind size → EdgesFit r
    → MayLie kind (size_of old) r → IsOnScreen r old
    → (IsInline kind → IsBlankBelow r old) → Empties (is_emptied kind r old.height) old new → KeepsOutside r old new
cleared_outside Fullscreen size r old new fits edges lies on below empties = record {
  at = λ a b a_in b_in out. elim (beside r a b edges out) [
    | inl left ↦ absurd (omega (arith, left, ap (λ (q : Rect). q.x) lies))
    | inr (inl right) ↦ absurd (omega (arith, right, ap (λ (q : Rect). q.x + q.width) lies))
    | inr (inr (inl above)) ↦ absurd (omega (arith, above, ap (λ (q : Rect). q.y) lies))
    | inr (inr (inr under)) ↦ absurd (omega (arith, under, ap (λ (q : Rect). q.y + q.height) lies))
  ];
}
cleared_outside (Inline n) size r old new fits edges lies on below empties = record {
  at = λ a b a_in b_in out. empties.grid a b a_in b_in ∙ elim (beside r a b edges out) [
    | inl left ↦ absurd (omega (arith, left, lies.x))
    | inr (inl right) ↦ absurd (omega (arith, right, lies.x, lies.width))
    | inr (inr (inl above)) ↦
        let kept : nat_le (min r.y (old.height - 1)) b ≡ false = grind (arith, nat_tests) in
        rw kept refl
    | inr (inr (inr under)) ↦
        let gone : nat_le (min r.y (old.height - 1)) b ≡ true = grind (arith, nat_tests) in
        rw gone (sym ((below tt).at a b a_in b_in under))
  ];
}
cleared_outside (Fixed f) size r old new fits edges lies on below empties = keeps_outside r empties

module _ {B : Type 0} (screen : B → Screen) where
  sized_kept : (s t : TerminalData B) → t.viewport ≡ s.viewport → t.last_known_area ≡ s.last_known_area
      → (screen t.backend).width ≡ (screen s.backend).width → (screen t.backend).height ≡ (screen s.backend).height
      → IsSized screen s → IsSized screen t
  sized_kept s t kind known width height sized = elim sized [
    | inl fixed ↦ inl (subst IsFixed (sym kind) fixed)
    | inr is ↦ inr (same_area (screen t.backend) (screen s.backend) width height ∙ is ∙ sym known)
  ]

  -- a start on a blank screen
  pub rests-started : (kind : Viewport) (b : B) (t : TerminalData B) → FitsSize kind (size_of (screen b)) → IsBlank (screen b)
      → Starts screen kind b t → IsAtRest screen kind t
  rests-started kind b t fits blank starts =
      let s : Screen = screen b in
      let u : Screen = screen t.backend in
      let width : u.width ≡ s.width = starts.scrolls.width in
      let height : u.height ≡ s.height = starts.scrolls.height in
      let view = starts.viewport_area ∙ ap (λ k. area_in kind k 0 s.cursor_y) starts.last_known_area in
      let lies : MayLie kind (size_of u) t.viewport_area =
      started_lies kind s u t.viewport_area width height view starts.on_screen in
      let on = lies_on kind t.viewport_area u (subst (FitsSize kind) (sym (same_size u s width height)) fits) lies in
      record {
        kind_is = starts.kind;
        sized = subst (λ k. IsFixed k ⊎ (screen_area u ≡ t.last_known_area)) (sym starts.kind)
            (started_sized kind s u t.last_known_area width height starts.last_known_area);
        lies = lies;
        in_step = starts-in-step screen kind b t starts on blank;
        current = starts.current;
        below = λ inline. record { at = λ a c a_in c_in under. (starts-blank screen kind b t starts blank).at a c a_in c_in };
      }

  -- nothing changed around the viewport
  rests-kept : (kind : Viewport) (s t : TerminalData B) → IsAtRest screen kind s → t.viewport ≡ s.viewport
      → t.last_known_area ≡ s.last_known_area → IsInStep screen t → IsEmptied t.viewport_area t.current
      → KeepsAroundViewport screen s t → IsAtRest screen kind t
  rests-kept kind s t rest same known step current keeps = record {
    kind_is = same ∙ rest.kind_is;
    sized = sized_kept s t same known keeps.size.width keeps.size.height rest.sized;
    lies = rw (keeps.viewport_area, keeps.size.width, keeps.size.height) rest.lies;
    in_step = step;
    current = current;
    below = λ inline. below-kept screen s t keeps (rest.below inline);
  }

  -- a settled buffer was drawn
  pub rests-applied : (kind : Viewport) (cursor : Option Position) (frame : BufferData) (s t : TerminalData B)
      → IsAtRest screen kind s → IsSettledBuffer frame → Applies screen cursor (record s { current = frame }) t
      → IsAtRest screen kind t
  rests-applied kind cursor frame s t rest settled applied =
      let here = in_step_painted screen s frame rest.in_step in
      let view : t.viewport_area ≡ s.viewport_area = ap (λ (x : TerminalData B). x.viewport_area) applied.rest in
      rests-kept kind s t rest (ap (λ (x : TerminalData B). x.viewport) applied.rest)
      (ap (λ (x : TerminalData B). x.last_known_area) applied.rest) (applied.in_step here settled)
      (subst (λ area. IsEmptied area t.current) (sym view) applied.emptied)
      (painted_rest screen s t frame (applied.keeps here settled))

  rests-stays : (kind : Viewport) (s t : TerminalData B) → Stays screen s t → IsAtRest screen kind s → IsAtRest screen kind t
  rests-stays kind s t stays rest =
      let same = stays.rest in
      rests-kept kind s t rest (ap (λ (x : TerminalData B). x.viewport) same)
      (ap (λ (x : TerminalData B). x.last_known_area) same) (stays_step screen s t stays rest.in_step)
      (subst (λ (x : TerminalData B). IsEmptied x.viewport_area x.current) (sym same) rest.current) (stays_rest screen s t stays)

  -- a draw at the known size
  pub rests-drawn : (kind : Viewport) (s t : TerminalData B) → IsAtRest screen kind s → IsSettledBuffer t.previous
      → DrawsFrame screen s t → IsAtRest screen kind t
  rests-drawn kind s t rest settled draws =
      rests-applied kind draws.cursor t.previous draws.sized t
      (rests-stays kind s draws.sized (sized-stays screen s draws.sized rest.sized draws.autoresized) rest) settled
      draws.applied

  -- the screen took another size, and the terminal found it
  pub rests-resized : (kind : Viewport) (b : B) (s t : TerminalData B) → (IsFixed kind → ⊥) → IsAtRest screen kind s
      → Resizes screen (screen_area (screen b)) (record s { backend = b }) t → IsAtRest screen kind t
  rests-resized kind b s t free rest resized =
      let between : Screen = screen b in
      let new : Screen = screen t.backend in
      let width : new.width ≡ between.width = resized.frame.size.width ∙ resized.scrolls.width in
      let height : new.height ≡ between.height = resized.frame.size.height ∙ resized.scrolls.height in
      let on : IsOnScreen t.viewport_area new = resized.on_screen refl in
      let lies : MayLie kind (size_of new) t.viewport_area =
      placed_lies kind s.viewport_area.width (cursor_offset s) between new t.viewport_area free width height
      (rw rest.kind_is at resized.viewport_area) on in
      record {
        kind_is = ap (λ (x : TerminalData B). x.viewport) resized.rest ∙ rest.kind_is;
        sized = inr (same_area new between width height ∙ sym (ap (λ (x : TerminalData B). x.last_known_area) resized.rest));
        lies = lies;
        in_step = resized.in_step on;
        current = resized-empty s.viewport_area t.viewport_area s.current t.current rest.current resized.current;
        below = λ inline.
            emptied_below kind t.viewport_area (nat_lt between.width s.viewport_area.width) resized.scrolled new inline
            resized.frame.size.width resized.frame.size.height
            (inline_left kind (size_of new) t.viewport_area inline lies) (rw rest.kind_is at resized.empties);
      }

  -- a clear
  emptied-clear : (kind : Viewport) (s t : TerminalData B) → IsAtRest screen kind s → ClearsViewport screen s t
      → Empties (is_emptied kind s.viewport_area (screen s.backend).height) (screen s.backend) (screen t.backend)
  emptied-clear kind s t rest clears = (rw rest.kind_is at clears.clears)
      (has_place kind (size_of (screen s.backend)) s.viewport_area (screen s.backend) rest.lies rest.in_step.on_screen)

  pub keeps-cleared : (kind : Viewport) (size : Size) (s t : TerminalData B) → FitsSize kind size → IsAtRest screen kind s
      → ClearsViewport screen s t
      → KeepsOutside s.viewport_area (screen s.backend) (screen t.backend)
  keeps-cleared kind size s t fits rest clears =
      cleared_outside kind size s.viewport_area (screen s.backend) (screen t.backend) fits clears.edges rest.lies
      rest.in_step.on_screen rest.below (emptied-clear kind s t rest clears)

  pub rests-cleared : (kind : Viewport) (s t : TerminalData B) → IsAtRest screen kind s → ClearsViewport screen s t
      → IsAtRest screen kind t
  rests-cleared kind s t rest clears =
      let view : t.viewport_area ≡ s.viewport_area = ap (λ (x : TerminalData B). x.viewport_area) clears.rest in
      let width = clears.frame.size.width in
      let height = clears.frame.size.height in
      let same = ap (λ (x : TerminalData B). x.viewport) clears.rest in
      record {
        kind_is = same ∙ rest.kind_is;
        sized = sized_kept s t same (ap (λ (x : TerminalData B). x.last_known_area) clears.rest) width height rest.sized;
        lies = rw (view, width, height) rest.lies;
        in_step = clears.in_step rest.in_step.on_screen rest.in_step.area;
        current = rw (view, ap (λ (x : TerminalData B). x.current) clears.rest) rest.current;
        below = λ inline. rw view (emptied_below kind s.viewport_area false _ (screen t.backend) inline width height
            (inline_left kind _ s.viewport_area inline rest.lies) (λ _. empties_or (emptied-clear kind s t rest clears)));
      }

  -- above an inline viewport rows can be inserted
  pub rests-known : (kind : Viewport) (s : TerminalData B) → IsInline kind → IsAtRest screen kind s
      → screen_area (screen s.backend) ≡ s.last_known_area
  rests-known kind s inline rest = elim rest.sized [
    | inl fixed ↦ absurd (not_both kind inline (subst IsFixed rest.kind_is fixed))
    | inr is ↦ is
  ]

  pub rests-takes : (kind : Viewport) (size : Size) (s : TerminalData B) → IsInline kind → FitsSize kind size
      → 0 < (screen s.backend).height → IsAtRest screen kind s → TakesRows screen s
  rests-takes kind size s inline fits some rest =
      let own = size_of (screen s.backend) in
      record {
        inline = subst IsInline (sym rest.kind_is) inline;
        known = rests-known kind s inline rest;
        row = inline_row kind size own s.viewport_area inline fits rest.lies some;
        width = inline_width kind own s.viewport_area inline rest.lies;
      }

  pub rests-inserted : (kind : Viewport) (rows : BufferData) (s t : TerminalData B) → IsInline kind → IsAtRest screen kind s
      → TakesRows screen s → IsSettledBuffer rows → Inserts screen rows s t → IsAtRest screen kind t
  rests-inserted kind rows s t inline rest takes settled inserts =
      let width = inserts.shape.width in
      let height = inserts.shape.height in
      let same : t.viewport ≡ s.viewport = ap (λ (x : TerminalData B). x.viewport) inserts.rest in
      let view : t.viewport_area ≡ record s.viewport_area { y = t.viewport_area.y } =
      ap (λ (x : TerminalData B). x.viewport_area) inserts.rest in
      let known : (screen s.backend).height ≡ s.last_known_area.height = ap (λ (r : Rect). r.height) takes.known in
      record {
        kind_is = same ∙ rest.kind_is;
        sized = sized_kept s t same (ap (λ (x : TerminalData B). x.last_known_area) inserts.rest) width height rest.sized;
        lies = subst (MayLie kind (size_of (screen t.backend))) (sym view)
            (inline_moved kind _ s.viewport_area t.viewport_area.y inline
            (omega (arith, inserts.top, height, known, rest.in_step.on_screen.bottom)) (rw (width, height) rest.lies));
        in_step = inserts.in_step takes rest.in_step settled;
        current = emptied-moved screen rows s t inserts rest.current;
        below = λ _. inserts.below takes rest.in_step settled (rest.below inline);
      }
