-- What calls keep of the rows above a viewport and of all columns outside it.
use Rattle.std.proofs.Common.{rules, ◌≡◌, ℕ, ◌+◌, ◌<◌, Bool, Option, Some, None, refl, sym, ap, ◌∙◌, subst, inl, inr, arith}
use Rattle.rtui_geometry.specs.{declared.position.Position.Position, declared.rect.Rect.Rect, Rect.HasPosition}
use Rattle.rtui_buffer.specs.{BufferData.BufferData, Shown.IsSettledBuffer}
use Rattle.rtui_backend.specs.Screen.{Screen, KeepsSizeAndHistory, IsOnScreen, rows_above, screen_area, size_of}
use Rattle.rtui_backend.proofs.ScrollLemmas.{above_same}
use Rattle.rtui_viewport.specs.{Areas.KeepsOutside, Areas.IsBlankBelow, Clearing.ClearsArea, Viewports.IsFixed}
use Rattle.rtui_viewport.specs.{Viewports.IsInline}
use Rattle.rtui_viewport.specs.declared.viewport.Viewport.{Viewport}
use Rattle.rtui_viewport.proofs.ClearLemmas.{keeps_outside, keeps_above}
use Rattle.rtui_terminal.specs.{TerminalData.TerminalData, TerminalData.IsInPlace, Writing.HasDrawn, Writing.cursor_placed}
use Rattle.rtui_terminal.specs.{Cursor.Stays, Resizing.Autoresizes}
use Rattle.rtui_terminal.specs.InStep.{IsInStep, IsSized, KeepsAroundViewport, rows_over}
use Rattle.rtui_terminal.proofs.StepLemmas.{for_inline, for_fixed}

placed_grid : (cursor : Option Position) (s : Screen) (a b : ℕ) → (cursor_placed cursor s).grid a b ≡ s.grid a b
placed_grid None s a b = refl
placed_grid (Some p) s a b = refl

placed_size : (cursor : Option Position) (s : Screen) → KeepsSizeAndHistory s (cursor_placed cursor s)
placed_size None s = record { width = refl; height = refl; history = refl }
placed_size (Some p) s = record { width = refl; height = refl; history = refl }

-- sizes and areas from columns and rows
pub same_size : (r s : Screen) → r.width ≡ s.width → r.height ≡ s.height → size_of r ≡ size_of s
same_size r s w h = rw (w, h) refl

pub same_area : (r s : Screen) → r.width ≡ s.width → r.height ≡ s.height → screen_area r ≡ screen_area s
same_area r s w h = rw (w, h) refl

pub size_more : {r s t : Screen} → KeepsSizeAndHistory r s → KeepsSizeAndHistory s t → KeepsSizeAndHistory r t
size_more p q = record { width = q.width ∙ p.width; height = q.height ∙ p.height; history = q.history ∙ p.history }

-- a drawing keeps the size
pub size_drawn : {B : Type 0} (cursor : Option Position) (s : TerminalData B) {old new : Screen} → HasDrawn cursor s old new
    → KeepsSizeAndHistory old new
size_drawn cursor s (between, writes, is) =
    let d = writes.drawn in
    rw is (size_more (record { width = d.width; height = d.height; history = d.history }) (placed_size cursor between))

-- the rows above an inline viewport with a row stay where it is cleared
pub above_cleared : (v : Viewport) (r : Rect) {s t : Screen} → IsInPlace v r → ClearsArea v r s t → IsInline v → IsOnScreen r s
    → 0 < r.height → rows_above t r.y ≡ rows_above s r.y
above_cleared v r {s} {t} at clears inline on some =
    for_inline (λ k. IsInPlace k r → ClearsArea k r s t → rows_above t r.y ≡ rows_above s r.y)
    (λ n at clears. keeps_above n r on some (clears at)) v inline at clears

-- and all outside a fixed one
pub outside_cleared : (v : Viewport) (r : Rect) {s t : Screen} → ClearsArea v r s t → IsFixed v → IsOnScreen r s
    → KeepsOutside r s t
outside_cleared v r {s} {t} clears fixed on =
    for_fixed (λ k. ClearsArea k r s t → KeepsOutside r s t) (λ f clears. keeps_outside r (clears on)) v fixed clears

module _ {B : Type 0} (screen : B → Screen) where
  -- what stays outside a viewport stays above it
  pub rest_of : (s t : TerminalData B) → t.viewport_area ≡ s.viewport_area
      → KeepsSizeAndHistory (screen s.backend) (screen t.backend)
      → KeepsOutside s.viewport_area (screen s.backend) (screen t.backend) → KeepsAroundViewport screen s t
  rest_of s t view size outside = record {
    viewport_area = view;
    size = size;
    above =
        subst (λ (r : Rect). rows_above (screen t.backend) r.y ≡ rows_over screen s) (sym view)
        (above_same (screen s.backend) (screen t.backend) s.viewport_area.y size.history size.width size.height
        (λ a b a_in b_in low. outside.at a b a_in b_in (λ within. omega (arith, within.top, low))));
    outside = outside;
  }

  pub rest_more : (r s t : TerminalData B) → KeepsAroundViewport screen r s → KeepsAroundViewport screen s t
      → KeepsAroundViewport screen r t
  rest_more r s t p q = record {
    viewport_area = q.viewport_area ∙ p.viewport_area;
    size = size_more p.size q.size;
    above = q.above ∙ p.above;
    outside = record {
      at = λ a b a_in b_in out.
          q.outside.at a b (subst (λ w. a < w) (sym p.size.width) a_in) (subst (λ h. b < h) (sym p.size.height) b_in)
          (λ within. out (subst (λ area. HasPosition area (record { x = a; y = b })) p.viewport_area within))
          ∙ p.outside.at a b a_in b_in out;
    };
  }

  -- the viewport, the previous buffer and what the screen shows stay
  pub record Keeps (s t : TerminalData B) : Type 0 where
    pub kind : t.viewport ≡ s.viewport
    pub view : t.viewport_area ≡ s.viewport_area
    pub previous : t.previous ≡ s.previous
    pub size : KeepsSizeAndHistory (screen s.backend) (screen t.backend)
    pub grid : (a b : ℕ) → (screen t.backend).grid a b ≡ (screen s.backend).grid a b

  pub kept_rest : (s t : TerminalData B) → Keeps s t → KeepsAroundViewport screen s t
  kept_rest s t k = rest_of s t k.view k.size (record { at = λ a b _ _ _. k.grid a b })

  -- only the cursor, and what the terminal knows of it, may have changed
  pub keeps_cursor : (hidden : Bool) (known : Position) (s t : TerminalData B) {new : Screen}
      → t ≡ record s { backend = t.backend; last_known_cursor_pos = known; hidden_cursor = hidden } → screen t.backend ≡ new
      → new ≡ record (screen s.backend) { cursor_x = new.cursor_x; cursor_y = new.cursor_y; visible = new.visible } → Keeps s t
  keeps_cursor hidden known s t rest here is = search rules

  pub stays_keeps : (s t : TerminalData B) → Stays screen s t → Keeps s t
  stays_keeps s t stays = keeps_cursor s.hidden_cursor s.last_known_cursor_pos s t stays.rest stays.screen_stays refl

  pub stays_rest : (s t : TerminalData B) → Stays screen s t → KeepsAroundViewport screen s t
  stays_rest s t stays = kept_rest s t (stays_keeps s t stays)

  -- a drawing of a settled buffer changes nothing outside
  pub drawn_rest : (cursor : Option Position) (s t : TerminalData B) → t.viewport_area ≡ s.viewport_area
      → HasDrawn cursor s (screen s.backend) (screen t.backend)
      → IsInStep screen s → IsSettledBuffer s.current → KeepsAroundViewport screen s t
  drawn_rest cursor s t view (between, writes, is) step settled =
      let on : IsOnScreen s.previous.area (screen s.backend) = subst (λ r. IsOnScreen r (screen s.backend))
      (sym step.area) step.on_screen in
      let outside : KeepsOutside s.viewport_area (screen s.backend) between =
      subst (λ r. KeepsOutside r (screen s.backend) between) step.area (writes.outside on step.settled settled) in
      rest_of s t view (size_drawn cursor s (between, writes, is)) (record {
        at = λ a b a_in b_in out. ap (λ (x : Screen). x.grid a b) is ∙ placed_grid cursor between a b
            ∙ outside.at a b a_in b_in out;
      })

  -- from in step at the known size a resizing does nothing
  pub autoresized_rest : (s t : TerminalData B) → Autoresizes screen s t → IsSized screen s → KeepsAroundViewport screen s t
  autoresized_rest s t resizes sized = elim (resizes.case) [
    | inl same ↦ stays_rest s t same.1
    | inr other ↦ absurd (other.0 sized)
  ]

  pub painted_rest : (s t : TerminalData B) (painted : BufferData) → KeepsAroundViewport screen (record s { current = painted }) t
      → KeepsAroundViewport screen s t
  painted_rest s t painted keeps = rest_of s t keeps.viewport_area keeps.size keeps.outside

-- blank rows below a viewport, all around which stays
pub below-kept : {B : Type 0} (screen : B → Screen) (s t : TerminalData B) → KeepsAroundViewport screen s t
    → IsBlankBelow s.viewport_area (screen s.backend) → IsBlankBelow t.viewport_area (screen t.backend)
below-kept screen s t keeps blank = record {
  at = λ a b a_in b_in low.
      let bottom : t.viewport_area.y + t.viewport_area.height ≡ s.viewport_area.y + s.viewport_area.height =
      ap (λ (r : Rect). r.y + r.height) keeps.viewport_area in
      let wide = keeps.size.width in
      let high = keeps.size.height in
      keeps.outside.at a b (omega arith) (omega arith) (λ within. let h = within.bottom in omega arith)
      ∙ blank.at a b (omega arith) (omega arith) (omega arith);
}
