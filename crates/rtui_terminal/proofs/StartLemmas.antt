-- What stands after the start of a terminal.
use Rattle.std.proofs.Common.{◌≡◌, ℕ, ◌+◌, ◌<◌, ◌≤◌, sym, ap, ap₂, subst, ◌∙◌, arith, append-nil, inl, inr}
use Rattle.std.proofs.lemmas.{Bool.cases_lt, Bool.Decides.nat_tests}
use Rattle.rtui_geometry.specs.declared.rect.Rect.{Rect}
use Rattle.rtui_cell.specs.Look.{empty_look}
use Rattle.rtui_backend.specs.Screen.{Screen, Scrolls, IsOnScreen, seen, rows_above, lines_past, screen_area}
use Rattle.rtui_backend.proofs.ScrollLemmas.{above_kept}
use Rattle.rtui_viewport.specs.{declared.viewport.Viewport.Viewport, declared.viewport.Viewport.TheVariants.Inline}
use Rattle.rtui_viewport.specs.{Placing.area_in, Placing.rows_scrolled}
use Rattle.rtui_terminal.specs.{TerminalData.TerminalData, InStep.IsInStep, Starting.IsBlank, Starting.Starts}
use Rattle.rtui_terminal.specs.{Starting.StartsInRow}

no-rows-past : (s : Screen) → s.cursor_y + 1 ≤ s.height → lines_past s 0 ≡ 0
no-rows-past s low = grind (arith, nat_tests)

seen-blank : (s : Screen) → IsBlank s → (a b : ℕ) → a < s.width → seen s a b ≡ empty_look
seen-blank s blank a b a_in = elim (cases_lt b s.height) [
  | inl inside ↦ let at = blank.at a b a_in inside in grind (arith, nat_tests)
  | inr past ↦ grind (arith, nat_tests)
]

module _ {B : Type 0} (screen : B → Screen) where
  -- one row, at the cursor's
  pub starts-in-row : (b : B) (t : TerminalData B) → 0 < (screen b).height → Starts screen (Inline 1) b t → StartsInRow screen b t
  starts-in-row b t some starts =
      let s = screen b in
      let n = screen t.backend in
      let place : t.viewport_area ≡ area_in (Inline 1) (screen_area s) 0 s.cursor_y = starts.viewport_area
      ∙ ap (λ k. area_in (Inline 1) k 0 s.cursor_y) starts.last_known_area in
      let y : t.viewport_area.y ≡ s.cursor_y = ap (λ (r : Rect). r.y) place ∙ omega arith in
      let high : t.viewport_area.height ≡ 1 = ap (λ (r : Rect). r.height) place ∙ omega arith in
      let on = (starts.on_screen (λ fixed. fixed)).bottom in
      let height = starts.scrolls.height in
      let low : s.cursor_y + 1 ≤ s.height = omega arith in
      let scrolls : Scrolls s 0 n = subst (λ k. Scrolls s k n) (no-rows-past s low) starts.scrolls in
      record {
        viewport_area = place ∙ ap₂ (λ y h. record { x = 0; y = y; width = s.width; height = h })
            (sym (ap (λ (r : Rect). r.y) place) ∙ y) (sym (ap (λ (r : Rect). r.height) place) ∙ high);
        size = record { width = scrolls.width; height = scrolls.height; history = scrolls.history ∙ append-nil s.history };
        above = ap (rows_above n) y ∙ above_kept scrolls s.cursor_y ∙ ap (rows_above s) (omega arith);
        grid = λ a c a_in c_in.
            let here : seen s a (c + 0) ≡ s.grid a c = (let e : c + 0 ≡ c = omega arith in rw e (grind (arith, nat_tests))) in
            scrolls.grid a c a_in c_in ∙ here;
      }

  -- a blank screen stays blank
  pub starts-blank : (v : Viewport) (b : B) (t : TerminalData B) → Starts screen v b t → IsBlank (screen b)
      → IsBlank (screen t.backend)
  starts-blank v b t starts blank = record {
    at = λ a c a_in' c_in.
        let wide = starts.scrolls.width in
        let high = starts.scrolls.height in
        let a_in : a < (screen b).width = omega arith in
        starts.scrolls.grid a c a_in (omega arith) ∙ seen-blank (screen b) blank a (c + rows_scrolled v 0 (screen b)) a_in;
  }

  pub starts-in-step : (v : Viewport) (b : B) (t : TerminalData B) → Starts screen v b t
      → IsOnScreen t.viewport_area (screen t.backend) → IsBlank (screen b) → IsInStep screen t
  starts-in-step v b t starts on blank =
      let still = starts-blank v b t starts blank in
      starts.in_step on (record {
        at = λ a c within.
            let right = within.right in
            let bottom = within.bottom in
            let r = on.right in
            let b = on.bottom in
            still.at a c (omega arith) (omega arith);
      })
