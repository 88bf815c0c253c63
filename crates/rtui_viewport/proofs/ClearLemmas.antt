-- Emptied columns, and what a clear of a viewport leaves.
use Rattle.std.proofs.Common.{◌≡◌, ◌⊎◌, ℕ, ◌<◌, Bool, List, map, Option, None, Some, refl, sym, subst, ◌∙◌, arith, inl, inr, ◌||◌}
use Rattle.std.proofs.lemmas.Bool.Decides.{nat_tests}
use Rattle.rtui_geometry.specs.{declared.position.Position.Position, declared.rect.Rect.Rect, Rect.EdgesFit, Rows.ListsPositions}
use Rattle.rtui_geometry.{specs.Rect.has_position, proofs.PositionTests.decide_position}
use Rattle.rtui_backend.specs.declared.clear_type.ClearType.{ClearType}
use Rattle.rtui_backend.specs.declared.clear_type.ClearType.TheVariants.{AfterCursor}
use Rattle.rtui_backend.specs.Screen.{Screen, Draws, Clears, IsOnScreen, with_cursor, rows_above}
use Rattle.rtui_backend.proofs.ScrollLemmas.{above_same}
use Rattle.rtui_viewport.specs.declared.viewport.Viewport.{Viewport}
use Rattle.rtui_viewport.specs.declared.viewport.Viewport.TheVariants.{Fullscreen, Inline, Fixed}
use Rattle.rtui_viewport.specs.Areas.{KeepsAllButLooks, Empties, KeepsOutside, IsBlankOver}
use Rattle.rtui_viewport.specs.Clearing.{ClearsArea, is_emptied, blanks_needed, WritesItems, WritesBlanks}
use Rattle.rtui_viewport.specs.{Placing.cursor_restored, Remaining.blank_at}
use Rattle.rtui_viewport.proofs.BlankLemmas.{blanks_over}

pub frame_same : (s : Screen) → KeepsAllButLooks s s
frame_same s = record { size = record { width = refl; height = refl; history = refl }; visible = refl }

pub frame_more : {r s t : Screen} → KeepsAllButLooks r s → KeepsAllButLooks s t → KeepsAllButLooks r t
frame_more p q = record {
  size = record {
    width = q.size.width ∙ p.size.width;
    height = q.size.height ∙ p.size.height;
    history = q.size.history ∙ p.size.history;
  };
  visible = q.visible ∙ p.visible;
}

-- with the cursor elsewhere
frame_moved : (x y : ℕ) (s : Screen) → KeepsAllButLooks s (with_cursor x y s)
frame_moved x y s = record { size = record { width = refl; height = refl; history = refl }; visible = refl }

pub frame_cleared : {s t : Screen} (kind : ClearType) → Clears s kind t → KeepsAllButLooks s t
frame_cleared kind p = rw p.rest (record { size = record { width = refl; height = refl; history = refl }; visible = refl })

-- an empty rectangle needs no blanks
pub none_needed : (r : Rect) (s : Screen) → (r.width ≡ 0) ⊎ (r.height ≡ 0) → blanks_needed r s ≡ 0
none_needed r s (inl none) = rw none (grind (arith, nat_tests))
none_needed r s (inr none) = rw none (grind (arith, nat_tests))

-- empty cells drawn over an area
pub empties_drawn : (r : Rect) {s t : Screen} (ps : List Position) → EdgesFit r → ListsPositions r ps
    → Draws s (map blank_at ps) t → Empties (has_position r) s t
empties_drawn r {s} {t} ps fits lists d = record {
  frame = record { size = record { width = d.width; height = d.height; history = d.history }; visible = d.visible };
  grid = λ a b a_in b_in. d.grid a b ∙ blanks_over r s.width s.height ps fits lists s.grid a b a_in b_in;
}

-- a clear of all after the left end of a row
pub clears_inline : (n : ℕ) (area : Rect) {s t : Screen} → Clears (with_cursor area.x area.y s) AfterCursor t
    → ClearsArea (Inline n) area s t
clears_inline n area {s} p left = record {
  frame = frame_more (frame_moved area.x area.y s) (frame_cleared AfterCursor p);
  grid = λ a b a_in b_in. p.grid a b a_in b_in ∙ grind (arith, nat_tests);
}

-- one after the other
pub empties_more : {p q : Position → Bool} {r s t : Screen} → Empties p r s → Empties q s t → Empties (λ k. q k || p k) r t
empties_more {p} {q} {r} {s} {t} first next = record {
  frame = frame_more first.frame next.frame;
  grid = λ a b a_in b_in.
      let was = first.grid a b a_in b_in in
      next.grid a b (omega (arith, first.frame.size.width)) (omega (arith, first.frame.size.height)) ∙ grind (arith, nat_tests);
}

-- if a viewport has its place and lies on the screen, it is blank then
pub blank_over : (v : Viewport) (r : Rect) {s t : Screen} → IsOnScreen r s → Empties (is_emptied v r s.height) s t
    → IsBlankOver r t
blank_over Fullscreen r on p = record {
  at = λ a b w. p.grid a b (omega (arith, w.right, on.right))
      (omega (arith, w.bottom, on.bottom));
}
blank_over (Inline n) r {s} on p = record {
  at = λ a b w. p.grid a b (omega (arith, w.right, on.right)) (omega (arith, w.bottom, on.bottom))
      ∙ grind (arith, nat_tests, w.top);
}
blank_over (Fixed f) r on p = record {
  at = λ a b w.
      p.grid a b (omega (arith, w.right, on.right)) (omega (arith, w.bottom, on.bottom))
      ∙ grind (arith, nat_tests, w.left, w.right, w.top, w.bottom);
}

-- nothing changes outside a fixed viewport
pub keeps_outside : (r : Rect) {s t : Screen} → Empties (has_position r) s t → KeepsOutside r s t
keeps_outside r p = record {
  at = λ a b a_in b_in out. elim (decide_position r (record { x = a; y = b })) [
    | inl (within, is) ↦ absurd (out within)
    | inr (off, is) ↦ p.grid a b a_in b_in ∙ rw is refl
  ];
}

-- the rows above an inline viewport with a row stay, and those below it are blank
pub keeps_above : (n : ℕ) (r : Rect) {s t : Screen} → IsOnScreen r s → 0 < r.height
    → Empties (is_emptied (Inline n) r s.height) s t → rows_above t r.y ≡ rows_above s r.y
keeps_above n r {s} {t} on some p = above_same s t r.y p.frame.size.history p.frame.size.width p.frame.size.height
    (λ a b a_in b_in low. p.grid a b a_in b_in ∙ grind (arith, nat_tests, on.bottom))

-- what holds with the cursor where it is and elsewhere, holds where it was set back
by_cursor : (found : Option Position) {s t : Screen} → t ≡ cursor_restored found s → (P : Screen → Type 0) → P s
    → ((x y : ℕ) → P (with_cursor x y s)) → P t
by_cursor None restored P here moved = subst P (sym restored) here
by_cursor (Some at) restored P here moved = subst P (sym restored) (moved at.x at.y)

-- a clear, after which the cursor was set back
module _ (found : Option Position) {r s t : Screen} (restored : t ≡ cursor_restored found s) where
  pub frame_restored : KeepsAllButLooks r s → KeepsAllButLooks r t
  frame_restored p = by_cursor found restored (KeepsAllButLooks r) p (λ x y. frame_more p (frame_moved x y s))

  pub empties_restored : {which : Position → Bool} → Empties which r s → Empties which r t
  empties_restored {which} p = by_cursor found restored (Empties which r) p
      (λ x y. record { frame = frame_more p.frame (frame_moved x y s); grid = p.grid })

pub clears_restored : (v : Viewport) (area : Rect) (found : Option Position) {r s t : Screen} → t ≡ cursor_restored found s
    → ClearsArea v area r s → ClearsArea v area r t
clears_restored v area found restored p place = empties_restored found restored (p place)

-- the blanks that it drew, from a screen of the same width where as many items were counted
pub written_restored : (v : Viewport) (area : Rect) (found : Option Position) (q r s t : Screen) → r.written ≡ q.written
    → r.width ≡ q.width → t ≡ cursor_restored found s → WritesBlanks v area r s → WritesBlanks v area q t
written_restored v area found q r s t same wide restored = either v
  where
    whole : t.written ≡ s.written
    whole = by_cursor found restored (λ k. k.written ≡ s.written) refl (λ x y. refl)

    items : (n : ℕ) → WritesItems n r s → WritesItems n q t
    items n p room = omega (arith, same, whole, p (omega (arith, same)))

    either : (v : Viewport) → WritesBlanks v area r s → WritesBlanks v area q t
    either Fullscreen p = items 0 p
    either (Inline n) p = items 0 p
    either (Fixed f) p = items (blanks_needed area q) (rw wide at p)
