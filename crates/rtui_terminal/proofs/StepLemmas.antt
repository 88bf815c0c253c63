-- An emptied viewport is in step with an emptied buffer.
use Rattle.std.proofs.Common.{◌≡◌, ◌∙◌, ℕ, Option, Bool, true, false, refl, ap, subst, arith, nat_lt, min, ◌-◌, ◌<◌, ◌||◌}
use Rattle.std.proofs.Common.{if◌then◌else◌}
use Rattle.std.specs.Option.{unwrap_or}
use Rattle.std.proofs.lemmas.Bool.Decides.{nat_tests}
use Rattle.rtui_geometry.specs.{declared.position.Position.Position, declared.rect.Rect.Rect, Rect.corner, Rect.EdgesFit}
use Rattle.rtui_geometry.specs.{Rect.has_position}
use Rattle.rtui_cell.specs.Look.{Look, empty_look}
use Rattle.rtui_buffer.specs.BufferData.{BufferData, IsEmptied, IsSameBuffer}
use Rattle.rtui_buffer.proofs.EmptyLemmas.{IsSettledBuffer-empty, ShowsBuffer-empty}
use Rattle.rtui_backend.specs.Screen.{Screen, Scrolls, IsOnGrid, IsOnScreen, screen_area, cursor_of, with_cursor}
use Rattle.rtui_viewport.specs.{Areas.KeepsAllButLooks, Areas.Empties, Areas.IsBlankOver, Sizing.first_area}
use Rattle.rtui_viewport.specs.Placing.{raised, area_in, inline_area, cursor_found, cursor_restored, EmptiesAllIf, Places}
use Rattle.rtui_viewport.specs.Placing.{rows_scrolled}
use Rattle.rtui_viewport.specs.{Clearing.HasPlace, Clearing.ClearsArea, Clearing.is_emptied, Viewports.IsFixed}
use Rattle.rtui_viewport.specs.{Viewports.IsInline, Viewports.rows_in}
use Rattle.rtui_viewport.specs.declared.viewport.Viewport.{Viewport}
use Rattle.rtui_viewport.specs.declared.viewport.Viewport.TheVariants.{Fullscreen, Inline, Fixed}
use Rattle.rtui_viewport.proofs.ClearLemmas.{empties_more, frame_same}
use Rattle.rtui_terminal.specs.{TerminalData.TerminalData, TerminalData.IsInPlace, InStep.IsInStep, Resizing.IsResized}
use Rattle.rtui_terminal.specs.Resizing.{EmptiesPlaced}
use Rattle.rtui_terminal.specs.{Starting.first_cursor}

-- what holds of each inline viewport
pub for_inline : (P : Viewport → Type 0) → ((n : ℕ) → P (Inline n)) → (v : Viewport) → IsInline v → P v
for_inline P holds Fullscreen inline = absurd inline
for_inline P holds (Inline n) inline = holds n
for_inline P holds (Fixed r) inline = absurd inline

-- and of each fixed one
pub for_fixed : (P : Viewport → Type 0) → ((r : Rect) → P (Fixed r)) → (v : Viewport) → IsFixed v → P v
for_fixed P holds Fullscreen fixed = absurd fixed
for_fixed P holds (Inline n) fixed = absurd fixed
for_fixed P holds (Fixed r) fixed = holds r

pub blank_in_step : {B : Type 0} (screen : B → Screen) (t : TerminalData B) → EdgesFit t.viewport_area
    → IsOnScreen t.viewport_area (screen t.backend) → IsBlankOver t.viewport_area (screen t.backend)
    → IsEmptied t.viewport_area t.previous → IsInStep screen t
blank_in_step screen t fits on blank previous = record {
  on_screen = on;
  area = previous.area;
  settled = IsSettledBuffer-empty _ t.previous previous;
  shown = ShowsBuffer-empty _ t.previous previous _ (rw previous.area (λ a b a_in b_in. blank.at _ _
      (record {
        left = omega arith;
        right = omega (arith, fits.right);
        top = omega arith;
        bottom = omega (arith, fits.bottom);
      })));
}

-- a rectangle lies on each of two screens of one size
pub on_same : (r : Rect) (s t : Screen) → t.width ≡ s.width → t.height ≡ s.height → IsOnScreen r s → IsOnScreen r t
on_same r s t w h on = record { right = omega (arith, on.right); bottom = omega (arith, on.bottom) }

pub place_same : (v : Viewport) (r : Rect) (s t : Screen) → t.width ≡ s.width → t.height ≡ s.height → HasPlace v r s
    → HasPlace v r t
place_same Fullscreen r s t w h place = tt
place_same (Inline n) r s t w h place = place
place_same (Fixed f) r s t w h place = on_same r s t w h place

-- on the screen a viewport has its place
pub has_place : (v : Viewport) (r : Rect) (s : Screen) → IsInPlace v r → IsOnScreen r s → HasPlace v r s
has_place Fullscreen r s at on = tt
has_place (Inline n) r s at on = at
has_place (Fixed f) r s at on = on

-- an emptied screen, or an untouched one
pub emptied_frame : (narrow : Bool) {s m : Screen} → EmptiesAllIf narrow s m → KeepsAllButLooks s m
emptied_frame true p = p.frame
emptied_frame false {s} same = rw same (frame_same s)

-- columns that were emptied, or for no other reason
pub empties_or : {e : Position → Bool} {s t : Screen} → Empties e s t → Empties (λ p. e p || false) s t
empties_or {e} {s} p = record {
  frame = p.frame;
  grid = λ a b a_in b_in. p.grid a b a_in b_in ∙ either (e (record { x = a; y = b })) (s.grid a b);
}
  where
    either : (x : Bool) (look : Look) → (if x then empty_look else look) ≡ (if x || false then empty_look else look)
    either true look = refl
    either false look = refl

-- columns that were emptied after the whole screen was, or after nothing was
pub emptied_twice : (e : Position → Bool) (narrow : Bool) {s m t : Screen} → EmptiesAllIf narrow s m → Empties e m t
    → Empties (λ p. e p || narrow) s t
emptied_twice e true first empties = empties_more first empties
emptied_twice e false {s} {m} {t} same empties = empties_or (subst (λ k. Empties e k t) same empties)

-- a viewport that was emptied after it was placed
pub emptied_placed : (v : Viewport) (r : Rect) {former width o : ℕ} {old m t : Screen} (p : Places v former width o old m)
    → ClearsArea v r m t → (IsFixed v → r.y < m.height → Empties (has_position r) m t)
    → EmptiesPlaced v r (nat_lt width former) p.scrolled t
emptied_placed v r {former} {width} {o} {old} {m} {t} p clears cut =
    let size = (emptied_frame (nat_lt width former) {s = p.scrolled} {m = m} p.empties).size in
    record {
      empties = λ place. emptied_twice _ (nat_lt width former) p.empties (subst (λ h. Empties (is_emptied v r h) m t) size.height
          (clears (place_same v r p.scrolled m size.width size.height place)));
      cut = λ fixed top. emptied_twice (has_position r) (nat_lt width former) p.empties (cut fixed (omega (arith, size.height)));
    }

pub resized_same : (r : Rect) {a b c : BufferData} → IsSameBuffer a b → IsResized r b c → IsResized r a c
resized_same r p q = record { area_is = q.area_is; cells = rw (← p.cells) q.cells }

-- a viewport that became narrower keeps all but its row
pub raised_by : (r : Rect) (b : Bool) → ((if b then record r { y = 0 } else r).x ≡ r.x)
    × ((if b then record r { y = 0 } else r).width ≡ r.width) × ((if b then record r { y = 0 } else r).height ≡ r.height)
raised_by r true = (refl, refl, refl)
raised_by r false = (refl, refl, refl)

-- where it was placed, an inline viewport begins in column 0
pub placed_in_place : (v : Viewport) (former o row : ℕ) (area r : Rect) → r ≡ raised former (area_in v area o row)
    → IsInPlace v r
placed_in_place Fullscreen former o row area r is = tt
placed_in_place (Inline n) former o row area r is = ap (λ (q : Rect). q.x) is
    ∙ (raised_by (inline_area n area.width area.height o row) (nat_lt area.width former)).0
placed_in_place (Fixed f) former o row area r is = tt

-- an inline viewport isn't fixed
pub not_both : (v : Viewport) → IsInline v → IsFixed v → ⊥
not_both v inline = for_inline (λ k. IsFixed k → ⊥) (λ n fixed. fixed) v inline

-- a viewport of no columns can't become narrower
pub never_raised : (r : Rect) → raised 0 r ≡ r
never_raised r = let no : nat_lt r.width 0 ≡ false = grind (arith, nat_tests) in rw no refl

-- the cursor that a new terminal knows
pub first_cursor_is : (v : Viewport) (s : Screen) (area : Rect) (found : Option Position) (first : Position)
    → area ≡ first_area v s → found ≡ cursor_found v s → first ≡ unwrap_or found (corner area)
    → first ≡ first_cursor v s
first_cursor_is Fullscreen s area found first known is first_is = rw (known, is) at first_is
first_cursor_is (Inline n) s area found first known is first_is = rw (known, is) at first_is
first_cursor_is (Fixed r) s area found first known is first_is = rw (known, is) at first_is

-- a viewport that isn't fixed starts over the whole screen
pub first_area_open : (v : Viewport) (s : Screen) → (IsFixed v → ⊥) → first_area v s ≡ screen_area s
first_area_open Fullscreen s other = refl
first_area_open (Inline n) s other = refl
first_area_open (Fixed r) s other = absurd (other tt)

-- an empty buffer of a viewport's size, moved to its place
pub placed_empty : (v : Viewport) (r : Rect) (o row : ℕ) (next : Rect) (a b : BufferData) → next ≡ area_in v r o row
    → IsEmptied (record { x = 0; y = 0; width = r.width; height = rows_in v r.height }) a
    → b ≡ record a { area = record a.area { x = next.x; y = next.y } } → IsEmptied next b
placed_empty Fullscreen r o row next a b is empty moved = rw (moved, empty.area, is) (record { area = refl; cells = empty.cells })
placed_empty (Inline n) r o row next a b is empty moved = rw (moved, empty.area, is) (record { area = refl; cells = empty.cells })
placed_empty (Fixed f) r o row next a b is empty moved = rw (moved, empty.area, is) (record { area = refl; cells = empty.cells })

-- a cursor that was found on the grid and set back
pub cursor_kept : (s m t : Screen) (at : Position) → at ≡ cursor_of s → IsOnGrid s → m.width ≡ s.width → m.height ≡ s.height
    → t ≡ with_cursor at.x at.y m → cursor_of t ≡ cursor_of s
cursor_kept s m t at is on width height restored =
    let column : min s.cursor_x (m.width - 1) ≡ s.cursor_x = omega (arith, on.cursor_x) in
    let row : min s.cursor_y (m.height - 1) ≡ s.cursor_y = omega (arith, on.cursor_y) in
    ap cursor_of (restored ∙ ap (λ p. with_cursor p.x p.y m) is) ∙ rw (column, row) refl

-- the cursor that was found is where it was
pub cursor_back : (v : Viewport) (s m r t : Screen) (found : Option Position) → found ≡ cursor_found v s
    → (IsInline v → IsOnGrid s) → r.width ≡ s.width → r.height ≡ s.height
    → ((IsInline v → ⊥) → cursor_of m ≡ cursor_of s) → (v ≡ Fullscreen → cursor_of r ≡ cursor_of m) → t ≡ cursor_restored found r
    → (IsFixed v → ⊥) → cursor_of t ≡ cursor_of s
cursor_back Fullscreen s m r t found is on width height placed cleared restored free =
    ap cursor_of (restored ∙ ap (λ f. cursor_restored f r) is) ∙ cleared refl ∙ placed (λ none. none)
cursor_back (Inline n) s m r t found is on width height placed cleared restored free =
    cursor_kept s r t (cursor_of s) refl (on tt) width height (restored ∙ ap (λ f. cursor_restored f r) is)
cursor_back (Fixed f) s m r t found is on width height placed cleared restored free = absurd (free tt)

-- a viewport that was placed at the start never became narrower
pub placed_scrolls : (v : Viewport) (width o : ℕ) {s t : Screen} → Places v 0 width o s t → Scrolls s (rows_scrolled v o s) t
placed_scrolls v width o {s} {t} p =
    let no : nat_lt width 0 ≡ false = grind (arith, nat_tests) in
    let same : t ≡ p.scrolled = rw no at p.empties in
    rw same p.scrolls
