-- Draws on the screen below rows that scrolled off, one after the other.
use Rattle.std.proofs.Common.{◌≡◌, ℕ, ◌+◌, ◌-◌, ◌^◌, ◌<◌, ◌≤◌, List, [], ◌∷◌, ◌++◌, length, map, Some, Result, Ok, Err}
use Rattle.std.proofs.Common.{IsOk, OnOk, OnErr}
use Rattle.std.proofs.Common.{refl, sym, ap, subst, ◌∙◌}
use Rattle.std.specs.{Iterator.Drains, Iterator.Adapters.once_item, Iterator.Adapters.once_steps}
use Rattle.std.specs.declared.iter.Once.{Once}
use Rattle.std.proofs.lemmas.{Bool.false≢true, Iterator.items_from_drains, Iterator.Adapters.YieldsList-from_once}
use Rattle.std.proofs.lemmas.{Result.on_ok_weaker}
use Rattle.rtui_cell.specs.{Look.Look, Grid.Grid, Grid.Update, Grid.put, Grid.puts}
use Rattle.rtui_backend.specs.{Screen.Screen, Screen.Draws, Screen.cursor_of, TestBackend.screen_of, TestBackend.HasOnlyPut}
use Rattle.rtui_backend.proofs.DrawLemmas.{Draws-none}
use Rattle.printed_backend.specs.declared.backend.PrintedBackend.{PrintedBackend}
use Rattle.printed_backend.specs.{Printed.shown_on, Printed.HasOnlyDrawn, Inner.looks_in}

-- a screen below other rows, and with another count of drawn items
abbrev pub below : List (List Look) → ℕ → Screen → Screen
below above count s = record s { history = above; written = count }

-- the same draw there, if its items are counted
pub draws_below : (above : List (List Look)) (m n : ℕ) (us : List Update) (s t : Screen)
    → (m + length us < 2 ^ 64 - 1 → n ≡ m + length us) → (2 ^ 64 - 1 ≤ m + length us → 2 ^ 64 - 1 ≤ n) → Draws s us t
    → Draws (below above m s) us (below above n t)
draws_below above m n us s t counts full draws = record {
  history = refl;
  width = draws.width;
  height = draws.height;
  grid = draws.grid;
  visible = draws.visible;
  written = counts;
  full = full;
}

puts-append : (w h : ℕ) (us vs : List Update) (g : Grid) → puts w h (us ++ vs) g ≡ puts w h vs (puts w h us g)
puts-append w h [] vs g = refl
puts-append w h (u ∷ us) vs g = puts-append w h us vs (put w h u g)

puts-same : (w h : ℕ) (us : List Update) (g k : Grid) → ((a b : ℕ) → g a b ≡ k a b) → (a b : ℕ)
    → puts w h us g a b ≡ puts w h us k a b
puts-same w h [] g k same a b = same a b
puts-same w h (u ∷ us) g k same a b = puts-same w h us (put w h u g) (put w h u k) (λ c d. rw (same c d) refl) a b

-- a draw after a draw, with a count of its own
draws_both : (r s t : Screen) (n : ℕ) (us vs : List Update) → Draws r us s → Draws s vs (record t { written = n })
    → Draws r (us ++ vs) (record t { written = r.written + length (us ++ vs) })
draws_both r s t n us vs p q = record {
  history = q.history ∙ p.history;
  width = q.width ∙ p.width;
  height = q.height ∙ p.height;
  visible = q.visible ∙ p.visible;
  written = λ few. refl;
  full = λ many. many;
  grid = λ a b.
      let size : puts s.width s.height vs s.grid a b ≡ puts r.width r.height vs s.grid a b = rw (p.width, p.height) refl in
      q.grid a b ∙ size ∙ puts-same r.width r.height vs s.grid (puts r.width r.height us r.grid) p.grid a b
      ∙ ap (λ (g : Grid). g a b) (sym (puts-append r.width r.height us vs r.grid));
}

-- a backend that shows the same is one on which nothing was drawn
pub none_drawn : (old new : PrintedBackend) → shown_on new ≡ shown_on old → HasOnlyDrawn old new
none_drawn old new same = record {
  items = [];
  count = old.written;
  draws = subst (λ (s : Screen). Draws (shown_on old) [] (record s { written = old.written })) (sym same)
      (Draws-none (shown_on old));
  cursor = ap cursor_of same;
}

-- what was only put on its screen was only drawn on it
pub only_drawn : (old new : PrintedBackend) → looks_in new.rows ≡ looks_in old.rows → HasOnlyPut old.screen new.screen
    → HasOnlyDrawn old new
only_drawn old new same only = record {
  items = only.items;
  count = old.written + length only.items;
  draws = subst (λ above. Draws (shown_on old) only.items (below above (old.written + length only.items) (screen_of new.screen)))
      (sym same)
      (draws_below (looks_in old.rows) old.written (old.written + length only.items) only.items (screen_of old.screen)
      (screen_of new.screen) (λ few. refl) (λ many. many) only.draws);
  cursor = only.cursor;
}

-- more was drawn, and then only drawn
pub drawn_further : (old mid new : PrintedBackend) (us : List Update) → Draws (shown_on old) us (shown_on mid)
    → cursor_of (shown_on mid) ≡ cursor_of (shown_on old) → HasOnlyDrawn mid new → HasOnlyDrawn old new
drawn_further old mid new us drawn cursor only = record {
  items = us ++ only.items;
  count = old.written + length (us ++ only.items);
  draws = draws_both (shown_on old) (shown_on mid) (shown_on new) only.count us only.items drawn only.draws;
  cursor = only.cursor ∙ cursor;
}

-- the failure that is counted then
pub counted_drawn : (old mid new : PrintedBackend) → shown_on new ≡ shown_on mid → HasOnlyDrawn old mid → HasOnlyDrawn old new
counted_drawn old mid new same only = record {
  items = only.items;
  count = only.count;
  draws = subst (λ (s : Screen). Draws (shown_on old) only.items (record s { written = only.count })) (sym same) only.draws;
  cursor = ap cursor_of same ∙ only.cursor;
}

map-same : {A : Type 0} (xs : List A) → map (λ x. x) xs ≡ xs
map-same [] = refl
map-same (x ∷ xs) = ap (λ ys. x ∷ ys) (map-same xs)

-- a draw of one item
pub once_drawn : {A T E : Type 0} (view : A → Update) (x : A) (s : Once A) (r : Result T E) (old new : Screen)
    → once_item s ≡ Some x → OnOk r ((xs : List A) × Drains once_steps s xs × Draws old (map view xs) new)
    → OnOk r (Draws old (view x ∷ []) new)
once_drawn view x s r old new is drew =
    on_ok_weaker r (λ e.
    let items = sym (map-same e.0) ∙ items_from_drains {v = λ y. y} e.0 (e.1.1.0, e.1.1.1, λ _. (e.1.0, e.1.1.2))
    (YieldsList-from_once (Some x) is) in
    subst (λ us. Draws old us new) (ap (map view) items) e.2) drew

-- what holds however a call ended
pub on_err : {T E : Type 0} (r : Result T E) {P : Type 0} → P → OnErr r P
on_err (Ok x) p = tt
on_err (Err e) p = p

-- what holds of a call that was Ok
pub ok_holds : {T E : Type 0} (r : Result T E) {P : Type 0} → IsOk r → OnOk r P → P
ok_holds (Ok x) is p = p
ok_holds (Err e) is p = absurd (false≢true is)
