-- Where an inline viewport goes.
use Rattle.std.proofs.Common.{◌≡◌, ℕ, ◌+◌, refl, ap, ◌∙◌, arith}
use Rattle.std.proofs.lemmas.{Bool.Decides.nat_tests}
use Rattle.rtui_backend.specs.Screen.{Screen, IsOnGrid, Appends, lines_past, rows_above}
use Rattle.rtui_backend.proofs.ScrollLemmas.{above_kept}
use Rattle.rtui_viewport.specs.Placing.{lines_below, inline_top, inline_area, rows_left, PlacesInline}

-- the lines that scroll and the top are together the rows that are left
top_is : (n o : ℕ) (s : Screen) → IsOnGrid s
    → lines_past s (lines_below n o) + inline_top n s.height o s.cursor_y ≡ rows_left n o s
top_is n o s on = grind (arith, nat_tests, on.cursor_y)

pub places_inline : (n o : ℕ) (s t : Screen) → IsOnGrid s → Appends s (lines_below n o) t
    → PlacesInline n o s (inline_area n s.width s.height o s.cursor_y) t
places_inline n o s t on p = record {
  area = refl;
  on_screen = record {
    right = omega (arith, p.scrolled.width);
    bottom = let row = on.cursor_y in let height = p.scrolled.height in omega arith;
  };
  above = above_kept p.scrolled (inline_top n s.height o s.cursor_y) ∙ ap (rows_above s) (top_is n o s on);
}
