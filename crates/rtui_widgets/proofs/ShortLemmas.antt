-- A short text puts no more into a column than its own bytes.
use Rattle.std.proofs.Common.{◌≡◌, ℕ, ◌+◌, ◌-◌, ◌≤◌, Bool, true, false, cond, List, [], ◌∷◌, length, length-append, filter, ap}
use Rattle.std.proofs.Common.{arith, ◌==◌, nat_le, not}
use Rattle.std.specs.{List.concat, Str.IsUtf8}
use Rattle.std.proofs.lemmas.Bool.{cond_both}
use Rattle.unicode_segmentation.specs.Grapheme.{graphemes}
use Rattle.unicode_segmentation.proofs.SegmentsLemmas.{concat-segments}
use Rattle.rtui_cell.specs.Width.{text_width}
use Rattle.rtui_text.specs.Graphemes.{has_control}
use Rattle.rtui_buffer.specs.Painting.{fitting}
use Rattle.rtui_widgets.specs.Span.{goes_to, those_at, showing, IsShortSpan}

with-or-without : (b : Bool) (g : List ℕ) (us gs : List (List ℕ)) → length (concat us) ≤ length (concat gs)
    → length (concat (cond b (g ∷ us) us)) ≤ length (concat (g ∷ gs))
with-or-without true g us gs le = let a = length-append g (concat us) in let b = length-append g (concat gs) in omega arith
with-or-without false g us gs le = let b = length-append g (concat gs) in omega arith

those-no_longer : (k x : ℕ) (gs : List (List ℕ)) → length (concat (those_at k x gs)) ≤ length (concat gs)
unfolding those_at
those-no_longer k x [] = omega arith
those-no_longer k x (g ∷ gs) = with-or-without (goes_to x g == k) g (those_at k (x + text_width g) gs) gs
    (those-no_longer k (x + text_width g) gs)

fitting-no_longer : (room : ℕ) (gs : List (List ℕ)) → length (concat (fitting room gs)) ≤ length (concat gs)
unfolding fitting
fitting-no_longer room [] = omega arith
fitting-no_longer room (g ∷ gs) = cond_both (nat_le (text_width g) room) (g ∷ fitting (room - text_width g) gs) []
    (λ us. length (concat us) ≤ length (concat (g ∷ gs)))
    (λ _. with-or-without true g (fitting (room - text_width g) gs) gs (fitting-no_longer (room - text_width g) gs))
    (λ _. omega arith)

plain-no_longer : (gs : List (List ℕ)) → length (concat (filter (λ g. not (has_control g)) gs)) ≤ length (concat gs)
plain-no_longer [] = omega arith
plain-no_longer (g ∷ gs) = with-or-without (not (has_control g)) g (filter (λ h. not (has_control h)) gs) gs (plain-no_longer gs)

pub short-text : (columns : ℕ) (text : List ℕ) → IsUtf8 text → length text ≤ 22 → IsShortSpan columns text
unfolding showing
short-text columns text utf8 short k k_in =
    let whole : length (concat (graphemes true text)) ≡ length text = ap length (concat-segments _ _ utf8) in
    let plain = plain-no_longer (graphemes true text) in
    let fits = fitting-no_longer columns (filter (λ g. not (has_control g)) (graphemes true text)) in
    let those = those-no_longer k 0 (fitting columns (filter (λ g. not (has_control g)) (graphemes true text))) in
    omega arith
