-- Each quadrant, sextant and octant takes at most one column.
use Rattle.std.proofs.Common.{◌≡◌, ℕ, zero, suc, ◌%◌, ◌<◌, ◌≤◌, Bool, true, ◌&&◌, nat_le, List, [], ◌∷◌, length, arith}
use Rattle.std.proofs.Common.{refl, slice_index}
use Rattle.std.specs.{Char.encode_utf8}
use Rattle.std.proofs.lemmas.{Bool.and_parts, Bool.Decides.nat_tests}
use Rattle.unicode_width.proofs.Computing.{unicode_width}
use Rattle.ratatui_core.specs.declared.symbols.Marker.TheVariants.{Quadrant, Sextant, Octant}
use Rattle.ratatui_core.specs.Buffer.{text_width}
use Rattle.widget_canvas.specs.declared.shown.TheConstants.{QUADRANTS, SEXTANTS, OCTANTS}
use Rattle.widget_canvas.specs.Canvases.{HasNarrowDots}
use Rattle.widget_canvas.proofs.RunLemmas.{all_run, from-runs}

abbrev are_narrow : List ℕ → Bool
are_narrow [] = true
are_narrow (c ∷ cs) = nat_le (text_width (encode_utf8 c)) 1 && are_narrow cs

quadrants : are_narrow QUADRANTS ≡ true
unfolding encode_utf8 text_width unicode_width
quadrants = refl

sextants : are_narrow SEXTANTS ≡ true
unfolding encode_utf8 text_width unicode_width
sextants = refl

abbrev is_narrow_octant : ℕ → Bool
is_narrow_octant n = nat_le (text_width (encode_utf8 (slice_index OCTANTS n))) 1

run-0 : all_run is_narrow_octant 0 32 ≡ true
unfolding encode_utf8 text_width unicode_width
run-0 = refl

run-1 : all_run is_narrow_octant 32 32 ≡ true
unfolding encode_utf8 text_width unicode_width
run-1 = refl

run-2 : all_run is_narrow_octant 64 32 ≡ true
unfolding encode_utf8 text_width unicode_width
run-2 = refl

run-3 : all_run is_narrow_octant 96 32 ≡ true
unfolding encode_utf8 text_width unicode_width
run-3 = refl

run-4 : all_run is_narrow_octant 128 32 ≡ true
unfolding encode_utf8 text_width unicode_width
run-4 = refl

run-5 : all_run is_narrow_octant 160 32 ≡ true
unfolding encode_utf8 text_width unicode_width
run-5 = refl

run-6 : all_run is_narrow_octant 192 32 ≡ true
unfolding encode_utf8 text_width unicode_width
run-6 = refl

run-7 : all_run is_narrow_octant 224 32 ≡ true
unfolding encode_utf8 text_width unicode_width
run-7 = refl

-- what holds of all holds of each
nth-narrow : (cs : List ℕ) (i : ℕ) → are_narrow cs ≡ true → i < length cs → text_width (encode_utf8 (slice_index cs i)) ≤ 1
nth-narrow [] i all lt = absurd (omega arith)
nth-narrow (c ∷ cs) zero all lt =
    let e : nat_le (text_width (encode_utf8 c)) 1 ≡ true = (and_parts _ _ all).0 in grind (arith, nat_tests, e)
nth-narrow (c ∷ cs) (suc i) all lt = nth-narrow cs i (and_parts _ _ all).1 (omega arith)

pub quadrants-narrow : HasNarrowDots Quadrant
quadrants-narrow d lt = nth-narrow QUADRANTS (d.pattern % 16) quadrants (omega arith)

pub sextants-narrow : HasNarrowDots Sextant
sextants-narrow d lt = nth-narrow SEXTANTS (d.pattern % 64) sextants (omega arith)

pub octants-narrow : HasNarrowDots Octant
octants-narrow d lt =
    let e : is_narrow_octant d.pattern ≡ true =
    from-runs is_narrow_octant run-0 run-1 run-2 run-3 run-4 run-5 run-6 run-7 d.pattern lt in grind (arith, nat_tests, e)
