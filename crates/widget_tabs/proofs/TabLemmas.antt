-- Parts of tabs drawn one after the other in a row.
use Rattle.std.proofs.Common.{◌≡◌, ℕ, ◌+◌, ◌-◌, ◌<◌, ◌≤◌, nat_lt, min, true, false, [], ◌∷◌, length, drop, refl, sym, ap, ◌∙◌, arith}
use Rattle.std.proofs.Common.{Bool, List, Result, Ok, Err, IfOk}
use Rattle.std.specs.Result.{IsErr}
use Rattle.std.specs.declared.alloc.AllocError.{AllocError}
use Rattle.std.proofs.Math.ListN.{get_or}
use Rattle.std.proofs.lemmas.{Bool.Decides.nat_tests, List.drop_more}
use Rattle.ratatui_core.specs.{Layout.Rect, Style.Style, Text.LineData}
use Rattle.ratatui_core.specs.Buffer.{BufferData, line_pieces}
use Rattle.rtui_drawing.specs.Cuts.{cut_from}
use Rattle.rtui_drawing.specs.declared.cut.Cut.TheVariants.{After}
use Rattle.rtui_drawing.specs.Drawings.{nothing, put_pieces, over, ◌before◌, DrawsAll, IsDone, IsRowIn}
use Rattle.rtui_drawing.proofs.DrawingLemmas.{draws-within, done-err, done-in, done-then, done-stop}
use Rattle.rtui_drawing.proofs.WriteLemmas.{row-after}
use Rattle.widget_tabs.specs.declared.tabs.Tabs.{Tabs as TabsData}
use Rattle.widget_tabs.specs.Tabs.{TabPart, line_part, ◌beside◌, columns_of_part, drawing_of_part, tab_part, tabs_from}
use Rattle.widget_tabs.specs.Inner.{DrawsPart}

-- after so many columns, and after so many more
after-after : (m n : ℕ) (r : Rect) → cut_from (After n) (cut_from (After m) r) ≡ cut_from (After (m + n)) r
after-after m n r =
    let x : min (min (r.x + m) 65535 + n) 65535 ≡ min (r.x + (m + n)) 65535 = omega arith in
    let w : r.width - m - n ≡ r.width - (m + n) = omega arith in
    rw (x, w) refl

-- one part after another, or memory is refused for one of them
pub part_then : {highlight : Style} {a b : TabPart} {row rest : Rect} {old mid new : BufferData} (r : Result Rect AllocError)
    → DrawsPart highlight a row (Ok rest) old mid → DrawsPart highlight b rest r mid new
    → DrawsPart highlight (a beside b) row r old new
part_then {a = a} {b = b} {row = row} r first second =
    let n = columns_of_part a row.width in
    let at = first.rest in
    record {
      done = done-then r first.done (done-in (After n) (cut_from (After n) row) r (rw at at second.done) refl);
      rest = rests r (rw at at second.rest);
      left = second.left;
    }
  where
    rests : (r : Result Rect AllocError)
        → IfOk r (λ q. q ≡ cut_from (After (columns_of_part b (row.width - columns_of_part a row.width)))
        (cut_from (After (columns_of_part a row.width)) row))
        → IfOk r (λ q. q ≡ cut_from (After (columns_of_part (a beside b) row.width)) row)
    rests (Ok q) is = is ∙ after-after (columns_of_part a row.width) _ row
    rests (Err e) is = tt

pub part_stop : {highlight : Style} {a b : TabPart} {row : Rect} {e : AllocError} {old new : BufferData}
    (r : Result Rect AllocError) → IsErr r → DrawsPart highlight a row (Err e) old new
    → DrawsPart highlight (a beside b) row r old new
part_stop (Ok x) err first = let no : false ≡ true = err in absurd (cc)
part_stop (Err e) err first = record { done = done-stop (Err e) err first.done; rest = tt; left = tt }

pub ruleset tab_steps = (part_then, part_stop)

-- a part is refused memory
pub part-refused : {A : Type 0} {highlight : Style} {part : TabPart} {row : Rect} {e : AllocError} {old new : BufferData}
    (r : Result Rect AllocError) → IsErr r → IsDone {A = A} (drawing_of_part highlight part row.width) row (Err e) old new
    → DrawsPart highlight part row r old new
part-refused (Ok x) err is = let no : false ≡ true = err in absurd (cc)
part-refused (Err f) err is = record { done = done-err (Err f) refl is; rest = tt; left = tt }

pub line-refused : {A : Type 0} {highlight : Style} {line : LineData} {is_lit : Bool} {row : Rect} {e : AllocError}
    {old new : BufferData} (r : Result Rect AllocError) → IsErr r
    → IsDone {A = A} (put_pieces (line_pieces row.width line.style line.spans)) row (Err e) old new
    → DrawsPart highlight (line_part line is_lit) row r old new
line-refused (Ok x) err is = let no : false ≡ true = err in absurd (cc)
line-refused (Err f) err is = record { done = done-stop (Err f) refl is; rest = tt; left = tt }

-- a part is drawn that takes so many columns; what is left of a row of a buffer is one
pub part-drawn : (highlight : Style) (part : TabPart) (row rest : Rect) (n : ℕ) (old new : BufferData) → IsRowIn old.area row
    → n ≤ row.width → rest ≡ cut_from (After n) row → n ≡ columns_of_part part row.width
    → DrawsAll (drawing_of_part highlight part row.width) row old new → DrawsPart highlight part row (Ok rest) old new
part-drawn highlight part row rest n old new is le at columns made = record {
  done = record { ok = made; err = tt };
  rest = at ∙ ap (λ n. cut_from (After n) row) columns;
  left = rw (at, (draws-within (drawing_of_part highlight part row.width) row old new made).same_area)
      (row-after old.area row n le is);
}

-- the titles from one on
pub title-next : (t : TabsData) (room k : ℕ) (title : LineData) → k < length t.titles.items
    → title ≡ get_or t.titles.items k title → 1 ≤ room
    → tabs_from t room k (drop k t.titles.items) ≡ (drawing_of_part t.highlight_style (tab_part t k title) room
    before over (After (columns_of_part (tab_part t k title) room)) (tabs_from t
    (room - columns_of_part (tab_part t k title) room) (k + 1) (drop (k + 1) t.titles.items)))
title-next t room k title lt is some =
    let test : nat_lt 0 room ≡ true = grind (arith, nat_tests) in
    let lines = drop_more t.titles.items k title lt ∙ ap (λ l. l ∷ drop (k + 1) t.titles.items) (sym is) in
    rw (lines, test) refl

-- nothing is left without columns
pub tabs-end : (t : TabsData) (room k : ℕ) (lines : List LineData) → room ≡ 0 → tabs_from t room k lines ≡ nothing
tabs-end t room k [] none = refl
tabs-end t room k (line ∷ lines) none = let test : nat_lt 0 room ≡ false = grind (arith, nat_tests) in rw test refl
