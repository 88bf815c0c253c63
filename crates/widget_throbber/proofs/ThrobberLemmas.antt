-- A symbol, a blank and a label one after the other.
use Rattle.std.proofs.Common.{◌≡◌, ℕ, ◌-◌, List, Option, Some, None, Result, Ok, refl, ap, subst}
use Rattle.std.specs.declared.alloc.AllocError.{AllocError}
use Rattle.ratatui_core.specs.{Layout.Rect, Style.Style, Buffer.BufferData, Buffer.text_pieces, Buffer.columns}
use Rattle.rtui_drawing.specs.{Cuts.cut_from, Drawings.Drawing, Drawings.IsDone, Drawings.put_pieces, Drawings.over}
use Rattle.rtui_drawing.specs.declared.cut.Cut.TheVariants.{After, Rows}
use Rattle.rtui_drawing.proofs.DrawingLemmas.{done-all, done-then, done-in}
use Rattle.widget_throbber.specs.declared.throbber.Throbber.{Throbber}
use Rattle.widget_throbber.specs.Throbbers.{text_then, turned_symbol_drawing, turned_drawing}

-- a text, and then what is drawn after it
pub text-then : {A B : Type 0} (style : Style) (text : List ℕ) (f : ℕ → Drawing) (row rest : Rect) {x : A}
    {old mid new : BufferData} (result : Result B AllocError)
    → IsDone (put_pieces (text_pieces row.width style text)) row (Ok x) old mid
    → rest ≡ cut_from (After (columns (text_pieces row.width style text))) row → IsDone (f rest.width) rest result mid new
    → IsDone (text_then style text f row.width) row result old new
text-then style text f row rest {mid = mid} {new = new} result one at two =
    let n = columns (text_pieces row.width style text) in
    let width : rest.width ≡ row.width - n = ap (λ (r : Rect). r.width) at in
    done-then result one (done-in (After n) rest result (subst (λ n. IsDone (f n) rest result mid new) width two) at)

-- nothing is drawn of no symbol
pub no-symbol : {A : Type 0} (t : Throbber) (o : Option (List ℕ)) (r : Rect) {x : A} {s : BufferData} → o ≡ None
    → IsDone (over (Rows 0 1) (turned_drawing t o r.width)) r (Ok x) s s
no-symbol t o r e = rw e (done-all refl)

-- a symbol in the first row
pub one-symbol : {A : Type 0} (t : Throbber) (o : Option (List ℕ)) (symbol : List ℕ) (r row : Rect) {old new : BufferData}
    (result : Result A AllocError) → o ≡ Some symbol → row ≡ cut_from (Rows 0 1) r
    → IsDone (turned_symbol_drawing t symbol row.width) row result old new
    → IsDone (over (Rows 0 1) (turned_drawing t o r.width)) r result old new
one-symbol t o symbol r row {old = old} {new = new} result e at done =
    let width : row.width ≡ r.width = ap (λ (q : Rect). q.width) at in
    rw e (done-in (Rows 0 1) row result (subst (λ n. IsDone (turned_symbol_drawing t symbol n) row result old new) width done) at)
