-- A page has one frame.
use Rattle.std.proofs.Common.{◌≡◌, ℕ, zero, suc, ◌+◌, ◌-◌, List, [], ◌∷◌, Option, Some, None}
use Rattle.ratatui_core.specs.{Layout.Rect, Buffer.BufferData}
use Rattle.widget_boxes.specs.Titles.{InTurn}
use Rattle.ratatui_app.specs.OneFrame.{MakesOne, HasOneFrame}
use Rattle.ratatui_app.proofs.OneFrameLemmas.{one-pieces, one-nothing, one-on-part, one-frame}
use Rattle.pager.specs.Symbols.{LineSymbol, symbols_in_view, line_symbols}
use Rattle.text_places.specs.Places.{places_after}
use Rattle.pager.specs.Places.{page_place, breaking}
use Rattle.pager.specs.declared.view.View.{View}
use Rattle.text_places.specs.declared.place.Place.{Place}
use Rattle.pager.specs.declared.styles.Run.{Run}
use Rattle.pager.specs.declared.sought.Sought.{Sought}
use Rattle.pager.specs.declared.pager.Pager.{Pager}
use Rattle.pager.specs.declared.pager.Mode.{Mode}
use Rattle.pager.specs.declared.pager.Mode.TheVariants.{Reading, Asking, Filtering, Marking, Returning, Turning, Helping, Following}
use Rattle.pager.specs.Pages.{PaintsSymbols, PaintsLine, PaintsNumberIf, PaintsLineAt, PaintsTextRow, PaintsRowIn}
use Rattle.pager.specs.Pages.{PaintsPageRow, PaintsPageRows, PaintsStatus, PaintsPage, PaintsPager}

-- one thing after the other
one-in-turn : (f g : BufferData → BufferData → Type 0) → MakesOne f → MakesOne g → MakesOne (InTurn f g)
one-in-turn f g first second s t a b same one other =
    second one.between other.between a b (first s t one.between other.between same one.first other.first) one.second other.second

one-symbols : (x y : ℕ) (v : View) (ss : List LineSymbol) → MakesOne (PaintsSymbols x y v ss)
unfolding PaintsSymbols
one-symbols x y v [] = one-nothing
one-symbols x y v (c ∷ ss) = one-in-turn _ _ (one-pieces _ _) (one-symbols x y v ss)

one-line : (x y : ℕ) (v : View) (sought : Sought) (runs : List Run) (line : List ℕ) → MakesOne (PaintsLine x y v sought runs line)
one-line x y v sought runs line = one-symbols x y v (symbols_in_view v (line_symbols sought runs line))

one-number : (beside n x y : ℕ) → MakesOne (PaintsNumberIf beside n x y)
one-number zero n x y = one-nothing
one-number (suc k) zero x y = one-nothing
one-number (suc k) (suc n) x y = one-pieces _ _

one-line-at : (line : Option (List ℕ)) (p : Pager) (q : Place) (r : Rect) (y : ℕ) → MakesOne (PaintsLineAt line p q r y)
one-line-at (Some line) p q r y = one-in-turn _ _ (one-number _ _ _ _) (one-line _ _ _ _ _ line)
one-line-at None p q r y = one-line _ _ _ _ _ _

one-row-in : (m : Mode) (p : Pager) (r : Rect) (k : ℕ) (q : Place) → MakesOne (PaintsRowIn m p r k q)
one-row-in Helping p r k q = one-line _ _ _ _ _ _
one-row-in Reading p r k q = one-line-at _ p q r _
one-row-in Asking p r k q = one-line-at _ p q r _
one-row-in Filtering p r k q = one-line-at _ p q r _
one-row-in Marking p r k q = one-line-at _ p q r _
one-row-in Returning p r k q = one-line-at _ p q r _
one-row-in Turning p r k q = one-line-at _ p q r _
one-row-in Following p r k q = one-line-at _ p q r _

one-rows : (p : Pager) (r : Rect) (k : ℕ) → MakesOne (PaintsPageRows p r k)
unfolding PaintsPageRows
one-rows p r zero = one-nothing
one-rows p r (suc k) =
    one-in-turn _ _ (one-rows p r k) (one-row-in p.mode p r k (places_after (breaking p) k (page_place p)))

one-page : (p : Pager) (r : Rect) → MakesOne (PaintsPage p r)
one-page p r = one-in-turn _ _ (one-rows p r (r.height - 1)) (one-in-turn _ _ (one-pieces _ _) (one-pieces _ _))

pub page-has-one-frame : (p : Pager) → HasOneFrame (PaintsPager p)
page-has-one-frame p =
    one-frame (PaintsPager p) (λ r s t a b same one other.
    one-on-part (PaintsPage p) (one-page p) r s t a b same one.page other.page)
