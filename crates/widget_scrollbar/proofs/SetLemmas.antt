-- The symbols of the sets of scroll bars take one column each.
use Rattle.std.proofs.Common.{◌≡◌, true, false, List, ℕ, [], ◌∷◌, All, Bool, Option, Some, None, refl, sym, subst}
use Rattle.std.specs.{Char.encode_utf8, Str.chars, Borrow.Bor}
use Rattle.std.proofs.lemmas.List.Elements.{All-nil, All-cons, All-weaker}
use Rattle.unicode_segmentation.specs.Grapheme.{graphemes, is_grapheme_break}
use Rattle.unicode_segmentation.specs.Segments.{segments, cut}
use Rattle.unicode_width.proofs.Computing.{unicode_width}
use Rattle.ratatui_core.specs.Buffer.{text_width}
use Rattle.ratatui_core.specs.{Text.has_control, Text.EachGrapheme, Text.TakesOneColumn}
use Rattle.ratatui_core.specs.{Symbols.scrollbar_sets, Symbols.scrollbar_texts}
use Rattle.widget_scrollbar.specs.{declared.scrollbar.Scrollbar.Scrollbar}
use Rattle.widget_scrollbar.specs.{declared.scrollbar.ScrollbarOrientation.ScrollbarOrientation}
use Rattle.widget_scrollbar.specs.Scrollbars.{texts_for, is_upright, IsNewScrollbar, IsOneColumn, IfSymbol, EachSymbol}
use Rattle.widget_scrollbar.specs.Scrollbars.{bar_symbols}

abbrev one : (t : List ℕ) → graphemes true t ≡ t ∷ [] → has_control t ≡ false → text_width t ≡ 1 → IsOneColumn t
one t a b c = record { one = a; shows = b; columns = c }

abbrev AreOne : List (List ℕ) → Type 0
AreOne [] = Unit {0}
AreOne (t ∷ ts) = IsOneColumn t × AreOne ts

all-one : (ts : List (List ℕ)) → AreOne ts → All IsOneColumn ts
all-one [] is = All-nil IsOneColumn
all-one (t ∷ ts) is = All-cons IsOneColumn t ts is.0 (all-one ts is.1)

abbrev AreSetsOne : List (List (List ℕ)) → Type 0
AreSetsOne [] = Unit {0}
AreSetsOne (ts ∷ tss) = AreOne ts × AreSetsOne tss

sets-one : (tss : List (List (List ℕ))) → AreSetsOne tss → All (All IsOneColumn) tss
sets-one [] is = All-nil (All IsOneColumn)
sets-one (ts ∷ tss) is = All-cons (All IsOneColumn) ts tss (all-one ts is.0) (sets-one tss is.1)

bar-sets : AreSetsOne scrollbar_sets
unfolding segments cut is_grapheme_break chars text_width unicode_width encode_utf8
bar-sets = (
  (one _ refl refl refl, (one _ refl refl refl, (one _ refl refl refl, (one _ refl refl refl, tt)))),
  (
    (one _ refl refl refl, (one _ refl refl refl, (one _ refl refl refl, (one _ refl refl refl, tt)))),
    (
      (one _ refl refl refl, (one _ refl refl refl, (one _ refl refl refl, (one _ refl refl refl, tt)))),
      ((one _ refl refl refl, (one _ refl refl refl, (one _ refl refl refl, (one _ refl refl refl, tt)))), tt),
    ),
  ),
)

pub sets-take-one : All (All IsOneColumn) scrollbar_sets
sets-take-one = sets-one scrollbar_sets bar-sets

-- those of double lines, and so of a new bar
double-one : (t : Bool) (o : ScrollbarOrientation) → is_upright o ≡ t → AreOne (texts_for o)
unfolding segments cut is_grapheme_break chars text_width unicode_width encode_utf8
double-one true o e =
    rw e (one _ refl refl refl, (one _ refl refl refl, (one _ refl refl refl, (one _ refl refl refl, tt))))
double-one false o e =
    rw e (one _ refl refl refl, (one _ refl refl refl, (one _ refl refl refl, (one _ refl refl refl, tt))))

pub new-takes-one : (o : ScrollbarOrientation) (b : Scrollbar) → IsNewScrollbar o b → EachSymbol IsOneColumn b
new-takes-one o b is =
    let texts : AreOne (scrollbar_texts is.set) = subst AreOne (sym is.is_set) (double-one (is_upright o) o refl) in
    let P : Option (Bor (List ℕ)) → Type 0 = IfSymbol IsOneColumn in
    let thumb : P (Some b.thumb_symbol) = rw is.thumb texts.1.0 in
    let track : P b.track_symbol = rw is.track texts.0 in
    let begin : P b.begin_symbol = rw is.begin texts.1.1.0 in
    let end : P b.end_symbol = rw is.end texts.1.1.1.0 in
    All-cons P (Some b.thumb_symbol) (b.track_symbol ∷ b.begin_symbol ∷ b.end_symbol ∷ []) thumb
    (All-cons P b.track_symbol (b.begin_symbol ∷ b.end_symbol ∷ []) track
    (All-cons P b.begin_symbol (b.end_symbol ∷ []) begin (All-cons P b.end_symbol [] end (All-nil P))))

-- a symbol of one column has one grapheme, of one column
one-grapheme : (o : Option (Bor (List ℕ))) → IfSymbol IsOneColumn o → IfSymbol (EachGrapheme TakesOneColumn) o
one-grapheme None is = tt
one-grapheme (Some symbol) is =
    subst (All TakesOneColumn) (sym is.one)
    (All-cons TakesOneColumn symbol.now [] (λ shows. is.columns) (All-nil TakesOneColumn))

pub one-graphemes : (b : Scrollbar) → EachSymbol IsOneColumn b → EachSymbol (EachGrapheme TakesOneColumn) b
one-graphemes b all = All-weaker (IfSymbol IsOneColumn) (IfSymbol (EachGrapheme TakesOneColumn)) one-grapheme (bar_symbols b) all
