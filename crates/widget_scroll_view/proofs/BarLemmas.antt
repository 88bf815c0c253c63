-- A new bar takes no memory.
use Rattle.std.proofs.Common.{◌≡◌, true, false, List, ℕ, [], ◌∷◌, Bool, if◌then◌else◌, nat_lt, max, Option, Some, None, lit<, length, refl, sym, subst, arith}
use Rattle.std.proofs.Common.{Result, Ok, Err, IsOk, OnOk}
use Rattle.std.specs.{Char.encode_utf8, Borrow.Bor}
use Rattle.std.proofs.lemmas.List.Elements.{All-nil, All-cons}
use Rattle.ratatui_core.specs.Layout.{Rect}
use Rattle.ratatui_core.specs.Symbols.{scrollbar_texts}
use Rattle.ratatui_core.specs.Buffer.{BufferData, IsShort}
use Rattle.widget_scrollbar.specs.{declared.scrollbar.Scrollbar.Scrollbar}
use Rattle.widget_scrollbar.specs.{declared.scrollbar.state.ScrollbarState.ScrollbarState}
use Rattle.widget_scrollbar.specs.{declared.scrollbar.ScrollbarOrientation.ScrollbarOrientation}
use Rattle.widget_scrollbar.specs.Scrollbars.{texts_for, is_upright, IsNewScrollbar, RendersScrollbar, IfSymbol, EachSymbol}
use Rattle.widget_scroll_view.specs.ScrollViews.{PaintsBar, with_track}

abbrev AreOfThree : List (List ℕ) → Type 0
AreOfThree [] = Unit {0}
AreOfThree (t ∷ ts) = (length t ≡ 3) × AreOfThree ts

short-three : (t : List ℕ) → length t ≡ 3 → IsShort t
short-three t e = omega arith

-- the symbols of a new bar have three bytes each
double-three : (t : Bool) (o : ScrollbarOrientation) → is_upright o ≡ t → AreOfThree (texts_for o)
unfolding encode_utf8
double-three true o e = rw e (refl, (refl, (refl, (refl, tt))))
double-three false o e = rw e (refl, (refl, (refl, (refl, tt))))

new-short : (o : ScrollbarOrientation) (b : Scrollbar) → IsNewScrollbar o b → EachSymbol IsShort b
new-short o b is =
    let texts : AreOfThree (scrollbar_texts is.set) = subst AreOfThree (sym is.is_set) (double-three (is_upright o) o refl) in
    let P : Option (Bor (List ℕ)) → Type 0 = IfSymbol IsShort in
    let thumb : P (Some b.thumb_symbol) = rw is.thumb (short-three is.set.thumb.now texts.1.0) in
    let track : P b.track_symbol = rw is.track (short-three is.set.track.now texts.0) in
    let begin : P b.begin_symbol = rw is.begin (short-three is.set.begin.now texts.1.1.0) in
    let end : P b.end_symbol = rw is.end (short-three is.set.end.now texts.1.1.1.0) in
    All-cons P (Some b.thumb_symbol) (b.track_symbol ∷ b.begin_symbol ∷ b.end_symbol ∷ []) thumb
    (All-cons P b.track_symbol (b.begin_symbol ∷ b.end_symbol ∷ []) track
    (All-cons P b.begin_symbol (b.end_symbol ∷ []) begin (All-cons P b.end_symbol [] end (All-nil P))))

-- what holds of no symbol and of each of a bar's holds of each without arrows
pub with_track-each : (P : List ℕ → Type 0) (area : Rect) (b : Scrollbar) → EachSymbol P b → EachSymbol P (with_track area b)
with_track-each P area b all = each-if (nat_lt 2 (max area.width area.height))
  where
    bare : EachSymbol P (record b { begin_symbol = None; end_symbol = None })
    bare =
        All-cons (IfSymbol P) (Some b.thumb_symbol) (b.track_symbol ∷ None ∷ None ∷ []) (all 0 None (lit< tt))
        (All-cons (IfSymbol P) b.track_symbol (None ∷ None ∷ []) (all 1 None (lit< tt))
        (All-cons (IfSymbol P) None (None ∷ []) tt (All-cons (IfSymbol P) None [] tt (All-nil (IfSymbol P)))))

    each-if : (t : Bool) → EachSymbol P (if t then b else record b { begin_symbol = None; end_symbol = None })
    each-if true = all
    each-if false = bare

pub bar-short : (o : ScrollbarOrientation) (area : Rect) (b made : Scrollbar) → IsNewScrollbar o b → made ≡ with_track area b
    → EachSymbol IsShort made
bar-short o area b made is e = subst (EachSymbol IsShort) (sym e) (with_track-each IsShort area b (new-short o b is))

pub bar-painted : {A E : Type 0} (r : Result A E) (o : ScrollbarOrientation) (b : Scrollbar) (s t : ScrollbarState) (area : Rect)
    (old new : BufferData) → IsOk r → IsNewScrollbar o b → OnOk r (RendersScrollbar (with_track area b) s t area old new)
    → PaintsBar o s area old new
bar-painted (Ok x) o b s t area old new ok is_new is = record {
  bar = b;
  is_new = is_new;
  painted = subst (λ u. RendersScrollbar (with_track area b) s u area old new) is.state is;
}
bar-painted (Err e) o b s t area old new ok is_new is = let no : false ≡ true = ok in absurd (cc)
