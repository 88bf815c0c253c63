-- Throbbers of narrow texts keep cells plain.
use Rattle.std.proofs.Common.{ℕ, zero, suc, ◌≤◌, List, [], ◌∷◌, All, IfSome, Option, Some, None, arith, codes}
use Rattle.std.proofs.Common.{slice_get}
use Rattle.std.proofs.lemmas.{List.Elements.All-head, List.Elements.All-tail}
use Rattle.ratatui_core.specs.{Layout.Rect, Layout.intersected, Buffer.BufferData, Buffer.IsPlainFrom}
use Rattle.ratatui_core.specs.{Style.Style}
use Rattle.ratatui_core.specs.Text.{SpanData, ArePrintable, EachGrapheme, TakesOneColumn}
use Rattle.rtui_drawing.specs.Drawings.{Drawing}
use Rattle.rtui_drawing.proofs.{Laws.IsNarrowDrawing, NarrowLemmas.text-narrow}
use Rattle.widget_boxes.specs.Framed.{inner_if}
use Rattle.rtui_inside.proofs.InsideLemmas.{state-plain, inner-columns}
use Rattle.widget_throbber.specs.declared.set.{Set.Set, WhichUse.WhichUse}
use Rattle.widget_throbber.specs.declared.set.WhichUse.TheVariants.{Full, Empty, Spin}
use Rattle.widget_throbber.specs.declared.state.ThrobberState.{ThrobberState}
use Rattle.widget_throbber.specs.declared.throbber.Throbber.{Throbber}
use Rattle.widget_throbber.specs.Sets.{turned_symbol, symbol_number, texts_of_set, turning_texts}
use Rattle.widget_throbber.specs.Throbbers.{text_then, label_drawing, turned_drawing, throbber_drawing, RendersThrobber}
use Rattle.widget_throbber.specs.Throbbers.{HasNarrowThrobber}

-- a blank is printable
pub blank-printable : ArePrintable (codes " ")
blank-printable zero lt = record { low = omega arith; high = omega arith }
blank-printable (suc k) lt = absurd (omega arith)

abbrev IsNarrow : List ℕ → Type 0
IsNarrow text = EachGrapheme TakesOneColumn text

nth-narrow : (texts : List (List ℕ)) (k : ℕ) → All IsNarrow texts → IfSome (slice_get texts k) IsNarrow
nth-narrow [] k all = tt
nth-narrow (text ∷ texts) zero all = All-head IsNarrow text texts all
nth-narrow (text ∷ texts) (suc k) all = nth-narrow texts k (All-tail IsNarrow text texts all)

-- the symbol that stands is one of the set's
symbol-narrow : (set : Set) (use_type : WhichUse) (i : _) → All IsNarrow (texts_of_set set)
    → IfSome (turned_symbol set use_type i) IsNarrow
symbol-narrow set Full i all = All-head IsNarrow set.full.now (set.empty.now ∷ turning_texts set) all
symbol-narrow set Empty i all = All-head IsNarrow set.empty.now (turning_texts set)
    (All-tail IsNarrow set.full.now (set.empty.now ∷ turning_texts set) all)
symbol-narrow set Spin i all = nth-narrow (turning_texts set) (symbol_number i _)
    (All-tail IsNarrow set.empty.now (turning_texts set) (All-tail IsNarrow set.full.now (set.empty.now ∷ turning_texts set) all))

text-then-narrow : (style : Style) (text : List ℕ) (f : ℕ → Drawing) (room : ℕ) → room ≤ 65535 → IsNarrow text
    → ((left : ℕ) → left ≤ 65535 → IsNarrowDrawing (f left)) → IsNarrowDrawing (text_then style text f room)
text-then-narrow style text f room le narrow rest = (text-narrow room style text le narrow, rest _ (omega arith))

label-narrow : (label : Option SpanData) (room : ℕ) → room ≤ 65535 → IfSome label (λ label. IsNarrow label.content)
    → IsNarrowDrawing (label_drawing label room)
label-narrow None room le narrow = tt
label-narrow (Some label) room le narrow = text-narrow room label.style label.content le narrow

turned-narrow : IsNarrow (codes " ") → (t : Throbber) (o : Option (List ℕ)) (room : ℕ) → room ≤ 65535
    → IfSome t.label (λ label. IsNarrow label.content) → IfSome o IsNarrow → IsNarrowDrawing (turned_drawing t o room)
turned-narrow blank t None room le label narrow = tt
turned-narrow blank t (Some symbol) room le label narrow =
    text-then-narrow t.throbber_style symbol (text_then t.throbber_style (codes " ") (label_drawing t.label)) room le narrow
    (λ left fits. text-then-narrow t.throbber_style (codes " ") (label_drawing t.label) left fits blank
    (λ last few. label-narrow t.label last few label))

pub throbber-plain : IsNarrow (codes " ") → (t : Throbber) (s s' : ThrobberState) (area : Rect) (old new : BufferData)
    → HasNarrowThrobber t → IsPlainFrom 0 old → RendersThrobber t s s' area old new → IsPlainFrom 0 new
throbber-plain blank t s s' area old new narrow plain =
    let r = inner_if None (intersected area old.area) in
    state-plain t.style None area old new tt plain (throbber_drawing t) (λ s _. s) s s'
    (turned-narrow blank t (turned_symbol t.throbber_set t.use_type s.index) r.width (inner-columns None area old.area) narrow.label
    (symbol-narrow t.throbber_set t.use_type s.index narrow.symbols))
