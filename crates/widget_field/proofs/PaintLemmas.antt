-- Texts painted in a row, one after the other.
use Rattle.std.proofs.Common.{◌≡◌, ℕ, ◌+◌, ◌≤◌, List, ap, subst, sym, ◌∙◌, true, false, None}
use Rattle.ratatui_core.specs.{Layout.Rect, Style.Style}
use Rattle.ratatui_core.specs.Buffer.{BufferData, PaintsPieces, AreShort, columns, pieces_at, room_at, text_pieces, position_of}
use Rattle.ratatui_core.proofs.{BufferLemmas.within-same, WidgetLemmas.within-then}
use Rattle.widget_boxes.proofs.PaintLemmas.{room-is}
use Rattle.text_field.specs.Field.{FieldData, field_text}
use Rattle.widget_field.specs.declared.input.Input.{Input}
use Rattle.widget_field.specs.Fields.{IsShortIn, hidden, if_none, masked, style_behind, text_behind}

-- a text painted in columns that its row has
pub text-painted : (x y m n : ℕ) (style : Style) (text : List ℕ) (old new : BufferData) → m ≡ n
    → x + n ≤ old.area.x + old.area.width → n ≤ 65535
    → PaintsPieces (position_of (x, y)) (pieces_at old.area x m style text) old new
    → PaintsPieces (position_of (x, y)) (text_pieces n style text) old new
text-painted x y m n style text old new same fits small paints =
    subst (λ k. PaintsPieces (position_of (x, y)) (text_pieces k style text) old new) (ap (room_at old.area x) same
    ∙ room-is old.area x n fits small) paints

text-columns : (own : Rect) (x m n : ℕ) (style : Style) (text : List ℕ) → m ≡ n → x + n ≤ own.x + own.width → n ≤ 65535
    → columns (pieces_at own x m style text) ≡ columns (text_pieces n style text)
text-columns own x m n style text same fits small = ap (λ k. columns (text_pieces k style text)) (ap (room_at own x) same
    ∙ room-is own x n fits small)

-- the column after it
pub text-end : (own : Rect) (x m n end : ℕ) (style : Style) (text : List ℕ) → end ≡ x + columns (pieces_at own x m style text)
    → m ≡ n → x + n ≤ own.x + own.width → n ≤ 65535 → end ≡ x + columns (text_pieces n style text)
text-end own x m n end style text place same fits small =
    place ∙ ap (λ k. x + k) (text-columns own x m n style text same fits small)

-- and short pieces of it
pub pieces-short : (own : Rect) (x m n : ℕ) (style : Style) (text : List ℕ) → m ≡ n → x + n ≤ own.x + own.width → n ≤ 65535
    → AreShort (text_pieces n style text) → AreShort (pieces_at own x m style text)
pieces-short own x m n style text same fits small short =
    subst (λ k. AreShort (text_pieces k style text)) (sym (ap (room_at own x) same ∙ room-is own x n fits small)) short

pub never : {P : Type 0} → false ≡ true → P
never e = cc

-- what is after the cursor takes no memory where nothing is masked
pub short-behind : (input : Input) (f : FieldData) (style : Style) (text after : List ℕ) → input.mask ≡ None
    → style ≡ style_behind input f → text ≡ if_none (field_text f) input.placeholder.now after → after ≡ f.after
    → IsShortIn (style_behind input f) (text_behind input f) → IsShortIn style text
short-behind input f style text after none style_is text_is after_is short =
    let same : text ≡ text_behind input f =
    text_is ∙ ap (if_none (field_text f) input.placeholder.now) (after_is ∙ sym (ap (λ m. masked m f.after) none)) in
    subst (λ s. IsShortIn s text) (sym style_is) (subst (IsShortIn (style_behind input f)) (sym same) short)

-- a field whose view begins where it did, and whose cursor stands nowhere
pub hidden-by : (f g : FieldData) (first : ℕ) → first ≡ f.first
    → g ≡ (let h : FieldData = record f { first = first; place = None } in h) → g ≡ hidden f
hidden-by f g first same is = is ∙ ap (λ n. let h : FieldData = record f { first = n; place = None } in h) same

pub ruleset within_steps = (within-same, within-then)
