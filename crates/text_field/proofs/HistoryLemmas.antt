-- Histories of fields.
use Rattle.std.proofs.Common.{◌≡◌, ◌-◌, ◌<◌, false, if◌then◌else◌, List, [], ◌∷◌, ◌++◌, length, drop, sym, ap}
use Rattle.std.proofs.Common.{◌∙◌, ◌+◌, ap₂, arith, reverse, length-append, Result, Ok, Err, OnOk, bytes_eq}
use Rattle.std.proofs.lemmas.List.{append_cancel_right, reverse-append, drop-append-le}
use Rattle.std.proofs.lemmas.Slice.Eq.{bytes_eq-Decides}
use Rattle.std.specs.declared.alloc.AllocError.{AllocError}
use Rattle.text_field.specs.Field.{FieldData, field_text}
use Rattle.text_field.specs.Keys.{edited}
use Rattle.text_field.specs.declared.keys.Edit.{Edit}
use Rattle.text_field.specs.History.{CursorText, HistoryData, IsUndone, IsRedone, history_of, cursor_text, with_cursor_text, remembering, after_edit}
use Rattle.text_field.proofs.LawLemmas.{text-left, text-right}

pub ruleset move_rules = (text-left, text-right)

-- a field with the same text leaves its history
pub after-same : (f g : FieldData) (h : HistoryData) → field_text g ≡ field_text f → after_edit f g h ≡ h
after-same f g h same =
    ap (λ b. if b then h else remembering (cursor_text f) h) ((bytes_eq-Decides (field_text f) (field_text g)).1 (sym same))

pub after-move : {A : Type 0} (r : Result A AllocError) (edit : Edit) (f g : FieldData) (h : HistoryData)
    → ((k : FieldData) → field_text (edited edit k) ≡ field_text k) → OnOk r (g ≡ edited edit f) → OnOk r (h ≡ after_edit f g h)
after-move (Ok x) edit f g h keeps is = sym (after-same f g h (ap (λ (k : FieldData). field_text k) is ∙ keeps f))
after-move (Err e) edit f g h keeps is = tt

-- the first of these
abbrev front : CursorText → List CursorText → CursorText
front d [] = d
front d (x ∷ xs) = x

-- the last of two lists that are the same
pub last-same : (xs ys : List CursorText) (x y : CursorText) → xs ++ x ∷ [] ≡ ys ++ y ∷ [] → x ≡ y
last-same xs ys x y same =
    ap (front x) (sym (reverse-append xs (x ∷ [])) ∙ ap reverse same ∙ reverse-append ys (y ∷ []))

pub rest-same : (xs ys : List CursorText) (x y : CursorText) → xs ++ x ∷ [] ≡ ys ++ y ∷ [] → xs ≡ ys
rest-same xs ys x y same =
    append_cancel_right xs ys (x ∷ []) (same ∙ ap (λ z. ys ++ z ∷ []) (sym (last-same xs ys x y same)))

-- the last of what is remembered
pub undone-edit : (f g k : FieldData) (h i : HistoryData) → bytes_eq (field_text f) (field_text g) ≡ false → 0 < h.most
    → IsUndone g k (after_edit f g h) i → cursor_text k ≡ cursor_text f
undone-edit f g k h i changed some undone =
    let all : List CursorText = h.past ++ cursor_text f ∷ [] in
    let size : length all ≡ length h.past + 1 = length-append h.past (cursor_text f ∷ []) in
    let past : (after_edit f g h).past ≡ drop (length all - h.most) all =
    ap (λ b. let j : HistoryData = (if b then h else remembering (cursor_text f) h) in j.past) changed in
    let parts : drop (length all - h.most) all ≡ drop (length all - h.most) h.past ++ cursor_text f ∷ [] =
    drop-append-le (length all - h.most) h.past (cursor_text f ∷ []) (omega (arith, size, some)) in
    last-same i.past (drop (length all - h.most) h.past) (cursor_text k) (cursor_text f) (sym undone.past ∙ past ∙ parts)

-- a field with a text that it had
pub field-again : (f g k : FieldData) → g ≡ with_cursor_text (cursor_text g) f → k ≡ with_cursor_text (cursor_text k) g → cursor_text k ≡ cursor_text f → k ≡ f
field-again f g k to back same =
    back ∙ ap (λ line. with_cursor_text line g) same ∙ ap (λ m. with_cursor_text (cursor_text f) m) to

history-again : (h j : HistoryData) → j.past ≡ h.past → j.future ≡ h.future → j.most ≡ h.most → j ≡ h
history-again h j past future most =
    ap₂ (λ x y. history_of x y j.most) past future ∙ ap (history_of h.past h.future) most

pub redone-undone : (f g k : FieldData) (h i j : HistoryData) → IsUndone f g h i → IsRedone g k i j → (k ≡ f) × (j ≡ h)
redone-undone f g k h i j undone redone = (
  field-again f g k undone.field redone.field
      (last-same j.future h.future (cursor_text k) (cursor_text f) (sym redone.future ∙ undone.future)),
  history-again h j (redone.past ∙ sym undone.past)
      (rest-same j.future h.future (cursor_text k) (cursor_text f) (sym redone.future ∙ undone.future)) (redone.most ∙ undone.most),
)

pub undone-redone : (f g k : FieldData) (h i j : HistoryData) → IsRedone f g h i → IsUndone g k i j → (k ≡ f) × (j ≡ h)
undone-redone f g k h i j redone undone = (
  field-again f g k redone.field undone.field
      (last-same j.past h.past (cursor_text k) (cursor_text f) (sym undone.past ∙ redone.past)),
  history-again h j (rest-same j.past h.past (cursor_text k) (cursor_text f) (sym undone.past ∙ redone.past))
      (undone.future ∙ sym redone.future) (undone.most ∙ redone.most),
)
