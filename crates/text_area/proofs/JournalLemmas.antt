-- Changes of a text, and how they are undone.
use Rattle.std.proofs.Common.{ℕ, zero, suc, ◌≡◌, ◌+◌, ◌-◌, ◌≤◌, ◌==◌, ◌&&◌, ltb, not, true, false}
use Rattle.std.proofs.Common.{if◌then◌else◌, List, [], ◌∷◌, ◌++◌, length, take, drop, slice_range}
use Rattle.std.proofs.Common.{refl, sym, ap, ap₂, subst, ◌∙◌, arith, append_assoc, length-append}
use Rattle.std.proofs.lemmas.{List.take_at, List.drop_at, List.length-take-le, List.length-take}
use Rattle.std.proofs.lemmas.{List.take-append-drop, List.take-append-le, Bool.and_parts}
use Rattle.std.proofs.lemmas.{Str.IsCharBoundary-at_seam, Str.IsUtf8-append, Str.IsUtf8-drop, Str.IsUtf8-take}
use Rattle.std.proofs.lemmas.{Str.IsUtf8-between, Str.IsCharBoundary-from_take}
use Rattle.std.specs.{List.replace_range, Str.IsUtf8, Str.IsCharBoundary}
use Rattle.text_field.specs.History.{CursorText, cursor_text_at}
use Rattle.text_field.proofs.FieldLemmas.{take-behind}
use Rattle.text_area.specs.Drafts.{draft_text, cursor_at, part_replaced}
use Rattle.text_area.specs.Journals.{StepData, IsStepOf, Undoes, undone_text, step_for, undo_step, longer}
use Rattle.text_area.specs.Journals.{goes_on, is_after, begins_line, JournalData, journal_of, changes_nothing}
use Rattle.text_area.specs.Journals.{past_after, changed, stepped_text}
use Rattle.text_area.proofs.DraftLemmas.{text-at, boundary-piece}
use borrow.Author.Tests.{eqb-true}

-- a part of a text that has given way is put back
pub undone-twice : (text piece : List ℕ) (a b m : ℕ) → a ≤ b → b ≤ length text → m ≡ a + length piece
    → replace_range (replace_range text a b piece) a m (slice_range text a b) ≡ text
undone-twice text piece a b m order within is =
    let new : List ℕ = replace_range text a b piece in
    let size : length (take a text) ≡ a = length-take-le a text (omega (arith, order, within)) in
    let front : take a new ≡ take a text =
    ap (take a) (append_assoc (take a text) piece (drop b text))
    ∙ take_at (take a text) (piece ++ drop b text) a size in
    let back : drop m new ≡ drop b text =
    drop_at (take a text ++ piece) (drop b text) m
    (omega (arith, length-append (take a text) piece, size, is)) in
    let same : a + (b - a) ≡ b = omega (arith, order) in
    let part : take a text ++ slice_range text a b ≡ take b text =
    take-behind text a (b - a) ∙ ap (λ n. take n text) same in
    ap₂ (λ x y. (x ++ slice_range text a b) ++ y) front back ∙ ap (λ x. x ++ drop b text) part
    ∙ take-append-drop b text

-- the place before a piece is a place of the text
pub boundary-start : (text piece : List ℕ) (a b : ℕ) → IsUtf8 text → IsUtf8 piece → IsCharBoundary text a
    → IsCharBoundary text b
    → IsCharBoundary (replace_range text a b piece) a
boundary-start text piece a b utf8 put start end =
    subst (IsCharBoundary (replace_range text a b piece)) (length-take-le a text start.0)
    (IsCharBoundary-at_seam (replace_range text a b piece) (take a text) (piece ++ drop b text)
    (append_assoc (take a text) piece (drop b text))
    (IsUtf8-append piece (drop b text) put (IsUtf8-drop text b utf8 end)))

-- how a change is undone is a step of the text that it has made
pub step-made : (t : CursorText) (piece : List ℕ) (a b : ℕ) → IsUtf8 (draft_text t) → IsUtf8 piece → a ≤ b
    → IsCharBoundary (draft_text t) a → IsCharBoundary (draft_text t) b
    → IsCharBoundary (draft_text t) (length t.before)
    → IsStepOf (step_for a b (length piece) t) (replace_range (draft_text t) a b piece)
step-made t piece a b utf8 put order start end cursor =
    let text : List ℕ = draft_text t in record {
      was = IsUtf8-between text a b utf8 order start end;
      order = omega arith;
      start = boundary-start text piece a b utf8 put start end;
      end = boundary-piece text (replace_range text a b piece) piece a b (a + length piece) utf8 start end
          refl refl;
      cursor = subst (λ w. IsCharBoundary w (length t.before))
          (sym (undone-twice text piece a b (a + length piece) order end.0 refl)) cursor;
    }

pub undoes-made : (t : CursorText) (piece : List ℕ) (a b : ℕ) (past : List StepData) → IsUtf8 (draft_text t)
    → IsUtf8 piece → a ≤ b
    → IsCharBoundary (draft_text t) a → IsCharBoundary (draft_text t) b
    → IsCharBoundary (draft_text t) (length t.before)
    → Undoes past (draft_text t) → Undoes (step_for a b (length piece) t ∷ past)
    (replace_range (draft_text t) a b piece)
undoes-made t piece a b past utf8 put order start end cursor undoes = (
  step-made t piece a b utf8 put order start end cursor,
  subst (Undoes past) (sym (undone-twice (draft_text t) piece a b (a + length piece) order end.0 refl))
      undoes,
)

-- the text before a cursor that stands after a piece
pub length-after : (text piece : List ℕ) (from : ℕ) → from ≤ length text
    → length (take from text ++ piece) ≡ from + length piece
length-after text piece from le =
    length-append (take from text) piece ∙ ap (λ n. n + length piece) (length-take-le from text le)

-- a piece that goes on with what a step undoes is undone together with it
undone-longer : (s : StepData) (text piece : List ℕ) → s.at ≤ s.to → s.to ≤ length text
    → undone_text (undo_step s.at (s.to + length piece) s.was s.cursor)
    (replace_range text s.to s.to piece) ≡ undone_text s text
undone-longer s text piece order within =
    let new : List ℕ = replace_range text s.to s.to piece in
    let size : length (take s.to text) ≡ s.to = length-take-le s.to text within in
    let front : take s.at new ≡ take s.at text =
    ap (take s.at) (append_assoc (take s.to text) piece (drop s.to text))
    ∙ take-append-le s.at (take s.to text) (piece ++ drop s.to text) (omega (arith, order, size))
    ∙ sym (take-append-le s.at (take s.to text) (drop s.to text) (omega (arith, order, size)))
    ∙ ap (take s.at) (take-append-drop s.to text) in
    let back : drop (s.to + length piece) new ≡ drop s.to text =
    drop_at (take s.to text ++ piece) (drop s.to text) (s.to + length piece)
    (length-after text piece s.to within) in
    ap₂ (λ x y. (x ++ s.was) ++ y) front back

-- the step that undoes both can be made
step-longer : (s : StepData) (text piece : List ℕ) → IsUtf8 text → IsUtf8 piece → IsStepOf s text
    → IsStepOf (undo_step s.at (s.to + length piece) s.was s.cursor) (replace_range text s.to s.to piece)
step-longer s text piece utf8 put step =
    let new : List ℕ = replace_range text s.to s.to piece in
    let to : ℕ = s.to + length piece in
    let size : length (take s.to text) ≡ s.to = length-take-le s.to text step.end.0 in
    let whole : IsUtf8 new = IsUtf8-append (take s.to text ++ piece) (drop s.to text)
    (IsUtf8-append (take s.to text) piece (IsUtf8-take text s.to utf8 step.end) put)
    (IsUtf8-drop text s.to utf8 step.end) in
    let front : take s.at text ≡ take s.at new =
    sym (ap (take s.at) (append_assoc (take s.to text) piece (drop s.to text))
    ∙ take-append-le s.at (take s.to text) (piece ++ drop s.to text) (omega (arith, step.order, size))
    ∙ sym (take-append-le s.at (take s.to text) (drop s.to text) (omega (arith, step.order, size)))
    ∙ ap (take s.at) (take-append-drop s.to text)) in
    let place : s.at ≤ length new = omega (
      arith,
      step.order,
      length-after text piece s.to step.end.0,
      length-append (take s.to text ++ piece) (drop s.to text),
    ) in
    record {
      was = step.was;
      order = omega (arith, step.order);
      start = IsCharBoundary-from_take new s.at whole place
          (subst IsUtf8 front (IsUtf8-take text s.at utf8 step.start));
      end = boundary-piece text new piece s.to s.to to utf8 step.end step.end refl refl;
      cursor = subst (λ w. IsCharBoundary w s.cursor)
          (sym (undone-longer s text piece step.order step.end.0)) step.cursor;
    }

places-after : (from to : ℕ) (s : StepData) (piece : List ℕ)
    → (is_after from to s && not (begins_line piece)) ≡ true → (s.to ≡ from) × (s.to ≡ to)
places-after from to s piece is =
    let first = and_parts (is_after from to s) (not (begins_line piece)) is in
    let both = and_parts (from == to) ((s.to == from) && ltb s.at from) first.0 in
    let last = and_parts (s.to == from) (ltb s.at from) both.1 in
    let start : s.to ≡ from = eqb-true s.to from last.0 in
    (start, start ∙ eqb-true from to both.0)

pub undoes-longer : (from to : ℕ) (past : List StepData) (text piece : List ℕ) → IsUtf8 text → IsUtf8 piece
    → goes_on from to piece past [] ≡ true → Undoes past text
    → Undoes (longer (from + length piece) past) (replace_range text from to piece)
undoes-longer from to [] text piece utf8 put is undoes = cc
undoes-longer from to (s ∷ past) text piece utf8 put is undoes =
    let start : s.to ≡ from = (places-after from to s piece is).0 in
    let end : s.to ≡ to = (places-after from to s piece is).1 in
    subst (λ n. Undoes (longer (n + length piece) (s ∷ past)) (replace_range text n to piece)) start
    (subst (λ n. Undoes (longer (s.to + length piece) (s ∷ past)) (replace_range text s.to n piece)) end (
      step-longer s text piece utf8 put undoes.0,
      subst (Undoes past) (sym (undone-longer s text piece undoes.0.order undoes.0.end.0)) undoes.1,
    ))

-- the text from which both have gone
pub stepped-longer : (from to : ℕ) (piece : List ℕ) (past future : List StepData) (t : CursorText)
    → goes_on from to piece past future ≡ true → Undoes past (draft_text t)
    → stepped_text (longer (from + length piece) past) (part_replaced from to piece t) ≡ stepped_text past t
stepped-longer from to piece [] future t on undoes = cc
stepped-longer from to piece (s ∷ past) (f ∷ future) t on undoes = cc
stepped-longer from to piece (s ∷ past) [] t on undoes =
    let start : s.to ≡ from = (places-after from to s piece on).0 in
    let end : s.to ≡ to = (places-after from to s piece on).1 in
    ap₂ (λ m n. cursor_text_at (undone_text (undo_step s.at (m + length piece) s.was s.cursor)
    (replace_range (draft_text t) m n piece)) s.cursor) (sym start) (sym end)
    ∙ ap (λ w. cursor_text_at w s.cursor)
    (undone-longer s (draft_text t) piece undoes.0.order undoes.0.end.0)

-- what goes on with a change finds nothing that was undone
none-undone : (from to : ℕ) (piece : List ℕ) (past future : List StepData)
    → goes_on from to piece past future ≡ true → future ≡ []
none-undone from to piece past [] is = refl
none-undone from to piece [] (f ∷ future) is = cc
none-undone from to piece (s ∷ past) (f ∷ future) is = cc

-- a journal after a piece that goes on with what was put last
pub went-on : (j : JournalData) (t : CursorText) (past : List StepData) (from to at : ℕ) (piece : List ℕ)
    → changes_nothing from to piece ≡ false → goes_on from to piece j.past j.future ≡ true
    → from ≤ length (draft_text j.text) → t ≡ part_replaced from to piece j.text → at ≡ length t.before
    → past ≡ longer at j.past → journal_of t past j.future j.most ≡ changed from to piece j
went-on j t past from to at piece some on le is place longer-is =
    let cursor : at ≡ from + length piece =
    place ∙ ap (λ (w : CursorText). length w.before) is ∙ length-after (draft_text j.text) piece from le in
    let kept : past ≡ past_after from to piece j =
    longer-is ∙ ap (λ n. longer n j.past) cursor
    ∙ sym (ap (λ b. if b then longer (from + length piece) j.past
    else take j.most (step_for from to (length piece) j.text ∷ j.past)) on) in
    ap₂ (λ w p. journal_of w p j.future j.most) is kept
    ∙ ap (λ f. journal_of (part_replaced from to piece j.text) (past_after from to piece j) f j.most)
    (none-undone from to piece j.past j.future on)
    ∙ sym (ap (λ b. if b then j
    else journal_of (part_replaced from to piece j.text) (past_after from to piece j) [] j.most) some)

-- as many steps as before
pub length-longer : (to : ℕ) (past : List StepData) → length (longer to past) ≡ length past
length-longer to [] = refl
length-longer to (s ∷ past) = refl

-- what such a journal can undo and do again
pub undoes-on : (j : JournalData) (t : CursorText) (past : List StepData) (from to at : ℕ) (piece : List ℕ)
    → IsUtf8 (draft_text j.text) → IsUtf8 piece → goes_on from to piece j.past j.future ≡ true
    → from ≤ length (draft_text j.text) → t ≡ part_replaced from to piece j.text → at ≡ length t.before
    → past ≡ longer at j.past → Undoes j.past (draft_text j.text) → length j.past + length j.future ≤ j.most
    → Undoes past (draft_text t) × Undoes j.future (draft_text t) × (length past + length j.future ≤ j.most)
undoes-on j t past from to at piece utf8 put on le is place longer-is undoes few =
    let cursor : at ≡ from + length piece =
    place ∙ ap (λ (w : CursorText). length w.before) is ∙ length-after (draft_text j.text) piece from le in
    let kept : past ≡ longer (from + length piece) j.past = longer-is ∙ ap (λ n. longer n j.past) cursor in
    let none : j.future ≡ [] = none-undone from to piece j.past j.future on in
    let alone : goes_on from to piece j.past [] ≡ true = subst (λ f. goes_on from to piece j.past f ≡ true) none on in (
      subst (λ p. Undoes p (draft_text t)) (sym kept)
          (subst (λ w. Undoes (longer (from + length piece) j.past) (draft_text w)) (sym is)
          (undoes-longer from to j.past (draft_text j.text) piece utf8 put alone undoes)),
      subst (λ f. Undoes f (draft_text t)) (sym none) tt,
      omega (arith, few, ap length kept, length-longer (from + length piece) j.past),
    )

-- the first of these steps
pub undoes-take : (n : ℕ) (steps : List StepData) (text : List ℕ) → Undoes steps text
    → Undoes (take n steps) text
undoes-take zero steps text undoes = tt
undoes-take (suc n) [] text undoes = tt
undoes-take (suc n) (s ∷ steps) text undoes = (undoes.0, undoes-take n steps (undone_text s text) undoes.1)

pub undoes-rest : (s : StepData) (steps : List StepData) (t : CursorText) → Undoes (s ∷ steps) (draft_text t)
    → Undoes steps (draft_text (cursor_text_at (undone_text s (draft_text t)) s.cursor))
undoes-rest s steps t undoes =
    subst (Undoes steps) (sym (text-at (undone_text s (draft_text t)) s.cursor)) undoes.1

pub undoes-onto : (s : StepData) (onto : List StepData) (t : CursorText) → IsUtf8 (draft_text t)
    → IsCharBoundary (draft_text t) (length t.before) → IsStepOf s (draft_text t) → Undoes onto (draft_text t)
    → Undoes (step_for s.at s.to (length s.was) t ∷ onto)
    (draft_text (cursor_text_at (undone_text s (draft_text t)) s.cursor))
undoes-onto s onto t utf8 cursor step undoes =
    subst (Undoes (step_for s.at s.to (length s.was) t ∷ onto))
    (sym (text-at (undone_text s (draft_text t)) s.cursor))
    (undoes-made t s.was s.at s.to onto utf8 step.was step.order step.start step.end cursor undoes)

pub undoes-inverse : (s back : StepData) (onto : List StepData) (t : CursorText) → back
    ≡ step_for s.at s.to (length s.was) t
    → IsUtf8 (draft_text t) → IsCharBoundary (draft_text t) (length t.before) → IsStepOf s (draft_text t)
    → Undoes onto (draft_text t)
    → Undoes (back ∷ onto) (draft_text (cursor_text_at (undone_text s (draft_text t)) s.cursor))
undoes-inverse s back onto t is utf8 cursor step undoes =
    subst (λ b. Undoes (b ∷ onto) (draft_text (cursor_text_at (undone_text s (draft_text t)) s.cursor)))
    (sym is)
    (undoes-onto s onto t utf8 cursor step undoes)

-- moving the cursor changes no text
pub undoes-go : (steps : List StepData) (t : CursorText) (at : ℕ) → Undoes steps (draft_text t)
    → Undoes steps (draft_text (cursor_at at t))
undoes-go steps t at undoes = subst (Undoes steps) (sym (text-at (draft_text t) at)) undoes

pub kept-few : (most : ℕ) (past kept none : List StepData) → kept ≡ take most past → none ≡ []
    → length kept + length none ≤ most
kept-few most past kept none is empty = omega (arith, ap length is, ap length empty, length-take most past)

pub ruleset change_rules = (undoes-made)

pub ruleset step_rules = (undoes-rest, undoes-onto)

pub ruleset journal_rules = (undoes-take, undoes-go, text-at)
