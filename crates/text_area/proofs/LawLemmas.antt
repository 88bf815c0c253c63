-- What the laws of text areas say.
use Rattle.std.proofs.Common.{ℕ, zero, suc, ◌≡◌, ◌+◌, ◌-◌, ◌<◌, ◌≤◌, ◌==◌, ◌&&◌, Bool, true, false, not, cond}
use Rattle.std.proofs.Common.{if◌then◌else◌, List, [], ◌∷◌, ◌++◌}
use Rattle.std.proofs.Common.{length, take, drop, get_or, slice_range, refl, sym, ap, ap₂, subst, ◌∙◌, arith}
use Rattle.std.proofs.Common.{append_assoc, length-append}
use Rattle.std.proofs.Common.{None}
use Rattle.std.proofs.lemmas.{List.take_at, List.drop_at, List.length-take-le, List.length-drop}
use Rattle.std.proofs.lemmas.{List.take-append-drop, List.append-nil}
use Rattle.std.proofs.lemmas.{List.Sums.sum_by-cons, List.nil_from_length, Bool.ne_eqb, Bool.and_parts}
use Rattle.std.specs.{List.replace_range, List.slice_split, List.onto_first}
use Rattle.text_field.specs.History.{CursorText, cursor_text_at}
use Rattle.text_field.specs.Field.{kept_of}
use Rattle.text_field.proofs.FieldLemmas.{take-behind}
use Rattle.text_area.specs.Extents.{is_feed, line_right}
use Rattle.text_area.specs.Lines.{feeds, nth_line, first_line}
use Rattle.text_area.specs.Drafts.{draft_text, part_replaced}
use Rattle.text_area.specs.Journals.{JournalData, StepData, IsStepOf, Undoes, journal_of, undo_step, undone}
use Rattle.text_area.specs.Journals.{redone, undone_text, changed, changes_nothing, step_for, stepped_text}
use Rattle.text_area.specs.Journals.{past_after, goes_on, longer}
use Rattle.text_area.specs.Areas.{AreaData, area_of, area_text, area_cursor, put_over, selection, selected}
use Rattle.text_area.specs.Areas.{typing_over, killing, yanking}
use Rattle.text_area.specs.Typing.{written_text}
use Rattle.text_area.proofs.DraftLemmas.{text-at, made}
use Rattle.text_area.proofs.JournalLemmas.{undone-twice, stepped-longer}
use borrow.Author.Tests.{eqb-true}

-- a part that gives way leaves what stands around it
pub part-same : (text : List ℕ) (from to : ℕ) (piece : List ℕ) → changes_nothing from to piece ≡ true
    → text ≡ replace_range text from to piece
part-same text from to piece is =
    let both = and_parts (from == to) (length piece == 0) is in
    let same : from ≡ to = eqb-true from to both.0 in
    let none : piece ≡ [] = nil_from_length piece (eqb-true (length piece) 0 both.1) in
    sym (ap₂ (λ p n. (take from text ++ p) ++ drop n text) none (sym same)
    ∙ ap (λ x. x ++ drop from text) (append-nil (take from text)) ∙ take-append-drop from text)

text-cases : (b : Bool) (from to : ℕ) (piece : List ℕ) (j k : JournalData) → changes_nothing from to piece ≡ b
    → draft_text k.text ≡ replace_range (draft_text j.text) from to piece
    → draft_text (if b then j else k).text ≡ replace_range (draft_text j.text) from to piece
text-cases true from to piece j k is changed = part-same (draft_text j.text) from to piece is
text-cases false from to piece j k is changed = changed

pub text-changed : (a : AreaData) (part : ℕ × ℕ) (piece : List ℕ)
    → area_text (put_over part piece a) ≡ replace_range (area_text a) part.0 part.1 piece
text-changed a part piece =
    text-cases (changes_nothing part.0 part.1 piece) part.0 part.1 piece a.journal
    (journal_of (part_replaced part.0 part.1 piece a.journal.text) (past_after part.0 part.1 piece a.journal) []
    a.journal.most) refl refl

-- an area after a change that is one
pub put-changed : (a : AreaData) (part : ℕ × ℕ) (piece : List ℕ) → changes_nothing part.0 part.1 piece ≡ false
    → put_over part piece a ≡ area_of (journal_of (part_replaced part.0 part.1 piece a.journal.text)
    (past_after part.0 part.1 piece a.journal) [] a.journal.most)
    None None a.killed a.page
put-changed a part piece fails =
    ap (λ b. area_of (if b then a.journal else journal_of (part_replaced part.0 part.1 piece a.journal.text)
    (past_after part.0 part.1 piece a.journal) [] a.journal.most)
    None None a.killed a.page) fails

pub cursor-changed : (a : AreaData) (part : ℕ × ℕ) (piece : List ℕ) → changes_nothing part.0 part.1 piece
    ≡ false
    → part.0 ≤ length (area_text a) → area_cursor (put_over part piece a) ≡ part.0 + length piece
cursor-changed a part piece fails le =
    ap (λ (b : AreaData). area_cursor b) (put-changed a part piece fails)
    ∙ length-append (take part.0 (area_text a)) piece
    ∙ ap (λ n. n + length piece) (length-take-le part.0 (area_text a) le)

-- a text with its cursor, by its text and the cursor's byte
pub text-again : (t : CursorText) → cursor_text_at (draft_text t) (length t.before) ≡ t
text-again t = ap₂ made (take_at t.before t.after (length t.before) refl)
    (drop_at t.before t.after (length t.before) refl)

first-step : (most : ℕ) (s : StepData) (past : List StepData) (t : CursorText) → 0 < most
    → stepped_text (take most (s ∷ past)) t ≡ stepped_text (s ∷ []) t
first-step zero s past t some = absurd (omega (arith, some))
first-step (suc most) s past t some = refl

-- a change that doesn't go on with what was put last is undone by itself
pub undone-change : (a : AreaData) (part : ℕ × ℕ) (piece : List ℕ) → changes_nothing part.0 part.1 piece
    ≡ false
    → goes_on part.0 part.1 piece a.journal.past a.journal.future ≡ false → 0 < a.journal.most
    → part.0 ≤ part.1 → part.1 ≤ length (area_text a)
    → (undone (put_over part piece a).journal).text ≡ a.journal.text
undone-change a part piece fails alone some order within =
    let t : CursorText = a.journal.text in
    let s : StepData = step_for part.0 part.1 (length piece) t in
    ap (λ (b : AreaData). (undone b.journal).text) (put-changed a part piece fails)
    ∙ ap (λ b. stepped_text (if b then longer (part.0 + length piece) a.journal.past
    else take a.journal.most (s ∷ a.journal.past)) (part_replaced part.0 part.1 piece t)) alone
    ∙ first-step a.journal.most s a.journal.past (part_replaced part.0 part.1 piece t) some
    ∙ ap (λ w. cursor_text_at w (length t.before))
    (undone-twice (draft_text t) piece part.0 part.1 (part.0 + length piece) order within refl)
    ∙ text-again t

-- one that goes on with it is undone together with it
pub undone-both : (a : AreaData) (part : ℕ × ℕ) (piece : List ℕ) → changes_nothing part.0 part.1 piece
    ≡ false
    → goes_on part.0 part.1 piece a.journal.past a.journal.future ≡ true
    → Undoes a.journal.past (area_text a)
    → (undone (put_over part piece a).journal).text ≡ (undone a.journal).text
undone-both a part piece fails on undoes =
    ap (λ (b : AreaData). (undone b.journal).text) (put-changed a part piece fails)
    ∙ ap (λ b. stepped_text (if b then longer (part.0 + length piece) a.journal.past
    else take a.journal.most (step_for part.0 part.1 (length piece) a.journal.text ∷ a.journal.past))
    (part_replaced part.0 part.1 piece a.journal.text)) on
    ∙ stepped-longer part.0 part.1 piece a.journal.past a.journal.future a.journal.text on undoes

pub future-changed : (a : AreaData) (part : ℕ × ℕ) (piece : List ℕ) → changes_nothing part.0 part.1 piece
    ≡ false
    → (put_over part piece a).journal.future ≡ []
future-changed a part piece fails = ap (λ (b : AreaData). b.journal.future) (put-changed a part piece fails)

-- the part that was put in place of another one
part-put : (text piece : List ℕ) (a b : ℕ) → a ≤ length text
    → slice_range (replace_range text a b piece) a (a + length piece) ≡ piece
part-put text piece a b le =
    let rest : drop a (replace_range text a b piece) ≡ piece ++ drop b text =
    ap (drop a) (append_assoc (take a text) piece (drop b text))
    ∙ drop_at (take a text) (piece ++ drop b text) a (length-take-le a text le) in
    let size : a + length piece - a ≡ length piece = omega arith in
    ap₂ take size rest ∙ take_at piece (drop b text) (length piece) refl

length-part : (text : List ℕ) (a b : ℕ) → a ≤ b → b ≤ length text → a + length (slice_range text a b) ≡ b
length-part text a b order within =
    omega (arith, length-take-le (b - a) (drop a text) (omega (arith, length-drop a text)), order)

-- a step that is undone and done again
step-again : (s : StepData) (t : CursorText) → IsStepOf s (draft_text t)
    → let back : StepData = step_for s.at s.to (length s.was) t in
    let u : CursorText = stepped_text (s ∷ []) t in step_for back.at back.to (length back.was) u ≡ s
step-again s t can =
    let text : List ℕ = draft_text t in
    let new : List ℕ = undone_text s text in
    let whole : draft_text (cursor_text_at new s.cursor) ≡ new = text-at new s.cursor in
    let to : s.at + length (slice_range text s.at s.to)
    ≡ s.to = length-part text s.at s.to can.order can.end.0 in
    let was : slice_range (draft_text (cursor_text_at new s.cursor)) s.at (s.at + length s.was) ≡ s.was =
    ap (λ w. slice_range w s.at (s.at + length s.was)) whole ∙ part-put text s.was s.at s.to can.start.0 in
    let cursor : length (take s.cursor new) ≡ s.cursor = length-take-le s.cursor new can.cursor.0 in
    ap₂ (λ n w. undo_step s.at n w (length (take s.cursor new))) to was
    ∙ ap (undo_step s.at s.to s.was) cursor

text-back : (s : StepData) (t : CursorText) → IsStepOf s (draft_text t)
    → stepped_text (step_for s.at s.to (length s.was) t ∷ []) (stepped_text (s ∷ []) t) ≡ t
text-back s t can =
    let text : List ℕ = draft_text t in
    let new : List ℕ = undone_text s text in
    ap (λ w. cursor_text_at (replace_range w s.at (s.at + length s.was) (slice_range text s.at s.to))
    (length t.before))
    (text-at new s.cursor)
    ∙ ap (λ w. cursor_text_at w (length t.before))
    (undone-twice text s.was s.at s.to (s.at + length s.was) can.order can.end.0 refl)
    ∙ text-again t

pub redone-again : (t : CursorText) (s : StepData) (past future : List StepData) (most : ℕ)
    → IsStepOf s (draft_text t)
    → redone (undone (journal_of t (s ∷ past) future most)) ≡ journal_of t (s ∷ past) future most
redone-again t s past future most can =
    ap₂ (λ u r. journal_of u (r ∷ past) future most) (text-back s t can) (step-again s t can)

pub undone-again : (t : CursorText) (s : StepData) (past future : List StepData) (most : ℕ)
    → IsStepOf s (draft_text t)
    → undone (redone (journal_of t past (s ∷ future) most)) ≡ journal_of t past (s ∷ future) most
undone-again t s past future most can =
    ap₂ (λ u r. journal_of u past (r ∷ future) most) (text-back s t can) (step-again s t can)

pub redone-undone : (j : JournalData) (s : StepData) (past : List StepData) → j.past ≡ s ∷ past
    → Undoes j.past (draft_text j.text) → redone (undone j) ≡ j
redone-undone j s past is can =
    let same : j ≡ journal_of j.text (s ∷ past) j.future j.most = ap
    (λ p. journal_of j.text p j.future j.most) is in
    let step : Undoes (s ∷ past) (draft_text j.text) = subst (λ p. Undoes p (draft_text j.text)) is can in
    ap (λ k. redone (undone k)) same ∙ redone-again j.text s past j.future j.most step.0 ∙ sym same

pub undone-redone : (j : JournalData) (s : StepData) (future : List StepData) → j.future ≡ s ∷ future
    → Undoes j.future (draft_text j.text) → undone (redone j) ≡ j
undone-redone j s future is can =
    let same : j ≡ journal_of j.text j.past (s ∷ future) j.most = ap
    (λ f. journal_of j.text j.past f j.most) is in
    let step : Undoes (s ∷ future) (draft_text j.text) = subst (λ f. Undoes f (draft_text j.text)) is can in
    ap (λ k. undone (redone k)) same ∙ undone-again j.text s j.past future j.most step.0 ∙ sym same

-- a text is the part between two places, and what stands around it
part-between : (text : List ℕ) (from to : ℕ) → from ≤ to → (take from text ++ slice_range text from to)
    ++ drop to text ≡ text
part-between text from to order =
    let same : from + (to - from) ≡ to = omega (arith, order) in
    ap (λ x. x ++ drop to text) (take-behind text from (to - from) ∙ ap (λ n. take n text) same)
    ∙ take-append-drop to text

pub typed-over : (a : AreaData) (text : List ℕ)
    → (front back : List ℕ) × (area_text a ≡ (front ++ selected a) ++ back)
    × (area_text (typing_over text a) ≡ (front ++ written_text text) ++ back)
typed-over a text = (
  take (selection a).0 (area_text a),
  drop (selection a).1 (area_text a),
  sym (part-between (area_text a) (selection a).0 (selection a).1 (omega arith)),
  text-changed a (selection a) (written_text text),
)

kept-some : (part killed : List ℕ) → 0 < length part → kept_of part killed ≡ part
kept-some [] killed some = absurd (omega (arith, some))
kept-some (b ∷ part) killed some = refl

-- an area in which a part has given way to nothing, with what was killed
pub yanked-back : (a : AreaData) (part : ℕ × ℕ) → part.0 < part.1 → part.1 ≤ length (area_text a)
    → area_text (yanking (killing part a)) ≡ area_text a
yanked-back a part order within =
    let text : List ℕ = area_text a in
    let piece : List ℕ = slice_range text part.0 part.1 in
    let held : AreaData = area_of a.journal a.anchor a.aim (kept_of piece a.killed) a.page in
    let none : List ℕ = [] in
    let fails : changes_nothing part.0 part.1 none ≡ false =
    ap (λ b. b && (length none == 0)) (ne_eqb part.0 part.1 (λ same. absurd (omega (arith, order, same)))) in
    let here : area_cursor (killing part a) ≡ part.0 =
    cursor-changed held part [] fails (omega (arith, order, within)) ∙ omega arith in
    let low : (selection (killing part a)).0 ≡ part.0 = omega (arith, here) in
    let high : (selection (killing part a)).1 ≡ part.0 = omega (arith, here) in
    let some : 0 < length piece = omega (
      arith,
      length-part text part.0 part.1 (omega (arith, order))
          within,
      order,
    ) in
    text-changed (killing part a) (selection (killing part a)) (kept_of piece a.killed)
    ∙ ap₂ (λ m n. replace_range (area_text (killing part a)) m n (kept_of piece a.killed)) low high
    ∙ ap₂ (λ w p. replace_range w part.0 part.0 p) (text-changed held part []) (kept-some piece a.killed some)
    ∙ undone-twice text [] part.0 part.1 part.0 (omega (arith, order)) within (omega arith)

-- the parts between line feeds
onto-first : (b : ℕ) (parts : List (List ℕ)) → get_or (onto_first b parts) 0 [] ≡ b ∷ get_or parts 0 []
onto-first b [] = refl
onto-first b (part ∷ parts) = refl

onto-others : (b i : ℕ) (parts : List (List ℕ)) → get_or (onto_first b parts) (suc i) []
    ≡ get_or parts (suc i) []
onto-others b i [] = refl
onto-others b i (part ∷ parts) = refl

first-cases : (t : Bool) (b : ℕ) (xs : List ℕ) → is_feed b ≡ t → first_line xs
    ≡ get_or (slice_split is_feed xs) 0 []
    → take (cond (not t) (1 + line_right xs) 0) (b ∷ xs)
    ≡ get_or (cond t ([] ∷ slice_split is_feed xs) (onto_first b (slice_split is_feed xs))) 0 []
first-cases true b xs is rest = refl
first-cases false b xs is rest =
    let one : 1 + line_right xs ≡ suc (line_right xs) = omega arith in
    ap (λ n. take n (b ∷ xs)) one ∙ ap (λ w. b ∷ w) rest ∙ sym (onto-first b (slice_split is_feed xs))

other-cases : (t : Bool) (b k : ℕ) (xs : List ℕ) → is_feed b ≡ t
    → nth_line (if t then k else suc k) xs ≡ get_or (slice_split is_feed xs) (if t then k else suc k) []
    → nth_line (if t then k else suc k) xs
    ≡ get_or (cond t ([] ∷ slice_split is_feed xs) (onto_first b (slice_split is_feed xs))) (suc k) []
other-cases true b k xs is rest = rest
other-cases false b k xs is rest = rest ∙ sym (onto-others b k (slice_split is_feed xs))

pub fewer-cases : (t : Bool) (k n m : ℕ) → suc k ≤ n → n ≡ cond t 1 0 + m → (if t then k else suc k) ≤ m
fewer-cases true k n m le is = omega (arith, le, is)
fewer-cases false k n m le is = omega (arith, le, is)

pub nth-line_is : (text : List ℕ) (i : ℕ) → i ≤ feeds text → nth_line i text
    ≡ get_or (slice_split is_feed text) i []
nth-line_is [] zero le = refl
nth-line_is [] (suc i) le = absurd (omega (arith, le))
nth-line_is (b ∷ xs) zero le = first-cases (is_feed b) b xs refl (nth-line_is xs zero (omega arith))
nth-line_is (b ∷ xs) (suc k) le =
    other-cases (is_feed b) b k xs refl (nth-line_is xs (if is_feed b then k else suc k)
    (fewer-cases (is_feed b) k (feeds (b ∷ xs)) (feeds xs) le (sum_by-cons (λ x. cond (is_feed x) 1 0) b xs)))
