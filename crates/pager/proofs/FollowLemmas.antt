-- A text that is followed, and keys while a text gives nothing.
use Rattle.std.proofs.Common.{◌≡◌, ◌⊎◌, ◌<◌, ◌-◌, ◌&&◌, ◌||◌, ℕ, zero, suc, Bool, true, false, not, if◌then◌else◌, length}
use Rattle.std.proofs.Common.{Option, Some, None, inl, inr, refl, ap, sym, subst, ◌∙◌, nat_lt, is_some, arith, rules}
use Rattle.std.proofs.Common.{List, [], ◌∷◌, ◌++◌, take, replicate}
use Rattle.std.proofs.lemmas.List.{take_all}
use Rattle.std.proofs.Math.Seq.{take-append_seam}
use Rattle.std.specs.Prelude.{nat_le}
use Rattle.std.specs.Str.Lines.{lines}
use Rattle.std.proofs.lemmas.Bool.Decides.{nat_tests}
use Rattle.ratatui_events.specs.declared.event.Event.{Event}
use Rattle.ratatui_events.specs.declared.event.Event.TheVariants.{Key}
use Rattle.ratatui_events.specs.declared.key.KeyEvent.{KeyEvent}
use Rattle.ratatui_acts.specs.declared.message.Message.TheVariants as message
use Rattle.pager.specs.declared.pager.Pager.{Pager}
use Rattle.pager.specs.declared.pager.Mode.{Mode}
use Rattle.pager.specs.declared.pager.Mode.TheVariants.{Reading, Following}
use Rattle.pager.specs.declared.command.Command.{Command}
use Rattle.pager.specs.declared.command.Command.TheVariants.{Quit}
use Rattle.text_places.specs.declared.place.Place.{Place}
use Rattle.pager.specs.declared.styles.Run.{Run}
use Rattle.pager.specs.declared.piece.{More.More, Piece.Piece}
use Rattle.pager.specs.declared.growing.{Growing.Growing, Waiting.Waiting}
use Rattle.pager.specs.Keys.{event_command, is_press}
use Rattle.text_places.specs.Places.{text_place, previous_place, places_before, is_before, earlier_place}
use Rattle.pager.specs.Places.{breaking, page_place, page_rows, rows_of_line}
use Rattle.pager.specs.Places.{last_page}
use Rattle.pager.specs.Moves.{at_line, acted, obeyed, updated}
use Rattle.pager.specs.Growing.{event_needs, mode_needs, command_needs, seeks_unknown, more_styles, piece_known, is_following, followed}
use Rattle.pager.specs.Growing.{is_taken, heard, is_due, resumed, is_quit, told_waiting, given_up, heard_after, needs_more, asked_for_more, grown_after}

-- one of two
abbrev either : {A : Type 0} → Bool → A → A → A
either b x y = if b then x else y

-- ---- the last page

-- a place before a line, or that line's first row
abbrev IsUpTo : ℕ → Place → Type 0
IsUpTo n q = (q.line < n) ⊎ (q ≡ text_place n 0)

end-up : (t : ℕ → ℕ) (n : ℕ) → IsUpTo n (previous_place t (text_place n 0))
end-up t n = by (nat_lt 0 n) refl
  where
    by : (b : Bool) → nat_lt 0 n ≡ b → IsUpTo n (either {A = Place} b
        (text_place (n - 1) (t (n - 1) - 1)) (text_place n 0))
    by true is = inl (grind (arith, nat_tests, is))
    by false is = inr refl

previous-up : (t : ℕ → ℕ) (n : ℕ) (q : Place) → IsUpTo n q → IsUpTo n (previous_place t q)
previous-up t n q (inl lt) = by (nat_lt 0 q.row) (nat_lt 0 q.line)
  where
    by : (a b : Bool) → IsUpTo n (if a then text_place q.line (q.row - 1)
        else if b then text_place (q.line - 1) (t (q.line - 1) - 1) else q)
    by true b = inl lt
    by false true = inl (omega (arith, lt))
    by false false = inl lt
previous-up t n q (inr is) = subst (λ (r : Place). IsUpTo n (previous_place t r)) (sym is) (end-up t n)

before-up : (t : ℕ → ℕ) (n k : ℕ) → IsUpTo n (places_before t k (text_place n 0))
unfolding places_before
before-up t n zero = inr refl
before-up t n (suc k) = previous-up t n (places_before t k (text_place n 0)) (before-up t n k)

plain-up : (n k : ℕ) → IsUpTo n (text_place (n - k) 0)
plain-up n k = by (nat_lt (n - k) n) refl
  where
    by : (b : Bool) → nat_lt (n - k) n ≡ b → IsUpTo n (text_place (n - k) 0)
    by true is = inl (grind (arith, nat_tests, is))
    by false is = inr (ap (λ m. text_place m 0) (same is))
      where
        same : nat_lt (n - k) n ≡ false → n - k ≡ n
        same is = grind (arith, nat_tests, is)

last-up : (p : Pager) → IsUpTo (length p.document) (last_page p)
last-up p = by p.wraps
  where
    by : (b : Bool) → IsUpTo (length p.document)
        (if b then places_before (breaking p) (page_rows p) (text_place (length p.document) 0)
        else text_place (length p.document - page_rows p) 0)
    by true = before-up (breaking p) (length p.document) (page_rows p)
    by false = plain-up (length p.document) (page_rows p)

same-place : (n : ℕ) → is_before (text_place n 0) (text_place n 0) ≡ false
same-place n = grind (arith, nat_tests)

far-place : (n : ℕ) (q : Place) → q.line < n → is_before (text_place n 0) q ≡ false
far-place n q lt = grind (arith, nat_tests, lt)

after-end : (n : ℕ) (q : Place) → IsUpTo n q → is_before (text_place n 0) q ≡ false
after-end n q (inl lt) = far-place n q lt
after-end n q (inr is) = ap (λ r. is_before (text_place n 0) r) is ∙ same-place n

-- the page after the last line is the last one
ends-at : (p : Pager) → page_place (at_line (length p.document) p) ≡ last_page p
ends-at p =
    ap (λ b. let r = if b then text_place (length p.document) 0 else last_page p in text_place r.line r.row)
    (after-end (length p.document) (last_page p) (last-up p))

followed-ends : (p : Pager) → p.mode ≡ Following → page_place (followed p) ≡ last_page (followed p)
followed-ends p mode =
    ap (λ (m : Mode). page_place (if is_following m then at_line (length p.document) p else p)) mode
    ∙ ends-at p
    ∙ sym (ap (λ (m : Mode). last_page (if is_following m then at_line (length p.document) p else p)) mode)

pub follows-end : (g : Growing) (piece : Piece) → g.pager.mode ≡ Following → g.waiting ≡ None
    → page_place (grown_after g (message.Answer piece)).pager ≡ last_page (grown_after g (message.Answer piece)).pager
unfolding grown_after
follows-end g piece mode none =
    let q : Pager = followed (piece_known piece g.pager) in
    ap (λ (w : Option Waiting). page_place (resumed piece.rests w q).pager) none
    ∙ followed-ends (piece_known piece g.pager) mode
    ∙ sym (ap (λ (w : Option Waiting). last_page (resumed piece.rests w q).pager) none)

-- ---- keys

heard-rests : (rests : Bool) (event : Event) (p : Pager) → (heard rests event p).rests ≡ rests
heard-rests rests event p = by (is_taken rests event p)
  where
    by : (b : Bool) → (either {A = Growing} b (record { pager = updated p event; waiting = None; rests = rests })
        (record {
          pager = told_waiting event p;
          waiting = Some (record { event = event; lines = event_needs p event; known = length p.document });
          rests = rests;
        })).rests ≡ rests
    by true = refl
    by false = refl

rests-stay : (rests : Bool) (w : Option Waiting) (p : Pager) → (resumed rests w p).rests ≡ rests
rests-stay rests None p = refl
rests-stay rests (Some w) p = by (is_due rests w p)
  where
    by : (b : Bool) → (either {A = Growing} b (heard rests w.event p)
        (record { pager = p; waiting = Some w; rests = rests })).rests ≡ rests
    by true = heard-rests rests w.event p
    by false = refl

-- after a piece that found nothing, nothing is asked for
pub rests-then : (g : Growing) (piece : Piece) → piece.rests ≡ true
    → asked_for_more (grown_after g (message.Answer piece)) ≡ None
unfolding grown_after
rests-then g piece is =
    let h : Growing = resumed piece.rests g.waiting (followed (piece_known piece g.pager)) in
    ap (λ b. either {A = Option More} (not (b || is_some h.pager.whole)
    && (is_following h.pager.mode || (h.pager.has_more && needs_more h))) (Some (record {})) None)
    (rests-stay piece.rests g.waiting (followed (piece_known piece g.pager)) ∙ is)

zero-least : (n : ℕ) → nat_le 0 n ≡ true
zero-least n = grind (arith, nat_tests)

none-needed : (b : Bool) (n : ℕ) (c : Bool) → ((not b || nat_le 0 n) || c) ≡ true
none-needed true n c = ap (λ d. d || c) (zero-least n)
none-needed false n c = refl

false-true : false ≡ true → ⊥
false-true e = search rules

-- a key that leaves does so, also while an event waits
pub leaves-now : (g : Growing) (k : KeyEvent) → event_command (Key k) ≡ Quit → is_press (Key k) ≡ true
    → (g.pager.mode ≡ Reading) ⊎ (is_some g.waiting ≡ true)
    → (grown_after g (message.Event (Key k))).pager.is_over ≡ true
unfolding grown_after
leaves-now g k quit press at = by g.waiting at
  where
    waits : (w : Waiting) → (heard_after (Some w) (Key k) g).pager.is_over ≡ true
    waits w =
        ap (λ b. (either {A = Growing} b (record g { pager = given_up w (Key k) g.pager; waiting = None }) g).pager.is_over)
        press
        ∙ ap (λ (c : Command). (either {A = Pager} (is_quit c) (obeyed Quit g.pager) (updated g.pager w.event)).is_over) quit

    needs : g.pager.mode ≡ Reading → mode_needs g.pager.mode (Key k) g.pager ≡ 0
    needs mode =
        ap (λ (m : Mode). mode_needs m (Key k) g.pager) mode ∙ ap (λ (c : Command). command_needs c g.pager) quit

    taken : g.pager.mode ≡ Reading → is_taken g.rests (Key k) g.pager ≡ true
    taken mode =
        ap (λ n. (not g.pager.has_more || nat_le n (length g.pager.document)) || (g.rests && not (seeks_unknown g.pager (Key k))))
        (needs mode)
        ∙ none-needed g.pager.has_more (length g.pager.document) (g.rests && not (seeks_unknown g.pager (Key k)))

    over : g.pager.mode ≡ Reading → (updated g.pager (Key k)).is_over ≡ true
    over mode =
        ap (λ (m : Mode). (acted m (Key k) g.pager).is_over) mode ∙ ap (λ (c : Command). (obeyed c g.pager).is_over) quit

    free : g.pager.mode ≡ Reading → (heard g.rests (Key k) g.pager).pager.is_over ≡ true
    free mode =
        ap (λ b. (either {A = Growing} b
        (record { pager = updated g.pager (Key k); waiting = None; rests = g.rests })
        (record {
          pager = told_waiting (Key k) g.pager;
          waiting = Some (record { event = Key k; lines = event_needs g.pager (Key k); known = length g.pager.document });
          rests = g.rests;
        })).pager.is_over) (taken mode)
        ∙ over mode

    by : (w : Option Waiting) → (g.pager.mode ≡ Reading) ⊎ (is_some w ≡ true)
        → (heard_after w (Key k) g).pager.is_over ≡ true
    by (Some w) at = waits w
    by None (inl mode) = free mode
    by None (inr never) = absurd (false-true never)
