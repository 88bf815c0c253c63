-- Areas as their texts and cursors.
use Rattle.std.proofs.Common.{ℕ, zero, suc, min, max, ◌≡◌, List, length, take, drop, sym, ap, ◌∙◌, arith}
use Rattle.std.proofs.Common.{subst, Option, IfSome}
use Rattle.std.proofs.lemmas.{List.take_at, List.drop_at}
use Rattle.std.specs.Str.{IsCharBoundary}
use Rattle.text_field.specs.History.{CursorText}
use Rattle.text_area.specs.Drafts.{draft_text, cursor_at}
use Rattle.text_area.specs.Areas.{ends}
use Rattle.text_area.proofs.DraftLemmas.{text-at}

-- the two parts of a text
pub part-before : (t : CursorText) (text : List ℕ) (at : ℕ) → text ≡ draft_text t → at ≡ length t.before
    → take at text ≡ t.before
part-before t text at is place = ap (take at) is ∙ take_at t.before t.after at (sym place)

pub part-after : (t : CursorText) (text : List ℕ) (at : ℕ) → text ≡ draft_text t → at ≡ length t.before
    → drop at text ≡ t.after
part-after t text at is place = ap (drop at) is ∙ drop_at t.before t.after at (sym place)

-- moving the cursor changes no text
pub anchor-go : (anchor : Option ℕ) (t : CursorText) (at : ℕ)
    → IfSome anchor (λ b. IsCharBoundary (draft_text t) b)
    → IfSome anchor (λ b. IsCharBoundary (draft_text (cursor_at at t)) b)
anchor-go anchor t at can = subst (λ w. IfSome anchor (λ b. IsCharBoundary w b))
    (sym (text-at (draft_text t) at)) can

-- what holds of two places holds of the first of them, and of the last
least : (P : ℕ → Type 0) (a b : ℕ) → P a → P b → P (min a b)
least P zero b pa pb = let same : zero ≡ min zero b = omega arith in subst P same pa
least P (suc a) zero pa pb = let same : zero ≡ min (suc a) zero = omega arith in subst P same pb
least P (suc a) (suc b) pa pb =
    let same : suc (min a b) ≡ min (suc a) (suc b) = omega arith in subst P same
    (least (λ n. P (suc n)) a b pa pb)

most : (P : ℕ → Type 0) (a b : ℕ) → P a → P b → P (max a b)
most P zero b pa pb = let same : b ≡ max zero b = omega arith in subst P same pb
most P (suc a) zero pa pb = let same : suc a ≡ max (suc a) zero = omega arith in subst P same pa
most P (suc a) (suc b) pa pb =
    let same : suc (max a b) ≡ max (suc a) (suc b) = omega arith in subst P same
    (most (λ n. P (suc n)) a b pa pb)

pub boundary-first : (text : List ℕ) (r : ℕ × ℕ) (a b : ℕ) → r ≡ ends a b → IsCharBoundary text a
    → IsCharBoundary text b
    → IsCharBoundary text r.0
boundary-first text r a b is pa pb = subst (λ (p : ℕ × ℕ). IsCharBoundary text p.0) (sym is)
    (least (IsCharBoundary text) a b pa pb)

pub boundary-last : (text : List ℕ) (r : ℕ × ℕ) (a b : ℕ) → r ≡ ends a b → IsCharBoundary text a
    → IsCharBoundary text b
    → IsCharBoundary text r.1
boundary-last text r a b is pa pb = subst (λ (p : ℕ × ℕ). IsCharBoundary text p.1) (sym is)
    (most (IsCharBoundary text) a b pa pb)

pub ruleset area_rules = (boundary-first, boundary-last, part-before, part-after, anchor-go, text-at)
