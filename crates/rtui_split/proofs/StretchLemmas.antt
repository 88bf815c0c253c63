-- The part that is stretched.
use Rattle.std.proofs.Common.{ℕ, ◌≡◌, ◌<◌, ◌≤◌, ◌+◌, List, take, drop, get_or, inl, inr, sym, ap, subst, arith}
use Rattle.std.proofs.lemmas.List.{get_or-take, get_or-drop, length-take, length-drop}
use Rattle.std.proofs.lemmas.{Bool.cases_lt, List.Elements.All-from_get_or}
use Rattle.rtui_layout.specs.declared.constraint.Constraint.{Constraint, TheVariants.Max}
use Rattle.rtui_split.specs.{Wishes.patience, Wishes.IsStretchable, Inner.Shares.patience_at, Inner.Shares.IsStretchableAt}

-- of the parts up to a place, this one is the last of the kind that minds least
pub record IsLastOfLeast (cs : List Constraint) (n at most : ℕ) : Type 0 where
  pub none : n ≡ 0 → most ≡ 0
  pub within : 0 < n → at < n
  pub kind : 0 < n → patience_at cs at ≡ most
  pub no_less : (k : ℕ) → k < n → patience_at cs k ≤ most
  pub less : (k : ℕ) → at < k → k < n → patience_at cs k < most

-- one more, which minds no more than any before, or minds more
pub last_here : (cs : List Constraint) (n at most kind : ℕ) → IsLastOfLeast cs n at most → patience_at cs n ≡ kind → most ≤ kind
    → IsLastOfLeast cs (n + 1) n kind
last_here cs n at most kind last own more = record {
  none = λ none. absurd (omega (arith, none));
  within = λ _. omega arith;
  kind = λ _. own;
  no_less = λ k to. elim (cases_lt k n) [
    | inl less ↦ omega (arith, last.no_less k less, more)
    | inr here ↦ let same : k ≡ n = omega arith in omega (arith, ap (patience_at cs) same, own)
  ];
  less = λ k from to. absurd (omega arith);
}

pub last_still : (cs : List Constraint) (n at most kind : ℕ) → IsLastOfLeast cs n at most → patience_at cs n ≡ kind → kind < most
    → IsLastOfLeast cs (n + 1) at most
last_still cs n at most kind last own less =
    let some : 0 < n = elim (cases_lt 0 n) [
      | inl more ↦ more
      | inr none ↦ absurd (omega (arith, less, last.none (omega arith)))
    ] in
    let here : (k : ℕ) → n ≤ k → k < n + 1 → patience_at cs k < most = λ k from to.
    let same : k ≡ n = omega arith in omega (arith, ap (patience_at cs) same, own, less) in
    record {
      none = λ none. absurd (omega (arith, none));
      within = λ _. omega (arith, last.within some);
      kind = λ _. last.kind some;
      no_less = λ k to. elim (cases_lt k n) [
        | inl before ↦ last.no_less k before
        | inr from ↦ omega (arith, here k from to)
      ];
      less = λ k after to. elim (cases_lt k n) [ inl before ↦ last.less k after before | inr from ↦ here k from to ];
    }

-- those before it mind no less, and those after it more
pub stretchable_split : (cs : List Constraint) (at : ℕ) → IsStretchableAt cs at
    → IsStretchable (take at cs) (get_or cs at (Max 0)) (drop (at + 1) cs)
stretchable_split cs at s =
    let most = patience_at cs at in
    let P : Constraint → Type 0 = λ d. patience d ≤ most in
    let Q : Constraint → Type 0 = λ d. patience d < most in
    record {
      no_less = All-from_get_or P (take at cs) (Max 0) (λ k within.
          let before : k < at = omega (arith, length-take at cs, within) in
          subst P (sym (get_or-take at cs k (Max 0) before)) (s.no_less k before));
      less = All-from_get_or Q (drop (at + 1) cs) (Max 0) (λ k within.
          subst Q (sym (get_or-drop (at + 1) cs k (Max 0)))
          (s.less (at + 1 + k) (omega arith) (omega (arith, length-drop (at + 1) cs, within, s.within))));
    }
