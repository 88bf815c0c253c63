-- Each symbol that borders can be joined of is narrow, and so is what is joined of narrow ones.
use Rattle.std.proofs.Common.{◌≡◌, ℕ, ◌≤◌, Bool, true, false, if◌then◌else◌, List, [], ◌∷◌, length, Option, Some, None, unwrap_or}
use Rattle.std.proofs.Common.{refl, subst, arith, nat_le}
use Rattle.std.specs.{List.find, List.list_all, Option.option_map, Char.encode_utf8}
use Rattle.std.proofs.lemmas.{Bool.and_parts, Bool.Decides.nat_tests}
use Rattle.unicode_width.proofs.Computing.{unicode_width}
use Rattle.rtui_merge.specs.Symbols.{Symbol, symbols, symbol_of, arms_of}
use Rattle.rtui_merge.specs.{Arms.same_arms, declared.MergeStrategy.MergeStrategy}
use Rattle.rtui_merge.specs.Merge.{merged, by_arms, exact, fuzzy}
use Rattle.rtui_merge.specs.declared.MergeStrategy.TheVariants.{Replace, Exact, Fuzzy}
use Rattle.rtui_cell.specs.{Symbol.joined, Symbol.symbol_text, Symbol.IsShort, Width.text_width}
use Rattle.rtui_cell.specs.Narrow.{IsNarrow, is_narrow}

pub narrow-test : (text : List ℕ) → is_narrow text ≡ true → IsNarrow text
narrow-test text e =
    let parts = and_parts (nat_le (text_width text) 1) (nat_le (length text) 22) e in
    let first = parts.0 in let second = parts.1 in
    record { columns = grind (arith, nat_tests, first); memory = grind (arith, nat_tests, second) }

-- each symbol of the table
pub all-narrow : list_all (λ s. is_narrow s.text) symbols ≡ true
unfolding symbols encode_utf8 text_width unicode_width
all-narrow = refl

found-here : (b : Bool) (s : Symbol) (rest : Option Symbol) (t : List ℕ)
    → option_map (λ x. x.text) (if b then Some s else rest) ≡ Some t → is_narrow s.text ≡ true
    → (option_map (λ x. x.text) rest ≡ Some t → is_narrow t ≡ true) → is_narrow t ≡ true
found-here true s rest t e here more = let same : s.text ≡ t = cc in subst (λ u. is_narrow u ≡ true) same here
found-here false s rest t e here more = more e

found-narrow : (test : Symbol → Bool) (ss : List Symbol) → list_all (λ s. is_narrow s.text) ss ≡ true → (t : List ℕ)
    → option_map (λ s. s.text) (find test ss) ≡ Some t → is_narrow t ≡ true
found-narrow test [] all t e = absurd (cc)
found-narrow test (s ∷ ss) all t e =
    let parts = and_parts (is_narrow s.text) (list_all (λ x. is_narrow x.text) ss) all in
    found-here (test s) s (find test ss) t e parts.0 (found-narrow test ss parts.1 t)

symbol-narrow : (x : _) (t : List ℕ) → symbol_of x ≡ Some t → IsNarrow t
unfolding symbol_of
symbol-narrow x t e = narrow-test t (found-narrow (λ s. same_arms s.arms x) symbols all-narrow t e)

-- what narrow texts have, and the former and the next one have, the joined one has
module _ (P : List ℕ → Type 0) (narrow : (t : List ℕ) → IsNarrow t → P t) where
  unwrap-keeps : (o : Option (List ℕ)) (next : List ℕ) → ((t : List ℕ) → o ≡ Some t → IsNarrow t) → P next → P (unwrap_or o next)
  unwrap-keeps None next all n = n
  unwrap-keeps (Some t) next all n = narrow t (all t refl)

  by_arms-keeps : (f : _) (a b : Option _) (prev next : List ℕ) → P prev → P next → P (by_arms f a b prev next)
  by_arms-keeps f (Some x) (Some y) prev next p n = unwrap-keeps (symbol_of (f x y)) next (symbol-narrow (f x y)) n
  by_arms-keeps f None (Some y) prev next p n = p
  by_arms-keeps f (Some x) None prev next p n = n
  by_arms-keeps f None None prev next p n = n

  pub merged-keeps : (m : MergeStrategy) (prev next : List ℕ) → P prev → P next → P (merged m prev next)
  unfolding merged
  merged-keeps Replace prev next p n = n
  merged-keeps Exact prev next p n = by_arms-keeps exact (arms_of prev) (arms_of next) prev next p n
  merged-keeps Fuzzy prev next p n = by_arms-keeps (λ a b. fuzzy (exact a b) b) (arms_of prev) (arms_of next) prev next p n

  pub joined-keeps : (m : MergeStrategy) (o : Option (List ℕ)) (next : List ℕ) → P (symbol_text o) → P next → P (joined m o next)
  joined-keeps m None next p n = n
  joined-keeps m (Some t) next p n = merged-keeps m t next p n

pub merged-narrow : (m : MergeStrategy) (prev next : List ℕ) → IsNarrow prev → IsNarrow next → IsNarrow (merged m prev next)
merged-narrow m prev next p n = merged-keeps IsNarrow (λ t is. is) m prev next p n

-- as far as columns go, and as far as memory goes
pub joined-columns : (m : MergeStrategy) (o : Option (List ℕ)) (next : List ℕ) → text_width (symbol_text o) ≤ 1
    → text_width next ≤ 1 → text_width (joined m o next) ≤ 1
joined-columns m o next p n = joined-keeps (λ t. text_width t ≤ 1) (λ t is. is.columns) m o next p n

pub merged-short : (m : MergeStrategy) (prev next : List ℕ) → IsShort prev → IsShort next → IsShort (merged m prev next)
merged-short m prev next p n = merged-keeps IsShort (λ t is. is.memory) m prev next p n

pub joined-short : (m : MergeStrategy) (o : Option (List ℕ)) (next : List ℕ) → IsShort (symbol_text o) → IsShort next
    → IsShort (joined m o next)
joined-short m o next p n = joined-keeps IsShort (λ t is. is.memory) m o next p n
