-- The laws of merging.
use Rattle.std.proofs.Common.{◌≡◌, Option, Some, None, IfSome, IsSome, refl}
use Rattle.std.specs.Char.{encode_utf8}
use Rattle.rtui_merge.specs.declared.MergeStrategy.TheVariants.{Replace, Exact, Fuzzy}
use Rattle.rtui_merge.specs.{declared.border_symbol.BorderSymbol.BorderSymbol, Symbols.symbols, Symbols.arms_of}
use Rattle.rtui_merge.specs.{Symbols.symbol_of}
use Rattle.rtui_merge.specs.Merge.{exact, fuzzy, by_arms, merged}
use Rattle.rtui_merge.specs.Laws.{AreBoxDrawings, DifferInArms, FoundByArms, FuzzyKeepsExact, MergesWithItself}
use Rattle.rtui_merge.proofs.TableLemmas.{symbol_of-arms_of, arms_of-symbol_of}
use Rattle.rtui_merge.proofs.MergeLemmas.{exact-itself, fuzzy-itself, fuzzy_symbol}

pub merges_with_itself : MergesWithItself
unfolding merged
merges_with_itself Replace text = refl
merges_with_itself Exact text = cases (arms_of text) refl
  where
    cases : (o : Option BorderSymbol) → arms_of text ≡ o → by_arms exact o o text text ≡ text
    cases None e = refl
    cases (Some a) e = rw (exact-itself text a e, symbol_of-arms_of text a e) refl
merges_with_itself Fuzzy text = cases (arms_of text) refl
  where
    cases : (o : Option BorderSymbol) → arms_of text ≡ o → by_arms (λ a b. fuzzy (exact a b) b) o o text text ≡ text
    cases None e = refl
    cases (Some a) e = rw (fuzzy-itself text a e, symbol_of-arms_of text a e) refl

pub fuzzy_keeps_exact : FuzzyKeepsExact
unfolding merged
fuzzy_keeps_exact prev next = cases (arms_of prev) (arms_of next)
  where
    cases : (o o' : Option BorderSymbol)
        → IfSome o (λ a. IfSome o' (λ b. IsSome (symbol_of (exact a b))
        → by_arms (λ a b. fuzzy (exact a b) b) o o' prev next ≡ by_arms exact o o' prev next))
    cases None o' = tt
    cases (Some a) None = tt
    cases (Some a) (Some b) = λ some. rw (fuzzy_symbol (exact a b) b some) refl

pub found_by_arms : FoundByArms
found_by_arms text arms = (symbol_of-arms_of text arms, arms_of-symbol_of text arms)

pub differ_in_arms : DifferInArms
differ_in_arms a b arms e f = cc (symbol_of-arms_of a arms e, symbol_of-arms_of b arms f)

pub are_box_drawings : AreBoxDrawings
unfolding symbols encode_utf8
are_box_drawings = refl

pub ruleset border_symbols = (are_box_drawings, found_by_arms, differ_in_arms)
