-- The laws of merging, over the definitions alone.
use Rattle.std.specs.Prelude.{◌≡◌, ◌↔◌, ℕ, List, ◌++◌, map, Some, IfSome, IsSome, encode_utf8}
use Rattle.std.specs.List.{range_with_len}
use Rattle.rtui_merge.specs.{declared.MergeStrategy.MergeStrategy, declared.MergeStrategy.TheVariants.Exact}
use Rattle.rtui_merge.specs.{declared.MergeStrategy.TheVariants.Fuzzy}
use Rattle.rtui_merge.specs.{declared.border_symbol.BorderSymbol.BorderSymbol, Symbols.symbols}
use Rattle.rtui_merge.specs.{Symbols.arms_of, Symbols.symbol_of, Merge.exact, Merge.merged}

-- a text merged with itself is that text
abbrev pub MergesWithItself : Type 0
MergesWithItself = (strategy : MergeStrategy) (text : List ℕ) → merged strategy text text ≡ text

-- if a symbol has just the arms of both, Fuzzy gives it as Exact does
abbrev pub FuzzyKeepsExact : Type 0
FuzzyKeepsExact =
    (prev next : List ℕ) → IfSome (arms_of prev) (λ a. IfSome (arms_of next) (λ b.
    IsSome (symbol_of (exact a b)) → merged Fuzzy prev next ≡ merged Exact prev next))

-- a text has these arms exactly if it is the symbol that is found by them
abbrev pub FoundByArms : Type 0
FoundByArms = (text : List ℕ) (arms : BorderSymbol)
    → (arms_of text ≡ Some arms) ↔ (symbol_of arms ≡ Some text)

-- no two symbols have the same arms
abbrev pub DifferInArms : Type 0
DifferInArms =
    (a b : List ℕ) (arms : BorderSymbol) → arms_of a ≡ Some arms → arms_of b ≡ Some arms → a ≡ b

-- the symbols are the 113 characters from U+2500 on and the 12 from U+2574 on
abbrev pub AreBoxDrawings : Type 0
AreBoxDrawings =
    map (λ symbol. symbol.text) symbols ≡ map encode_utf8
    (range_with_len 0x2500 113 ++ range_with_len 0x2574 12)
