-- The table of symbols as a whole: what a test of its rows says of a text and its arms.
use Rattle.std.proofs.Common.{◌≡◌, ℕ, List, Option, Some, None, refl, ap, ◌∙◌, sym, Bool, true, false}
use Rattle.std.specs.{List.list_all, Char.encode_utf8, Str.bytes_eq, Cmp.Lexicographic.same_text}
use Rattle.std.proofs.lemmas.Bool.{both_ways}
use Rattle.rtui_merge.specs.{declared.border_symbol.BorderSymbol.BorderSymbol, Arms.same_arms, Arms.same_style}
use Rattle.rtui_merge.specs.Symbols.{Symbol, symbols, arms_of, symbol_of}
use Rattle.rtui_merge.proofs.{FindLemmas.find-part, StyleLemmas.same_arms-true, ArmsLemmas.same_symbol}
use Rattle.rtui_merge.proofs.{ArmsLemmas.same_symbol-true}

-- a text with its arms is a row
pub arms_of-row : (test : Symbol → Bool) → list_all test symbols ≡ true → (text : List ℕ) (arms : BorderSymbol)
    → arms_of text ≡ Some arms → test (record { text = text; arms = arms }) ≡ true
unfolding arms_of
arms_of-row test all text arms e =
    let row = find-part (λ symbol. symbol.arms) test (λ symbol. bytes_eq symbol.text text) symbols arms all e in
    ap test (sym (λ i. record { text = same_text row.0.text text (sym row.2) i; arms = row.3 i })) ∙ row.1

-- four arms with their symbol are a row
pub symbol_of-row : (test : Symbol → Bool) → list_all test symbols ≡ true → (text : List ℕ) (arms : BorderSymbol)
    → symbol_of arms ≡ Some text → test (record { text = text; arms = arms }) ≡ true
unfolding symbol_of
symbol_of-row test all text arms e =
    let row = find-part (λ symbol. symbol.text) test (λ symbol. same_arms symbol.arms arms) symbols text all e in
    ap test (sym (λ i. record { text = row.3 i; arms = same_arms-true row.0.arms arms row.2 i })) ∙ row.1

-- each symbol is found by its arms, so no two have the same
by_arms_all : list_all (λ symbol. same_symbol (symbol_of symbol.arms) (Some symbol.text)) symbols ≡ true
unfolding symbols symbol_of encode_utf8 same_style
by_arms_all = refl

pub symbol_of-arms_of : (text : List ℕ) (arms : BorderSymbol) → arms_of text ≡ Some arms → symbol_of arms ≡ Some text
symbol_of-arms_of text arms e =
    same_symbol-true _ _ (arms_of-row (λ symbol. same_symbol (symbol_of symbol.arms) (Some symbol.text)) by_arms_all text arms e)

abbrev has_arms : Option BorderSymbol → BorderSymbol → Bool
has_arms None arms = false
has_arms (Some found) arms = same_arms found arms

has_arms-true : (found : Option BorderSymbol) (arms : BorderSymbol) → has_arms found arms ≡ true → found ≡ Some arms
has_arms-true None arms e = absurd (both_ways false refl e)
has_arms-true (Some found) arms e = ap Some (same_arms-true found arms e)

-- and by its text
by_text_all : list_all (λ symbol. has_arms (arms_of symbol.text) symbol.arms) symbols ≡ true
unfolding symbols arms_of encode_utf8 same_style
by_text_all = refl

pub arms_of-symbol_of : (text : List ℕ) (arms : BorderSymbol) → symbol_of arms ≡ Some text → arms_of text ≡ Some arms
arms_of-symbol_of text arms e =
    has_arms-true _ _ (symbol_of-row (λ symbol. has_arms (arms_of symbol.text) symbol.arms) by_text_all text arms e)
