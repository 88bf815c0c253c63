-- What merging gives, computed for every pair of border symbols.
use Rattle.std.proofs.Common.{◌≡◌, ℕ, ◌&&◌, ◌||◌, not, List, Option, Some, None, is_some, refl, ap, ◌∙◌, sym, Bool, true, false}
use Rattle.std.proofs.Common.{if◌then◌else◌}
use Rattle.std.specs.{List.list_all, Bool.beq, Cmp.booleans_Decides}
use Rattle.std.proofs.lemmas.Bool.{and_parts, not-true, both_ways}
use Rattle.rtui_merge.specs.declared.border_symbol.LineStyle.TheVariants.{Plain, Double, Thick}
use Rattle.rtui_merge.specs.{declared.border_symbol.BorderSymbol.BorderSymbol, Shapes.is_mixed, Shapes.is_rounded}
use Rattle.rtui_merge.specs.Arms.{same_style, same_arms, is_straight, is_corner, bends, contains, replace}
use Rattle.rtui_merge.specs.Symbols.{symbols, arms_of, symbol_of}
use Rattle.rtui_merge.specs.Merge.{exact, fuzzy, solid_unless_straight, square_unless_corner, double_or_thick, double_or_plain}
use Rattle.rtui_merge.specs.Merge.{right, up, left, down, has_arm, HasArmsOfBoth, Unites}
use Rattle.rtui_merge.proofs.{StyleLemmas.same_arms-true, ArmsLemmas.looked_up, ArmsLemmas.looked_up-is}
use Rattle.rtui_merge.proofs.TableLemmas.{arms_of-row, symbol_of-row, symbol_of-arms_of, arms_of-symbol_of}

-- the rules change no symbol
abbrev is_unchanged : BorderSymbol → Bool
is_unchanged s =
    same_arms (solid_unless_straight s) s
    && (same_arms (square_unless_corner s) s && not (contains s Double && contains s Thick))

unchanged_all : list_all (λ symbol. is_unchanged symbol.arms) symbols ≡ true
unfolding symbols solid_unless_straight square_unless_corner is_straight is_corner bends contains replace same_style
unchanged_all = refl

pub fuzzy_symbol : (s next : BorderSymbol) → is_some (symbol_of s) ≡ true → fuzzy s next ≡ s
unfolding fuzzy double_or_thick double_or_plain
fuzzy_symbol s next some =
    let parts = and_parts (same_arms (solid_unless_straight s) s) _ (symbol_row (symbol_of s) refl some) in
    let more = and_parts (same_arms (square_unless_corner s) s) _ parts.1 in
    let solid : solid_unless_straight s ≡ s = same_arms-true _ s parts.0 in
    let square : square_unless_corner s ≡ s = same_arms-true _ s more.0 in
    let apart : (contains s Double && contains s Thick) ≡ false = not-true _ more.1 in
    rw (solid, square, apart, some) refl
  where
    symbol_row : (o : Option (List ℕ)) → symbol_of s ≡ o → is_some o ≡ true → is_unchanged s ≡ true
    symbol_row None e none = absurd (both_ways false refl none)
    symbol_row (Some text) e found = symbol_of-row (λ symbol. is_unchanged symbol.arms) unchanged_all text s e

-- a symbol over itself
itself_all : list_all (λ symbol. same_arms (exact symbol.arms symbol.arms) symbol.arms) symbols ≡ true
unfolding symbols exact same_style
itself_all = refl

-- the last rule with the search of a symbol by the tables
abbrev quick_plain : BorderSymbol → BorderSymbol → BorderSymbol
quick_plain s next =
    if is_some (looked_up s) then s else (if contains next Double then replace s Plain Double else replace s Double Plain)

quick_plain-is : (s next : BorderSymbol) → quick_plain s next ≡ double_or_plain s next
unfolding double_or_plain
quick_plain-is s next =
    ap (λ (o : Option (List ℕ)). if is_some o then s else
    (if contains next Double then replace s Plain Double else replace s Double Plain)) (looked_up-is s)

-- Fuzzy with that rule
abbrev quick_fuzzy : BorderSymbol → BorderSymbol → BorderSymbol
quick_fuzzy prev next =
    quick_plain (double_or_thick (square_unless_corner (solid_unless_straight (exact prev next))) next) next

quick_fuzzy-is : (prev next : BorderSymbol) → quick_fuzzy prev next ≡ fuzzy (exact prev next) next
unfolding fuzzy
quick_fuzzy-is prev next = quick_plain-is (double_or_thick (square_unless_corner (solid_unless_straight (exact prev next))) next)
    next

-- s is a symbol, with an arm exactly where a or b has one
abbrev unites : BorderSymbol → BorderSymbol → BorderSymbol → Bool
unites a b s =
    is_some (looked_up s)
    && (beq (has_arm s right) (has_arm a right || has_arm b right)
    && (beq (has_arm s up) (has_arm a up || has_arm b up)
    && (beq (has_arm s left) (has_arm a left || has_arm b left)
    && beq (has_arm s down) (has_arm a down || has_arm b down))))

unites_all : list_all (λ prev. list_all (λ next. unites prev.arms next.arms (quick_fuzzy prev.arms next.arms)) symbols)
    symbols ≡ true
unfolding symbols exact solid_unless_straight square_unless_corner double_or_thick is_mixed is_straight is_rounded is_corner bends
    contains replace same_style
unites_all = refl

unites_at : (prev next : List ℕ) (a b : BorderSymbol) → arms_of prev ≡ Some a → arms_of next ≡ Some b
    → unites a b (fuzzy (exact a b) b) ≡ true
unites_at prev next a b p n =
    ap (unites a b) (sym (quick_fuzzy-is a b))
    ∙ arms_of-row (λ symbol. unites a symbol.arms (quick_fuzzy a symbol.arms))
    (arms_of-row (λ symbol. list_all (λ next. unites symbol.arms next.arms (quick_fuzzy symbol.arms next.arms)) symbols)
    unites_all prev a p) next b n

unites-sides : (a b s : BorderSymbol) → unites a b s ≡ true → HasArmsOfBoth a b s
unites-sides a b s e side =
    let sides = and_parts (is_some (looked_up s)) _ e in
    let at_right = and_parts (beq (has_arm s right) (has_arm a right || has_arm b right)) _ sides.1 in
    let at_up = and_parts (beq (has_arm s up) (has_arm a up || has_arm b up)) _ at_right.1 in
    let at_left = and_parts (beq (has_arm s left) (has_arm a left || has_arm b left)) _ at_up.1 in
    elim side as (λ side. has_arm s side ≡ (has_arm a side || has_arm b side)) [
      | right ↦ (booleans_Decides _ _).0 at_right.0
      | up ↦ (booleans_Decides _ _).0 at_up.0
      | left ↦ (booleans_Decides _ _).0 at_left.0
      | down ↦ (booleans_Decides _ _).0 at_left.1
    ]

pub unites_without_prev : (prev next result : List ℕ) → arms_of prev ≡ None → Unites prev next result
unfolding Unites
unites_without_prev prev next result p = rw p tt

pub unites_without_next : (prev next result : List ℕ) (a : BorderSymbol) → arms_of prev ≡ Some a → arms_of next ≡ None
    → Unites prev next result
unfolding Unites
unites_without_next prev next result a p n = rw (p, n) tt

pub unites_symbols : (prev next result : List ℕ) (a b : BorderSymbol) → arms_of prev ≡ Some a → arms_of next ≡ Some b
    → symbol_of (fuzzy (exact a b) b) ≡ Some result → Unites prev next result
unfolding Unites
unites_symbols prev next result a b p n e =
    rw (p, n, arms_of-symbol_of result (fuzzy (exact a b) b) e)
    (unites-sides a b (fuzzy (exact a b) b) (unites_at prev next a b p n))

pub unites_exact : (prev next result : List ℕ) (a b : BorderSymbol) → arms_of prev ≡ Some a → arms_of next ≡ Some b
    → symbol_of (exact a b) ≡ Some result → Unites prev next result
unites_exact prev next result a b p n e =
    unites_symbols prev next result a b p n (rw (fuzzy_symbol (exact a b) b (ap is_some e)) e)

-- Fuzzy always finds a symbol
pub fuzzy_found : (prev next : List ℕ) (a b : BorderSymbol) → arms_of prev ≡ Some a → arms_of next ≡ Some b
    → is_some (symbol_of (fuzzy (exact a b) b)) ≡ true
fuzzy_found prev next a b p n =
    ap is_some (sym (looked_up-is (fuzzy (exact a b) b)))
    ∙ (and_parts (is_some (looked_up (fuzzy (exact a b) b))) _ (unites_at prev next a b p n)).0

pub ruleset merging = (fuzzy_symbol, fuzzy_found, unites_without_prev, unites_without_next, unites_exact, unites_symbols)

pub exact-itself : (text : List ℕ) (a : BorderSymbol) → arms_of text ≡ Some a → exact a a ≡ a
exact-itself text a e =
    same_arms-true _ _ (arms_of-row (λ symbol. same_arms (exact symbol.arms symbol.arms) symbol.arms) itself_all text a e)

pub fuzzy-itself : (text : List ℕ) (a : BorderSymbol) → arms_of text ≡ Some a → fuzzy (exact a a) a ≡ a
fuzzy-itself text a e =
    rw (exact-itself text a e) (fuzzy_symbol a a (ap is_some (symbol_of-arms_of text a e)))
