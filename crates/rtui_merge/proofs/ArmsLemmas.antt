-- The symbol of four arms, as the tables by arms give it.
use Rattle.std.proofs.Common.{◌≡◌, ℕ, ◌&&◌, ◌||◌, not, List, [], ◌∷◌, Option, Some, None, map, refl, get_or, ap, ◌∙◌, sym, Bor}
use Rattle.std.proofs.Common.{Bool, true, false, if◌then◌else◌}
use Rattle.std.specs.{List.list_all, Option.option_map, Option.option_copied, Char.encode_utf8, Str.bytes_eq}
use Rattle.std.specs.{Cmp.Lexicographic.same_text}
use Rattle.std.proofs.lemmas.Bool.{both_ways, and_from, not_from_false, cond_both}
use Rattle.std.proofs.Math.ListN.{get_or-map}
use Rattle.rtui_merge.specs.{declared.border_symbol.LineStyle.LineStyle, declared.border_symbol.LineStyle.TheVariants.Nothing}
use Rattle.rtui_merge.specs.declared.border_symbol.BorderSymbol.{BorderSymbol}
use Rattle.rtui_merge.specs.declared.tables.TheConstants.{CROSSINGS, HORIZONTALS, VERTICALS}
use Rattle.rtui_merge.specs.Arms.{style_number, same_style, same_arms, is_straight, is_corner, bends, contains}
use Rattle.rtui_merge.specs.Shapes.{is_mixed, is_rounded, across, upright}
use Rattle.rtui_merge.specs.Symbols.{Symbol, symbols, symbol_of}
use Rattle.rtui_merge.proofs.FindLemmas.{find-other_shape}
use Rattle.rtui_merge.proofs.StyleLemmas.{get_or-map-styles, same_arms-true, all_arms, all_arms-if}

-- the tables of straight symbols
abbrev pub horizontals : List (Option (List ℕ))
horizontals = map (option_map (λ text. text.now)) HORIZONTALS

pub symbol_of_across : (style : LineStyle) → get_or horizontals (style_number style) None ≡ symbol_of (across style)
unfolding symbol_of symbols encode_utf8 same_style
symbol_of_across style = get_or-map-styles (λ style. symbol_of (across style)) style None

abbrev pub verticals : List (Option (List ℕ))
verticals = map (option_map (λ text. text.now)) VERTICALS

pub symbol_of_upright : (style : LineStyle) → get_or verticals (style_number style) None ≡ symbol_of (upright style)
unfolding symbol_of symbols encode_utf8 same_style
symbol_of_upright style = get_or-map-styles (λ style. symbol_of (upright style)) style None

-- a straight symbol is horizontal or vertical
across_all : all_arms (λ s. not (is_straight s && same_style s.up Nothing) || same_arms (across s.right) s) ≡ true
unfolding is_straight same_style
across_all = refl

pub is_straight_across : (s : BorderSymbol) → is_straight s ≡ true → same_style s.up Nothing ≡ true
    → symbol_of (across s.right) ≡ symbol_of s
is_straight_across s e n =
    ap symbol_of (same_arms-true _ _ (all_arms-if (λ s. is_straight s && same_style s.up Nothing)
    (λ s. same_arms (across s.right) s) across_all s (and_from _ _ e n)))

upright_all : all_arms (λ s. not (is_straight s && not (same_style s.up Nothing)) || same_arms (upright s.up) s) ≡ true
unfolding is_straight same_style
upright_all = refl

pub is_straight_upright : (s : BorderSymbol) → is_straight s ≡ true → same_style s.up Nothing ≡ false
    → symbol_of (upright s.up) ≡ symbol_of s
is_straight_upright s e n =
    ap symbol_of (same_arms-true _ _ (all_arms-if (λ s. is_straight s && not (same_style s.up Nothing))
    (λ s. same_arms (upright s.up) s) upright_all s (and_from _ _ e (not_from_false _ n))))

-- the two texts are one, or there are none
abbrev pub same_symbol : Option (List ℕ) → Option (List ℕ) → Bool
same_symbol None None = true
same_symbol None (Some b) = false
same_symbol (Some a) None = false
same_symbol (Some a) (Some b) = bytes_eq a b

pub same_symbol-true : (a b : Option (List ℕ)) → same_symbol a b ≡ true → a ≡ b
same_symbol-true None None e = refl
same_symbol-true None (Some b) e = absurd (both_ways false refl e)
same_symbol-true (Some a) None e = absurd (both_ways false refl e)
same_symbol-true (Some a) (Some b) e = ap Some (same_text a b (sym e))

-- the table of the styles that mix
abbrev pub crossings : List (List (List (List (Option (List ℕ)))))
crossings = map (map (map (map (option_map (λ text. text.now))))) CROSSINGS

-- its entry for four arms
abbrev pub crossing_of : BorderSymbol → Option (List ℕ)
crossing_of s =
    get_or (get_or (get_or (get_or crossings (style_number s.right) []) (style_number s.up) []) (style_number s.left) [])
    (style_number s.down) None

crossing_all : all_arms (λ s. not (is_mixed s) || same_symbol (crossing_of s) (symbol_of s)) ≡ true
unfolding symbol_of symbols encode_utf8 is_mixed same_style
crossing_all = refl

pub symbol_of_crossing : (s : BorderSymbol) → is_mixed s ≡ true → crossing_of s ≡ symbol_of s
symbol_of_crossing s e =
    same_symbol-true (crossing_of s) (symbol_of s)
    (all_arms-if is_mixed (λ s. same_symbol (crossing_of s) (symbol_of s)) crossing_all s e)

-- what a table of lent texts gives
pub copied_crossing : (table : List (List (List (List (Option (Bor (List ℕ))))))) (r u l d : ℕ)
    → option_copied (get_or (get_or (get_or (get_or table r []) u []) l []) d None) ≡ get_or
    (get_or (get_or (get_or (map (map (map (map option_copied))) table) r []) u []) l []) d None
copied_crossing table r u l d =
    sym (get_or-map option_copied _ d None)
    ∙ ap (λ (xs : List (Option (List ℕ))). get_or xs d None)
    (sym (get_or-map (map option_copied) _ l [])
    ∙ ap (λ (xs : List (List (Option (List ℕ)))). get_or xs l [])
    (sym (get_or-map (map (map option_copied)) _ u [])
    ∙ ap (λ (xs : List (List (List (Option (List ℕ))))). get_or xs u [])
    (sym (get_or-map (map (map (map option_copied))) table r []))))

-- the rounded corner with these arms: the last byte tells whether one leads to the right, and whether one leads up
abbrev pub rounded_of : BorderSymbol → Option (List ℕ)
rounded_of s =
    Some (226 ∷ 149 ∷ (if same_style s.right Nothing
    then (if same_style s.up Nothing then 174 else 175)
    else (if same_style s.up Nothing then 173 else 176)) ∷ [])

rounded_all : all_arms (λ s. not (is_rounded s) || same_symbol (symbol_of s) (rounded_of s)) ≡ true
unfolding symbol_of symbols encode_utf8 is_rounded is_corner bends contains same_style
rounded_all = refl

pub symbol_of_rounded : (s : BorderSymbol) → is_rounded s ≡ true → symbol_of s ≡ rounded_of s
symbol_of_rounded s e =
    same_symbol-true (symbol_of s) (rounded_of s)
    (all_arms-if is_rounded (λ s. same_symbol (symbol_of s) (rounded_of s)) rounded_all s e)

-- every symbol is in one of the tables
abbrev is_listed : BorderSymbol → Bool
is_listed s = is_mixed s || (is_straight s || is_rounded s)

listed_all : list_all (λ symbol. is_listed symbol.arms) symbols ≡ true
unfolding symbols is_mixed is_straight is_rounded is_corner bends contains same_style
listed_all = refl

symbol_of_unlisted : (s : BorderSymbol) → is_listed s ≡ false → symbol_of s ≡ None
unfolding symbol_of
symbol_of_unlisted s e =
    ap (option_map (λ (symbol : Symbol). symbol.text))
    (find-other_shape (λ symbol. symbol.arms) same_arms same_arms-true is_listed symbols s listed_all e)

pub symbol_of_none : (s : BorderSymbol) → is_mixed s ≡ false → is_straight s ≡ false → is_rounded s ≡ false → symbol_of s ≡ None
symbol_of_none s m t r = symbol_of_unlisted s (rw (m, t, r))

-- what is left of the arms that don't all mix
pub ruleset straight_or_unlisted = (is_straight_across, is_straight_upright, symbol_of_none)

-- the symbol of four arms, by the tables
abbrev pub looked_up : BorderSymbol → Option (List ℕ)
looked_up s =
    if is_mixed s then crossing_of s
    else (if is_straight s
    then (if same_style s.up Nothing then get_or horizontals (style_number s.right) None else get_or verticals
    (style_number s.up) None)
    else (if is_rounded s then rounded_of s else None))

pub looked_up-is : (s : BorderSymbol) → looked_up s ≡ symbol_of s
looked_up-is s =
    cond_both (is_mixed s) _ _ (λ o. o ≡ symbol_of s) (symbol_of_crossing s) (λ m.
    cond_both (is_straight s) _ _ (λ o. o ≡ symbol_of s)
    (λ t. cond_both (same_style s.up Nothing) _ _ (λ o. o ≡ symbol_of s)
    (λ n. symbol_of_across s.right ∙ is_straight_across s t n)
    (λ n. symbol_of_upright s.up ∙ is_straight_upright s t n))
    (λ t. cond_both (is_rounded s) _ _ (λ o. o ≡ symbol_of s)
    (λ r. sym (symbol_of_rounded s r))
    (λ r. sym (symbol_of_none s m t r))))
