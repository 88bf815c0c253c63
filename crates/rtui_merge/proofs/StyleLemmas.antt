-- Styles and arms by their numbers, and a test of all of them.
use Rattle.std.proofs.Common.{◌≡◌, ℕ, zero, suc, ◌||◌, not, List, [], ◌∷◌, map, refl, get_or, ap, ◌∙◌, sym, Bool, true, inl, inr}
use Rattle.std.specs.List.{list_all}
use Rattle.std.proofs.lemmas.Bool.{and_parts, eqb-true, or_cases, both_ways, not-true}
use Rattle.rtui_merge.specs.{declared.border_symbol.LineStyle.LineStyle, declared.border_symbol.BorderSymbol.BorderSymbol}
use Rattle.rtui_merge.specs.declared.border_symbol.LineStyle.TheVariants.{Nothing, Plain, Double, Thick, Rounded, DoubleDash}
use Rattle.rtui_merge.specs.declared.border_symbol.LineStyle.TheVariants.{DoubleDashThick, TripleDash, TripleDashThick}
use Rattle.rtui_merge.specs.declared.border_symbol.LineStyle.TheVariants.{QuadrupleDash, QuadrupleDashThick}
use Rattle.rtui_merge.specs.Arms.{style_number, same_style, same_arms}

-- the styles by their numbers
abbrev pub styles : List LineStyle
styles =
    Nothing ∷ Plain ∷ Double ∷ Thick ∷ Rounded ∷ DoubleDash ∷ DoubleDashThick ∷ TripleDash ∷ TripleDashThick
    ∷ QuadrupleDash ∷ QuadrupleDashThick ∷ []

pub get_or-map-styles : {X : Type 0} (f : LineStyle → X) (style : LineStyle) (d : X)
    → get_or (map f styles) (style_number style) d ≡ f style
get_or-map-styles f Nothing d = refl
get_or-map-styles f Plain d = refl
get_or-map-styles f Double d = refl
get_or-map-styles f Thick d = refl
get_or-map-styles f Rounded d = refl
get_or-map-styles f DoubleDash d = refl
get_or-map-styles f DoubleDashThick d = refl
get_or-map-styles f TripleDash d = refl
get_or-map-styles f TripleDashThick d = refl
get_or-map-styles f QuadrupleDash d = refl
get_or-map-styles f QuadrupleDashThick d = refl

pub same_style-true : (a b : LineStyle) → same_style a b ≡ true → a ≡ b
unfolding same_style
same_style-true a b e =
    sym (get_or-map-styles (λ style. style) a Nothing)
    ∙ ap (λ n. get_or (map (λ style. style) styles) n Nothing) (eqb-true (style_number a) (style_number b) e)
    ∙ get_or-map-styles (λ style. style) b Nothing

pub same_arms-true : (a b : BorderSymbol) → same_arms a b ≡ true → a ≡ b
same_arms-true a b e =
    let right = and_parts _ _ e in
    let up = and_parts _ _ right.1 in
    let left = and_parts _ _ up.1 in
    λ i. record {
      right = same_style-true a.right b.right right.0 i;
      up = same_style-true a.up b.up up.0 i;
      left = same_style-true a.left b.left left.0 i;
      down = same_style-true a.down b.down left.1 i;
    }

get_or-map-list_all : {X : Type 0} (test : X → Bool) (xs : List X) (n : ℕ) → list_all test xs ≡ true
    → get_or (map test xs) n true ≡ true
get_or-map-list_all test [] n e = refl
get_or-map-list_all test (x ∷ xs) zero e = (and_parts _ _ e).0
get_or-map-list_all test (x ∷ xs) (suc n) e = get_or-map-list_all test xs n (and_parts _ _ e).1

-- what a test of all styles says of one
list_all-styles : (test : LineStyle → Bool) → list_all test styles ≡ true → (style : LineStyle) → test style ≡ true
list_all-styles test e style = sym (get_or-map-styles test style true) ∙ get_or-map-list_all test styles (style_number style) e

-- the test holds of any four arms
abbrev pub all_arms : (BorderSymbol → Bool) → Bool
all_arms test =
    list_all (λ right. list_all (λ up. list_all (λ left. list_all (λ down.
    test (record { right = right; up = up; left = left; down = down })) styles) styles) styles) styles

pub all_arms-at : (test : BorderSymbol → Bool) → all_arms test ≡ true → (s : BorderSymbol) → test s ≡ true
all_arms-at test e s =
    list_all-styles (λ down. test (record s { down = down }))
    (list_all-styles (λ left. list_all (λ down. test (record s { left = left; down = down })) styles)
    (list_all-styles (λ up. list_all (λ left. list_all (λ down. test (record s { up = up; left = left; down = down })) styles)
    styles)
    (list_all-styles (λ right. list_all
    (λ up. list_all (λ left. list_all (λ down. test (record s { right = right; up = up; left = left; down = down })) styles)
    styles) styles) e s.right) s.up) s.left) s.down

-- the arms that pass one test pass the other
pub all_arms-if : (test then : BorderSymbol → Bool) → all_arms (λ s. not (test s) || then s) ≡ true → (s : BorderSymbol)
    → test s ≡ true → then s ≡ true
all_arms-if test then all s e =
    elim (or_cases (not (test s)) (then s) (all_arms-at (λ s. not (test s) || then s) all s)) [
      | inl fails ↦ absurd (both_ways (test s) (not-true _ fails) e)
      | inr passes ↦ passes
    ]
