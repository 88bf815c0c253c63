-- The laws of styles, over the definitions.
use Rattle.std.proofs.Common.{◌≡◌, ℕ, ◌<◌, ◌^◌, Option, Some, None, refl, ap, ◌∙◌}
use Rattle.rtui_style.specs.{declared.color.Color.Color, declared.Modifier.Modifier, declared.Style.Style, Modifier.bits_of}
use Rattle.rtui_style.specs.{Modifier.modifier_of}
use Rattle.rtui_style.specs.Style.{new_style, patch, color_or, color_after, modifier_after}
use Rattle.rtui_style.proofs.Bits as bits

color_or-associates : (a b c : Option Color) → color_or c (color_or b a) ≡ color_or (color_or c b) a
color_or-associates a b None = refl
color_or-associates a b (Some c) = refl

pub color_after-or : (a b : Option Color) (c : Color) → color_after b (color_after a c) ≡ color_after (color_or b a) c
color_after-or a None c = refl
color_after-or a (Some b) c = refl

color_or-none : (a : Option Color) → color_or a None ≡ a
color_or-none None = refl
color_or-none (Some c) = refl

abbrev style_of : Option Color → Option Color → Option Color → ℕ → ℕ → Style
style_of f b u a s = record { fg = f; bg = b; underline_color = u; add_modifier = modifier_of a; sub_modifier = modifier_of s }

-- two styles with the same parts
same_style : (p q : Style) → p.fg ≡ q.fg → p.bg ≡ q.bg → p.underline_color ≡ q.underline_color
    → bits_of p.add_modifier ≡ bits_of q.add_modifier → bits_of p.sub_modifier ≡ bits_of q.sub_modifier → p ≡ q
same_style p q f b u a s =
    ap (λ x. style_of x p.bg p.underline_color (bits_of p.add_modifier) (bits_of p.sub_modifier)) f
    ∙ ap (λ x. style_of q.fg x p.underline_color (bits_of p.add_modifier) (bits_of p.sub_modifier)) b
    ∙ ap (λ x. style_of q.fg q.bg x (bits_of p.add_modifier) (bits_of p.sub_modifier)) u
    ∙ ap (λ x. style_of q.fg q.bg q.underline_color x (bits_of p.sub_modifier)) a
    ∙ ap (λ x. style_of q.fg q.bg q.underline_color (bits_of q.add_modifier) x) s

pub patch_associates : (p q r : Style) → bits_of p.add_modifier < 2 ^ 16 → bits_of p.sub_modifier < 2 ^ 16
    → bits_of q.add_modifier < 2 ^ 16 → bits_of q.sub_modifier < 2 ^ 16 → bits_of r.add_modifier < 2 ^ 16
    → bits_of r.sub_modifier < 2 ^ 16
    → patch (patch p q) r ≡ patch p (patch q r)
patch_associates p q r pa ps qa qs ra rs = same_style (patch (patch p q) r) (patch p (patch q r))
    (color_or-associates p.fg q.fg r.fg) (color_or-associates p.bg q.bg r.bg)
    (color_or-associates p.underline_color q.underline_color r.underline_color)
    (bits.patch_associates (bits_of p.add_modifier) (bits_of q.add_modifier) (bits_of q.sub_modifier)
    (bits_of r.add_modifier) (bits_of r.sub_modifier) pa qa qs ra rs)
    (bits.patch_associates (bits_of p.sub_modifier) (bits_of q.sub_modifier) (bits_of q.add_modifier)
    (bits_of r.sub_modifier) (bits_of r.add_modifier) ps qs qa rs ra)

pub new_style_above : (p : Style) → bits_of p.add_modifier < 2 ^ 16 → bits_of p.sub_modifier < 2 ^ 16 → patch p new_style ≡ p
new_style_above p pa ps = same_style (patch p new_style) p refl refl refl
    (bits.over_nothing (bits_of p.add_modifier) pa) (bits.over_nothing (bits_of p.sub_modifier) ps)

pub new_style_below : (p : Style) → patch new_style p ≡ p
new_style_below p = same_style (patch new_style p) p (color_or-none p.fg) (color_or-none p.bg) (color_or-none p.underline_color)
    (bits.less-nothing (bits_of p.sub_modifier) (bits_of p.add_modifier)) (bits.less-nothing (bits_of p.add_modifier)
    (bits_of p.sub_modifier))

pub modifier_after-patch : (p q : Style) (m : Modifier) → bits_of m < 2 ^ 16 → bits_of p.add_modifier < 2 ^ 16
    → bits_of p.sub_modifier < 2 ^ 16
    → bits_of q.add_modifier < 2 ^ 16 → bits_of q.sub_modifier < 2 ^ 16
    → modifier_after q (modifier_after p m) ≡ modifier_after (patch p q) m
modifier_after-patch p q m h pa ps qa qs = ap modifier_of
    (bits.painted_twice (bits_of m) (bits_of p.add_modifier) (bits_of p.sub_modifier) (bits_of q.add_modifier)
    (bits_of q.sub_modifier) h pa ps qa qs)
