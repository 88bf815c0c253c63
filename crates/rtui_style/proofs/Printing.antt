-- Printing a colour.
use Rattle.std.proofs.Common.{◌≡◌, ℕ, ◌<◌, ◌^◌, ◌-◌, true, false, List, [], ◌++◌, codes, ap, ap₂, sym, ◌∙◌}
use Rattle.std.specs.Fmt.{padded_integral, format_spec, digits}
use Rattle.std.proofs.lemmas.Fmt as fmt
use Rattle.rtui_style.specs.{declared.color.Color.Color, declared.color.Color.TheVariants.Rgb, Color.color_text, Color.hex_byte}

-- what `{:02X}` writes
abbrev pub padded_hex : ℕ → List ℕ
padded_hex n = padded_integral (format_spec 32 0 4 2 (2 ^ 64 - 1)) false [] (digits 16 true n)

pub color_text-rgb : (color : Color) (r g b : ℕ) → color ≡ Rgb r g b → r < 2 ^ 8 → g < 2 ^ 8 → b < 2 ^ 8
    → color_text color ≡ codes "#" ++ (padded_hex r ++ (padded_hex g ++ padded_hex b))
color_text-rgb color r g b is hr hg hb =
    ap color_text is ∙ sym (ap (λ x. codes "#" ++ (x ++ (padded_hex g ++ padded_hex b))) (fmt.hex_byte true r hr)
    ∙ ap₂ (λ x y. codes "#" ++ (hex_byte r ++ (x ++ y))) (fmt.hex_byte true g hg) (fmt.hex_byte true b hb))
