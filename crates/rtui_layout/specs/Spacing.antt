-- Signed numbers as space or overlap.
use Rattle.std.specs.Prelude.{ℤ, pos, negsuc, ◌+◌, min}
use Rattle.rtui_layout.specs.{declared.layout.Spacing.Spacing, declared.layout.Spacing.TheVariants.Space}
use Rattle.rtui_layout.specs.{declared.layout.Spacing.TheVariants.Overlap}

-- space, or below 0 an overlap of as much
abbrev pub spacing_from : ℤ → Spacing
spacing_from (pos n) = Space n
spacing_from (negsuc n) = Overlap (n + 1)

-- the same of a number cut to 16 bits
abbrev pub cut_spacing_from : ℤ → Spacing
cut_spacing_from (pos n) = Space (min n 32767)
cut_spacing_from (negsuc n) = Overlap (min (n + 1) 32768)
