-- Palettes of colours, and the numbers that make them.
pub use Rattle.rtui_palette.specs.declared.tailwind.Palette.{Palette}
pub use Rattle.rtui_palette.specs.declared.material.AccentedPalette.{AccentedPalette}
pub use Rattle.rtui_palette.specs.declared.material.NonAccentedPalette.{NonAccentedPalette}
pub use Rattle.rtui_palette.specs.Material.{accented_of, non_accented_of, accented_palettes}
pub use Rattle.rtui_palette.specs.Material.{non_accented_palettes, accented_numbers, non_accented_numbers}
