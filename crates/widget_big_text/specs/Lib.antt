pub mod Glyphs
pub mod BigTexts
pub mod Inner
