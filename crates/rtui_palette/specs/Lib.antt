pub mod Material
pub mod Tailwind
