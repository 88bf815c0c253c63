use Rattle.std.proofs.Common.{◌≡◌, string_bytes, ℕ}
use Rattle.editor.specs.declared.editor.Mode.TheVariants.{Typing}
use Rattle.editor.specs.Offers.{ReplacesMany}
use Rattle.editor.proofs.editor.Editor.replace_all.Given as goal

abbrev pub invariant-loop : goal.invariant-loop
invariant-loop l =
    ((n : ℕ) × ReplacesMany (string_bytes l.fn.self.pattern) (string_bytes l.fn.self.piece) n l.fn.self.area l.self.area)
    × (string_bytes l.self.pattern ≡ string_bytes l.fn.self.pattern)
    × (string_bytes l.self.piece ≡ string_bytes l.fn.self.piece)
    × (string_bytes l.self.saved ≡ string_bytes l.fn.self.saved) × (l.self.mode ≡ Typing)
