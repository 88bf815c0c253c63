use Rattle.std.proofs.Common.{◌≡◌, ◌≤◌, [], ◌∷◌, take, length, string_bytes}
use Rattle.ratatui_core.specs.Style.{bits_of, modifiers}
use Rattle.ansi_model.specs.Inner.{AddsParameters, parameters_of}
use Rattle.ansi_model.proofs.sgr.push_modifiers.Given as goal

abbrev pub invariant-loop-modifier : goal.invariant-loop-modifier
invariant-loop-modifier l = record {
  adds : AddsParameters (59 ∷ []) (string_bytes l.initial.out) (string_bytes l.out)
      (parameters_of (bits_of l.modifiers) (take l.modifier-index modifiers));
  counts : l.count ≡ length (parameters_of (bits_of l.modifiers) (take l.modifier-index modifiers));
  most : l.count ≤ l.modifier-index;
}
