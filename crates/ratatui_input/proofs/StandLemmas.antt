-- Bytes that stand for an event, or for nothing that is known.
use Rattle.std.proofs.Common.{◌≡◌, ◌≢◌, ◌⊎◌, ℕ, ◌<◌, ◌≤◌, Bool, true, false, List, [], ◌∷◌, refl, arith}
use Rattle.std.specs.Prelude.{nat_lt, if◌then◌else◌, ◌==◌}
use Rattle.std.proofs.lemmas.Bool.Decides.{nat_tests}
use Rattle.ratatui_events.specs.declared.event.Event.{Event}
use Rattle.ratatui_events.specs.declared.event.Event.TheVariants.{Key, Unknown}
use Rattle.ratatui_events.specs.declared.key.KeyCode.TheVariants.{Esc}
use Rattle.ratatui_events.specs.Key.{held, pressed}
use Rattle.ratatui_input.specs.Keys.{typed_key, with_alt}
use Rattle.ratatui_input.specs.Grammar.{WritesNumber, Encodes, IsOpener}
use Rattle.ratatui_input.specs.Decoding.{lies_in}
use Rattle.ratatui_input.specs.Pieces.{Tolerates}

-- bytes that stand for an event, or for nothing that is known
pub data Stands : List ℕ → Event → Type 0 where
  grammar_stands : {bytes : List ℕ} {event : Event} → Encodes bytes event → Stands bytes event
  numbers_stand : {bytes : List ℕ} {event : Event} → Tolerates bytes event → Stands bytes event
  escape_stands : Stands (27 ∷ []) (Key (pressed Esc (held 0)))
  bracket_stands : Stands (27 ∷ 91 ∷ []) (with_alt (typed_key 91) true)
  opener_stands : {b : ℕ} → IsOpener b → Stands (27 ∷ b ∷ []) (with_alt (typed_key b) true)
  single_stands : {ds : List ℕ} → WritesNumber ds 0 → Stands (27 ∷ 79 ∷ ds) (with_alt (typed_key 79) true)
  not_known : {bytes : List ℕ} → bytes ≢ [] → Stands bytes Unknown

pub if-stands : {bytes : List ℕ} (t : Bool) (x y : Event) → (t ≡ true → Stands bytes x) → (t ≡ false → Stands bytes y)
    → Stands bytes (if t then x else y)
if-stands true x y f g = f refl
if-stands false x y f g = g refl

pub same : (a b : ℕ) → (a == b) ≡ true → a ≡ b
same a b h = grind (arith, nat_tests)

pub differ : (a b : ℕ) → (a == b) ≡ false → a ≢ b
differ a b h = λ e. grind (arith, nat_tests)

pub lies : (low high b : ℕ) → lies_in low high b ≡ true → (low ≤ b) × (b ≤ high)
lies low high b h = grind (arith, nat_tests)

pub lies-not : (low high b : ℕ) → lies_in low high b ≡ false → (b < low) ⊎ (high < b)
lies-not low high b h = grind (arith, nat_tests)

pub not-below : (a b : ℕ) → nat_lt a b ≡ false → b ≤ a
not-below a b h = grind (arith, nat_tests)
