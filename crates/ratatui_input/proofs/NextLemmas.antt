-- Bytes that go on with what has come.
use Rattle.std.proofs.Common.{◌≡◌, true, refl, arith}
use Rattle.ratatui_input.specs.declared.decoder.State.{State}
use Rattle.ratatui_input.specs.Decoding.{Next, Whole, More, Apart}
use Rattle.ratatui_input.specs.Inner.{has_further, further_state}

-- the further state is the byte's own, whatever was there before
pub further : (n : Next) (a b : State) → has_further n ≡ true → further_state n a ≡ further_state n b
further (More s) a b h = refl
further (Whole e) a b h = grind arith
further Apart a b h = grind arith
