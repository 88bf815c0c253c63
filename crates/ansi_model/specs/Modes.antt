-- Modes that other programs may leave set, and that change how a terminal takes text or shows it.
use Rattle.std.specs.Prelude.{◌||◌, not, Bool, false}

-- IRM (text shifts what stands after it), DECOM (places count from the margins), DECLRMM (margins at the
-- sides), DECAWM reset (text doesn't wrap), a synchronized update (what is printed stands, but isn't shown
-- yet), SO and another set than ASCII as G0 (other letters are shown), and another coding than UTF-8
pub record Modes : Type 0 where
  pub inserts : Bool
  pub origin : Bool
  pub sides : Bool
  pub unwrapped : Bool
  pub held : Bool
  pub shifted : Bool
  pub lettered : Bool
  pub coded : Bool

-- none of them
abbrev pub no_modes : Modes
no_modes = record {
  inserts = false;
  origin = false;
  sides = false;
  unwrapped = false;
  held = false;
  shifted = false;
  lettered = false;
  coded = false;
}

-- none of those that change how text is taken: in a synchronized update it is taken as ever
abbrev pub has_none : Modes → Bool
has_none m = not (m.inserts || m.origin || m.sides || m.unwrapped || m.shifted || m.lettered || m.coded)
