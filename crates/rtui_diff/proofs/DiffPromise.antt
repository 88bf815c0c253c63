-- The updates of the diff's rule keep what a diff promises.
use Rattle.std.proofs.Common.{◌*◌, ℕ, List, map, refl, ap}
use Rattle.rtui_cell.specs.declared.cell.Cell.{Cell}
use Rattle.rtui_diff.specs.{Updates.update_at, Updates.updates, Diff.IsDiff}
use Rattle.rtui_diff.proofs.{ReplayLemmas.updates_rises, ReplayLemmas.updates_own, ReplayLemmas.replays, GivenLemmas.given_narrow}
use Rattle.rtui_diff.proofs.{GivenLemmas.gives_little}
use Rattle.rtui_diff.proofs.EnoughLemmas.{gives_enough}

pub is_diff : (x0 y0 w h : ℕ) (ps ns : List Cell) → IsDiff x0 y0 w h ps ns (updates x0 y0 w h ps ns)
is_diff x0 y0 w h ps ns = record {
  walks = refl;
  rises = updates_rises x0 y0 w h ps ns;
  own = updates_own x0 y0 w h ps ns;
  narrow = λ narrow. ap (map (update_at x0 y0 w ns)) (given_narrow (w * h) ps ns narrow);
  replays = replays x0 y0 w h ps ns;
  minimal = gives_little x0 y0 w h ps ns;
  complete = gives_enough x0 y0 w h ps ns;
}
