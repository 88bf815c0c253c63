use Rattle.std.proofs.Common.{refl}
use Rattle.ratatui_core.specs.Buffer.{width_of}
use Rattle.ansi_model.proofs.PutLemmas.{put-shown}
use Rattle.ansi_model.proofs.laws.a_printed_symbol_is_put.Goals as goal

pub returns : goal.returns
returns c = λ w h u columns whole uncut some fits row. put-shown w h u.x u.y (width_of u.cell) u columns whole uncut refl refl
    refl some fits row
