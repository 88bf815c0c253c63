use Rattle.std.proofs.Common.{[], ◌∷◌, ◌++◌}
use Rattle.std.specs.Fmt.{decimal}
use Rattle.std.proofs.lemmas.Result.{on_ok_weaker}
use Rattle.ansi_model.proofs.ReadLemmas.{inserting-read}
use Rattle.ansi_model.proofs.sequences.insert_lines.Goals as goal

pub returns : goal.returns
returns c = on_ok_weaker c.write.result (λ e. record {
  bytes = 27 ∷ 91 ∷ (decimal c.args.n ++ 76 ∷ []);
  appended = e;
  read = inserting-read c.args.n c.requires c.ranges.n.fits;
}) c.write.ensures.bytes
