use Rattle.std.proofs.Common.{[], ◌∷◌, ◌++◌}
use Rattle.std.specs.Fmt.{decimal}
use Rattle.std.proofs.lemmas.Result.{on_ok_weaker}
use Rattle.ansi_model.proofs.ReadLemmas.{deleting-read}
use Rattle.ansi_model.proofs.sequences.delete_lines.Goals as goal

pub returns : goal.returns
returns c = on_ok_weaker c.write.result (λ e. record {
  bytes = 27 ∷ 91 ∷ (decimal c.args.n ++ 77 ∷ []);
  appended = e;
  read = deleting-read c.args.n c.requires c.ranges.n.fits;
}) c.write.ensures.bytes
