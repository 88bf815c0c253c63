use Rattle.std.proofs.Common.{◌+◌, string_bytes, [], ◌∷◌, ◌++◌, ap, ◌∙◌}
use Rattle.std.specs.Fmt.{decimal}
use Rattle.std.proofs.lemmas.Result.{on_ok_weaker}
use Rattle.ansi_model.proofs.ReadLemmas.{region-read}
use Rattle.ansi_model.proofs.sequences.set_region.Goals as goal

pub returns : goal.returns
returns c =
    let old = string_bytes c.args.out.now in
    let rest = 59 ∷ (decimal c.args.bottom ++ 114 ∷ []) in
    on_ok_weaker c.write.result (λ e. record {
      bytes = 27 ∷ 91 ∷ (decimal (c.args.top + 1) ++ rest);
      appended = e ∙ ap (λ r. old ++ (27 ∷ 91 ∷ (decimal (r + 1) ++ rest))) c.from.ensures;
      read = region-read c.args.top c.args.bottom c.ranges.top.fits c.ranges.bottom.fits;
    }) c.write.ensures.bytes
