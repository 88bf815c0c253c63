use Rattle.std.proofs.Common.{rules}
use Rattle.std.proofs.lemmas.Fn.{filter_same}
use Rattle.files.specs.Marks.{has_row_named}
use Rattle.files.proofs.marks.keep_listed.Goals as goal

pub returns : goal.returns
returns c = filter_same _ (has_row_named c.args.rows.now) _ (λ x b f' k. search rules) _ _ c.retain.ensures.filtered
