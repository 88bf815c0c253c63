use Rattle.std.proofs.Common.{rules, not}
use Rattle.std.proofs.lemmas.Fn.{filter_same}
use Rattle.files.specs.Marks.{is_mark_named}
use Rattle.files.proofs.marks.drop_named.Goals as goal

pub returns : goal.returns
returns c = filter_same _ (λ mark. not (is_mark_named c.args.name.now mark)) _ (λ x b f' k. search rules) _ _ c.retain.ensures.filtered
