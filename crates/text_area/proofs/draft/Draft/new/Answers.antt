use Rattle.std.proofs.Common.{rules}
use Rattle.std.proofs.lemmas.Str.{IsCharBoundary-start, IsUtf8-string_bytes}
use Rattle.text_area.proofs.draft.Draft.new.Goals as goal

pub invariant_of-result : goal.invariant_of-result
invariant_of-result c = (
  IsCharBoundary-start _ (IsUtf8-string_bytes c.args.text),
  search rules,
  search rules,
  search rules,
  search rules,
  search rules,
)
