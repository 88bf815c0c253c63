use Rattle.std.proofs.Common.{take, length}
use Rattle.std.specs.Str.{str_eq_ignore_ascii_case}
use Rattle.std.proofs.lemmas.Bool.Decides.{same_from_decides}
use Rattle.pager.proofs.SearchLemmas.{same-case}
use Rattle.pager.proofs.symbols.begins_in_any_case.Goals as goal

pub returns : goal.returns
returns c =
    let front = take (length c.args.pattern.now) c.args.text.now in
    same_from_decides c.eq_ignore_ascii_case.result (str_eq_ignore_ascii_case c.args.pattern.now front)
    c.eq_ignore_ascii_case.ensures.test (same-case c.args.pattern.now front)
