use Rattle.std.proofs.lemmas.{Bool.Decides.same_from_decides, Str.Pattern.contains_text}
use Rattle.std.proofs.Common.{◌≡◌, sym, ap, ◌∙◌, true}
use Rattle.files.specs.Finding.{has_upper, stands_in}
use Rattle.files.proofs.FindLemmas.{stands-decides}
use Rattle.files.proofs.search.stands_in.Goals as goal

pub returns-then-has_upper : goal.returns-then-has_upper
returns-then-has_upper c =
    let is : has_upper c.args.text.now ≡ true =
    ap has_upper (sym c.as_bytes.ensures.value) ∙ sym c.has_upper.ensures ∙ c.if-has_upper.true in
    same_from_decides c.contains.result (stands_in c.args.text.now c.args.name.now)
    (contains_text c.contains.result c.args.text.now c.args.name.now c.contains.ensures.cases)
    (stands-decides c.args.text.now c.args.name.now is)
