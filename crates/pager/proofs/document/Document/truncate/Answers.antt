use Rattle.std.proofs.Common.{ap, map, sym, take, ◌∙◌}
use Rattle.std.proofs.lemmas.List.{take-map}
use Rattle.pager.proofs.document.Document.truncate.Goals as goal

pub returns : goal.returns
returns c =
    ap (map (λ line. line.now)) c.truncate.ensures.items ∙ sym (take-map (λ line. line.now) c.args.count c.self.inside.lines.items)
    ∙ ap (take c.args.count) c.self.view_is
