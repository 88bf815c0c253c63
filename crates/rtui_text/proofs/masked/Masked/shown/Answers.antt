use Rattle.std.proofs.Common.{ap, ◌∙◌, encode_utf8, chars}
use Rattle.std.specs.List.{flat_map}
use Rattle.std.proofs.lemmas.{Iterator.YieldsList-from_chars, Iterator.Consumers.YieldsList-end}
use Rattle.rtui_text.proofs.masked.Masked.shown.Goals as goal

pub returns-clause-value : goal.returns-clause-value
returns-clause-value c =
    let all = YieldsList-end (YieldsList-from_chars c.as_str.result.now c.as_str.utf8 cc) c.loop-c.yielded _ c.loop-c.yielded_by _
    _ c.in-None.is c.next.ensures.steps in
    rw (← c.self.view_is) (rw (← c.self.view_is) at c.loop-c.invariant ∙ ap (flat_map (λ _. encode_utf8 c.self.inside.mask_char))
    (all.0 ∙ ap chars c.as_str.ensures.value))
