use Rattle.std.proofs.Common.{length, chars, string_bytes, ◌∙◌, arith}
use Rattle.std.proofs.lemmas.{Iterator.YieldsList-from_chars, Iterator.Consumers.YieldsList-turn}
use Rattle.std.proofs.lemmas.{Iterator.Consumers.YieldsList-end, List.length_push}
use Rattle.text_area.proofs.TypedLemmas.{unified-step, unified-end}
use Rattle.text_area.proofs.typed.with_feeds.Goals as goal

pub loop-c-preserved : goal.loop-c-preserved
loop-c-preserved c =
    let t = YieldsList-turn (YieldsList-from_chars c.args.text.now c.utf8.text cc) c.loop-c.yielded _
    c.loop-c.yielded_by _ _
    c.in-Some.c c.in-Some.is c.next.ensures.steps in
    rw (length_push c.loop-c.yielded c.in-Some.c)
    (unified-step (chars c.args.text.now) _ _ (length c.loop-c.yielded) c.in-Some.c c.loop-c.after t.0 t.1
    c.in_ok-push_unified.ensures
    ∙ c.loop-c.invariant)

pub returns : goal.returns
returns c =
    let t = YieldsList-end (YieldsList-from_chars c.args.text.now c.utf8.text cc) c.loop-c.yielded _
    c.loop-c.yielded_by _ _
    c.in-None.is c.next.ensures.steps in
    unified-end (chars c.args.text.now) (string_bytes c.loop-c.copy) (length c.loop-c.yielded)
    c.loop-c.after (omega (arith, t.1))
    ∙ c.loop-c.invariant
