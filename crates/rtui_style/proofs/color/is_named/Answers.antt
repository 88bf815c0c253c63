use Rattle.std.proofs.Common.{true, false, length, nat_eq, sym, ap, ◌∙◌, arith}
use Rattle.std.proofs.lemmas.{Iterator.YieldsList-from_chars, Iterator.Consumers.YieldsList-turn}
use Rattle.std.proofs.lemmas.{Iterator.Consumers.YieldsList-end, List.length_push}
use Rattle.std.specs.{Cmp.Lexicographic.pointwise, Str.chars}
use Rattle.rtui_style.proofs.Names.{counting-drop, counting-end, next_same, next_differs, name_ended, text_ended}
use Rattle.rtui_style.proofs.color.is_named.Goals as goal

pub loop-c-preserved-then-is_kept : goal.loop-c-preserved-then-is_kept
loop-c-preserved-then-is_kept c =
    let t = YieldsList-turn (YieldsList-from_chars c.args.text.now c.utf8.text cc) c.loop-c.yielded _ c.loop-c.yielded_by _ _
    c.in-Some.c c.in-Some.is c.next.ensures.steps in
    let kept = counting-drop (chars c.args.text.now) (length c.loop-c.yielded) c.in-Some.c true t (cc) in
    rw (length_push c.loop-c.yielded c.in-Some.c)
    (next_same c.loop-c.rest.now _ c.in-Some-split_first.tail.now _ _ _ c.in-Some-split_first.ensures.cases.0 kept (cc)
    ∙ c.loop-c.invariant)

pub returns-then-first-lowered : goal.returns-then-first-lowered
returns-then-first-lowered c =
    let t = YieldsList-turn (YieldsList-from_chars c.args.text.now c.utf8.text cc) c.loop-c.yielded _ c.loop-c.yielded_by _ _
    c.in-Some.c c.in-Some.is c.next.ensures.steps in
    let kept = counting-drop (chars c.args.text.now) (length c.loop-c.yielded) c.in-Some.c true t (cc) in
    next_differs c.loop-c.rest.now _ c.in-Some-split_first.tail.now _ _ _ c.in-Some-split_first.ensures.cases.0 kept
    (λ same. c.if-first-lowered.true (same ∙ sym c.lowered.ensures)) ∙ c.loop-c.invariant

pub returns-in_default : goal.returns-in_default
returns-in_default c =
    let t = YieldsList-turn (YieldsList-from_chars c.args.text.now c.utf8.text cc) c.loop-c.yielded _ c.loop-c.yielded_by _ _
    c.in-Some.c c.in-Some.is c.next.ensures.steps in
    let kept = counting-drop (chars c.args.text.now) (length c.loop-c.yielded) c.in-Some.c true t (cc) in
    name_ended c.loop-c.rest.now _ _ _ (rw c.in_default.is at c.split_first.ensures.cases) kept ∙ c.loop-c.invariant

pub loop-c-preserved : goal.loop-c-preserved
loop-c-preserved c =
    let t = YieldsList-turn (YieldsList-from_chars c.args.text.now c.utf8.text cc) c.loop-c.yielded _ c.loop-c.yielded_by _ _
    c.in-Some.c c.in-Some.is c.next.ensures.steps in
    let skipped = counting-drop (chars c.args.text.now) (length c.loop-c.yielded) c.in-Some.c false t (cc) in
    rw (length_push c.loop-c.yielded c.in-Some.c) (ap (pointwise nat_eq c.loop-c.rest.now) (sym skipped) ∙ c.loop-c.invariant)

pub returns : goal.returns
returns c =
    let t = YieldsList-end (YieldsList-from_chars c.args.text.now c.utf8.text cc) c.loop-c.yielded _ c.loop-c.yielded_by _ _
    c.in-None.is c.next.ensures.steps in
    let ended = counting-end (chars c.args.text.now) (length c.loop-c.yielded) (omega (arith, t.1)) in
    c.is_empty.ensures ∙ text_ended c.loop-c.rest.now _ ended ∙ c.loop-c.invariant
