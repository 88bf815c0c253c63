use Rattle.std.proofs.Common.{refl}
use Rattle.ratatui_ansi.specs.declared.tracker.Tracker.{Tracker}
use Rattle.ratatui_ansi.proofs.TrackLemmas.{shown-collected, shown-already, call-from, visible-kept}
use Rattle.ratatui_ansi.proofs.tracker.Tracker.show.Goals as goal

pub returns-then-visible-self-clause-ok : goal.returns-then-visible-self-clause-ok
returns-then-visible-self-clause-ok c = shown-already c.args.self.now c.args.visible c.requires c.if-visible-self.true

pub returns-clause-ok : goal.returns-clause-ok
returns-clause-ok c =
    let k = c.args.self.now in
    let w = k.size.width in
    let h = k.size.height in
    let flags = k.continuations.items in
    let after : Tracker = record k { out = c.set_visible.new.out; is_visible = c.args.visible } in
    shown-collected k after c.args.visible c.requires refl
    (call-from w h _ _ k.cursor k.cursor flags flags _ _ (c.in_ok-set_visible.ensures w h)
    (visible-kept w h c.args.visible k.cursor flags))
