use Rattle.std.proofs.Common.{◌≡◌, ◌<◌, min, sym, ap, subst, ◌∙◌, arith}
use Rattle.std.proofs.lemmas.{Result.on_ok_weaker}
use Rattle.rtui_backend.specs.{Screen.ScrollsUp, TestBackend.screen_of}
use Rattle.printed_backend.specs.{Printed.shown_on, Inner.ScrollsFront, Inner.looks_in}
use Rattle.printed_backend.proofs.{DrawingLemmas.ok_holds, LeavingLemmas.lower_scrolled, LeavingLemmas.region_scrolled}
use Rattle.printed_backend.proofs.backend.PrintedBackend.scroll_up.Goals as goal

pub returns-then-region-gt0-clause-ok : goal.returns-then-region-gt0-clause-ok
returns-then-region-gt0-clause-ok c =
    let s = c.args.self.now in
    lower_scrolled c.args.region.start c.args.region.end c.args.n (looks_in s.rows) s.written (screen_of s.screen)
    (screen_of c.scroll_up.new.self) c.if-region-gt0.true
    (ok_holds c.scroll_up.result (c.scroll_up.ensures.short c.if-region-gt0.true) c.scroll_up.ensures.ok)

pub returns-clause-ok : goal.returns-clause-ok
returns-clause-ok c =
    let s = shown_on c.args.self.now in
    let t = shown_on c.scroll_front.new.self in
    let first : c.args.region.start ≡ 0 = omega (arith, c.if-region-gt0.false) in
    let high = ap (λ r. r.height) (c.area.ensures.area ∙ c.buffer.ensures.area) in
    let end : c.min-end.result ≡ min c.args.region.end s.height = omega (arith, c.min-end.ensures, high) in
    let some : 0 < min c.args.region.end s.height = omega (arith, end, c.if-end-eq0.false) in
    on_ok_weaker c.scroll_front.result (λ front. subst (λ a. ScrollsUp a c.args.region.end c.args.n s t) (sym first)
    (region_scrolled s c.args.region.end c.args.n t some (subst (λ e. ScrollsFront e c.args.n s t) end front)))
    c.scroll_front.ensures.ok
