use Rattle.std.proofs.Common.{sym}
use Rattle.rtui_inside.proofs.InsideLemmas.{row-inside}
use Rattle.widget_throbber.specs.Sets.{turned_symbol}
use Rattle.widget_throbber.proofs.ThrobberLemmas.{no-symbol, one-symbol}
use Rattle.widget_throbber.proofs.throbber.ThrobberDrawStateInside.draw_state_inside.Goals as goal

pub returns-in_default-clause-done : goal.returns-in_default-clause-done
returns-in_default-clause-done c =
    let t = c.args.self.now in
    no-symbol t (turned_symbol t.throbber_set t.use_type c.args.state.now.index) c.args.inner
    (sym (rw c.in_default.is at c.symbol.ensures))

pub put_symbol-requires : goal.put_symbol-requires
put_symbol-requires c =
    row-inside c.args.buf.now.area c.args.inner c.of.result 0 c.requires.some c.requires.inside c.requires.some.rows c.of.ensures

pub returns-clause-done : goal.returns-clause-done
returns-clause-done c =
    let t = c.args.self.now in
    one-symbol t (turned_symbol t.throbber_set t.use_type c.args.state.now.index) c.in-Some.symbol.now c.args.inner c.of.result
    c.put_symbol.result (sym (rw c.in-Some.is at c.symbol.ensures)) c.of.ensures c.put_symbol.ensures
