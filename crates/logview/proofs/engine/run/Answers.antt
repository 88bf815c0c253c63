use Rattle.std.proofs.Common.{rules}
use Rattle.script_words.proofs.ResultLemmas.{ok-passed}
use Rattle.logview.proofs.LogLemmas.{prints_log, fault_of_read}
use Rattle.logview.proofs.engine.run.Goals as goal

pub returns-in_err-view-clause-fault : goal.returns-in_err-view-clause-fault
returns-in_err-view-clause-fault g c =
    let why = fault_of_read (g.R.Read.remaining c.args.reader.now) c.in_ok-bytes.bytes.items _ c.in_ok-bytes.ensures.ok
    (rw c.as_slice.ensures.value at c.in_err-view.ensures.fault) in
    search rules

pub returns-clause-printed : goal.returns-clause-printed
returns-clause-printed g c = ok-passed c.write_view.result c.map_err.result c.map_err.ensures.variant (λ written.
    prints_log (g.R.Read.remaining c.args.reader.now) c.in_ok-bytes.bytes.items c.in_ok-view.view _ _ c.in_ok-bytes.ensures.ok
    (rw c.as_slice.ensures.value at c.in_ok-view.ensures.text) (rw c.as_slice.ensures.value at c.in_ok-view.ensures.view)
    written) c.write_view.ensures
