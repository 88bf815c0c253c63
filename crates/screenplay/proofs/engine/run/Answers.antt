use Rattle.script_words.proofs.ResultLemmas.{ok-passed}
use Rattle.screenplay.proofs.ActLemmas.{prints_run}
use Rattle.screenplay.proofs.engine.run.Goals as goal

pub returns-clause-printed : goal.returns-clause-printed
returns-clause-printed g c = ok-passed c.write_text.result c.map_err.result c.map_err.ensures.variant (λ written.
    prints_run (g.R.Read.remaining c.args.reader.now) c.in_ok-bytes.bytes.items c.in_ok-text.text.items
    (g.W.Write.contents c.args.writer.now) (g.W.Write.contents c.write_text.new.writer)
    c.in_ok-bytes.ensures.ok (rw c.as_slice.ensures.value at c.in_ok-text.ensures.printed)
    (rw c.as_slice-2.ensures.value at written)) c.write_text.ensures
