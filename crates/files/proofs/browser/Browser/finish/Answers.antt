use Rattle.files.proofs.FinishLemmas.{finish-by}
use Rattle.files.proofs.browser.Browser.finish.Goals as goal

pub returns-clause-ok : goal.returns-clause-ok
returns-clause-ok c = finish-by c.args.self.now c.go_on.new.self c.note_move.new.self c.in_ok-moved.moved c.names_typed-self.result
    c.in_ok-go_on.ensures.ok c.note_move.ensures c.in_ok-moved.ensures c.names_typed-self.ensures
