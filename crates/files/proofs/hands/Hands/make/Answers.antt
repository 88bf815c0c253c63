use Rattle.std.proofs.Common.{subst, sym}
use Rattle.ratatui_files.specs.declared.command.Command.TheVariants.{MakeFolder}
use Rattle.files.specs.Trash.{IsTrashFolder}
use Rattle.files.proofs.DiscardLemmas.{prepares-one}
use Rattle.files.proofs.hands.Hands.make.Goals as goal

pub returns : goal.returns
returns g c = prepares-one g.P.Performs.does c.args.discard.now (MakeFolder c.in_ok-copy.field-0) c.touch-answer.result
    c.args.self.now.files c.touch-answer.new.self.files
    (subst (λ path. IsTrashFolder c.args.discard.now path) (sym c.in_ok-copy.ensures) c.requires.of_trash) c.touch-answer.ensures
