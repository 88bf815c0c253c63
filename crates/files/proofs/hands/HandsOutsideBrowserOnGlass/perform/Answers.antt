use Rattle.std.proofs.Common.{rules}
use Rattle.files.proofs.DiscardLemmas.{asked-discard, asked-look, asked-change}
use Rattle.files.proofs.hands.HandsOutsideBrowserOnGlass.perform.Goals as goal

pub returns-in-Trashing : goal.returns-in-Trashing
returns-in-Trashing g c = record {
  answers = asked-discard g.P.Performs.does c.args.state.now c.args._command.now _ _ _ c.requires.asked (search rules) c.discard.ensures;
}

pub returns-in-Looking : goal.returns-in-Looking
returns-in-Looking g c = record {
  answers = asked-look g.P.Performs.does c.args.state.now c.args._command.now _ _ _ c.requires.asked (search rules) c.look.ensures;
}

pub returns-in_default : goal.returns-in_default
returns-in_default g c = record {
  answers = asked-change g.P.Performs.does c.args.state.now c.args._command.now _ _ _ c.requires.asked c.in_default.not-Listing
      c.in_default.not-Entering c.in_default.not-Leaving c.in_default.not-Returning c.in_default.not-Trashing c.in_default.not-Looking
      c.in_default.not-Visiting c.in_default.not-Locating c.in_default.not-Completing
      c.in_default.not-CountingToTrash c.in_default.not-CountingToRemove c.change.ensures;
}
