use Rattle.std.proofs.Common.{inl, refl}
use Rattle.files.proofs.RunLemmas.{run-named}
use Rattle.files.proofs.laws.things_are_changed_while_they_are_named.Goals as goal

pub returns-clause-first : goal.returns-clause-first
returns-clause-first g c = λ alloc title size. inl refl

pub returns-clause-named : goal.returns-clause-named
returns-clause-named g c = λ begun now past sound has.
    (run-named g.H.Hears.gives g.H.Hears.fails g.O.Outside.answers begun now past sound has).named
