use Rattle.files.proofs.MadeLemmas.{run-made}
use Rattle.files.proofs.laws.a_run_makes_of_files_what_was_confirmed.Goals as goal

pub returns : goal.returns
returns g c = λ begun now past has. run-made g.H.Hears.gives g.H.Hears.fails begun now past has
