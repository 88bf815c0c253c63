use Rattle.pager.proofs.HelpLemmas.{all-helped}
use Rattle.pager.proofs.laws.the_help_names_the_keys.Goals as goal

pub returns : goal.returns
returns c = all-helped
