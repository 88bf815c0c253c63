use Rattle.files.proofs.HelpLemmas.{all-helped, all-keys}
use Rattle.files.proofs.laws.the_help_names_the_keys.Goals as goal

pub returns-clause-right : goal.returns-clause-right
returns-clause-right c = all-helped

pub returns-clause-whole : goal.returns-clause-whole
returns-clause-whole c = all-keys
