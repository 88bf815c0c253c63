use Rattle.std.proofs.Common.{refl}
use Rattle.files.proofs.QuestionLemmas.{asks-file, asks-folder, asks-rename, asks-copy, asks-trash, asks-make-file}
use Rattle.files.proofs.QuestionLemmas.{asks-make-folder, verbs-differ}
use Rattle.files.proofs.laws.questions_name_what_they_change.Goals as goal

pub returns-clause-file : goal.returns-clause-file
returns-clause-file c = λ b path is. asks-file b.mode b path refl is

pub returns-clause-folder : goal.returns-clause-folder
returns-clause-folder c = λ b path is. asks-folder b.mode b path refl is

pub returns-clause-renamed : goal.returns-clause-renamed
returns-clause-renamed c = λ b from to is. asks-rename b.mode b from to refl is

pub returns-clause-copied : goal.returns-clause-copied
returns-clause-copied c = λ b from to is. asks-copy b.mode b from to refl is

pub returns-clause-trashed : goal.returns-clause-trashed
returns-clause-trashed c = asks-trash

pub returns-clause-file_made : goal.returns-clause-file_made
returns-clause-file_made c = asks-make-file

pub returns-clause-folder_made : goal.returns-clause-folder_made
returns-clause-folder_made c = asks-make-folder

pub returns-clause-verbs : goal.returns-clause-verbs
returns-clause-verbs c = verbs-differ
