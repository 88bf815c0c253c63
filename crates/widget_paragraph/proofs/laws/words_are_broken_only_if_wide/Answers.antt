use Rattle.widget_paragraph.proofs.BreakLemmas.{broken-alone, broken-blanks, broken-first}
use Rattle.widget_paragraph.proofs.laws.words_are_broken_only_if_wide.Goals as goal

pub returns-clause-alone : goal.returns-clause-alone
returns-clause-alone c = broken-alone

pub returns-clause-wide : goal.returns-clause-wide
returns-clause-wide c = broken-blanks

pub returns-clause-trimmed : goal.returns-clause-trimmed
returns-clause-trimmed c = broken-first
