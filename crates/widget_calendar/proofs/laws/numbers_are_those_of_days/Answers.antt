use Rattle.widget_calendar.proofs.PlaceLemmas.{told-at}
use Rattle.widget_calendar.proofs.laws.numbers_are_those_of_days.Goals as goal

pub returns-clause-number : goal.returns-clause-number
returns-clause-number c = λ shown day place to is. (told-at shown day place to is).0

pub returns-clause-own : goal.returns-clause-own
returns-clause-own c = λ shown day place to is. (told-at shown day place to is).1
