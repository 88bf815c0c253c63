use Rattle.widget_calendar.proofs.PlaceLemmas.{column-weekday}
use Rattle.widget_calendar.proofs.laws.columns_are_weekdays.Goals as goal

pub returns : goal.returns
returns c = column-weekday
