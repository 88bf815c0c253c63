use Rattle.widget_calendar.proofs.PlaceLemmas.{week-shown}
use Rattle.widget_calendar.proofs.laws.weeks_have_days_of_the_month.Goals as goal

pub returns : goal.returns
returns c = week-shown
