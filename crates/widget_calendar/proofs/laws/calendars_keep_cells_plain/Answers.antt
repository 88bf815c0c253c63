use Rattle.widget_calendar.proofs.NarrowLemmas.{calendar-plain}
use Rattle.widget_calendar.proofs.laws.calendars_keep_cells_plain.Goals as goal

pub returns : goal.returns
returns g c = calendar-plain g.DS.DateStyler.style_of
