use Rattle.std.proofs.Common.{arith, ◌≡◌, ◌∙◌, sym, ap, subst, refl, false, true}
use Rattle.jiff_core.specs.{Date.epoch_day, Calendar.IsEpochDay}
use Rattle.widget_calendar.specs.Days.{column_of_first}
use Rattle.widget_calendar.proofs.DayLemmas.{day-after, day-there, day-missing}
use Rattle.widget_calendar.proofs.month.Month.day.Goals as goal

pub returns-in-Ok-clause-some : goal.returns-in-Ok-clause-some
returns-in-Ok-clause-some c =
    let m = c.args.self in
    ap epoch_day c.from_plain.ensures
    ∙ (c.in-Ok.ensures.value ∙ day-after _ _ c.args.place (column_of_first m.date) m.column _ _ c.from.ensures
    c.from-2.ensures m.first_is m.column_is (omega arith) (omega arith))

pub returns-in-Ok-clause-there : goal.returns-in-Ok-clause-there
returns-in-Ok-clause-there c =
    let m = c.args.self in
    let e = day-after _ _ c.args.place (column_of_first m.date) m.column _ _ c.from.ensures c.from-2.ensures m.first_is
    m.column_is (omega arith) (omega arith) in
    day-there _ (rw e at (c.in-Ok.ensures.succeeds.0 refl))

pub returns-in-Err-clause-there : goal.returns-in-Err-clause-there
returns-in-Err-clause-there c =
    let m = c.args.self in
    let e = day-after _ _ c.args.place (column_of_first m.date) m.column _ _ c.from.ensures c.from-2.ensures m.first_is
    m.column_is (omega arith) (omega arith) in
    day-missing _ (λ there.
    let never : false ≡ true = c.in-Err.ensures.succeeds.1 (subst IsEpochDay (sym e) there) in absurd (cc))
