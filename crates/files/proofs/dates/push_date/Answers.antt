use Rattle.std.proofs.Common.{string_bytes, rules, SFits}
use Rattle.std.specs.Int.{w16}
use Rattle.std.specs.Prelude.{unsigned_abs}
use Rattle.std.proofs.lemmas.Int.{to_z-of_z}
use Rattle.files.specs.Dates.{four_digits, day_text}
use Rattle.files.proofs.TrashLemmas.{appended}
use Rattle.files.proofs.dates.push_date.Goals as goal

pub returns : goal.returns
returns c =
    let year : SFits w16 c.args.date.year = search rules in
    appended c.push_day.result (string_bytes c.push_day.new.text) (string_bytes c.push_year.new.text) (string_bytes c.args.text.now)
    (four_digits (unsigned_abs c.args.date.year)) (day_text c.args.date.month c.args.date.day) (simp to_z-of_z at c.in_ok-push_year.ensures)
    c.push_day.ensures
