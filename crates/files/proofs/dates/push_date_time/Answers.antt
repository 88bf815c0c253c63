use Rattle.std.proofs.Common.{string_bytes}
use Rattle.files.specs.Dates.{date_text, time_text}
use Rattle.files.proofs.TrashLemmas.{appended}
use Rattle.files.proofs.dates.push_date_time.Goals as goal

pub returns : goal.returns
returns c = appended c.push_time.result (string_bytes c.push_time.new.text) (string_bytes c.push_date.new.text) (string_bytes c.args.text.now)
    (date_text c.args.date.date) (time_text c.args.date.time) c.in_ok-push_date.ensures c.push_time.ensures
