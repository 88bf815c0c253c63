use Rattle.std.proofs.Common.{string_bytes}
use Rattle.files.specs.Trash.{place_line, date_line}
use Rattle.files.proofs.TrashLemmas.{appended}
use Rattle.files.proofs.trash.push_info.Goals as goal

pub returns : goal.returns
returns c = appended c.push_when.result (string_bytes c.push_when.new.text) (string_bytes c.push_place.new.text) (string_bytes c.args.text.now)
    (place_line c.args.from.now) (date_line c.args.date) c.in_ok-push_place.ensures c.push_when.ensures
