use Rattle.std.proofs.Common.{string_bytes, codes}
use Rattle.files.specs.Dates.{clock_text}
use Rattle.files.proofs.TrashLemmas.{appended}
use Rattle.files.proofs.dates.push_time.Goals as goal

pub returns : goal.returns
returns c = appended c.push_clock.result (string_bytes c.push_clock.new.text) (string_bytes c.push_str.new.self) (string_bytes c.args.text.now)
    (codes "T") (clock_text c.args.time) c.in_ok-push_str.ensures.bytes c.push_clock.ensures
