use Rattle.std.proofs.Common.{string_bytes, codes}
use Rattle.percent_encoding.specs.Percent.{percent_encode}
use Rattle.files.specs.declared.trash.TheConstants.{KEPT}
use Rattle.files.proofs.TrashLemmas.{appended}
use Rattle.files.proofs.trash.push_place.Goals as goal

pub returns : goal.returns
returns c = appended c.push_path.result (string_bytes c.push_path.new.text) (string_bytes c.push_str.new.self)
    (string_bytes c.args.text.now) (codes "[Trash Info]\nPath=/") (percent_encode KEPT c.args.from.now)
    c.in_ok-push_str.ensures.bytes c.push_path.ensures
