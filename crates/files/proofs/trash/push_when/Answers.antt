use Rattle.std.proofs.Common.{◌++◌, string_bytes, codes, ap, ◌∙◌, append_assoc}
use Rattle.files.specs.Dates.{date_time_text}
use Rattle.files.proofs.TrashLemmas.{appended-str}
use Rattle.files.proofs.trash.push_when.Goals as goal

pub returns : goal.returns
returns c =
    let old = string_bytes c.args.text.now in
    let date = date_time_text c.args.date in
    appended-str c.push_str-2.result (string_bytes c.push_str-2.new.self) (string_bytes c.push_date_time.new.text) old
    (codes "\nDeletionDate=" ++ date) (codes "\n")
    (c.in_ok-push_date_time.ensures ∙ ap (λ t. t ++ date) c.in_ok-push_str.ensures.bytes ∙ append_assoc old (codes "\nDeletionDate=") date)
    c.push_str-2.ensures.bytes
