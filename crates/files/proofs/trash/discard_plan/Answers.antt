use Rattle.std.proofs.Common.{ap, ◌∙◌}
use Rattle.ratatui_files.specs.Paths.{path_in}
use Rattle.files.specs.Trash.{numbered, info_name, info_text}
use Rattle.files.proofs.TrashLemmas.{entry-by, planned-as}
use Rattle.files.proofs.trash.discard_plan.Goals as goal

pub returns : goal.returns
returns c =
    let d = c.args.discard.now in
    let name = c.as_str-2.ensures.value ∙ c.in_ok-name.ensures ∙ ap (numbered c.args.number) c.as_str.ensures in
    let written = c.as_str-4.ensures.value ∙ c.in_ok-name-2.ensures ∙ ap (info_name c.args.number) c.as_str-3.ensures in
    planned-as d c.args.number c.args.date c.in-Some-2.info c.in_ok-text.text c.in-Some.to c.in_ok-copy-2.field-0 c.in_ok-copy.field-0
    (entry-by _ _ _ _ c.in_ok-info.ensures c.in-Some-2.is ∙ ap (path_in d.info) written)
    (c.in_ok-text.ensures ∙ ap (λ from. info_text from c.args.date) c.as_str-5.ensures.value)
    (entry-by _ _ _ _ c.in_ok-to.ensures c.in-Some.is ∙ ap (path_in d.files) name)
    c.in_ok-copy-2.ensures c.in_ok-copy.ensures
