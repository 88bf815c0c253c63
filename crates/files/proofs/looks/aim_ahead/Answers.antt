use Rattle.std.proofs.Common.{rules, refl, sym, ap, ◌∙◌}
use Rattle.ratatui_files.specs.Paths.{is_name, path_in}
use Rattle.files.specs.Looks.{look_command}
use Rattle.files.proofs.TrashLemmas.{entry-by}
use Rattle.files.proofs.looks.aim_ahead.Goals as goal

pub returns : goal.returns
returns c =
    let b = c.args.browser.now in let row = c.in-Some.row.now in
    let path = entry-by (is_name c.as_str.result.now) (path_in b.folder c.as_str.result.now) c.in-Some-2.path c.in_ok-path.field-0
    c.in_ok-path.ensures c.in-Some-2.is in
    record {
      row = row;
      selected = sym c.in-Some.ensures;
      side = refl;
      folder = c.in_ok-copy.ensures;
      name = c.in_ok-copy-2.ensures ∙ c.as_str-2.ensures.value;
      command = c.look_command.ensures ∙ ap (look_command row) (path ∙ ap (path_in b.folder) c.as_str.ensures.value);
      size = search rules;
      inner = c.in_ok-copy-3.ensures;
    }
