use Rattle.std.proofs.Common.{◌≡◌, ◌++◌, false, [], ◌∷◌, min, sym, ap, ◌∙◌, arith, encode_utf8, chars}
use Rattle.std.proofs.lemmas.{Grind.common_steps, Bool.Decides.nat_tests, Str.chars_from_encodes}
use Rattle.unicode_width.specs.Width.{str_width}
use Rattle.rtui_cell.proofs.cell_width.columns_of_bytes.Goals as goal

pub returns : goal.returns
returns c =
    let text = c.args.text.now in
    let none : c.as_str.result.now ≡ [] = grind (arith, nat_tests, common_steps) in
    let spelled : encode_utf8 c.in-Some.first ++ [] ≡ text =
    ap (λ rest. encode_utf8 c.in-Some.first ++ rest) (sym none ∙ c.as_str.ensures) ∙ sym c.in-Some.ensures.steps.0
    ∙ c.chars-rest.ensures.rest in
    let one : c.in-Some.first ∷ [] ≡ chars text = chars_from_encodes (c.in-Some.first ∷ []) text c.utf8.text spelled in
    c.character_columns.ensures ∙ ap (λ cs. min (str_width false cs) 65535) one
