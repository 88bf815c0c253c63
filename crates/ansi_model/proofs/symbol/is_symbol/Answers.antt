use Rattle.std.proofs.Common.{◌∙◌, sym}
use Rattle.ansi_model.proofs.TextLemmas.{symbol-then, symbol-else}
use Rattle.ansi_model.proofs.symbol.is_symbol.Goals as goal

pub returns-then-begins_anew : goal.returns-then-begins_anew
returns-then-begins_anew c =
    c.is_shown_as_one.ensures ∙ sym (symbol-then c.args.text.now c.utf8.text (sym c.begins_anew.ensures ∙ c.if-begins_anew.true))

pub returns-else-begins_anew : goal.returns-else-begins_anew
returns-else-begins_anew c =
    c.if-begins_anew.false ∙ sym (symbol-else c.args.text.now (sym c.begins_anew.ensures ∙ c.if-begins_anew.false))
