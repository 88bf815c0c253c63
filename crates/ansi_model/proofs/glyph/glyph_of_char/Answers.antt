use Rattle.std.proofs.Common.{◌≡◌, true, false, nat_eq, sym, subst, ◌∙◌, arith}
use Rattle.std.proofs.lemmas.Bool.Decides.{nat_tests}
use Rattle.ansi_model.specs.{declared.glyph.Glyph.TheVariants.Whole, Symbols.is_shown, Symbols.IsGlyphOf}
use Rattle.ratatui_core.specs.Buffer.{columns_of_char}
use Rattle.ansi_model.proofs.GlyphLemmas.{plain-glyph, whole-glyph}
use Rattle.ansi_model.proofs.glyph.glyph_of_char.Goals as goal

pub returns-then-is_plain : goal.returns-then-is_plain
returns-then-is_plain c = λ text utf8 only. plain-glyph text c.args.c (sym c.is_plain.ensures ∙ c.if-is_plain.true) utf8 only

pub returns : goal.returns
returns c = λ text utf8 only.
    let result : c.is_shown.result ≡ true = let e = c.if-not-is_shown.false in grind (arith, nat_tests) in
    let shown : is_shown c.args.c ≡ true = sym c.is_shown.ensures ∙ result in
    let some : nat_eq (columns_of_char c.args.c) 0 ≡ false = let e = c.if-columns-eq0.false in
    let f = c.columns_of_char-columns.ensures.value in grind (arith, nat_tests) in
    subst (λ n. IsGlyphOf text (Whole n)) (sym c.columns_of_char-columns.ensures.value)
    (whole-glyph text c.args.c (sym c.is_plain.ensures ∙ c.if-is_plain.false) shown some utf8 only)
