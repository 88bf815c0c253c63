use Rattle.std.proofs.Common.{◌≡◌, ◌∙◌, ap, sym, inl, inr, codes, rules, refl, IfOk}
use Rattle.bitflags.proofs.OnLiterals.{bitflags_on_literals}
use Rattle.bitflags.proofs.HexFacts.{reads_hex}
use Rattle.widget_boxes.specs.Borders.{border_table, sides_of}
use Rattle.ratatui_serde.proofs.Words.{reads-sides}
use Rattle.ratatui_serde.proofs.borders.sides.Goals as goal

pub returns-then-eq : goal.returns-then-eq
unfolding bitflags_on_literals
returns-then-eq c =
    let all : c.args.text.now ≡ codes "ALL" = search rules in
    inr (all, refl)

pub returns : goal.returns
returns c = reads-sides _ _ (c.from_str.ensures.value tt (reads_hex 8))
