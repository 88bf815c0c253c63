use Rattle.std.proofs.Common.{◌≡◌, ◌++◌, ◌∷◌, [], rules, arith, sym, take}
use Rattle.std.proofs.lemmas.Grind.{common_steps}
use Rattle.std.proofs.Output.{has_written_of_eq, has_written_append}
use Rattle.rtui_text.specs.Display.{printed_spans, printed_lines}
use Rattle.rtui_text.proofs.LineLemmas.{broken_lines, printed_lines-last}
use Rattle.rtui_text.proofs.text.TextDisplay.fmt.Goals as goal

pub returns-in_ok-write-clause-writes : goal.returns-in_ok-write-clause-writes
returns-in_ok-write-clause-writes g c = λ p _.
    let last = c.in-Some.last.now in
    let others = c.in-Some.others.now in
    let whole : take c.loop-line.line-index others ≡ others = grind (arith, common_steps) in
    let parts : c.args.self.now.lines ≡ others ++ last ∷ [] = search rules in
    let printed : broken_lines (take c.loop-line.line-index others) ++ printed_spans last.spans ≡ printed_lines
    c.args.self.now.lines = rw (whole, parts) (sym (printed_lines-last others last)) in
    has_written_of_eq _ _ _ _ _ printed (has_written_append _ _ _ _ _ _ (c.loop-line.invariant p) (search rules))
