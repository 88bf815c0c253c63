use Rattle.std.proofs.Common.{◌≡◌, ◌∙◌, ◌≤◌, [], ◌∷◌, length, sym, ap, arith}
use Rattle.std.proofs.lemmas.List.{length-map, take_all}
use Rattle.bitflags.specs.Sets.{Row}
use Rattle.bitflags.proofs.Tables.{row-at}
use Rattle.ratatui_serde.specs.Flags.{with_names}
use Rattle.ratatui_serde.proofs.Words.{names-more}
use Rattle.ratatui_serde.proofs.flags.push_names.Goals as goal

pub loop-i-preserved : goal.loop-i-preserved
loop-i-preserved g c h =
    let at = row-at (λ f. (f.name.now, g.B.Flags.set_of f.value)) c.flags-flags.result.now g.B.Flags.table
    c.loop-i.i c.index-flags-i.result (c.flags-flags.ensures h) c.loop-i-test.true c.index-flags-i.is in
    let bits = g.B.Flags.set_of c.args.set.now in
    let row : Row = (c.index-flags-i.result.name.now, g.B.Flags.set_of c.index-flags-i.result.value) in
    c.in_ok-push_flag.ensures h ∙ ap (λ t. with_names t (row ∷ []) bits) (c.loop-i.invariant h)
    ∙ sym (names-more c.args.text.now.bytes g.B.Flags.table c.loop-i.i row bits at.0 at.1)

pub returns : goal.returns
returns g c h =
    let size : length g.B.Flags.table ≡ length c.flags-flags.result.now =
    ap length (sym (c.flags-flags.ensures h)) ∙ length-map c.flags-flags.result.now _ in
    let done : length g.B.Flags.table ≤ c.loop-i.i = omega arith in
    c.loop-i.invariant h
    ∙ ap (λ l. with_names c.args.text.now.bytes l (g.B.Flags.set_of c.args.set.now))
    (take_all c.loop-i.i g.B.Flags.table done)
