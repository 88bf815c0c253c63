use Rattle.std.proofs.Common.{arith, ◌∙◌}
use Rattle.std.proofs.lemmas.Bool.Decides.{Decides-eqb}
use Rattle.rtui_diff.proofs.SameLemmas.{byte_there, same_by_byte, untrue}
use Rattle.rtui_diff.proofs.cells.is_same_byte.Goals as goal

pub bounds-as_bytes-0 : goal.bounds-as_bytes-0
bounds-as_bytes-0 c =
    let one = byte_there c.args.a.now _ c.requires.former (c.as_bytes.ensures.value ∙ c.symbol.ensures) in
    omega arith

pub bounds-as_bytes-0-2 : goal.bounds-as_bytes-0-2
bounds-as_bytes-0-2 c =
    let one = byte_there c.args.b.now _ c.requires.next (c.as_bytes-2.ensures.value ∙ c.symbol-2.ensures) in
    omega arith

pub returns-then-as_bytes : goal.returns-then-as_bytes
returns-then-as_bytes c =
    let same = same_by_byte c.args.a.now c.args.b.now c.as_bytes.result.now c.as_bytes-2.result.now c.requires.former
    c.requires.next (c.as_bytes.ensures.value ∙ c.symbol.ensures) (c.as_bytes-2.ensures.value ∙ c.symbol-2.ensures) in
    c.has_same_style.ensures ∙ (rw ((Decides-eqb _ _).1 c.if-as_bytes.true) at same)

pub returns-else-as_bytes : goal.returns-else-as_bytes
returns-else-as_bytes c =
    let same = same_by_byte c.args.a.now c.args.b.now c.as_bytes.result.now c.as_bytes-2.result.now c.requires.former
    c.requires.next (c.as_bytes.ensures.value ∙ c.symbol.ensures) (c.as_bytes-2.ensures.value ∙ c.symbol-2.ensures) in
    untrue _ _ _ same (λ e. c.if-as_bytes.false ((Decides-eqb _ _).0 e))
