use Rattle.rtui_style.proofs.Styles.{patch_associates}
use Rattle.rtui_style.proofs.laws.patch_is_associative.Goals as goal

pub returns : goal.returns
returns c =
    let p = c.modifiers_have_sixteen_bits.ensures in
    let q = c.modifiers_have_sixteen_bits-2.ensures in
    let r = c.modifiers_have_sixteen_bits-3.ensures in
    patch_associates c.args.bottom c.args.middle c.args.top p.added p.taken q.added q.taken r.added r.taken
