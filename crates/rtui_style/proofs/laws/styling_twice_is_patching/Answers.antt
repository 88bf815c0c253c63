use Rattle.rtui_style.proofs.Styles.{color_after-or, modifier_after-patch}
use Rattle.rtui_style.proofs.laws.styling_twice_is_patching.Goals as goal

pub returns-clause-colors : goal.returns-clause-colors
returns-clause-colors c = color_after-or

pub returns-clause-modifiers : goal.returns-clause-modifiers
returns-clause-modifiers c m small =
    let p = c.modifiers_have_sixteen_bits.ensures in
    let q = c.modifiers_have_sixteen_bits-2.ensures in
    modifier_after-patch c.args.first c.args.second m small p.added p.taken q.added q.taken
