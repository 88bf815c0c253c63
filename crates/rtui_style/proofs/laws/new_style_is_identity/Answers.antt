use Rattle.rtui_style.proofs.Styles.{new_style_above, new_style_below}
use Rattle.rtui_style.proofs.laws.new_style_is_identity.Goals as goal

pub returns-clause-below : goal.returns-clause-below
returns-clause-below c = new_style_below c.args.style

pub returns-clause-above : goal.returns-clause-above
returns-clause-above c =
    let known = c.modifiers_have_sixteen_bits.ensures in
    new_style_above c.args.style known.added known.taken
