use Rattle.std.proofs.Common.{◌∙◌, sym}
use Rattle.ratatui_app.proofs.laws.the_frame_of_a_state_is_one.Goals as goal

pub returns : goal.returns
returns g c = λ s one t u areas here there.
    let first = here.painted.rendered in
    let second = there.painted.rendered in
    one first.blank second.blank t.previous u.previous first.emptied second.emptied
    (there.painted.area ∙ areas ∙ sym here.painted.area) first.rendered second.rendered
