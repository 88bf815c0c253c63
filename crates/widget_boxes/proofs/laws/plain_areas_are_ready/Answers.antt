use Rattle.widget_boxes.proofs.ApartLemmas.{plain-ready, ready-apart}
use Rattle.widget_boxes.proofs.laws.plain_areas_are_ready.Goals as goal

pub returns-clause-plain : goal.returns-clause-plain
returns-clause-plain c = plain-ready

pub returns-clause-ready : goal.returns-clause-ready
returns-clause-ready c = ready-apart
