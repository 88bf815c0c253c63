use Rattle.std.proofs.Common.{Some}
use Rattle.widget_boxes.proofs.{ApartLemmas.ready-inside, ApartLemmas.apart-around, ApartBoxLemmas.box-ready}
use Rattle.widget_boxes.proofs.laws.insides_of_ready_areas_are_ready.Goals as goal

pub returns-clause-boxed : goal.returns-clause-boxed
returns-clause-boxed c = λ b area old new narrow ready is. box-ready (Some b) area old new narrow ready is

pub returns-clause-inside : goal.returns-clause-inside
returns-clause-inside c = ready-inside

pub returns-clause-around : goal.returns-clause-around
returns-clause-around c = λ area part old new inside apart within is. apart-around area part old new inside apart within is
