use Rattle.pager.proofs.MeetLemmas.{meets, ends}
use Rattle.pager.proofs.laws.pages_meet.Goals as goal

pub returns : goal.returns
returns c = record { further = meets; ends = ends }
