use Rattle.std.proofs.lemmas.Str.{IsCharBoundary-start}
use Rattle.text_area.proofs.extent.left_of.Goals as goal

pub returns-in-Text-clause-boundary : goal.returns-in-Text-clause-boundary
returns-in-Text-clause-boundary c = IsCharBoundary-start _ c.utf8.text
