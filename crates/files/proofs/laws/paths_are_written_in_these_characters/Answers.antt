use Rattle.std.proofs.Common.{refl}
use Rattle.percent_encoding.specs.AsciiSet.{should_percent_encode}
use Rattle.files.proofs.laws.paths_are_written_in_these_characters.Goals as goal

pub returns : goal.returns
unfolding should_percent_encode
returns c = refl
