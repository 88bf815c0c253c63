use Rattle.rtui_buffer.specs.contracts.buffer.index.BufferHash.TheImpl.Laws.{respects_eq-law}
use Rattle.rtui_buffer.proofs.laws.hashing_names_area_and_cells.Goals as goal

pub returns-clause-alike : goal.returns-clause-alike
returns-clause-alike c = respects_eq-law
