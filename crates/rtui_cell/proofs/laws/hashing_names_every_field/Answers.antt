use Rattle.std.proofs.Common.{refl}
use Rattle.rtui_cell.specs.{Equality.is_same, contracts.cell.CellHash.TheImpl.Laws.respects_eq-law}
use Rattle.rtui_cell.proofs.laws.hashing_names_every_field.Goals as goal

pub returns-clause-alike : goal.returns-clause-alike
unfolding is_same
returns-clause-alike c = respects_eq-law

pub returns-clause-fields : goal.returns-clause-fields
returns-clause-fields c cell = refl
