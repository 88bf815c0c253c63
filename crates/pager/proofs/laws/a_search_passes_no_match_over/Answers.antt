use Rattle.pager.proofs.SearchLemmas.{first-match, final-match}
use Rattle.pager.proofs.laws.a_search_passes_no_match_over.Goals as goal

pub returns : goal.returns
returns c = record { further = first-match; back = final-match }
