use Rattle.ansi_model.proofs.PutLemmas.{put-sized, put-whole, put-beyond, put-continuations}
use Rattle.ansi_model.proofs.laws.a_printed_symbol_keeps_the_others.Goals as goal

pub returns : goal.returns
returns c = record {
  sized = λ x y n look columns whole uncut takes sized. put-sized x y n look columns whole uncut takes sized;
  whole = λ x y n look columns whole uncut. put-whole x y n look columns whole uncut;
  beyond = λ w x y n look columns whole uncut fits beyond. put-beyond w x y n look columns whole uncut fits beyond;
  continuations = λ x y n look columns whole uncut. put-continuations x y n look columns whole uncut;
}
