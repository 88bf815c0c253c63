-- What was true before a call that failed, and what holds whatever a call answers.
use Rattle.std.proofs.Common.{Result, Ok, Err, OnErr}
use Rattle.rtui_backend.specs.Failures.{FailsAfter}

pub fails_weaker : {B : Type 0} {stops_at : B → B → Type 0} {P Q : B → Type 0} {new : B} → ((b : B) → P b → Q b)
    → FailsAfter stops_at P new → FailsAfter stops_at Q new
fails_weaker weaker fails = record {
  before = fails.before;
  was = weaker fails.before fails.was;
  stopped = fails.stopped;
}

pub holds_anyway : {T E P : Type 0} (answer : Result T E) → P → OnErr answer P
holds_anyway (Ok x) holds = tt
holds_anyway (Err e) holds = holds
