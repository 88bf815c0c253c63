-- Readers whose reads are recorded.
use Rattle.std.specs.Prelude.{ℕ, List}
use Rattle.ratatui_reads.specs.Sources.{Coming, ReadSoFar}
use Rattle.ratatui_reads.specs.declared.recorded.Recorded.{Recorded}

-- the reads that were made of it, in order: the bytes that each put into its buffer
abbrev pub recorded_reads : {R : Type 0} → Recorded R → List (List ℕ)
recorded_reads r = r.reads.made

-- these are known, and nothing of those to come
abbrev pub coming_recorded : {R : Type 0} → Recorded R → Coming
coming_recorded r = ReadSoFar (recorded_reads r)
