use Rattle.std.proofs.Common.{◌≤◌, length}
use Rattle.std.specs.Io.KnownBytes.{Keeps}
use Rattle.pager.specs.Growing.{to_come}
use Rattle.pager.proofs.piece_reader.PieceReader.read_on.Given as goal

abbrev pub invariant-loop : goal.invariant-loop
invariant-loop g l = record {
  kept : Keeps (to_come l.fn.self.rest.items (g.R.Read.remaining l.fn.self.reader))
      (to_come l.self.rest.items (g.R.Read.remaining l.self.reader));
  more : length l.fn.self.rest.items ≤ length l.self.rest.items;
}
