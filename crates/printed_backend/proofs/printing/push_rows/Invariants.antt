use Rattle.std.proofs.Common.{◌≡◌, ◌++◌, codes, string_bytes}
use Rattle.std.specs.List.{flat_map}
use Rattle.rtui_backend.specs.{TestBackend.screen_of, Print.printed_row}
use Rattle.printed_backend.specs.Inner.{rows_leaving, looks_in}
use Rattle.printed_backend.proofs.printing.push_rows.Given as goal

abbrev pub invariant-loop-b : goal.invariant-loop-b
invariant-loop-b l = record {
  text : string_bytes l.text ≡ string_bytes l.initial.text
      ++ flat_map (printed_row (codes "^")) (rows_leaving l.end l.b (screen_of l.screen));
  rows : looks_in l.all ≡ looks_in l.rows ++ rows_leaving l.end l.b (screen_of l.screen);
}
