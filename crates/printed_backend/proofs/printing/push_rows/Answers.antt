use Rattle.std.proofs.Common.{codes, string_bytes, sym, ap, ◌∙◌, ◌++◌, map}
use Rattle.std.specs.List.{flat_map}
use Rattle.rtui_cell.specs.Look.{look_of}
use Rattle.rtui_backend.specs.{TestBackend.screen_of, Print.printed_row}
use Rattle.printed_backend.specs.Inner.{looks_in, rows_leaving}
use Rattle.printed_backend.proofs.LeavingLemmas.{leaving_more, text_more, looks_more}
use Rattle.printed_backend.proofs.printing.push_rows.Goals as goal

pub loop-b-preserved : goal.loop-b-preserved
loop-b-preserved c =
    let was = c.loop-b.invariant in
    let s = screen_of c.args.screen.now in
    let print = printed_row (codes "^") in
    let more = sym (leaving_more c.args.end c.loop-b.b s) in
    let cells = c.row_leaving-cells.result.now in
    let rows = rows_leaving c.args.end c.loop-b.b s in
    record {
      text = c.in_ok-push_row.ensures ∙ ap (λ row. string_bytes c.loop-b.text ++ print row) c.row_leaving-cells.ensures
          ∙ text_more print (string_bytes c.args.text.now) (string_bytes c.loop-b.text) rows _ was.text
          ∙ ap (λ rs. string_bytes c.args.text.now ++ flat_map print rs) more;
      rows = ap (map (map look_of)) c.and-all.ensures
          ∙ looks_more c.loop-b.all.cells cells (looks_in c.args.rows.now) rows was.rows
          ∙ rw c.row_leaving-cells.ensures (ap (λ rs. looks_in c.args.rows.now ++ rs) more);
    }
