use Rattle.std.proofs.Common.{ap, ◌∙◌, ◌++◌, ◌∷◌, [], string_bytes}
use Rattle.std.proofs.lemmas.Result.{on_ok_weaker}
use Rattle.ansi_model.specs.Commands.{cursor_bytes}
use Rattle.ansi_model.proofs.MoveLemmas.{move_bytes}
use Rattle.ansi_model.proofs.ReadLemmas.{CUP-read, on_push}
use Rattle.ansi_model.proofs.sequences.move_to.Goals as goal

pub returns-clause-bytes : goal.returns-clause-bytes
returns-clause-bytes c =
    let sent = c.as_str.ensures.value ∙ move_bytes c.args.x c.args.y _ _ _ _ _ _ _
    (c.push_str.ensures.bytes ∙ ap (λ s. s ++ 27 ∷ 91 ∷ []) c.new-text.ensures)
    c.write_number.ensures.number c.push_str-2.ensures.bytes
    c.write_number-2.ensures.number c.push_str-3.ensures.bytes c.from-2.ensures c.from.ensures in
    on_ok_weaker c.push_str-4.result (λ e. e ∙ ap (λ t. string_bytes c.args.out.now ++ t) sent)
    (on_push c.push_str-4.result (string_bytes c.args.out.now) (string_bytes c.push_str-4.new.self) c.as_str.result.now
    c.push_str-4.ensures.bytes)

pub returns-clause-moves : goal.returns-clause-moves
returns-clause-moves c = on_ok_weaker c.push_str-4.result (λ e. record {
  bytes = cursor_bytes c.args.x c.args.y;
  appended = e;
  read = CUP-read c.args.x c.args.y c.ranges.x.fits c.ranges.y.fits;
}) (returns-clause-bytes c)
