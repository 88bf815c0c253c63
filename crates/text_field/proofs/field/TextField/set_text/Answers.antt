use Rattle.std.proofs.Common.{sym, ◌∙◌}
use Rattle.text_field.specs.Field.{cleared}
use Rattle.text_field.proofs.TypedLemmas.{accepted-cleared, put-typed}
use Rattle.text_field.proofs.field.TextField.set_text.Goals as goal

pub returns-then-is_typed_whole-clause-ok : goal.returns-then-is_typed_whole-clause-ok
returns-then-is_typed_whole-clause-ok c =
    let taken = accepted-cleared c.args.self.now c.args.text.now _ _ _ _ _ _ c.room_beside-room.result
    c.utf8.text c.self.view_is c.room_beside-room.ensures in
    put-typed c.replace.result (cleared c.args.self.now) c.replace.new.self c.args.text.now c.args.text.now
    (taken ∙ c.is_typed_whole.ensures c.if-is_typed_whole.true) c.replace.ensures.ok

pub returns-clause-ok : goal.returns-clause-ok
returns-clause-ok c =
    let taken = accepted-cleared c.args.self.now c.args.text.now _ _ _ _ _ _ c.room_beside-room.result
    c.utf8.text c.self.view_is c.room_beside-room.ensures in
    put-typed c.replace-2.result (cleared c.args.self.now) c.replace-2.new.self c.args.text.now c.as_str-piece.result.now
    (taken ∙ sym (c.as_str-piece.ensures.value ∙ c.in_ok-part.ensures)) c.replace-2.ensures.ok
