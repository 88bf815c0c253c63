use Rattle.std.proofs.Common.{string_bytes, ap, ◌∙◌, ◌++◌, arith}
use Rattle.std.proofs.lemmas.{Bool.Decides.nat_tests, Str.IsUtf8-string_bytes}
use Rattle.follow.proofs.FrontLemmas.{printable-alike, graphemes-alike}
use Rattle.follow.proofs.shown.show_line.Goals as goal

pub returns-then-front-from : goal.returns-then-front-from
returns-then-front-from c =
    let front = c.split_at.result.0.now in
    let held = c.in_ok-push_str.ensures.bytes ∙ ap (λ bytes. bytes ++ front) c.clear.ensures.bytes in
    printable-alike c.args.columns c.printable_front.result c.args.line.now front c.split_at.result.1.now
    (string_bytes c.push_str.new.self) c.printable_front.ensures.front c.split_at.ensures.front c.split_at.ensures.back
    c.printable_front.ensures.graphemes held (IsUtf8-string_bytes c.push_str.new.self)
    (grind (arith, nat_tests, c.if-front-from.true))

pub returns : goal.returns
returns c =
    let front = c.split_at.result.0.now in
    let held = c.in_ok-push_str.ensures.bytes ∙ ap (λ bytes. bytes ++ front) c.clear.ensures.bytes in
    graphemes-alike c.args.columns c.printable_front.result c.args.line.now front c.split_at.result.1.now
    (string_bytes c.push_str.new.self) c.printable_front.ensures.front c.split_at.ensures.front c.split_at.ensures.back
    c.printable_front.ensures.graphemes held c.push_graphemes.result (string_bytes c.push_graphemes.new.out)
    (IsUtf8-string_bytes c.push_graphemes.new.out) c.push_graphemes.ensures
