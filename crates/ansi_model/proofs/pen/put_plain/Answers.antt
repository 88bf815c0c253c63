use Rattle.std.proofs.Common.{◌≡◌, ◌+◌, ◌||◌, not, nat_le, true, encode_utf8, string_bytes, refl, sym, ap, subst, ◌∙◌}
use Rattle.std.proofs.Common.{arith, rules}
use Rattle.std.specs.Bool.{then_some}
use Rattle.std.proofs.lemmas.Bool.Decides.{nat_tests}
use Rattle.ansi_model.specs.Sends.{Sends, typed}
use Rattle.ansi_model.proofs.{SymbolLemmas.plain-printed, SymbolLemmas.plain-single, SymbolLemmas.one-undisputed}
use Rattle.ansi_model.proofs.PlaceLemmas.{places-here, places-there}
use Rattle.ansi_model.proofs.{DrawLemmas.known-by, DrawLemmas.put-here, DrawLemmas.put-there}
use Rattle.ansi_model.proofs.pen.put_plain.Goals.{then-not-is_at+in_ok-move_to, else-not-is_at}
use Rattle.ansi_model.proofs.pen.put_plain.Goals as goal

pub returns-clause-prints : goal.returns-clause-prints
returns-clause-prints c = λ w h column row.
    let symbol = encode_utf8 c.args.ch in
    elim c.if-not-is_at.branch [
      | then-not-is_at+in_ok-move_to v ↦
          put-there w h c.args.x c.args.y c.args.pen.now _ symbol _ _ _ column row v.in_ok-move_to.ensures.moves
          (subst (λ out. Sends (string_bytes out) (string_bytes c.push_plain.new.out)
          (typed symbol)) v.out-is c.in_ok-push_plain.ensures)
          (plain-printed c.args.ch c.requires.plain) (one-undisputed symbol (plain-single c.args.ch c.requires.plain)) refl
          (rw c.then_some-pen.ensures (known-by _ c.args.x c.args.y symbol (plain-single c.args.ch c.requires.plain)))
      | else-not-is_at v ↦
          let here : c.is_at.result ≡ true = grind (arith, nat_tests) in
          put-here w h c.args.x c.args.y c.args.pen.now _ c.args.ch _ _
          (subst (λ out. Sends (string_bytes out) (string_bytes c.push_plain.new.out)
          (typed symbol)) v.out-is c.in_ok-push_plain.ensures)
          c.requires.plain (sym c.is_at.ensures ∙ here) refl
          (rw c.then_some-pen.ensures (known-by _ c.args.x c.args.y symbol (plain-single c.args.ch c.requires.plain)))
    ]

pub returns-clause-places : goal.returns-clause-places
returns-clause-places c =
    let symbol = encode_utf8 c.args.ch in
    let known : c.if-not-pen.then_some ≡ (not c.args.pen.now.ambiguous_is_wide || nat_le c.args.ch 126) = search rules in
    let at = c.then_some-pen.ensures ∙ ap (λ b. then_some b (record { x = c.args.x + 1; y = c.args.y })) known in
    elim c.if-not-is_at.branch [
      | then-not-is_at+in_ok-move_to v ↦
          places-there c.args.ch c.args.pen.now _ _ _ _ c.requires.plain
          (subst (λ out. Sends (string_bytes out) (string_bytes c.push_plain.new.out)
          (typed symbol)) v.out-is c.in_ok-push_plain.ensures) at c.args.x c.args.y _ v.in_ok-move_to.ensures.moves refl
      | else-not-is_at v ↦
          let here : c.is_at.result ≡ true = grind (arith, nat_tests) in
          places-here c.args.ch c.args.pen.now _ _ _ _ c.requires.plain
          (subst (λ out. Sends (string_bytes out) (string_bytes c.push_plain.new.out)
          (typed symbol)) v.out-is c.in_ok-push_plain.ensures) at c.args.x c.args.y (sym c.is_at.ensures ∙ here) refl
    ]
