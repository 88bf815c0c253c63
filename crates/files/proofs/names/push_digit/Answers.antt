use Rattle.std.proofs.Common.{◌≡◌, ◌<◌, ◌%◌, ◌∷◌, [], ◌++◌, ap, ◌∙◌, arith, string_bytes, encode_utf8, ℕ, List}
use Rattle.std.proofs.Common.{Result, Ok, Err, OnOk, if◌then◌else◌}
use Rattle.std.specs.{Char.digit_char, Result.is_ok}
use Rattle.std.proofs.lemmas.{Str.encode_ascii, Bool.Decides.nat_tests}
use Rattle.files.proofs.names.push_digit.Goals as goal

digit-small : (n : ℕ) → n < 16 → digit_char n < 128
digit-small n small = grind (arith, nat_tests)

by-ok : {A E : Type 0} (r : Result A E) (s x y z : List ℕ) → s ≡ (if is_ok r then x else y) → x ≡ z → OnOk r (s ≡ z)
by-ok (Ok v) s x y z is same = is ∙ same
by-ok (Err e) s x y z is same = tt

pub returns-in-Some : goal.returns-in-Some
returns-in-Some c =
    let is : c.in-Some.digit ≡ digit_char (c.args.number % 16) = c.in-Some.ensures.value.1 in
    let one : encode_utf8 c.in-Some.digit ≡ c.in-Some.digit ∷ [] =
    encode_ascii c.in-Some.digit (rw is (digit-small (c.args.number % 16) c.in-Some.ensures.value.0)) in
    let text = string_bytes c.args.text.now in
    by-ok c.push.result (string_bytes c.push.new.self) (text ++ encode_utf8 c.in-Some.digit) text _ c.push.ensures.bytes
    (ap (λ bs. text ++ bs) (one ∙ ap (λ d. d ∷ []) is))
