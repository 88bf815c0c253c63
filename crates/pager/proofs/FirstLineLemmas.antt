-- The first line of a text, as a search for its end finds it.
use Rattle.std.proofs.Common.{◌≡◌, ℕ, suc, ◌+◌, ◌-◌, ◌<◌, false}
use Rattle.std.proofs.Common.{List, [], ◌∷◌, ◌++◌, length, take, drop, get_or, length-take, drop-cons}
use Rattle.std.proofs.Common.{refl, ap, sym, ◌∙◌, subst, eqb-true, arith}
use Rattle.std.specs.List.{slice_split, All}
use Rattle.std.specs.Prelude.{slice_range, IsUtf8, IsCharBoundary}
use Rattle.std.specs.Str.Lines.{lines, lines_of_parts, strip_carriage_return}
use Rattle.std.proofs.lemmas.List.{take-append-drop}
use Rattle.std.proofs.lemmas.List.Elements.{All-from_get_or}
use Rattle.std.proofs.lemmas.List.Splits.{slice_split_none, slice_split_at, length-slice_split}
use Rattle.std.proofs.lemmas.Grind.{common_steps}
use Rattle.std.proofs.lemmas.Bool.{false_from_ne_true}
use Rattle.std.proofs.lemmas.Bool.Decides.{nat_tests}
use Rattle.std.proofs.lemmas.Str.{IsCharBoundary-after_ascii}
use Rattle.memchr.specs.Find.{Passes, Nowhere, NoneBefore, is_byte}

-- a byte ends a line
abbrev Ends : List ℕ → ℕ → Type 0
Ends bytes = Passes (is_byte 10) bytes

abbrev IsFirstEnd : List ℕ → ℕ → Type 0
IsFirstEnd bytes end = NoneBefore (Ends bytes) 0 (length bytes) end × Ends bytes end

abbrev parts : List ℕ → List (List ℕ)
parts = slice_split (is_byte 10)

abbrev HasNoEnd : List ℕ → Type 0
HasNoEnd = All (λ b. is_byte 10 b ≡ false)

-- no byte ends a line where a search finds none, and none before the first one that does
none-ends : (bytes : List ℕ) → Nowhere (Ends bytes) 0 (length bytes) → HasNoEnd bytes
none-ends bytes nowhere = All-from_get_or (λ b. is_byte 10 b ≡ false) bytes 0
    (λ k below. false_from_ne_true _ (λ yes. nowhere k (omega arith) below yes))

none-before : (bytes : List ℕ) (end : ℕ) → IsFirstEnd bytes end → HasNoEnd (take end bytes)
none-before bytes end first =
    All-from_get_or (λ b. is_byte 10 b ≡ false) (take end bytes) 0 (λ k below.
    let within : k < end = omega (arith, below, length-take end bytes) in
    let same : get_or (take end bytes) k 0 ≡ get_or bytes k 0 = grind (arith, common_steps) in
    false_from_ne_true _ (λ yes. first.0.before k (omega arith) within (ap (is_byte 10) (sym same) ∙ yes)))

-- a text without a line's end is one line, if it isn't empty
only-part : (text : List ℕ) → 0 < length text → lines_of_parts (text ∷ []) ≡ text ∷ []
only-part [] some = absurd (omega arith)
only-part (b ∷ bs) some = grind (arith, nat_tests)

pub only-line : (text bytes : List ℕ) → bytes ≡ text → Nowhere (Ends bytes) 0 (length bytes)
    → 0 < length text → lines text ≡ text ∷ []
only-line text bytes same nowhere some =
    ap lines_of_parts (slice_split_none (is_byte 10) text (subst HasNoEnd same (none-ends bytes nowhere)))
    ∙ only-part text some

-- and else its first line is what stands before its first end, less a carriage return
first-part : (p : List ℕ) (ps : List (List ℕ)) → 0 < length ps
    → lines_of_parts (p ∷ ps) ≡ strip_carriage_return p ∷ lines_of_parts ps
first-part p [] some = absurd (omega arith)
first-part p (q ∷ qs) some = refl

line-before : (bytes : List ℕ) (end : ℕ) → IsFirstEnd bytes end
    → lines bytes ≡ strip_carriage_return (take end bytes) ∷ lines (drop (end + 1) bytes)
line-before bytes end first =
    let front = take end bytes in
    let after = drop (end + 1) bytes in
    let is : get_or bytes end 0 ≡ 10 = eqb-true _ _ first.1 in
    let next : suc end ≡ end + 1 = omega arith in
    let at : drop end bytes ≡ 10 ∷ after = drop-cons bytes end 0 first.0.high
    ∙ ap (λ b. b ∷ drop (suc end) bytes) is ∙ ap (λ n. 10 ∷ drop n bytes) next in
    ap lines (sym (take-append-drop end bytes) ∙ ap (λ l. front ++ l) at)
    ∙ ap lines_of_parts (slice_split_at (is_byte 10) front 10 after (none-before bytes end first) refl)
    ∙ first-part front (parts after) (omega (arith, length-slice_split (is_byte 10) after))

pub first-line : (text bytes line front after : List ℕ) (end : ℕ) → bytes ≡ text → IsFirstEnd bytes end
    → line ≡ strip_carriage_return front → front ≡ slice_range text 0 end → after ≡ drop (end + 1) text
    → lines text ≡ line ∷ lines after
first-line text bytes line front after end same first is fronts afters =
    let zero : end - 0 ≡ end = omega arith in
    let whole : front ≡ take end text = fronts ∙ ap (λ n. take n text) zero in
    subst (λ t. lines t ≡ strip_carriage_return (take end t) ∷ lines (drop (end + 1) t)) same
    (line-before bytes end first)
    ∙ ap (λ l. strip_carriage_return l ∷ lines (drop (end + 1) text)) (sym whole)
    ∙ ap (λ l. l ∷ lines (drop (end + 1) text)) (sym is)
    ∙ ap (λ l. line ∷ lines l) (sym afters)

-- a character begins after it
pub after-end : (text bytes : List ℕ) (end : ℕ) → IsUtf8 text → bytes ≡ text → IsFirstEnd bytes end
    → IsCharBoundary text (end + 1)
after-end text bytes end utf8 same first =
    let is : get_or text end 0 ≡ 10 = ap (λ l. get_or l end 0) (sym same) ∙ eqb-true _ _ first.1 in
    IsCharBoundary-after_ascii text end utf8 (omega (arith, first.0.high, ap length same))
    (omega (arith, is))
