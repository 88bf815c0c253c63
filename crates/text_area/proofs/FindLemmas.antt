-- Where a pattern occurs in a text, from where it occurs in a part of it.
use Rattle.std.proofs.Common.{ℕ, ◌≡◌, ◌+◌, ◌-◌, ◌≤◌, List, ◌++◌, length, take, drop, refl, sym, ap, ap₂}
use Rattle.std.proofs.Common.{subst, ◌∙◌, arith}
use Rattle.std.proofs.Common.{append_assoc}
use Rattle.std.proofs.lemmas.{List.drop-drop, List.take-append-drop, List.drop-append-le, List.length-take-le}
use Rattle.std.proofs.lemmas.{List.length-drop, List.drop-take, List.take_at, List.drop_at}
use Rattle.std.proofs.lemmas.{Str.IsCharBoundary-from_rest}
use Rattle.std.specs.Str.{IsUtf8, IsCharBoundary}
use Rattle.std.specs.Str.Pattern.{HasTextAt, LacksTextAt, FindsText, RFindsText, MatchBeginsAt}
use Rattle.text_field.proofs.{ReachLemmas.boundary-before, FieldLemmas.take-behind}
use Rattle.text_area.specs.Finding.{IsFirstFrom, IsNowhereFrom, IsLastBefore, IsNowhereBefore}

-- what a part from a byte on lacks, the text lacks
lacks-from : (pattern text : List ℕ) (from k : ℕ) → from ≤ k → LacksTextAt pattern (drop from text) (k - from)
    → LacksTextAt pattern text k
lacks-from pattern text from k le lacks = λ rest is.
    let place : from + (k - from) ≡ k = omega (arith, le) in
    lacks rest (drop-drop (k - from) from text ∙ ap (λ n. drop n text) place ∙ is)

has-from : (pattern text : List ℕ) (from i j : ℕ) → from ≤ length text
    → HasTextAt pattern (drop from text) i j
    → HasTextAt pattern text (from + i) (from + i + length pattern)
has-from pattern text from i j le has =
    let ends : from + j ≡ from + i + length pattern = omega (arith, has.ends) in
    let place : from + (i + length pattern) ≡ from + i + length pattern = omega arith in record {
      split = sym (drop-drop i from text) ∙ has.split
          ∙ ap (λ w. pattern ++ w) (drop-drop j from text ∙ ap (λ n. drop n text) ends);
      ends = refl;
      after = subst (IsCharBoundary text) place (IsCharBoundary-from_rest text from (i + length pattern) le
          has.after);
    }

pub first-is : (pattern text part : List ℕ) (from i : ℕ) → IsCharBoundary text from → part ≡ drop from text
    → MatchBeginsAt (FindsText pattern) part i → IsFirstFrom pattern text from (from + i)
first-is pattern text part from i start is found =
    let match = subst (λ w. MatchBeginsAt (FindsText pattern) w i) is found in record {
      after = omega arith;
      start = IsCharBoundary-from_rest text from i start.0 match.3;
      occurs = has-from pattern text from i match.0 start.0 match.1.1;
      first = λ k le lt. lacks-from pattern text from k le (match.1.0 (k - from) (omega (arith, le, lt)));
    }

pub first-none : (pattern text part : List ℕ) (from : ℕ) → part ≡ drop from text
    → ((i : ℕ) → i ≤ length part → LacksTextAt pattern part i) → IsNowhereFrom pattern text from
first-none pattern text part from is lacks = λ k le within.
    lacks-from pattern text from k le
    (subst (λ w. LacksTextAt pattern w (k - from)) is
    (lacks (k - from) (omega (arith, ap length is, length-drop from text, le, within))))

-- the front of two lists that goes beyond the first
take-beyond : (xs ys : List ℕ) (n : ℕ) → take (length xs + n) (xs ++ ys) ≡ xs ++ take n ys
take-beyond xs ys n =
    sym (take-behind (xs ++ ys) (length xs) n)
    ∙ ap₂ (λ u v. u ++ take n v) (take_at xs ys (length xs) refl) (drop_at xs ys (length xs) refl)

-- what a part before a byte lacks, the text lacks
lacks-before : (pattern text : List ℕ) (to k : ℕ) → to ≤ length text → k + length pattern ≤ to
    → LacksTextAt pattern (take to text) k → LacksTextAt pattern text k
lacks-before pattern text to k le fits lacks = λ rest is.
    let size : k + (to - k) ≡ to = omega (arith, fits) in
    let more : length pattern + (to - k - length pattern) ≡ to - k = omega (arith, fits) in
    let front : take (to - k) (pattern ++ rest) ≡ pattern ++ take (to - k - length pattern) rest =
    ap (λ n. take n (pattern ++ rest)) (sym more) ∙ take-beyond pattern rest (to - k - length pattern) in
    lacks (take (to - k - length pattern) rest)
    (ap (λ n. drop k (take n text)) (sym size) ∙ drop-take k (to - k) text ∙ ap (take (to - k)) is ∙ front)

has-before : (pattern text : List ℕ) (to i j : ℕ) → IsUtf8 text → IsCharBoundary text to → i ≤ j
    → j ≤ length (take to text)
    → HasTextAt pattern (take to text) i j → HasTextAt pattern text i (i + length pattern)
has-before pattern text to i j utf8 stop order within has =
    let whole : text ≡ take to text ++ drop to text = sym (take-append-drop to text) in record {
      split = ap (drop i) whole ∙ drop-append-le i (take to text) (drop to text)
          (omega (arith, order, within))
          ∙ ap (λ w. w ++ drop to text) has.split
          ∙ append_assoc pattern (drop j (take to text)) (drop to text)
          ∙ ap (λ w. pattern ++ w) (sym (drop-append-le j (take to text) (drop to text) within)
          ∙ ap (drop j) (sym whole))
          ∙ ap (λ n. pattern ++ drop n text) has.ends;
      ends = refl;
      after = boundary-before text to (i + length pattern) utf8 stop has.after;
    }

pub last-is : (pattern text part : List ℕ) (to i : ℕ) → IsUtf8 text → IsCharBoundary text to → part
    ≡ take to text
    → MatchBeginsAt (RFindsText pattern) part i → IsLastBefore pattern text to i
last-is pattern text part to i utf8 stop is found =
    let match = subst (λ w. MatchBeginsAt (RFindsText pattern) w i) is found in
    let size : length (take to text) ≡ to = length-take-le to text stop.0 in record {
      before = omega (arith, match.1.1.ends, match.4.0, size);
      start = boundary-before text to i utf8 stop match.3;
      occurs = has-before pattern text to i match.0 utf8 stop match.2 match.4.0 match.1.1;
      last = λ k lt fits. lacks-before pattern text to k stop.0 fits
          (match.1.0 k lt (omega (arith, size, fits)));
    }

pub last-none : (pattern text part : List ℕ) (to : ℕ) → to ≤ length text → part ≡ take to text
    → ((i : ℕ) → i ≤ length part → LacksTextAt pattern part i) → IsNowhereBefore pattern text to
last-none pattern text part to le is lacks = λ k fits.
    lacks-before pattern text to k le fits
    (subst (λ w. LacksTextAt pattern w k) is (lacks k
    (omega (arith, ap length is, length-take-le to text le, fits))))
