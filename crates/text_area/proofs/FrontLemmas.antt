-- Printable characters of ASCII at the start of a line.
use Rattle.std.proofs.Common.{ℕ, ◌≡◌, ◌+◌, ◌≤◌, true, List, [], ◌∷◌, ◌++◌, length, take, drop, ap, ◌∙◌, arith}
use Rattle.std.proofs.Common.{sym, refl, length-append}
use Rattle.std.proofs.lemmas.{List.length-take-le, List.drop_at}
use Rattle.unicode_segmentation.specs.Grapheme.{graphemes}
use Rattle.rtui_text.specs.Printable.{singles}

-- as many graphemes as bytes
pub size-singles : (bytes : List ℕ) → length (singles bytes) ≡ length bytes
size-singles [] = refl
size-singles (b ∷ bytes) = omega (arith, size-singles bytes)

pub front-count : (text : List ℕ) (n m : ℕ) → n ≤ length text
    → graphemes true text ≡ singles (take n text) ++ graphemes true (drop n text)
    → m ≡ length (graphemes true (drop n text)) → n + m ≡ length (graphemes true text)
front-count text n m le is rest =
    omega (
      arith,
      rest,
      ap length is,
      length-append (singles (take n text)) (graphemes true (drop n text)),
      size-singles (take n text),
      length-take-le n text le,
    )

pub front-left : (text : List ℕ) (n : ℕ) → n ≤ length text
    → graphemes true text ≡ singles (take n text) ++ graphemes true (drop n text)
    → graphemes true (drop n text) ≡ drop n (graphemes true text)
front-left text n le is =
    let size : length (singles (take n text)) ≡ n = size-singles (take n text) ∙ length-take-le n text le in
    sym (ap (drop n) is ∙ drop_at (singles (take n text)) (graphemes true (drop n text)) n size)

pub ruleset count_rules = (front-count)

pub ruleset front_rules = (front-left)
