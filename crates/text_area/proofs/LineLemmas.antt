-- Lines of a text, and columns in them.
use Rattle.std.proofs.Common.{ℕ, zero, suc, get_or, add-one, ◌≡◌, ◌≢◌, ◌+◌, ◌-◌, ◌<◌, ◌≤◌, Bool, true, false}
use Rattle.std.proofs.Common.{not, cond, List, [], ◌∷◌, ◌++◌}
use Rattle.std.proofs.Common.{length, take, drop, reverse, refl, sym, ap, subst, ◌∙◌, arith, length-append}
use Rattle.std.proofs.Common.{if◌then◌else◌}
use Rattle.std.proofs.lemmas.{List.take-take, List.take_all, List.drop-drop, List.take-append-drop}
use Rattle.std.proofs.lemmas.{List.reverse-append, List.length-take-le, List.drop_all}
use Rattle.std.proofs.lemmas.{List.Sums.sum_by-cons, List.Sums.sum_by-append, List.Sums.sum_by-take-drop}
use Rattle.std.proofs.lemmas.{List.Sums.sum_by-take-le, List.Sums.count_by_more_yes}
use Rattle.std.proofs.lemmas.{List.Sums.count_by_more_no, List.Sums.count_by-le-length, Bool.ne_eqb}
use Rattle.std.proofs.lemmas.{List.Folds.concat-append, Str.IsCharBoundary-at_seam}
use Rattle.std.proofs.lemmas.{Str.IsCharBoundary-after_ascii}
use Rattle.std.specs.{List.concat, Str.IsUtf8, Str.IsCharBoundary}
use Rattle.unicode_segmentation.specs.Grapheme.{graphemes}
use Rattle.unicode_segmentation.proofs.SegmentsLemmas.{concat-segments}
use Rattle.text_field.proofs.{FieldLemmas.take-behind, ListLemmas.drop-reverse, ReachLemmas.boundary-behind}
use Rattle.text_area.specs.Extents.{is_feed, line_left, line_right}
use Rattle.text_area.specs.Lines.{feeds, nth_start, columns_len, last_line}
use Rattle.text_area.specs.Inner.{BeginsLine}

pub feed-yes : (b : ℕ) → b ≡ 10 → is_feed b ≡ true
feed-yes b is = ap is_feed is

-- one more line
start-yes : (b n r : ℕ) (text : List ℕ) → is_feed b ≡ true → nth_start n text ≡ r
    → nth_start (suc n) (b ∷ text) ≡ suc r
start-yes b n r text holds is = ap (λ t. suc (nth_start (if t then n else suc n) text)) holds ∙ ap suc is

start-no : (b n r : ℕ) (text : List ℕ) → is_feed b ≡ false → nth_start (suc n) text ≡ r
    → nth_start (suc n) (b ∷ text) ≡ suc r
start-no b n r text fails is = ap (λ t. suc (nth_start (if t then n else suc n) text)) fails ∙ ap suc is

-- a place after a line feed has one before it
pub feeds-step : (text : List ℕ) (s : ℕ) → s < length text → get_or text s 0 ≡ 10
    → feeds (take (s + 1) text) ≡ feeds (take s text) + 1
feeds-step text s lt is = count_by_more_yes is_feed text s 0 lt (feed-yes _ is)

start-cases : (t : Bool) (b n r : ℕ) (text : List ℕ) → is_feed b ≡ t → nth_start n text ≡ r
    → (t ≡ false → 0 < n)
    → nth_start (cond t 1 0 + n) (b ∷ text) ≡ suc r
start-cases true b n r text holds is some =
    let one : 1 + n ≡ suc n = omega arith in ap (λ m. nth_start m (b ∷ text)) one
    ∙ start-yes b n r text holds is
start-cases false b zero r text fails is some = absurd (omega (arith, some refl))
start-cases false b (suc n) r text fails is some =
    let none : 0 + suc n ≡ suc n = omega arith in ap (λ m. nth_start m (b ∷ text)) none
    ∙ start-no b n r text fails is

-- the line of a place at which one begins
pub start-feeds : (text : List ℕ) (s : ℕ) → s ≤ length text → (0 < s → get_or text (s - 1) 0 ≡ 10)
    → nth_start (feeds (take s text)) text ≡ s
start-feeds [] zero le feed = refl
start-feeds [] (suc s) le feed = absurd (omega (arith, le))
start-feeds (b ∷ text) zero le feed = refl
start-feeds (b ∷ text) (suc zero) le feed =
    let same : suc zero - 1 ≡ 0 = omega arith in
    let byte : b ≡ 10 = subst (λ i. get_or (b ∷ text) i 0 ≡ 10) same (feed (omega arith)) in
    ap (λ m. nth_start m (b ∷ text)) (sum_by-cons (λ x. cond (is_feed x) 1 0) b [])
    ∙ start-cases (is_feed b) b 0 0 text refl refl (λ fails. cc (feed-yes b byte))
start-feeds (b ∷ text) (suc (suc q)) le feed =
    let same : suc (suc q) - 1 ≡ suc q = omega arith in
    let byte : get_or text q 0 ≡ 10 = subst (λ i. get_or (b ∷ text) i 0 ≡ 10) same (feed (omega arith)) in
    let here : suc q - 1 ≡ q = omega arith in
    let before : get_or text (suc q - 1) 0 ≡ 10 = ap (λ i. get_or text i 0) here ∙ byte in
    let more : feeds (take (suc q) text) ≡ feeds (take q text) + 1 =
    ap (λ i. feeds (take i text)) (sym (add-one q)) ∙ feeds-step text q (omega (arith, le)) byte in
    ap (λ m. nth_start m (b ∷ text)) (sum_by-cons (λ x. cond (is_feed x) 1 0) b (take (suc q) text))
    ∙ start-cases (is_feed b) b (feeds (take (suc q) text)) (suc q) text refl
    (start-feeds text (suc q) (omega (arith, le)) (λ _. before)) (λ fails. omega (arith, more))

-- a part of a line has no line feed
none-cases : (t : Bool) (b n : ℕ) (xs : List ℕ) → is_feed b ≡ t → feeds (take n xs) ≡ 0
    → feeds (take (cond (not t) (1 + n) 0) (b ∷ xs)) ≡ 0
none-cases true b n xs holds none = refl
none-cases false b n xs fails none =
    let one : 1 + n ≡ suc n = omega arith in
    ap (λ m. feeds (take m (b ∷ xs))) one ∙ sum_by-cons (λ x. cond (is_feed x) 1 0) b (take n xs)
    ∙ ap (λ t. cond t 1 0 + feeds (take n xs)) fails ∙ omega (arith, none)

pub feeds-none : (xs : List ℕ) → feeds (take (line_right xs) xs) ≡ 0
feeds-none [] = refl
feeds-none (b ∷ xs) = none-cases (is_feed b) b (line_right xs) xs refl (feeds-none xs)

pub feeds-reverse : (xs : List ℕ) → feeds (reverse xs) ≡ feeds xs
feeds-reverse [] = refl
feeds-reverse (x ∷ xs) =
    ap feeds (reverse-append (x ∷ []) xs) ∙ sum_by-append (λ y. cond (is_feed y) 1 0) (reverse xs) (x ∷ [])
    ∙ omega (arith, feeds-reverse xs, sum_by-append (λ y. cond (is_feed y) 1 0) (x ∷ []) xs)

-- the places of a line have the same line feeds before them
pub feeds-left : (text : List ℕ) (at start : ℕ) → at ≤ length text → start + line_left (take at text) ≡ at
    → feeds (take start text) ≡ feeds (take at text)
feeds-left text at start le is =
    let ys : List ℕ = take at text in
    let n : ℕ = line_left ys in
    let size : n + start ≡ length ys = omega (arith, is, length-take-le at text le) in
    let behind : feeds (drop n (reverse ys)) ≡ feeds (take start ys) =
    ap feeds (drop-reverse ys n start size) ∙ feeds-reverse (take start ys) in
    let front : feeds (take n (reverse ys)) ≡ 0 = feeds-none (reverse ys) in
    let both : feeds (take n (reverse ys)) + feeds (drop n (reverse ys)) ≡ feeds ys =
    sum_by-take-drop (λ y. cond (is_feed y) 1 0) (reverse ys) n ∙ feeds-reverse ys in
    let part : feeds (take start ys) ≡ feeds (take start text) = ap feeds
    (take-take start at text (omega (arith, is))) in
    omega (arith, behind, front, both, part)

pub feeds-right : (text : List ℕ) (at end : ℕ) → end ≡ at + line_right (drop at text)
    → feeds (take end text) ≡ feeds (take at text)
feeds-right text at end is =
    let n : ℕ = line_right (drop at text) in
    let parts : feeds (take end text) ≡ feeds (take at text ++ take n (drop at text)) =
    ap (λ m. feeds (take m text)) is ∙ ap feeds (sym (take-behind text at n)) in
    omega (
      arith,
      parts,
      sum_by-append (λ y. cond (is_feed y) 1 0) (take at text) (take n (drop at text)),
      feeds-none (drop at text),
    )

pub feeds-next : (text : List ℕ) (at end : ℕ) → end ≡ at + line_right (drop at text) → end < length text
    → get_or text end 0 ≡ 10 → feeds (take (end + 1) text) ≡ feeds (take at text) + 1
feeds-next text at end is lt byte = omega (arith, feeds-right text at end is, feeds-step text end lt byte)

pub feeds-last : (text : List ℕ) (at end : ℕ) → end ≡ at + line_right (drop at text) → length text ≤ end
    → feeds (take at text) ≡ feeds text
feeds-last text at end is le = sym (feeds-right text at end is) ∙ ap feeds (take_all end text le)

-- a line begins after a line feed
pub begins-after : (text : List ℕ) (end : ℕ) → IsUtf8 text → end < length text → get_or text end 0 ≡ 10
    → BeginsLine text (end + 1)
begins-after text end utf8 lt byte =
    let same : end + 1 - 1 ≡ end = omega arith in record {
      boundary = IsCharBoundary-after_ascii text end utf8 lt (omega (arith, byte));
      feed = λ _. ap (λ i. get_or text i 0) same ∙ byte;
    }

-- the line above
pub feeds-above : (text : List ℕ) (top : ℕ) → BeginsLine text top → 0 < top
    → feeds (take top text) ≡ feeds (take (top - 1) text) + 1
feeds-above text top begins some =
    let same : top ≡ top - 1 + 1 = omega (arith, some) in
    ap (λ m. feeds (take m text)) same ∙ feeds-step text (top - 1) (omega (arith, begins.boundary.0, some))
    (begins.feed some)

pub start-of : (text : List ℕ) (top n : ℕ) → BeginsLine text top → feeds (take top text) ≡ n → top
    ≡ nth_start n text
start-of text top n begins is =
    sym (start-feeds text top begins.boundary.0 begins.feed) ∙ ap (λ m. nth_start m text) is

pub feeds-at_start : (text : List ℕ) (top : ℕ) → top ≤ 0 → feeds (take top text) ≡ 0
feeds-at_start text zero le = refl
feeds-at_start text (suc top) le = absurd (omega (arith, le))

pub feeds-le : (text : List ℕ) (n : ℕ) → feeds (take n text) ≤ feeds text
feeds-le text n = sum_by-take-le (λ y. cond (is_feed y) 1 0) text n

-- the part of a text that its first graphemes take
pub line-parts : (line rest : List ℕ) (n : ℕ) → IsUtf8 line → rest ≡ concat (drop n (graphemes true line))
    → line ≡ concat (take n (graphemes true line)) ++ rest
line-parts line rest n utf8 is =
    sym (concat-segments _ _ utf8) ∙ ap concat (sym (take-append-drop n (graphemes true line)))
    ∙ concat-append (take n (graphemes true line)) (drop n (graphemes true line))
    ∙ ap (λ w. concat (take n (graphemes true line)) ++ w) (sym is)

pub columns-value : (line rest : List ℕ) (n : ℕ) → IsUtf8 line → rest ≡ concat (drop n (graphemes true line))
    → length line - length rest ≡ columns_len n line
columns-value line rest n utf8 is =
    omega (
      arith,
      ap length (line-parts line rest n utf8 is),
      length-append
          (concat (take n (graphemes true line))) rest,
    )

pub columns-le : (line rest : List ℕ) (n : ℕ) → IsUtf8 line → rest ≡ concat (drop n (graphemes true line))
    → length rest ≤ length line
columns-le line rest n utf8 is =
    omega (
      arith,
      ap length (line-parts line rest n utf8 is),
      length-append
          (concat (take n (graphemes true line))) rest,
    )

pub columns-boundary : (line rest : List ℕ) (n : ℕ) → IsUtf8 line → IsUtf8 rest → rest
    ≡ concat (drop n (graphemes true line))
    → IsCharBoundary line (length line - length rest)
columns-boundary line rest n utf8 piece is =
    subst (IsCharBoundary line) (sym (columns-value line rest n utf8 is))
    (IsCharBoundary-at_seam line (concat (take n (graphemes true line))) rest
    (line-parts line rest n utf8 is) piece)

-- one grapheme less is left
pub left-step : (gs left rest : List (List ℕ)) (g : List ℕ) (n m : ℕ) → left ≡ drop n gs → left ≡ g ∷ rest
    → m ≡ n + 1
    → rest ≡ drop m gs
left-step gs left rest g n m is cons more =
    ap (drop 1) (sym cons ∙ is) ∙ drop-drop 1 n gs ∙ ap (λ k. drop k gs) (sym more)

pub left-none : (gs left : List (List ℕ)) (n m : ℕ) → left ≡ drop n gs → left ≡ [] → n ≤ m → concat left
    ≡ concat (drop m gs)
left-none gs left n m is none le =
    let all : drop m gs ≡ [] = ap (λ k. drop k gs) (omega (arith, le)) ∙ sym (drop-drop (m - n) n gs)
    ∙ ap (drop (m - n)) (sym is ∙ none)
    ∙ drop_all (m - n) [] (omega arith)
    in ap concat (none ∙ sym all)

pub last-line_at : (text : List ℕ) (start : ℕ) → start + line_left text ≡ length text → drop start text
    ≡ last_line text
last-line_at text start is = ap (λ n. drop n text) (omega (arith, is))

-- a count of line feeds
pub count-feed : (text : List ℕ) (i n : ℕ) → i < length text → get_or text i 0 ≡ 10 → n ≡ feeds (take i text)
    → n + 1 ≡ feeds (take (i + 1) text)
count-feed text i n lt byte is = ap (λ m. m + 1) is ∙ sym (feeds-step text i lt byte)

pub count-other : (text : List ℕ) (i n : ℕ) → i < length text → get_or text i 0 ≢ 10 → n ≡ feeds (take i text)
    → n ≡ feeds (take (i + 1) text)
count-other text i n lt byte is = is ∙ sym (count_by_more_no is_feed text i 0 lt (ne_eqb _ _ byte))

pub count-all : (text : List ℕ) (i : ℕ) → length text ≤ i → feeds (take i text) ≡ feeds text
count-all text i le = ap feeds (take_all i text le)

pub count-within : (text : List ℕ) → feeds text ≤ length text
count-within text = count_by-le-length is_feed text

pub ruleset count_rules = (count-feed, count-other, count-all, count-within)

pub ruleset row_rules = (feeds-left, feeds-next, feeds-last)

pub ruleset step_rules = (feeds-above, start-of, feeds-at_start, feeds-le)

pub ruleset column_rules = (columns-value, columns-le, columns-boundary, left-step, left-none, last-line_at)

pub ruleset place_rules = (boundary-behind)
