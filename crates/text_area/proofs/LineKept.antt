-- A line that is kept.
use Rattle.std.proofs.Common.{ℕ, min, inl, inr, ◌≡◌, ◌≢◌, ◌+◌, ◌-◌, ◌<◌, ◌≤◌, true, false, not, ◌==◌, List, ◌++◌}
use Rattle.std.proofs.Common.{length, take, drop, get_or, ap, sym, subst, ◌∙◌, arith, slice_range, length-append, length-take}
use Rattle.std.proofs.lemmas.{List.length-take-le, List.length-drop, List.take-take, List.take_all, List.get_or_append_left}
use Rattle.std.proofs.lemmas.{List.get_or-append_right, List.get_or-take, List.get_or-drop, List.drop-take, List.drop_all}
use Rattle.std.proofs.lemmas.{List.Sums.prefix_len_is, List.Sums.suffix_len_is, Bool.ne_eqb}
use Rattle.std.proofs.lemmas.{Bool.cases_lt, List.append-nil}
use Rattle.std.specs.{List.replace_range, Str.IsUtf8, Str.IsCharBoundary}
use Rattle.unicode_segmentation.specs.Grapheme.{graphemes}
use Rattle.rtui_text.specs.Printable.{IsPrintable, ArePrintable, IsPrintableFront, singles}
use Rattle.rtui_text.proofs.{PrintableLemmas.graphemes-front, GraphemeLemmas.graphemes-empty}
use Rattle.text_area.specs.Extents.{in_line, line_left, line_right}
use Rattle.text_area.specs.Lines.{feeds, first_line, last_line, column_after, nth_place, place_above, place_below}
use Rattle.text_area.specs.Inner.{IsKept}
use Rattle.text_area.specs.declared.kept.KeptLine.{KeptLine}
use Rattle.text_area.proofs.LineLemmas.{feeds-step, feeds-le, feeds-left, feeds-right}
use Rattle.text_area.proofs.RunLemmas.{boundary-after}
use Rattle.text_area.proofs.FrontLemmas.{size-singles}

feeds-mono : (text : List ℕ) (a b : ℕ) → a ≤ b → feeds (take a text) ≤ feeds (take b text)
feeds-mono text a b le = subst (λ t. feeds t ≤ feeds (take b text)) (take-take a b text le) (feeds-le (take b text) a)

-- between two places with as many line feeds before them there is none
pub feeds-between : (text : List ℕ) (a b k : ℕ) → b ≤ length text → feeds (take a text) ≡ feeds (take b text) → a ≤ k
    → k < b → get_or text k 0 ≢ 10
feeds-between text a b k le same from to feed = omega (
  arith,
  same,
  feeds-step text k (omega (arith, le, to)) feed,
  feeds-mono text a k from,
  feeds-mono text (k + 1) b (omega (arith, to)),
)

pub piece-feeds : (piece : List ℕ) (k : ℕ) → feeds piece ≡ 0 → k < length piece → get_or piece k 0 ≢ 10
piece-feeds piece k none lt feed =
    omega (arith, none, feeds-step piece k lt feed, feeds-le piece (k + 1))

other : (b : ℕ) → b ≢ 10 → in_line b ≡ true
other b is = ap not (ne_eqb _ _ is)

feed-is : (b : ℕ) → b ≡ 10 → in_line b ≡ false
feed-is b is = ap (λ x. not (x == 10)) is

module _ (text : List ℕ) (line : KeptLine) (kept : IsKept text line) (at : ℕ) (from : line.start ≤ at) (to : at ≤ line.end) where
  within : at ≤ length text
  within = omega (arith, kept.boundary.0, to)

  size : length (take at text) ≡ at
  size = length-take-le at text within

  left-is : line_left (take at text) ≡ at - line.start
  left-is =
      suffix_len_is in_line (take at text) line.start 0 (omega (arith, size, from))
      (λ k low high. ap in_line (get_or-take at text k 0 (omega (arith, size, high)))
      ∙ other (get_or text k 0) (kept.none k low (omega (arith, size, high, to))))
      (λ some. ap in_line (get_or-take at text (line.start - 1) 0 (omega (arith, some, from)))
      ∙ feed-is _ (kept.begins.feed some))
      ∙ ap (λ n. n - line.start) size

  right-is : line_right (drop at text) ≡ line.end - at
  right-is =
      prefix_len_is in_line (drop at text) (line.end - at) 0
      (omega (arith, length-drop at text, kept.boundary.0))
      (λ k lt. ap in_line (get_or-drop at text k 0)
      ∙ other (get_or text (at + k) 0) (kept.none (at + k) (omega (arith, from)) (omega (arith, lt))))
      (λ lt. let end : at + (line.end - at) ≡ line.end = omega (arith, to) in
      ap in_line (get_or-drop at text (line.end - at) 0 ∙ ap (λ k. get_or text k 0) end)
      ∙ feed-is _ (kept.feed (omega (arith, lt, length-drop at text, to))))

  pub kept-row : feeds (take line.start text) ≡ feeds (take at text)
  kept-row = feeds-left text at line.start within (omega (arith, left-is, from))

  pub kept-last : slice_range text line.start at ≡ last_line (take at text)
  kept-last =
      let whole : line.start + (at - line.start) ≡ at = omega (arith, from) in
      let here : line.start ≡ length (take at text) - line_left (take at text) = omega (arith, size, left-is, from) in
      sym (drop-take line.start (at - line.start) text) ∙ ap (λ n. drop line.start (take n text)) whole
      ∙ ap (λ n. drop n (take at text)) here

  pub kept-first : slice_range text at line.end ≡ first_line (drop at text)
  kept-first = ap (λ n. take n (drop at text)) (sym right-is)

-- the bytes of a plain line
pub kept-plain : (text : List ℕ) (line : KeptLine) (a b : ℕ) → IsKept text line → line.is_plain ≡ true → line.start ≤ a
    → b ≤ line.end → ArePrintable (slice_range text a b)
kept-plain text line a b kept plain from to k lt =
    let short : k < b - a = omega (arith, lt, length-take (b - a) (drop a text)) in
    let same : get_or (slice_range text a b) k 0 ≡ get_or text (a + k) 0 =
    get_or-take (b - a) (drop a text) k 0 short ∙ get_or-drop a text k 0 in
    subst IsPrintable (sym same) (kept.plain plain (a + k) (omega (arith, from)) (omega (arith, short, to)))

-- each of them is a grapheme
pub plain-count : (text : List ℕ) → ArePrintable text → length (graphemes true text) ≡ length text
plain-count text all =
    let front : IsPrintableFront text (length text) = record {
      within = omega arith;
      printable = all;
      followed = λ some more. absurd (omega (arith, more));
    } in
    let whole : graphemes true text ≡ singles text =
    graphemes-front text (length text) front
    ∙ ap (λ t. singles t ++ graphemes true (drop (length text) text)) (take_all (length text) text (omega arith))
    ∙ ap (λ t. singles text ++ graphemes true t) (drop_all (length text) text (omega arith))
    ∙ ap (λ t. singles text ++ t) graphemes-empty ∙ append-nil (singles text) in
    ap length whole ∙ size-singles text

pub plain-column : (text : List ℕ) (line : KeptLine) (at : ℕ) → IsKept text line → line.is_plain ≡ true → line.start ≤ at
    → at ≤ line.end → at - line.start ≡ column_after (take at text)
plain-column text line at kept plain from to =
    let last = kept-last text line kept at from to in
    let all : ArePrintable (slice_range text line.start at) = kept-plain text line line.start at kept plain (omega arith) to in
    let size : length (slice_range text line.start at) ≡ at - line.start =
    omega (arith, length-take (at - line.start) (drop line.start text), length-drop line.start text, kept.boundary.0, to) in
    sym size ∙ sym (plain-count (slice_range text line.start at) all) ∙ ap (λ t. length (graphemes true t)) last

-- a line is kept where it was read
pub kept-read : (text : List ℕ) (line : KeptLine) (at : ℕ) → IsUtf8 text → at ≤ length text
    → line.start + line_left (take at text) ≡ at → (0 < line.start → get_or text (line.start - 1) 0 ≡ 10)
    → IsCharBoundary text line.start → line.end ≡ at + line_right (drop at text) → IsCharBoundary text line.end
    → (line.end < length text → get_or text line.end 0 ≡ 10)
    → (line.is_plain ≡ true → ArePrintable (slice_range text line.start line.end)) → IsKept text line
kept-read text line at utf8 le left stop start right end stops plain =
    let before : line.start ≤ at = omega (arith, left) in
    let after : at ≤ line.end = omega (arith, right) in
    let same : feeds (take line.start text) ≡ feeds (take line.end text) =
    feeds-left text at line.start le left ∙ sym (feeds-right text at line.end right) in
    record {
      begins = record { boundary = start; feed = stop };
      order = omega (arith, before, after);
      boundary = end;
      feed = stops;
      none = λ k from to. feeds-between text line.start line.end k end.0 same from to;
      plain = λ is k from to.
          let size : length (slice_range text line.start line.end) ≡ line.end - line.start =
          omega (arith, length-take (line.end - line.start) (drop line.start text), length-drop line.start text, end.0) in
          let there : line.start + (k - line.start) ≡ k = omega (arith, from) in
          let byte : get_or (slice_range text line.start line.end) (k - line.start) 0 ≡ get_or text k 0 =
          get_or-take (line.end - line.start) (drop line.start text) (k - line.start) 0 (omega (arith, from, to))
          ∙ get_or-drop line.start text (k - line.start) 0 ∙ ap (λ i. get_or text i 0) there in
          subst IsPrintable byte (plain is (k - line.start) (omega (arith, size, from, to)));
    }

-- and where a part of it has given way to a piece without a line feed
module _ (text new piece : List ℕ) (from to : ℕ) (order : from ≤ to) (le : to ≤ length text)
    (is : new ≡ replace_range text from to piece) where
  front-size : length (take from text ++ piece) ≡ from + length piece
  front-size = omega (arith, length-append (take from text) piece, length-take-le from text (omega (arith, order, le)))

  whole-size : length new ≡ from + length piece + (length text - to)
  whole-size =
      omega (arith, ap length is, length-append (take from text ++ piece) (drop to text), front-size, length-drop to text)

  front-byte : (k : ℕ) → k < from → get_or new k 0 ≡ get_or text k 0
  front-byte k lt =
      ap (λ t. get_or t k 0) is ∙ get_or_append_left (take from text ++ piece) (drop to text) 0 k (omega (arith, front-size, lt))
      ∙ get_or_append_left (take from text) piece 0 k
      (omega (arith, length-take-le from text (omega (arith, order, le)), lt))
      ∙ get_or-take from text k 0 lt

  piece-byte : (k : ℕ) → from ≤ k → k < from + length piece → get_or new k 0 ≡ get_or piece (k - from) 0
  piece-byte k low lt =
      let part : length (take from text) ≡ from = length-take-le from text (omega (arith, order, le)) in
      ap (λ t. get_or t k 0) is ∙ get_or_append_left (take from text ++ piece) (drop to text) 0 k (omega (arith, front-size, lt))
      ∙ get_or-append_right (take from text) piece from k 0 part low

  back-byte : (k : ℕ) → from + length piece ≤ k → get_or new k 0 ≡ get_or text (to + (k - (from + length piece))) 0
  back-byte k low =
      ap (λ t. get_or t k 0) is
      ∙ get_or-append_right (take from text ++ piece) (drop to text) (from + length piece) k 0 front-size low
      ∙ get_or-drop to text (k - (from + length piece)) 0

  module _ (P : ℕ → Type 0) (start end : ℕ) (low : start ≤ from) (high : to ≤ end)
      (old : (k : ℕ) → start ≤ k → k < end → P (get_or text k 0))
      (put : (k : ℕ) → k < length piece → P (get_or piece k 0)) where
    each-byte : (k : ℕ) → start ≤ k → k < end - (to - from) + length piece → P (get_or new k 0)
    each-byte k first last = elim (cases_lt k from) [
      | inl before ↦ subst P (sym (front-byte k before)) (old k first (omega (arith, before, order, high)))
      | inr after ↦ elim (cases_lt k (from + length piece)) [
        | inl within ↦ subst P (sym (piece-byte k after within)) (put (k - from) (omega (arith, after, within)))
        | inr past ↦ subst P (sym (back-byte k past))
            (old (to + (k - (from + length piece))) (omega (arith, low, order)) (omega (arith, past, last, order, high)))
      ]
    ]

  pub kept-changed : (line next : KeptLine) → IsUtf8 new → IsKept text line → line.start ≤ from → to ≤ line.end
      → feeds piece ≡ 0 → next.start ≡ line.start → next.end ≡ line.end - (to - from) + length piece
      → (next.is_plain ≡ true → line.is_plain ≡ true) → (next.is_plain ≡ true → ArePrintable piece) → IsKept new next
  kept-changed line next utf8 kept low high none start end was plain =
      let inside : next.end ≤ length new = omega (arith, end, whole-size, kept.boundary.0, order, high) in
      let first : next.start ≤ next.end = omega (arith, start, end, low, order, high) in
      let feed : 0 < next.start → get_or new (next.start - 1) 0 ≡ 10 =
      λ some. front-byte (next.start - 1) (omega (arith, some, start, low)) ∙ ap (λ n. get_or text (n - 1) 0) start
      ∙ kept.begins.feed (omega (arith, some, start)) in
      let stop : next.end < length new → get_or new next.end 0 ≡ 10 =
      λ more. let there : to + (next.end - (from + length piece)) ≡ line.end = omega (arith, end, order, high) in
      back-byte next.end (omega (arith, end, order, high)) ∙ ap (λ n. get_or text n 0) there
      ∙ kept.feed (omega (arith, more, end, whole-size, order, high)) in
      record {
        begins = record {
          boundary = boundary-after new next.start utf8 (omega (arith, first, inside))
              (λ some. omega (arith, feed some));
          feed = feed;
        };
        order = first;
        boundary = (inside, λ more byte. absurd (omega (arith, stop more, byte)));
        feed = stop;
        none = λ k lower upper. each-byte (λ b. b ≢ 10) line.start line.end low high kept.none
            (λ i lt. piece-feeds piece i none lt) k (omega (arith, lower, start)) (omega (arith, upper, end));
        plain = λ holds k lower upper. each-byte IsPrintable line.start line.end low high (kept.plain (was holds))
            (plain holds) k (omega (arith, lower, start)) (omega (arith, upper, end));
      }

-- places by the lines above or below a line that is kept
pub above-kept : (text a b : List ℕ) (lines columns : ℕ) → feeds a ≡ feeds b
    → place_above lines columns a text ≡ place_above lines columns b text
above-kept text a b lines columns same = ap (λ n. nth_place (n - lines) columns text) same

pub below-kept : (text a b : List ℕ) (lines columns : ℕ) → feeds a ≡ feeds b
    → place_below lines columns a text ≡ place_below lines columns b text
below-kept text a b lines columns same = ap (λ n. nth_place (min (n + lines) (feeds text)) columns text) same
