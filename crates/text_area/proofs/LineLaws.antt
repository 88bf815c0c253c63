-- Up and down: a place in a line, and the line of that place.
use Rattle.std.proofs.Common.{ℕ, zero, suc, ◌≡◌, ◌+◌, ◌-◌, ◌<◌, ◌≤◌, min, Bool, true, false, cond}
use Rattle.std.proofs.Common.{if◌then◌else◌, List, [], ◌∷◌}
use Rattle.std.proofs.Common.{take, drop, refl, sym, ap, ◌∙◌, arith}
use Rattle.std.proofs.lemmas.{List.take-take, List.length-take, List.Sums.sum_by-cons}
use Rattle.std.proofs.lemmas.{List.Sums.sum_by-append}
use Rattle.std.specs.{List.concat, Str.IsUtf8}
use Rattle.unicode_segmentation.specs.Grapheme.{graphemes}
use Rattle.text_field.specs.History.{CursorText, cursor_text_at}
use Rattle.text_field.proofs.FieldLemmas.{take-behind}
use Rattle.text_area.specs.Extents.{is_feed, line_right}
use Rattle.text_area.specs.Lines.{feeds, nth_start, nth_line, nth_place, columns_len}
use Rattle.text_area.specs.Drafts.{draft_text}
use Rattle.text_area.specs.Journals.{journal_of}
use Rattle.text_area.specs.Areas.{AreaData, area_text, area_before, area_cursor, aim_of, gone}
use Rattle.text_area.specs.declared.moves.Move.TheVariants.{Up, Down}
use Rattle.text_area.proofs.{DraftLemmas.text-at, LawLemmas.text-again, LawLemmas.fewer-cases}
use Rattle.text_area.proofs.LineLemmas.{columns-value, feeds-none, feeds-le}

-- the line that begins where a line begins is this one
row-cases : (t : Bool) (b i m : ℕ) (xs : List ℕ) → is_feed b ≡ t → feeds (take m xs)
    ≡ (if t then i else suc i)
    → feeds (b ∷ take m xs) ≡ suc i
row-cases true b i m xs is rest =
    sum_by-cons (λ x. cond (is_feed x) 1 0) b (take m xs) ∙ ap (λ t. cond t 1 0 + feeds (take m xs)) is
    ∙ omega (arith, rest)
row-cases false b i m xs is rest =
    sum_by-cons (λ x. cond (is_feed x) 1 0) b (take m xs) ∙ ap (λ t. cond t 1 0 + feeds (take m xs)) is
    ∙ omega (arith, rest)

pub row-of_start : (text : List ℕ) (i : ℕ) → i ≤ feeds text → feeds (take (nth_start i text) text) ≡ i
row-of_start text zero le = refl
row-of_start [] (suc i) le = absurd (omega (arith, le))
row-of_start (b ∷ xs) (suc i) le =
    row-cases (is_feed b) b i (nth_start (if is_feed b then i else suc i) xs) xs refl
    (row-of_start xs (if is_feed b then i else suc i)
    (fewer-cases (is_feed b) i (feeds (b ∷ xs)) (feeds xs) le (sum_by-cons (λ x. cond (is_feed x) 1 0) b xs)))

-- so is that of each place in it
row-of_place : (text : List ℕ) (i n : ℕ) → IsUtf8 (nth_line i text) → i ≤ feeds text
    → feeds (take (nth_place i n text) text) ≡ i
row-of_place text i n utf8 le =
    let rest : List ℕ = drop (nth_start i text) text in
    let k : ℕ = columns_len n (nth_line i text) in
    let fits : k ≤ line_right rest =
    omega (
      arith,
      columns-value (nth_line i text) (concat (drop n (graphemes true (nth_line i text)))) n utf8 refl,
      length-take (line_right rest) rest,
    ) in
    let none : feeds (take k rest) ≤ feeds (take (line_right rest) rest) =
    omega (
      arith,
      ap feeds (take-take k (line_right rest) rest fits),
      feeds-le (take (line_right rest) rest)
          k,
    ) in
    let parts : feeds (take (nth_start i text + k) text) ≡ feeds (take (nth_start i text) text)
    + feeds (take k rest) =
    ap feeds (sym (take-behind text (nth_start i text) k))
    ∙ sum_by-append (λ x. cond (is_feed x) 1 0) (take (nth_start i text) text) (take k rest) in
    omega (arith, parts, row-of_start text i le, none, feeds-none rest)

pub up-down : (a : AreaData) → IsUtf8 (nth_line (feeds (area_before a) - 1) (area_text a))
    → 0 < feeds (area_before a)
    → nth_place (feeds (area_before a)) (aim_of a) (area_text a) ≡ area_cursor a
    → (gone Down (gone Up a)).journal ≡ a.journal
up-down a utf8 some stands =
    let text : List ℕ = area_text a in
    let row : ℕ = feeds (area_before a) in
    let p : ℕ = nth_place (row - 1) (aim_of a) text in
    let within : row ≤ feeds text =
    omega (arith, sum_by-append (λ x. cond (is_feed x) 1 0) (area_before a) a.journal.text.after) in
    let above : feeds (take p text) ≡ row - 1 = row-of_place text (row - 1) (aim_of a) utf8
    (omega (arith, within)) in
    let same : draft_text (cursor_text_at text p) ≡ text = text-at text p in
    let line : min (feeds (take p text) + 1) (feeds text) ≡ row = omega (arith, above, within, some) in
    let back : nth_place (min (feeds (take p text) + 1) (feeds text)) (aim_of a) text ≡ area_cursor a =
    ap (λ i. nth_place i (aim_of a) text) line ∙ stands in
    ap (λ w. journal_of (cursor_text_at w (nth_place (min (feeds (take p text) + 1) (feeds w)) (aim_of a) w))
    a.journal.past a.journal.future a.journal.most) same
    ∙ ap (λ at. journal_of (cursor_text_at text at) a.journal.past a.journal.future a.journal.most) back
    ∙ ap (λ (t : CursorText). journal_of t a.journal.past a.journal.future a.journal.most)
    (text-again a.journal.text)
