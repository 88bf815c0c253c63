-- What is painted of planets can be shown.
use Rattle.std.proofs.Common.{◌≡◌, ℕ, zero, suc, ◌==◌, ◌&&◌, nat_le, nat_lt, Bool, true, false, List, [], ◌∷◌, All}
use Rattle.std.proofs.Common.{map, length, refl, sym, ap, subst, ◌∙◌, arith}
use Rattle.std.specs.{List.list_all, Str.Lines.lines, Str.Lines.lines_of_parts}
use Rattle.std.proofs.lemmas.{Bool.and_parts, List.Elements.All-nil, List.Elements.All-cons, List.Splits.slice_split_none}
use Rattle.std.proofs.lemmas.Bool.Decides.{nat_tests}
use Rattle.ratatui_core.specs.{Layout.EdgesFit, Buffer.BufferData, Buffer.IsEmptied, Buffer.IsSettledBuffer}
use Rattle.ratatui_core.specs.Text.{ArePrintable, TakesOneColumn, EachLineGrapheme, EachTextGrapheme, SpanData}
use Rattle.ratatui_core.specs.Text.{unstyled, line_of, raw_line}
use Rattle.rtui_widgets.proofs.{PlainLemmas.plain-emptied, PlainLemmas.settled-plain, PrintableTextLemmas.line-narrow}
use Rattle.widget_list.specs.{declared.list.List.List as ListData, declared.item.ListItem.ListItem}
use Rattle.widget_list.specs.{Items.HasNarrowItems, Items.raw_item}
use Rattle.widget_list.proofs.NarrowListLemmas.{list-plain}
use Rattle.chooser.specs.declared.chooser.Chooser.{Chooser}
use Rattle.chooser.specs.Choosing.{planet_names, planet_items, IsPlanetList, PaintsPlanets}

-- a text of printable characters of ASCII
abbrev is_printable : ℕ → Bool
is_printable b = nat_le 32 b && nat_lt b 127

abbrev is_planet_name : List ℕ → Bool
is_planet_name [] = false
is_planet_name (b ∷ bs) = list_all is_printable (b ∷ bs)

printable-by : (bs : List ℕ) → list_all is_printable bs ≡ true → ArePrintable bs
printable-by [] is k lt = absurd (omega arith)
printable-by (b ∷ bs) is zero lt =
    let one = and_parts (is_printable b) (list_all is_printable bs) is in
    let both = and_parts (nat_le 32 b) (nat_lt b 127) one.0 in
    let low = both.0 in let high = both.1 in
    record { low = grind (arith, nat_tests); high = grind (arith, nat_tests) }
printable-by (b ∷ bs) is (suc k) lt =
    printable-by bs (and_parts (is_printable b) (list_all is_printable bs) is).1 k (omega arith)

-- it is one line
no-feed : (bs : List ℕ) → list_all is_printable bs ≡ true → All (λ b. (b == 10) ≡ false) bs
no-feed [] is = All-nil (λ b. (b == 10) ≡ false)
no-feed (b ∷ bs) is =
    let parts = and_parts (is_printable b) (list_all is_printable bs) is in
    let low = (and_parts (nat_le 32 b) (nat_lt b 127) parts.0).0 in
    All-cons (λ b. (b == 10) ≡ false) b bs (grind (arith, nat_tests)) (no-feed bs parts.1)

some-bytes : (b : ℕ) (bs : List ℕ) → (length (b ∷ bs) == 0) ≡ false
some-bytes b bs = grind (arith, nat_tests)

one-line : (b : ℕ) (bs : List ℕ) → list_all is_printable (b ∷ bs) ≡ true → lines (b ∷ bs) ≡ (b ∷ bs) ∷ []
one-line b bs is =
    let one : lines_of_parts ((b ∷ bs) ∷ []) ≡ (b ∷ bs) ∷ [] = rw (some-bytes b bs) refl in
    ap lines_of_parts (slice_split_none (λ c. c == 10) (b ∷ bs) (no-feed (b ∷ bs) is)) ∙ one

-- a line of it is narrow, and so is an item
abbrev IsNarrowItem : ListItem → Type 0
IsNarrowItem item = EachTextGrapheme TakesOneColumn item.content

narrow-line : (b : ℕ) (bs : List ℕ) → list_all is_printable (b ∷ bs) ≡ true → EachLineGrapheme TakesOneColumn (raw_line (b ∷ bs))
narrow-line b bs is =
    let span = unstyled (b ∷ bs) in
    let narrow : EachLineGrapheme TakesOneColumn (line_of (span ∷ [])) =
    line-narrow (line_of (span ∷ [])) (All-cons (λ (s : SpanData). ArePrintable s.content) span [] (printable-by (b ∷ bs) is)
    (All-nil (λ (s : SpanData). ArePrintable s.content))) in
    subst (λ (ls : List (List ℕ)). EachLineGrapheme TakesOneColumn (line_of (map unstyled ls))) (sym (one-line b bs is)) narrow

narrow-item : (name : List ℕ) → is_planet_name name ≡ true → IsNarrowItem (raw_item name)
narrow-item [] is = absurd (cc)
narrow-item (b ∷ bs) is =
    rw (some-bytes b bs) (subst (λ (ls : List (List ℕ)). All (EachLineGrapheme TakesOneColumn) (map raw_line ls)) (sym (one-line b bs is))
    (All-cons (EachLineGrapheme TakesOneColumn) (raw_line (b ∷ bs)) [] (narrow-line b bs is)
    (All-nil (EachLineGrapheme TakesOneColumn))))

narrow-items : (names : List (List ℕ)) → list_all is_planet_name names ≡ true → All IsNarrowItem (map raw_item names)
narrow-items [] is = All-nil IsNarrowItem
narrow-items (name ∷ names) is =
    let parts = and_parts (is_planet_name name) (list_all is_planet_name names) is in
    All-cons IsNarrowItem (raw_item name) (map raw_item names) (narrow-item name parts.0) (narrow-items names parts.1)

-- so are the planets, and their mark
narrow-planets : All IsNarrowItem planet_items
unfolding planet_items
narrow-planets = narrow-items planet_names refl

planets-narrow : (l : ListData) → IsPlanetList l → HasNarrowItems l
planets-narrow l is = record {
  symbol = rw is.mark (narrow-line 62 (32 ∷ []) refl);
  items = rw is.items_are narrow-planets;
}

pub planets-settled : (c : Chooser) (blank painted : BufferData) → EdgesFit painted.area → IsEmptied painted.area blank
    → PaintsPlanets c painted.area blank painted → IsSettledBuffer painted
planets-settled c blank painted edges empty paints =
    let is = paints.is_list in
    settled-plain painted edges
    (list-plain paints.list c.list paints.after painted.area blank painted (rw is.no_box tt) (planets-narrow paints.list is)
    (plain-emptied painted.area blank empty) paints.renders)
