-- A canvas of narrow marks and labels keeps cells plain.
use Rattle.std.proofs.Common.{◌≡◌, ℕ, zero, suc, ◌+◌, ◌-◌, ◌*◌, ◌%◌, ◌<◌, ◌≤◌, ◌==◌, Bool, true, false, IfSome}
use Rattle.std.proofs.Common.{if◌then◌else◌, List, [], ◌∷◌, All, replicate, arith, refl, nat_le}
use Rattle.std.proofs.Common.{slice_index, slice_index_or, slice_set, bit_or, lit<}
use Rattle.std.specs.{Char.encode_utf8}
use Rattle.std.proofs.lemmas.{Bool.Decides.nat_tests, Nat.or_lt}
use Rattle.std.proofs.lemmas.List.Elements.{All-nil, All-cons, All-head, All-tail}
use Rattle.unicode_width.proofs.Computing.{unicode_width}
use Rattle.ratatui_core.specs.Layout.{Rect, Position, intersected}
use Rattle.ratatui_core.specs.{Style.Color, Style.new_style, Style.with_bg}
use Rattle.ratatui_core.specs.declared.symbols.Marker.{Marker}
use Rattle.ratatui_core.specs.declared.symbols.Marker.TheVariants.{Dot, Block, Bar, Braille, HalfBlock, Quadrant, Sextant, Octant}
use Rattle.ratatui_core.specs.declared.symbols.Marker.TheVariants.{Custom}
use Rattle.ratatui_core.specs.Buffer.{BufferData, Cell, with_symbol, text_width, width_of, IsPlain, IsPlainFrom}
use Rattle.ratatui_core.specs.{Widgets.RendersLine}
use Rattle.ratatui_core.proofs.BufferLemmas.{plain-with_symbol, plain-changed, line-stays}
use Rattle.widget_boxes.proofs.{InnerLemmas.plain-inside, PlainBoxLemmas.plain-laid, PlainBoxLemmas.plain-done}
use Rattle.rtui_dots.specs.declared.{scale.Scale.Scale, painter.DotCell.DotCell}
use Rattle.rtui_dots.specs.Grids.{Dot as GridDot, lies_within, has_dot, far, dot_number, index_of, is_lower, with_dot_number}
use Rattle.rtui_dots.specs.Grids.{has_one_color, no_dots, with_dot, with_dots, empty_grid, braille_dots}
use Rattle.rtui_dots.specs.Grids.{pixels}
use Rattle.widget_canvas.proofs.RunLemmas.{all_run, from-runs}
use Rattle.rtui_dots.specs.Layers.{layers_of}
use Rattle.widget_canvas.specs.{declared.canvas.Canvas.Canvas, declared.label.Label.Label}
use Rattle.widget_canvas.specs.Canvases.{dot_mark, in_color, under_dots, shown_at, ShowsLayers}
use Rattle.widget_canvas.specs.Canvases.{RendersLabels, label_area, scale_of, ShowsCanvas, RendersCanvas, HasNarrowDots}
use Rattle.ratatui_core.specs.Text.{TakesOneColumn, EachLineGrapheme}
use Rattle.widget_boxes.specs.Boxes.{IsNarrowBox}
use Rattle.widget_boxes.specs.Framed.{inner_if}

-- each Braille character takes at most one column
abbrev is_narrow_braille : ℕ → Bool
is_narrow_braille n = nat_le (text_width (encode_utf8 (0x2800 + n))) 1

run-0 : all_run is_narrow_braille 0 32 ≡ true
unfolding encode_utf8 text_width unicode_width
run-0 = refl

run-1 : all_run is_narrow_braille 32 32 ≡ true
unfolding encode_utf8 text_width unicode_width
run-1 = refl

run-2 : all_run is_narrow_braille 64 32 ≡ true
unfolding encode_utf8 text_width unicode_width
run-2 = refl

run-3 : all_run is_narrow_braille 96 32 ≡ true
unfolding encode_utf8 text_width unicode_width
run-3 = refl

run-4 : all_run is_narrow_braille 128 32 ≡ true
unfolding encode_utf8 text_width unicode_width
run-4 = refl

run-5 : all_run is_narrow_braille 160 32 ≡ true
unfolding encode_utf8 text_width unicode_width
run-5 = refl

run-6 : all_run is_narrow_braille 192 32 ≡ true
unfolding encode_utf8 text_width unicode_width
run-6 = refl

run-7 : all_run is_narrow_braille 224 32 ≡ true
unfolding encode_utf8 text_width unicode_width
run-7 = refl

pub braille-narrow : HasNarrowDots Braille
braille-narrow d lt =
    let e : is_narrow_braille d.pattern ≡ true =
    from-runs is_narrow_braille run-0 run-1 run-2 run-3 run-4 run-5 run-6 run-7 d.pattern lt in grind (arith, nat_tests, e)

-- and each other mark
pub dot-narrow : HasNarrowDots Dot
unfolding encode_utf8 text_width unicode_width
dot-narrow d lt = lit< tt

pub bar-narrow : HasNarrowDots Bar
unfolding encode_utf8 text_width unicode_width
bar-narrow d lt = lit< tt

pub block-narrow : HasNarrowDots Block
unfolding encode_utf8 text_width unicode_width
block-narrow d lt = lit< tt

half-narrow : (is_upper is_lower is_one : Bool)
    → text_width (encode_utf8 (if is_upper then 0x2580 else if is_lower then 0x2584 else if is_one then 0x2588 else 0x2580)) ≤ 1
unfolding encode_utf8 text_width unicode_width
half-narrow true lower one = lit< tt
half-narrow false true one = lit< tt
half-narrow false false true = lit< tt
half-narrow false false false = lit< tt

pub halves-narrow : HasNarrowDots HalfBlock
halves-narrow d lt = half-narrow (d.pattern == 1) (d.pattern == 2) (has_one_color d)

-- the patterns of a grid's cells are numbers below 256
abbrev AreSmall : List DotCell → Type 0
AreSmall cells = All (λ (d : DotCell). d.pattern < 256) cells

no-small : (no_dots).pattern < 256
no-small = lit< tt

small-at : (cells : List DotCell) (i : ℕ) → AreSmall cells → (slice_index_or cells i no_dots).pattern < 256
small-at [] i all = no-small
small-at (c ∷ cells) zero all = All-head (λ (d : DotCell). d.pattern < 256) c cells all
small-at (c ∷ cells) (suc i) all = small-at cells i (All-tail (λ (d : DotCell). d.pattern < 256) c cells all)

small-set : (cells : List DotCell) (i : ℕ) (d : DotCell) → AreSmall cells → d.pattern < 256 → AreSmall (slice_set cells i d)
small-set [] i d all small = all
small-set (c ∷ cells) zero d all small =
    All-cons (λ (d : DotCell). d.pattern < 256) d cells small (All-tail (λ (d : DotCell). d.pattern < 256) c cells all)
small-set (c ∷ cells) (suc i) d all small =
    All-cons (λ (d : DotCell). d.pattern < 256) c (slice_set cells i d) (All-head (λ (d : DotCell). d.pattern < 256) c cells all)
    (small-set cells i d (All-tail (λ (d : DotCell). d.pattern < 256) c cells all) small)

small-empty : (n : ℕ) → AreSmall (replicate n no_dots)
small-empty zero = All-nil (λ (d : DotCell). d.pattern < 256)
small-empty (suc n) = All-cons (λ (d : DotCell). d.pattern < 256) no_dots (replicate n no_dots) no-small (small-empty n)

with-number-small : (m : Marker) (n : ℕ) (color : Color) (c : DotCell) → c.pattern < 256 → n < 256
    → (with_dot_number m n color c).pattern < 256
with-number-small m n color c small le = by_test (is_lower m n)
  where
    both : bit_or c.pattern n < 256
    both = or_lt 8 c.pattern n small le

    by_test : (t : Bool)
        → (if t then record c { pattern = bit_or c.pattern n; lower = color }
        else record c { pattern = bit_or c.pattern n; color = color }).pattern < 256
    by_test true = both
    by_test false = both

-- the number of a dot in its pattern
number-in : (i : ℕ) → i < 8 → slice_index braille_dots i < 256
number-in zero lt = lit< tt
number-in (suc zero) lt = lit< tt
number-in (suc (suc zero)) lt = lit< tt
number-in (suc (suc (suc zero))) lt = lit< tt
number-in (suc (suc (suc (suc zero)))) lt = lit< tt
number-in (suc (suc (suc (suc (suc zero))))) lt = lit< tt
number-in (suc (suc (suc (suc (suc (suc zero)))))) lt = lit< tt
number-in (suc (suc (suc (suc (suc (suc (suc zero))))))) lt = lit< tt
number-in (suc (suc (suc (suc (suc (suc (suc (suc i)))))))) lt = absurd (omega arith)

pixel-in : (i : ℕ) → i < 8 → slice_index pixels i < 256
pixel-in zero lt = lit< tt
pixel-in (suc zero) lt = lit< tt
pixel-in (suc (suc zero)) lt = lit< tt
pixel-in (suc (suc (suc zero))) lt = lit< tt
pixel-in (suc (suc (suc (suc zero)))) lt = lit< tt
pixel-in (suc (suc (suc (suc (suc zero))))) lt = lit< tt
pixel-in (suc (suc (suc (suc (suc (suc zero)))))) lt = lit< tt
pixel-in (suc (suc (suc (suc (suc (suc (suc zero))))))) lt = lit< tt
pixel-in (suc (suc (suc (suc (suc (suc (suc (suc i)))))))) lt = absurd (omega arith)

number-small : (m : Marker) (x y : ℕ) → dot_number m x y < 256
number-small Braille x y = number-in (y % 4 * 2 + x % 2) (omega arith)
number-small HalfBlock x y = omega arith
number-small Dot x y = lit< tt
number-small Block x y = lit< tt
number-small Bar x y = lit< tt
number-small Quadrant x y = pixel-in (y % 2 * 2 + x % 2) (omega arith)
number-small Sextant x y = pixel-in (y % 3 * 2 + x % 2) (omega arith)
number-small Octant x y = pixel-in (y % 4 * 2 + x % 2) (omega arith)
number-small (Custom ch) x y = lit< tt

small-dot : (s : Scale) (d : GridDot) (cells : List DotCell) → AreSmall cells → AreSmall (with_dot s d cells)
small-dot s d cells all = by_test (has_dot s d.x d.y)
  where
    i : ℕ
    i = index_of s (d.x - far) (d.y - far)

    one : DotCell
    one = with_dot_number s.marker (dot_number s.marker (d.x - far) (d.y - far)) d.color (slice_index_or cells i no_dots)

    by_test : (t : Bool) → AreSmall (if t then slice_set cells i one else cells)
    by_test true = small-set cells i one all (with-number-small s.marker _ d.color _ (small-at cells i all)
        (number-small s.marker (d.x - far) (d.y - far)))
    by_test false = all

small-dots : (s : Scale) (ds : List GridDot) (cells : List DotCell) → AreSmall cells → AreSmall (with_dots s ds cells)
small-dots s [] cells all = all
small-dots s (d ∷ ds) cells all = small-dots s ds (with_dot s d cells) (small-dot s d cells all)

-- colours keep a cell plain
plain-coloured : (fg bg : Color) (c : Cell) → IsPlain c → IsPlain (record c { fg = fg; bg = bg })
unfolding width_of
plain-coloured fg bg c is =
    record { narrow = is.narrow; unmarked = record { option = is.unmarked.option; flag = is.unmarked.flag } }

plain-lit : (fg : Color) (c : Cell) → IsPlain c → IsPlain (record c { fg = fg })
unfolding width_of
plain-lit fg c is =
    record { narrow = is.narrow; unmarked = record { option = is.unmarked.option; flag = is.unmarked.flag } }

plain-halves : (d : DotCell) (c : Cell) → IsPlain c → IsPlain (in_color HalfBlock d c)
plain-halves d c is = by_tests (d.pattern == 2) (d.pattern == 1)
  where
    by_tests : (s t : Bool) → IsPlain (if s then record c { fg = d.lower }
        else if t then record c { fg = d.color } else record c { fg = d.color; bg = d.lower })
    by_tests true t = plain-lit d.lower c is
    by_tests false true = plain-lit d.color c is
    by_tests false false = plain-coloured d.color d.lower c is

in-color-plain : (m : Marker) (d : DotCell) (c : Cell) → IsPlain c → IsPlain (in_color m d c)
in-color-plain HalfBlock d c is = plain-halves d c is
in-color-plain Braille d c is = plain-lit d.color c is
in-color-plain Dot d c is = plain-lit d.color c is
in-color-plain Block d c is = plain-lit d.color c is
in-color-plain Bar d c is = plain-lit d.color c is
in-color-plain Quadrant d c is = plain-lit d.color c is
in-color-plain Sextant d c is = plain-lit d.color c is
in-color-plain Octant d c is = plain-lit d.color c is
in-color-plain (Custom ch) d c is = plain-lit d.color c is

under-plain : (m : Marker) → HasNarrowDots m → (d : DotCell) (c : Cell) → d.pattern < 256 → IsPlain c
    → IsPlain (under_dots m d c)
under-plain m narrow d c small is = by_test (d.pattern == 0)
  where
    marked : Cell
    marked = in_color m d (with_symbol (encode_utf8 (dot_mark m d)) c)

    by_test : (t : Bool) → IsPlain (if t then c else marked)
    by_test true = is
    by_test false = in-color-plain m d _ (plain-with_symbol _ c is (narrow d small))

module _ (s : Scale) (narrow : HasNarrowDots s.marker) where
  pub shown-plain : (r : Rect) (layer : List GridDot) (p : Position) (c : Cell) → IsPlain c
      → IsPlain (shown_at s r (with_dots s layer (empty_grid s)) p c)
  shown-plain r layer p c is =
      let small = small-dots s layer (empty_grid s) (small-empty (s.columns * s.rows)) in
      under-plain s.marker narrow _ c
      (small-at (with_dots s layer (empty_grid s)) ((p.y - r.y) * s.columns + (p.x - r.x)) small) is

  layers-stay : (r : Rect) (layers : List (List GridDot)) (old new : BufferData) → IsPlainFrom 0 old
      → ShowsLayers s r layers old new → IsPlainFrom 0 new
  layers-stay r [] old new plain same = rw same plain
  layers-stay r (layer ∷ layers) old new plain is =
      layers-stay r layers is.between new
      (plain-changed r (shown_at s r (with_dots s layer (empty_grid s))) old is.between (shown-plain r layer) is.first plain)
      is.second

labels-stay : (s : Scale) (r : Rect) (ls : List Label) (old new : BufferData)
    → All (λ (l : Label). EachLineGrapheme TakesOneColumn l.line) ls
    → IsPlainFrom 0 old → RendersLabels s r ls old new → IsPlainFrom 0 new
labels-stay s r [] old new narrow plain same = rw same plain
labels-stay s r (l ∷ ls) old new narrow plain is =
    labels-stay s r ls is.between new (All-tail (λ (l : Label). EachLineGrapheme TakesOneColumn l.line) l ls narrow)
    (plain-done (lies_within s l.x l.y) (RendersLine l.line (label_area s r l)) old is.between plain
    (λ shown. line-stays (label_area s r l) old is.between plain l.line
    (All-head (λ (l : Label). EachLineGrapheme TakesOneColumn l.line) l ls narrow) shown) is.first) is.second

canvas-stays : (c : Canvas) (r : Rect) (old new : BufferData) → HasNarrowDots c.marker
    → All (λ (l : Label). EachLineGrapheme TakesOneColumn l.line) c.labels.now → IsPlainFrom 0 old → ShowsCanvas c r old new
    → IsPlainFrom 0 new
canvas-stays c r old new dots labels plain is =
    let laid = plain-laid r (with_bg c.background_color new_style) old is.laid is.background plain in
    let drawn = layers-stay (scale_of c r) dots r (layers_of (scale_of c r) c.drawings.now) is.laid is.drawn laid is.layers in
    labels-stay (scale_of c r) r c.labels.now is.drawn new labels drawn is.labels

pub canvas-plain : (c : Canvas) (area : Rect) (old new : BufferData) → IfSome c.block IsNarrowBox → HasNarrowDots c.marker
    → All (λ (l : Label). EachLineGrapheme TakesOneColumn l.line) c.labels.now → IsPlainFrom 0 old → RendersCanvas c area old new
    → IsPlainFrom 0 new
canvas-plain c area old new box dots labels plain is =
    plain-inside new_style c.block (λ _ _. ShowsCanvas c) tt tt area old new box plain
    (λ framed cells shows. canvas-stays c (inner_if c.block (intersected area old.area)) framed new dots labels cells shows) is
