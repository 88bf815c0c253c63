-- Areas of a settled buffer that stand apart: no symbol reaches into them or out of them.
use Rattle.std.specs.Prelude.{◌≡◌, ℕ, ◌+◌, ◌<◌, ◌≤◌, ◌⊎◌, false, not, ⊤, List, [], ◌∷◌, filter, sum_by, All, true}
use Rattle.std.specs.Prelude.{unwrap_or, Option}
use Rattle.unicode_segmentation.specs.Grapheme.{graphemes}
use Rattle.ratatui_core.specs.Layout.{Rect, Position, HasPosition, EdgesFit}
use Rattle.ratatui_core.specs.Text.{LineData, TextData, EachGrapheme, has_control}
use Rattle.ratatui_core.specs.Buffer.{BufferData, cell_in, position_of, width_of, is_skipped, text_width}
use Rattle.ratatui_core.specs.Buffer.{IsSettledBuffer, IsPlainOver}
use Rattle.ratatui_core.specs.Symbols.{border_texts}
use Rattle.ratatui_core.specs.declared.layout.HorizontalAlignment.{HorizontalAlignment}
use Rattle.rtui_widgets.specs.{Line.Part, Line.parts, Line.columns_before, Rendering.alignment_or}
use Rattle.widget_boxes.specs.{declared.block.Block.Block, declared.title.Title.Title}
use Rattle.widget_boxes.specs.declared.title.TitlePosition.{TitlePosition}
use Rattle.widget_boxes.specs.declared.title.TitlePosition.TheVariants.{Top, Bottom}
use Rattle.widget_boxes.specs.Boxes.{is_in_row, has_title}

-- no symbol left of an area reaches into it
abbrev pub IsUnreached : Rect → BufferData → Type 0
IsUnreached r s = (p : Position) (column : ℕ) → HasPosition s.area p → HasPosition r (position_of (column, p.y))
    → p.x < r.x → is_skipped (cell_in s p) ≡ false → p.x + width_of (cell_in s p) ≤ column

-- no symbol of an area reaches out of it
abbrev pub IsEnclosed : Rect → BufferData → Type 0
IsEnclosed r s = (p : Position) → HasPosition s.area p → HasPosition r p
    → is_skipped (cell_in s p) ≡ false → p.x + width_of (cell_in s p) ≤ r.x + r.width

-- an area of a settled buffer that stands apart
pub record StandsApart (r : Rect) (s : BufferData) : Type 0 where
  pub edges : EdgesFit s.area
  pub settled : IsSettledBuffer s
  pub unreached : IsUnreached r s
  pub enclosed : IsEnclosed r s

-- an area of a settled buffer on which more may be painted: its cells are plain, and no symbol reaches into it
pub record IsReadyIn (r : Rect) (s : BufferData) : Type 0 where
  pub edges : EdgesFit s.area
  pub settled : IsSettledBuffer s
  pub unreached : IsUnreached r s
  pub plain : IsPlainOver r s

-- a grapheme takes a column, or more, if it shows: one with a control character doesn't
abbrev pub TakesColumns : List ℕ → Type 0
TakesColumns g = has_control g ≡ false → 0 < text_width g

-- how many columns the graphemes of a text take
abbrev pub columns_shown : List ℕ → ℕ
columns_shown text = sum_by text_width (filter (λ g. not (has_control g)) (graphemes true text))

-- parts of a line side by side: the graphemes of each but the last one take no more columns than it has
unfoldable pub KeepApart : List Part → Type 0
KeepApart [] = ⊤
KeepApart (p ∷ []) = ⊤
KeepApart (p ∷ (q ∷ ps)) = (columns_shown p.content ≤ p.width) × KeepApart (q ∷ ps)

-- A line that a screen can show if it is aligned so, however many columns are too many for it: each grapheme
-- of what is left of it takes a column, and no span reaches into the next one. Only what is aligned in the
-- centre or at the right is cut at its beginning.
pub record IsShowableAs (alignment : Option HorizontalAlignment) (line : LineData) : Type 0 where
  pub graphemes : (excess : ℕ) → All (λ part. EachGrapheme TakesColumns part.content)
      (parts (columns_before alignment excess) line.spans)
  pub spans : (excess : ℕ) → KeepApart (parts (columns_before alignment excess) line.spans)

-- the same of a line that is aligned as it says
abbrev pub IsShowable : LineData → Type 0
IsShowable line = IsShowableAs line.alignment line

-- a text of such lines
abbrev pub IsShowableText : TextData → Type 0
IsShowableText text = All (λ line. IsShowableAs (alignment_or line.alignment text.alignment) line) text.lines

-- all titles that stand in a row are aligned alike
abbrev pub AreAlike : Block → TitlePosition → Type 0
AreAlike b position =
    (alignment : HorizontalAlignment) × All (λ title. is_in_row b.titles_position position title ≡ true
    → unwrap_or title.line.alignment b.titles_alignment ≡ alignment) b.titles.items

-- a title that a screen can show, however it is aligned: at a side it is cut as if it was
abbrev pub IsShowableTitle : Title → Type 0
IsShowableTitle title = (alignment : Option HorizontalAlignment) → IsShowableAs alignment title.line

-- A box of narrow symbols with titles that a screen can show, none of which lies over another one: those of a
-- row are aligned alike.
pub record IsShowableBox (b : Block) : Type 0 where
  pub titles : All IsShowableTitle b.titles.items
  pub alike : (position : TitlePosition) → AreAlike b position
  pub symbols : All (λ symbol. text_width symbol ≤ 1) (border_texts b.border_set)

-- the titles of a box over an area stand in one row alone, or in two different ones
abbrev pub HasTitleRows : Block → Rect → Type 0
HasTitleRows b r = (has_title b Top ≡ false) ⊎ ((has_title b Bottom ≡ false) ⊎ (1 < r.height))
