-- Words that only private contracts use: they follow the code.
use Rattle.std.specs.Prelude.{◌≡◌, ◌⊎◌, ℕ, List, [], ◌∷◌, ◌++◌, map, length, filter, Option, Some}
use Rattle.std.specs.Prelude.{◌+◌, ◌-◌, ◌<◌, ◌==◌, ◌||◌, ◌&&◌, nat_le, Bool, true, false}
use Rattle.std.specs.Io.BufRead.{take_through}
use Rattle.unicode_segmentation.specs.Grapheme.{graphemes}
use Rattle.ratatui_core.specs.{Layout.Size, Buffer.painted_width, Buffer.has_painted_width}
use Rattle.ratatui_ansi.specs.{Backend.BackendState, Backend.shown_by}
use Rattle.ratatui_ansi.specs.{declared.error.AnsiError.AnsiError}
use Rattle.ratatui_ansi.specs.Refusals.{StopsSending}
use Rattle.logview.specs.{Views.IsFollowing, Views.IsViewOf, Views.RefusesPush}
use Rattle.logview.specs.{declared.view.LogView.LogView, Rows.counted, Views.PushesLine}
use Rattle.follow.specs.{Lines.shown_line, Lines.AreLinesOf, declared.error.FollowError.FollowError}
use Rattle.follow.specs.declared.error.FollowError.TheVariants.{Terminal, Read, Write, Lines}
use Rattle.std.specs.{Io.BufRead.drop_through}

-- why the next line of a text isn't shown: it can't be read, and the view stays; or the terminal or memory
-- refuses it, as a push is refused
abbrev pub StopsAtNext : {W : Type 0} → List ℕ → LogView (BackendState W) AnsiError
    → LogView (BackendState W) AnsiError → FollowError → Type 0
StopsAtNext text v w (Terminal error) = IsFollowing shown_by v
    → RefusesPush shown_by StopsSending (shown_line (take_through 10 text)) v w error
StopsAtNext text v w (Read error) = w ≡ v
StopsAtNext text v w (Write error) = ⊥
StopsAtNext text v w Lines = ⊥

-- the same, or all lines were read that can be counted, and the view stays
abbrev pub StopsAfter : {W : Type 0} → List ℕ → LogView (BackendState W) AnsiError
    → LogView (BackendState W) AnsiError → FollowError → Type 0
StopsAfter text v w (Terminal error) = IsFollowing shown_by v
    → RefusesPush shown_by StopsSending (shown_line (take_through 10 text)) v w error
StopsAfter text v w (Read error) = w ≡ v
StopsAfter text v w (Write error) = ⊥
StopsAfter text v w Lines = w ≡ v

-- lines of a text were shown, each as it is shown, and the line after them isn't
pub record StopsText {W : Type 0} (size : Size) (text : List ℕ) (v : LogView (BackendState W) AnsiError)
    (fault : FollowError) : Type 0 where
  pub lines : List (List ℕ)
  pub rest : List ℕ
  pub continued : (more : List (List ℕ)) → AreLinesOf rest more → AreLinesOf text (lines ++ more)
  pub before : LogView (BackendState W) AnsiError
  pub view : IsViewOf shown_by size (map shown_line lines) before
  pub stops : StopsAfter rest before v fault

-- a fault of showing: not that what leaves the terminal can't be written
abbrev pub IsOfShowing : FollowError → Type 0
IsOfShowing (Write error) = ⊥
IsOfShowing _ = Unit {0}

-- the view is that of all lines of a text, each as it is shown, on a screen of this size
pub record ShowsInput {W E : Type 0} (size : Size) (text : List ℕ)
    (v : LogView (BackendState W) E) : Type 0 where
  pub lines : List (List ℕ)
  pub cut : AreLinesOf text lines
  pub view : IsViewOf shown_by size (map shown_line lines) v

-- the next line of a text, or its end: a line that was pushed as it is shown, and left the rest of the text
-- to be read; or nothing is left
abbrev pub MovesOn : {W E : Type 0} → List ℕ → Bool → Option (List ℕ) → LogView (BackendState W) E
    → LogView (BackendState W) E → Type 0
MovesOn text true left v w = (0 < length (take_through 10 text)) × (left ≡ Some (drop_through 10 text))
    × (w.count ≡ counted (v.count + 1))
    × (IsFollowing shown_by v → PushesLine shown_by (shown_line (take_through 10 text)) v w)
MovesOn text false left v w = (text ≡ []) × (left ≡ Some []) × (w ≡ v)

-- of these graphemes those before one take so many columns
abbrev pub fills_row : ℕ → List (List ℕ) → Bool
fills_row columns [] = false
fills_row columns (g ∷ gs) = (columns == 0) || fills_row (columns - painted_width g) gs

-- a control character of ASCII but a line break
abbrev pub is_parting : ℕ → Bool
is_parting c = nat_le c 9 || (c == 11) || (c == 12) || (nat_le 14 c && nat_le c 31) || (c == 127)

-- a grapheme that is one
abbrev pub is_part : List ℕ → Bool
is_part [] = false
is_part (c ∷ []) = is_parting c
is_part (c ∷ (d ∷ cs)) = false

-- the graphemes of a text that are painted where there is room
abbrev pub painted_graphemes : List ℕ → List (List ℕ)
painted_graphemes text = filter has_painted_width (graphemes true text)

-- a text that goes on as a whole one looks, and either ends as that does, or has graphemes that fill a row
-- before its last one
pub record IsFrontInRow (columns : ℕ) (whole text : List ℕ) : Type 0 where
  pub rest : List ℕ
  pub alike : painted_graphemes (text ++ rest) ≡ painted_graphemes whole
  pub full : (rest ≡ []) ⊎ (fills_row columns (graphemes true text) ≡ true)
