-- A front of a line as it is shown, where it looks like all of it.
use Rattle.std.proofs.Common.{◌≡◌, ℕ, ◌<◌, true, List, ◌++◌, length, take, drop, Result, Ok, Err, OnOk, IsUtf8, inl, inr}
use Rattle.std.proofs.Common.{sym, ap, subst, ◌∙◌, append-nil}
use Rattle.unicode_segmentation.specs.Grapheme.{graphemes}
use Rattle.rtui_text.specs.Printable.{ArePrintable, IsPrintableFront, singles}
use Rattle.rtui_text.proofs.PrintableLemmas.{front-bytes}
use Rattle.rtui_buffer.specs.Painting.{fitting, kept}
use Rattle.follow.specs.{Lines.LookAlike, Lines.shown_line, Inner.fills_row, Inner.IsFrontInRow, Inner.painted_graphemes}
use Rattle.follow.proofs.{CutLemmas.filled-alike, GraphemeLemmas.front-shown, GraphemeLemmas.printable-fill}

-- what is painted alike is painted alike in each room
same-kept : (room : ℕ) (s t : List ℕ) → painted_graphemes s ≡ painted_graphemes t
    → kept room (graphemes true s) ≡ kept room (graphemes true t)
unfolding kept
same-kept room s t same = ap (fitting room) same

-- what is full, or all of it
front-alike : (columns : ℕ) (whole text : List ℕ) → IsUtf8 text → IsFrontInRow columns whole text → LookAlike columns text whole
front-alike columns whole text utf8 is = elim is.full [
  | inl none ↦ λ room le.
      same-kept room text whole (ap painted_graphemes (sym (ap (λ rest. text ++ rest) none ∙ append-nil text)) ∙ is.alike)
  | inr full ↦ λ room le. filled-alike columns text is.rest utf8 full room le ∙ same-kept room (text ++ is.rest) whole is.alike
]

module _ (columns n : ℕ) (line front rest held : List ℕ) (is : IsPrintableFront line n) (front_is : front ≡ take n line)
    (rest_is : rest ≡ drop n line) (parts : graphemes true line ≡ singles (take n line) ++ graphemes true (drop n line))
    (held_is : held ≡ front) where
  printable : ArePrintable front
  printable = subst ArePrintable (sym front_is) (front-bytes line n is)

  shown-parts : shown_line line ≡ held ++ shown_line rest
  shown-parts =
      front-shown line front rest printable (rw (front_is, rest_is) parts)
      ∙ ap (λ bytes. bytes ++ shown_line rest) (sym held_is)

  -- more printable characters than there are columns
  pub printable-alike : IsUtf8 held → columns < length front → LookAlike columns held (shown_line line)
  printable-alike utf8 more =
      subst (LookAlike columns held) (sym shown-parts) (filled-alike columns held (shown_line rest) utf8
      (subst (λ text. fills_row columns (graphemes true text) ≡ true) (sym held_is) (printable-fill columns front printable more)))

  -- fewer of them, and graphemes after them
  pub graphemes-alike : {T E : Type 0} (result : Result T E) (now : List ℕ) → IsUtf8 now
      → OnOk result (IsFrontInRow columns (held ++ shown_line rest) now)
      → OnOk result (LookAlike columns now (shown_line line))
  graphemes-alike (Ok x) now utf8 shows =
      subst (LookAlike columns now) (sym shown-parts) (front-alike columns (held ++ shown_line rest) now utf8 shows)
  graphemes-alike (Err e) now utf8 shows = tt
