-- What replacing makes of a text in which a pattern was found and selected.
use Rattle.std.specs.Prelude.{◌≡◌, ◌⊎◌, ℕ, zero, suc, ◌+◌, List, length, Option, Some, None, string_bytes}
use Rattle.text_area.specs.Areas.{AreaData, area_text, selection, typing_over}
use Rattle.text_area.specs.Finding.{IsFirstFrom, IsNowhereFrom, part_selected}
use Rattle.editor.specs.declared.keys.Offer.{Offer}
use Rattle.editor.specs.declared.keys.Offer.TheVariants.{Yes, No, All, Stop}

-- what is selected gives way to a piece, and the pattern is selected where it occurs next
abbrev pub ReplacesOne : List ℕ → List ℕ → AreaData → AreaData → Type 0
ReplacesOne pattern piece old new =
    (at : ℕ) × IsFirstFrom pattern (area_text (typing_over piece old)) (selection (typing_over piece old)).1 at
    × (new ≡ part_selected at (at + length pattern) (typing_over piece old))

-- so many of them, one after the other
abbrev pub ReplacesMany : List ℕ → List ℕ → ℕ → AreaData → AreaData → Type 0
ReplacesMany pattern piece zero old new = old ≡ new
ReplacesMany pattern piece (suc n) old new =
    (next : AreaData) × ReplacesMany pattern piece n old next × ReplacesOne pattern piece next new

-- the last of them gives way, too, and the pattern doesn't occur after it
pub record ReplacesLast (pattern piece : List ℕ) (old new : AreaData) : Type 0 where
  pub area : new ≡ typing_over piece old
  pub none : IsNowhereFrom pattern (area_text new) (selection new).1

-- all from what is selected on give way, or as many as memory was given for
abbrev pub ReplacesAll : List ℕ → List ℕ → AreaData → AreaData → Type 0
ReplacesAll pattern piece old new =
    (n : ℕ) × (last : AreaData) × ReplacesMany pattern piece n old last
    × (ReplacesLast pattern piece last new ⊎ (new ≡ last))

-- what an answer makes of the text
abbrev pub AnswersOffer : Option Offer → List ℕ → List ℕ → AreaData → AreaData → Type 0
AnswersOffer (Some Yes) pattern piece old new = area_text new ≡ area_text (typing_over piece old)
AnswersOffer (Some All) pattern piece old new = ReplacesAll pattern piece old new
AnswersOffer _ pattern piece old new = area_text new ≡ area_text old
