-- Words that only private contracts use.
use Rattle.std.specs.Prelude.{◌≡◌, ℕ, ◌<◌, List, map}
use Rattle.std.specs.List.{range_with_len}
use Rattle.rtui_cell.specs.{Look.Look, Look.look_of, Look.empty_look}
use Rattle.rtui_backend.specs.Screen.{Screen, seen, row_of, upper_part, rows_above}
use Rattle.rtui_backend.specs.Screen.{ScrollsRegion, scrolling_up, cursor_of}
use Rattle.printed_backend.specs.declared.rows.Rows.{Rows}

-- the looks of rows
abbrev pub looks_in : Rows → List (List Look)
looks_in rows = map (map look_of) rows.cells

-- so many empty looks
abbrev pub AreBlankLooks : ℕ → List Look → Type 0
AreBlankLooks n looks = looks ≡ map (λ a. empty_look) (range_with_len 0 n)

-- the first rows that leave a screen's first `end` rows
abbrev pub rows_leaving : ℕ → ℕ → Screen → List (List Look)
rows_leaving end n s = map (row_of (upper_part end s)) (range_with_len 0 n)

-- the first row has what stood in a row of the first `end` ones, and all else is as before
pub record RaisesRow (from end : ℕ) (old new : Screen) : Type 0 where
  pub rest : new ≡ record old { grid = new.grid }
  pub first : (a : ℕ) → a < old.width → new.grid a 0 ≡ seen (upper_part end old) a from
  pub below : (a b : ℕ) → 0 < b → new.grid a b ≡ old.grid a b

-- the first `end` rows moved up, and the rows that left are in the history; the cursor stays
pub record ScrollsFront (end n : ℕ) (old new : Screen) : Type 0 where
  pub scrolled : ScrollsRegion scrolling_up 0 end n (rows_above (upper_part end old) n) old new
  pub cursor : cursor_of new ≡ cursor_of old
