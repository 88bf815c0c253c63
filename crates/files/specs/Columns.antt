-- Three columns: the folder above, the folder, and what is selected in it.
use Rattle.std.specs.Prelude.{ℕ, Bool, true, false, not, ◌-◌, ◌*◌, ◌/◌, ◌==◌, ◌&&◌, nat_lt, if◌then◌else◌}
use Rattle.std.specs.Prelude.{List, [], ◌++◌, length, codes, is_some, slice_get, unwrap_or}
use Rattle.std.specs.{Option.option_map_or, Fmt.decimal}
use Rattle.files.specs.declared.list.Row.{Row}
use Rattle.files.specs.declared.glance.Glance.{Glance}
use Rattle.files.specs.declared.glance.Sight.{Sight}
use Rattle.files.specs.declared.glance.Sight.TheVariants as sight
use Rattle.files.specs.declared.browser.Browser.{Browser}
use Rattle.files.specs.declared.browser.Mode.{Mode}
use Rattle.files.specs.declared.browser.Mode.TheVariants.{Helping}
use Rattle.files.specs.Glances.{is_wide, seen_above, seen_ahead}
use Rattle.files.specs.Texts.{row_place, shown_row, failure_text}

-- ---- where they are

-- of a width two twelfths are for the folder above, five for the folder, and the rest for what is selected; the last
-- column of the first two stays blank
abbrev pub above_width : ℕ → ℕ
above_width width = width / 12 * 2

abbrev pub folder_width : ℕ → ℕ
folder_width width = width / 12 * 5

abbrev pub ahead_start : ℕ → ℕ
ahead_start width = width / 12 * 7

-- the rows show entries, and not the list of the keys
abbrev pub shows_entries : Mode → Bool
shows_entries Helping = false
shows_entries _ = true

-- a row has three columns: neither the first nor the last one, on a screen that has room for them
abbrev pub is_parted : ℕ → ℕ → ℕ → Browser → Bool
is_parted k width height b =
    is_wide width && shows_entries b.mode && nat_lt 0 k && not (k == height - 1)

-- ---- what stands there

-- a text in the first row, and nothing in those after it
abbrev pub in_first : ℕ → List ℕ → List ℕ
in_first place text = if place == 0 then text else []

-- a row of what is seen, from 0 on
abbrev pub sight_text : Sight → ℕ → List ℕ
sight_text (sight.Entries rows) place =
    if length rows == 0 then in_first place (codes "empty")
    else option_map_or shown_row (slice_get rows place) []
sight_text (sight.Lines lines) place =
    if length lines == 0 then in_first place (codes "empty") else unwrap_or (slice_get lines place) []
sight_text (sight.Size size) place = in_first place (decimal size ++ codes " bytes, no text")
sight_text (sight.Failed why) place = in_first place (failure_text why)

-- the row of the folder above that stands in the list's first row, so that the folder's own stands in the middle
abbrev pub above_top : ℕ → Glance → ℕ
above_top height g = g.place - height / 2

abbrev pub above_place : ℕ → ℕ → Glance → ℕ
above_place k height g = row_place (above_top height g) k

abbrev pub above_text : ℕ → ℕ → Browser → List ℕ
above_text k height b = option_map_or (λ g. sight_text g.sight (above_place k height g)) (seen_above b) []

-- the row of the folder itself
abbrev pub is_own_row : ℕ → ℕ → Browser → Bool
is_own_row k height b = option_map_or (λ g. above_place k height g == g.place) (seen_above b) false

-- what an entry is of which nothing more is seen
abbrev pub entry_kind : Row → List ℕ
entry_kind row =
    if not row.is_leaf then []
    else if row.is_link then codes "a link"
    else if is_some row.size then []
    else codes "neither a file nor a folder"

abbrev pub unseen_text : ℕ → Browser → List ℕ
unseen_text place b = in_first place (option_map_or entry_kind (slice_get b.list b.selected) [])

abbrev pub ahead_text : ℕ → Browser → List ℕ
ahead_text k b =
    option_map_or (λ g. sight_text g.sight (k - 1)) (seen_ahead b) (unseen_text (k - 1) b)
