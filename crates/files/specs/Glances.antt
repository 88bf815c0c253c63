-- What is seen beside a folder: the folder above, and what is selected.
use Rattle.std.specs.Prelude.{ℕ, Bool, true, false, not, ◌&&◌, ◌||◌, nat_le, if◌then◌else◌}
use Rattle.std.specs.Prelude.{Option, Some, None, is_some, slice_get}
use Rattle.std.specs.Option.{option_map_or, option_and_then}
use Rattle.std.specs.Str.{bytes_eq}
use Rattle.files.specs.declared.list.Row.{Row}
use Rattle.files.specs.declared.glance.Side.{Side}
use Rattle.files.specs.declared.glance.Side.TheVariants.{Above, Ahead}
use Rattle.files.specs.declared.glance.Glance.{Glance}
use Rattle.files.specs.declared.glance.Glances.{Glances}
use Rattle.files.specs.declared.browser.Browser.{Browser}
use Rattle.files.specs.declared.browser.Mode.{Mode}
use Rattle.files.specs.declared.browser.Mode.TheVariants.{Looking}
use Rattle.files.specs.Texts.{selected_text}

-- ---- what was seen last

abbrev pub no_glances : Glances
no_glances = record { above = None; ahead = None; is_above_old = false; is_ahead_old = false }

-- all is to be looked at anew
abbrev pub aged : Glances → Glances
aged gs = record gs { is_above_old = true; is_ahead_old = true }

-- one glance more, in place of the one before on its side
abbrev pub glance_on : Side → Glance → Glances → Glances
glance_on Above g gs = record gs { above = Some g; is_above_old = false }
glance_on Ahead g gs = record gs { ahead = Some g; is_ahead_old = false }

abbrev pub with_glance : Glance → Glances → Glances
with_glance g gs = glance_on g.side g gs

-- ---- what is seen

-- a glance is one from the folder that is shown; and one ahead is at the entry that is selected
abbrev pub is_seen_at : Side → Browser → Glance → Bool
is_seen_at Above b g = bytes_eq g.folder b.folder
is_seen_at Ahead b g = bytes_eq g.folder b.folder && bytes_eq g.name (selected_text b)

-- what was seen last on a side, if it is still there
abbrev pub current : Side → Browser → Option Glance → Option Glance
current side b glance = option_and_then (λ g. if is_seen_at side b g then Some g else None) glance

abbrev pub seen_above : Browser → Option Glance
seen_above b = current Above b b.glances.above

abbrev pub seen_ahead : Browser → Option Glance
seen_ahead b = current Ahead b b.glances.ahead

-- what is answered is taken if it is still there, and else it is dropped
abbrev pub glances_after : Glance → Browser → Glances
glances_after g b = if is_seen_at g.side b g then with_glance g b.glances else b.glances

abbrev pub glance_taken : Glance → Browser → Browser
glance_taken g b = record b { glances = glances_after g b }

-- ---- what is to be looked at

-- a folder, or a file
abbrev pub may_see : Row → Bool
may_see row = not row.is_leaf || is_some row.size

-- the selected entry, and the folder above, if it was not seen, or is to be looked at anew
abbrev pub lacks_ahead : Browser → Bool
lacks_ahead b =
    option_map_or may_see (slice_get b.list b.selected) false
    && (b.glances.is_ahead_old || not (is_some (seen_ahead b)))

abbrev pub lacks_above : Browser → Bool
lacks_above b =
    not (bytes_eq b.folder b.base) && (b.glances.is_above_old || not (is_some (seen_above b)))

-- a screen has room for three columns
abbrev pub is_wide : ℕ → Bool
is_wide width = nat_le 60 width

abbrev pub is_looking : Mode → Bool
is_looking Looking = true
is_looking _ = false

-- something may be looked at: no question stands, no key has come since a read found nothing, and there is
-- room for it
abbrev pub may_look : Browser → Bool
may_look b = is_looking b.mode && b.is_quiet && is_wide b.size.width

-- the side at which is to be looked, if something is
abbrev pub side_lacking : Browser → Option Side
side_lacking b = if lacks_ahead b then Some Ahead else if lacks_above b then Some Above else None

abbrev pub side_wanted : Browser → Option Side
side_wanted b = if may_look b then side_lacking b else None
