-- The style of a day that the calendar doesn't have.
use Rattle.std.proofs.Common.{◌≡◌, ℕ, ℤ, false, Option, None, Some, refl, sym}
use Rattle.ratatui_core.specs.Style.{Style}
use Rattle.jiff_core.specs.declared.civil.date.Date.{Date}
use Rattle.widget_calendar.specs.{Days.day_at, Days.is_day, Calendars.day_style, Calendars.style_beside}
use Rattle.widget_calendar.proofs.PlaceLemmas.{missing-off}

beside-missing : (own : ℤ → Style) (days : Style) (beside : Option Style) (day : ℤ) → false ≡ is_day day
    → None ≡ style_beside own days beside day
beside-missing own days None day missing = refl
beside-missing own days (Some style) day missing = rw (sym missing) refl

pub style_missing : (own : ℤ → Style) (days : Style) (beside : Option Style) (d : Date) (place : ℕ)
    → false ≡ is_day (day_at d place) → None ≡ day_style own days beside d place
style_missing own days beside d place missing =
    rw (missing-off d place missing) (beside-missing own days beside (day_at d place) missing)
