-- The style of a day after an event was added.
use Rattle.std.proofs.Common.{◌≡◌, ℤ, Bool, true, false, if◌then◌else◌, cond, List, [], ◌∷◌, Some, unwrap_or, refl, ap, arith}
use Rattle.std.proofs.Common.{int_cmp, int_eq}
use Rattle.std.proofs.lemmas.Int.{ints}
use Rattle.std.proofs.Common.{Ordering, Less, Equal, Greater}
use Rattle.std.specs.Ordering.{match_ordering, on}
use Rattle.std.specs.{Map.lookup, BTreeMap.insert_entry}
use Rattle.ratatui_core.specs.Style.{Style, new_style}
use Rattle.jiff_core.specs.{declared.civil.date.Date.Date, Date.epoch_day}
use Rattle.widget_calendar.specs.Events.{is_on}

-- what is ordered alike is one
same-day : (a b : ℤ) → int_cmp a b ≡ Equal → a ≡ b
same-day a b e = grind (arith, ints)

apart-day : (day a b : ℤ) → int_cmp a b ≡ Greater → int_eq day b ≡ true → int_eq day a ≡ false
apart-day day a b e same = grind (arith, ints)

-- an entry's place, and what is found then
module _ (day : ℤ) (d : Date) (style : Style) where
  placed : (o : Ordering) (e : Date × Style) (es more : List (Date × Style)) → int_cmp (epoch_day d) (epoch_day e.0) ≡ o
      → lookup (is_on day) more ≡ (if is_on day d then Some style else lookup (is_on day) es)
      → lookup (is_on day) (match_ordering o ((d, style) ∷ e ∷ es) ((e.0, style) ∷ es) (e ∷ more))
      ≡ (if is_on day d then Some style else lookup (is_on day) (e ∷ es))
  placed Less e es more is found = refl
  placed Equal e es more is found =
      let same : is_on day d ≡ is_on day e.0 = ap (int_eq day) (same-day (epoch_day d) (epoch_day e.0) is) in
      rw same (elim (is_on day e.0) as (λ b. cond b (Some style) (lookup (is_on day) es)
      ≡ cond b (Some style) (cond b (Some e.1) (lookup (is_on day) es))) [
        | true ↦ refl
        | false ↦ refl
      ])
  placed Greater e es more is found = cases (is_on day e.0) refl
    where
      cases : (b : Bool) → is_on day e.0 ≡ b → cond (is_on day e.0) (Some e.1) (lookup (is_on day) more)
          ≡ cond (is_on day d) (Some style) (cond (is_on day e.0) (Some e.1) (lookup (is_on day) es))
      cases true here = rw (here, apart-day day (epoch_day d) (epoch_day e.0) is here) refl
      cases false here = rw here found

  looked-up : (es : List (Date × Style)) → lookup (is_on day) (insert_entry (on epoch_day int_cmp) es d style)
      ≡ (if is_on day d then Some style else lookup (is_on day) es)
  looked-up [] = refl
  looked-up (e ∷ es) =
      placed (int_cmp (epoch_day d) (epoch_day e.0)) e es (insert_entry (on epoch_day int_cmp) es d style) refl (looked-up es)

  pub style_added : (old new : List (Date × Style)) → new ≡ insert_entry (on epoch_day int_cmp) old d style
      → unwrap_or (lookup (is_on day) new) new_style
      ≡ (if is_on day d then style else unwrap_or (lookup (is_on day) old) new_style)
  style_added old new is =
      rw (is, looked-up old) (elim (is_on day d) as (λ b. unwrap_or (cond b (Some style) (lookup (is_on day) old)) new_style
      ≡ cond b style (unwrap_or (lookup (is_on day) old) new_style)) [
        | true ↦ refl
        | false ↦ refl
      ])
