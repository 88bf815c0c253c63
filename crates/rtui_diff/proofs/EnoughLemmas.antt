-- What is given for screens that leave something after.
use Rattle.std.proofs.Common.{◌≡◌, ℕ, zero, suc, ◌+◌, ◌-◌, ◌*◌, ◌%◌, ◌<◌, ◌≤◌, ◌&&◌, ◌||◌, Bool, true, false, not, List, refl}
use Rattle.std.proofs.Common.{sym, subst, ◌∙◌, arith, inl, inr, nat_lt, Contains, if◌then◌else◌}
use Rattle.std.proofs.lemmas.Bool.{cases_lt, false≢true, and_from, Decides.nat_tests}
use Rattle.rtui_cell.specs.{declared.cell.Cell.Cell, Cell.width_of, Cell.is_skipped, Equality.is_same_symbol}
use Rattle.rtui_diff.specs.Cells.{has_fe0f, is_forced, shows_on_blank, cell}
use Rattle.rtui_diff.specs.DiffRule.{Walk, start, gives, gives_other, gives_visited, step, step_other, give, given}
use Rattle.rtui_diff.specs.{Updates.updates, Settled.IsSettled, Completeness.IsComplete}
use Rattle.rtui_diff.proofs.{WalkLemmas.unskipped, FrameLemmas.row_end, SettledLemmas.settled_flat, SettledLemmas.same_row}
use Rattle.rtui_diff.proofs.ColumnLemmas.{Covers, Settled, Origin, FormerOrigin, Stands, wide_unskipped, behind_width}
use Rattle.rtui_diff.proofs.GivenLemmas.{At, contains_give, contains_head, given_at, at_column, flat}

-- a visit gives a place of the range that no cell before it in the range covers
visited : (ps ns : List Cell) (n over left : ℕ) (force : Bool) (i c : ℕ) → c < i + n → i + over ≤ c → c < i + left
    → ((d : ℕ) → i ≤ d → d < c → d + width_of (cell ns d) ≤ c) →
    gives_visited force (cell ps c) (cell ns c) ≡ true
    → Contains (given ps ns n (record { over = over; left = left; force = force }) i) c
unfolding given
visited ps ns zero over left force i c lt low high clear gave = absurd (omega arith)
visited ps ns (suc n) (suc over) left force i c lt low high clear gave =
    visited ps ns n over (left - 1) force (i + 1) c (omega arith) (omega arith) (omega arith)
    (λ d a b. clear d (omega arith) b) gave
visited ps ns (suc n) zero zero force i c lt low high clear gave = absurd (omega arith)
visited ps ns (suc n) zero (suc left) force i c lt low high clear gave = elim (cases_lt i c) [
  | inl less ↦
      let over : i + width_of (cell ns i) ≤ c = clear i (omega arith) less in
      contains_give (gives_visited force (cell ps i) (cell ns i)) i c _
      (visited ps ns n (width_of (cell ns i) - 1) left force (i + 1) c (omega arith) (omega arith) (omega arith)
      (λ d a b. clear d (omega arith) b) gave)
  | inr ge ↦
      let here : c ≡ i = omega arith in
      subst (Contains (give (gives_visited force (cell ps i) (cell ns i)) i _)) (sym here)
      (contains_head _ i _ (subst (λ x. gives_visited force (cell ps x) (cell ns x) ≡ true) here gave))
]

pick_force : (s0 s1 s2 s3 : Walk) (sk fo gi wide fe vis : Bool) → sk ≡ false → fo ≡ false → gi ≡ true → wide ≡ false
    → vis ≡ true →
    (if sk then s0 else (if fo || not gi || (wide && not fe) then s1 else (if wide then s2 else (if vis then s3 else s0)))) ≡ s3
pick_force s0 s1 s2 s3 sk fo gi wide fe vis a b c d e = rw (a, b, c, d, e) refl

pick_blank : (s0 s1 s2 s3 : Walk) (sk fo gi wide fe vis : Bool) → sk ≡ false → fo ≡ false → gi ≡ true → wide ≡ true → fe ≡ true →
    (if sk then s0 else (if fo || not gi || (wide && not fe) then s1 else (if wide then s2 else (if vis then s3 else s0)))) ≡ s2
pick_blank s0 s1 s2 s3 sk fo gi wide fe vis a b c d e = rw (a, b, c, d, e) refl

-- a given place that comes from no visited range is given as any other is
unvisited : (len : ℕ) (ps ns : List Cell) (Q : ℕ → Type 0) (over left : ℕ) (force : Bool) (j : ℕ) → (Origin ns Q j → ⊥)
    → (FormerOrigin ps ns Q j → ⊥) →
    (let s : Walk = record { over = over; left = left; force = force } in
    Stands len ps ns Q s j → gives s (cell ps j) (cell ns j) ≡ true →
    (step s (cell ps j) (cell ns j) ≡ step_other (cell ps j) (cell ns j)) × (gives_other (cell ps j) (cell ns j) ≡ true))
unvisited len ps ns Q (suc over) left force j neither none stands gave = absurd (false≢true gave)
unvisited len ps ns Q zero (suc left) true j neither none stands gave =
    absurd (none (stands.origins.forced refl j (omega arith) (omega arith)))
unvisited len ps ns Q zero (suc left) false j neither none stands gave =
    absurd (neither (stands.origins.unforced refl j (omega arith) (omega arith)))
unvisited len ps ns Q zero zero force j neither none stands gave = (refl, gave)

-- Q holds of each place that a visited range from such a place gives
from_there : (len : ℕ) (ps ns : List Cell) (Q : ℕ → Type 0) (j c left : ℕ) (force : Bool) → At len ps ns Q j → (Origin ns Q j → ⊥)
    → (FormerOrigin ps ns Q j → ⊥) →
    (gives_other (cell ps j) (cell ns j) ≡ true → step_other (cell ps j) (cell ns j) ≡ record {
      over = 0;
      left = left;
      force = force;
    }) → j < c → c < len → c < j + 1 + left →
    ((d : ℕ) → j < d → d < c → d + width_of (cell ns d) ≤ c) → gives_visited force (cell ps c) (cell ns c) ≡ true → Q c
from_there len ps ns Q j c left force a neither none turns less lt high clear gave =
    let u = unvisited len ps ns Q a.state.over a.state.left a.state.force j neither none a.stands a.gave in
    let on : step a.state (cell ps j) (cell ns j) ≡ record { over = 0; left = left; force = force } = u.0 ∙ turns u.1 in
    a.later c (subst (λ t. Contains (given ps ns a.rest t (j + 1)) c) (sym on)
    (visited ps ns a.rest 0 left force (j + 1) c (omega (arith, a.total)) (omega arith) (omega arith)
    (λ d p q. clear d (omega arith) q) gave))

-- over a former wide cell with a visible style, each unskipped column that no wide cell covers is given
refreshed : (len : ℕ) (ps ns : List Cell) (Q : ℕ → Type 0) (j c : ℕ) → Settled len ps → Settled len ns → At len ps ns Q j
    → c < len → Covers ps j c →
    shows_on_blank (cell ps j) ≡ true → is_forced (cell ns j) ≡ false → width_of (cell ns j) ≤ 1 → ((k : ℕ) → Covers ns k j → ⊥) →
    is_skipped (cell ns c) ≡ false → ((k : ℕ) → Covers ns k c → ⊥) → Q c
refreshed len ps ns Q j c sp st a lt x visible unforced narrow first shown free =
    let p : Cell = cell ps j in
    let n : Cell = cell ns j in
    let wide : 1 < width_of (cell ps j) = omega (arith, x.before, x.reaches) in
    from_there len ps ns Q j c (width_of (cell ps j) - 1) true a (λ o. first o.j o.covers)
    (λ o. omega (arith, wide, behind_width len ps o.j j sp (omega (arith, x.before)) o.covers))
    (λ gave. pick_force start _ _ (record { over = 0; left = width_of p - 1; force = true }) (is_skipped n) (is_forced n)
    (gives_other p n) (nat_lt 1 (width_of n)) (has_fe0f n) _
    (unskipped 0 0 true p n gave) unforced gave (grind (arith, nat_tests))
    (and_from (nat_lt (width_of n) (width_of p)) _ (grind (arith, nat_tests)) visible))
    x.before lt (omega (arith, x.reaches)) clear (rw shown refl)
  where
    clear : (d : ℕ) → j < d → d < c → d + width_of (cell ns d) ≤ c
    clear d p q = elim (cases_lt c (d + width_of (cell ns d))) [
      | inl past ↦ absurd (free d (record {
        before = q;
        unskipped = wide_unskipped len ns d st (omega arith) (omega arith);
        reaches = past;
      }))
      | inr le ↦ le
    ]

-- after a given wide cell with U+FE0F each unskipped column is given where something stood
blanked : (len : ℕ) (ps ns : List Cell) (Q : ℕ → Type 0) (j c : ℕ) → Settled len ns → At len ps ns Q j → c < len → Covers ns j c →
    is_forced (cell ns j) ≡ false → has_fe0f (cell ns j) ≡ true →
    ((k : ℕ) → Covers ps k j → shows_on_blank (cell ps k) ≡ true → ⊥) → is_skipped (cell ns c) ≡ false
    → is_same_symbol (cell ps c) (cell ns c) ≡ false → Q c
blanked len ps ns Q j c st a lt x unforced variation dark unskipped other =
    let p : Cell = cell ps j in
    let n : Cell = cell ns j in
    let wide : 1 < width_of (cell ns j) = omega (arith, x.before, x.reaches) in
    from_there len ps ns Q j c (width_of (cell ns j) - 1) false a
    (λ o. omega (arith, wide, behind_width len ns o.j j st (omega (arith, x.before)) o.covers)) (λ o. dark o.j o.covers o.visible)
    (λ gave. pick_blank start _ (record { over = 0; left = width_of n - 1; force = false }) _ (is_skipped n) (is_forced n)
    (gives_other p n) (nat_lt 1 (width_of n)) (has_fe0f n)
    (nat_lt (width_of n) (width_of p) && shows_on_blank p) x.unskipped unforced gave (grind (arith, nat_tests)) variation)
    x.before lt (omega (arith, x.reaches))
    (λ d p q. omega (
      arith,
      q,
      behind_width len ns j d st (omega arith) (record {
        before = p;
        unskipped = x.unskipped;
        reaches = omega (arith, q, x.reaches);
      }),
    )) (rw (unskipped, other) refl)

-- In columns and rows.

pub gives_enough : (x0 y0 w h : ℕ) (ps ns : List Cell) → IsSettled w h ps → IsSettled w h ns
    → IsComplete x0 y0 w h ps ns (updates x0 y0 w h ps ns)
gives_enough x0 y0 w h ps ns sp st = record {
  blanks = λ a b j inside varies unskipped other.
      let x = flat x0 y0 w h ps ns ns j a b varies.covers in
      let end : b * w + w ≤ w * h = row_end w h b inside.row in
      given_at x0 y0 w h ps ns a b inside.column
      (blanked (w * h) ps ns _ (b * w + j) (b * w + a) flat_next (at_column x0 y0 w h ps ns j b sp st varies.given)
      (omega (arith, inside.column)) x varies.unforced varies.variation
      (λ k y visible. let q = same_row w h ps j b k sp (omega (arith, inside.column, varies.covers.before)) inside.row y in
      varies.dark.dark (k % w) q.1 (subst (λ z. shows_on_blank (cell ps z) ≡ true) q.0 visible)) unskipped other);
  refreshes = λ a b j inside bares unskipped free.
      let x = flat x0 y0 w h ps ns ps j a b bares.covers in
      let end : b * w + w ≤ w * h = row_end w h b inside.row in
      given_at x0 y0 w h ps ns a b inside.column
      (refreshed (w * h) ps ns _ (b * w + j) (b * w + a) (settled_flat w h ps sp) flat_next
      (at_column x0 y0 w h ps ns j b sp st bares.given)
      (omega (arith, inside.column)) x bares.visible bares.unforced bares.narrow
      (λ k y. bares.free.free (k % w)
      (same_row w h ns j b k st (omega (arith, inside.column, bares.covers.before)) inside.row y).1)
      unskipped (λ k y. free.free (k % w) (same_row w h ns a b k st inside.column inside.row y).1));
}
  where
    flat_next : Settled (w * h) ns
    flat_next = settled_flat w h ns st
