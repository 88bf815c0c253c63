-- What walks and views lead to.
use Rattle.std.proofs.Common.{◌≡◌, ℕ, zero, suc, ◌+◌, ◌-◌, ◌<◌, ◌≤◌, true, false, nat_lt, if◌then◌else◌, min}
use Rattle.std.proofs.Common.{◌⊎◌, ⊎_elim, refl, ap, sym, ◌∙◌, arith, add-one}
use Rattle.text_places.specs.declared.place.Place.{Place}
use Rattle.text_places.specs.Places.{HaveRows, IsInLine, text_place, next_place, previous_place, places_after, places_before}
use Rattle.text_places.specs.Places.{is_before, place_there, rows_between, view_begin}
use Rattle.text_places.proofs.PlaceLemmas.{rank, rank-before, rank-not, rank-same, before-rank, not-rank, between-rank}
use Rattle.text_places.proofs.PlaceLemmas.{after-in, before-in, after-rank, before-rank-less, there-in, there-same, there-before, view-in, view-rank}

module _ (rows : ℕ → ℕ) where
  pub back : (n : ℕ) (q : Place) → HaveRows rows → IsInLine rows q → places_before rows n (places_after rows n q) ≡ q
  back n q have here =
      let there = after-in rows have n q here in
      rank-same rows (places_before rows n (places_after rows n q)) q
      (before-in rows have n (places_after rows n q) there) here
      (omega (arith, before-rank-less rows have n (places_after rows n q), after-rank rows have n q here))

  pub further : (n : ℕ) (q : Place) → HaveRows rows → IsInLine rows q
      → is_before (text_place 0 0) (places_before rows n q) ≡ true → places_after rows n (places_before rows n q) ≡ q
  further n q have here some =
      let there = before-in rows have n q here in
      let first = rank-before rows (text_place 0 0) (places_before rows n q) (have 0) some in
      rank-same rows (places_after rows n (places_before rows n q)) q
      (after-in rows have n (places_before rows n q) there) here
      (omega (arith, first, after-rank rows have n (places_before rows n q) there, before-rank-less rows have n q))

  pub ordered : (n : ℕ) (a b : Place) → HaveRows rows → IsInLine rows a → IsInLine rows b → is_before a b ≡ true
      → is_before (places_after rows n a) (places_after rows n b) ≡ true
  ordered n a b have in_a in_b before =
      before-rank rows (places_after rows n a) (places_after rows n b) (after-in rows have n b in_b)
      (omega (arith, after-rank rows have n a in_a, after-rank rows have n b in_b, rank-before rows a b in_a before))

  pub walked : (a b : Place) → HaveRows rows → IsInLine rows a → IsInLine rows b → is_before b a ≡ false
      → places_after rows (rows_between rows a b) a ≡ b
  walked a b have in_a in_b not =
      rank-same rows (places_after rows (rows_between rows a b) a) b (after-in rows have (rows_between rows a b) a in_a) in_b
      (omega (arith, after-rank rows have (rows_between rows a b) a in_a, between-rank rows a b not, rank-not rows b a in_a not))

  pub view-before : (f q : Place) (n : ℕ) → HaveRows rows → IsInLine rows q → is_before q (view_begin rows f q n) ≡ false
  view-before f q n have here = not-rank rows q (view_begin rows f q n) here (omega (arith, view-rank rows have f q n here))

  pub view-within : (f q : Place) (n : ℕ) → HaveRows rows → IsInLine rows q → 0 < n
      → rows_between rows (view_begin rows f q n) q < n
  view-within f q n have here some =
      omega (arith, some, between-rank rows (view_begin rows f q n) q (view-before f q n have here), view-rank rows have f q n here)

  pub view-stays : (f q : Place) (n : ℕ) → HaveRows rows → IsInLine rows f → IsInLine rows q → is_before q f ≡ false
      → rows_between rows f q < n → view_begin rows f q n ≡ f
  view-stays f q n have in_f in_q not lt =
      rank-same rows (view_begin rows f q n) f (view-in rows have f q n in_q) in_f
      (omega (
        arith,
        lt,
        view-rank rows have f q n in_q,
        ap (rank rows) (there-same rows have f in_f),
        between-rank rows f q not,
        rank-not rows q f in_f not,
      ))

  pub view-back : (f q : Place) (n : ℕ) → HaveRows rows → IsInLine rows f → IsInLine rows q
      → is_before (view_begin rows f q n) f ≡ true → view_begin rows f q n ≡ q
  view-back f q n have in_f in_q before =
      let here = view-in rows have f q n in_q in
      rank-same rows (view_begin rows f q n) q here in_q
      (omega (
        arith,
        rank-before rows (view_begin rows f q n) f here before,
        view-rank rows have f q n in_q,
        ap (rank rows) (there-same rows have f in_f),
      ))

  pub view-further : (f q : Place) (n : ℕ) → HaveRows rows → IsInLine rows f → IsInLine rows q
      → is_before f (view_begin rows f q n) ≡ true → view_begin rows f q n ≡ places_before rows (n - 1) q
  view-further f q n have in_f in_q before =
      rank-same rows (view_begin rows f q n) (places_before rows (n - 1) q) (view-in rows have f q n in_q)
      (before-in rows have (n - 1) q in_q)
      (omega (
        arith,
        rank-before rows f (view_begin rows f q n) in_f before,
        view-rank rows have f q n in_q,
        before-rank-less rows have (n - 1) q,
        ap (rank rows) (there-same rows have f in_f),
      ))

-- ---- one turn of a walk

pub after-none : (rows : ℕ → ℕ) (q : Place) → places_after rows 0 q ≡ q
unfolding places_after
after-none rows q = refl

pub after-next : (rows : ℕ → ℕ) (n : ℕ) (q r s : Place) → r ≡ places_after rows n q → s ≡ next_place rows r
    → s ≡ places_after rows (n + 1) q
unfolding places_after
after-next rows n q r s before is = rw add-one (is ∙ ap (next_place rows) before)

pub before-none : (rows : ℕ → ℕ) (q : Place) → places_before rows 0 q ≡ q
unfolding places_before
before-none rows q = refl

pub before-next : (rows : ℕ → ℕ) (n : ℕ) (q r s : Place) → r ≡ places_before rows n q → s ≡ previous_place rows r
    → s ≡ places_before rows (n + 1) q
unfolding places_before
before-next rows n q r s before is = rw add-one (is ∙ ap (previous_place rows) before)

-- ---- after the end of a text each line is a row

module _ (rows : ℕ → ℕ) (count : ℕ) (ends : (line : ℕ) → count ≤ line → rows line ≡ 1) where
  next-past : (line : ℕ) → count ≤ line → next_place rows (text_place line 0) ≡ text_place (line + 1) 0
  next-past line le = ap (λ n. if nat_lt 1 n then text_place line 1 else text_place (line + 1) 0) (ends line le)

  after-past : (line n : ℕ) → count ≤ line → places_after rows n (text_place line 0) ≡ text_place (line + n) 0
  unfolding places_after
  after-past line zero le = ap (λ l. text_place l 0) (omega arith)
  after-past line (suc n) le =
      ap (next_place rows) (after-past line n le) ∙ next-past (line + n) (omega (arith, le))
      ∙ ap (λ l. text_place l 0) (let e : line + n + 1 ≡ line + suc n = omega arith in e)

  after-more : (m n : ℕ) (q : Place) → places_after rows m (places_after rows n q) ≡ places_after rows (m + n) q
  unfolding places_after
  after-more zero n q = ap (λ k. places_after rows k q) (let e : n ≡ 0 + n = omega arith in e)
  after-more (suc m) n q =
      ap (next_place rows) (after-more m n q)
      ∙ ap (λ k. places_after rows k q) (let e : suc (m + n) ≡ suc m + n = omega arith in e)

  pub places-past : (n done : ℕ) (q p : Place) → done ≤ n → p ≡ places_after rows done q → count ≤ p.line → p.row ≡ 0
      → text_place (p.line + (n - done)) 0 ≡ places_after rows n q
  places-past n done q p le is far first =
      let here : text_place p.line 0 ≡ p = ap (λ r. text_place p.line r) (sym first) in
      sym (after-past p.line (n - done) far)
      ∙ ap (places_after rows (n - done)) (here ∙ is)
      ∙ after-more (n - done) done q
      ∙ ap (λ k. places_after rows k q) (omega (arith, le))

-- ---- the walk to where a view begins

module _ (rows : ℕ → ℕ) (have : HaveRows rows) (f q : Place) (n above : ℕ) (here : IsInLine rows q)
    (far : above + min (rank rows (place_there rows f)) (rank rows q) ≤ rank rows q) where
  begun-in : IsInLine rows (places_before rows above q)
  begun-in = before-in rows have above q here

  pub walk-goes : is_before f (places_before rows above q) ≡ true
      → above + 1 + min (rank rows (place_there rows f)) (rank rows q) ≤ rank rows q
  walk-goes before =
      let there : is_before (place_there rows f) (places_before rows above q) ≡ true =
      there-before rows have f (places_before rows above q) begun-in ∙ before in
      omega (
        arith,
        far,
        before-rank-less rows have above q,
        rank-before rows (place_there rows f) (places_before rows above q) (there-in rows have f) there,
      )

  pub walk-ends : above ≤ n - 1 → (n - 1 ≤ above) ⊎ (is_before f (places_before rows above q) ≡ false)
      → places_before rows above q ≡ view_begin rows f q n
  walk-ends most end =
      rank-same rows (places_before rows above q) (view_begin rows f q n) begun-in (view-in rows have f q n here)
      (⊎_elim (λ (all : n - 1 ≤ above).
      omega (arith, most, all, far, before-rank-less rows have above q, view-rank rows have f q n here))
      (λ (not : is_before f (places_before rows above q) ≡ false).
      let there : is_before (place_there rows f) (places_before rows above q) ≡ false =
      there-before rows have f (places_before rows above q) begun-in ∙ not in
      omega (
        arith,
        most,
        far,
        before-rank-less rows have above q,
        view-rank rows have f q n here,
        rank-not rows (place_there rows f) (places_before rows above q) begun-in there,
      ))
      end)

  pub walk-counts : above ≡ rows_between rows (places_before rows above q) q
  walk-counts =
      omega (
        arith,
        far,
        before-rank-less rows have above q,
        between-rank rows (places_before rows above q) q
            (not-rank rows q (places_before rows above q) here (omega (arith, before-rank-less rows have above q))),
      )
