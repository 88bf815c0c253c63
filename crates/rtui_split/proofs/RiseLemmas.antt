-- How runs rise, one after the other.
use Rattle.std.proofs.Common.{ℕ, ◌≡◌, ◌<◌, ◌≤◌, ◌+◌, ◌-◌, ◌*◌, ◌⊎◌, inl, inr, zero, suc, List, length, sum, slice_index}
use Rattle.std.proofs.Common.{◌==◌, if◌then◌else◌, refl, sym, ap₂, subst, arith}
use Rattle.std.proofs.lemmas.{Bool.cases_lt, Bool.Decides.nat_tests, List.get_or_past}
use Rattle.std.specs.List.{AllZip}
use Rattle.rtui_split.specs.Ragged.{Run, IsRunOf, run_length, growth_before, growth_after, growth, rank_at, rank, CostsNoMore}
use Rattle.rtui_split.specs.Ragged.{ComesNoLater, IsAtMost, IsLeastRagged}
use Rattle.rtui_split.specs.Inner.Runs.{at_height, KeepsUpTo, IsFirstRun}
use Rattle.rtui_split.proofs.RunLemmas.{IsIn, AreApart, within_list, nested, before_few, after_few, cost_on, order_nested}

module _ (ws : List ℕ) (h : ℕ) where
  more_at : (a b : ℕ) → a ≡ b → h < slice_index ws a → h < slice_index ws b
  more_at a b same more = let P : ℕ → Type 0 = λ n. h < slice_index ws n in subst P same more

  few_at : (a b : ℕ) → a ≡ b → slice_index ws a ≤ h → slice_index ws b ≤ h
  few_at a b same few = let P : ℕ → Type 0 = λ n. slice_index ws n ≤ h in subst P same few

  -- the first part of a row, from a part on back
  row_first : (i : ℕ) → h < slice_index ws i → (f : ℕ) × (f ≤ i) × ((k : ℕ) → f ≤ k → k ≤ i → h < slice_index ws k)
      × ((k : ℕ) → k + 1 ≡ f → slice_index ws k ≤ h)
  row_first zero here = (0, omega arith, λ k _ to. more_at 0 k (omega (arith, to)) here, λ k next. absurd (omega (arith, next)))
  row_first (suc i) here = elim (cases_lt h (slice_index ws i)) [
    | inl more ↦
        let row = row_first i more in (
          row.0,
          omega (arith, row.1),
          λ k from to. elim (cases_lt k (suc i)) [
            | inl less ↦ row.2 k from (omega (arith, less))
            | inr last ↦ more_at (suc i) k (omega (arith, last, to)) here
          ],
          row.3,
        )
    | inr low ↦ (
      suc i,
      omega arith,
      λ k from to. more_at (suc i) k (omega (arith, from, to)) here,
      λ k next. few_at i k (omega (arith, next)) low,
    )
  ]

  -- the place after a row, from a part on
  row_after : (fuel i : ℕ) → length ws ≤ i + fuel → (a : ℕ) × (i ≤ a) × ((k : ℕ) → i ≤ k → k < a → h < slice_index ws k)
      × (slice_index ws a ≤ h)
  row_after zero i long =
      (i, omega arith, λ k from to. absurd (omega (arith, from, to)), omega (arith, get_or_past ws i 0 (omega (arith, long))))
  row_after (suc n) i long = elim (cases_lt h (slice_index ws i)) [
    | inl more ↦
        let row = row_after n (i + 1) (omega (arith, long)) in (
          row.0,
          omega (arith, row.1),
          λ k from to. elim (cases_lt i k) [
            | inl later ↦ row.2 k (omega (arith, later)) to
            | inr first ↦ more_at i k (omega (arith, first, from)) more
          ],
          row.3,
        )
    | inr low ↦ (i, omega arith, λ k from to. absurd (omega (arith, from, to)), low)
  ]

  -- each part that wishes more than a height is in a run at that height
  pub run_at : (i : ℕ) → h < slice_index ws i → (r : Run) × IsRunOf ws r × IsIn r i × (r.height ≡ h)
  run_at i here =
      let front = row_first i here in
      let end = row_after (length ws) i (omega arith) in
      let longer : i < end.0 = elim (cases_lt i end.0) [
        | inl more ↦ more
        | inr none ↦ absurd (omega (arith, here, few_at end.0 i (omega (arith, none, end.1)) end.3))
      ] in (
        record { first = front.0; after = end.0; height = h },
        record {
          some = omega (arith, front.1, longer);
          wish = λ k from to. elim (cases_lt i k) [
            | inl later ↦ end.2 k (omega (arith, later)) to
            | inr before ↦ front.2 k from before
          ];
          before = front.3;
          ended = end.3;
        },
        (front.1, longer),
        refl,
      )

module _ (ws standing : List ℕ) where
  costs_on : (r s t : Run) → IsRunOf ws s → CostsNoMore standing r s → CostsNoMore standing s t → CostsNoMore standing r t
  costs_on r s t run one two = cost_on (growth standing r) (growth standing s) (growth standing t) (run_length r) (run_length s)
      (run_length t) (omega (arith, run.some)) one two

  pub order_on : (r s t : Run) → IsRunOf ws r → IsRunOf ws s → IsRunOf ws t → ComesNoLater standing r s
      → ComesNoLater standing s t → ComesNoLater standing r t
  order_on r s t run other last one two = (
    costs_on r s t other one.0 two.0,
    λ back.
        let first = one.1 (costs_on s t r last two.0 back) in
        let second = two.1 (costs_on t r s run back one.0) in (
          omega (arith, first.0, second.0),
          λ ranks. omega (arith, first.1 (omega (arith, ranks, second.0)), second.1 (omega (arith, ranks, first.0))),
        ),
  )

order_both : (standing : List ℕ) (r s : Run) → ComesNoLater standing r s → ComesNoLater standing s r → r.height ≤ s.height
order_both standing r s one two = (one.1 two.0).1 (two.1 one.0).0

-- of three numbers in turn, as in a dictionary, one comes no later or the other does
in_turn : (a b c d e f : ℕ) → ((a ≤ b) × (b ≤ a → (c ≤ d) × (d ≤ c → e ≤ f)) → ⊥)
    → (b ≤ a) × (a ≤ b → (d ≤ c) × (c ≤ d → f ≤ e))
in_turn a b c d e f later = elim (cases_lt a b) [
  | inl less ↦ absurd (later (omega (arith, less), λ back. absurd (omega (arith, back, less))))
  | inr more ↦ (
    more,
    λ back. elim (cases_lt c d) [
      | inl less ↦ absurd (later (back, λ _. (omega (arith, less), λ ranks. absurd (omega (arith, ranks, less)))))
      | inr many ↦ (
        many,
        λ ranks. elim (cases_lt f e) [
          | inl lower ↦ omega (arith, lower)
          | inr higher ↦ absurd (later (back, λ _. (ranks, λ _. higher)))
        ],
      )
    ],
  )
]

pub order_total : (standing : List ℕ) (r s : Run) → (ComesNoLater standing r s → ⊥) → ComesNoLater standing s r
order_total standing r s later = in_turn (growth standing r * run_length s + 2 * run_length r)
    (growth standing s * run_length r + 2 * run_length s) (rank standing r) (rank standing s) r.height s.height later

-- runs rise in order, and each as a whole
abbrev pub RiseInOrder : List ℕ → List ℕ → List ℕ → Type 0
RiseInOrder ws standing xs = (r s : Run) (i j : ℕ) → IsRunOf ws r → IsRunOf ws s → IsIn r i → IsIn s j
    → ComesNoLater standing r s → s.height < slice_index xs j → r.height < slice_index xs i

pub itself : (standing : List ℕ) (r : Run) → ComesNoLater standing r r
itself standing r = (omega arith, λ _. (omega arith, λ _. omega arith))

first_in : (ws : List ℕ) (r : Run) → IsRunOf ws r → IsIn r r.first
first_in ws r run = (omega arith, run.some)

module _ (ws standing xs : List ℕ) (apart : AreApart ws standing) (rise : RiseInOrder ws standing xs) where
  -- if a part of a run has no more than its height, none has
  low_at : (r : Run) (i j : ℕ) → IsRunOf ws r → IsIn r i → IsIn r j → slice_index xs i ≤ r.height → slice_index xs j ≤ r.height
  low_at r i j run here there low = elim (cases_lt r.height (slice_index xs j)) [
    | inl risen ↦ absurd (omega (arith, low, rise r r i j run run here there (itself standing r) risen))
    | inr level ↦ level
  ]

  -- if a run hasn't risen, some run whose first part stands at its height comes no later
  lowest : (fuel : ℕ) (r : Run) → IsRunOf ws r → r.height < fuel → slice_index xs r.first ≤ r.height
      → (s : Run) × IsRunOf ws s × (slice_index xs s.first ≡ s.height) × ComesNoLater standing s r
  lowest zero r run small low = absurd (omega (arith, small))
  lowest (suc n) r run small low = elim (cases_lt (slice_index xs r.first) r.height) [
    | inl lower ↦
        let here = first_in ws r run in
        let under = run_at ws (slice_index xs r.first) r.first (omega (arith, lower, run.wish r.first here.0 here.1)) in
        let s = under.0 in
        let own = low_at s r.first s.first under.1 under.2 (first_in ws s under.1) (omega (arith, under.3)) in
        let found = lowest n s under.1 (omega (arith, under.3, lower, small)) own in
        let before = order_nested ws standing apart s r r.first under.1 run under.2 here (omega (arith, under.3, lower)) in
        (found.0, found.1, found.2, order_on ws standing found.0 s r found.1 under.1 run found.3 before)
    | inr same ↦ (r, run, omega (arith, same, low), itself standing r)
  ]

  -- the first run of those whose parts stand at their height comes before each that hasn't risen
  pub first_of_all : (best : Run) → IsFirstRun ws standing xs (length ws) best → (r : Run) (i : ℕ) → IsRunOf ws r → IsIn r i
      → slice_index xs i ≤ r.height → ComesNoLater standing best r
  first_of_all best first r i run here low =
      let own = low_at r i r.first run here (first_in ws r run) low in
      let found = lowest (r.height + 1) r run (omega arith) own in
      order_on ws standing best found.0 r first.run found.1 run (first.first found.0 found.1
      (omega (arith, found.1.some, within_list ws found.0 found.1)) found.2) found.3

  -- all its parts stand at its height
  pub flat : (best : Run) → IsFirstRun ws standing xs (length ws) best → (i : ℕ) → IsIn best i → slice_index xs i ≡ best.height
  flat best first i here =
      let most = low_at best best.first i first.run (first_in ws best first.run) here (omega (arith, first.stands)) in
      elim (cases_lt (slice_index xs i) best.height) [
        | inl lower ↦
            let under = run_at ws (slice_index xs i) i (omega (arith, lower, first.run.wish i here.0 here.1)) in
            absurd (omega (
              arith,
              lower,
              under.3,
              order_both standing best under.0
                  (first_of_all best first under.0 i under.1 under.2 (omega (arith, under.3)))
                  (order_nested ws standing apart under.0 best i under.1 first.run under.2 here (omega (arith, under.3, lower))),
            ))
        | inr no_less ↦ omega (arith, most, no_less)
      ]

  -- if nothing is left to rise, each has its wish
  pub all_risen : ((r : Run) → IsRunOf ws r → slice_index xs r.first ≡ r.height → ⊥) → (i : ℕ)
      → slice_index ws i ≤ slice_index xs i
  all_risen none i = elim (cases_lt (slice_index xs i) (slice_index ws i)) [
    | inl lower ↦
        let under = run_at ws (slice_index xs i) i lower in
        let r = under.0 in
        let own = low_at r i r.first under.1 under.2 (first_in ws r under.1) (omega (arith, under.3)) in
        let found = lowest (r.height + 1) r under.1 (omega arith) own in
        absurd (none found.0 found.1 found.2)
    | inr no_less ↦ no_less
  ]

inner : (n a : ℕ) → a ≤ n → (a ≡ n → ⊥) → a < n
inner n a within not_last = grind (arith, nat_tests, within, not_last)

-- the place that a rank counts from or to, by what both differences grow by
place_of : (n b c f a : ℕ) → b ≤ 2 → c ≤ 2 → f < a → a ≤ n → (b ≡ 1 → f ≡ 0) → (c ≡ 1 → a ≡ n) → (a ≡ n → c ≡ 1) → (p : ℕ)
    × (((if c == 1 then rank_at n b f else rank_at n c a) + p ≡ n) ⊎ ((if c == 1 then rank_at n b f else rank_at n c a) ≡ n + p))
    × (((a < n) × (p ≡ a)) ⊎ ((a ≡ n) × (p ≡ f)))
place_of n b zero f a few less some within front edge ended =
    (a, inr (omega arith), inl (inner n a within (λ last. absurd (omega (arith, ended last))), refl))
place_of n zero (suc zero) f a few less some within front edge ended = (f, inr (omega arith), inr (edge refl, refl))
place_of n (suc zero) (suc zero) f a few less some within front edge ended =
    (f, inr (omega (arith, front refl)), inr (edge refl, refl))
place_of n (suc (suc zero)) (suc zero) f a few less some within front edge ended =
    (f, inl (omega arith), inr (edge refl, refl))
place_of n (suc (suc (suc b))) (suc zero) f a few less some within front edge ended = absurd (omega (arith, few))
place_of n b (suc (suc zero)) f a few less some within front edge ended =
    (a, inl (omega arith), inl (inner n a within (λ last. absurd (omega (arith, ended last))), refl))
place_of n b (suc (suc (suc c))) f a few less some within front edge ended = absurd (omega (arith, less))

-- who grows by one stands at the edge
front_edge : (standing : List ℕ) (r : Run) → growth_before standing r ≡ 1 → r.first ≡ 0
front_edge standing r one = grind (arith, nat_tests, one)

back_edge : (standing : List ℕ) (r : Run) → growth_after standing r ≡ 1 → r.after ≡ length standing
back_edge standing r one = grind (arith, nat_tests, one)

edge_back : (standing : List ℕ) (r : Run) → r.after ≡ length standing → growth_after standing r ≡ 1
edge_back standing r edge = grind (arith, nat_tests, edge)

module _ (ws standing : List ℕ) (apart : AreApart ws standing) where
  rank_place : (r : Run) → IsRunOf ws r → (p : ℕ)
      × ((rank standing r + p ≡ length standing) ⊎ (rank standing r ≡ length standing + p))
      × (((r.after < length standing) × (p ≡ r.after)) ⊎ ((r.after ≡ length standing) × (p ≡ r.first)))
  rank_place r run = place_of (length standing) (growth_before standing r) (growth_after standing r) r.first r.after
      (before_few standing r) (after_few standing r) run.some (omega (arith, within_list ws r run, apart.0))
      (front_edge standing r) (back_edge standing r) (edge_back standing r)

  -- two runs of one rank have a part in common
  share_part : (r s : Run) → IsRunOf ws r → IsRunOf ws s → r.height ≤ s.height → rank standing r ≡ rank standing s
      → (i : ℕ) × IsIn r i × IsIn s i
  share_part r s run other lower ranks =
      let one = rank_place r run in
      let two = rank_place s other in
      let some = run.some in
      let any = other.some in
      let same : one.0 ≡ two.0 = elim one.1 [
        | inl up ↦ elim two.1 [ inl to ↦ omega (arith, up, to, ranks) | inr down ↦ omega (arith, up, down, ranks) ]
        | inr down ↦ elim two.1 [ inl up ↦ omega (arith, up, down, ranks) | inr to ↦ omega (arith, down, to, ranks) ]
      ] in
      elim one.2 [
        | inl inner ↦ elim two.2 [
          | inl inside ↦ (
            r.after - 1,
            (omega arith, omega arith),
            (omega (arith, inner, inside, same), omega (arith, inner, inside, same)),
          )
          | inr edge ↦ absurd (omega (
            arith,
            lower,
            run.ended,
            other.wish r.after (omega (arith, inner, edge, same)) (omega (arith, inner, edge)),
          ))
        ]
        | inr edge ↦ elim two.2 [
          | inl inside ↦ absurd (omega (
            arith,
            lower,
            run.before (s.after - 1) (omega (arith, inside, edge, same)),
            other.wish (s.after - 1) (omega arith) (omega arith),
          ))
          | inr both ↦ (r.after - 1, (omega arith, omega arith), (omega (arith, edge, both), omega (arith, edge, both)))
        ]
      ]

  -- between a run and itself at a height below which it is the same, no other run comes
  between : (r s : Run) (top h : ℕ) → IsRunOf ws r → IsRunOf ws s → KeepsUpTo ws standing r top → r.height ≤ h → h < top
      → ComesNoLater standing r s → ComesNoLater standing s (at_height r h)
      → (r.first ≡ s.first) × (r.after ≡ s.after) × (r.height ≤ s.height) × (s.height ≤ h)
  between r s top h run other keeps from to one two =
      let kept = keeps h from to in
      let grows : growth standing (at_height r h) ≡ growth standing r = omega (arith, kept.1, kept.2) in
      let ranks : rank standing (at_height r h) ≡ rank standing r =
      let n = length standing in
      let R : ℕ → ℕ → ℕ = λ b c. if c == 1 then rank_at n b r.first else rank_at n c r.after in
      ap₂ R kept.1 kept.2 in
      let back : CostsNoMore standing s r =
      let P : ℕ → Type 0 = λ g. growth standing s * run_length r + 2 * run_length s ≤ g * run_length s + 2 * run_length r in
      subst P grows two.0 in
      let forth : CostsNoMore standing (at_height r h) s =
      let P : ℕ → Type 0 = λ g. g * run_length s + 2 * run_length r ≤ growth standing s * run_length r + 2 * run_length s in
      subst P (sym grows) one.0 in
      let first = one.1 back in
      let second = two.1 forth in
      let higher : r.height ≤ s.height = first.1 (omega (arith, second.0, ranks)) in
      let within : s.height ≤ h = second.1 (omega (arith, first.0, ranks)) in
      let part = share_part r s run other higher (omega (arith, first.0, second.0, ranks)) in
      let level = (keeps s.height higher (omega (arith, within, to))).0 in
      let out = nested ws (at_height r s.height) s part.0 level other part.1 part.2 (omega arith) in
      let in_it = nested ws s (at_height r s.height) part.0 other level part.2 part.1 (omega arith) in
      (omega (arith, out.0, in_it.0), omega (arith, out.1, in_it.1), higher, within)

-- no part rises above its wish
keeps_within : (ws standing : List ℕ) (r : Run) (top h i : ℕ) → IsRunOf ws r → KeepsUpTo ws standing r top → h ≤ top
    → IsIn r i → h ≤ slice_index ws i
keeps_within ws standing r top h i run keeps to here = elim (cases_lt r.height h) [
  | inl higher ↦ omega (
    arith,
    higher,
    (keeps (h - 1) (omega (arith, higher)) (omega (arith, higher, to))).0.wish i here.0 here.1,
  )
  | inr low ↦ omega (arith, low, run.wish i here.0 here.1)
]

-- the parts of a run rise to a height
abbrev pub IsRaised : Run → ℕ → List ℕ → List ℕ → Type 0
IsRaised r h xs ys = ((i : ℕ) → r.first ≤ i → i < r.after → slice_index ys i ≡ h)
    × ((i : ℕ) → (i < r.first) ⊎ (r.after ≤ i) → slice_index ys i ≡ slice_index xs i)

in_or_out : (r : Run) (i : ℕ) → IsIn r i ⊎ ((i < r.first) ⊎ (r.after ≤ i))
in_or_out r i = elim (cases_lt i r.first) [
  | inl before ↦ inr (inl before)
  | inr from ↦ elim (cases_lt i r.after) [
    | inl inside ↦ inl (from, inside)
    | inr ended ↦ inr (inr ended)
  ]
]

same_run : (r s : Run) → r.first ≡ s.first → r.after ≡ s.after → at_height r s.height ≡ s
same_run r s first after =
    ap₂ (λ f a. let run : Run = record { first = f; after = a; height = s.height } in run) first after

module _ (ws standing xs ys : List ℕ) (best : Run) (top h : ℕ) (apart : AreApart ws standing)
    (rise : RiseInOrder ws standing xs) (first : IsFirstRun ws standing xs (length ws) best)
    (keeps : KeepsUpTo ws standing best top) (from : best.height ≤ h) (raise : IsRaised best h xs ys) where
  no_lower : (i : ℕ) → slice_index xs i ≤ slice_index ys i
  no_lower i = elim (in_or_out best i) [
    | inl inside ↦ omega (arith, from, raise.0 i inside.0 inside.1, flat ws standing xs apart rise best first i inside)
    | inr out ↦ omega (arith, raise.1 i out)
  ]

  -- no part has risen above its wish
  pub raised_within : h ≤ top → ((i : ℕ) → slice_index xs i ≤ slice_index ws i) → (i : ℕ) → slice_index ys i ≤ slice_index ws i
  raised_within to within i = elim (in_or_out best i) [
    | inl inside ↦ omega (arith, raise.0 i inside.0 inside.1, keeps_within ws standing best top h i first.run keeps to inside)
    | inr out ↦ omega (arith, raise.1 i out, within i)
  ]

  -- runs have risen in order, if the first of all has risen as far as it is the same
  pub rise_on : h ≤ top → RiseInOrder ws standing ys
  rise_on to r s i j run other here there order risen = elim (cases_lt s.height (slice_index xs j)) [
    | inl before ↦ omega (arith, no_lower i, rise r s i j run other here there order before)
    | inr now ↦ elim (in_or_out best j) [
      | inr out ↦ absurd (omega (arith, now, risen, raise.1 j out))
      | inl inside ↦
          let low : best.height ≤ s.height = omega (arith, now, flat ws standing xs apart rise best first j inside) in
          let below : s.height < h = omega (arith, risen, raise.0 j inside.0 inside.1) in
          let level = (keeps s.height low (omega (arith, below, to))).0 in
          let out = nested ws (at_height best s.height) s j level other inside there (omega arith) in
          let in_it = nested ws s (at_height best s.height) j other level there inside (omega arith) in
          let same : at_height best s.height ≡ s = same_run best s (omega (arith, out.0, in_it.0))
          (omega (arith, out.1, in_it.1)) in
          let P : Run → Type 0 = λ t. ComesNoLater standing r t in
          elim (cases_lt r.height (slice_index xs i)) [
            | inl done ↦ omega (arith, no_lower i, done)
            | inr undone ↦
                let way = between ws standing apart best r top s.height first.run run keeps low (omega (arith, below, to))
                (first_of_all ws standing xs apart rise best first r i run here undone) (subst P (sym same) order) in
                omega (arith, below, way, raise.0 i (omega (arith, way, here)) (omega (arith, way, here)))
          ]
    ]
  ]

  -- the sharing is the least ragged, if the first run of all has no room to rise to where it is another
  pub least_ragged : (room : ℕ) → h < top → AllZip IsAtMost ys ws → sum ys ≤ room → room < sum ys + run_length best
      → IsLeastRagged ws standing room ys (at_height best h)
  least_ragged room to within fits full =
      let end = at_height best h in
      let kept = (keeps h from to).0 in
      let front = first_in ws best first.run in
      record {
        run = kept;
        within = within;
        risen = λ r run before i above below. elim (cases_lt r.height (slice_index ys i)) [
          | inl more ↦ more
          | inr low ↦
              let way = between ws standing apart best r top h first.run run keeps from to
              (first_of_all ws standing xs apart rise best first r i run (above, below) (omega (arith, low, no_lower i)))
              (order_total standing end r before) in
              let inside : IsIn best i = (omega (arith, way, above), omega (arith, way, below)) in
              absurd (before (order_nested ws standing apart end r i kept run inside (above, below)
              (omega (arith, low, raise.0 i inside.0 inside.1))))
        ];
        later = λ r run after i above below. elim (cases_lt r.height (slice_index ys i)) [
          | inl risen ↦ absurd (omega (
            arith,
            rise_on (omega (arith, to)) end r best.first i kept run front (above, below) after risen,
            raise.0 best.first front.0 front.1,
          ))
          | inr low ↦ low
        ];
        fits = fits;
        full = full;
      }
