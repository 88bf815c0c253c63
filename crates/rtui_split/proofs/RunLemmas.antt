-- Runs of parts, and their order.
use Rattle.std.proofs.Common.{ℕ, ◌≡◌, ◌==◌, ◌<◌, ◌≤◌, ◌+◌, ◌-◌, ◌*◌, ◌⊎◌, inl, inr, zero, suc, List, length, slice_index}
use Rattle.std.proofs.Common.{if◌then◌else◌, sym, ◌∙◌, ap, subst, arith, add-mul, mul-le-mul_right}
use Rattle.std.proofs.Math.Nat.{mul_assoc, mul_comm, le_of_mul-le-mul_left}
use Rattle.std.proofs.lemmas.{Bool.cases_lt, Bool.Decides.nat_tests, List.get_or_past}
use Rattle.rtui_split.specs.Ragged.{Run, IsRunOf, run_length, growth_before, growth_after, growth, rank_at, rank, ComesNoLater}

abbrev pub IsIn : Run → ℕ → Type 0
IsIn r i = (r.first ≤ i) × (i < r.after)

-- who wishes something of this turn's room doesn't stand yet
abbrev pub AreApart : List ℕ → List ℕ → Type 0
AreApart wishes standing = (length standing ≡ length wishes)
    × ((i : ℕ) → 0 < slice_index wishes i → slice_index standing i ≡ 0)

in_list : (xs : List ℕ) (i h : ℕ) → h < slice_index xs i → i < length xs
in_list xs i h some = elim (cases_lt i (length xs)) [
  | inl within ↦ within
  | inr past ↦ absurd (omega (arith, some, get_or_past xs i 0 past))
]

pub within_list : (ws : List ℕ) (r : Run) → IsRunOf ws r → r.after ≤ length ws
within_list ws r run =
    let some = run.some in
    omega (arith, in_list ws (r.after - 1) r.height (run.wish (r.after - 1) (omega arith) (omega arith)))

-- of two runs with a part in common the higher one lies in the other
pub nested : (ws : List ℕ) (r s : Run) (i : ℕ) → IsRunOf ws r → IsRunOf ws s → IsIn r i → IsIn s i → r.height ≤ s.height
    → (r.first ≤ s.first) × (s.after ≤ r.after)
nested ws r s i run other here there lower = (
  elim (cases_lt s.first r.first) [
    | inl less ↦ absurd (omega (
      arith,
      lower,
      run.before (r.first - 1) (omega arith),
      other.wish (r.first - 1) (omega arith) (omega (arith, here, there)),
    ))
    | inr more ↦ more
  ],
  elim (cases_lt r.after s.after) [
    | inl less ↦ absurd (omega (arith, lower, run.ended, other.wish r.after (omega (arith, here, there)) less))
    | inr more ↦ more
  ],
)

-- what the differences grow by
pub before_few : (standing : List ℕ) (r : Run) → growth_before standing r ≤ 2
before_few standing r = grind (arith, nat_tests)

pub after_few : (standing : List ℕ) (r : Run) → growth_after standing r ≤ 2
after_few standing r = grind (arith, nat_tests)

before_low : (standing : List ℕ) (r : Run) → 0 < r.first → slice_index standing (r.first - 1) ≤ r.height
    → growth_before standing r ≡ 2
before_low standing r some low = grind (arith, nat_tests, some, low)

after_low : (standing : List ℕ) (r : Run) → r.after < length standing → slice_index standing r.after ≤ r.height
    → growth_after standing r ≡ 2
after_low standing r inner low = grind (arith, nat_tests, inner, low)

-- at the same place they grow by no less if a run is higher
before_higher : (standing : List ℕ) (r : Run) (a h : ℕ) → r.height ≤ h
    → growth_before standing r ≤ growth_before standing (record { first = r.first; after = a; height = h })
before_higher standing r a h lower = grind (arith, nat_tests, lower)

after_higher : (standing : List ℕ) (r : Run) (f h : ℕ) → r.height ≤ h
    → growth_after standing r ≤ growth_after standing (record { first = f; after = r.after; height = h })
after_higher standing r f h lower = grind (arith, nat_tests, lower)

-- products
mul_sum : (k a b : ℕ) → k * (a + b) ≡ k * a + k * b
mul_sum k a b = omega (arith, mul_comm k (a + b), mul_comm k a, mul_comm k b, add-mul a b k)

swapped : (k a b : ℕ) → k * a * b ≡ k * b * a
swapped k a b = mul_assoc k a b ∙ ap (λ x. k * x) (mul_comm a b) ∙ sym (mul_assoc k b a)

-- prices of a long row and a shorter one in it
cost_nested : (a b n d : ℕ) → a ≤ b → (d ≡ 0) ⊎ (2 ≤ b) → a * n + 2 * (n + d) ≤ b * (n + d) + 2 * n
cost_nested a b n d more (inl same) = omega (arith, mul-le-mul_right n more, mul_sum b n d, same)
cost_nested a b n d more (inr two) = omega (arith, mul-le-mul_right n more, mul_sum b n d, mul-le-mul_right d two)

cost_equal : (a b n d : ℕ) → 0 < n → a ≤ b → (d ≡ 0) ⊎ (2 ≤ b) → b * (n + d) + 2 * n ≤ a * n + 2 * (n + d)
    → (a ≡ b) × ((d ≡ 0) ⊎ (b ≡ 2))
cost_equal a b n d some more sides back =
    let few : 2 * d ≤ b * d = elim sides [
      | inl same ↦ omega (arith, same)
      | inr two ↦ mul-le-mul_right d two
    ] in
    let same : a ≡ b = elim (cases_lt a b) [
      | inl less ↦
          let next : (a + 1) * n ≤ b * n = mul-le-mul_right n (omega arith) in
          absurd (omega (arith, next, add-mul a 1 n, mul_sum b n d, back, few, some))
      | inr no_less ↦ omega (arith, no_less, more)
    ] in (
      same,
      elim (cases_lt 0 d) [
        | inl longer ↦ inr (elim (cases_lt 2 b) [
          | inl over ↦
              let three : 3 * d ≤ b * d = mul-le-mul_right d over in
              absurd (omega (arith, three, ap (λ x. x * n) same, mul_sum b n d, back, longer))
          | inr two ↦ elim sides [
            | inl none ↦ absurd (omega (arith, none, longer))
            | inr least ↦ omega (arith, two, least)
          ]
        ])
        | inr none ↦ inl (omega (arith, none))
      ],
    )

pub cost_on : (a b c n m k : ℕ) → 0 < m → a * m + 2 * n ≤ b * n + 2 * m → b * k + 2 * m ≤ c * m + 2 * k
    → a * k + 2 * n ≤ c * n + 2 * k
cost_on a b c n m k some first second =
    let one : (a * m + 2 * n) * k ≤ (b * n + 2 * m) * k = mul-le-mul_right k first in
    let two : (b * k + 2 * m) * n ≤ (c * m + 2 * k) * n = mul-le-mul_right n second in
    let all : (a * k + 2 * n) * m ≤ (c * n + 2 * k) * m = omega (
      arith,
      one,
      two,
      add-mul (a * m) (2 * n) k,
      add-mul (b * n) (2 * m) k,
      add-mul (b * k) (2 * m) n,
      add-mul (c * m) (2 * k) n,
      add-mul (a * k) (2 * n) m,
      add-mul (c * n) (2 * k) m,
      swapped a m k,
      swapped b n k,
      swapped c m n,
      swapped 2 n k,
      swapped 2 m k,
      swapped 2 m n,
    ) in
    le_of_mul-le-mul_left (omega (arith, all, mul_comm m (a * k + 2 * n), mul_comm m (c * n + 2 * k))) some

-- ranks
rank_le : (n b c f g x y : ℕ) → b ≤ 2 → c ≤ 2 → f ≤ g → y ≤ x → (f < g → b ≡ 2) → (y < x → c ≡ 2)
    → ((f ≡ g) × (x ≡ y)) ⊎ (b + c ≡ 2)
    → (if c == 1 then rank_at n b f else rank_at n c x) ≤ (if c == 1 then rank_at n b g else rank_at n c y)
rank_le n b zero f g x y few less first after before ended sides = elim (cases_lt y x) [
  | inl shorter ↦ absurd (omega (arith, ended shorter))
  | inr same ↦ omega (arith, same)
]
rank_le n zero (suc zero) f g x y few less first after before ended sides = omega arith
rank_le n (suc zero) (suc zero) f g x y few less first after before ended sides = omega arith
rank_le n (suc (suc zero)) (suc zero) f g x y few less first after before ended (inl same) = omega (arith, same)
rank_le n (suc (suc zero)) (suc zero) f g x y few less first after before ended (inr two) = absurd (omega (arith, two))
rank_le n (suc (suc (suc b))) (suc zero) f g x y few less first after before ended sides = absurd (omega (arith, few))
rank_le n b (suc (suc zero)) f g x y few less first after before ended sides = omega arith
rank_le n b (suc (suc (suc c))) f g x y few less first after before ended sides = absurd (omega (arith, less))

module _ (ws standing : List ℕ) (apart : AreApart ws standing) where
  before_later : (r s : Run) → IsRunOf ws r → IsRunOf ws s → r.height ≤ s.height → r.first ≤ s.first → s.after ≤ r.after
      → (growth_before standing r ≤ growth_before standing s) × (r.first < s.first → growth_before standing s ≡ 2)
  before_later r s run other lower first after =
      let shrunk : r.first < s.first → growth_before standing s ≡ 2 = λ less.
      let own = run.wish (s.first - 1) (omega arith) (omega (arith, other.some)) in
      before_low standing s (omega arith) (omega (arith, apart.1 (s.first - 1) (omega (arith, own)))) in (
        elim (cases_lt r.first s.first) [
          | inl less ↦ omega (arith, shrunk less, before_few standing r)
          | inr more ↦
              let same : r.first ≡ s.first = omega (arith, more, first) in
              let P : ℕ → Type 0 = λ n. growth_before standing r
              ≤ growth_before standing (record { first = n; after = s.after; height = s.height }) in
              subst P same (before_higher standing r s.after s.height lower)
        ],
        shrunk,
      )

  after_later : (r s : Run) → IsRunOf ws r → IsRunOf ws s → r.height ≤ s.height → r.first ≤ s.first → s.after ≤ r.after
      → (growth_after standing r ≤ growth_after standing s) × (s.after < r.after → growth_after standing s ≡ 2)
  after_later r s run other lower first after =
      let shrunk : s.after < r.after → growth_after standing s ≡ 2 = λ less.
      let own = run.wish s.after (omega (arith, other.some, first)) less in
      after_low standing s (omega (arith, less, within_list ws r run, apart.0))
      (omega (arith, apart.1 s.after (omega (arith, own)))) in (
        elim (cases_lt s.after r.after) [
          | inl less ↦ omega (arith, shrunk less, after_few standing r)
          | inr more ↦
              let same : r.after ≡ s.after = omega (arith, more, after) in
              let P : ℕ → Type 0 = λ n. growth_after standing r
              ≤ growth_after standing (record { first = s.first; after = n; height = s.height }) in
              subst P same (after_higher standing r s.first s.height lower)
        ],
        shrunk,
      )

  -- of two runs with a part in common the lower one comes first
  pub order_nested : (r s : Run) (i : ℕ) → IsRunOf ws r → IsRunOf ws s → IsIn r i → IsIn s i → r.height ≤ s.height
      → ComesNoLater standing r s
  order_nested r s i run other here there lower =
      let n = s.after - s.first in
      let d = (s.first - r.first) + (r.after - s.after) in
      let within = nested ws r s i run other here there lower in
      let long : run_length r ≡ n + d = omega (arith, within, other.some) in
      let left = before_later r s run other lower within.0 within.1 in
      let right = after_later r s run other lower within.0 within.1 in
      let sides : (d ≡ 0) ⊎ (2 ≤ growth standing s) = elim (cases_lt r.first s.first) [
        | inl less ↦ inr (omega (arith, left.1 less))
        | inr same ↦ elim (cases_lt s.after r.after) [
          | inl less ↦ inr (omega (arith, right.1 less))
          | inr none ↦ inl (omega (arith, same, none))
        ]
      ] in
      let P : ℕ → Type 0 = λ x. growth standing r * n + 2 * x ≤ growth standing s * x + 2 * n in
      let Q : ℕ → Type 0 = λ x. growth standing s * x + 2 * n ≤ growth standing r * n + 2 * x in (
        subst P (sym long) (cost_nested (growth standing r) (growth standing s) n d (omega (arith, left.0, right.0)) sides),
        λ back.
            let equal = cost_equal (growth standing r) (growth standing s) n d (omega (arith, other.some))
            (omega (arith, left.0, right.0)) sides (subst Q long back) in
            let b : growth_before standing r ≡ growth_before standing s = omega (arith, equal.0, left.0, right.0) in
            let c : growth_after standing r ≡ growth_after standing s = omega (arith, equal.0, left.0, right.0) in
            let R : ℕ → ℕ → Type 0 = λ x y. (if y == 1 then rank_at (length standing) x r.first
            else rank_at (length standing) y r.after) ≤ rank standing s in (
              subst (λ x. R x (growth_after standing r)) (sym b) (subst (R (growth_before standing s)) (sym c)
                  (rank_le (length standing) (growth_before standing s) (growth_after standing s) r.first s.first r.after s.after
                  (before_few standing s) (after_few standing s) within.0 within.1 left.1 right.1
                  (elim equal.1 [
                    | inl none ↦ inl (omega (arith, none, within), omega (arith, none, within))
                    | inr two ↦ inr two
                  ]))),
              λ _. lower,
            ),
      )
