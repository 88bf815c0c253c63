-- What is kept is the longest front that fits.
use Rattle.std.proofs.Common.{◌≡◌, ℕ, suc, zero, ◌-◌, ◌<◌, ◌≤◌, inl, inr, List, [], ◌∷◌, length, take, filter, refl, ap, arith}
use Rattle.std.proofs.Common.{sum_by}
use Rattle.std.proofs.lemmas.{Bool.cases_lt, Bool.Decides.nat_tests, List.Sums.sum_by-cons}
use Rattle.rtui_cell.specs.Width.{text_width}
use Rattle.rtui_buffer.specs.Painting.{has_painted_width, fitting, kept, IsLongestFront}

fitting-nil : (room : ℕ) → fitting room [] ≡ []
unfolding fitting
fitting-nil room = refl

fitting-take : (room : ℕ) (g : List ℕ) (gs : List (List ℕ)) → text_width g ≤ room
    → fitting room (g ∷ gs) ≡ g ∷ fitting (room - text_width g) gs
unfolding fitting
fitting-take room g gs le = grind (arith, nat_tests)

fitting-full : (room : ℕ) (g : List ℕ) (gs : List (List ℕ)) → room < text_width g → fitting room (g ∷ gs) ≡ []
unfolding fitting
fitting-full room g gs lt = grind (arith, nat_tests)

none-longer : (room : ℕ) (g : List ℕ) (gs : List (List ℕ)) → room < text_width g → (n : ℕ)
    → sum_by text_width (take n (g ∷ gs)) ≤ room → n ≤ 0
none-longer room g gs lt zero le = omega arith
none-longer room g gs lt (suc n) le = absurd (omega (arith, sum_by-cons text_width g (take n gs)))

one-longer : (room : ℕ) (g : List ℕ) (gs front : List (List ℕ)) → text_width g ≤ room
    → IsLongestFront (room - text_width g) gs front
    → (n : ℕ) → n ≤ length (g ∷ gs) → sum_by text_width (take n (g ∷ gs)) ≤ room → n ≤ length (g ∷ front)
one-longer room g gs front fits h zero le sum = omega arith
one-longer room g gs front fits h (suc n) le sum = let k : n ≤ length front = h.longest n (omega arith)
    (omega (arith, sum_by-cons text_width g (take n gs))) in omega arith

IsLongestFront-fitting : (gs : List (List ℕ)) (room : ℕ) → IsLongestFront room gs (fitting room gs)
IsLongestFront-fitting [] room = rw (fitting-nil room) (record { first = refl; fits = omega arith; longest = λ n le sum. le })
IsLongestFront-fitting (g ∷ gs) room =
    elim (cases_lt room (text_width g)) [
      | inl lt ↦ rw (fitting-full room g gs lt) (record {
        first = refl;
        fits = omega arith;
        longest = λ n le sum. none-longer room g gs lt n sum;
      })
      | inr le ↦
          let h = IsLongestFront-fitting gs (room - text_width g) in
          let fits = h.fits in
          rw (fitting-take room g gs le)
          (record {
            first = ap (λ hs. g ∷ hs) h.first;
            fits = omega (arith, sum_by-cons text_width g (fitting (room - text_width g) gs));
            longest = one-longer room g gs (fitting (room - text_width g) gs) le h;
          })
    ]

pub IsLongestFront-kept : (room : ℕ) (gs : List (List ℕ)) → IsLongestFront room (filter has_painted_width gs) (kept room gs)
unfolding kept
IsLongestFront-kept room gs = IsLongestFront-fitting (filter has_painted_width gs) room
