-- The walk in steps of a whole cell, as the code takes them.
use Rattle.std.proofs.Common.{◌≡◌, ℕ, zero, suc, ◌+◌, ◌-◌, ◌<◌, ◌≤◌, Bool, false, List, [], refl, sym, ap, ◌∙◌, arith, max}
use Rattle.std.proofs.lemmas.Bool.{false≢true}
use Rattle.rtui_cell.specs.{declared.cell.Cell.Cell, Cell.width_of}
use Rattle.rtui_diff.specs.{Cells.cell, Remaining.updates_left, declared.diff.DiffWalk.DiffWalk}
use Rattle.rtui_diff.specs.DiffRule.{start, gives_other, gives_visited, step_other, give, given}
use Rattle.rtui_diff.proofs.WalkLemmas.{step_cases}

-- what is left, with its numbers written otherwise
given-same : (ps ns : List Cell) (k k' l l' i i' : ℕ) (force : Bool) → k ≡ k' → l ≡ l' → i ≡ i' →
    given ps ns k (record { over = 0; left = l; force = force }) i ≡ given ps ns k' (record {
      over = 0;
      left = l';
      force = force;
    }) i'
given-same ps ns k k' l l' i i' force a b c = rw (a, b, c) refl

-- columns that are stepped over give nothing
given-over : (ps ns : List Cell) (k over left : ℕ) (force : Bool) (i : ℕ) →
    given ps ns k (record { over = over; left = left; force = force }) i ≡ given ps ns (k - over)
    (record { over = 0; left = left - over; force = force }) (i + over)
unfolding given
given-over ps ns k zero left force i = given-same ps ns k (k - 0) left (left - 0) i (i + 0) force (omega arith) (omega arith)
    (omega arith)
given-over ps ns zero (suc over) left force i = let a : 0 - suc over ≡ 0 = omega arith in rw a refl
given-over ps ns (suc k) (suc over) left force i = given-over ps ns k over (left - 1) force (i + 1)
    ∙ given-same ps ns (k - over) (suc k - suc over) (left - 1 - over) (left - suc over) (i + 1 + over)
    (i + suc over) force (omega arith) (omega arith) (omega arith)

-- a place in a visited range
pub given-visited : (ps ns : List Cell) (len at end to : ℕ) (force g : Bool) (p n : Cell) → at < len → at < end
    → g ≡ gives_visited force p n →
    p ≡ cell ps at → n ≡ cell ns at → to ≡ at + max (width_of n) 1 →
    given ps ns (len - at) (record { over = 0; left = end - at; force = force }) at ≡ give g at (given ps ns (len - to)
    (record { over = 0; left = end - to; force = force }) to)
unfolding given
given-visited ps ns len at end to force g p n lt visited is former here e =
    let w : width_of n ≡ width_of (cell ns at) = ap width_of here in
    rw (is, former, here)
    (given-same ps ns (len - at) (suc (len - at - 1)) (end - at) (suc (end - at - 1)) at at force (omega arith) (omega arith) refl
    ∙ ap (give (gives_visited force (cell ps at) (cell ns at)) at) (given-over ps ns (len - at - 1) (width_of (cell ns at) - 1)
    (end - at - 1) force (at + 1)
    ∙ given-same ps ns (len - at - 1 - (width_of (cell ns at) - 1)) (len - to) (end - at - 1 - (width_of (cell ns at) - 1))
    (end - to) (at + 1 + (width_of (cell ns at) - 1)) to force
    (omega arith) (omega arith) (omega arith)))

-- any other place
pub given-plain : (ps ns : List Cell) (len at end over left : ℕ) (force g f : Bool) (p n : Cell) → at < len → end ≤ at
    → g ≡ gives_other p n →
    record { over = over; left = left; force = f } ≡ step_other p n → p ≡ cell ps at → n ≡ cell ns at →
    given ps ns (len - at) (record { over = 0; left = end - at; force = force }) at
    ≡ give g at (given ps ns (len - (at + 1 + over)) (record { over = 0; left = at + 1 + left - (at + 1 + over); force = f })
    (at + 1 + over))
unfolding given
given-plain ps ns len at end over left force g f p n lt past is turns former here =
    rw (is, former, here)
    (given-same ps ns (len - at) (suc (len - at - 1)) (end - at) 0 at at force (omega arith) (omega arith) refl
    ∙ ap (λ t. give (gives_other (cell ps at) (cell ns at)) at (given ps ns (len - at - 1) t (at + 1)))
    (sym (turns ∙ rw (former, here) refl))
    ∙ ap (give (gives_other (cell ps at) (cell ns at)) at) (given-over ps ns (len - at - 1) over left f (at + 1)
    ∙ given-same ps ns (len - at - 1 - over) (len - (at + 1 + over)) (left - over) (at + 1 + left - (at + 1 + over))
    (at + 1 + over) (at + 1 + over) f (omega arith) (omega arith) refl))

-- nothing follows a cell of one column if there was one of one column
narrow_step : (p n : Cell) → width_of p ≡ 1 → width_of n ≡ 1 → start ≡ step_other p n
narrow_step p n former narrow =
    sym (step_cases (λ s. s ≡ start) p n (λ _. refl) (λ _. rw narrow refl) (λ _ _ _ _ _. rw narrow refl)
    (λ _ _ _ wider. absurd (false≢true (rw (former, narrow) at wider))) (λ _ _. refl))

-- whether cells are forced is of no account outside a visited range
given-unvisited : (ps ns : List Cell) (k : ℕ) (force other : Bool) (i : ℕ) →
    given ps ns k (record { over = 0; left = 0; force = force }) i ≡ given ps ns k (record {
      over = 0;
      left = 0;
      force = other;
    }) i
unfolding given
given-unvisited ps ns zero force other i = refl
given-unvisited ps ns (suc k) force other i = refl

pub given-narrow : (ps ns : List Cell) (len at end : ℕ) (force g : Bool) (p n : Cell) → at < len → end ≤ at → g ≡ gives_other p n
    → width_of p ≡ 1 → width_of n ≡ 1 →
    p ≡ cell ps at → n ≡ cell ns at →
    given ps ns (len - at) (record { over = 0; left = end - at; force = force }) at
    ≡ give g at (given ps ns (len - (at + 1)) (record { over = 0; left = end - (at + 1); force = force }) (at + 1))
given-narrow ps ns len at end force g p n lt past is narrow_p narrow_n former here =
    given-plain ps ns len at end 0 0 force g false p n lt past is (narrow_step p n narrow_p narrow_n) former here
    ∙ ap (give g at) (given-same ps ns (len - (at + 1 + 0)) (len - (at + 1)) (at + 1 + 0 - (at + 1 + 0)) 0 (at + 1 + 0)
    (at + 1) false (omega arith) (omega arith) (omega arith)
    ∙ given-unvisited ps ns (len - (at + 1)) false force (at + 1)
    ∙ given-same ps ns (len - (at + 1)) (len - (at + 1)) 0 (end - (at + 1)) (at + 1) (at + 1) force refl (omega arith) refl)

pub places-none : (d : DiffWalk) → d.len ≤ d.pos → updates_left d ≡ []
unfolding given
places-none d past = let a : d.len - d.pos ≡ 0 = omega arith in rw a refl
