-- What the columns of a row hold after one more grapheme.
use Rattle.std.proofs.Common.{◌≡◌, ◌≢◌, ℕ, ◌+◌, ◌-◌, ◌<◌, ◌≤◌, ◌⊎◌, inl, inr, Bool, true, false, cond, List, [], ◌∷◌, ◌++◌}
use Rattle.std.proofs.Common.{length, length-append, refl, sym, ap, ◌∙◌, arith, ◌^◌, ◌==◌, ◌||◌, ◌&&◌, nat_lt, Some, None, Option}
use Rattle.std.specs.{List.concat, Int.RustNames.bit_and, Int.RustNames.bit_or}
use Rattle.std.proofs.lemmas.{Bool.cases_lt, Bool.cond_both, Bool.or_parts, Bool.or_right, List.Folds.concat-append}
use Rattle.std.proofs.lemmas.{Bool.Decides.nat_tests, List.append-nil}
use Rattle.std.proofs.lemmas.Nat.Bits.{same_from_bits, bit_at_and, bit_at_or}
use Rattle.std.proofs.Math.Bool.{or_assoc}
use Rattle.rtui_cell.specs.{declared.cell.Cell.Cell, Cell.empty_cell, Cell.styled, Width.text_width}
use Rattle.rtui_style.specs.{declared.Style.Style, declared.color.Color.Color, Style.color_after}
use Rattle.rtui_widgets.specs.Span.{goes_to, those_at, is_behind, with_graphemes, column_with}
use Rattle.rtui_widgets.specs.Inner.{with_appended, with_grapheme}

-- ---- the end of the graphemes

-- the column after these graphemes, where the first stands at x
unfoldable pub end_of_those : ℕ → List (List ℕ) → ℕ
end_of_those x [] = x
end_of_those x (g ∷ gs) = end_of_those (x + text_width g) gs

pub end-le : (x : ℕ) (gs : List (List ℕ)) → x ≤ end_of_those x gs
unfolding end_of_those
end-le x [] = omega arith
end-le x (g ∷ gs) = omega (arith, end-le (x + text_width g) gs)

pub end-append : (x : ℕ) (gs : List (List ℕ)) (g : List ℕ) → end_of_those x (gs ++ g ∷ []) ≡ end_of_those x gs + text_width g
unfolding end_of_those
end-append x [] g = refl
end-append x (h ∷ gs) g = end-append (x + text_width h) gs g

-- ---- one more grapheme

-- where column k gets it
abbrev pub here : ℕ → ℕ → List ℕ → List (List ℕ)
here k x g = cond (goes_to x g == k) (g ∷ []) []

abbrev pub hides : ℕ → ℕ → List ℕ → Bool
hides k x g = nat_lt x k && nat_lt k (x + text_width g)

cond-cons-append : (b : Bool) (h : List ℕ) (us vs ts : List (List ℕ)) → us ≡ vs ++ ts
    → cond b (h ∷ us) us ≡ cond b (h ∷ vs) vs ++ ts
cond-cons-append true h us vs ts e = ap (λ w. h ∷ w) e
cond-cons-append false h us vs ts e = e

-- what goes to a column, of a front of the graphemes and of the others
pub those_at-both : (k x : ℕ) (gs hs : List (List ℕ))
    → those_at k x (gs ++ hs) ≡ those_at k x gs ++ those_at k (end_of_those x gs) hs
unfolding those_at end_of_those
those_at-both k x [] hs = refl
those_at-both k x (g ∷ gs) hs = cond-cons-append (goes_to x g == k) g _ _ _ (those_at-both k (x + text_width g) gs hs)

pub those_at-append : (k x : ℕ) (gs : List (List ℕ)) (g : List ℕ)
    → those_at k x (gs ++ g ∷ []) ≡ those_at k x gs ++ here k (end_of_those x gs) g
unfolding those_at
those_at-append k x gs g = those_at-both k x gs (g ∷ [])

-- a front puts no longer text into a column than all of them
pub front-no_longer : (k : ℕ) (gs hs whole : List (List ℕ)) → gs ++ hs ≡ whole
    → length (concat (those_at k 0 gs)) ≤ length (concat (those_at k 0 whole))
front-no_longer k gs hs whole e =
    let both : length (concat (those_at k 0 whole)) ≡ length (concat (those_at k 0 gs)) + length
    (concat (those_at k (end_of_those 0 gs) hs)) =
    ap (λ w. length (concat (those_at k 0 w))) (sym e) ∙ ap (λ w. length (concat w)) (those_at-both k 0 gs hs)
    ∙ ap length (concat-append (those_at k 0 gs) (those_at k (end_of_those 0 gs) hs)) ∙ length-append (concat (those_at k 0 gs))
    (concat (those_at k (end_of_those 0 gs) hs)) in
    omega arith

pub is_behind-append : (k x : ℕ) (gs : List (List ℕ)) (g : List ℕ)
    → is_behind k x (gs ++ g ∷ []) ≡ (is_behind k x gs || hides k (end_of_those x gs) g)
unfolding is_behind end_of_those
is_behind-append k x [] g = grind (arith, nat_tests)
is_behind-append k x (h ∷ gs) g =
    ap (λ b. hides k x h || b) (is_behind-append k (x + text_width h) gs g)
    ∙ sym (or_assoc (hides k x h) (is_behind k (x + text_width h) gs) (hides k (end_of_those (x + text_width h) gs) g))

-- ---- what the graphemes before reach

pub those_at-far : (k x : ℕ) (gs : List (List ℕ)) → end_of_those x gs ≤ k → 0 < k → those_at k x gs ≡ []
unfolding those_at end_of_those
those_at-far k x [] le lt = refl
those_at-far k x (h ∷ gs) le lt =
    let reach = end-le (x + text_width h) gs in
    let other : (goes_to x h == k) ≡ false = grind (arith, nat_tests, reach) in
    rw other (those_at-far k (x + text_width h) gs le lt)

hides-none : (k x : ℕ) (g : List ℕ) → (k ≤ x) ⊎ (x + text_width g ≤ k) → hides k x g ≡ false
hides-none k x g h = grind (arith, nat_tests)

pub is_behind-far : (k x : ℕ) (gs : List (List ℕ)) → end_of_those x gs ≤ k → is_behind k x gs ≡ false
unfolding is_behind end_of_those
is_behind-far k x [] le = refl
is_behind-far k x (h ∷ gs) le =
    let reach = end-le (x + text_width h) gs in
    rw (hides-none k x h (inr (omega arith))) (is_behind-far k (x + text_width h) gs le)

goes-here : (k x : ℕ) (g : List ℕ) → x ≤ k → k < x + text_width g → hides k x g ≡ false → (goes_to x g == k) ≡ true
goes-here k x g le lt h = grind (arith, nat_tests)

-- a column that the graphemes reach is after one of them, or one goes there
pub reached : (k x : ℕ) (gs : List (List ℕ)) → x ≤ k → k < end_of_those x gs → is_behind k x gs ≡ false → those_at k x gs ≢ []
unfolding those_at is_behind end_of_those
reached k x [] le lt h = absurd (omega arith)
reached k x (g ∷ gs) le lt h =
    let parts = or_parts (hides k x g) (is_behind k (x + text_width g) gs) h in
    elim (cases_lt k (x + text_width g)) [
      | inl in_it ↦ rw (goes-here k x g le in_it parts.0) (λ e. cc)
      | inr past ↦ cond_both (goes_to x g == k) (g ∷ those_at k (x + text_width g) gs) _ (λ us. us ≢ []) (λ _ e. cc)
          (λ _. reached k (x + text_width g) gs past lt parts.1)
    ]

goes-first : (g : List ℕ) → (goes_to 0 g == 0) ≡ true
goes-first g = grind (arith, nat_tests)

-- the first grapheme goes to the first column
pub first_reached : (gs : List (List ℕ)) → gs ≢ [] → those_at 0 0 gs ≢ []
unfolding those_at
first_reached [] n = absurd (n refl)
first_reached (g ∷ gs) n = rw (goes-first g) (λ e. cc)

-- ---- a style laid twice

colour-twice : (s : Option Color) (c : Color) → color_after s (color_after s c) ≡ color_after s c
colour-twice None c = refl
colour-twice (Some d) c = refl

bits-twice : (m a n : ℕ) → bit_and (bit_or (bit_and (bit_or m a) n) a) n ≡ bit_and (bit_or m a) n
bits-twice m a n = same_from_bits _ _ (λ i. simp (bit_at_and, bit_at_or) (omega arith))

pub styled-twice : (s : Style) (c : Cell) (t : Option (List ℕ))
    → styled s (record (styled s c) { symbol = t }) ≡ styled s (record c { symbol = t })
styled-twice s c t = rw (
  colour-twice s.fg c.fg,
  colour-twice s.bg c.bg,
  colour-twice s.underline_color c.underline_color,
  bits-twice c.modifier.0 s.add_modifier.0 (2 ^ 16 - 1 - s.sub_modifier.0),
)

-- ---- the column that gets it

pub with_graphemes-more : (s : Style) (ts : List (List ℕ)) (g : List ℕ) (c : Cell) → (ts ≡ [] → c ≡ empty_cell)
    → with_graphemes s (ts ++ g ∷ []) c ≡ with_appended s g (with_graphemes s ts c)
with_graphemes-more s [] g c e =
    let none : c.symbol ≡ None = ap (λ d. d.symbol) (e refl) in
    rw (append-nil, none)
with_graphemes-more s (t ∷ ts) g c e =
    ap (λ w. styled s (record c { symbol = Some w })) (concat-append (t ∷ ts) (g ∷ []) ∙ ap (λ w. concat (t ∷ ts) ++ w)
    (append-nil g))
    ∙ sym (styled-twice s (record c { symbol = Some (concat (t ∷ ts)) }) (Some (concat (t ∷ ts) ++ g)))

or-none : (a b : Bool) → b ≡ false → (a || b) ≡ a
or-none true b h = refl
or-none false b h = h

symbol-joined : (s : Style) (ts : List (List ℕ)) (g : List ℕ) (c : Cell)
    → (with_graphemes s (ts ++ g ∷ []) c).symbol ≡ Some (concat (ts ++ g ∷ []))
symbol-joined s [] g c = refl
symbol-joined s (t ∷ ts) g c = refl

-- ---- each column after one more grapheme, which stands at x

module _ (s : Style) (gs : List (List ℕ)) (g : List ℕ) (x k : ℕ) (c : Cell) (ends : x ≡ end_of_those 0 gs) where
  -- after it
  pub column-behind : x < k → k < x + text_width g → column_with s (gs ++ g ∷ []) k c ≡ empty_cell
  column-behind lt lt2 =
      let far = those_at-far k 0 gs (omega arith) (omega arith) in
      let no : (goes_to (end_of_those 0 gs) g == k) ≡ false = grind (arith, nat_tests, ends, lt, lt2) in
      let yes : hides k (end_of_those 0 gs) g ≡ true = grind (arith, nat_tests, ends, lt, lt2) in
      let hidden : (is_behind k 0 gs || hides k (end_of_those 0 gs) g) ≡ true = or_right (is_behind k 0 gs)
      (hides k (end_of_those 0 gs) g) yes in
      rw (those_at-append, is_behind-append, far, no, hidden)

  -- neither its own nor after it
  pub column-other : k ≢ goes_to x g → (k ≤ x) ⊎ (x + text_width g ≤ k) → column_with s (gs ++ g ∷ []) k c ≡ column_with s gs k c
  column-other ne h =
      let no : (goes_to (end_of_those 0 gs) g == k) ≡ false = grind (arith, nat_tests, ends, ne) in
      let open_ : hides k (end_of_those 0 gs) g ≡ false = rw (← ends) (hides-none k x g h) in
      let same : (is_behind k 0 gs || hides k (end_of_those 0 gs) g) ≡ is_behind k 0 gs = or-none (is_behind k 0 gs)
      (hides k (end_of_those 0 gs) g) open_ in
      rw (those_at-append, is_behind-append, no, same, append-nil)

  -- its own
  column-here : k ≡ goes_to x g → column_with s (gs ++ g ∷ []) k c ≡ with_graphemes s (those_at k 0 gs ++ g ∷ [])
      (cond (is_behind k 0 gs) empty_cell c)
  column-here is =
      let yes : (goes_to (end_of_those 0 gs) g == k) ≡ true = grind (arith, nat_tests, ends, is) in
      let le : k ≤ x = grind (arith, nat_tests, is) in
      let open_ : hides k (end_of_those 0 gs) g ≡ false = rw (← ends) (hides-none k x g (inl le)) in
      let same : (is_behind k 0 gs || hides k (end_of_those 0 gs) g) ≡ is_behind k 0 gs = or-none (is_behind k 0 gs)
      (hides k (end_of_those 0 gs) g) open_ in
      rw (those_at-append, is_behind-append, yes, same)

  -- the symbol of its own
  pub symbol-here : k ≡ goes_to x g → (column_with s (gs ++ g ∷ []) k c).symbol ≡ Some (concat (those_at k 0 (gs ++ g ∷ [])))
  symbol-here is =
      let yes : (goes_to (end_of_those 0 gs) g == k) ≡ true = grind (arith, nat_tests, ends, is) in
      let more : those_at k 0 (gs ++ g ∷ []) ≡ those_at k 0 gs ++ g ∷ [] = rw (those_at-append, yes) in
      rw more (symbol-joined s (those_at k 0 gs) g _)

  -- its own, where the graphemes before don't reach
  pub column-set : k ≡ goes_to x g → those_at k 0 gs ≡ [] → is_behind k 0 gs ≡ false
      → column_with s (gs ++ g ∷ []) k c ≡ with_grapheme s g (column_with s gs k c)
  column-set is none open_ =
      column-here is ∙ rw (none, open_, append-nil) refl

  -- its own, where they do
  pub column-append : k ≡ goes_to x g → (is_behind k 0 gs ≡ false → those_at k 0 gs ≢ [])
      → column_with s (gs ++ g ∷ []) k c ≡ with_appended s g (column_with s gs k c)
  column-append is reach =
      column-here is ∙ with_graphemes-more s (those_at k 0 gs) g (cond (is_behind k 0 gs) empty_cell c)
      (λ none. cond_both (is_behind k 0 gs) empty_cell c (λ d. d ≡ empty_cell) (λ _. refl) (λ open_. absurd (reach open_ none)))
