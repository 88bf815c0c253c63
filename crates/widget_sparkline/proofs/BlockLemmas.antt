-- Blocks of cells: what is made of one cell, of one block after another, and of a buffer by them.
use Rattle.std.proofs.Common.{◌≡◌, ◌≢◌, ℕ, ◌+◌, ◌-◌, ◌*◌, ◌<◌, ◌≤◌, ◌⊎◌, ⊎_elim, inl, inr, List, length, set, drop}
use Rattle.std.proofs.Common.{refl, ap, ◌∙◌, arith, min, max, get_or, Result, Ok, Err, OnOk, OnErr, IsOk, true, false}
use Rattle.std.specs.declared.alloc.AllocError.{AllocError}
use Rattle.std.proofs.lemmas.{Bool.cases_lt, Bool.false≢true, List.get_or-set_other, List.get_or-set_same, List.length-set, List.take_at}
use Rattle.std.proofs.lemmas.{List.get_or_read_under}
use Rattle.std.proofs.Math.Nat.{mul-le-mul_right}
use Rattle.ratatui_core.specs.Layout.{Rect, Position, HasPosition, intersected, right_edge, bottom_edge}
use Rattle.ratatui_core.specs.Buffer.{BufferData, Cell, cell, cell_at, cell_in, empty_cell, area_size, with_cells, ChangesEach}
use Rattle.ratatui_core.specs.Widgets.{ChangesWithin}
use Rattle.rtui_drawing.specs.Drawings.{IsDone, put_change}
use Rattle.widget_sparkline.specs.{declared.fill.Block.Block}
use Rattle.widget_sparkline.specs.Inner.{IsOfBlock, KeepsAround, MakesBlock, IsBlockIn, block_of}

-- a row ends before each later one begins
row-ends : (w b r : ℕ) → b < r → b * w + w ≤ r * w
row-ends w b r up = let e : (b + 1) * w ≤ r * w = mul-le-mul_right w (omega arith) in omega arith

-- places in other columns or rows are other places
places-apart : (w a b c r : ℕ) → a < w → c < w → (a ≡ c → b ≡ r → ⊥) → b * w + a ≢ r * w + c
places-apart w a b c r la lc other e =
    ⊎_elim
    (λ (up : b < r). let q = row-ends w b r up in omega arith)
    (λ (from : r ≤ b).
    ⊎_elim
    (λ (down : r < b). let q = row-ends w r b down in omega arith)
    (λ (to : b ≤ r). let same : b ≡ r = omega arith in let e2 = rw same at e in other (omega arith) same)
    (cases_lt r b))
    (cases_lt b r)

module _ (w : ℕ) where
  keeps-then : (j k l : Block) (old mid new : List Cell) → ((a b : ℕ) → IsOfBlock j a b → IsOfBlock l a b)
      → ((a b : ℕ) → IsOfBlock k a b → IsOfBlock l a b) → KeepsAround w j old mid → KeepsAround w k mid new
      → KeepsAround w l old new
  keeps-then j k l old mid new in1 in2 first second = record {
    count = second.count ∙ first.count;
    outside = λ a b lt off. second.outside a b lt (λ h. off (in2 a b h)) ∙ first.outside a b lt (λ h. off (in1 a b h));
  }

  module _ (f : ℕ → Cell → Cell) where
    makes-join : (j k l : Block) (old mid new : List Cell) → MakesBlock w j f old mid → MakesBlock w k f mid new
        → ((a b : ℕ) → IsOfBlock l a b → IsOfBlock j a b ⊎ IsOfBlock k a b) → ((a b : ℕ) → IsOfBlock j a b → IsOfBlock l a b)
        → ((a b : ℕ) → IsOfBlock k a b → IsOfBlock l a b) → ((a b : ℕ) → IsOfBlock j a b → IsOfBlock k a b → ⊥)
        → MakesBlock w l f old new
    makes-join j k l old mid new first second split in1 in2 apart = record {
      inside = λ a b lt here.
          ⊎_elim
          (λ (one : IsOfBlock j a b). second.around.outside a b lt (λ two. apart a b one two) ∙ first.inside a b lt one)
          (λ (two : IsOfBlock k a b). second.inside a b lt two ∙ ap (f b) (first.around.outside a b lt (λ one. apart a b one two)))
          (split a b here);
      around = keeps-then j k l old mid new in1 in2 first.around second.around;
    }

    makes-cell : (c r : ℕ) (s : List Cell) (v : Cell) → c < w → r * w + c < length s → v ≡ f r (cell_at w s c r)
        → MakesBlock w (record { left = c; right = c + 1; top = r; bottom = r + 1 }) f s (set s (r * w + c) v)
    makes-cell c r s v lc inside is = record {
      inside = λ a b lt h.
          let l = h.left in let r' = h.right in let t = h.top in let b' = h.bottom in
          let ea : a ≡ c = omega arith in let eb : b ≡ r = omega arith in
          rw (ea, eb) (get_or-set_same s (r * w + c) v empty_cell inside ∙ is);
      around = record {
        count = length-set s (r * w + c) v;
        outside = λ a b lt off. get_or-set_other s (r * w + c) (b * w + a) v empty_cell
            (places-apart w a b c r lt lc
            (λ ea eb. off (record { left = omega arith; right = omega arith; top = omega arith; bottom = omega arith })));
      };
    }

    -- the next row of a column
    makes-row : (c top r : ℕ) (old mid new : List Cell) → top ≤ r
        → MakesBlock w (record { left = c; right = c + 1; top = top; bottom = r }) f old mid
        → MakesBlock w (record { left = c; right = c + 1; top = r; bottom = r + 1 }) f mid new
        → MakesBlock w (record { left = c; right = c + 1; top = top; bottom = r + 1 }) f old new
    makes-row c top r old mid new from first second = makes-join _ _ _ old mid new first second
        (λ a b h. let l = h.left in let r' = h.right in let t = h.top in let b' = h.bottom in
        ⊎_elim
        (λ (up : b < r). inl (record { left = l; right = r'; top = t; bottom = up }))
        (λ (at : r ≤ b). inr (record { left = l; right = r'; top = at; bottom = b' }))
        (cases_lt b r))
        (λ a b h. let b' = h.bottom in record { left = h.left; right = h.right; top = h.top; bottom = omega arith })
        (λ a b h. let t = h.top in record { left = h.left; right = h.right; top = omega arith; bottom = h.bottom })
        (λ a b one two. let b' = one.bottom in let t = two.top in omega arith)

    -- a cell more of a column
    pub next-cell : (c top r : ℕ) (old now : List Cell) (lent v : Cell) → top ≤ r → c < w → r * w + w ≤ length old
        → lent ≡ get_or now (r * w + c) lent → v ≡ f r lent
        → MakesBlock w (record { left = c; right = c + 1; top = top; bottom = r }) f old now
        → MakesBlock w (record { left = c; right = c + 1; top = top; bottom = r + 1 }) f old (set now (r * w + c) v)
    next-cell c top r old now lent v from column row read made before =
        let count = before.around.count in
        let inside : r * w + c < length now = omega arith in
        makes-row c top r old now (set now (r * w + c) v) from before
        (makes-cell c r now v column inside
        (made ∙ ap (f r) (get_or_read_under now (r * w + c) (length now) lent empty_cell read inside refl)))

-- ---- the cells of a buffer

module _ (area part : Rect) (old : BufferData) (value : part ≡ intersected old.area area) where
  abbrev own : Rect
  own = old.area

  abbrev part_is : (part.x ≡ max own.x area.x) × (part.y ≡ max own.y area.y)
      × (part.width ≡ min (right_edge own) (right_edge area) - max own.x area.x)
      × (part.height ≡ min (bottom_edge own) (bottom_edge area) - max own.y area.y)
  part_is = (ap (λ r. r.x) value, ap (λ r. r.y) value, ap (λ r. r.width) value, ap (λ r. r.height) value)

  -- a position of the area is a place of the block, and the other way round
  place-of : (p : Position) → HasPosition own p → HasPosition area p → IsOfBlock (block_of part own) (p.x - own.x) (p.y - own.y)
  place-of p in_own here =
      let x = part_is.0 in let y = part_is.1 in let w = part_is.2 in let h = part_is.3 in
      let l1 = here.left in let r1 = here.right in let t1 = here.top in let b1 = here.bottom in
      let l2 = in_own.left in let r2 = in_own.right in let t2 = in_own.top in let b2 = in_own.bottom in
      record { left = omega arith; right = omega arith; top = omega arith; bottom = omega arith }

  position-of : (p : Position) → HasPosition own p → IsOfBlock (block_of part own) (p.x - own.x) (p.y - own.y) → HasPosition area p
  position-of p in_own here =
      let x = part_is.0 in let y = part_is.1 in let w = part_is.2 in let h = part_is.3 in
      let l1 = here.left in let r1 = here.right in let t1 = here.top in let b1 = here.bottom in
      let l2 = in_own.left in let r2 = in_own.right in let t2 = in_own.top in let b2 = in_own.bottom in
      record { left = omega arith; right = omega arith; top = omega arith; bottom = omega arith }

  block-inside : (((part.width ≡ 0) ⊎ (part.height ≡ 0)) → false ≡ true) → length old.cells ≡ area_size own
      → IsBlockIn own.width (block_of part own) old.cells
  block-inside some count =
      let columns : part.width ≢ 0 = λ e. false≢true (some (inl e)) in
      let rows : part.height ≢ 0 = λ e. false≢true (some (inr e)) in
      let x = part_is.0 in let y = part_is.1 in let w = part_is.2 in let h = part_is.3 in
      record {
        ordered = omega arith;
        upright = omega arith;
        columns = omega arith;
        rows = λ b lt. let e = row-ends own.width b own.height (omega arith) in omega arith;
      }

  module _ (cells : List Cell) where
    abbrev new : BufferData
    new = with_cells old cells

    new-is : length cells ≡ length old.cells → (with_cells old cells).cells ≡ cells
    new-is same = take_at cells (drop (length cells) old.cells) (length old.cells) same

    column-in : (p : Position) → HasPosition own p → p.x - own.x < own.width
    column-in p in_own = let l = in_own.left in let r = in_own.right in omega arith

    block-outside : KeepsAround own.width (block_of part own) old.cells cells → (p : Position) → HasPosition own p
        → ¬ (HasPosition area p) → cell_in new p ≡ cell_in old p
    block-outside keeps p in_own off = rw (new-is keeps.count) (keeps.outside (p.x - own.x) (p.y - own.y) (column-in p in_own)
        (λ h. off (position-of p in_own h)))

    block-within : KeepsAround own.width (block_of part own) old.cells cells → ChangesWithin area old new
    block-within keeps = record { same_area = refl; same_room = refl; outside = block-outside keeps }

    block-changes : (f : ℕ → Cell → Cell) (g : Position → Cell → Cell)
        → ((p : Position) → HasPosition own p → HasPosition area p → IsOfBlock (block_of part own) (p.x - own.x) (p.y - own.y)
        → (c : Cell) → f (p.y - own.y) c ≡ g p c)
        → MakesBlock own.width (block_of part own) f old.cells cells → ChangesEach area g old new
    block-changes f g by is = record {
      area = refl;
      room = refl;
      inside = λ p in_own here. rw (new-is is.around.count) (is.inside (p.x - own.x) (p.y - own.y) (column-in p in_own)
          (place-of p in_own here) ∙ by p in_own here (place-of p in_own here) (cell_in old p));
      outside = block-outside is.around;
    }

    block-done : {A : Type 0} (r : Result A AllocError) (P : Type 0) (f : ℕ → Cell → Cell) (g : Position → Cell → Cell)
        → ((p : Position) → HasPosition own p → HasPosition area p → IsOfBlock (block_of part own) (p.x - own.x) (p.y - own.y)
        → (c : Cell) → f (p.y - own.y) c ≡ g p c)
        → OnOk r (MakesBlock own.width (block_of part own) f old.cells cells)
        → OnErr r (KeepsAround own.width (block_of part own) old.cells cells) → (P → IsOk r)
        → IsDone (put_change g (λ _ _. P)) area r old new
    block-done (Ok x) P f g by made _ _ = record { ok = block-changes f g by made; err = tt }
    block-done (Err e) P f g by _ keeps short = record {
      ok = tt;
      err = record {
        within = block-within keeps;
        left = tt;
        long = λ all. let no : false ≡ true = short (all (record { x = 0; y = 0 }) empty_cell) in absurd (cc);
      };
    }

-- the same by what the code calls these things
module _ (s : BufferData) (area own part : Rect) (w : ℕ) (k : Block) (cells : List Cell) (own_is : own ≡ s.area)
    (part_of : part ≡ intersected own area) (wide : w ≡ own.width) (block : k ≡ block_of part own) (lent : cells ≡ s.cells) where
  pub block-ready : (((part.width ≡ 0) ⊎ (part.height ≡ 0)) → false ≡ true) → length s.cells ≡ area_size s.area
      → IsBlockIn w k cells
  block-ready some count = rw (wide, block, lent, own_is) (block-inside area part s
      (part_of ∙ ap (λ q. intersected q area) own_is) some count)

  pub block-drawn : {A : Type 0} (r : Result A AllocError) (P : Type 0) (f : ℕ → Cell → Cell) (g : Position → Cell → Cell)
      (new : List Cell)
      → ((p : Position) → HasPosition s.area p → HasPosition area p → IsOfBlock k (p.x - s.area.x) (p.y - s.area.y)
      → (c : Cell) → f (p.y - s.area.y) c ≡ g p c)
      → OnOk r (MakesBlock w k f cells new) → OnErr r (KeepsAround w k cells new) → (P → IsOk r)
      → IsDone (put_change g (λ _ _. P)) area r s (with_cells s new)
  block-drawn r P f g new by ok err short =
      block-done area part s (part_of ∙ ap (λ q. intersected q area) own_is) new r P f g
      (λ p in_own here place c. by p in_own here (rw (block, own_is) place) c)
      (rw (wide, block, lent, own_is) at ok) (rw (wide, block, lent, own_is) at err) short
