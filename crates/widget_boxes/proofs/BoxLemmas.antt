-- Strokes over the cells of an area, one after the other.
use Rattle.std.proofs.Common.{◌≡◌, ℕ, ◌-◌, ◌⊎◌, ⊎_elim, inl, inr, Bool, true, false, if◌then◌else◌, List, [], ◌∷◌, ◌++◌, refl}
use Rattle.std.proofs.Common.{sym, ap, subst, ◌∙◌, arith, min, Result, Ok, Err, OnOk, OnErr, IsOk, IsErr}
use Rattle.std.specs.declared.alloc.AllocError.{AllocError}
use Rattle.ratatui_core.specs.Layout.{Rect, Position, HasPosition, has_position, right_edge, bottom_edge, IsInside}
use Rattle.ratatui_core.specs.Buffer.{BufferData, Cell, cell_in, joined, IsShort}
use Rattle.ratatui_core.specs.{Widgets.ChangesWithin, Buffer.ChangesEach, Buffer.AreLight, Buffer.MakesEach, Layout.intersected}
use Rattle.ratatui_core.specs.{Buffer.IsStyled, Buffer.styled}
use Rattle.widget_boxes.specs.{declared.block.Block.Block, Titles.RendersTitles, declared.title.TitlePosition.TitlePosition}
use Rattle.ratatui_core.specs.Widgets.{IsClipped}
use Rattle.ratatui_core.proofs.WidgetLemmas.{within-styled, within-then, OnPart-none, OnPart-clipped}
use Rattle.widget_boxes.specs.declared.title.TitlePosition.TheVariants.{Top, Bottom}
use Rattle.widget_boxes.specs.Boxes.{Stroke, stroke, strokes, strikes, stroked, drawn, IsShortUnder, IsBoxArea}
use Rattle.widget_boxes.specs.Inner.{DrawsStrokes}
use Rattle.widget_boxes.specs.Boxes.{titles_area, has_title, IsOffTitles, box_cell, placed_titles, RendersTitled}
use Rattle.widget_boxes.specs.Inner.{KeepsOffTitles}
use Rattle.widget_boxes.specs.Boxes.{RendersBlock, IsShortBlock}
use Rattle.ratatui_core.proofs.BufferLemmas.{Changes-within, within-same, within-wider, on-ok}
use Rattle.ratatui_core.proofs.BufferLemmas.{decide_position, position-true, position-false}

-- a change over a part, at each position
module _ (r : Rect) (f : Position → Cell → Cell) (old new : BufferData) (is : ChangesEach r f old new) (p : Position)
    (in_own : HasPosition old.area p) where
  pub changed-at : cell_in new p ≡ (if has_position r p then f p (cell_in old p) else cell_in old p)
  changed-at = elim (decide_position r p) [
    | inl (has, e) ↦ rw e (is.inside p in_own has)
    | inr (off, e) ↦ rw e (is.outside p in_own off)
  ]

pub draws-one : {A : Type 0} (b : Block) (area part : Rect) (symbol : List ℕ) (is_drawn : Bool) (r : Result A AllocError)
    (old new : BufferData) → is_drawn ≡ true → IsInside part area
    → OnOk r (ChangesEach part (λ _. drawn b.merge_borders b.border_style symbol) old new) → OnErr r (ChangesWithin part old new)
    → (AreLight (λ _ c. IsShort (joined b.merge_borders c.symbol symbol)) part old → IsOk r)
    → DrawsStrokes b area (stroke is_drawn part symbol ∷ []) r old new
draws-one b area part symbol is_drawn (Ok x) old new e inside ok err short = rw e (record {
  within = Changes-within part area (λ _. drawn b.merge_borders b.border_style symbol) old new inside ok;
  ok = record {
    area = ok.area;
    room = ok.room;
    at = λ p in_own. changed-at part (λ _. drawn b.merge_borders b.border_style symbol) old new ok p in_own;
  };
  short = λ _. refl;
})
draws-one b area part symbol is_drawn (Err x) old new e inside ok err short = rw e (record {
  within = within-wider part area old new inside err;
  ok = tt;
  short = λ all. short (λ p in_own here. (all p in_own).0 (position-true part p here));
})

stroked-append : (b : Block) (ss ts : List Stroke) (p : Position) (c : Cell)
    → stroked b (ss ++ ts) p c ≡ stroked b ts p (stroked b ss p c)
stroked-append b [] ts p c = refl
stroked-append b (s ∷ ss) ts p c =
    stroked-append b ss ts p (if strikes s p then drawn b.merge_borders b.border_style s.symbol c else c)

short-append : (b : Block) (ss ts : List Stroke) (p : Position) (c : Cell) → IsShortUnder b (ss ++ ts) p c
    → IsShortUnder b ss p c × IsShortUnder b ts p (stroked b ss p c)
short-append b [] ts p c h = (tt, h)
short-append b (s ∷ ss) ts p c h =
    let more = short-append b ss ts p (if strikes s p then drawn b.merge_borders b.border_style s.symbol c else c) h.1 in
    ((h.0, more.0), more.1)

each-then : (b : Block) (ss ts : List Stroke) (old mid new : BufferData) → MakesEach (stroked b ss) old mid
    → MakesEach (stroked b ts) mid new → MakesEach (stroked b (ss ++ ts)) old new
each-then b ss ts old mid new first made = record {
  area = made.area ∙ first.area;
  room = made.room ∙ first.room;
  at = λ p in_own.
      made.at p (rw first.area in_own) ∙ ap (stroked b ts p) (first.at p in_own) ∙ sym (stroked-append b ss ts p (cell_in old p));
}

-- more strokes after those that were drawn
module _ {A B : Type 0} (b : Block) (area : Rect) (ss ts : List Stroke) where
  pub draws-then : (x : A) (r : Result B AllocError) (old mid new : BufferData) → DrawsStrokes b area ss (Ok x) old mid
      → DrawsStrokes b area ts r mid new → DrawsStrokes b area (ss ++ ts) r old new
  draws-then x r old mid new first second = record {
    within = within-then area old mid new first.within second.within;
    ok = on-ok r
        (each-then b ss ts old mid new first.ok)
        second.ok;
    short = λ all. second.short (λ p in_mid.
        let in_own : HasPosition old.area p = subst (λ q. HasPosition q p) first.ok.area in_mid in
        rw (first.ok.at p in_own) (short-append b ss ts p (cell_in old p) (all p in_own)).1);
  }

  pub draws-refused : (x : AllocError) (r : Result B AllocError) (old new : BufferData) → IsErr r
      → DrawsStrokes {A = A} b area ss (Err x) old new → DrawsStrokes b area (ss ++ ts) r old new
  draws-refused x (Ok y) old new is first = let no : false ≡ true = is in absurd (cc)
  draws-refused x (Err y) old new is first = record {
    within = first.within;
    ok = tt;
    short = λ all. first.short (λ p in_own. (short-append b ss ts p (cell_in old p) (all p in_own)).0);
  }

-- four strokes, as far as memory goes
module _ (b : Block) (area : Rect) (s1 s2 s3 s4 : Stroke) (all : List Stroke) (is_all : s1 ∷ (s2 ∷ (s3 ∷ (s4 ∷ []))) ≡ all) where
  pub draws-first : {A B : Type 0} (x : AllocError) (r : Result B AllocError) (old new : BufferData)
      → DrawsStrokes {A = A} b area (s1 ∷ []) (Err x) old new → IsErr r → DrawsStrokes b area all r old new
  draws-first x r old new d1 is = subst (λ ss. DrawsStrokes b area ss r old new) is_all (draws-refused b area (s1 ∷ [])
      (s2 ∷ (s3 ∷ (s4 ∷ []))) x r old new is d1)

  pub draws-two : {A B : Type 0} (x1 : A) (x : AllocError) (r : Result B AllocError) (old one new : BufferData)
      → DrawsStrokes b area (s1 ∷ []) (Ok x1) old one → DrawsStrokes {A = A} b area (s2 ∷ []) (Err x) one new → IsErr r
      → DrawsStrokes b area all r old new
  draws-two x1 x r old one new d1 d2 is =
      subst (λ ss. DrawsStrokes b area ss r old new) is_all
      (draws-refused b area (s1 ∷ (s2 ∷ [])) (s3 ∷ (s4 ∷ [])) x r old new is (draws-then b area (s1 ∷ [])
      (s2 ∷ []) x1 (Err x) old one new d1 d2))

  pub draws-three : {A B : Type 0} (x1 x2 : A) (x : AllocError) (r : Result B AllocError) (old one two new : BufferData)
      → DrawsStrokes b area (s1 ∷ []) (Ok x1) old one → DrawsStrokes b area (s2 ∷ []) (Ok x2) one two
      → DrawsStrokes {A = A} b area (s3 ∷ []) (Err x) two new → IsErr r → DrawsStrokes b area all r old new
  draws-three x1 x2 x r old one two new d1 d2 d3 is =
      subst (λ ss. DrawsStrokes b area ss r old new) is_all
      (draws-refused b area (s1 ∷ (s2 ∷ (s3 ∷ []))) (s4 ∷ []) x r old new is
      (draws-then b area (s1 ∷ (s2 ∷ [])) (s3 ∷ []) x2 (Err x) old two new (draws-then b area (s1 ∷ [])
      (s2 ∷ []) x1 (Ok x2) old one two d1 d2) d3))

  pub draws-four : {A : Type 0} (x1 x2 x3 : A) (r : Result A AllocError) (old one two three new : BufferData)
      → DrawsStrokes b area (s1 ∷ []) (Ok x1) old one → DrawsStrokes b area (s2 ∷ []) (Ok x2) one two
      → DrawsStrokes b area (s3 ∷ []) (Ok x3) two three → DrawsStrokes b area (s4 ∷ []) r three new
      → DrawsStrokes b area all r old new
  draws-four x1 x2 x3 r old one two three new d1 d2 d3 d4 =
      subst (λ ss. DrawsStrokes b area ss r old new) is_all
      (draws-then b area (s1 ∷ (s2 ∷ (s3 ∷ []))) (s4 ∷ []) x3 r old three new
      (draws-then b area (s1 ∷ (s2 ∷ [])) (s3 ∷ []) x2 (Ok x3) old two three (draws-then b area (s1 ∷ [])
      (s2 ∷ []) x1 (Ok x2) old one two d1 d2) d3) d4)

pub inside-within : (area : Rect) (old new : BufferData) → IsInside area old.area → ChangesWithin area old new
    → IsInside area new.area
inside-within area old new inside is = λ p h. rw is.same_area (inside p h)

pub titles-inside : (b : Block) (r : Rect) (position : TitlePosition) → IsBoxArea r → IsInside (titles_area b r position) r
titles-inside b r Top box = λ p h. let x = h.left in let e = h.right in let t = h.top in let d = h.bottom in
    let c = box.columns in let o = box.rows in let a = box.across in let w = box.down in
    record { left = omega arith; right = omega arith; top = omega arith; bottom = omega arith }
titles-inside b r Bottom box = λ p h. let x = h.left in let e = h.right in let t = h.top in let d = h.bottom in
    let c = box.columns in let o = box.rows in let a = box.across in let w = box.down in
    record { left = omega arith; right = omega arith; top = omega arith; bottom = omega arith }

same-if : (has : Bool) (old new : BufferData) (p : Position) (off : Type 0) → (has ≡ false → new ≡ old) → (has ≡ true → off)
    → (off → cell_in new p ≡ cell_in old p) → cell_in new p ≡ cell_in old p
same-if true old new p off none has outside = outside (has refl)
same-if false old new p off none has outside = rw (none refl) refl

-- the titles of both rows
pub titles-keep : (b : Block) (r : Rect) (old mid new : BufferData) → ChangesWithin (titles_area b r Top) old mid
    → (has_title b Top ≡ false → mid ≡ old)
    → ChangesWithin (titles_area b r Bottom) mid new → (has_title b Bottom ≡ false → new ≡ mid) → KeepsOffTitles b r old new
titles-keep b r old mid new first no_first second no_second = record {
  area = second.same_area ∙ first.same_area;
  room = second.same_room ∙ first.same_room;
  at = λ p in_own off.
      same-if (has_title b Bottom) mid new p (HasPosition (titles_area b r Bottom) p → ⊥) no_second off.last
      (λ h. second.outside p (rw first.same_area in_own) h)
      ∙ same-if (has_title b Top) old mid p (HasPosition (titles_area b r Top) p → ⊥) no_first off.first
      (λ h. first.outside p in_own h);
}

pub titles-within : (b : Block) (r : Rect) (old new : BufferData) → IsBoxArea r → KeepsOffTitles b r old new
    → ChangesWithin r old new
titles-within b r old new box is = record {
  same_area = is.area;
  same_room = is.room;
  outside = λ p in_own off. is.at p in_own (record {
    first = λ e h. off (titles-inside b r Top box p h);
    last = λ e h. off (titles-inside b r Bottom box p h);
  });
}

pub titles-same : (b : Block) (r : Rect) (s : BufferData) → KeepsOffTitles b r s s
titles-same b r s = record { area = refl; room = refl; at = λ p in_own off. refl }

pub box-area : (area own part : Rect) → IsClipped area own part → IsBoxArea part
box-area area own part is =
    let w : part.width ≡ min (right_edge area) (right_edge own) - part.x = rw is.value refl in
    let h : part.height ≡ min (bottom_edge area) (bottom_edge own) - part.y = rw is.value refl in
    let c = is.columns in let r = is.rows in
    record { columns = c; rows = r; across = omega arith; down = omega arith }

-- a box over the part of an area
module _ (b : Block) (area part : Rect) (old laid mid : BufferData) (is : IsClipped area old.area part)
    (style : IsStyled part b.style old laid) where
  laid-at : (p : Position) → HasPosition old.area p
      → cell_in laid p ≡ (if has_position part p then styled b.style (cell_in old p) else cell_in old p)
  laid-at p in_own = elim (decide_position part p) [
    | inl (has, e) ↦ rw e (style.inside p in_own has)
    | inr (off, e) ↦ rw e (style.outside p in_own off)
  ]

  within-laid : ChangesWithin part old laid
  within-laid = within-styled part part b.style old laid (λ p in_own h. h) style

  module _ {A : Type 0} (r : Result A AllocError) (draws : DrawsStrokes b part (strokes b part) r laid mid) where
    pub block-within : ChangesWithin area old mid
    block-within = within-wider part area old mid is.of_area (within-then part old laid mid within-laid draws.within)

    pub block-short : IsShortBlock b area old → IsOk r
    block-short short = draws.short (λ p in_laid.
        let in_own : HasPosition old.area p = subst (λ q. HasPosition q p) style.area in_laid in
        rw (laid-at p in_own)
        (subst (λ (q : Rect). IsShortUnder b (strokes b q) p
        (if has_position q p then styled b.style (cell_in old p) else cell_in old p)) (sym is.value) (short.short p in_own)))

  boxed-at : {A : Type 0} (x : A) → DrawsStrokes b part (strokes b part) (Ok x) laid mid → (p : Position) → HasPosition old.area p
      → cell_in mid p ≡ box_cell b part p (cell_in old p)
  boxed-at x draws p in_own =
      let in_laid : HasPosition laid.area p = rw style.area in_own in
      elim (decide_position part p) [
        | inl (has, e) ↦ rw e (draws.ok.at p in_laid ∙ ap (stroked b (strokes b part) p) (style.inside p in_own has))
        | inr (off, e) ↦ rw e (draws.within.outside p in_laid off ∙ style.outside p in_own off)
      ]

  pub titled-within : {A : Type 0} (r : Result A AllocError) (new : BufferData) → DrawsStrokes b part (strokes b part) r laid mid
      → KeepsOffTitles b part mid new → ChangesWithin area old new
  titled-within r new draws titles =
      within-wider part area old new is.of_area
      (within-then part old mid new (within-then part old laid mid within-laid draws.within)
      (titles-within b part mid new (box-area area old.area part is) titles))

  pub block-renders : {A : Type 0} (x : A) (new : BufferData) → DrawsStrokes b part (strokes b part) (Ok x) laid mid
      → KeepsOffTitles b part mid new → RendersTitles b.titles_style (placed_titles b part) mid new
      → RendersBlock b area old new
  block-renders x new draws titles rendered =
      let within = titled-within (Ok x) new draws titles in
      record {
        same_area = within.same_area;
        same_room = within.same_room;
        at = λ p in_own.
            subst (λ (q : Rect). IsOffTitles b q p → cell_in new p ≡ box_cell b q p (cell_in old p)) is.value
            (λ off. titles.at p (rw (draws.within.same_area, style.area) in_own) off ∙ boxed-at x draws p in_own);
        within = within;
        titled = OnPart-clipped (RendersTitled b) area part old new is (record {
          framed = mid;
          frame = record {
            area = draws.within.same_area ∙ style.area;
            room = draws.within.same_room ∙ style.room;
            at = boxed-at x draws;
          };
          titles = rendered;
        });
      }

pub block-none : (b : Block) (area : Rect) (s : BufferData) → ((intersected area s.area).width ≡ 0)
    ⊎ ((intersected area s.area).height ≡ 0) → RendersBlock b area s s
block-none b area s none = record {
  same_area = refl;
  same_room = refl;
  at = λ p in_own off. rw (position-false (intersected area s.area) p (λ h. let l = h.left in let e = h.right in let t = h.top in
      let d = h.bottom in
      ⊎_elim (λ (w : (intersected area s.area).width ≡ 0). omega arith)
      (λ (w : (intersected area s.area).height ≡ 0). omega arith) none)) refl;
  within = within-same area s;
  titled = OnPart-none (RendersTitled b) area s none;
}
