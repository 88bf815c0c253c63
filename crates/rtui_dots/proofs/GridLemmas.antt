-- Dots one after the other.
use Rattle.std.proofs.Common.{◌≡◌, ℕ, ◌+◌, ◌<◌, length, get_or, drop, ℤ, List, [], ◌∷◌, ◌++◌, refl, ◌∙◌, ap, ap₂, sym, subst}
use Rattle.std.proofs.Common.{arith, pos, zero, suc, replicate, set, cond, Bool, true, false}
use Rattle.rtui_dots.specs.{declared.scale.Scale.Scale, declared.painter.DotCell.DotCell, declared.painter.Painter.Painter}
use Rattle.std.proofs.lemmas.List.{drop_more, length-set}
use Rattle.rtui_style.specs.declared.color.Color.{Color}
use Rattle.rtui_dots.specs.{declared.rectangle.Rectangle.Rectangle, Shapes.point_dots, Shapes.dots_between, Shapes.dots_on}
use Rattle.rtui_dots.specs.{Shapes.far_end, Shapes.dots_of_rectangle, Shapes.dots_of_columns}
use Rattle.rtui_dots.specs.Grids.{Dot, no_dots, point_dot, has_dot, with_dot, with_dots, SetsDots}

pub with_dots-append : (s : Scale) (ds es : List Dot) (cells : List DotCell)
    → with_dots s (ds ++ es) cells ≡ with_dots s es (with_dots s ds cells)
with_dots-append s [] es cells = refl
with_dots-append s (d ∷ ds) es cells = with_dots-append s ds es (with_dot s d cells)

pub paints-then : (ds es : List Dot) (old mid new : Painter) → SetsDots ds old mid → SetsDots es mid new
    → SetsDots (ds ++ es) old new
paints-then ds es old mid new first second = record {
  cells = second.cells ∙ ap (λ s. with_dots s es mid.cells.items) first.scale ∙ ap (with_dots old.scale es) first.cells
      ∙ sym (with_dots-append old.scale ds es old.cells.items);
  scale = second.scale ∙ first.scale;
}

-- the dot of a point is set, and those of the others are left
pub next-point : (s : Scale) (color : Color) (cs : List (ℤ × ℤ)) (k : ℕ) (d : ℤ × ℤ) (old new : Painter) (all : List DotCell)
    → k < length cs → old.scale ≡ s
    → SetsDots (point_dot old.scale (get_or cs k d).0 (get_or cs k d).1 color ∷ []) old new
    → with_dots s (point_dots s color (drop k cs)) old.cells.items ≡ all
    → with_dots s (point_dots s color (drop (k + 1) cs)) new.cells.items ≡ all
next-point s color cs k d old new all lt same paints was =
    let c = get_or cs k d in
    ap (with_dots s (point_dots s color (drop (k + 1) cs)))
    (paints.cells ∙ ap (λ q. with_dot q (point_dot q c.0 c.1 color) old.cells.items) same)
    ∙ sym (ap (λ ps. with_dots s (point_dots s color ps) old.cells.items) (drop_more cs k d lt)) ∙ was

-- the sides of a rectangle
pub rectangle-painted : (r : Rectangle) (right top : ℤ) (p0 p1 p2 p3 p4 : Painter) → right ≡ far_end r.x r.width
    → top ≡ far_end r.y r.height → SetsDots (dots_between r.x r.y r.x top r.color p0.scale) p0 p1
    → SetsDots (dots_between r.x top right top r.color p1.scale) p1 p2
    → SetsDots (dots_between right r.y right top r.color p2.scale) p2 p3
    → SetsDots (dots_between r.x r.y right r.y r.color p3.scale) p3 p4
    → SetsDots (dots_of_rectangle r p0.scale) p0 p4
rectangle-painted r right top p0 p1 p2 p3 p4 at_right at_top left upper far_side lower =
    let s1 : p1.scale ≡ p0.scale = left.scale in
    let s2 : p2.scale ≡ p0.scale = upper.scale ∙ s1 in
    let s3 : p3.scale ≡ p0.scale = far_side.scale ∙ s2 in
    let second = subst (λ q. SetsDots (dots_between r.x top right top r.color q) p1 p2) s1 upper in
    let third = subst (λ q. SetsDots (dots_between right r.y right top r.color q) p2 p3) s2 far_side in
    let fourth = subst (λ q. SetsDots (dots_between r.x r.y right r.y r.color q) p3 p4) s3 lower in
    rw (← at_right, ← at_top) (paints-then _ _ p0 p3 p4 (paints-then _ _ p0 p2 p3 (paints-then _ _ p0 p1 p2 left second) third)
    fourth)

-- a list of one value
pub same-as-replicate : (n : ℕ) (cells : List DotCell) → length cells ≡ n → ((k : ℕ) → k < n → get_or cells k no_dots ≡ no_dots)
    → cells ≡ replicate n no_dots
same-as-replicate zero [] e same = refl
same-as-replicate zero (c ∷ cells) e same = absurd (omega arith)
same-as-replicate (suc n) [] e same = absurd (omega arith)
same-as-replicate (suc n) (c ∷ cells) e same = ap₂ (λ x xs. x ∷ xs) (same 0 (omega arith))
    (same-as-replicate n cells (omega arith) (λ k lt. same (suc k) (omega arith)))

-- a line of a path is drawn, and the others are left
pub next-line : (s : Scale) (color : Color) (last : ℤ × ℤ) (cs : List (ℤ × ℤ)) (k : ℕ) (d : ℤ × ℤ) (old new : Painter)
    (all : List DotCell) → k < length cs → old.scale ≡ s
    → SetsDots (dots_between last.0 last.1 (get_or cs k d).0 (get_or cs k d).1 color old.scale) old new
    → with_dots s (dots_on last (drop k cs) color s) old.cells.items ≡ all
    → with_dots s (dots_on (get_or cs k d) (drop (k + 1) cs) color s) new.cells.items ≡ all
next-line s color last cs k d old new all lt same paints was =
    let c = get_or cs k d in
    ap (with_dots s (dots_on c (drop (k + 1) cs) color s))
    (paints.cells ∙ ap (λ q. with_dots q (dots_between last.0 last.1 c.0 c.1 color q) old.cells.items) same)
    ∙ sym (with_dots-append s (dots_between last.0 last.1 c.0 c.1 color s) (dots_on c (drop (k + 1) cs) color s) old.cells.items)
    ∙ sym (ap (λ ps. with_dots s (dots_on last ps color s) old.cells.items) (drop_more cs k d lt)) ∙ was

-- the line of a point is drawn, and the others are left
pub next-bar : (s : Scale) (color : Color) (cs : List (ℤ × ℤ)) (k : ℕ) (d : ℤ × ℤ) (old new : Painter) (all : List DotCell)
    → k < length cs → old.scale ≡ s
    → SetsDots (dots_between (get_or cs k d).0 (pos 0) (get_or cs k d).0 (get_or cs k d).1 color old.scale) old new
    → with_dots s (dots_of_columns (drop k cs) color s) old.cells.items ≡ all
    → with_dots s (dots_of_columns (drop (k + 1) cs) color s) new.cells.items ≡ all
next-bar s color cs k d old new all lt same paints was =
    let c = get_or cs k d in
    ap (with_dots s (dots_of_columns (drop (k + 1) cs) color s))
    (paints.cells ∙ ap (λ q. with_dots q (dots_between c.0 (pos 0) c.0 c.1 color q) old.cells.items) same)
    ∙ sym (with_dots-append s (dots_between c.0 (pos 0) c.0 c.1 color s) (dots_of_columns (drop (k + 1) cs) color s)
    old.cells.items)
    ∙ sym (ap (λ ps. with_dots s (dots_of_columns ps color s) old.cells.items) (drop_more cs k d lt)) ∙ was

-- dots change no number of cells
with_dot-length : (s : Scale) (d : Dot) (cells : List DotCell) → length (with_dot s d cells) ≡ length cells
with_dot-length s d cells = by_test (has_dot s d.x d.y) _ _
  where
    by_test : (b : Bool) (i : ℕ) (c : DotCell) → length (cond b (set cells i c) cells) ≡ length cells
    by_test true i c = length-set cells i c
    by_test false i c = refl

pub with_dots-length : (s : Scale) (ds : List Dot) (cells : List DotCell) → length (with_dots s ds cells) ≡ length cells
with_dots-length s [] cells = refl
with_dots-length s (d ∷ ds) cells = with_dots-length s ds (with_dot s d cells) ∙ with_dot-length s d cells
