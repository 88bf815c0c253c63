-- Changes of cells that go part by part.
use Rattle.std.proofs.Common.{◌≡◌, ◌+◌, ◌<◌, ◌≤◌, ⊎_elim, inl, inr, refl, ◌∙◌, arith}
use Rattle.std.proofs.Common.{Result, Ok, Err, IsOk, OnOk, false, true}
use Rattle.std.specs.Prelude.{⊤}
use Rattle.std.specs.declared.alloc.AllocError.{AllocError}
use Rattle.std.proofs.lemmas.Bool.{cases_lt}
use Rattle.ratatui_core.specs.Layout.{Rect, Position, HasPosition}
use Rattle.ratatui_core.specs.Buffer.{BufferData, Cell, cell_in, ChangesEach}
use Rattle.rtui_widgets.proofs.ChangeLemmas.{Changes-join, Changes-none}
use Rattle.rtui_drawing.specs.{Cuts.cut_from, Drawings.IsDone, Drawings.put_change}
use Rattle.rtui_drawing.specs.declared.cut.Cut.TheVariants.{First, After, Rows, Below}
use Rattle.rtui_drawing.proofs.DrawingLemmas.{cut-inside}

-- the same change, by another name
pub Changes-as : (r : Rect) (f g : Position → Cell → Cell) (old new : BufferData)
    → ((p : Position) (c : Cell) → HasPosition r p → f p c ≡ g p c) → ChangesEach r f old new → ChangesEach r g old new
Changes-as r f g old new same is = record {
  area = is.area;
  room = is.room;
  inside = λ p in_own here. is.inside p in_own here ∙ same p (cell_in old p) here;
  outside = is.outside;
}

-- a change of no cell
pub Changes-kept : (r : Rect) (f : Position → Cell → Cell) (s : BufferData)
    → ((p : Position) (c : Cell) → HasPosition r p → c ≡ f p c) → ChangesEach r f s s
Changes-kept r f s same = record {
  area = refl;
  room = refl;
  inside = λ p in_own here. same p (cell_in s p) here;
  outside = λ p in_own off. refl;
}

pub Changes-no_column : (r : Rect) (f : Position → Cell → Cell) (s : BufferData) → r.width ≡ 0 → ChangesEach r f s s
Changes-no_column r f s none = Changes-none r f s (λ p here. let a = here.left in let b = here.right in omega arith)

pub Changes-no_row : (r : Rect) (f : Position → Cell → Cell) (s : BufferData) → r.height ≡ 0 → ChangesEach r f s s
Changes-no_row r f s none = Changes-none r f s (λ p here. let a = here.top in let b = here.bottom in omega arith)

-- some columns, and those after them
pub Changes-beside : (n : _) (r : Rect) (f : Position → Cell → Cell) (old mid new : BufferData)
    → ChangesEach (cut_from (First n) r) f old mid → ChangesEach (cut_from (After n) r) f mid new → ChangesEach r f old new
Changes-beside n r f old mid new first rest =
    Changes-join (cut_from (First n) r) (cut_from (After n) r) r f old mid new first rest
    (λ p in_own here. let l = here.left in let e = here.right in let t = here.top in let b = here.bottom in
    ⊎_elim
    (λ (one : p.x < r.x + n). inl (record { left = omega arith; right = omega arith; top = t; bottom = b }))
    (λ (two : r.x + n ≤ p.x). inr (record { left = omega arith; right = omega arith; top = t; bottom = b }))
    (cases_lt p.x (r.x + n)))
    (cut-inside (First n) r) (cut-inside (After n) r)
    (λ p one two. let e = one.right in let l = two.left in omega arith)

-- some rows, and those below them
pub Changes-below : (n : _) (r : Rect) (f : Position → Cell → Cell) (old mid new : BufferData)
    → ChangesEach (cut_from (Rows 0 n) r) f old mid → ChangesEach (cut_from (Below n) r) f mid new → ChangesEach r f old new
Changes-below n r f old mid new first rest =
    Changes-join (cut_from (Rows 0 n) r) (cut_from (Below n) r) r f old mid new first rest
    (λ p in_own here. let l = here.left in let e = here.right in let t = here.top in let b = here.bottom in
    ⊎_elim
    (λ (one : p.y < r.y + n). inl (record { left = l; right = e; top = omega arith; bottom = omega arith }))
    (λ (two : r.y + n ≤ p.y). inr (record { left = l; right = e; top = omega arith; bottom = omega arith }))
    (cases_lt p.y (r.y + n)))
    (cut-inside (Rows 0 n) r) (cut-inside (Below n) r)
    (λ p one two. let e = one.bottom in let l = two.top in omega arith)

-- the columns after some, where those before them stay
pub Changes-after : (n : _) (r : Rect) (f : Position → Cell → Cell) (old new : BufferData)
    → ((p : Position) (c : Cell) → HasPosition (cut_from (First n) r) p → c ≡ f p c)
    → ChangesEach (cut_from (After n) r) f old new → ChangesEach r f old new
Changes-after n r f old new stay is =
    Changes-beside n r f old old new (Changes-kept (cut_from (First n) r) f old stay) is

-- what always succeeds and changes each cell is a drawing
pub change-done : {A : Type 0} {r : Rect} {f : Position → Cell → Cell} {old new : BufferData} (result : Result A AllocError)
    → IsOk result → OnOk result (ChangesEach r f old new) → IsDone (put_change f (λ _ _. ⊤)) r result old new
change-done (Ok x) succeeds is = record { ok = is; err = tt }
change-done (Err e) succeeds is = let no : false ≡ true = succeeds in absurd (cc)

-- to change each cell of a part is to change each cell of the whole
abbrev pub FinishesEach : Rect → (Position → Cell → Cell) → Rect → (Position → Cell → Cell) → BufferData → BufferData → Type 0
FinishesEach part f whole g old now = (new : BufferData) → ChangesEach part f now new → ChangesEach whole g old new
