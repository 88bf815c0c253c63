-- Parts of a buffer that are changed one after the other.
use Rattle.std.proofs.Common.{◌≡◌, ℕ, ◌+◌, ◌<◌, ◌≤◌, ⊎_elim, refl, subst, ◌∙◌, arith}
use Rattle.std.proofs.lemmas.Bool.{cases_lt}
use Rattle.rtui_geometry.specs.{declared.rect.Rect.Rect, declared.position.Position.Position, Rect.HasPosition}
use Rattle.rtui_buffer.specs.BufferData.{BufferData}
use Rattle.rtui_widgets.specs.Rendering.{ChangesWithin}
use Rattle.rtui_widgets.specs.Parts.{MakesPart, MakesParts}

pub Parts-none : (part : ℕ → Rect) (f : ℕ → BufferData → BufferData → Type 0) (s : BufferData) → MakesParts 0 part f s s
Parts-none part f s = record { area = refl; room = refl; each = λ k lt. absurd (omega arith); rest = λ p in_own off. refl }

-- one part more, apart from those before
module _ (n : ℕ) (part : ℕ → Rect) (f : ℕ → BufferData → BufferData → Type 0) (old mid new : BufferData)
    (so_far : MakesParts n part f old mid)
    (apart : (k : ℕ) → k < n → (p : Position) → HasPosition (part k) p → HasPosition (part n) p → ⊥) (made : f n mid new)
    (within : ChangesWithin (part n) mid new) where
  earlier : (k : ℕ) → k < n → MakesPart (part k) (f k) old new
  earlier k lt =
      let was = so_far.each k lt in
      record {
        before = was.before;
        after = was.after;
        same_area = was.same_area;
        from = was.from;
        made = was.made;
        to = λ p in_own here. within.outside p (rw so_far.area in_own) (λ h. apart k lt p here h) ∙ was.to p in_own here;
      }

  last : MakesPart (part n) (f n) old new
  last = record {
    before = mid;
    after = new;
    same_area = so_far.area;
    from = λ p in_own here. so_far.rest p in_own (λ k lt h. apart k lt p h here);
    made = made;
    to = λ p in_own here. refl;
  }

  pub Parts-next : MakesParts (n + 1) part f old new
  Parts-next = record {
    area = within.same_area ∙ so_far.area;
    room = within.same_room ∙ so_far.room;
    each = λ k lt. ⊎_elim (λ (less : k < n). earlier k less)
        (λ (more : n ≤ k). let e : n ≡ k = omega arith in subst (λ i. MakesPart (part i) (f i) old new) e last) (cases_lt k n);
    rest = λ p in_own off. within.outside p (rw so_far.area in_own) (off n (omega arith))
        ∙ so_far.rest p in_own (λ k lt. off k (omega arith));
  }

-- parts of an area change nothing outside it
pub Parts-within : (n : ℕ) (part : ℕ → Rect) (f : ℕ → BufferData → BufferData → Type 0) (area : Rect) (old new : BufferData)
    → MakesParts n part f old new
    → ((k : ℕ) → k < n → (p : Position) → HasPosition (part k) p → HasPosition area p) → ChangesWithin area old new
Parts-within n part f area old new is inside = record {
  same_area = is.area;
  same_room = is.room;
  outside = λ p in_own off. is.rest p in_own (λ k lt h. off (inside k lt p h));
}
