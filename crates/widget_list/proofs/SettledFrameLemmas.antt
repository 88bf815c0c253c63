-- What a rendering in a box leaves in a state is what settling leaves.
use Rattle.std.proofs.Common.{◌≡◌, ◌<◌, ◌==◌, ◌||◌, ⊎_elim, inl, inr, Bool, true, false, IsTrue, ◌↔◌, Option, Some, None, refl, sym, subst}
use Rattle.std.proofs.Common.{◌∙◌, arith}
use Rattle.std.proofs.lemmas.Bool.Decides.{nat_tests}
use Rattle.ratatui_core.specs.{Layout.Rect, Layout.intersected, Style.Style, Buffer.BufferData}
use Rattle.widget_boxes.specs.declared.block.Block.{Block}
use Rattle.widget_boxes.specs.Framed.{inner_if, IsBare, RendersStateInFrame}
use Rattle.widget_boxes.proofs.InnerLemmas.{bare-or}
use Rattle.widget_list.specs.Settled.{SettlesInside, settled_inside}

-- nothing is inside of nothing
bare-inside : (o : Option Block) (part : Rect) → IsBare part → IsBare (inner_if o part)
bare-inside None part bare = bare
bare-inside (Some b) part bare =
    ⊎_elim (λ (e : part.width ≡ 0). inl (omega arith)) (λ (e : part.height ≡ 0). inr (omega arith)) bare

-- what has cells isn't bare
cells-bare : {P : Type 0} (r : Rect) → 0 < r.width → 0 < r.height → IsBare r → P
cells-bare r wide high bare =
    ⊎_elim (λ (e : r.width ≡ 0). absurd (omega arith)) (λ (e : r.height ≡ 0). absurd (omega arith)) bare

module _ {S : Type 0} (style : Style) (o : Option Block) (f : S → S → Rect → BufferData → BufferData → Type 0)
    (g : Rect → S → S → Type 0) (s t : S) (area : Rect) (old new : BufferData) where
  -- a rendering settles its state
  pub frame-settles : ((r : Rect) (a b : BufferData) → f s t r a b → g r s t) → RendersStateInFrame style o f s t area old new
      → SettlesInside o g (intersected area old.area) s t
  frame-settles leads is =
      let part = intersected area old.area in
      record {
        none = λ bare. bare-or part is.no_part (λ wide high. ((is.parts.part wide high).none bare).1);
        inside = λ wide high. bare-or part (λ none. cells-bare (inner_if o part) wide high (bare-inside o part none))
            (λ w h. let there = is.parts.part w h in leads (inner_if o part) there.framed new (there.inside wide high));
      }

  -- what a rendering shows of a state it shows of the state that it leaves
  pub frame-settled : ((r : Rect) (a b : BufferData) → f s t r a b → f t t r a b) → RendersStateInFrame style o f s t area old new
      → RendersStateInFrame style o f t t area old new
  frame-settled again is = record {
    within = is.within;
    no_part = λ _. refl;
    parts = record {
      nothing = is.parts.nothing;
      part = λ w h. let there = is.parts.part w h in record {
        framed = there.framed;
        frame = there.frame;
        none = λ bare. ((there.none bare).0, refl);
        inside = λ wide high. again (inner_if o (intersected area old.area)) there.framed new (there.inside wide high);
      };
    };
  }

-- settling by a test whether there are cells inside
module _ {S : Type 0} (o : Option Block) (g : Rect → S → S → Type 0) (area : Rect) (s t : S) (r : Rect) (test : Bool)
    (is : r ≡ inner_if o area) (tests : IsTrue test ↔ IsBare r) where
  pub settles-inside : test ≡ false → g r s t → SettlesInside o g area s t
  settles-inside on made = record {
    none = λ bare. let no : true ≡ false = sym (tests.1 (subst IsBare (sym is) bare)) ∙ on in absurd (cc);
    inside = λ _ _. subst (λ q. g q s t) is made;
  }

-- what is settled is one state
pub settled-one : {S : Type 0} (o : Option Block) (g : Rect → S → S → Type 0) (next : Rect → S → S) (area : Rect) (s t : S)
    → ((r : Rect) → g r s t → t ≡ next r s) → SettlesInside o g area s t → t ≡ settled_inside o next area s
settled-one o g next area s t one is =
    bare-or (inner_if o area)
    (λ bare.
    let off : (((inner_if o area).width == 0) || ((inner_if o area).height == 0)) ≡ true =
    ⊎_elim (λ (e : (inner_if o area).width ≡ 0). grind (arith, nat_tests))
    (λ (e : (inner_if o area).height ≡ 0). grind (arith, nat_tests)) bare in
    rw off (is.none bare))
    (λ wide high.
    let on : (((inner_if o area).width == 0) || ((inner_if o area).height == 0)) ≡ false = grind (arith, nat_tests) in
    rw on (one (inner_if o area) (is.inside wide high)))

-- and the other way round
pub settled-is : {S : Type 0} (o : Option Block) (g : Rect → S → S → Type 0) (next : Rect → S → S) (area : Rect) (s : S)
    → ((r : Rect) → g r s (next r s)) → SettlesInside o g area s (settled_inside o next area s)
settled-is o g next area s makes =
    bare-or (inner_if o area)
    (λ bare.
    let off : (((inner_if o area).width == 0) || ((inner_if o area).height == 0)) ≡ true =
    ⊎_elim (λ (e : (inner_if o area).width ≡ 0). grind (arith, nat_tests))
    (λ (e : (inner_if o area).height ≡ 0). grind (arith, nat_tests)) bare in
    rw off (record { none = λ _. refl; inside = λ wide high. cells-bare (inner_if o area) wide high bare }))
    (λ wide high.
    let on : (((inner_if o area).width == 0) || ((inner_if o area).height == 0)) ≡ false = grind (arith, nat_tests) in
    rw on (record { none = λ bare. cells-bare (inner_if o area) wide high bare; inside = λ _ _. makes (inner_if o area) }))

-- settling again leaves what is settled, if each step does
pub settled-again : {S : Type 0} (o : Option Block) (g : Rect → S → S → Type 0) (area : Rect) (s t : S)
    → ((r : Rect) → g r s t → g r t t) → SettlesInside o g area s t → SettlesInside o g area t t
settled-again o g area s t again is = record {
  none = λ _. refl;
  inside = λ wide high. again (inner_if o area) (is.inside wide high);
}

-- what a widget shows leads to a next state, which is one state and its own next one; and what it shows of a
-- state it shows of the next one
pub record LeadsOn {S : Type 0} (f : S → S → Rect → BufferData → BufferData → Type 0) (g : Rect → S → S → Type 0)
    (next : Rect → S → S) : Type 0 where
  pub leads : (s t : S) (r : Rect) (a b : BufferData) → f s t r a b → g r s t
  pub one : (s t : S) (r : Rect) → g r s t → t ≡ next r s
  pub made : (s : S) (r : Rect) → g r s (next r s)
  pub again : (s t : S) (r : Rect) → g r s t → g r t t
  pub shown : (s t : S) (r : Rect) (a b : BufferData) → f s t r a b → f t t r a b

module _ {S : Type 0} (style : Style) (o : Option Block) {f : S → S → Rect → BufferData → BufferData → Type 0}
    {g : Rect → S → S → Type 0} {next : Rect → S → S} (on : LeadsOn f g next) where
  pub settles-one : (area : Rect) (s t : S) → SettlesInside o g area s t → t ≡ settled_inside o next area s
  settles-one area s t = settled-one o g next area s t (λ r. on.one s t r)

  again-one : (area : Rect) (s t : S) → SettlesInside o g area s t → t ≡ settled_inside o next area t
  again-one area s t is = settles-one area t t (settled-again o g area s t (λ r. on.again s t r) is)

  -- settling twice is settling once
  pub settled-twice : (area : Rect) (s : S) → settled_inside o next area (settled_inside o next area s) ≡ settled_inside o next area s
  settled-twice area s = sym (again-one area s (settled_inside o next area s) (settled-is o g next area s (λ r. on.made s r)))

  -- what a rendering leaves is settled
  pub rendering-settles : (s t : S) (area : Rect) (old new : BufferData) → RendersStateInFrame style o f s t area old new
      → SettlesInside o g (intersected area old.area) s t
  rendering-settles s t area old new = frame-settles style o f g s t area old new (λ r a b. on.leads s t r a b)

  -- a rendering of a settled state leaves it
  pub settled-stays : (s t u : S) (area : Rect) (old new : BufferData) → SettlesInside o g (intersected area old.area) s t
      → RendersStateInFrame style o f t u area old new → u ≡ t
  settled-stays s t u area old new is renders =
      let part = intersected area old.area in
      settles-one part t u (rendering-settles t u area old new renders) ∙ sym (again-one part s t is)

  -- and it shows what a rendering of the state before shows
  pub settled-shows : (s t u : S) (area : Rect) (old new : BufferData) → SettlesInside o g (intersected area old.area) s t
      → RendersStateInFrame style o f s u area old new → RendersStateInFrame style o f t t area old new
  settled-shows s t u area old new is renders =
      let part = intersected area old.area in
      let same : u ≡ t = settles-one part s u (rendering-settles s u area old new renders) ∙ sym (settles-one part s t is) in
      subst (λ (v : S). RendersStateInFrame style o f v v area old new) same
      (frame-settled style o f g s u area old new (λ r a b. on.shown s u r a b) renders)
