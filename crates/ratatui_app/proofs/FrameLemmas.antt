-- A frame after a turn.
use Rattle.std.proofs.Common.{rules, ◌≡◌, ◌⊎◌, ◌||◌, inl, inr, ℕ, Bool, true, false, Option, Some, None, Result, Ok, Err}
use Rattle.std.proofs.Common.{OnOk, IfErr, refl, ap, ap₂, sym, subst, ◌∙◌}
use Rattle.ratatui_core.specs.Backend.{Screen, HasNoCells, size_of, screen_area}
use Rattle.ratatui_core.specs.{Layout.Size, Layout.Rect, Layout.Position, Buffer.BufferData}
use Rattle.ratatui_core.specs.Terminal.{TerminalData, TerminalError, Viewport, IsAtRest, IsFixed, IsSized}
use Rattle.ratatui_core.specs.Terminal.{Stays, DrawsFrame, Resizes, Autoresizes}
use Rattle.ratatui_acts.specs.declared.told.Told.{Told}
use Rattle.ratatui_app.specs.Showing.{Device, RestsUnfixed, MayDraw, TakesOrKeepsSize}
use Rattle.ratatui_app.specs.Moving.{ReadiesTold, DrawsSized, MovesAsTold, RefusesSized, FailsToDraw, StopsShowing}

true-false : true ≡ false → ⊥
true-false e = search rules

same-size : (a b : Screen) → b.width ≡ a.width → b.height ≡ a.height → size_of b ≡ size_of a
same-size a b w h = ap₂ (λ (x y : ℕ). record { width = x; height = y }) w h

module _ {B : Type 0} (screen : B → Screen) where
  -- what the law of terminals at rest says of a resize
  abbrev pub RestsResized : Type 0
  RestsResized = (kind : Viewport) (b : B) (s t : TerminalData B) → (IsFixed kind → ⊥) → IsAtRest screen kind s
      → Resizes screen (screen_area (screen b)) (record s { backend = b }) t → IsAtRest screen kind t

  -- at rest over a viewport of a kind that isn't fixed
  pub rests-unfixed : (kind : Viewport) (t : TerminalData B) → (IsFixed kind → ⊥) → IsAtRest screen kind t
      → RestsUnfixed screen t
  rests-unfixed kind t free rest = record {
    rest = subst (λ (k : Viewport). IsAtRest screen k t) (sym rest.kind_is) rest;
    free = λ fixed. free (subst IsFixed rest.kind_is fixed);
  }

  -- the backend was asked, and the terminal is at rest still
  rests-asked : (kind : Viewport) (s : TerminalData B) (b : B) → screen b ≡ screen s.backend → IsAtRest screen kind s
      → IsAtRest screen kind (record s { backend = b })
  rests-asked kind s b same rest = record {
    kind_is = rest.kind_is;
    sized = rw same rest.sized;
    lies = rw same rest.lies;
    in_step = record {
      on_screen = rw same rest.in_step.on_screen;
      area = rest.in_step.area;
      settled = rest.in_step.settled;
      shown = rw same rest.in_step.shown;
    };
    current = rest.current;
    below = λ inline. rw same (rest.below inline);
  }

  pub rests-stays : (s t : TerminalData B) → Stays screen s t → RestsUnfixed screen s → RestsUnfixed screen t
  rests-stays s t stays rests =
      subst (λ (x : TerminalData B). RestsUnfixed screen x) (sym stays.rest)
      (rests-unfixed s.viewport (record s { backend = t.backend }) rests.free
      (rests-asked s.viewport s t.backend stays.screen_stays rests.rest))

-- a draw keeps the kind of the viewport, and so does an autoresize
pub sizes-kind : {B : Type 0} (screen : B → Screen) (s t : TerminalData B) → Autoresizes screen s t → t.viewport ≡ s.viewport
sizes-kind {B} screen s t sizes = elim sizes.case [
  | inl stays ↦ ap (λ (x : TerminalData B). x.viewport) stays.1.rest
  | inr sized ↦ ap (λ (x : TerminalData B). x.viewport) sized.1.rest
]

pub draws-kind : {B : Type 0} (screen : B → Screen) (s t : TerminalData B) → DrawsFrame screen s t → t.viewport ≡ s.viewport
draws-kind {B} screen s t draws =
    ap (λ (x : TerminalData B). x.viewport) draws.applied.rest ∙ sizes-kind screen s draws.sized draws.autoresized

module _ {B X : Type 0} (device : Device B X) where
  -- once a terminal has found the screen's size it is at rest
  by-size : RestsResized device.screen → (s sized : TerminalData B) → MayDraw device s
      → (IsSized device.screen s × Stays device.screen s sized)
      ⊎ ((IsSized device.screen s → ⊥) × Resizes device.screen (screen_area (device.screen s.backend)) s sized)
      → RestsUnfixed device.screen sized
  by-size resized s sized (inl rests) (inl stays) = rests-stays device.screen s sized stays.1 rests
  by-size resized s sized (inl rests) (inr sizes) = absurd (sizes.0 rests.rest.sized)
  by-size resized s sized (inr new) (inl stays) = absurd (new.unknown stays.0)
  by-size resized s sized (inr new) (inr sizes) =
      rests-unfixed device.screen new.before.viewport sized new.rest.free
      (resized new.before.viewport s.backend new.before sized new.rest.free new.rest.rest
      (subst (λ (x : TerminalData B). Resizes device.screen (screen_area (device.screen s.backend)) x sized) new.only sizes.1))

  pub sized-rest : RestsResized device.screen → (s sized : TerminalData B) → MayDraw device s
      → Autoresizes device.screen s sized → RestsUnfixed device.screen sized
  sized-rest resized s sized may sizes = by-size resized s sized may sizes.case

  -- finding the screen's size keeps it
  pub sized-size : (s t : TerminalData B) → Autoresizes device.screen s t
      → size_of (device.screen t.backend) ≡ size_of (device.screen s.backend)
  sized-size s t sizes = elim sizes.case [
    | inl stays ↦ ap size_of stays.1.screen_stays
    | inr sized ↦ same-size (device.screen s.backend) (device.screen t.backend)
        (sized.1.frame.size.width ∙ sized.1.scrolls.width) (sized.1.frame.size.height ∙ sized.1.scrolls.height)
  ]

  -- another size isn't known
  known-size : (s : TerminalData B) (b : B) (w h : ℕ) → size_of (device.screen b) ≡ record { width = w; height = h }
      → (IsFixed s.viewport → ⊥) → IsFixed s.viewport ⊎ (screen_area (device.screen b) ≡ s.last_known_area)
      → (s.last_known_area.width ≡ w) × (s.last_known_area.height ≡ h)
  known-size s b w h size free (inl fixed) = absurd (free fixed)
  known-size s b w h size free (inr known) = (
    sym (ap (λ (r : Rect). r.width) known) ∙ ap (λ (z : Size). z.width) size,
    sym (ap (λ (r : Rect). r.height) known) ∙ ap (λ (z : Size). z.height) size,
  )

  taken-at : (told : Told) (s : TerminalData B) (b : B) (w h : ℕ) → told.size ≡ Some (w, h)
      → ((s.last_known_area.width ≡ w) × (s.last_known_area.height ≡ h) → ⊥)
      → size_of (device.screen b) ≡ record { width = w; height = h } → device.failures b ≡ device.failures s.backend
      → RestsUnfixed device.screen s → ReadiesTold device told true s (record s { backend = b })
  taken-at told s b w h is other size same rests =
      let unknown : IsSized device.screen (record s { backend = b })
      → ⊥ = λ sized. other (known-size s b w h size rests.free sized) in
      record {
        may = inr (record { before = s; rest = rests; only = refl; unknown = unknown });
        readied = inl (inr (refl, unknown));
        has = rw is (inl size);
        kept = λ e. absurd (true-false e);
        new = λ e. refl;
        anew = λ e. inr unknown;
        kind = refl;
        faults = same;
      }

  -- a size that is taken
  pub takes-told : (told : Told) (s t : TerminalData B) (w h : ℕ) → told.size ≡ Some (w, h)
      → t ≡ record s { backend = t.backend }
      → size_of (device.screen t.backend) ≡ record { width = w; height = h }
      → device.failures t.backend ≡ device.failures s.backend → RestsUnfixed device.screen s
      → ((s.last_known_area.width ≡ w) × (s.last_known_area.height ≡ h) → ⊥) → ReadiesTold device told true s t
  takes-told told s t w h is only size same rests other =
      subst (λ (x : TerminalData B). ReadiesTold device told true s x) (sym only)
      (taken-at told s t.backend w h is other size same rests)

  -- what is told beside a size that the screen has, or that has no cells
  pub keeps-told : (told : Told) (new : Bool) (s t : TerminalData B) (w h : ℕ) → told.size ≡ Some (w, h)
      → (size_of (device.screen s.backend) ≡ record { width = w; height = h })
      ⊎ HasNoCells (record { width = w; height = h })
      → ReadiesTold device (record told { size = None }) new s t → ReadiesTold device told new s t
  keeps-told told new s t w h is why readies = record {
    may = readies.may;
    readied = readies.readied;
    has = rw is (by-why why);
    kept = readies.kept;
    new = readies.new;
    anew = readies.anew;
    kind = readies.kind;
    faults = readies.faults;
  }
    where
      by-why : (size_of (device.screen s.backend) ≡ record { width = w; height = h })
          ⊎ HasNoCells (record { width = w; height = h })
          → TakesOrKeepsSize device (Some (w, h)) s t
      by-why (inl has) = inl (readies.has ∙ has)
      by-why (inr none) = inr (none, readies.has)

  -- the size that a screen at rest has
  pub rests-size : (s : TerminalData B) (w h : ℕ) → RestsUnfixed device.screen s → s.last_known_area.width ≡ w
      → s.last_known_area.height ≡ h → size_of (device.screen s.backend) ≡ record { width = w; height = h }
  rests-size s w h rests width height = by-known rests.rest.sized
    where
      by-known : IsFixed s.viewport ⊎ (screen_area (device.screen s.backend) ≡ s.last_known_area)
          → size_of (device.screen s.backend) ≡ record { width = w; height = h }
      by-known (inl fixed) = absurd (rests.free fixed)
      by-known (inr known) = ap₂ (λ (x y : ℕ). record { width = x; height = y })
          (ap (λ (r : Rect). r.width) known ∙ width) (ap (λ (r : Rect). r.height) known ∙ height)

  -- the size that a screen keeps
  kept-size : (size : Option (ℕ × ℕ)) (s t t' : TerminalData B)
      → size_of (device.screen t'.backend) ≡ size_of (device.screen t.backend)
      → TakesOrKeepsSize device size s t → TakesOrKeepsSize device size s t'
  kept-size None s t t' e h = e ∙ h
  kept-size (Some z) s t t' e (inl has) = inl (e ∙ has)
  kept-size (Some z) s t t' e (inr kept) = inr (kept.0, e ∙ kept.1)

  not-anew : (anew new : Bool) → (anew ≡ true → new ≡ true) → new ≡ false → anew ≡ false
  not-anew false new f e = refl
  not-anew true new f e = absurd (true-false (sym (f refl) ∙ e))

  -- a frame, or none
  by-wanted : (told : Told) (new changed : Bool) (s ready t : TerminalData B) → ReadiesTold device told new s ready
      → ((changed || new) ≡ true → DrawsSized device ready t) → (changed ≡ false → new ≡ false → t ≡ ready)
      → size_of (device.screen t.backend) ≡ size_of (device.screen ready.backend)
      → device.failures t.backend ≡ device.failures ready.backend → MovesAsTold device told s t
  by-wanted told true changed s ready t readies drawn kept size same =
      let draws : DrawsSized device ready t = drawn (by-new changed) in record {
        drawn = inr (record { ready = ready; readied = readies.readied; anew = readies.anew; drawn = draws });
        has = kept-size told.size s ready t size readies.has;
        kind = draws-kind device.screen draws.sized t draws.draws ∙ sizes-kind device.screen ready draws.sized draws.autoresized
            ∙ readies.kind;
        faults = same ∙ readies.faults;
      }
    where
      by-new : (b : Bool) → (b || true) ≡ true
      by-new true = refl
      by-new false = refl
  by-wanted told false true s ready t readies drawn kept size same =
      let draws : DrawsSized device ready t = drawn refl in record {
        drawn = inr (record { ready = ready; readied = readies.readied; anew = readies.anew; drawn = draws });
        has = kept-size told.size s ready t size readies.has;
        kind = draws-kind device.screen draws.sized t draws.draws ∙ sizes-kind device.screen ready draws.sized draws.autoresized
            ∙ readies.kind;
        faults = same ∙ readies.faults;
      }
  by-wanted told false false s ready t readies drawn kept size same =
      let stays : t ≡ s = kept refl refl ∙ readies.kept refl in record {
        drawn = inl (stays, not-anew told.anew false readies.new refl);
        has = kept-size told.size s ready t size readies.has;
        kind = ap (λ (x : TerminalData B). x.viewport) stays;
        faults = same ∙ readies.faults;
      }

  pub moves-told : {E : Type 0} (told : Told) (new : Bool) (s ready t : TerminalData B) (r : Result (Unit {0}) E)
      → ReadiesTold device told new s ready → ((told.changed || new) ≡ true → OnOk r (DrawsSized device ready t))
      → (told.changed ≡ false → new ≡ false → t ≡ ready)
      → OnOk r (size_of (device.screen t.backend) ≡ size_of (device.screen ready.backend))
      → OnOk r (device.failures t.backend ≡ device.failures ready.backend) → OnOk r (MovesAsTold device told s t)
  moves-told told new s ready t (Ok x) readies drawn kept size same =
      by-wanted told new told.changed s ready t readies drawn kept size same
  moves-told told new s ready t (Err e) readies drawn kept size same = tt

  -- a draw, once the terminal knows the screen's size
  pub draws-sized : {E : Type 0} (s sized t : TerminalData B) (r : Result (Unit {0}) E) → Autoresizes device.screen s sized
      → OnOk r (DrawsFrame device.screen sized t) → OnOk r (DrawsSized device s t)
  draws-sized s sized t (Ok x) sizes draws = record { sized = sized; autoresized = sizes; draws = draws }
  draws-sized s sized t (Err e) sizes draws = tt

  pub refuses-sized : {E : Type 0} (paints : Rect → BufferData → BufferData → Type 0) (is_short : Rect → BufferData → Type 0)
      (cursor : Rect → Option Position)
      (s sized t : TerminalData B) (r : Result (Unit {0}) (TerminalError E)) → Autoresizes device.screen s sized
      → IfErr r (λ e. RefusesSized device paints is_short cursor sized t e)
      → IfErr r (λ e. FailsToDraw device paints is_short cursor s t e)
  refuses-sized paints is_short cursor s sized t (Ok x) sizes refused = tt
  refuses-sized paints is_short cursor s sized t (Err e) sizes refused = inr (sized, sizes, refused)

  pub stops-frame : {E : Type 0} (paints : Rect → BufferData → BufferData → Type 0) (is_short : Rect → BufferData → Type 0)
      (cursor : Rect → Option Position) (told : Told) (is_new : Bool)
      (s ready t : TerminalData B) (r : Result (Unit {0}) (TerminalError E)) → ReadiesTold device told is_new s ready
      → IfErr r (λ e. FailsToDraw device paints is_short cursor ready t e)
      → IfErr r (λ e. StopsShowing device paints is_short cursor told s t e)
  stops-frame paints is_short cursor told is_new s ready t (Ok x) readies refused = tt
  stops-frame paints is_short cursor told is_new s ready t (Err e) readies refused =
      inr (record { is_new = is_new; ready = ready; readied = readies; fails = refused })

  pub sizes-ok : {E : Type 0} (s sized t : TerminalData B) (r : Result (Unit {0}) E) → Autoresizes device.screen s sized
      → OnOk r (size_of (device.screen t.backend) ≡ size_of (device.screen sized.backend))
      → OnOk r (size_of (device.screen t.backend) ≡ size_of (device.screen s.backend))
  sizes-ok s sized t (Ok x) sizes same = same ∙ sized-size s sized sizes
  sizes-ok s sized t (Err e) sizes same = tt

pub ruleset told_sizes = (keeps-told, rests-size)
