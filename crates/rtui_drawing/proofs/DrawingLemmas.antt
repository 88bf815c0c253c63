-- What holds of a drawing, and of drawings one after the other.
use Rattle.std.proofs.Common.{◌≡◌, ◌<◌, ◌⊎◌, ⊎_elim, inl, inr, Bool, false, true, refl, sym, subst, arith}
use Rattle.std.proofs.Common.{Result, Ok, Err, IsOk}
use Rattle.std.specs.Result.{IsErr}
use Rattle.std.specs.declared.alloc.AllocError.{AllocError}
use Rattle.rtui_geometry.specs.{declared.rect.Rect.Rect, Rect.IsInside, Rect.EdgesFit, Rect.corner}
use Rattle.rtui_buffer.specs.{BufferData.BufferData, Shown.IsSettledBuffer}
use Rattle.rtui_widgets.specs.{Plain.IsPlainFrom, Rendering.ChangesWithin}
use Rattle.rtui_widgets.proofs.{WithinLemmas.within-then, WithinLemmas.within-styled}
use Rattle.rtui_widgets.proofs.ChangeLemmas.{Changes-within, within-same, within-wider}
use Rattle.rtui_widgets.proofs.PlainLemmas.{settled-plain, plain-changed}
use Rattle.rtui_widgets.proofs.NarrowTextLemmas.{pieces-plain, styled-plain, line-stays, text-stays, over-all, from-over}
use Rattle.rtui_drawing.specs.{declared.cut.Cut.Cut, Cuts.cut_from}
use Rattle.rtui_drawing.specs.declared.cut.Cut.TheVariants.{First, After, Last, BeforeLast, Middle, Rows, Below, Above, Within}
use Rattle.rtui_drawing.specs.Drawings.{Thing, a_style, some_pieces, a_line, a_text, a_change}
use Rattle.rtui_drawing.specs.Drawings.{Drawing, nothing, put, over, ◌before◌, draw_if, IsPut, DrawsAll, IsStopped}
use Rattle.rtui_drawing.specs.Drawings.{IsDone, IsShortDrawing, IsPartOf}
use Rattle.rtui_drawing.proofs.Laws.{IsNarrowThing, IsNarrowDrawing, Continues}

-- a part lies in its area
pub cut-inside : (c : Cut) (r : Rect) → IsInside (cut_from c r) r
cut-inside (First n) r p h = let l = h.left in let e = h.right in let t = h.top in let b = h.bottom in
    record { left = omega arith; right = omega arith; top = omega arith; bottom = omega arith }
cut-inside (After n) r p h = let l = h.left in let e = h.right in let t = h.top in let b = h.bottom in
    record { left = omega arith; right = omega arith; top = omega arith; bottom = omega arith }
cut-inside (Last n) r p h = let l = h.left in let e = h.right in let t = h.top in let b = h.bottom in
    record { left = omega arith; right = omega arith; top = omega arith; bottom = omega arith }
cut-inside (BeforeLast n) r p h = let l = h.left in let e = h.right in let t = h.top in let b = h.bottom in
    record { left = omega arith; right = omega arith; top = omega arith; bottom = omega arith }
cut-inside (Middle n) r p h = let l = h.left in let e = h.right in let t = h.top in let b = h.bottom in
    record { left = omega arith; right = omega arith; top = omega arith; bottom = omega arith }
cut-inside (Rows y n) r p h = let l = h.left in let e = h.right in let t = h.top in let b = h.bottom in
    record { left = omega arith; right = omega arith; top = omega arith; bottom = omega arith }
cut-inside (Below n) r p h = let l = h.left in let e = h.right in let t = h.top in let b = h.bottom in
    record { left = omega arith; right = omega arith; top = omega arith; bottom = omega arith }
cut-inside (Above n) r p h = let l = h.left in let e = h.right in let t = h.top in let b = h.bottom in
    record { left = omega arith; right = omega arith; top = omega arith; bottom = omega arith }
cut-inside (Within q) r p h = let l = h.left in let e = h.right in let t = h.top in let b = h.bottom in
    record { left = omega arith; right = omega arith; top = omega arith; bottom = omega arith }

-- its edges fit as the area's do, if it has cells
cut-edges : (c : Cut) (r : Rect) → (0 < r.width → 0 < r.height → EdgesFit r) → 0 < (cut_from c r).width
    → 0 < (cut_from c r).height → EdgesFit (cut_from c r)
cut-edges (First n) r fit w h = let f = fit (omega arith) (omega arith) in let a = f.right in let d = f.bottom in
    record { right = omega arith; bottom = omega arith }
cut-edges (After n) r fit w h = let f = fit (omega arith) (omega arith) in let a = f.right in let d = f.bottom in
    record { right = omega arith; bottom = omega arith }
cut-edges (Last n) r fit w h = let f = fit (omega arith) (omega arith) in let a = f.right in let d = f.bottom in
    record { right = omega arith; bottom = omega arith }
cut-edges (BeforeLast n) r fit w h = let f = fit (omega arith) (omega arith) in let a = f.right in let d = f.bottom in
    record { right = omega arith; bottom = omega arith }
cut-edges (Middle n) r fit w h = let f = fit (omega arith) (omega arith) in let a = f.right in let d = f.bottom in
    record { right = omega arith; bottom = omega arith }
cut-edges (Rows y n) r fit w h = let f = fit (omega arith) (omega arith) in let a = f.right in let d = f.bottom in
    record { right = omega arith; bottom = omega arith }
cut-edges (Below n) r fit w h = let f = fit (omega arith) (omega arith) in let a = f.right in let d = f.bottom in
    record { right = omega arith; bottom = omega arith }
cut-edges (Above n) r fit w h = let f = fit (omega arith) (omega arith) in let a = f.right in let d = f.bottom in
    record { right = omega arith; bottom = omega arith }
cut-edges (Within q) r fit w h = let f = fit (omega arith) (omega arith) in let a = f.right in let d = f.bottom in
    record { right = omega arith; bottom = omega arith }

-- so a part of a part of a buffer is one
pub part-cut : {own r : Rect} (c : Cut) → IsPartOf own r → IsPartOf own (cut_from c r)
part-cut {r = r} c is = record {
  inside = λ p h. is.inside p (cut-inside c r p h);
  edges = λ w h. cut-edges c r is.edges w h;
}

-- 1. a drawing in an area changes nothing outside it, done or refused
thing-within : (t : Thing) (r : Rect) (old new : BufferData) → IsPut t r old new → ChangesWithin r old new
thing-within (a_style s) r old new is = within-styled r r s old new (λ p in_own h. h) is
thing-within (some_pieces ps) r old new is = is.within
thing-within (a_line l) r old new is = is.within
thing-within (a_text t) r old new is = is.within
thing-within (a_change f is_light) r old new is = Changes-within r r f old new (λ p h. h) is

pub draws-within : (d : Drawing) (r : Rect) (old new : BufferData) → DrawsAll d r old new → ChangesWithin r old new
draws-within nothing r old new same = rw same (within-same r old)
draws-within (put t) r old new is = thing-within t r old new is
draws-within (over c d) r old new is =
    within-wider (cut_from c r) r old new (cut-inside c r) (draws-within d (cut_from c r) old new is)
draws-within (a before b) r old new is =
    within-then r old is.0 new (draws-within a r old is.0 is.1) (draws-within b r is.0 new is.2)

stops-within : (d : Drawing) (r : Rect) (old new : BufferData) → IsStopped d r old new → ChangesWithin r old new
stops-within nothing r old new never = absurd never
stops-within (put t) r old new is = is.within
stops-within (over c d) r old new is =
    within-wider (cut_from c r) r old new (cut-inside c r) (stops-within d (cut_from c r) old new is)
stops-within (a before b) r old new is =
    ⊎_elim (λ (one : IsStopped a r old new). stops-within a r old new one)
    (λ (two : (mid : BufferData) × DrawsAll a r old mid × IsStopped b r mid new).
    within-then r old two.0 new (draws-within a r old two.0 two.1)
    (stops-within b r two.0 new two.2)) is

pub done-within : {A : Type 0} {d : Drawing} {r : Rect} {old new : BufferData} (result : Result A AllocError)
    → IsDone d r result old new → ChangesWithin r old new
done-within {d = d} {r = r} {old = old} {new = new} (Ok x) is = draws-within d r old new is.ok
done-within {d = d} {r = r} {old = old} {new = new} (Err e) is = stops-within d r old new is.err

-- 2. what is short is never refused
stops-long : (d : Drawing) (r : Rect) (old new : BufferData) → IsShortDrawing old.area d r → IsStopped d r old new → ⊥
stops-long nothing r old new short never = never
stops-long (put t) r old new short is = is.long short
stops-long (over c d) r old new short is = stops-long d (cut_from c r) old new short is
stops-long (a before b) r old new short is =
    ⊎_elim (λ (one : IsStopped a r old new). stops-long a r old new short.0 one)
    (λ (two : (mid : BufferData) × DrawsAll a r old mid × IsStopped b r mid new).
    stops-long b r two.0 new (subst (λ own. IsShortDrawing own b r)
    (sym (draws-within a r old two.0 two.1).same_area) short.1) two.2) is

pub done-short : {A : Type 0} {d : Drawing} {r : Rect} {old new : BufferData} (result : Result A AllocError)
    → IsShortDrawing old.area d r → IsDone d r result old new → IsOk result
done-short (Ok x) short is = refl
done-short {d = d} {r = r} {old = old} {new = new} (Err e) short is = absurd (stops-long d r old new short is.err)

-- 3. narrow things keep cells plain
thing-plain : (t : Thing) (r : Rect) (old new : BufferData) → IsNarrowThing t → IsPlainFrom 0 old → IsPut t r old new
    → IsPlainFrom 0 new
thing-plain (a_style s) r old new narrow plain is =
    from-over old new is.area (styled-plain r old.area s old new (over-all old plain) is)
thing-plain (some_pieces ps) r old new narrow plain is =
    from-over old new is.pieces.area (pieces-plain (corner r) ps old.area old new narrow (over-all old plain) is.pieces)
thing-plain (a_line l) r old new narrow plain is = line-stays r old new plain l narrow is
thing-plain (a_text t) r old new narrow plain is = text-stays r old new plain t narrow is
thing-plain (a_change f is_light) r old new narrow plain is = plain-changed r f old new narrow is plain

pub draws-plain : (d : Drawing) (r : Rect) (old new : BufferData) → IsNarrowDrawing d → IsPlainFrom 0 old → DrawsAll d r old new
    → IsPlainFrom 0 new
draws-plain nothing r old new narrow plain same = rw same plain
draws-plain (put t) r old new narrow plain is = thing-plain t r old new narrow plain is
draws-plain (over c d) r old new narrow plain is = draws-plain d (cut_from c r) old new narrow plain is
draws-plain (a before b) r old new narrow plain is =
    draws-plain b r is.0 new narrow.1 (draws-plain a r old is.0 narrow.0 plain is.1) is.2

pub if-narrow : (b : Bool) (d : Drawing) → IsNarrowDrawing d → IsNarrowDrawing (draw_if b d)
if-narrow true d narrow = narrow
if-narrow false d narrow = tt

-- 4. and so a buffer settled
pub draws-settled : (d : Drawing) (r : Rect) (old new : BufferData) → EdgesFit old.area → IsNarrowDrawing d → IsPlainFrom 0 old
    → DrawsAll d r old new → IsSettledBuffer new
draws-settled d r old new edges narrow plain is =
    settled-plain new (subst EdgesFit (sym (draws-within d r old new is).same_area) edges)
    (draws-plain d r old new narrow plain is)

-- 5. what is drawn if a test holds, and calls one after the other
pub done-if : {A : Type 0} {d : Drawing} {r : Rect} {old new : BufferData} {result : Result A AllocError} (b : Bool)
    → b ≡ true → IsDone d r result old new → IsDone (draw_if b d) r result old new
done-if b is done = rw is done

pub done-skip : {A : Type 0} {r : Rect} {x : A} {s : BufferData} (b : Bool) (d : Drawing) → b ≡ false
    → IsDone (draw_if b d) r (Ok x) s s
done-skip b d is = rw is (record { ok = refl; err = tt })

pub done-all : {A : Type 0} {d : Drawing} {r : Rect} {x : A} {old new : BufferData} → DrawsAll d r old new
    → IsDone d r (Ok x) old new
done-all is = record { ok = is; err = tt }

pub done-err : {A B : Type 0} {d : Drawing} {r : Rect} {e : AllocError} {old new : BufferData} (result : Result B AllocError)
    → IsErr result → IsDone {A = A} d r (Err e) old new → IsDone d r result old new
done-err (Ok y) err is = let no : false ≡ true = err in absurd (cc)
done-err (Err f) err is = record { ok = tt; err = is.err }

pub done-then : {A B : Type 0} {a b : Drawing} {r : Rect} {x : A} {old mid new : BufferData} (result : Result B AllocError)
    → IsDone a r (Ok x) old mid → IsDone b r result mid new → IsDone (a before b) r result old new
done-then (Ok y) one two = record { ok = (_, one.ok, two.ok); err = tt }
done-then (Err e) one two = record { ok = tt; err = inr ((_, one.ok, two.err)) }

pub draws-then : {B : Type 0} {a b : Drawing} {r : Rect} {old mid new : BufferData} (result : Result B AllocError)
    → DrawsAll a r old mid → IsDone b r result mid new → IsDone (a before b) r result old new
draws-then (Ok y) one two = record { ok = (_, one, two.ok); err = tt }
draws-then (Err e) one two = record { ok = tt; err = inr ((_, one, two.err)) }

pub done-stop : {A B : Type 0} {a b : Drawing} {r : Rect} {e : AllocError} {old new : BufferData} (result : Result B AllocError)
    → IsErr result → IsDone {A = A} a r (Err e) old new → IsDone (a before b) r result old new
done-stop (Ok y) err one = let no : false ≡ true = err in absurd (cc)
done-stop (Err e) err one = record { ok = tt; err = inl one.err }

pub done-in : {A : Type 0} {d : Drawing} {r : Rect} (c : Cut) (part : Rect) {old new : BufferData} (result : Result A AllocError)
    → IsDone d part result old new → part ≡ cut_from c r → IsDone (over c d) r result old new
done-in c part (Ok x) done is = record { ok = rw is at done.ok; err = tt }
done-in c part (Err e) done is = record { ok = tt; err = rw is at done.err }

-- the same in a loop
pub continues-all : {d : Drawing} {r : Rect} {s : BufferData} → Continues d r d r s s
continues-all = record { ok = λ new is. is; err = λ new is. is }

pub continues-next : {A : Type 0} {a b all : Drawing} {r whole : Rect} {x : A} {old now mid : BufferData}
    → Continues (a before b) r all whole old now → IsDone a r (Ok x) now mid → Continues b r all whole old mid
continues-next is one = record {
  ok = λ new rest. is.ok new ((_, one.ok, rest));
  err = λ new rest. is.err new (inr ((_, one.ok, rest)));
}

pub continues-in : {d all : Drawing} {r whole : Rect} {old now : BufferData} (c : Cut) → Continues (over c d) r all whole old now
    → Continues d (cut_from c r) all whole old now
continues-in c is = record { ok = is.ok; err = is.err }

pub continues-stop : {A B : Type 0} {a b all : Drawing} {r whole : Rect} {e : AllocError} {old now new : BufferData}
    (result : Result B AllocError) → IsErr result → Continues (a before b) r all whole old now
    → IsDone {A = A} a r (Err e) now new → IsDone all whole result old new
continues-stop (Ok y) err is one = let no : false ≡ true = err in absurd (cc)
continues-stop (Err e) err is one = record { ok = tt; err = is.err _ (inl one.err) }

pub continues-end : {A : Type 0} {all : Drawing} {r whole : Rect} {x : A} {old now : BufferData}
    → Continues nothing r all whole old now → IsDone all whole (Ok x) old now
continues-end is = record { ok = is.ok _ refl; err = tt }

-- what is drawn one after the other
pub ruleset drawing_steps = (done-all, done-err, done-then, draws-then, done-stop, done-in)

-- and what is drawn if a test holds
pub ruleset drawing_choices = (done-if, done-skip)
