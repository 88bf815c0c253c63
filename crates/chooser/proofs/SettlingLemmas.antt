-- The state of a chooser is settled, and its frame is that of the state.
use Rattle.std.proofs.Common.{◌≡◌, ◌==◌, ◌||◌, ◌<◌, ℕ, Bool, true, false, if◌then◌else◌, List, [], ◌∷◌, length, Some, None}
use Rattle.std.proofs.Common.{Result, Ok, Err, OnOk, refl, ap, subst, ◌∙◌, arith}
use Rattle.std.specs.declared.alloc.Global.{Global}
use Rattle.ratatui_core.specs.{Layout.Rect, Layout.Size, Layout.intersected, Buffer.BufferData}
use Rattle.ratatui_reads.specs.Reads.{size_in}
use Rattle.ratatui_acts.specs.declared.message.Message.{Message}
use Rattle.ratatui_acts.specs.declared.message.Message.TheVariants as message
use Rattle.widget_list.specs.{declared.list.List.List as ListData, declared.item.ListItem.ListItem}
use Rattle.widget_list.specs.{declared.state.ListState.ListState}
use Rattle.widget_list.specs.Items.{RendersList}
use Rattle.widget_list.specs.Settled.{settled_inside, next_list_state, settled_list}
use Rattle.widget_list.proofs.SettledLemmas.{next-twice, first-state-stays, list-leads}
use Rattle.widget_list.proofs.SettledFrameLemmas.{settles-one, rendering-settles}
use Rattle.chooser.specs.declared.chooser.Chooser.{Chooser}
use Rattle.chooser.specs.Choosing.{planet_items, IsPlanetList, new_chooser, settled_chooser, chooser_after, chooser_by_event, chooser_at_size}
use Rattle.chooser.specs.Choosing.{PaintsPlanets, ShowsPlanets}

-- the state of the list, settled
abbrev pub planets_state : Rect → ListState → ListState
planets_state = settled_inside None (λ r. next_list_state planet_items 0 r.height)

-- a list of the planets settles it so
pub planets-settle : (l : ListData) (area : Rect) (s : ListState) → IsPlanetList l → settled_list l area s ≡ planets_state area s
planets-settle l area s is = rw (is.no_box, is.items_are, is.unpadded) refl

twice-by : {S : Type 0} (test : Bool) (f : S → S) (s : S) → f (f s) ≡ f s
    → (if test then (if test then s else f s) else f (if test then s else f s)) ≡ (if test then s else f s)
twice-by true f s twice = refl
twice-by false f s twice = twice

planets-twice : (area : Rect) (s : ListState) → planets_state area (planets_state area s) ≡ planets_state area s
planets-twice area s =
    twice-by ((area.width == 0) || (area.height == 0)) (next_list_state planet_items 0 area.height) s
    (next-twice planet_items 0 area.height s)

pub chooser-twice : (c : Chooser) → settled_chooser (settled_chooser c) ≡ settled_chooser c
chooser-twice c = ap (λ (s : ListState). record c { list = s }) (planets-twice c.area c.list)

-- at the beginning the state is settled
some-planets : 0 < length planet_items
unfolding planet_items
some-planets = omega arith

start-of : (items : List ListItem) (height : ℕ) → 0 < length items
    → next_list_state items 0 height (record { offset = 0; selected = Some 0 }) ≡ record { offset = 0; selected = Some 0 }
start-of [] height some = absurd (omega arith)
start-of (item ∷ items) height some = first-state-stays item items height 0

stays-by : {S : Type 0} (test : Bool) (f : S → S) (s : S) → f s ≡ s → (if test then s else f s) ≡ s
stays-by true f s stays = refl
stays-by false f s stays = stays

pub new-settled : (alloc : Global) (size : Size) → settled_chooser (new_chooser alloc size) ≡ new_chooser alloc size
new-settled alloc size =
    let c = new_chooser alloc size in
    ap (λ (s : ListState). record c { list = s }) (stays-by ((c.area.width == 0) || (c.area.height == 0))
    (next_list_state planet_items 0 c.area.height) c.list (start-of planet_items c.area.height some-planets))

-- what is told leaves a settled state settled
pub stays-settled : {R : Type 0} (c : Chooser) (m : Message R) → settled_chooser c ≡ c
    → settled_chooser (chooser_after c m) ≡ chooser_after c m
stays-settled c (message.Event event) is = chooser-twice (chooser_by_event event (chooser_at_size (size_in event) c))
stays-settled c (message.Tick passed) is = is
stays-settled c (message.Answer answer) is = is

-- a frame of a settled state leaves it
pub frame-of-state : (c : Chooser) (area : Rect) (old new : BufferData) → settled_chooser c ≡ c
    → intersected area old.area ≡ c.area → PaintsPlanets c area old new → ShowsPlanets c area old new
frame-of-state c area old new settled at paints =
    let l = paints.list in
    let left : paints.after ≡ settled_list l (intersected area old.area) c.list =
    settles-one l.style l.block (list-leads l) (intersected area old.area) c.list paints.after
    (rendering-settles l.style l.block (list-leads l) c.list paints.after area old new paints.renders) in
    let same : paints.after ≡ c.list =
    left ∙ ap (λ a. settled_list l a c.list) at ∙ planets-settle l c.area c.list paints.is_list
    ∙ ap (λ (d : Chooser). d.list) settled in
    record {
      list = l;
      is_list = paints.is_list;
      renders = subst (λ (s : ListState). RendersList l c.list s area old new) same paints.renders;
    }

-- a list of planets that is rendered is what a chooser paints
pub paints-ok : {A E : Type 0} (r : Result A E) (c : Chooser) (area : Rect) (old new : BufferData) (l : ListData)
    (after : ListState) → IsPlanetList l → OnOk r (RendersList l c.list after area old new)
    → OnOk r (PaintsPlanets c area old new)
paints-ok (Ok x) c area old new l after is made = record { list = l; is_list = is; after = after; renders = made }
paints-ok (Err e) c area old new l after is made = tt
