-- What is seen beside a folder.
use Rattle.std.proofs.Common.{◌≡◌, ◌&&◌, ◌||◌, ◌≤◌, ℕ, Bool, true, false, if◌then◌else◌, List, Option, Some, None}
use Rattle.std.proofs.Common.{refl, sym, subst, arith}
use Rattle.std.specs.Prelude.{is_some, nat_le}
use Rattle.std.specs.Str.{bytes_eq}
use Rattle.std.proofs.lemmas.{Slice.Eq.bytes_eq-Decides, Bool.Decides.nat_tests}
use Rattle.ratatui_events.specs.declared.event.Event.{Event}
use Rattle.ratatui_reads.specs.Reads.{size_in}
use Rattle.ratatui_acts.specs.declared.message.Message.TheVariants as message
use Rattle.ratatui_files.specs.declared.answer.Failure.{Failure}
use Rattle.files.specs.declared.browser.Browser.{Browser}
use Rattle.files.specs.declared.browser.Mode.{Mode}
use Rattle.files.specs.declared.browser.Mode.TheVariants.{Looking, Listing, Entering, Leaving, Trashing, Removing}
use Rattle.files.specs.declared.browser.Mode.TheVariants.{Renaming, Making, Over, Pasting, Sorting, Seeking}
use Rattle.files.specs.declared.browser.Mode.TheVariants.{Going, Visiting, Locating, Completing}
use Rattle.files.specs.declared.browser.Mode.TheVariants.{CountingToTrash, CountingToRemove}
use Rattle.files.specs.declared.browser.Mode.TheVariants.{Returning, Undoing, Helping, Chosen}
use Rattle.files.specs.declared.list.Outcome.TheVariants as outcome
use Rattle.files.specs.declared.glance.Side.{Side}
use Rattle.files.specs.declared.glance.Side.TheVariants.{Above, Ahead}
use Rattle.files.specs.declared.glance.Glance.{Glance}
use Rattle.files.specs.declared.glance.Glances.{Glances}
use Rattle.files.specs.declared.looks.Aim.{Aim}
use Rattle.files.specs.Keys.{is_input}
use Rattle.files.specs.Texts.{selected_text}
use Rattle.files.specs.Glances.{is_seen_at, current, seen_above, seen_ahead, glance_on, is_looking, is_wide, side_lacking, side_wanted}
use Rattle.files.specs.Looks.{look_by, IsAim}
use Rattle.files.specs.Moves.{acts, asks, browsed, browser_at_told_size, browsed_after}
use Rattle.files.specs.Laws.{IsLook, seen_last}
use Rattle.files.proofs.LawLemmas.{browsed-keeps, goes-on, completed-keeps, failed-keeps}

-- ---- what is seen is there

kept-by : (test : Bool) (side : Side) (b : Browser) (h g : Glance) → is_seen_at side b h ≡ test → (if test then Some h else None) ≡ Some g
    → is_seen_at side b g ≡ true
kept-by true side b h g at is = let same : h ≡ g = cc in subst (λ (x : Glance). is_seen_at side b x ≡ true) same at
kept-by false side b h g at is = absurd (cc)

current-at : (side : Side) (b : Browser) (o : Option Glance) (g : Glance) → current side b o ≡ Some g → is_seen_at side b g ≡ true
current-at side b None g is = absurd (cc)
current-at side b (Some h) g is = kept-by (is_seen_at side b h) side b h g refl is

and-both : (a b : Bool) → (a && b) ≡ true → (a ≡ true) × (b ≡ true)
and-both true true is = (refl, refl)
and-both true false is = absurd (cc)
and-both false b is = absurd (cc)

pub ahead-there : (b : Browser) (g : Glance) → seen_ahead b ≡ Some g → (g.folder ≡ b.folder) × (g.name ≡ selected_text b)
ahead-there b g is =
    let both = and-both (bytes_eq g.folder b.folder) (bytes_eq g.name (selected_text b)) (current-at Ahead b b.glances.ahead g is) in
    ((bytes_eq-Decides g.folder b.folder).0 both.0, (bytes_eq-Decides g.name (selected_text b)).0 both.1)

pub above-there : (b : Browser) (g : Glance) → seen_above b ≡ Some g → g.folder ≡ b.folder
above-there b g is = (bytes_eq-Decides g.folder b.folder).0 (current-at Above b b.glances.above g is)

-- ---- what changes it

taken-by : (test : Bool) (side : Side) (g : Glance) (b : Browser) → test ≡ true
    → seen_last side (record b {
      glances = if test then glance_on side g b.glances else b.glances;
      is_sure = false;
      is_quiet = false;
    }) ≡ Some g
taken-by true Above g b on = refl
taken-by true Ahead g b on = refl
taken-by false side g b on = absurd (cc)

pub glance-taken : (b : Browser) (g : Glance) → is_seen_at g.side b g ≡ true
    → seen_last g.side (browsed_after b (message.Answer (outcome.Glanced g))) ≡ Some g
unfolding browsed_after
glance-taken b g at = taken-by (is_seen_at g.side b g) g.side g b at

if-not : (test : Bool) (one two : Glances) → test ≡ false → (if test then one else two) ≡ two
if-not true one two off = absurd (cc)
if-not false one two off = refl

pub glance-dropped : (b : Browser) (g : Glance) → is_seen_at g.side b g ≡ false
    → (browsed_after b (message.Answer (outcome.Glanced g))).glances ≡ b.glances
unfolding browsed_after
glance-dropped b g off = if-not (is_seen_at g.side b g) (glance_on g.side g b.glances) b.glances off

sized-glances : (size : Option (ℕ × ℕ)) (b : Browser) → (browser_at_told_size size b).glances ≡ b.glances
sized-glances None b = refl
sized-glances (Some size) b = refl

told-glances : (input : Bool) (e : Event) (b : Browser)
    → (if input then record (browsed b.mode e b) { is_quiet = false } else browser_at_told_size (size_in e) b).glances ≡ b.glances
told-glances true e b = (browsed-keeps b.mode e b refl).glances
told-glances false e b = sized-glances (size_in e) b

pub event-glances : (b : Browser) (e : Event) → (browsed_after b (message.Event e)).glances ≡ b.glances
unfolding browsed_after
event-glances b e = told-glances (is_input e) e b

pub done-glances : (b : Browser) → (browsed_after b (message.Answer outcome.Done)).glances ≡ b.glances
unfolding browsed_after
done-glances b = (goes-on b.mode b).glances

pub completed-glances : (b : Browser) (rest : List ℕ)
    → (browsed_after b (message.Answer (outcome.Completed rest))).glances ≡ b.glances
unfolding browsed_after
completed-glances b rest = (completed-keeps rest b).glances

pub failed-glances : (b : Browser) (why : Failure) → (browsed_after b (message.Answer (outcome.Failed why))).glances ≡ b.glances
unfolding browsed_after
failed-glances b why = (failed-keeps why b).glances

-- ---- when something is looked at

other-one : (a b : Bool) → (a || b) ≡ true → a ≡ false → b ≡ true
other-one true b is off = absurd (cc)
other-one false b is off = is

looked-by : (looking quiet wide : Bool) (side : Option Side) → is_some (if looking && quiet && wide then side else None) ≡ true
    → (looking ≡ true) × (quiet ≡ true) × (wide ≡ true)
looked-by true true true side is = (refl, refl, refl)
looked-by true true false side is = absurd (cc)
looked-by true false wide side is = absurd (cc)
looked-by false quiet wide side is = absurd (cc)

looking-mode : (mode : Mode) → is_looking mode ≡ true → mode ≡ Looking
looking-mode Looking is = refl
looking-mode Listing is = absurd (cc)
looking-mode Entering is = absurd (cc)
looking-mode Leaving is = absurd (cc)
looking-mode Returning is = absurd (cc)
looking-mode Trashing is = absurd (cc)
looking-mode Removing is = absurd (cc)
looking-mode Renaming is = absurd (cc)
looking-mode Making is = absurd (cc)
looking-mode Pasting is = absurd (cc)
looking-mode Sorting is = absurd (cc)
looking-mode Seeking is = absurd (cc)
looking-mode Going is = absurd (cc)
looking-mode Visiting is = absurd (cc)
looking-mode Locating is = absurd (cc)
looking-mode Completing is = absurd (cc)
looking-mode CountingToTrash is = absurd (cc)
looking-mode CountingToRemove is = absurd (cc)
looking-mode Undoing is = absurd (cc)
looking-mode Helping is = absurd (cc)
looking-mode Over is = absurd (cc)
looking-mode Chosen is = absurd (cc)

wide-columns : (width : ℕ) → nat_le 60 width ≡ true → 60 ≤ width
wide-columns width is = grind (arith, nat_tests)

pub looks-quiet : (b : Browser) → asks b ≡ true → acts b ≡ false → (b.mode ≡ Looking) × (b.is_quiet ≡ true) × (60 ≤ b.size.width)
looks-quiet b is off =
    let all = looked-by (is_looking b.mode) b.is_quiet (is_wide b.size.width) (side_lacking b)
    (other-one (acts b) (is_some (side_wanted b)) is off) in
    (looking-mode b.mode all.0, all.1, wide-columns b.size.width all.2)

-- ---- what it is looked at by

look-light : (leaf : Bool) (path : List ℕ) → IsLook (look_by leaf path)
look-light true path = (refl, refl)
look-light false path = tt

pub aim-light : (b : Browser) (side : Side) (aim : Aim) → IsAim side b aim → IsLook aim.command
aim-light b Above aim is = subst IsLook (sym is.command) tt
aim-light b Ahead aim is = subst IsLook (sym is.command) (look-light is.row.is_leaf _)
