-- Marks are asked about in turn.
use Rattle.std.proofs.Common.{◌≡◌, ◌⊎◌, inl, inr, ℕ, ◌<◌, ◌&&◌, Bool, true, false, nat_lt, if◌then◌else◌, List, [], length, Option, Some, None, refl, ap, ◌∙◌, arith, zero, suc, ◌∷◌, ◌++◌, ◌==◌, not, drop}
use Rattle.std.specs.Prelude.{slice_get, is_some, option_to_list}
use Rattle.std.specs.Option.{option_and_then}
use Rattle.std.proofs.lemmas.Bool.Decides.{nat_tests}
use Rattle.std.proofs.lemmas.List.Elements.{All-nil, All-filter}
use Rattle.std.specs.declared.alloc.Global.{Global}
use Rattle.ratatui_core.specs.Layout.{Size}
use Rattle.ratatui_acts.specs.declared.message.Message.{Message}
use Rattle.ratatui_acts.specs.declared.message.Message.TheVariants as message
use Rattle.files.specs.declared.browser.Browser.{Browser}
use Rattle.files.specs.declared.browser.Mode.{Mode}
use Rattle.files.specs.declared.browser.Mode.TheVariants.{Looking, Listing, Entering, Leaving, Trashing, Removing}
use Rattle.files.specs.declared.browser.Mode.TheVariants.{Renaming, Making, Over, Pasting, Sorting, Seeking}
use Rattle.files.specs.declared.browser.Mode.TheVariants.{Going, Visiting, Locating, Completing}
use Rattle.files.specs.declared.browser.Mode.TheVariants.{CountingToTrash, CountingToRemove}
use Rattle.files.specs.declared.browser.Mode.TheVariants.{Returning, Undoing, Helping, Chosen}
use Rattle.files.specs.declared.notes.Noted.{Noted}
use Rattle.files.specs.declared.keys.Wish.TheVariants as wish
use Rattle.files.specs.declared.list.Listing.{Listing as ListingData}
use Rattle.files.specs.declared.list.Outcome.{Outcome}
use Rattle.files.specs.declared.list.Outcome.TheVariants as outcome
use Rattle.files.specs.declared.marks.Mark.{Mark}
use Rattle.files.specs.Texts.{selected_text}
use Rattle.files.specs.Marks.{is_mark_named, first_mark_place, marks_but, is_selected_marked, IsMarkListed, AreMarksListed}
use Rattle.files.specs.Moves.{browsed_after, new_browser, wished, first_mark_selected, removals_go_on, gone_on, folder_shown}
use Rattle.files.specs.Moves.{found_selected, mode_following, typing_name, noted_unless, noted_after}
use Rattle.files.specs.Laws.{AsksAbout, WillAskAbout}
use Rattle.files.proofs.LawLemmas.{event-marks, goes-on, completed-keeps, counted-keeps, failed-keeps}
use Rattle.files.specs.Counting.{asked_mode, asking_about, counting_for, selects_folder}
use Rattle.files.proofs.MarkLemmas.{left-listed, first-selected, head-of, some-listed}

pub marks-first : (alloc : Global) (title : List ℕ) (size : Size) → AreMarksListed (new_browser alloc title size)
marks-first alloc title size = All-nil (IsMarkListed [])

pub marks-next : (b : Browser) (m : Message Outcome) → AreMarksListed b → AreMarksListed (browsed_after b m)
unfolding browsed_after
marks-next b (message.Event e) all = event-marks b e all
marks-next b (message.Tick passed) all = all
marks-next b (message.Answer (outcome.Listed l)) all = left-listed l b
marks-next b (message.Answer (outcome.Glanced g)) all = all
marks-next b (message.Answer outcome.Done) all = (goes-on b.mode b).marks all
marks-next b (message.Answer (outcome.Completed rest)) all = (completed-keeps rest b).marks all
marks-next b (message.Answer (outcome.Counted n)) all = (counted-keeps b.mode n b).marks all
marks-next b (message.Answer (outcome.Failed why)) all = (failed-keeps why b).marks all

-- ---- questions

abbrev asked_if : Bool → Mode → Browser → Browser
asked_if test mode b = if test then asking_about mode (first_mark_selected b) else b

asks-first : (test : Bool) (mode : Mode) (b : Browser) (mark : Mark) → test ≡ true → AreMarksListed b → slice_get b.marks 0 ≡ Some mark
    → AsksAbout mode mark.name (asked_if test mode b)
asks-first true mode b mark on all is = record {
  mode = refl;
  entry = first-selected b mark (head-of (IsMarkListed b.list) b.marks mark all is) is;
}
asks-first false mode b mark on all is = absurd (cc)

is-some : (b : Browser) (mark : Mark) → AreMarksListed b → slice_get b.marks 0 ≡ Some mark → nat_lt 0 (length b.list) ≡ true
is-some b mark all is =
    let some = some-listed b.list mark (head-of (IsMarkListed b.list) b.marks mark all is) in grind (arith, nat_tests, some)

and-true : (a b : Bool) → a ≡ true → b ≡ true → (a && b) ≡ true
and-true a b one two = rw one two

pub removes-first : (b : Browser) (mark : Mark) → AreMarksListed b → slice_get b.marks 0 ≡ Some mark
    → AsksAbout Removing mark.name (wished wish.Remove b)
removes-first b mark all is =
    let k = asks-first (nat_lt 0 (length b.list)) Removing b mark (is-some b mark all is) all is in
    record { mode = k.mode; entry = k.entry }

pub trashes-first : (b : Browser) (mark : Mark) → AreMarksListed b → slice_get b.marks 0 ≡ Some mark → is_some b.trash ≡ true
    → AsksAbout Trashing mark.name (wished wish.Trash b)
trashes-first b mark all is there =
    let k = asks-first (is_some b.trash && nat_lt 0 (length b.list)) Trashing b mark
    (and-true (is_some b.trash) (nat_lt 0 (length b.list)) there (is-some b mark all is)) all is in
    record { mode = k.mode; entry = k.entry }

follows-by : (mode : Mode) (b : Browser) (marks : List Mark) (mark : Mark) → slice_get marks 0 ≡ Some mark
    → (if length marks == 0 then Looking else mode) ≡ mode
follows-by mode b [] mark is = absurd (cc)
follows-by mode b (m ∷ marks) mark is =
    let some : (length (m ∷ marks) == 0) ≡ false = grind (arith, nat_tests) in rw some refl

found-marks : (found : Option ℕ) (b : Browser) → (found_selected found b).marks ≡ b.marks
found-marks None b = refl
found-marks (Some place) b = refl

goes-next : (mode : Mode) (b : Browser) (mark : Mark) → AreMarksListed b → slice_get (marks_but (selected_text b) b.marks) 0 ≡ Some mark
    → (selected_text (removals_go_on mode b) ≡ mark.name) × ((removals_go_on mode b).follows ≡ mode)
goes-next mode b mark all is =
    let c = record b { marks = marks_but (selected_text b) b.marks } in
    let rest = All-filter (λ m. not (is_mark_named (selected_text b) m)) (IsMarkListed b.list) b.marks all in (
      first-selected c mark (head-of (IsMarkListed b.list) c.marks mark rest is) is,
      ap (λ marks. if length marks == 0 then Looking else mode) (found-marks (first_mark_place c) c) ∙ follows-by mode b c.marks mark is,
    )

will-ask : (mode : Mode) (b : Browser) (mark : Mark) → (mode ≡ Removing) ⊎ (mode ≡ Trashing) → AreMarksListed b
    → slice_get (marks_but (selected_text b) b.marks) 0 ≡ Some mark
    → (selected_text (gone_on mode b) ≡ mark.name) × ((gone_on mode b).follows ≡ mode)
will-ask mode b mark (inl at) all is = rw at (goes-next Removing b mark all is)
will-ask mode b mark (inr at) all is = rw at (goes-next Trashing b mark all is)

pub asks-next : (b : Browser) (mark : Mark) → AreMarksListed b → (b.mode ≡ Removing) ⊎ (b.mode ≡ Trashing)
    → slice_get (marks_but (selected_text b) b.marks) 0 ≡ Some mark
    → WillAskAbout b.mode mark.name (browsed_after b (message.Answer outcome.Done))
unfolding browsed_after
asks-next b mark all at is =
    let k = will-ask b.mode b mark at all is in record { mode = refl; entry = k.0; follows = k.1 }

-- ---- after a listing

only-if : (test : Bool) (mode : Mode) → ((if test then mode else Looking) ≡ Removing)
    ⊎ ((if test then mode else Looking) ≡ Trashing) → test ≡ true
only-if true mode asks = refl
only-if false mode (inl asks) = absurd (cc)
only-if false mode (inr asks) = absurd (cc)

never-if : (test : Bool) → ((if test then Pasting else Looking) ≡ Removing) ⊎ ((if test then Pasting else Looking) ≡ Trashing) → ⊥
never-if true (inl asks) = absurd (cc)
never-if true (inr asks) = absurd (cc)
never-if false (inl asks) = absurd (cc)
never-if false (inr asks) = absurd (cc)

never : (Looking ≡ Removing) ⊎ (Looking ≡ Trashing) → ⊥
never (inl asks) = absurd (cc)
never (inr asks) = absurd (cc)

marked-by : (mode : Mode) (c : Browser) → (mode_following mode c ≡ Removing) ⊎ (mode_following mode c ≡ Trashing)
    → is_selected_marked c ≡ true
marked-by Trashing c asks = only-if (is_selected_marked c) (asked_mode Trashing c) asks
marked-by Removing c asks = only-if (is_selected_marked c) (asked_mode Removing c) asks
marked-by Pasting c asks = absurd (never-if (is_some c.noted) asks)
marked-by Looking c asks = absurd (never asks)
marked-by Listing c asks = absurd (never asks)
marked-by Entering c asks = absurd (never asks)
marked-by Leaving c asks = absurd (never asks)
marked-by Returning c asks = absurd (never asks)
marked-by Renaming c asks = absurd (never asks)
marked-by Making c asks = absurd (never asks)
marked-by Sorting c asks = absurd (never asks)
marked-by Seeking c asks = absurd (never asks)
marked-by Going c asks = absurd (never asks)
marked-by Visiting c asks = absurd (never asks)
marked-by Locating c asks = absurd (never asks)
marked-by Completing c asks = absurd (never asks)
marked-by CountingToTrash c asks = absurd (never asks)
marked-by CountingToRemove c asks = absurd (never asks)
marked-by Undoing c asks = absurd (never asks)
marked-by Helping c asks = absurd (never asks)
marked-by Over c asks = absurd (never asks)
marked-by Chosen c asks = absurd (never asks)

pub asks-marked : (b : Browser) (l : ListingData) → (browsed_after b (message.Answer (outcome.Listed l))).mode ≡ Removing
    ⊎ (browsed_after b (message.Answer (outcome.Listed l))).mode ≡ Trashing
    → is_selected_marked (browsed_after b (message.Answer (outcome.Listed l))) ≡ true
unfolding browsed_after
asks-marked b l asks = marked-by b.follows (folder_shown l b) asks

-- ---- what is noted

first-of : (b : Browser) (more rest : List Noted) (noted : Noted) → slice_get more 0 ≡ Some noted → slice_get (more ++ rest) 0 ≡ Some noted
first-of b [] rest noted is = absurd (cc)
first-of b (n ∷ more) rest noted is = is

left-some : (n : ℕ) → 0 < n → (if n == 0 then Looking else Pasting) ≡ Pasting
left-some zero some = absurd (omega (arith, some))
left-some (suc n) some = let other : (suc n == 0) ≡ false = grind (arith, nat_tests) in rw other refl

pastes-next : (mode : Mode) (b : Browser) (noted : Noted) → mode ≡ Pasting → 0 < b.left → slice_get b.more 0 ≡ Some noted
    → ((gone_on mode b).noted ≡ Some noted) × ((gone_on mode b).follows ≡ Pasting)
pastes-next mode b noted at some is = rw at (first-of b b.more _ noted is, left-some b.left some)

pub pasted-next : (b : Browser) (noted : Noted) → b.mode ≡ Pasting → 0 < b.left → slice_get b.more 0 ≡ Some noted
    → ((browsed_after b (message.Answer outcome.Done)).noted ≡ Some noted)
    × ((browsed_after b (message.Answer outcome.Done)).follows ≡ Pasting)
    × ((browsed_after b (message.Answer outcome.Done)).mode ≡ Listing)
unfolding browsed_after
pasted-next b noted at some is = let k = pastes-next b.mode b noted at some is in (k.0, k.1, refl)

pub pasted-asks : (b : Browser) (l : ListingData) (noted : Noted) → b.noted ≡ Some noted → b.follows ≡ Pasting
    → ((browsed_after b (message.Answer (outcome.Listed l))).mode ≡ Pasting)
    × ((browsed_after b (message.Answer (outcome.Listed l))).typed ≡ typing_name noted.name)
    × ((browsed_after b (message.Answer (outcome.Listed l))).noted ≡ Some noted)
unfolding browsed_after
pasted-asks b l noted is at = rw at (rw is (refl, refl, refl))

split : (all : List Noted) → option_to_list (slice_get all 0) ++ drop 1 all ≡ all
split [] = refl
split (n ∷ all) = refl

kept-list : (moved : Bool) (noted : Noted) → option_to_list (noted_unless moved noted) ≡ (if moved then [] else noted ∷ [])
kept-list true noted = refl
kept-list false noted = refl

pastes-keep : (mode : Mode) (b : Browser) (noted : Noted) → mode ≡ Pasting → b.noted ≡ Some noted
    → option_to_list (gone_on mode b).noted ++ (gone_on mode b).more ≡ b.more ++ (if noted.is_moved then [] else noted ∷ [])
pastes-keep mode b noted at is = rw at (split (noted_after b)
    ∙ ap (λ o. b.more ++ option_to_list (option_and_then (λ it. noted_unless it.is_moved it) o)) is
    ∙ ap (λ kept. b.more ++ kept) (kept-list noted.is_moved noted))

pub pasted-keeps : (b : Browser) (noted : Noted) → b.mode ≡ Pasting → b.noted ≡ Some noted
    → option_to_list (browsed_after b (message.Answer outcome.Done)).noted ++ (browsed_after b (message.Answer outcome.Done)).more
    ≡ b.more ++ (if noted.is_moved then [] else noted ∷ [])
unfolding browsed_after
pasted-keeps b noted at is = pastes-keep b.mode b noted at is
