-- What a change that was done leaves of a browser.
use Rattle.std.proofs.Common.{◌≡◌, Bool, Option, None, Some, ℕ, refl, ap, ◌∙◌}
use Rattle.std.specs.Option.{option_or}
use Rattle.files.specs.declared.browser.Browser.{Browser}
use Rattle.files.specs.declared.browser.Mode.{Mode}
use Rattle.files.specs.declared.browser.Mode.TheVariants.{Looking, Listing, Entering, Leaving, Trashing, Removing}
use Rattle.files.specs.declared.browser.Mode.TheVariants.{Renaming, Making, Over, Pasting, Sorting, Seeking}
use Rattle.files.specs.declared.browser.Mode.TheVariants.{Going, Visiting, Locating, Completing}
use Rattle.files.specs.declared.browser.Mode.TheVariants.{CountingToTrash, CountingToRemove}
use Rattle.files.specs.declared.browser.Mode.TheVariants.{Returning, Undoing, Helping, Chosen}
use Rattle.files.specs.declared.undo.Moved.{Moved}
use Rattle.files.specs.Marks.{marks_but, first_mark_place}
use Rattle.files.specs.Texts.{selected_text}
use Rattle.files.specs.Moves.{found_selected, gone_on, finished, move_made, names_typed}

-- the mode and what was moved last are the same
record Stays (b c : Browser) : Type 0 where
  mode : c.mode ≡ b.mode
  last : c.last_move ≡ b.last_move

stays-found : (found : Option ℕ) (b : Browser) → Stays b (found_selected found b)
stays-found None b = record { mode = refl; last = refl }
stays-found (Some place) b = record { mode = refl; last = refl }

stays-removing : (b : Browser)
    → Stays b (found_selected (first_mark_place (record b { marks = marks_but (selected_text b) b.marks }))
    (record b { marks = marks_but (selected_text b) b.marks }))
stays-removing b =
    let c = record b { marks = marks_but (selected_text b) b.marks } in
    let s = stays-found (first_mark_place c) c in record { mode = s.mode; last = s.last }

stays-gone : (mode : Mode) (b : Browser) → Stays b (gone_on mode b)
stays-gone Trashing b = let s = stays-removing b in record { mode = s.mode; last = s.last }
stays-gone Removing b = let s = stays-removing b in record { mode = s.mode; last = s.last }
stays-gone Pasting b = record { mode = refl; last = refl }
stays-gone Looking b = record { mode = refl; last = refl }
stays-gone Listing b = record { mode = refl; last = refl }
stays-gone Entering b = record { mode = refl; last = refl }
stays-gone Leaving b = record { mode = refl; last = refl }
stays-gone Returning b = record { mode = refl; last = refl }
stays-gone Renaming b = record { mode = refl; last = refl }
stays-gone Making b = record { mode = refl; last = refl }
stays-gone Sorting b = record { mode = refl; last = refl }
stays-gone Seeking b = record { mode = refl; last = refl }
stays-gone Going b = record { mode = refl; last = refl }
stays-gone Visiting b = record { mode = refl; last = refl }
stays-gone Locating b = record { mode = refl; last = refl }
stays-gone Completing b = record { mode = refl; last = refl }
stays-gone CountingToTrash b = record { mode = refl; last = refl }
stays-gone CountingToRemove b = record { mode = refl; last = refl }
stays-gone Undoing b = record { mode = refl; last = refl }
stays-gone Helping b = record { mode = refl; last = refl }
stays-gone Over b = record { mode = refl; last = refl }
stays-gone Chosen b = record { mode = refl; last = refl }

pub finish-by : (b g n : Browser) (moved : Option Moved) (named : Bool) → g ≡ gone_on b.mode b
    → n ≡ record g { last_move = option_or moved g.last_move } → moved ≡ move_made b → named ≡ names_typed n.mode
    → record n { seeks_typed = named; mode = Listing } ≡ finished b
finish-by b g n moved named goes notes is names =
    let s = stays-gone b.mode b in
    let last : g.last_move ≡ b.last_move = ap (λ (x : Browser). x.last_move) goes ∙ s.last in
    let mode : n.mode ≡ b.mode = ap (λ (x : Browser). x.mode) notes ∙ ap (λ (x : Browser). x.mode) goes ∙ s.mode in
    ap (λ (x : Browser). record x { seeks_typed = named; mode = Listing }) notes
    ∙ ap (λ m. record g { last_move = option_or m g.last_move; seeks_typed = named; mode = Listing }) is
    ∙ ap (λ l. record g { last_move = option_or (move_made b) l; seeks_typed = named; mode = Listing }) last
    ∙ ap (λ t. record g { last_move = option_or (move_made b) b.last_move; seeks_typed = t; mode = Listing })
    (names ∙ ap names_typed mode)
    ∙ ap (λ (x : Browser). record x {
      last_move = option_or (move_made b) b.last_move;
      seeks_typed = names_typed b.mode;
      mode = Listing;
    }) goes
