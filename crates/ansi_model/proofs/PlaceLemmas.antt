-- Symbols that are placed one by one.
use Rattle.std.proofs.Common.{◌≡◌, ℕ, ◌||◌, not, nat_le, Bool, true, false, List, ◌++◌, encode_utf8, Option, Some, None}
use Rattle.std.proofs.Common.{refl, sym, ap, ◌∙◌, subst, arith, append-nil, []}
use Rattle.std.proofs.lemmas.Bool.Decides.{nat_tests}
use Rattle.std.specs.{Bool.then_some, Option.is_some}
use Rattle.ratatui_core.specs.Layout.{Position}
use Rattle.ansi_model.specs.{declared.sgr.Sgr.Sgr, declared.pen.Pen.Pen, Symbols.is_printed, Symbols.is_plain_char}
use Rattle.ansi_model.specs.{Drawing.is_at, Drawing.is_place, Drawing.ChangesSgr, Emulator.cursor_moved}
use Rattle.ansi_model.specs.Emulator.{holding}
use Rattle.ansi_model.specs.Drawing.ChangesSgr.{Stays, Sets}
use Rattle.ansi_model.specs.Sends.{Sends, Performs, typed}
use Rattle.ansi_model.specs.Places.{Placed, PlacesEach, PlacesOn}
use Rattle.ansi_model.specs.Places.Placed.{Begins, Moves, Prints, Types, Inks, Holds}
use Rattle.ansi_model.proofs.{ReadLemmas.Leads-later, SymbolLemmas.plain-printed}

-- ---- bytes before those

pub places-later : (before : List ℕ) {first : List ℕ} {known : Bool} {new : List ℕ} → Placed first known new
    → Placed (before ++ first) known (before ++ new)
places-later before Begins = Begins
places-later before (Moves x y placed does) = Moves x y (places-later before placed) (Leads-later before does)
places-later before (Prints symbol is placed does) = Prints symbol is (places-later before placed) (Leads-later before does)
places-later before (Types c low placed does) = Types c low (places-later before placed) (Leads-later before does)
places-later before (Inks sgr placed does) = Inks sgr (places-later before placed) (Leads-later before does)
places-later before (Holds on placed does) = Holds on (places-later before placed) (Leads-later before does)

-- symbols are placed, and then others from a place that isn't known
pub places-then : {first mid : List ℕ} {known : Bool} {new : List ℕ} → Placed first false mid → Placed mid known new
    → Placed first known new
places-then start Begins = start
places-then start (Moves x y placed does) = Moves x y (places-then start placed) does
places-then start (Prints symbol is placed does) = Prints symbol is (places-then start placed) does
places-then start (Types c low placed does) = Types c low (places-then start placed) does
places-then start (Inks sgr placed does) = Inks sgr (places-then start placed) does
places-then start (Holds on placed does) = Holds on (places-then start placed) does

-- ---- a pen

pub places-on : (out : List ℕ) (p : Pen) → PlacesOn out p out p
places-on out p = record { kept = refl; places = λ wide first placed. placed }

pub places-on-then : {a b c : List ℕ} {p q r : Pen} → PlacesOn a p b q → PlacesOn b q c r → PlacesOn a p c r
places-on-then one two = record {
  kept = two.kept ∙ one.kept;
  places = λ wide first placed. two.places (one.kept ∙ wide) first (one.places wide first placed);
}

-- a rendition
pub places-sgr : (before : Pen) (sgr : Sgr) (old new : List ℕ) → ChangesSgr before.sgr sgr old new
    → PlacesOn old before new (record before { sgr = sgr })
places-sgr before sgr old new (Stays same none) = record {
  kept = refl;
  places = λ wide first placed. subst (Placed first (is_some before.at)) (sym none) placed;
}
places-sgr before sgr old new (Sets does) = record {
  kept = refl;
  places = λ wide first placed. Inks sgr placed does;
}

-- a move
pub places-moved : (x y : ℕ) (place : Position) (before after : Pen) (old new : List ℕ) → Performs old new (cursor_moved x y)
    → after.ambiguous_is_wide ≡ before.ambiguous_is_wide
    → after.at ≡ Some place → PlacesOn old before new after
places-moved x y place before after old new does kept at = record {
  kept = kept;
  places = λ wide first placed. subst (λ o. Placed first (is_some o) new) (sym at) (Moves x y placed does);
}

-- a symbol after which no place is known
pub places-symbol : (x y : ℕ) (symbol : List ℕ) (before after : Pen) (old mid new : List ℕ) → Performs old mid (cursor_moved x y)
    → Sends mid new (typed symbol) → is_printed symbol ≡ true → after.at ≡ None
    → after.ambiguous_is_wide ≡ before.ambiguous_is_wide → PlacesOn old before new after
places-symbol x y symbol before after old mid new does sends is none kept = record {
  kept = kept;
  places = λ wide first placed. subst (λ o. Placed first (is_some o) new) (sym none)
      (Prints symbol is (Moves x y placed does) sends);
}

-- ---- a plain character

-- where a pen is a place is known
known-at : (x y : ℕ) (at : Option Position) → is_place x y at ≡ true → is_some at ≡ true
known-at x y None is = is
known-at x y (Some p) is = refl

-- once its place is known
module _ (c : ℕ) (before after : Pen) (mid new : List ℕ) (place : Position) (plain : is_plain_char c ≡ true)
    (sends : Sends mid new (typed (encode_utf8 c)))
    (at : after.at ≡ then_some (not before.ambiguous_is_wide || nat_le c 126) place) where
  typed-by : (wide small : Bool) → before.ambiguous_is_wide ≡ wide → nat_le c 126 ≡ small → wide ≡ true → (first : List ℕ)
      → Placed first true mid → Placed first (is_some after.at) new
  typed-by true true flag is w first placed = rw (at, flag, is) (Types c (grind (arith, nat_tests)) placed sends)
  typed-by true false flag is w first placed = rw (at, flag, is)
      (Prints (encode_utf8 c) (plain-printed c plain) placed sends)
  typed-by false small flag is w first placed = let h : ⊥ = cc in absurd h

  typed-on : before.ambiguous_is_wide ≡ true → (first : List ℕ) → Placed first true mid → Placed first (is_some after.at) new
  typed-on wide first placed = typed-by true (nat_le c 126) wide refl refl first placed

  pub places-here : (x y : ℕ) → is_at x y before ≡ true → after.ambiguous_is_wide ≡ before.ambiguous_is_wide
      → PlacesOn mid before new after
  places-here x y here kept = record {
    kept = kept;
    places = λ wide first placed. typed-on wide first
        (subst (λ known. Placed first known mid) (known-at x y before.at here) placed);
  }

  pub places-there : (x y : ℕ) (old : List ℕ) → Performs old mid (cursor_moved x y)
      → after.ambiguous_is_wide ≡ before.ambiguous_is_wide → PlacesOn old before new after
  places-there x y old does kept = record {
    kept = kept;
    places = λ wide first placed. typed-on wide first (Moves x y placed does);
  }

-- ---- a draw

-- what a pen that knows no place sends
pub places-each : {old new : List ℕ} (before after : Pen) → before.at ≡ None → PlacesOn old before new after
    → before.ambiguous_is_wide ≡ true → PlacesEach old new
places-each {old} before after none on wide = record {
  known = is_some after.at;
  places = on.places wide old (subst (λ o. Placed old (is_some o) old) (sym none) Begins);
}

-- the same within a synchronized update
pub each-held : {old opened drawn new : List ℕ} → Performs old opened (holding true) → PlacesEach opened drawn
    → Performs drawn new (holding false) → PlacesEach old new
each-held opens each closes = record {
  known = each.known;
  places = Holds false (places-then (Holds true Begins opens) each.places) closes;
}

-- the same after bytes that were sent before
pub each-sent : (before out more after : List ℕ) → PlacesEach out more → out ≡ [] → after ≡ before ++ more
    → PlacesEach before after
each-sent before out more after each none e = record {
  known = each.known;
  places = subst (λ xs. Placed before each.known xs) (sym e)
      (subst (λ xs. Placed xs each.known (before ++ more)) (ap (λ xs. before ++ xs) none ∙ append-nil before)
      (places-later before each.places));
}
