-- What was written of a text, and what each terminal shows that has read it.
use Rattle.std.specs.Prelude.{◌≡◌, ℕ, List, ◌++◌, Option, Some, map}
use Rattle.ratatui_core.specs.{Layout.Size, Backend.Screen}
use Rattle.ansi_model.specs.{Emulator.Emulator, Emulator.rested, Sequences.feed, Screens.screen_shown}
use Rattle.ansi_model.specs.{Beginnings.IsAsFound, Beginnings.anew, Endings.IsLeftBelow}
use Rattle.ratatui_ansi.specs.Headline.{below_rows}
use Rattle.logview.specs.Engine.{ShowsLog}
use Rattle.follow.specs.Lines.{shown_line, AreLinesOf}

-- a terminal shows a log, its rows after those that its history had before
pub record ShowsLogAfter (size : Size) (log : List (List ℕ)) (before after : Emulator) : Type 0 where
  pub screen : Screen
  pub shows : ShowsLog size log screen
  pub is : screen_shown screen.written after ≡ below_rows before.history screen

-- after other bytes a writer has taken those that show the lines of a text, each as it is shown, to each
-- terminal of this size, however it was left before; and then those that give it back
pub record FollowsText (size : Size) (text : List ℕ) (contents : Option (List ℕ)) : Type 0 where
  pub lines : List (List ℕ)
  pub cut : AreLinesOf text lines
  pub sent : List ℕ
  pub shown : (t : Emulator) → IsAsFound size.width size.height t
      → ShowsLogAfter size (map shown_line lines) t (rested (feed sent (anew t)))
  pub all : List ℕ
  pub left : (t : Emulator) → IsAsFound size.width size.height t
      → IsLeftBelow size.width size.height (rested (feed sent (anew t))) (feed all (anew t))
  pub before : List ℕ
  pub tied : contents ≡ Some (before ++ all)
