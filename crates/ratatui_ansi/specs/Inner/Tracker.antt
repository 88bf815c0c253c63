-- Words that only private contracts use: what a tracker knows of its terminal between two calls, and the
-- bytes that it collected for a call.
use Rattle.std.specs.Prelude.{◌≡◌, ℕ, ◌<◌, true, List, length, [], ◌++◌, string_bytes}
use Rattle.ratatui_core.specs.Layout.{Size, Position}
use Rattle.ratatui_core.specs.Backend.{Screen, Appends, Clears, ScrollsUp, ScrollsDown, with_cursor}
use Rattle.ratatui_core.specs.Backend.{with_visible}
use Rattle.ansi_model.specs.{Columns.blank_column, Commands.command_bytes, Commands.size_question}
use Rattle.ansi_model.specs.Commands.{keyboard_bytes}
use Rattle.ansi_model.specs.{Beginnings.MakesBlank, Emulator.Emulator, Emulator.rested, Sends.Leads}
use Rattle.ansi_model.specs.{Screens.screen_shown, Flags.AreContinuations, Flags.is_clear_cut}
use Rattle.ratatui_ansi.specs.{declared.draw.CellError.CellError, declared.tracker.Tracker.Tracker}
use Rattle.ratatui_ansi.specs.{declared.tracker.Call.Call, declared.error.AnsiError.AnsiError}
use Rattle.ratatui_ansi.specs.declared.draw.CellError.TheVariants as Refused
use Rattle.ratatui_ansi.specs.declared.tracker.Call.TheVariants as Called
use Rattle.ratatui_ansi.specs.Tracker.{IsAwaiting, FitsScreen}
use Rattle.ratatui_ansi.specs.Refusals.{IsOfWriting, IsOfClearing}

-- a tracker fits its screen, and the cursor is on the screen
pub record IsTracker (k : Tracker) : Type 0 where
  pub fits : FitsScreen k.size k.continuations.items k.draft.items
  pub column : k.cursor.x < k.size.width
  pub row : k.cursor.y < k.size.height

-- a terminal between two calls, as it is tracked
pub record IsTracked (k : Tracker) (t : Emulator) : Type 0 where
  pub awaiting : IsAwaiting k.size.width k.size.height k.cursor k.continuations.items t
  pub visible : (rested t).visible ≡ k.is_visible

-- a call's bytes were collected: they relate the screen of each tracked terminal so to the former, and it is
-- tracked as the call left it
pub record Collects (old : Tracker) (related : Screen → Screen → Type 0) (new : Tracker) : Type 0 where
  pub fits : FitsScreen new.size new.continuations.items new.draft.items
  pub size : new.size ≡ old.size
  pub colors : new.has_underline_colors ≡ old.has_underline_colors
  pub ambiguous : new.ambiguous_is_wide ≡ old.ambiguous_is_wide
  pub synchronized : new.is_synchronized ≡ old.is_synchronized
  pub leads : Leads (string_bytes old.out) (string_bytes new.out) (IsTracked old) (λ t u. IsTracked new u
      × related (screen_shown old.written (rested t)) (screen_shown new.written (rested u)))

-- all is as it was but what was collected, and the draft
pub record KeepsTracked (old new : Tracker) : Type 0 where
  pub rest : new ≡ record old { out = new.out; draft = new.draft }
  pub draft_count : length new.draft.items ≡ length old.draft.items

-- a blank screen of this size is tracked, and what makes a terminal show it was collected
pub record BeginsBlank (given : Size) (k : Tracker) : Type 0 where
  pub fits : FitsScreen k.size k.continuations.items k.draft.items
  pub size : k.size ≡ given
  pub cursor : k.cursor ≡ record { x = 0; y = 0 }
  pub visible : k.is_visible ≡ true
  pub continuations : AreContinuations given.width given.height k.continuations.items (λ a b. blank_column)
  pub written : k.written ≡ 0
  pub blank : MakesBlank given.width given.height [] (string_bytes k.out)

-- what a call does to the screen
abbrev pub CallDoes : Call → Screen → Screen → Type 0
CallDoes (Called.Move p) s t = t ≡ with_cursor p.x p.y s
CallDoes (Called.Show visible) s t = t ≡ with_visible visible s
CallDoes (Called.Append n) s t = Appends s n t
CallDoes (Called.ScrollUp region n) s t = ScrollsUp region.start region.end n s t
CallDoes (Called.ScrollDown region n) s t = ScrollsDown region.start region.end n s t
CallDoes (Called.Clear kind) s t = Clears s kind t
CallDoes (Called.Command command) s t = t ≡ s
CallDoes (Called.PushKeyboardFlags flags) s t = t ≡ s
CallDoes Called.AskSize s t = t ≡ s

-- a command's bytes, those of keyboard flags, or the question for the size, were appended for it
abbrev pub IsCommanded : Call → Position → List ℕ → List ℕ → Type 0
IsCommanded (Called.Command command) cursor old new = new ≡ old ++ command_bytes command
IsCommanded (Called.PushKeyboardFlags flags) cursor old new = new ≡ old ++ keyboard_bytes flags
IsCommanded Called.AskSize cursor old new = new ≡ old ++ size_question cursor
IsCommanded _ cursor old new = Unit {0}

-- a clear would cut a symbol at the cursor
abbrev pub IsCutByCall : Call → Tracker → Type 0
IsCutByCall (Called.Clear kind) k = is_clear_cut kind k.size.width k.cursor.x k.cursor.y
    k.continuations.items ≡ true
IsCutByCall _ k = ⊥

-- why a call wasn't collected: for want of memory, or since it would cut a symbol
abbrev pub IsUncollected : Call → Tracker → CellError → Type 0
IsUncollected call k Refused.Memory = Unit {0}
IsUncollected call k (Refused.Cut p) = (p ≡ k.cursor) × IsCutByCall call k
IsUncollected call k _ = ⊥

-- an error of a call that draws no cells
abbrev pub IsOfCall : Call → Screen → AnsiError → Type 0
IsOfCall (Called.Clear kind) s error = IsOfClearing s error
IsOfCall _ s error = IsOfWriting error
