-- A pager on a terminal.
use Rattle.std.specs.Prelude.{◌≡◌, ◌⊎◌, ℕ, Bool, true, List, [], ◌∷◌, ◌++◌, Option, None}
use Rattle.std.specs.Prelude.{IfSome, ⊤}
use Rattle.ratatui_core.specs.{Layout.Size, Backend.size_of, Backend.IsBlankScreen}
use Rattle.ratatui_core.specs.Terminal.{TerminalData, TerminalError, Fullscreen}
use Rattle.ansi_model.specs.{Beginnings.MakesBlank, Beginnings.OpensAlternate, Commands.command_bytes}
use Rattle.ansi_model.specs.declared.command.Command.TheVariants.{EnableMouseCapture, EnableSizeReports}
use Rattle.ratatui_ansi.specs.Backend.{BackendState, BeginsBy, shown_by}
use Rattle.ratatui_ansi.specs.{Settings.no_settings, declared.error.AnsiError.AnsiError}
use Rattle.ratatui_reads.specs.{Reads.after_reads, Sources.Coming, Sources.GivesReads}
use Rattle.ratatui_acts.specs.declared.message.Message.{Message}
use Rattle.ratatui_acts.specs.declared.message.Message.TheVariants as message
use Rattle.ratatui_acts.specs.declared.nothing.{Never.Never, Nothing.Nothing}
use Rattle.ratatui_acts.specs.declared.fault.Fault.{Fault}
use Rattle.ratatui_acts.specs.Hearing.{GivesUntimed, FailsToGive}
use Rattle.ratatui_acts.specs.Turns.{ActingRules, Standing, turn_size}
use Rattle.ratatui_acts.specs.Runs.{Ground, Now, Past, turns_of}
use Rattle.ratatui_acts.specs.Reading.{seat_between, event_rules, turn_reads}
use Rattle.ratatui_app.specs.declared.on_glass.OnGlass.{OnGlass}
use Rattle.ratatui_app.specs.{Glass.never_short, Runs.on_glass, Runs.RunsThrough, Runs.StopsThrough}
use Rattle.pager.specs.declared.pager.Pager.{Pager}
use Rattle.pager.specs.{Moves.updated, Pages.PaintsPager, Pages.page_cursor}

-- events move a pager, and nothing else does
unfoldable pub paged_after : {R : Type 0} → Pager → Message R → Pager
paged_after p (message.Event event) = updated p event
paged_after p (message.Tick passed) = p
paged_after p (message.Answer answer) = p

-- a pager, as a state that asks for nothing
abbrev pub paging : ActingRules Pager Never Never
paging = record {
  updated = paged_after;
  asked = λ _. None;
  is_over = λ p. p.is_over;
  is_light = λ _ _. ⊥;
}

-- what a run of it stands on, on a terminal that is sent bytes: what a source gives, and how it fails
abbrev pub paging_on : {W H : Type 0} → (H → Coming)
    → Ground Pager Never Never (OnGlass W) (TerminalError AnsiError) H Nothing
paging_on coming =
    on_glass paging PaintsPager never_short page_cursor (GivesUntimed coming) (FailsToGive coming) (λ _ _ _ _. ⊥)

-- the alternate screen of a terminal of this size, after bytes that its writer held before, was opened and
-- made blank, and the terminal was told to tell of the mouse and of new sizes
pub record OpensPaging {W : Type 0} (size : Size) (before : Option (List ℕ)) (b : BackendState W)
    : Type 0 where
  pub is_size : b.size ≡ size
  pub screen : IsBlankScreen size.width size.height (shown_by b)
  pub alternate : b.is_on_alternate ≡ true
  pub opened : BeginsBy (OpensAlternate size.width size.height) before b.before
  pub begun : List ℕ
  pub blank : MakesBlank size.width size.height [] begun
  pub sent : b.sent ≡ begun ++ (command_bytes EnableMouseCapture ++ command_bytes EnableSizeReports)
  pub settings : b.settings ≡ record no_settings { mouse = true; sizes = true }
  pub failures : b.failures ≡ 0

-- the turns of such a run, the last one first, and its reads in order
abbrev pub PagedTurns : Type 0 → Type 0 → Type 0
PagedTurns W H = List (Past Pager Never Never (OnGlass W) H Nothing)

abbrev pub paged_reads : {W H : Type 0} → (H → Coming) → PagedTurns W H → List (List ℕ)
paged_reads coming past = turn_reads (turns_of (paging_on coming) past)

module _ (W : Type 0) {H : Type 0} (coming : H → Coming) (size : Size) where
  -- a pager was run from beginning to end on the alternate screen of a terminal of this size: the page was
  -- shown at each turn, and the main screen was brought back. The last page is what the reads make of the
  -- first one, and these are what the source gave. The writer held these bytes before and after
  pub record IsPaged (has_ticks : Bool) (first : Standing Pager) (ears : H) (last : Standing Pager)
      (ears' : H) (before after : Option (List ℕ)) : Type 0 where
    pub backend : BackendState W
    pub opens : OpensPaging size before backend
    pub outside : Nothing
    pub outside' : Nothing
    pub through : RunsThrough (paging_on coming) Fullscreen backend has_ticks first ears outside
        last ears' outside' after
    pub read : first.left ≡ [] → seat_between last
        ≡ after_reads (event_rules paging) (seat_between first) (paged_reads coming through.runs.runs.past)
    pub given : GivesReads (coming ears) (coming ears') (paged_reads coming through.runs.runs.past)

  -- a run that stopped: the page was shown at each turn before, and the main screen was brought back, unless
  -- the terminal failed
  pub record StopsPaging (fault : Fault (TerminalError AnsiError)) (first : Standing Pager) (ears : H)
      (last : Standing Pager) (ears' : H) (before after : Option (List ℕ)) : Type 0 where
    pub backend : BackendState W
    pub opens : OpensPaging size before backend
    pub outside : Nothing
    pub outside' : Nothing
    pub through : StopsThrough (paging_on coming) Fullscreen backend fault first ears outside
        last ears' outside' after

-- the columns and rows of a page
abbrev pub page_size : Pager → Size
page_size p = record { width = p.columns; height = p.rows }

-- the page is as large as the terminal's screen, or the pager is over
abbrev pub FillsScreen : {W : Type 0} → Pager → TerminalData (BackendState W) → Type 0
FillsScreen p t = (p.is_over ≡ true) ⊎ (page_size p ≡ size_of (shown_by t.backend))

module _ {W H : Type 0} where
  -- so it is now, and was at each turn of a run before
  abbrev pub FillsAlong : PagedTurns W H → Now Pager (OnGlass W) H Nothing → Type 0
  FillsAlong [] now = FillsScreen now.standing.state now.glass.terminal
  FillsAlong (p ∷ earlier) now =
      FillsScreen now.standing.state now.glass.terminal × FillsAlong earlier p.before
