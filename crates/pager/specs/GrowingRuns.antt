-- A text that is shown while it comes: its runs.
use Rattle.std.specs.Prelude.{◌≡◌, ◌++◌, ℕ, Bool, List, [], ◌∷◌, Option}
use Rattle.std.specs.Str.Lines.{lines}
use Rattle.ratatui_core.specs.{Layout.Size, Terminal.TerminalError, Terminal.Fullscreen}
use Rattle.ratatui_ansi.specs.{Backend.BackendState, declared.error.AnsiError.AnsiError}
use Rattle.ratatui_reads.specs.Sources.{Coming, GivesReads}
use Rattle.ratatui_acts.specs.declared.fault.Fault.{Fault}
use Rattle.ratatui_acts.specs.Hearing.{GivesUntimed, FailsToGive}
use Rattle.ratatui_acts.specs.Turns.{Turn, Came, Done, Standing, after_turns}
use Rattle.ratatui_acts.specs.Runs.{Ground, Past, turns_of}
use Rattle.ratatui_acts.specs.Reading.{turn_reads}
use Rattle.ratatui_app.specs.declared.on_glass.OnGlass.{OnGlass}
use Rattle.ratatui_app.specs.{Glass.never_short, Runs.on_glass, Runs.RunsThrough, Runs.StopsThrough}
use Rattle.pager.specs.declared.piece.{More.More, Piece.Piece}
use Rattle.pager.specs.declared.growing.Growing.{Growing}
use Rattle.pager.specs.{Pages.PaintsPager, Pages.page_cursor, Paging.OpensPaging, Growing.growing}

-- what a run of a text that grows stands on, on a terminal that is sent bytes: what a source gives, how it fails, and
-- how pieces are given
abbrev pub growing_on : {W H O : Type 0} → (H → Coming) → (O → More → Piece → O → Type 0)
    → Ground Growing More Piece (OnGlass W) (TerminalError AnsiError) H O
growing_on coming answers =
    on_glass growing (λ g. PaintsPager g.pager) never_short (λ g. page_cursor g.pager) (GivesUntimed coming)
    (FailsToGive coming) answers

-- the pieces among turns, and the lines of pieces
abbrev pub turn_pieces : List (Turn More Piece) → List Piece
turn_pieces [] = []
turn_pieces (Came bytes passed ∷ ts) = turn_pieces ts
turn_pieces (Done more piece ∷ ts) = piece ∷ turn_pieces ts

abbrev pub lines_of_pieces : List Piece → List (List ℕ)
lines_of_pieces [] = []
lines_of_pieces (p ∷ ps) = lines p.text.now ++ lines_of_pieces ps

-- these pieces were given, one after the other
abbrev pub GivesPieces : {O : Type 0} → (O → More → Piece → O → Type 0) → O → List Piece → O → Type 0
GivesPieces answers o [] o' = o' ≡ o
GivesPieces {O} answers o (p ∷ ps) o' = (next : O) × answers o (record {}) p next × GivesPieces answers next ps o'

module _ (W : Type 0) {H O : Type 0} (coming : H → Coming) (answers : O → More → Piece → O → Type 0) (size : Size) where
  -- a text was shown while it came, from beginning to end, on the alternate screen of a terminal of this size: the page
  -- was shown at each turn, and the main screen was brought back. The last page is what the reads and the pieces make
  -- of the first one, in the order in which they came; the reads are what the source gave, and the pieces what was
  -- given outside. The writer held these bytes before and after
  pub record IsShownGrowing (has_ticks : Bool) (first : Standing Growing) (ears : H) (pieces : O)
      (last : Standing Growing) (ears' : H) (pieces' : O) (before after : Option (List ℕ)) : Type 0 where
    pub backend : BackendState W
    pub opens : OpensPaging size before backend
    pub through : RunsThrough (growing_on coming answers) Fullscreen backend has_ticks first ears pieces
        last ears' pieces' after
    pub made : last ≡ after_turns growing first (turns_of (growing_on coming answers) through.runs.runs.past)
    pub read : GivesReads (coming ears) (coming ears')
        (turn_reads (turns_of (growing_on coming answers) through.runs.runs.past))
    pub given : GivesPieces answers pieces
        (turn_pieces (turns_of (growing_on coming answers) through.runs.runs.past)) pieces'

  -- a run that stopped: the page was shown at each turn before, and the main screen was brought back, unless the
  -- terminal failed
  pub record StopsGrowing (fault : Fault (TerminalError AnsiError)) (first : Standing Growing) (ears : H) (pieces : O)
      (last : Standing Growing) (ears' : H) (pieces' : O) (before after : Option (List ℕ)) : Type 0 where
    pub backend : BackendState W
    pub opens : OpensPaging size before backend
    pub through : StopsThrough (growing_on coming answers) Fullscreen backend fault first ears pieces
        last ears' pieces' after
