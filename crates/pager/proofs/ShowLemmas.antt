-- A pager that is shown: how its terminal begins, and what a run was.
use Rattle.std.proofs.Common.{◌≡◌, ℕ, Bool, List, [], Option, sym, subst, refl}
use Rattle.ratatui_core.specs.{Layout.Size, Terminal.Fullscreen, Terminal.TerminalError}
use Rattle.ratatui_ansi.specs.Backend.{BackendState, BeginsBy}
use Rattle.ratatui_ansi.specs.{declared.error.AnsiError.AnsiError}
use Rattle.ratatui_reads.specs.Sources.{Coming}
use Rattle.ratatui_acts.specs.declared.nothing.{Nothing.Nothing}
use Rattle.ratatui_acts.specs.declared.fault.Fault.{Fault}
use Rattle.ratatui_acts.specs.Turns.{Standing}
use Rattle.ratatui_acts.specs.Reading.{AsksNothing}
use Rattle.ratatui_acts.proofs.ReadingLemmas.{run-reads, run-given}
use Rattle.ratatui_app.specs.Runs.{RunsThrough, StopsThrough}
use Rattle.pager.specs.declared.pager.Pager.{Pager}
use Rattle.pager.specs.Paging.{paged_after, paging, paging_on, OpensPaging, IsPaged, StopsPaging}

pub begins-at : (p : List ℕ → List ℕ → Type 0) (before a b : Option (List ℕ)) → b ≡ a → BeginsBy p before a → BeginsBy p before b
begins-at p before a b e is = subst (λ (x : Option (List ℕ)). BeginsBy p before x) (sym e) is

-- a pager asks for nothing
pub asks-nothing : AsksNothing paging
unfolding paged_after
asks-nothing = record { asks = λ p. refl; ticks = λ p passed. refl }

module _ {W H : Type 0} (coming : H → Coming) (size : Size) (first : Standing Pager) (ears : H) (outside : Nothing)
    (last : Standing Pager) (ears' : H) (outside' : Nothing) (before after : Option (List ℕ)) (backend : BackendState W) where
  pub pages : (has_ticks : Bool) → OpensPaging size before backend
      → RunsThrough (paging_on coming) Fullscreen backend has_ticks first ears outside last ears' outside' after
      → IsPaged W coming size has_ticks first ears last ears' before after
  pages has_ticks opens through = record {
    backend = backend;
    opens = opens;
    outside = outside;
    outside' = outside';
    through = through;
    read = λ none. run-reads (paging_on coming) asks-nothing _ _ through.runs.runs.past none through.runs.runs.has_run;
    given = run-given (paging_on coming) coming (λ h bytes passed h' given. given.0) _ _ through.runs.runs.past
        through.runs.runs.has_run;
  }

  pub stops : (fault : Fault (TerminalError AnsiError)) → OpensPaging size before backend
      → StopsThrough (paging_on coming) Fullscreen backend fault first ears outside last ears' outside' after
      → StopsPaging W coming size fault first ears last ears' before after
  stops fault opens through = record {
    backend = backend;
    opens = opens;
    outside = outside;
    outside' = outside';
    through = through;
  }
