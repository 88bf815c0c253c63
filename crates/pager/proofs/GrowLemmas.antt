-- A text that is shown while it comes: what its runs were.
use Rattle.std.proofs.Common.{◌≡◌, ℕ, Bool, List, [], ◌∷◌, ◌++◌, Option, refl, sym, ap, ◌∙◌, subst, append_assoc}
use Rattle.std.proofs.lemmas.List.{append-nil}
use Rattle.std.specs.Str.Lines.{lines}
use Rattle.std.specs.declared.time.Duration.{Duration}
use Rattle.ratatui_core.specs.{Layout.Size, Terminal.Fullscreen, Terminal.TerminalError}
use Rattle.ratatui_ansi.specs.{Backend.BackendState, declared.error.AnsiError.AnsiError}
use Rattle.ratatui_reads.specs.Sources.{Coming}
use Rattle.ratatui_acts.specs.declared.fault.Fault.{Fault}
use Rattle.ratatui_acts.specs.Turns.{Turn, Came, Done, Standing, after_turn}
use Rattle.ratatui_acts.specs.Runs.{Now, Past, HasRun, IsTurn, turns_of}
use Rattle.ratatui_acts.proofs.{ReadingLemmas.run-given, RunLemmas.run-makes}
use Rattle.ratatui_app.specs.declared.on_glass.OnGlass.{OnGlass}
use Rattle.ratatui_app.specs.Runs.{RunsThrough, StopsThrough}
use Rattle.pager.specs.declared.piece.{More.More, Piece.Piece}
use Rattle.pager.specs.declared.growing.Growing.{Growing}
use Rattle.pager.specs.Paging.{OpensPaging}
use Rattle.pager.specs.Moves.{all_lines}
use Rattle.pager.specs.Growing.{growing}
use Rattle.pager.specs.GrowingRuns.{growing_on, turn_pieces, lines_of_pieces, GivesPieces, IsShownGrowing, StopsGrowing}
use Rattle.pager.proofs.KnownLemmas.{came-knows, done-knows}

-- the pieces of one turn more
pieces-done : (ts : List (Turn More Piece)) (more : More) (piece : Piece)
    → turn_pieces (ts ++ (Done more piece ∷ [])) ≡ turn_pieces ts ++ (piece ∷ [])
pieces-done [] more piece = refl
pieces-done (Came bytes passed ∷ ts) more piece = pieces-done ts more piece
pieces-done (Done m p ∷ ts) more piece = ap (λ l. p ∷ l) (pieces-done ts more piece)

pieces-came : (ts : List (Turn More Piece)) (bytes : List ℕ) (passed : Duration)
    → turn_pieces (ts ++ (Came bytes passed ∷ [])) ≡ turn_pieces ts
pieces-came [] bytes passed = refl
pieces-came (Came b p ∷ ts) bytes passed = pieces-came ts bytes passed
pieces-came (Done m p ∷ ts) bytes passed = ap (λ l. p ∷ l) (pieces-came ts bytes passed)

module _ {O : Type 0} (answers : O → More → Piece → O → Type 0) where
  -- one piece more is given
  given-more : (o : O) (ps : List Piece) (mid : O) (piece : Piece) (o' : O) → GivesPieces answers o ps mid
      → answers mid (record {}) piece o' → GivesPieces answers o (ps ++ (piece ∷ [])) o'
  given-more o [] mid piece o' same gives =
      (o', subst (λ (x : O). answers x (record {}) piece o') same gives, refl)
  given-more o (p ∷ ps) mid piece o' (next, first, rest) gives =
      (next, first, given-more next ps mid piece o' rest gives)

lines-append : (ps : List Piece) (piece : Piece)
    → lines_of_pieces (ps ++ (piece ∷ [])) ≡ lines_of_pieces ps ++ lines piece.text.now
lines-append [] piece = append-nil (lines piece.text.now)
lines-append (p ∷ ps) piece =
    ap (λ l. lines p.text.now ++ l) (lines-append ps piece)
    ∙ sym (append_assoc (lines p.text.now) (lines_of_pieces ps) (lines piece.text.now))

module _ {W H O : Type 0} (coming : H → Coming) (answers : O → More → Piece → O → Type 0) where
  turn-pieces : (begun before now : Now Growing (OnGlass W) H O) (ts : List (Turn More Piece)) (t : Turn More Piece)
      → IsTurn (growing_on coming answers) before t now → GivesPieces answers begun.outside (turn_pieces ts) before.outside
      → GivesPieces answers begun.outside (turn_pieces (ts ++ (t ∷ []))) now.outside
  turn-pieces begun before now ts (Came bytes passed) is given =
      subst (λ (l : List Piece). GivesPieces answers begun.outside l now.outside) (sym (pieces-came ts bytes passed))
      (subst (λ (x : O). GivesPieces answers begun.outside (turn_pieces ts) x) (sym is.given.1) given)
  turn-pieces begun before now ts (Done more piece) is given =
      subst (λ (l : List Piece). GivesPieces answers begun.outside l now.outside) (sym (pieces-done ts more piece))
      (given-more answers begun.outside (turn_pieces ts) before.outside piece now.outside given is.given.0)

  -- the pieces of a run are those that were given
  pub run-pieces : (begun now : Now Growing (OnGlass W) H O)
      (past : List (Past Growing More Piece (OnGlass W) H O)) → HasRun (growing_on coming answers) begun past now
      → GivesPieces answers begun.outside (turn_pieces (turns_of (growing_on coming answers) past)) now.outside
  run-pieces begun now [] is = ap (λ (n : Now Growing (OnGlass W) H O). n.outside) is
  run-pieces begun now (p ∷ earlier) is =
      turn-pieces begun p.before now (turns_of (growing_on coming answers) earlier) p.turn is.1
      (run-pieces begun p.before earlier is.0)

  turn-knows : (known : List (List ℕ)) (before now : Now Growing (OnGlass W) H O) (ts : List (Turn More Piece))
      (t : Turn More Piece) → IsTurn (growing_on coming answers) before t now
      → all_lines before.standing.state.pager ≡ known ++ lines_of_pieces (turn_pieces ts)
      → all_lines now.standing.state.pager ≡ known ++ lines_of_pieces (turn_pieces (ts ++ (t ∷ [])))
  turn-knows known before now ts (Came bytes passed) is knows =
      ap (λ (b : Standing Growing). all_lines b.state.pager) is.made
      ∙ came-knows before.standing bytes passed
      ∙ knows
      ∙ ap (λ l. known ++ lines_of_pieces l) (sym (pieces-came ts bytes passed))
  turn-knows known before now ts (Done more piece) is knows =
      ap (λ (b : Standing Growing). all_lines b.state.pager) is.made
      ∙ done-knows before.standing more piece is.wanted
      ∙ ap (λ l. l ++ lines piece.text.now) knows
      ∙ append_assoc known (lines_of_pieces (turn_pieces ts)) (lines piece.text.now)
      ∙ ap (λ l. known ++ l) (sym (lines-append (turn_pieces ts) piece) ∙ ap lines_of_pieces (sym (pieces-done ts more piece)))

  -- the lines that are known in a run
  pub run-lines : (begun now : Now Growing (OnGlass W) H O)
      (past : List (Past Growing More Piece (OnGlass W) H O)) → HasRun (growing_on coming answers) begun past now
      → all_lines now.standing.state.pager
      ≡ all_lines begun.standing.state.pager
      ++ lines_of_pieces (turn_pieces (turns_of (growing_on coming answers) past))
  run-lines begun now [] is =
      ap (λ (n : Now Growing (OnGlass W) H O). all_lines n.standing.state.pager) is
      ∙ sym (append-nil (all_lines begun.standing.state.pager))
  run-lines begun now (p ∷ earlier) is =
      turn-knows (all_lines begun.standing.state.pager) p.before now (turns_of (growing_on coming answers) earlier) p.turn is.1
      (run-lines begun p.before earlier is.0)

  module _ (size : Size) (first : Standing Growing) (ears : H) (pieces : O) (last : Standing Growing) (ears' : H)
      (pieces' : O) (before after : Option (List ℕ)) (backend : BackendState W) where
    pub shows : (has_ticks : Bool) → OpensPaging size before backend
        → RunsThrough (growing_on coming answers) Fullscreen backend has_ticks first ears pieces last ears' pieces' after
        → IsShownGrowing W coming answers size has_ticks first ears pieces last ears' pieces' before after
    shows has_ticks opens through = record {
      backend = backend;
      opens = opens;
      through = through;
      made = run-makes (growing_on coming answers) _ _ through.runs.runs.past through.runs.runs.has_run;
      read = run-given (growing_on coming answers) coming (λ h bytes passed h' given. given.0) _ _ through.runs.runs.past
          through.runs.runs.has_run;
      given = run-pieces _ _ through.runs.runs.past through.runs.runs.has_run;
    }

    pub stops : (fault : Fault (TerminalError AnsiError)) → OpensPaging size before backend
        → StopsThrough (growing_on coming answers) Fullscreen backend fault first ears pieces last ears' pieces' after
        → StopsGrowing W coming answers size fault first ears pieces last ears' pieces' before after
    stops fault opens through = record { backend = backend; opens = opens; through = through }
