-- What a backend's call leaves, by its answer, and where a draw stops.
use Rattle.std.specs.Prelude.{◌≡◌, ℕ, ◌-◌, ◌<◌, ◌⊎◌, Bool, true, false, IsTrue, List, map, Option, Some}
use Rattle.std.specs.Prelude.{Result, MatchResult}
use Rattle.std.specs.{Borrow.Bor, Iterator.YieldsThen, Iterator.YieldsFirstBy}
use Rattle.ratatui_core.specs.{Buffer.Update, Buffer.Cell, Buffer.update_by, Backend.Screen}
use Rattle.ratatui_core.specs.{Backend.Draws, Backend.cursor_of, Backend.HasNoCells}
use Rattle.ratatui_core.specs.Layout as layout
use Rattle.ratatui_ansi.specs.{declared.error.AnsiError.AnsiError}
use Rattle.ratatui_ansi.specs.{declared.draw.CellError.CellError}
use Rattle.ratatui_ansi.specs.declared.error.AnsiError.TheVariants.{Memory, Symbol, Style, Cut, Size, Broken}
use Rattle.ratatui_ansi.specs.declared.error.AnsiError.TheVariants.{Write}
use Rattle.ratatui_ansi.specs.declared.draw.CellError.TheVariants as Refused
use Rattle.ratatui_ansi.specs.{Backend.BackendState, Covered.IsCovered, Errors.error_of, Settings.either}
use Rattle.ratatui_ansi.specs.declared.settings.Settings.{Settings}
use Rattle.ratatui_ansi.specs.Cells.{is_fit, IsVacant, IsOnScreenAt}
use Rattle.ansi_model.specs.{Parameters.is_sendable_by, Sgr.sgr_of}

-- ---- what is left

-- nothing was sent, and but for the count of failures all is as it was
pub record IsUnsent {W : Type 0} (old new : BackendState W) : Type 0 where
  pub writer : new.writer ≡ old.writer
  pub start : new.before ≡ old.before
  pub sent : new.sent ≡ old.sent
  pub held : new.held ≡ old.held
  pub size : new.size ≡ old.size
  pub colors : new.has_underline_colors ≡ old.has_underline_colors
  pub ambiguous : new.ambiguous_is_wide ≡ old.ambiguous_is_wide
  pub synchronized : new.is_synchronized ≡ old.is_synchronized
  pub alternate : new.is_on_alternate ≡ old.is_on_alternate
  pub settings : new.settings ≡ old.settings
  pub written : new.written ≡ old.written
  pub is_broken : new.is_broken ≡ old.is_broken

-- no send failed before, and this one failed or didn't; this is set on the terminal after it
pub record IsAfterSend {W : Type 0} (fails : Bool) (set : Settings) (old new : BackendState W) : Type 0 where
  pub start : new.before ≡ old.before
  pub before : old.is_broken ≡ false
  pub after : new.is_broken ≡ fails
  pub size : new.size ≡ old.size
  pub colors : new.has_underline_colors ≡ old.has_underline_colors
  pub ambiguous : new.ambiguous_is_wide ≡ old.ambiguous_is_wide
  pub synchronized : new.is_synchronized ≡ old.is_synchronized
  pub alternate : new.is_on_alternate ≡ old.is_on_alternate
  pub settings : new.settings ≡ set

-- a refused call, by its error: after a failed send every call is refused, and only a failed send changes
-- anything; this is set after one
abbrev pub FailsBy : {W : Type 0} → Settings → BackendState W → BackendState W → AnsiError → Type 0
FailsBy set old new Size = ⊥
FailsBy set old new Broken = (old.is_broken ≡ true) × IsUnsent old new
FailsBy set old new (Write error) = IsAfterSend true set old new
FailsBy set old new _ = (old.is_broken ≡ false) × IsUnsent old new

-- a call that answers this
abbrev pub Answers : {W A : Type 0} → Result A AnsiError → BackendState W → BackendState W → Type 0
Answers answer old new =
    MatchResult answer (λ _. IsAfterSend false old.settings old new) (FailsBy old.settings old new)

-- a call that answers this and after which this is set, or may be if a write failed
abbrev pub AnswersSet : {W A : Type 0} → Result A AnsiError → Settings → BackendState W → BackendState W
    → Type 0
AnswersSet answer set old new =
    MatchResult answer (λ _. IsAfterSend false set old new) (FailsBy (either old.settings set) old new)

-- a call that failed: nothing was sent, or a write failed
abbrev pub StopsSending : {W : Type 0} → BackendState W → BackendState W → Type 0
StopsSending old new = (error : AnsiError) × FailsBy old.settings old new error

-- an error of a call that writes: it names no cell
abbrev pub IsOfWriting : AnsiError → Type 0
IsOfWriting Memory = Unit {0}
IsOfWriting Broken = Unit {0}
IsOfWriting (Write error) = Unit {0}
IsOfWriting _ = ⊥

-- an error of a flush: it takes no memory
abbrev pub IsOfFlushing : AnsiError → Type 0
IsOfFlushing Broken = Unit {0}
IsOfFlushing (Write error) = Unit {0}
IsOfFlushing _ = ⊥

-- an error of leaving: neither memory nor an earlier failure prevents it
abbrev pub IsOfLeaving : AnsiError → Type 0
IsOfLeaving (Write error) = Unit {0}
IsOfLeaving _ = ⊥

-- an error of a clear: the cell that it names is the cursor's, and a symbol covers it from the left
abbrev pub IsOfClearing : Screen → AnsiError → Type 0
IsOfClearing s (Cut p) = (p ≡ cursor_of s) × IsCovered s.grid p.x p.y
IsOfClearing s error = IsOfWriting error

-- ---- beginnings

-- why no blank screen of this size is tracked: it has no columns or no rows, or memory was refused
abbrev pub RefusesTracker : ℕ → ℕ → AnsiError → Type 0
RefusesTracker w h Size = (w ≡ 0) ⊎ (h ≡ 0)
RefusesTracker w h Memory = (0 < w) × (0 < h)
RefusesTracker w h _ = ⊥

-- why a backend of this size doesn't begin: for the same reasons, or since a write failed
abbrev pub RefusesToBegin : ℕ → ℕ → AnsiError → Type 0
RefusesToBegin w h (Write error) = (0 < w) × (0 < h)
RefusesToBegin w h error = RefusesTracker w h error

-- a backend that doesn't begin anew: memory was refused, which changes nothing, or a write failed
abbrev pub FailsToRestart : {W : Type 0} → BackendState W → BackendState W → AnsiError → Type 0
FailsToRestart old new Memory = IsUnsent old new
FailsToRestart old new (Write error) = new.is_broken ≡ true
FailsToRestart old new _ = ⊥

-- a backend that doesn't take another size: the size has no columns or no rows, or memory was refused, which
-- changes nothing, or a write failed
abbrev pub FailsToResize : {W : Type 0} → layout.Size → BackendState W → BackendState W → AnsiError → Type 0
FailsToResize size old new Size = HasNoCells size × IsUnsent old new
FailsToResize size old new Memory = IsUnsent old new
FailsToResize size old new (Write error) = (new.is_broken ≡ true) × (new.size ≡ old.size)
FailsToResize size old new _ = ⊥

-- ---- cells that aren't drawn

-- whether an error names a cell's place
abbrev pub names_cell : AnsiError → Bool
names_cell (Symbol p) = true
names_cell (Style p) = true
names_cell (Cut p) = true
names_cell _ = false

-- why an update isn't drawn on a screen: its symbol doesn't fit, its rendition can't be sent, or it isn't
-- vacant while a symbol covers its place
abbrev pub IsRefusedOn : Bool → Screen → Update → CellError → Type 0
IsRefusedOn colors s u Refused.Memory = Unit {0}
IsRefusedOn colors s u (Refused.Symbol p) = IsOnScreenAt s.width s.height p u
    × (is_fit (s.width - u.x) u.cell ≡ false)
IsRefusedOn colors s u (Refused.Style p) = IsOnScreenAt s.width s.height p u
    × (is_sendable_by colors (sgr_of u.cell) ≡ false)
IsRefusedOn colors s u (Refused.Cut p) = IsOnScreenAt s.width s.height p u × IsCovered s.grid u.x u.y
    × (IsVacant u.cell → ⊥)

-- an item of a diff, which lends its cell, as an update
abbrev pub lent_update : ℕ × ℕ × Bor Cell → Update
lent_update item = update_by (λ cell. cell.now) item

-- an item isn't drawn on the screen that the items before it would have made of this one
pub record StopsAt {S A : Type 0} (steps : S → Option A → S → Type 0) (content : S) (update : A → Update)
    (colors : Bool) (old : Screen) (refusal : CellError) : Type 0 where
  pub front : List A
  pub item : A
  pub rest : S
  pub gives : YieldsThen steps content front (Some item) rest
  pub between : Screen
  pub draws : Draws old (map update front) between
  pub refused : IsRefusedOn colors between (update item) refusal

-- a draw of these updates, as a diff gives them, stops at one of them
abbrev pub StopsInDiff : List Update → Bool → Screen → CellError → Type 0
StopsInDiff us colors old refusal =
    StopsAt (YieldsFirstBy lent_update (λ rest. rest)) us lent_update colors old refusal

-- an error that names a cell is that of the item at which a draw stops
abbrev pub StopsBy : {S A : Type 0} → (S → Option A → S → Type 0) → S → (A → Update) → Bool → Screen
    → AnsiError → Type 0
StopsBy steps content update colors old error =
    IsTrue (names_cell error) → (refusal : CellError) × (error ≡ error_of refusal)
    × StopsAt steps content update colors old refusal
