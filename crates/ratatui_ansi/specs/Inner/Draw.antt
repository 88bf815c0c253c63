-- Words that only private contracts use: what a draw knows of the terminal, and what its bytes do to it.
use Rattle.std.specs.Prelude.{◌≡◌, ℕ, ◌+◌, ◌-◌, ◌*◌, ◌<◌, ◌≤◌, ◌&&◌, ◌⊎◌, nat_lt, nat_le, Bool}
use Rattle.std.specs.Prelude.{true, false, if◌then◌else◌, List, length, string_bytes, None, map}
use Rattle.std.specs.Prelude.{Option, Some, IsTrue}
use Rattle.std.specs.List.{list_all}
use Rattle.ratatui_core.specs.{Layout.Position, Backend.Draws, Backend.cursor_of}
use Rattle.ratatui_core.specs.Buffer.{symbol_text, Update, Cell}
use Rattle.ansi_model.specs.{declared.glyph.Glyph.Glyph, declared.sgr.Sgr.Sgr}
use Rattle.ansi_model.specs.{Flags.AreContinuations, Flags.flag, Places.PlacesOn, Places.PlacesEach}
use Rattle.ansi_model.specs.{Sgr.default_sgr}
use Rattle.ansi_model.specs.{Sgr.sgr_of, Parameters.is_sendable_by, Emulator.Emulator}
use Rattle.ansi_model.specs.{Emulator.rested, Emulator.with_sgr, Symbols.IsGlyphOf, Sends.Leads}
use Rattle.ansi_model.specs.{Screens.screen_shown, Screens.IsIdle}
use Rattle.ratatui_ansi.specs.{declared.draw.Draw.Draw, declared.draw.CellError.CellError}
use Rattle.ratatui_ansi.specs.{declared.tracker.Tracker.Tracker, Tracker.IsAwaiting}
use Rattle.ratatui_ansi.specs.declared.draw.CellError.TheVariants as Refused
use Rattle.ansi_model.specs.Drawing.{blanked, printed_at, ChangesSgr, IsDrawnBy, PenSends}
use Rattle.ratatui_ansi.specs.Cells.{is_fit, IsVacant, IsOnScreenAt, is_sendable_on}
use Rattle.std.specs.{Iterator.YieldsThen, Iterator.Drains}
use Rattle.ratatui_ansi.specs.Refusals.{StopsAt}

-- a cell that fits into a room is printed so
pub record IsGlyph (room : ℕ) (c : Cell) (glyph : Glyph) : Type 0 where
  pub fits : is_fit room c ≡ true
  pub symbol : IsGlyphOf (symbol_text c.symbol) glyph

-- a cell in its place
abbrev pub update_in : Position → Cell → Update
update_in p c = record { x = p.x; y = p.y; cell = c }

-- ---- a draw

-- all bytes that were sent by now, those before a draw among them
abbrev pub draw_bytes : Draw → List ℕ
draw_bytes d = string_bytes d.out.now

-- whether a symbol covers a place from the left, by a draw's flags
abbrev pub is_covered : Draw → ℕ → ℕ → Bool
is_covered d x y = flag d.continuations.now (y * d.target.width + x)

-- a draw has a flag for each column of its screen, and its pen's rendition can be sent
pub record IsDraw (d : Draw) : Type 0 where
  pub count : length d.continuations.now ≡ d.target.width * d.target.height
  pub sgr : is_sendable_by d.target.has_underline_colors d.state.pen.sgr ≡ true

-- a draw begins: it has those flags, and its pen knows the terminal's own rendition, and no place
pub record BeginsDraw (d : Draw) : Type 0 where
  pub count : length d.continuations.now ≡ d.target.width * d.target.height
  pub sgr : d.state.pen.sgr ≡ default_sgr
  pub place : d.state.pen.at ≡ None

-- a place on a draw's screen, in a row with its flags, that no symbol covers from the left
pub record IsUncovered (d : Draw) (p : Position) : Type 0 where
  pub column : p.x < d.target.width
  pub row : p.y < d.target.height
  pub flags : p.y * d.target.width + d.target.width ≤ length d.continuations.now
  pub uncut : is_covered d p.x p.y ≡ false

-- a draw still has the text and the flags that it was lent, as many of these, and its target
pub record KeepsDraw (old new : Draw) : Type 0 where
  pub out : new.out.ghost_name ≡ old.out.ghost_name
  pub flags : new.continuations.ghost_name ≡ old.continuations.ghost_name
  pub count : length new.continuations.now ≡ length old.continuations.now
  pub target : new.target ≡ old.target

-- but for what was sent and its pen a draw is as it was
pub record OnlyPens (old new : Draw) : Type 0 where
  pub keeps : KeepsDraw old new
  pub flags : new.continuations.now ≡ old.continuations.now
  pub state : new.state ≡ record old.state { pen = new.state.pen }

-- bytes were appended that do this to each terminal of a draw's size that is drawn by its pen
abbrev pub DrawSends : Draw → (Emulator → Emulator) → Draw → Type 0
DrawSends old effect new = PenSends old.target.width old.target.height (draw_bytes old) old.state.pen effect
    (draw_bytes new) new.state.pen

-- each symbol that was sent was placed, if the pen says so
abbrev pub DrawPlaces : Draw → Draw → Type 0
DrawPlaces old new = PlacesOn (draw_bytes old) old.state.pen (draw_bytes new) new.state.pen

-- ---- refusals

-- an update was refused: for want of memory, or in its place, which isn't covered from the left, because its
-- symbol doesn't fit or its rendition can't be sent to a terminal with colours of the underline or without,
-- or because it isn't vacant and the place is covered
abbrev pub RefusesUpdate : Draw → Update → CellError → Type 0
RefusesUpdate d u Refused.Memory = Unit {0}
RefusesUpdate d u (Refused.Symbol p) = IsOnScreenAt d.target.width d.target.height p u
    × (is_covered d u.x u.y ≡ false) × (is_fit (d.target.width - u.x) u.cell ≡ false)
RefusesUpdate d u (Refused.Style p) = IsOnScreenAt d.target.width d.target.height p u
    × (is_covered d u.x u.y ≡ false)
    × (is_sendable_by d.target.has_underline_colors (sgr_of u.cell) ≡ false)
RefusesUpdate d u (Refused.Cut p) = IsOnScreenAt d.target.width d.target.height p u
    × (is_covered d u.x u.y ≡ true) × (IsVacant u.cell → ⊥)

-- a rendition wasn't set: for want of memory, or since it can't be sent
abbrev pub IsUnsendableSgr : Draw → Position → Sgr → CellError → Type 0
IsUnsendableSgr d place sgr Refused.Memory = Unit {0}
IsUnsendableSgr d place sgr (Refused.Style p) = (p ≡ place)
    × (is_sendable_by d.target.has_underline_colors sgr ≡ false)
IsUnsendableSgr d place sgr _ = ⊥

-- ---- the steps of a cell

-- a rendition that can be sent was set, if the terminal has another
pub record SetsSgr (old : Draw) (sgr : Sgr) (new : Draw) : Type 0 where
  pub changes : ChangesSgr old.state.pen.sgr sgr (draw_bytes old) (draw_bytes new)
  pub pen : new.state.pen ≡ record old.state.pen { sgr = sgr }
  pub sendable : is_sendable_by old.target.has_underline_colors sgr ≡ true

-- a symbol was printed in a place, in the pen's rendition
pub record PrintsSymbol (old : Draw) (p : Position) (symbol : List ℕ) (new : Draw) : Type 0 where
  pub prints : DrawSends old (printed_at p.x p.y old.state.pen.sgr symbol) new
  pub sgr : new.state.pen.sgr ≡ old.state.pen.sgr
  pub places : DrawPlaces old new

-- flags were set anew from the place `first` up to `end`: set up to `past_it`, but for the first one
pub record AreMarked (first past_it end : ℕ) (flags after : List Bool) : Type 0 where
  pub count : length after ≡ length flags
  pub each : (k : ℕ) → flag after k
      ≡ (if nat_le first k && nat_lt k end then nat_lt first k && nat_lt k past_it else flag flags k)

-- in a row the flags after a symbol of n columns were set up to column `end`, and all are the symbol's now
pub record AreCovered (w : ℕ) (p : Position) (n end : ℕ) (flags after : List Bool) : Type 0 where
  pub ordered : p.x + n ≤ end
  pub inside : end ≤ w
  pub set : (k : ℕ) → p.x + n ≤ k → k < end → flag flags (p.y * w + k) ≡ true
  pub unset : end < w → flag flags (p.y * w + end) ≡ false
  pub marked : AreMarked (p.y * w + p.x) (p.y * w + (p.x + n)) (p.y * w + end) flags after

-- a symbol of n columns covers its place: what it left of another one after it, up to column `end`, was
-- emptied, and the cursor and the count stay
pub record Covers (old : Draw) (p : Position) (n end : ℕ) (new : Draw) : Type 0 where
  pub flags : AreCovered old.target.width p n end old.continuations.now new.continuations.now
  pub paints : DrawSends old (blanked (p.x + n) p.y (end - (p.x + n))) new
  pub sgr : (new.state.pen.sgr ≡ old.state.pen.sgr) ⊎ (new.state.pen.sgr ≡ default_sgr)
  pub places : DrawPlaces old new
  pub state : new.state ≡ record old.state { pen = new.state.pen }

-- ---- updates

-- a terminal within a draw: with its own rendition it would be idle; the flags are those of its columns
pub record IsDrawing (d : Draw) (t : Emulator) : Type 0 where
  pub drawn : IsDrawnBy d.state.pen t
  pub ready : IsIdle d.target.width d.target.height (with_sgr default_sgr (rested t))
  pub continuations : AreContinuations d.target.width d.target.height d.continuations.now (rested t).columns
  pub cursor : cursor_of (screen_shown d.state.written (rested t)) ≡ d.state.cursor

-- bytes were appended that draw these updates, in order, on each terminal within a draw
abbrev pub SendsUpdates : Draw → List Update → Draw → Type 0
SendsUpdates old us new = Leads (draw_bytes old) (draw_bytes new) (IsDrawing old) (λ t u. IsDrawing new u
    × Draws (screen_shown old.state.written (rested t)) us (screen_shown new.state.written (rested u)))

-- these updates were drawn, their renditions can be sent, each symbol was placed if the pen says so, and the
-- draw can go on
pub record DrawsUpdates (old : Draw) (us : List Update) (new : Draw) : Type 0 where
  pub sends : SendsUpdates old us new
  pub sendable : list_all (is_sendable_on old.target.width old.target.height
      old.target.has_underline_colors) us ≡ true
  pub places : DrawPlaces old new
  pub ready : IsDraw new

-- bytes were appended that draw these updates, in order, on each terminal between two calls
abbrev pub SendsDraw : ℕ → ℕ → List ℕ → Position → ℕ → List Bool → List Update → List ℕ → Position → ℕ
    → List Bool → Type 0
SendsDraw w h old cursor written flags us new cursor_after written_after flags_after =
    Leads old new (IsAwaiting w h cursor flags) (λ t u. IsAwaiting w h cursor_after flags_after u
    × Draws (screen_shown written (rested t)) us (screen_shown written_after (rested u)))

-- the same by a whole draw, and the updates' renditions can be sent
pub record DrawsCells (old : Draw) (us : List Update) (cursor : Position) (written : ℕ)
    (new : Draw) : Type 0 where
  pub sends : SendsDraw old.target.width old.target.height (draw_bytes old) old.state.cursor old.state.written
      old.continuations.now us (draw_bytes new) cursor written new.continuations.now
  pub sendable : list_all (is_sendable_on old.target.width old.target.height
      old.target.has_underline_colors) us ≡ true

-- what a draw of these updates sends to a tracked terminal was collected, and its flags stand in the draft
abbrev pub Drafts : Tracker → List Update → Position → ℕ → Tracker → Type 0
Drafts old us cursor written new =
    SendsDraw old.size.width old.size.height (string_bytes old.out) old.cursor old.written
    old.continuations.items us (string_bytes new.out) cursor written new.draft.items

-- ---- where a draw stops

-- whether a refusal names a cell's place
abbrev pub has_place : CellError → Bool
has_place Refused.Memory = false
has_place _ = true

-- an item isn't drawn within a draw: the bytes of the items before it were appended
pub record StopsWithin {S A : Type 0} (steps : S → Option A → S → Type 0) (content : S) (update : A → Update)
    (old : Draw) (refusal : CellError) : Type 0 where
  pub front : List A
  pub item : A
  pub rest : S
  pub gives : YieldsThen steps content front (Some item) rest
  pub between : Draw
  pub keeps : KeepsDraw old between
  pub sends : SendsUpdates old (map update front) between
  pub refused : RefusesUpdate between (update item) refusal

-- on each terminal between two calls an item isn't drawn
pub record StopsDraw {S A : Type 0} (steps : S → Option A → S → Type 0) (content : S) (update : A → Update)
    (w h : ℕ) (colors : Bool) (cursor : Position) (written : ℕ)
    (flags : List Bool) (refusal : CellError) : Type 0 where
  pub stops : (t : Emulator) → IsAwaiting w h cursor flags t
      → StopsAt steps content update colors (screen_shown written (rested t)) refusal

-- ---- a draft

-- what a draw of an iterator's items sends was collected, with its flags in the draft, and each item can be sent
pub record DraftsContent {S A : Type 0} (steps : S → Option A → S → Type 0) (content : S) (update : A → Update)
    (old : Tracker) (cursor : Position) (written : ℕ) (new : Tracker) : Type 0 where
  pub items : List A
  pub drained : Drains steps content items
  pub drafts : Drafts old (map update items) cursor written new
  pub sendable : list_all (is_sendable_on old.size.width old.size.height old.has_underline_colors)
      (map update items) ≡ true

-- each symbol that was collected was placed, if ambiguous characters may be wide
abbrev pub PlacesDraft : Tracker → Tracker → Type 0
PlacesDraft old new = old.ambiguous_is_wide ≡ true → PlacesEach (string_bytes old.out) (string_bytes new.out)

-- a refusal of a draw names the first item that can't be drawn; one for want of memory names none
abbrev pub StopsDraft : {S A : Type 0} → (S → Option A → S → Type 0) → S → (A → Update) → Tracker → CellError
    → Type 0
StopsDraft steps content update old refusal =
    IsTrue (has_place refusal) → StopsDraw steps content update old.size.width old.size.height
    old.has_underline_colors old.cursor old.written old.continuations.items refusal
