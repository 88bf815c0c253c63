-- What the bytes of a cell do to a terminal within a draw.
use Rattle.std.proofs.Common.{◌≡◌, ℕ, ◌+◌, ◌-◌, ◌*◌, ◌^◌, ◌<◌, ◌≤◌, ◌==◌, ◌&&◌, not, min, nat_lt, nat_le, nat_eq, if◌then◌else◌}
use Rattle.std.proofs.Common.{Bool, List, [], ◌∷◌, ◌++◌, IsTrue, chars, true, false, IsUtf8, Option, Some, None}
use Rattle.std.proofs.Common.{IfSome, length, refl, sym, ap, ap₂, ◌∙◌, arith, subst, inl, inr, ◌⊎◌}
use Rattle.std.proofs.lemmas.{Bool.and_parts, Bool.or_right, Bool.Decides.nat_tests, List.Folds.list_all-append, Str.encode_ascii}
use lib.Utf8.{encode}
use Rattle.ratatui_core.specs.{Layout.Position, Backend.Draws}
use Rattle.ratatui_core.specs.Buffer.{blank, symbol_text, Look, look_of, empty_look, width_of, text_width, Update, put, Cell}
use Rattle.ratatui_core.proofs.{BackendLemmas.Draws-none, BackendLemmas.Draws-push, BufferLemmas.one_byte}
use Rattle.ratatui_core.specs.DiffOption as DiffOption
use Rattle.ansi_model.specs.{declared.sgr.Sgr.Sgr, declared.pen.Pen.Pen, declared.glyph.Glyph.Glyph}
use Rattle.ansi_model.specs.{declared.glyph.Glyph.TheVariants.Plain}
use Rattle.ratatui_ansi.specs.{declared.draw.Draw.Draw, declared.draw.DrawState.DrawState, declared.draw.Target.Target}
use Rattle.ratatui_ansi.specs.{Tracker.IsAwaiting}
use Rattle.ansi_model.specs.{Columns.Columns, Columns.look_in, Columns.is_continuation, Flags.AreContinuations, Flags.flag}
use Rattle.ansi_model.specs.{Parameters.is_sendable_by}
use Rattle.ansi_model.specs.{Sgr.default_sgr, Sgr.inked, Sgr.sgr_of, Emulator.Emulator, Emulator.rested, Emulator.with_sgr}
use Rattle.ansi_model.specs.{Sends.Leads}
use Rattle.ansi_model.specs.Symbols.{is_plain_char, is_one_plain, is_printed, printed_columns, glyph_columns}
use Rattle.ansi_model.specs.{Screens.screen_shown, Screens.IsIdle, Drawing.ChangesSgr.Stays, Drawing.ChangesSgr.Sets}
use Rattle.ansi_model.specs.Drawing.{printed_at, blanked, WritesAt, ChangesSgr}
use Rattle.ratatui_ansi.specs.Cells.{is_fit, is_sendable_on, IsVacant}
use Rattle.ratatui_ansi.specs.Inner.Draw.{update_in, draw_bytes, is_covered, IsGlyph, IsDraw}
use Rattle.ratatui_ansi.specs.Inner.Draw.{BeginsDraw, IsUncovered, KeepsDraw, OnlyPens, DrawSends}
use Rattle.ratatui_ansi.specs.Inner.Draw.{SetsSgr, PrintsSymbol}
use Rattle.ratatui_ansi.specs.Inner.Draw.{AreCovered, Covers, IsDrawing, SendsUpdates, DrawsUpdates}
use Rattle.ratatui_ansi.specs.Inner.Draw.{SendsDraw}
use Rattle.ansi_model.proofs.ReadLemmas.{Leads-then, Leads-so, Leads-none}
use Rattle.ansi_model.proofs.{SymbolLemmas.plain-printed, SymbolLemmas.plain-single}
use Rattle.ansi_model.proofs.{SymbolLemmas.one-undisputed, GlyphLemmas.printed-width, SgrLemmas.equal-number}
use Rattle.ratatui_ansi.proofs.TailLemmas.{continuation-empty, laid-shown, IsTail}
use Rattle.ansi_model.proofs.{PaintLemmas.PenSends-then, PlaceLemmas.places-on, PlaceLemmas.places-on-then}
use Rattle.ansi_model.proofs.{PlaceLemmas.places-sgr}
use Rattle.ratatui_ansi.proofs.LayLemmas.{sgr-paints, IsLaid, laid-by, laid-ready, tail-of, laid-flags}

-- ---- what the screen shows

ink-look : (cell : Cell) → inked (symbol_text cell.symbol) (sgr_of cell) ≡ look_of cell
unfolding look_of
ink-look cell = refl

laid-draws : (w h x y n end : ℕ) (cell : Cell) (s u : Emulator) (written after : ℕ) → s.width ≡ w → s.height ≡ h
    → IsTail (x + n) end y s.columns → width_of cell ≡ n → 0 < n → x + n ≤ w → y < h
    → IsLaid x y n end (look_of cell) s u → after ≡ min (written + 1) (2 ^ 64 - 1)
    → Draws (screen_shown written s) (record { x = x; y = y; cell = cell } ∷ []) (screen_shown after u)
laid-draws w h x y n end cell s u written after wide high tail en some fits row is count = record {
  history = ap (λ (v : Emulator). v.history) is.only;
  width = ap (λ (v : Emulator). v.width) is.only;
  height = ap (λ (v : Emulator). v.height) is.only;
  visible = ap (λ (v : Emulator). v.visible) is.only;
  grid = λ a b.
      rw (wide, high) (ap look_in (is.columns a b) ∙ laid-shown w h x y n end (record {
        x = x;
        y = y;
        cell = cell;
      }) s.columns tail refl refl en some fits row a b);
  written = λ below. omega arith;
  full = λ above. omega arith;
}

-- ---- a vacant cell

pub vacant-is : (c : Cell) → symbol_text c.symbol ≡ blank → sgr_of c ≡ default_sgr → width_of c ≡ 1 → IsVacant c
vacant-is c text sgr width = record { look = sym (ink-look c) ∙ ap₂ inked text sgr; width = width }

pub vacant-text : (c : Cell) → IsVacant c → symbol_text c.symbol ≡ blank
vacant-text c is = ap (λ (look : Look). look.symbol) (ink-look c ∙ is.look)

pub vacant-sgr : (c : Cell) → IsVacant c → sgr_of c ≡ default_sgr
vacant-sgr c is =
    ap (λ (look : Look). let sgr : Sgr = record {
      fg = look.fg;
      bg = look.bg;
      underline_color = look.underline_color;
      modifier = look.modifier;
    } in sgr) (ink-look c ∙ is.look)

-- ---- renditions

own-sendable : (colors : Bool) → is_sendable_by colors default_sgr ≡ true
own-sendable true = refl
own-sendable false = refl

sendable-sgr : (w h : ℕ) (colors : Bool) (u : Update) → is_sendable_by colors (sgr_of u.cell) ≡ true
    → is_sendable_on w h colors u ≡ true
sendable-sgr w h colors u sent = rw sent (or_right (not (nat_lt u.x w && nat_lt u.y h)) true refl)

sendable-vacant : (w h : ℕ) (colors : Bool) (u : Update) → IsVacant u.cell → is_sendable_on w h colors u ≡ true
sendable-vacant w h colors u vacant = sendable-sgr w h colors u (ap (is_sendable_by colors) (vacant-sgr u.cell vacant)
    ∙ own-sendable colors)

-- ---- a cell

-- what a cell that fits has
pub record Fits (room : ℕ) (cell : Cell) : Type 0 where
  pub is_text : is_printed (symbol_text cell.symbol) ≡ true
  pub columns : printed_columns (symbol_text cell.symbol) ≡ width_of cell
  pub some : 0 < width_of cell
  pub inside : width_of cell ≤ room

true-of : (b : Bool) → IsTrue b → b ≡ true
true-of b is = grind (arith, nat_tests)

pub fit-parts : (room : ℕ) (cell : Cell) → IsTrue (is_fit room cell) → Fits room cell
fit-parts room cell fit =
    let one = and_parts _ (nat_le (width_of cell) room) (true-of _ fit) in
    let two = and_parts _ (nat_lt 0 (width_of cell)) one.0 in
    let three = and_parts (is_printed (symbol_text cell.symbol))
    (printed_columns (symbol_text cell.symbol) == width_of cell) two.0 in
    let equal = three.1 in
    let some = two.1 in
    let inside = one.1 in
    record {
      is_text = three.0;
      columns = grind (arith, nat_tests);
      some = grind (arith, nat_tests);
      inside = grind (arith, nat_tests);
    }

-- without a forced width a cell takes the columns of its text
pub own-width : (c : Cell) → (c.diff_option ≡ DiffOption.None) ⊎ (c.diff_option ≡ DiffOption.Skip)
    ⊎ (c.diff_option ≡ DiffOption.AlwaysUpdate) → width_of c ≡ text_width (symbol_text c.symbol)
unfolding width_of
own-width c (inl e) = rw e refl
own-width c (inr (inl e)) = rw e refl
own-width c (inr (inr e)) = rw e refl

-- ---- how a cell is printed

pub takes-own : (c : Cell) (n : ℕ) → IsUtf8 (symbol_text c.symbol) → n ≡ printed_columns (symbol_text c.symbol)
    → (c.diff_option ≡ DiffOption.None) ⊎ (c.diff_option ≡ DiffOption.Skip) ⊎ (c.diff_option ≡ DiffOption.AlwaysUpdate)
    → true ≡ nat_eq n (width_of c)
takes-own c n utf8 e own =
    let same : n ≡ width_of c = e ∙ printed-width (symbol_text c.symbol) utf8 ∙ sym (own-width c own) in
    rw same (sym (equal-number (width_of c)))

-- a cell with one printable character of ASCII
printable-fits : (room : ℕ) (c : Cell) (b : ℕ) → symbol_text c.symbol ≡ b ∷ [] → 32 ≤ b → b ≤ 126
    → width_of c ≡ text_width (symbol_text c.symbol) → 0 < room → IsGlyph room c (Plain b)
printable-fits room c b text low high own some =
    let small : b < 128 = omega arith in
    let plain : is_plain_char b ≡ true = grind (arith, nat_tests) in
    let same : encode b ≡ symbol_text c.symbol = encode_ascii b small ∙ sym text in
    let printed : is_printed (symbol_text c.symbol) ≡ true = subst (λ xs. is_printed xs ≡ true) same (plain-printed b plain) in
    let one : is_one_plain (chars (symbol_text c.symbol)) ≡ true = subst (λ xs. is_one_plain (chars xs) ≡ true) same
    (plain-single b plain) in
    let wide : width_of c ≡ 1 = own ∙ ap text_width text ∙ one_byte b in
    let inside : nat_le 1 room ≡ true = grind (arith, nat_tests) in
    record {
      fits = rw (printed, one, wide, inside) refl;
      symbol = record {
        printed = printed;
        columns = rw one refl;
        disputed = sym (one-undisputed (symbol_text c.symbol) one);
        plain = (plain, sym same);
      };
    }

pub printable-gives : (c : Cell) (found : Option ℕ) → IfSome found (λ b. (symbol_text c.symbol ≡ b ∷ []) × (32 ≤ b) × (b ≤ 126))
    → width_of c ≡ text_width (symbol_text c.symbol)
    → IfSome found (λ b. (room : ℕ) → 0 < room → IsGlyph room c (Plain b))
printable-gives c None is own = tt
printable-gives c (Some b) is own = λ room some. printable-fits room c b is.0 is.1 is.2 own some

cursor-at : (end y w ux uy uw : ℕ) → ux ≡ end → uy ≡ y → uw ≡ w → let at : Position = record { x = min ux (uw - 1); y = uy } in
    let goal : Position = record { x = min end (w - 1); y = y } in at ≡ goal
cursor-at end y w ux uy uw ex ey ew = rw (ex, ey, ew) refl

lay-sends : (p : Position) (n end : ℕ) (cell : Cell) (a e : Draw) → IsUncovered a p → Fits (a.target.width - p.x) cell
    → width_of cell ≡ n → e.target ≡ a.target
    → DrawSends a (λ t. blanked (p.x + n) p.y (end - (p.x + n)) (printed_at p.x p.y (sgr_of cell) (symbol_text cell.symbol) t)) e
    → AreCovered a.target.width p n end a.continuations.now e.continuations.now
    → e.state.cursor ≡ record { x = min end (a.target.width - 1); y = p.y }
    → e.state.written ≡ min (a.state.written + 1) (2 ^ 64 - 1)
    → SendsUpdates a (update_in p cell ∷ []) e
lay-sends p n end cell a e free fit en same both covers cursor count =
    let x = p.x in
    let y = p.y in
    let w = a.target.width in
    let h = a.target.height in
    let symbol = symbol_text cell.symbol in
    let m = end - (x + n) in
    let columns : printed_columns symbol ≡ n = fit.columns ∙ en in
    let some : 0 < n = let s = fit.some in omega arith in
    let fits : x + n ≤ w = let i = fit.inside in let c = free.column in omega arith in
    let left : (t : Emulator) → IsDrawing a t → is_continuation ((rested t).columns x y) ≡ false =
    λ t is. sym (is.continuations.each x y free.column free.row) ∙ free.uncut in
    let tail : (t : Emulator) → IsDrawing a t → IsTail (x + n) end y (rested t).columns =
    λ t is. tail-of w h (x + n) end y a.continuations.now (rested t).columns is.continuations is.ready.tidy.beyond free.row
    covers.ordered covers.inside covers.set covers.unset in
    Leads-so both (λ t is. record { width = is.ready.rest.width; height = is.ready.rest.height; drawn = is.drawn })
    (λ t v is did.
    let u = rested v in
    let at : IsLaid x y n end (look_of cell) (rested t) u = subst (IsLaid x y n end (look_of cell) (rested t)) (sym did.printed)
    (subst (λ look. IsLaid x y n end look (rested t) (blanked (x + n) y m (printed_at x y (sgr_of cell) symbol (rested t))))
    (ink-look cell)
    (laid-by w h x y n end (sgr_of cell) symbol (rested t) is.ready columns some fits covers.inside free.row (left t is)
    (tail t is))) in
    let wide : u.width ≡ w = ap (λ (v : Emulator). v.width) at.only ∙ is.ready.rest.width in (
      record {
        drawn = did.drawn;
        ready = rw same (laid-ready w h x y n end (look_of cell) (rested t) u is.ready (sym columns
            ∙ ap (λ (look : Look). printed_columns look.symbol) (ink-look cell)) fits free.row (left t is) (tail t is) at);
        continuations = rw same (laid-flags w h x y n end (look_of cell) (rested t) u a.continuations.now e.continuations.now
            is.continuations covers.ordered covers.inside some at covers.marked);
        cursor = cursor-at end y w u.x u.y u.width at.x_at at.y_at wide ∙ sym cursor;
      },
      laid-draws w h x y n end cell (rested t) u a.state.written e.state.written is.ready.rest.width
          is.ready.rest.height (tail t is) en some fits free.row at count,
    ))

-- one more item was counted
abbrev pub one-more : DrawState → DrawState
one-more d = record d { written = min (d.written + 1) (2 ^ 64 - 1) }

-- a rendition, a symbol, and blanks in what is left of another one
pub cell-draws : (p : Position) (cell : Cell) (glyph : Glyph) (end : ℕ) (a b c d : Draw) → IsDraw a → IsUncovered a p
    → IsGlyph (a.target.width - p.x) cell glyph → OnlyPens a b → SetsSgr a (sgr_of cell) b → OnlyPens b c
    → PrintsSymbol b p (symbol_text cell.symbol) c → KeepsDraw c d → Covers c p (glyph_columns glyph) end d
    → DrawsUpdates a (update_in p cell ∷ [])
    (record d { state = one-more (record d.state { cursor = record { x = min end (d.target.width - 1); y = p.y } }) })
cell-draws p cell glyph end a b c d draw free is ab sets bc prints cd covers =
    let sgr = sgr_of cell in
    let w = a.target.width in
    let h = a.target.height in
    let to_c : c.target ≡ a.target = bc.keeps.target ∙ ab.keeps.target in
    let to_d : d.target ≡ a.target = cd.target ∙ to_c in
    let set : DrawSends a (with_sgr sgr) b = rw sets.pen (sgr-paints w h a.state.pen sgr _ _ sets.changes) in
    let printed = rw ab.keeps.target at (subst (λ s. DrawSends b (printed_at p.x p.y s (symbol_text cell.symbol)) c)
    (ap (λ (q : Pen). q.sgr) sets.pen) prints.prints) in
    let cleared = rw to_c at covers.paints in
    let both = PenSends-then w h _ _ _ _ _ _ _ _ (λ t. (refl, refl)) (PenSends-then w h _ _ _ _ _ _ _ _
    (λ t. (refl, refl)) set printed) cleared in
    let fit = fit-parts (w - p.x) cell (rw is.fits refl) in
    let count = λ (d : DrawState). d.written in
    record {
      sends = lay-sends p (glyph_columns glyph) end cell a _ free fit (sym (is.symbol.columns ∙ fit.columns)) to_d both
          (rw (to_c, bc.flags, ab.flags) at covers.flags)
          (ap (λ (t : Target). record { x = min end (t.width - 1); y = p.y }) to_d)
          (ap (λ k. min (k + 1) (2 ^ 64 - 1)) (ap count covers.state ∙ ap count bc.state ∙ ap count ab.state));
      sendable = rw (sendable-sgr w h a.target.has_underline_colors (update_in p cell) sets.sendable) refl;
      places = places-on-then (rw sets.pen (places-sgr a.state.pen sgr _ _ sets.changes))
          (places-on-then prints.places covers.places);
      ready = record {
        count = rw to_d (cd.count ∙ ap length (bc.flags ∙ ab.flags) ∙ draw.count);
        sgr = rw to_d (elim covers.sgr [
          | inl q ↦ rw (q, prints.sgr, sets.pen) sets.sendable
          | inr q ↦ rw q (own-sendable a.target.has_underline_colors)
        ]);
      };
    }

-- ---- cells of which nothing is sent

still-draws : (u : Update) (a : Draw) → IsDraw a
    → is_sendable_on a.target.width a.target.height a.target.has_underline_colors u ≡ true
    → ((c : Columns) → AreContinuations a.target.width a.target.height a.continuations.now c
    → (i j : ℕ) → look_in (c i j) ≡ put a.target.width a.target.height u (λ k l. look_in (c k l)) i j)
    → DrawsUpdates a (u ∷ []) (record a { state = one-more a.state })
still-draws u a draw sendable same = record {
  sends = Leads-none refl (λ t is. (
    record { drawn = is.drawn; ready = is.ready; continuations = is.continuations; cursor = is.cursor },
    record {
      history = refl;
      width = refl;
      height = refl;
      visible = refl;
      grid = λ i j. rw (is.ready.rest.width, is.ready.rest.height) (same (rested t).columns is.continuations i j);
      written = λ below. omega arith;
      full = λ above. omega arith;
    },
  ));
  sendable = rw sendable refl;
  places = places-on _ _;
  ready = record { count = draw.count; sgr = draw.sgr };
}

pub draws-off : (p : Position) (cell : Cell) (a : Draw) → IsDraw a
    → (nat_lt p.x a.target.width && nat_lt p.y a.target.height) ≡ false
    → DrawsUpdates a (update_in p cell ∷ []) (record a { state = one-more a.state })
draws-off p cell a draw off = still-draws (update_in p cell) a draw (rw off refl) (λ c are i j. rw off refl)

kept : (w x y a b : ℕ) (c : Columns) → look_in (c x y) ≡ empty_look
    → look_in (c a b) ≡ (if nat_eq b y then
    (if nat_eq a x then empty_look else (if nat_lt x a && nat_lt a (x + 1) && nat_lt a w then empty_look else look_in
    (c a b))) else look_in (c a b))
kept w x y a b c shows =
    elim (nat_eq b y) as (λ p. nat_eq b y ≡ p
    → look_in (c a b) ≡ (if p then
    (if nat_eq a x then empty_look else (if nat_lt x a && nat_lt a (x + 1) && nat_lt a w then empty_look else look_in
    (c a b))) else look_in (c a b))) [
      | true ↦ λ e. elim (nat_eq a x) as (λ q. nat_eq a x ≡ q
          → look_in (c a b) ≡ (if q then empty_look else
          (if nat_lt x a && nat_lt a (x + 1) && nat_lt a w then empty_look else look_in (c a b)))) [
            | true ↦ λ f.
                let here_x : a ≡ x = grind (arith, nat_tests) in
                let here_y : b ≡ y = grind (arith, nat_tests) in
                ap₂ (λ i j. look_in (c i j)) here_x here_y ∙ shows
            | false ↦ λ f. let g : (nat_lt x a && nat_lt a (x + 1)) ≡ false = grind (arith, nat_tests) in rw g refl
          ] refl
      | false ↦ λ e. refl
    ] refl

put-vacant : (w h : ℕ) (u : Update) (flags : List Bool) → u.x < w → u.y < h → flag flags (u.y * w + u.x) ≡ true
    → IsVacant u.cell
    → (c : Columns) → AreContinuations w h flags c → (a b : ℕ) → look_in (c a b) ≡ put w h u (λ i j. look_in (c i j)) a b
put-vacant w h u flags column row covered vacant c are a b =
    let x_test : nat_lt u.x w ≡ true = grind (arith, nat_tests) in
    let y_test : nat_lt u.y h ≡ true = grind (arith, nat_tests) in
    let shows : look_in (c u.x u.y) ≡ empty_look = continuation-empty (c u.x u.y) (sym (are.each u.x u.y column row) ∙ covered) in
    rw (x_test, y_test, vacant.look, vacant.width) (kept w u.x u.y a b c shows)

pub draws-vacant : (p : Position) (cell : Cell) (a : Draw) → IsDraw a → p.x < a.target.width → p.y < a.target.height
    → is_covered a p.x p.y ≡ true → IsVacant cell
    → DrawsUpdates a (update_in p cell ∷ []) (record a { state = one-more a.state })
draws-vacant p cell a draw column row covered vacant =
    let w = a.target.width in
    let h = a.target.height in
    let u = update_in p cell in
    still-draws u a draw (sendable-vacant w h a.target.has_underline_colors u vacant)
    (put-vacant w h u a.continuations.now column row covered vacant)

-- ---- a draw

pub draws-none : (d : Draw) → IsDraw d → DrawsUpdates d [] d
draws-none d is = record {
  sends = Leads-none refl (λ t here. (here, Draws-none (screen_shown d.state.written (rested t))));
  sendable = refl;
  places = places-on _ _;
  ready = is;
}

pub draws-push : (us : List Update) (u : Update) (a b c : Draw) → KeepsDraw a b → DrawsUpdates a us b → DrawsUpdates b (u ∷ []) c
    → DrawsUpdates a (us ++ u ∷ []) c
draws-push us u a b c keeps first second = record {
  sends = Leads-then first.sends second.sends (λ s t is did. did.0) (λ s t v is did more. (more.0, Draws-push did.1 more.1));
  sendable = list_all-append _ us (u ∷ []) ∙ rw (first.sendable, rw keeps.target at second.sendable) refl;
  places = places-on-then first.places second.places;
  ready = second.ready;
}

-- a draw begins with the own rendition and an unknown place
pub begins : (d : Draw) (t : Emulator) → BeginsDraw d
    → IsAwaiting d.target.width d.target.height d.state.cursor d.continuations.now t → IsDrawing d t
begins d t start is = record {
  drawn = record {
    phase = is.phase;
    sgr = is.ready.rest.sgr ∙ sym start.sgr;
    modes = is.ready.rest.modes;
    placed = subst (λ at. IfSome at (λ p. WritesAt p.x p.y t)) (sym start.place) tt;
  };
  ready = record {
    rest = record {
      phase = is.ready.rest.phase;
      text = is.ready.rest.text;
      width = is.ready.rest.width;
      height = is.ready.rest.height;
      sgr = refl;
      top = is.ready.rest.top;
      bottom = is.ready.rest.bottom;
      modes = is.ready.rest.modes;
      sure = is.ready.rest.sure;
    };
    row = is.ready.row;
    tidy = is.ready.tidy;
  };
  continuations = is.continuations;
  cursor = is.placed;
}

with-own : (w h : ℕ) (t : Emulator) → t.sgr ≡ default_sgr → IsIdle w h (with_sgr default_sgr t) → IsIdle w h t
with-own w h t own ready = record {
  rest = record {
    phase = ready.rest.phase;
    text = ready.rest.text;
    width = ready.rest.width;
    height = ready.rest.height;
    sgr = own;
    top = ready.rest.top;
    bottom = ready.rest.bottom;
    modes = ready.rest.modes;
    sure = ready.rest.sure;
  };
  row = ready.row;
  tidy = ready.tidy;
}

-- and ends with the own rendition
ends : (new : List ℕ) (d : Draw) → ChangesSgr d.state.pen.sgr default_sgr (draw_bytes d) new
    → Leads (draw_bytes d) new (IsDrawing d) (λ t u.
    IsAwaiting d.target.width d.target.height d.state.cursor d.continuations.now u
    × (screen_shown d.state.written (rested u) ≡ screen_shown d.state.written (rested t)))
ends new d (Stays same none) = Leads-none none (λ t is. (
  record {
    phase = is.drawn.phase;
    ready = with-own d.target.width d.target.height (rested t) (is.drawn.sgr ∙ same) is.ready;
    continuations = is.continuations;
    placed = is.cursor;
  },
  refl,
))
ends new d (Sets does) = Leads-so does (λ t is. is.drawn.phase) (λ t u is e.
    subst (λ v. IsAwaiting d.target.width d.target.height d.state.cursor d.continuations.now v
    × (screen_shown d.state.written (rested v) ≡ screen_shown d.state.written (rested t)))
    (sym e) (record { phase = refl; ready = is.ready; continuations = is.continuations; placed = is.cursor }, refl))

pub draw-sends : (old mid : Draw) (new : List ℕ) (us : List Update) → BeginsDraw old → KeepsDraw old mid → SendsUpdates old us mid
    → ChangesSgr mid.state.pen.sgr default_sgr (draw_bytes mid) new
    → SendsDraw old.target.width old.target.height (draw_bytes old) old.state.cursor old.state.written old.continuations.now
    us new mid.state.cursor mid.state.written mid.continuations.now
draw-sends old mid new us start keeps sends changes =
    let drawn = Leads-so sends (λ t is. begins old t start is) (λ t u is did. did) in
    Leads-then drawn (ends new mid changes) (λ t u is did. did.0) (λ t u v is did more.
    (rw keeps.target at more.0, subst (Draws (screen_shown old.state.written (rested t)) us) (sym more.1) did.1))
