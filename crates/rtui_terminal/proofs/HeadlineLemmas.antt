-- Each call that does what its relation says is faithful, and so is a list of them.
use Rattle.std.proofs.Common.{rules, ◌≡◌, ◌⊎◌, List, [], ◌∷◌, ◌++◌, refl, sym, ap, ◌∙◌, subst, inl, inr}
use Rattle.std.proofs.Common.{append_assoc, append-nil}
use Rattle.rtui_cell.specs.Look.{Look}
use Rattle.rtui_buffer.specs.{BufferData.BufferData, BufferData.IsEmptied, Shown.IsSettledBuffer}
use Rattle.rtui_backend.specs.Screen.{Screen, screen_area}
use Rattle.rtui_viewport.specs.{Viewports.IsFixed, Viewports.IsInline}
use Rattle.rtui_insert.specs.Insertion.{AreRowsOfAll, AppendsRows}
use Rattle.rtui_terminal.specs.{TerminalData.TerminalData, Cursor.Stays, Resizing.Resizes}
use Rattle.rtui_terminal.specs.{Resizing.Autoresizes}
use Rattle.rtui_terminal.specs.InStep.{IsReady, IsInStep, IsSized, KeepsAroundViewport, rows_over}
use Rattle.rtui_terminal.specs.{Writing.Applies, Drawing.DrawsFrame}
use Rattle.rtui_terminal.specs.Headline.{Call, Draw, Apply, Insert, Clear, Resize, Autoresize, HideCursor, ShowCursor, SetCursor}
use Rattle.rtui_terminal.specs.Headline.{Ask, Paint, Refuse, Event, Along, last_state, inserted_by, inserted_along, MayTakeSize}
use Rattle.rtui_terminal.specs.Headline.{Does, IsFair, HasKnownSize, IsSteady, IsKeptOrEmptied, Leaves, IsFaithful}
use Rattle.rtui_terminal.proofs.{StepLemmas.not_both}
use Rattle.rtui_terminal.proofs.KeepLemmas.{Keeps, kept_rest, keeps_cursor, stays_keeps}
use Rattle.rtui_terminal.proofs.{KeepLemmas.size_drawn, KeepLemmas.same_area}

none_appended : {old new : List (List Look)} → new ≡ old → AppendsRows [] old new
none_appended {old} e = record { rows = []; appended = e ∙ sym (append-nil old); agree = refl }

pub all_append : (ss ts : List BufferData) (xs ys : List (List Look)) → AreRowsOfAll ss xs → AreRowsOfAll ts ys
    → AreRowsOfAll (ss ++ ts) (xs ++ ys)
all_append [] ts xs ys p q = subst (λ zs. AreRowsOfAll ts (zs ++ ys)) (sym p) q
all_append (s ∷ ss) ts xs ys p q = (
  p.0,
  p.1 ++ ys,
  ap (λ zs. zs ++ ys) p.2 ∙ append_assoc p.0 p.1 ys,
  p.3,
  all_append ss ts p.1 ys p.4 q,
)

-- what is appended in two steps
pub appends_more : (ss ts : List BufferData) (a b c : List (List Look)) → AppendsRows ss a b → AppendsRows ts b c
    → AppendsRows (ss ++ ts) a c
appends_more ss ts a b c p q = record {
  rows = p.rows ++ q.rows;
  appended = q.appended ∙ ap (λ xs. xs ++ q.rows) p.appended ∙ append_assoc a p.rows q.rows;
  agree = all_append ss ts p.rows q.rows p.agree q.agree;
}

module _ {B : Type 0} (screen : B → Screen) where
  kept_step : (s t : TerminalData B) → Keeps screen s t → IsInStep screen s → IsInStep screen t
  kept_step s t k step = search rules

  keeps_more : (s t u : TerminalData B) → Keeps screen s t → Keeps screen t u → Keeps screen s u
  keeps_more s t u p q = search rules

  pub stays_step : (s t : TerminalData B) → Stays screen s t → IsInStep screen s → IsInStep screen t
  stays_step s t stays = kept_step s t (stays_keeps screen s t stays)

  keeps_current : (s t : TerminalData B) → t ≡ record s { current = t.current } → Keeps screen s t
  keeps_current s t e = search rules

  -- a call that inserts nothing and leaves the screen as it is
  quiet : (call : Call) (s t : TerminalData B) → inserted_by call ≡ [] → (t.previous ≡ s.previous → Leaves screen call s t)
      → IsInStep screen s → Keeps screen s t → IsFaithful screen call s t
  quiet call s t none leaves step k = record {
    kind = k.kind;
    in_step = kept_step s t k step;
    leaves = leaves k.previous;
    above = λ inline steady. subst (λ sheets. AppendsRows sheets (rows_over screen s) (rows_over screen t)) (sym none)
        (none_appended (kept_rest screen s t k).above);
    outside = λ fixed other. kept_rest screen s t k;
  }

  -- a size that may have been taken
  taken_ready : (s u : TerminalData B) → MayTakeSize screen s u → IsInStep screen s → IsReady screen u
  taken_ready s u (inl e) step = inl (subst (IsInStep screen) (sym e) step)
  taken_ready s u (inr p) step = inr p.1

  taken_kind : (s u : TerminalData B) → MayTakeSize screen s u → u.viewport ≡ s.viewport
  taken_kind s u (inl e) = ap (λ (x : TerminalData B). x.viewport) e
  taken_kind s u (inr p) = ap (λ (x : TerminalData B). x.viewport) p.0

  -- none was if the screen has the size that was known, or the viewport is fixed
  untaken : (s u : TerminalData B) → MayTakeSize screen s u
      → IsFixed s.viewport ⊎ (screen_area (screen u.backend) ≡ s.last_known_area) → (u ≡ s) × IsSized screen u
  untaken s u (inl e) (inl fixed) = (e, inl (subst IsFixed (sym (ap (λ (x : TerminalData B). x.viewport) e)) fixed))
  untaken s u (inl e) (inr known) = (e, inr (known ∙ sym (ap (λ (x : TerminalData B). x.last_known_area) e)))
  untaken s u (inr p) (inl fixed) = absurd (p.1 (inl (subst IsFixed (sym (ap (λ (x : TerminalData B). x.viewport) p.0)) fixed)))
  untaken s u (inr p) (inr known) = absurd (p.1 (inr (known ∙ sym (ap (λ (x : TerminalData B). x.last_known_area) p.0))))

  autoresized_kind : (s t : TerminalData B) → Autoresizes screen s t → t.viewport ≡ s.viewport
  autoresized_kind s t resizes = elim (resizes.case) [
    | inl p ↦ ap (λ (x : TerminalData B). x.viewport) p.1.rest
    | inr p ↦ ap (λ (x : TerminalData B). x.viewport) p.1.rest
  ]

  autoresized_area : (s t : TerminalData B) → Autoresizes screen s t
      → screen_area (screen t.backend) ≡ screen_area (screen s.backend)
  autoresized_area s t resizes = elim (resizes.case) [
    | inl p ↦ ap screen_area p.1.screen_stays
    | inr p ↦
        let r = p.1 in
        same_area (screen t.backend) (screen s.backend) (r.frame.size.width ∙ r.scrolls.width)
        (r.frame.size.height ∙ r.scrolls.height)
  ]

  -- a draw from a state in which the screen may have taken another size
  module _ (s u t : TerminalData B) (painted : BufferData) (taken : MayTakeSize screen s u) (d : DrawsFrame screen u t)
      (is : t.previous ≡ painted) where
    drawn_size : screen_area (screen t.backend) ≡ screen_area (screen u.backend)
    drawn_size =
        let size = size_drawn d.cursor (record (d.sized) { current = t.previous }) d.applied.drawn in
        same_area (screen t.backend) (screen d.sized.backend) size.width size.height ∙ autoresized_area u d.sized d.autoresized

    untaken_rest : IsFixed s.viewport ⊎ (screen_area (screen u.backend) ≡ s.last_known_area) → IsInStep screen s
        → IsSettledBuffer t.previous → KeepsAroundViewport screen s t
    untaken_rest why step settled =
        let p = untaken s u taken why in
        subst (λ x. KeepsAroundViewport screen x t) p.0 (d.keeps (subst (IsInStep screen) (sym p.0) step) p.1 settled)

    drawn_faithful : IsInStep screen s → IsSettledBuffer painted → IsFaithful screen (Draw painted) s t
    drawn_faithful step fair =
        let settled : IsSettledBuffer t.previous = subst IsSettledBuffer (sym is) fair in
        record {
          kind = ap (λ (x : TerminalData B). x.viewport) d.applied.rest ∙ autoresized_kind u d.sized d.autoresized
              ∙ taken_kind s u taken;
          in_step = d.in_step (taken_ready s u taken step) settled;
          leaves = is;
          above = λ inline known. none_appended (untaken_rest (inr (sym drawn_size ∙ known)) step settled).above;
          outside = λ fixed other. untaken_rest (inl fixed) step settled;
        }

  -- a resizing after which only the current buffer changed
  module _ (call : Call) (s u z t : TerminalData B) (none : inserted_by call ≡ [])
      (leaves : IsKeptOrEmptied screen s t → Leaves screen call s t) (known : IsSteady screen call s t → HasKnownSize screen s t)
      (taken : MayTakeSize screen s u) (resizes : Autoresizes screen u z) (rest : t ≡ record z { current = t.current }) where
    after : Keeps screen z t
    after = keeps_current z t rest

    then_area : screen_area (screen t.backend) ≡ screen_area (screen u.backend)
    then_area = same_area (screen t.backend) (screen z.backend) after.size.width after.size.height ∙ autoresized_area u z resizes

    untaken_keeps : IsFixed s.viewport ⊎ (screen_area (screen u.backend) ≡ s.last_known_area) → Keeps screen s t
    untaken_keeps why =
        let p = untaken s u taken why in
        let first : Keeps screen u z = elim (resizes.case) [
          | inl q ↦ stays_keeps screen u z q.1
          | inr q ↦ absurd (q.0 p.1)
        ] in
        subst (λ x. Keeps screen x t) p.0 (keeps_more u z t first after)

    left : (m : MayTakeSize screen s u) → (IsSized screen u × Stays screen u z)
        ⊎ ((IsSized screen u → ⊥) × Resizes screen (screen_area (screen u.backend)) u z) → IsKeptOrEmptied screen s t
    left (inl e) (inl p) =
        inl (after.previous ∙ (stays_keeps screen u z p.1).previous ∙ ap (λ (x : TerminalData B). x.previous) e)
    left (inr p) (inl q) = absurd (p.1 q.0)
    left m (inr q) = inr (
      λ fixed. q.0 (inl (subst IsFixed (sym (taken_kind s u m)) fixed)),
      λ keeps. q.0 ((untaken s u m (inr (sym then_area ∙ keeps))).1),
      subst (λ x. IsEmptied x t.previous) (sym after.view) (subst (IsEmptied z.viewport_area) (sym after.previous)
          (q.1).previous),
    )

    resized_faithful : IsInStep screen s → IsFaithful screen call s t
    resized_faithful step = record {
      kind = after.kind ∙ autoresized_kind u z resizes ∙ taken_kind s u taken;
      in_step = kept_step z t after (resizes.in_step (taken_ready s u taken step));
      leaves = leaves (left taken resizes.case);
      above = λ inline steady.
          subst (λ sheets. AppendsRows sheets (rows_over screen s) (rows_over screen t)) (sym none)
          (none_appended (kept_rest screen s t (untaken_keeps (inr (sym then_area ∙ known steady)))).above);
      outside = λ fixed other. kept_rest screen s t (untaken_keeps (inl fixed));
    }

  same_current : (t : TerminalData B) → t ≡ record t { current = t.current }
  same_current t = refl

  faithful : (call : Call) (s t : TerminalData B) → IsInStep screen s → Does screen call s t → IsFair screen call s t
      → IsFaithful screen call s t
  faithful (Draw painted) s t step does fair = drawn_faithful s does.1.before t painted does.1.taken does.1.then does.0 step fair
  faithful (Apply painted) s t step does fair =
      let settled : IsSettledBuffer s.current = subst IsSettledBuffer (sym does.0) fair in
      let a : Applies screen does.1.0 s t = does.1.1 in
      record {
        kind = ap (λ (x : TerminalData B). x.viewport) a.rest;
        in_step = a.in_step step settled;
        leaves = a.painted ∙ does.0;
        above = λ inline steady. none_appended (a.keeps step settled).above;
        outside = λ fixed other. a.keeps step settled;
      }
  faithful (Insert inserted) s t step does fair = record {
    kind = ap (λ (x : TerminalData B). x.viewport) does.rest;
    in_step = does.in_step fair.1 step fair.0;
    leaves = does.left fair.1 step;
    above = λ inline steady. does.above fair.1 step fair.0;
    outside = λ fixed other. absurd (not_both s.viewport (fair.1).inline fixed);
  }
  faithful Clear s t step does fair = record {
    kind = ap (λ (x : TerminalData B). x.viewport) does.rest;
    in_step = does.in_step step.on_screen step.area;
    leaves = subst (λ r. IsEmptied r t.previous) (step.area ∙ sym (ap (λ (x : TerminalData B). x.viewport_area) does.rest))
        does.previous;
    above = λ inline row. none_appended (does.above inline step.on_screen row);
    outside = λ fixed other. does.keeps fixed step.on_screen;
  }
  faithful (Resize area) s t step does fair = record {
    kind = ap (λ (x : TerminalData B). x.viewport) does.rest;
    in_step = does.in_step fair;
    leaves = does.previous;
    above = λ inline never. absurd never;
    outside = λ fixed other. absurd (other (area, refl));
  }
  faithful Autoresize s t step does fair =
      resized_faithful Autoresize s does.before t t refl (λ x. x) (λ x. x) does.taken does.then (same_current t) step
  faithful HideCursor s t step does fair =
      quiet HideCursor s t refl (λ e. e) step (keeps_cursor screen _ _ s t does.rest does.screen_cursor refl)
  faithful ShowCursor s t step does fair =
      quiet ShowCursor s t refl (λ e. e) step (keeps_cursor screen _ _ s t does.rest does.screen_cursor refl)
  faithful (SetCursor p) s t step does fair =
      quiet (SetCursor p) s t refl (λ e. e) step (keeps_cursor screen _ _ s t does.rest does.screen_cursor refl)
  faithful Ask s t step does fair = quiet Ask s t refl (λ e. e) step (stays_keeps screen s t does)
  faithful Paint s t step does fair = quiet Paint s t refl (λ e. e) step (keeps_current s t does)
  faithful Refuse s t step does fair =
      resized_faithful Refuse s does.before does.then.sized t refl (λ x. x)
      (λ x. x) does.taken does.then.autoresized does.then.rest step

  pub all_faithful : (s : TerminalData B) (events : List (Event B)) → IsInStep screen s → Along (Does screen) s events
      → Along (IsFair screen) s events → Along (IsFaithful screen) s events
  all_faithful s [] step did fair = tt
  all_faithful s (e ∷ es) step did fair =
      let here : IsFaithful screen e.call s e.after = faithful e.call s e.after step did.0 fair.0 in
      (here, all_faithful e.after es here.in_step did.1 fair.1)

  pub all_rows : (s : TerminalData B) (events : List (Event B)) → IsInStep screen s → IsInline s.viewport
      → Along (Does screen) s events → Along (IsFair screen) s events → Along (IsSteady screen) s events
      → AppendsRows (inserted_along events) (rows_over screen s) (rows_over screen (last_state s events))
  all_rows s [] step inline did fair steady = none_appended refl
  all_rows s (e ∷ es) step inline did fair steady =
      let here : IsFaithful screen e.call s e.after = faithful e.call s e.after step did.0 fair.0 in
      appends_more (inserted_by e.call) (inserted_along es) (rows_over screen s) (rows_over screen e.after)
      (rows_over screen (last_state e.after es))
      (here.above inline steady.0)
      (all_rows e.after es here.in_step (subst IsInline (sym here.kind) inline) did.1 fair.1 steady.1)
