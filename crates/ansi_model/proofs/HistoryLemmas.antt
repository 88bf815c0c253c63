-- What a terminal makes of bytes depends neither on the rows that its history has, nor on whether a synchronized update is held.
use Rattle.std.proofs.Common.{◌≡◌, ℕ, ◌+◌, ◌-◌, ◌*◌, ◌==◌, ◌||◌, ◌&&◌, not, nat_eq, nat_lt, nat_le, Bool, true, false, if◌then◌else◌, List}
use Rattle.std.proofs.Common.{[], ◌∷◌, ◌++◌, chars, refl, sym, ap, ◌∙◌, append_assoc}
use Rattle.std.specs.List.{list_all}
use Rattle.ratatui_core.specs.Buffer.{Look, text_width}
use Rattle.ansi_model.specs.Emulator.{Emulator, Phase, types, prints, prints_disputed, prints_whole, printed, printed_alike}
use Rattle.ansi_model.specs.Emulator.{with_modes, holding, rested, unsure, if_so, returned, line_fed, scrolled, row_shown}
use Rattle.ansi_model.specs.Emulator.{cursor_shown}
use Rattle.ansi_model.specs.{Symbols.is_plain_char, Symbols.is_symbol, Symbols.is_disputed, Modes.has_none}
use Rattle.ansi_model.specs.{Beginnings.with_rows_above}
use Rattle.ansi_model.specs.Emulator.Phase.{Ground, Escape, Opened, Sequence, Spaced, Keyed, Letters, OtherLetters, Coding, Told}
use Rattle.ansi_model.specs.Emulator.Phase.{Switching}
use Rattle.ansi_model.specs.Sequences.{feed, reads_in, reads_sequence, reads_spaced, is_text, is_digit, performs, performs_marked}
use Rattle.ansi_model.specs.Sequences.{performs_mode, performs_DSR, is_quiet, sets_mode, performs_ED, performs_EL, performs_CUP}
use Rattle.ansi_model.specs.Sequences.{performs_DECSTBM, performs_DL, performs_IL, performs_XTWINOPS, is_key_mark}
use Rattle.ansi_model.proofs.SymbolLemmas.{rested-modes}

-- a terminal with these rows before those of its history, in a synchronized update or in none
abbrev pub beside : List (List Look) → Bool → Emulator → Emulator
beside rows held t = with_rows_above rows (holding held t)

module _ (rows : List (List Look)) (held : Bool) where
  -- two actions of which one is taken
  either : (v : Bool) (a b c d : Emulator) → c ≡ beside rows held a → d ≡ beside rows held b
      → (if v then c else d) ≡ beside rows held (if v then a else b)
  either true a b c d e f = e
  either false a b c d e f = f

  types-beside : (cs : List ℕ) (t : Emulator) → types cs (beside rows held t) ≡ beside rows held (types cs t)
  types-beside [] t = refl
  types-beside (c ∷ cs) t = types-beside cs _

  printed-beside : (text : List ℕ) (t : Emulator) → printed text (beside rows held t) ≡ beside rows held (printed text t)
  printed-beside [] t = refl
  printed-beside (b ∷ bs) t =
      let text = b ∷ bs in
      let whole : prints_whole text (text_width text) (beside rows held t) ≡ beside rows held
      (prints_whole text (text_width text) t)
      = either (is_disputed text) (prints_disputed text (text_width text) t) (prints text (text_width text) t) _ _ refl refl in
      let alike : printed_alike text (beside rows held t) ≡ beside rows held (printed_alike text t)
      = either (list_all is_plain_char (chars text)) (types (chars text) t)
      (if_so (is_symbol text) (prints_whole text (text_width text) t)) _ _
      (types-beside (chars text) t) (ap (if_so (is_symbol text)) whole) in
      either (has_none t.modes) (printed_alike text t) (unsure (printed_alike text t)) _ _ alike (ap unsure alike)

  rested-beside : (t : Emulator) → rested (beside rows held t) ≡ beside rows held (rested t)
  rested-beside t = ap (λ (u : Emulator). record u { text = []; phase = Ground }) (printed-beside t.text t)

  scrolled-beside : (t : Emulator) → scrolled (beside rows held t) ≡ beside rows held (scrolled t)
  scrolled-beside t = ap (λ h. record (holding held (scrolled t)) { history = h })
      (append_assoc rows t.history (row_shown t 0 ∷ []))

  line_fed-beside : (t : Emulator) → line_fed (beside rows held t) ≡ beside rows held (line_fed t)
  line_fed-beside t = either (nat_eq (t.y + 1) t.bottom) _ _ _ _ (scrolled-beside (if_so (nat_lt t.x t.width) t)) refl

  ED-beside : (ps : List ℕ) (t : Emulator) → performs_ED ps (beside rows held t) ≡ beside rows held (performs_ED ps t)
  ED-beside [] t = refl
  ED-beside (n ∷ []) t = either (n == 0) _ _ _ _ refl (either (n == 1) _ _ _ _ refl (either (n == 2) _ _ _ _ refl refl))
  ED-beside (n ∷ m ∷ ps) t = refl

  EL-beside : (ps : List ℕ) (t : Emulator) → performs_EL ps (beside rows held t) ≡ beside rows held (performs_EL ps t)
  EL-beside [] t = refl
  EL-beside (n ∷ []) t = either (n == 0) _ _ _ _ refl (either (n == 2) _ _ _ _ refl refl)
  EL-beside (n ∷ m ∷ ps) t = refl

  CUP-beside : (ps : List ℕ) (t : Emulator) → performs_CUP ps (beside rows held t) ≡ beside rows held (performs_CUP ps t)
  CUP-beside [] t = refl
  CUP-beside (n ∷ []) t = refl
  CUP-beside (n ∷ m ∷ []) t = refl
  CUP-beside (n ∷ m ∷ k ∷ ps) t = refl

  DECSTBM-beside : (ps : List ℕ) (t : Emulator)
      → performs_DECSTBM ps (beside rows held t) ≡ beside rows held (performs_DECSTBM ps t)
  DECSTBM-beside [] t = refl
  DECSTBM-beside (n ∷ []) t = either (n == 0) _ _ _ _ refl refl
  DECSTBM-beside (n ∷ m ∷ []) t = refl
  DECSTBM-beside (n ∷ m ∷ k ∷ ps) t = refl

  DL-beside : (ps : List ℕ) (t : Emulator) → performs_DL ps (beside rows held t) ≡ beside rows held (performs_DL ps t)
  DL-beside [] t = refl
  DL-beside (n ∷ []) t = either (n == 0) _ _ _ _ refl refl
  DL-beside (n ∷ m ∷ ps) t = refl

  IL-beside : (ps : List ℕ) (t : Emulator) → performs_IL ps (beside rows held t) ≡ beside rows held (performs_IL ps t)
  IL-beside [] t = refl
  IL-beside (n ∷ []) t = either (n == 0) _ _ _ _ refl refl
  IL-beside (n ∷ m ∷ ps) t = refl

  mode-beside : (on : Bool) (ps : List ℕ) (t : Emulator)
      → performs_mode on ps (beside rows held t) ≡ beside rows held (performs_mode on ps t)
  mode-beside on [] t = refl
  mode-beside on (n ∷ []) t = either (n == 4) _ _ _ _ refl refl
  mode-beside on (n ∷ m ∷ ps) t = refl

  DSR-beside : (ps : List ℕ) (t : Emulator) → performs_DSR ps (beside rows held t) ≡ beside rows held (performs_DSR ps t)
  DSR-beside [] t = refl
  DSR-beside (n ∷ []) t = either (n == 6) _ _ _ _ refl refl
  DSR-beside (n ∷ m ∷ ps) t = refl

  XTWINOPS-beside : (ps : List ℕ) (t : Emulator)
      → performs_XTWINOPS ps (beside rows held t) ≡ beside rows held (performs_XTWINOPS ps t)
  XTWINOPS-beside [] t = refl
  XTWINOPS-beside (m ∷ []) t = refl
  XTWINOPS-beside (m ∷ n ∷ []) t = either (((m == 22) || (m == 23)) && (n == 2)) _ _ _ _ refl refl
  XTWINOPS-beside (m ∷ n ∷ k ∷ ps) t = refl

  performs-beside : (ps : List ℕ) (final : ℕ) (t : Emulator)
      → performs ps final (beside rows held t) ≡ beside rows held (performs ps final t)
  performs-beside ps final t =
      either (final == 72) _ _ _ _ (CUP-beside ps t)
      (either (final == 109) _ _ _ _ refl
      (either (final == 74) _ _ _ _ (ED-beside ps t)
      (either (final == 75) _ _ _ _ (EL-beside ps t)
      (either (final == 114) _ _ _ _ (DECSTBM-beside ps t)
      (either (final == 77) _ _ _ _ (DL-beside ps t)
      (either (final == 76) _ _ _ _ (IL-beside ps t)
      (either (final == 104) _ _ _ _ (mode-beside true ps t) (either (final == 108) _ _ _ _ (mode-beside false ps t)
      (either (final == 110) _ _ _ _ (DSR-beside ps t) (either (final == 116) _ _ _ _ (XTWINOPS-beside ps t) refl))))))))))

  spaced-beside : (ps : List ℕ) (b : ℕ) (t : Emulator)
      → reads_spaced ps b (beside rows held t) ≡ beside rows held (reads_spaced ps b t)
  spaced-beside [] b t = either (b == 113) _ _ _ _ refl refl
  spaced-beside (n ∷ []) b t = either (b == 113) _ _ _ _ (either (nat_le n 6) _ _ _ _ refl refl) refl
  spaced-beside (n ∷ m ∷ ps) b t = either (b == 113) _ _ _ _ refl refl

  ground-beside : (b : ℕ) (t : Emulator) → reads_in Ground b (beside rows held t) ≡ beside rows held (reads_in Ground b t)
  ground-beside b t =
      either (b == 27) _ _ _ _ (ap (λ (u : Emulator). record u { phase = Escape }) (rested-beside t))
      (either (is_text b) _ _ _ _ refl
      (either (b == 13) _ _ _ _ (ap returned (rested-beside t))
      (either (b == 10) _ _ _ _ (ap line_fed (rested-beside t) ∙ line_fed-beside (rested t))
      (either (b == 15) _ _ _ _ (ap (λ (u : Emulator). with_modes (record u.modes { shifted = false }) u) (rested-beside t))
      (either (b == 14) _ _ _ _ (ap (λ (u : Emulator). with_modes (record u.modes { shifted = true }) u) (rested-beside t))
      (ap unsure (rested-beside t)))))))

  escape-beside : (b : ℕ) (t : Emulator) → reads_in Escape b (beside rows held t) ≡ beside rows held (reads_in Escape b t)
  escape-beside b t =
      either (b == 91) _ _ _ _ refl
      (either (b == 93) _ _ _ _ refl
      (either (b == 92) _ _ _ _ refl (either (b == 40) _ _ _ _ refl
      (either ((b == 41) || (b == 42)) _ _ _ _ refl (either (b == 125) _ _ _ _ refl (either (b == 37) _ _ _ _ refl refl))))))

  letters-beside : (b : ℕ) (t : Emulator) → reads_in Letters b (beside rows held t) ≡ beside rows held (reads_in Letters b t)
  letters-beside b t = either (b == 66) _ _ _ _ refl (either (b == 48) _ _ _ _ refl refl)

  other_letters-beside : (b : ℕ) (t : Emulator)
      → reads_in OtherLetters b (beside rows held t) ≡ beside rows held (reads_in OtherLetters b t)
  other_letters-beside b t = either (b == 66) _ _ _ _ refl refl

  coding-beside : (b : ℕ) (t : Emulator) → reads_in Coding b (beside rows held t) ≡ beside rows held (reads_in Coding b t)
  coding-beside b t = either (b == 71) _ _ _ _ refl (either (b == 64) _ _ _ _ refl refl)

  keyed-beside : (b : ℕ) (t : Emulator) → reads_in Keyed b (beside rows held t) ≡ beside rows held (reads_in Keyed b t)
  keyed-beside b t = either (is_digit b) _ _ _ _ refl (either (b == 117) _ _ _ _ refl refl)

  told-beside : (b : ℕ) (t : Emulator) → reads_in Told b (beside rows held t) ≡ beside rows held (reads_in Told b t)
  told-beside b t = either (b == 27) _ _ _ _ refl (either (is_text b) _ _ _ _ refl refl)

-- the same in an update that goes on, or that a byte begins or ends
record IsBeside (rows : List (List Look)) (same : Bool) (s t : Emulator) : Type 0 where
  pub held : Bool
  pub is : s ≡ beside rows held t
  pub kept : same ≡ true → held ≡ t.modes.held

module _ (rows : List (List Look)) (held same : Bool) where
  one-of : (v : Bool) (a b c d : Emulator) → IsBeside rows same c a → IsBeside rows same d b
      → IsBeside rows same (if v then c else d) (if v then a else b)
  one-of true a b c d e f = e
  one-of false a b c d e f = f

  -- what neither begins nor ends an update
  goes-on : (f : Emulator → Emulator) → ((r : List (List Look)) (h : Bool) (u : Emulator) → f (beside r h u) ≡ beside r h (f u))
      → (t : Emulator) → (same ≡ true → held ≡ t.modes.held) → IsBeside rows same (f (beside rows held t)) (f t)
  goes-on f passes t kept = record {
    held = held;
    is = passes rows held t;
    kept = λ e. kept e ∙ sym (ap (λ (u : Emulator). u.modes.held) (passes [] t.modes.held t));
  }

  sets-beside : (on : Bool) (m : ℕ) (t : Emulator) → (same ≡ true → held ≡ t.modes.held)
      → IsBeside rows same (sets_mode on m (beside rows held t)) (sets_mode on m t)
  sets-beside on m t kept =
      one-of (m == 25) _ _ _ _ (goes-on (cursor_shown on) (λ r h u. refl) t kept)
      (one-of (m == 6) _ _ _ _ (goes-on (λ u. record u { modes = record u.modes { origin = on }; x = 0; y = 0 })
      (λ r h u. refl) t kept)
      (one-of (m == 69) _ _ _ _ (goes-on (λ u. with_modes (record u.modes { sides = on }) u) (λ r h u. refl) t kept)
      (one-of (m == 7) _ _ _ _ (goes-on (λ u. with_modes (record u.modes { unwrapped = not on }) u) (λ r h u. refl) t kept)
      (one-of (m == 2026) _ _ _ _ (record { held = on; is = refl; kept = λ e. refl })
      (one-of (m == 1049) _ _ _ _ (goes-on (λ u. record u { phase = Switching on }) (λ r h u. refl) t kept)
      (one-of (is_quiet m) _ _ _ _ (goes-on (λ u. u) (λ r h u. refl) t kept) (goes-on unsure (λ r h u. refl) t kept)))))))

  marked-beside : (ps : List ℕ) (final : ℕ) (t : Emulator) → (same ≡ true → held ≡ t.modes.held)
      → IsBeside rows same (performs_marked ps final (beside rows held t)) (performs_marked ps final t)
  marked-beside [] final t kept = goes-on unsure (λ r h u. refl) t kept
  marked-beside (m ∷ []) final t kept =
      one-of (final == 104) _ _ _ _ (sets-beside true m t kept) (one-of (final == 108) _ _ _ _ (sets-beside false m t kept)
      (goes-on unsure (λ r h u. refl) t kept))
  marked-beside (m ∷ n ∷ ps) final t kept = goes-on unsure (λ r h u. refl) t kept

  sequence-beside : (mark : Bool) (done : List ℕ) (n b : ℕ) (t : Emulator) → (same ≡ true → held ≡ t.modes.held)
      → IsBeside rows same (reads_sequence mark done n b (beside rows held t)) (reads_sequence mark done n b t)
  sequence-beside mark done n b t kept =
      one-of (is_digit b) _ _ _ _ (goes-on (λ u. record u { phase = Sequence mark done (n * 10 + (b - 48)) })
      (λ r h u. refl) t kept)
      (one-of (b == 59) _ _ _ _ (goes-on (λ u. record u { phase = Sequence mark (done ++ n ∷ []) 0 }) (λ r h u. refl) t kept)
      (one-of mark _ _ _ _ (marked-beside (done ++ n ∷ []) b (record t { phase = Ground }) kept)
      (one-of (b == 32) _ _ _ _ (goes-on (λ u. record u { phase = Spaced (done ++ n ∷ []) }) (λ r h u. refl) t kept)
      (goes-on (performs (done ++ n ∷ []) b) (λ r h u. performs-beside r h (done ++ n ∷ []) b u)
      (record t { phase = Ground }) kept))))

  reads-beside : (phase : Phase) (b : ℕ) (t : Emulator) → (same ≡ true → held ≡ t.modes.held)
      → IsBeside rows same (reads_in phase b (beside rows held t)) (reads_in phase b t)
  reads-beside Ground b t kept = goes-on (reads_in Ground b) (λ r h u. ground-beside r h b u) t kept
  reads-beside Escape b t kept = goes-on (reads_in Escape b) (λ r h u. escape-beside r h b u) t kept
  reads-beside Letters b t kept = goes-on (reads_in Letters b) (λ r h u. letters-beside r h b u) t kept
  reads-beside OtherLetters b t kept = goes-on (reads_in OtherLetters b) (λ r h u. other_letters-beside r h b u) t kept
  reads-beside Coding b t kept = goes-on (reads_in Coding b) (λ r h u. coding-beside r h b u) t kept
  reads-beside Told b t kept = goes-on (reads_in Told b) (λ r h u. told-beside r h b u) t kept
  reads-beside (Switching on) b t kept = goes-on (λ u. u) (λ r h u. refl) t kept
  reads-beside (Spaced ps) b t kept = goes-on (reads_in (Spaced ps) b) (λ r h u. spaced-beside r h ps b u) t kept
  reads-beside Keyed b t kept = goes-on (reads_in Keyed b) (λ r h u. keyed-beside r h b u) t kept
  reads-beside Opened b t kept = one-of (b == 63) _ _ _ _ (goes-on (λ u. record u { phase = Sequence true [] 0 })
      (λ r h u. refl) t kept) (one-of (is_key_mark b) _ _ _ _ (goes-on (λ u. record u { phase = Keyed })
      (λ r h u. refl) t kept) (sequence-beside false [] 0 b t kept))
  reads-beside (Sequence mark done n) b t kept = sequence-beside mark done n b t kept

feed-beside : (bytes : List ℕ) (rows : List (List Look)) (held same : Bool) (t : Emulator) → (same ≡ true → held ≡ t.modes.held)
    → IsBeside rows same (feed bytes (beside rows held t)) (feed bytes t)
unfolding feed
feed-beside [] rows held same t kept = record { held = held; is = refl; kept = kept }
feed-beside (b ∷ bs) rows held same t kept =
    let next = reads-beside rows held same t.phase b t kept in
    let rest = feed-beside bs rows next.held same (reads_in t.phase b t) next.kept in
    record { held = rest.held; is = ap (feed bs) next.is ∙ rest.is; kept = rest.kept }

-- rows above stay above
pub feed-above : (bytes : List ℕ) (rows : List (List Look)) (t : Emulator)
    → feed bytes (with_rows_above rows t) ≡ with_rows_above rows (feed bytes t)
feed-above bytes rows t =
    let all = feed-beside bytes rows t.modes.held true t (λ e. refl) in
    all.is ∙ ap (λ held. beside rows held (feed bytes t)) (all.kept refl)

pub rested-above : (rows : List (List Look)) (t : Emulator) → rested (with_rows_above rows t) ≡ with_rows_above rows (rested t)
rested-above rows t = rested-beside rows t.modes.held t ∙ ap (λ held. beside rows held (rested t))
    (sym (ap (λ m. m.held) (rested-modes t)))

-- a terminal in an update does as it would in none, and ends in one or in none
pub feed-held : (bytes : List ℕ) (held : Bool) (t : Emulator)
    → (after : Bool) × (feed bytes (holding held t) ≡ holding after (feed bytes t))
feed-held bytes held t = let all = feed-beside bytes [] held false t (λ e. let none : ⊥ = cc in absurd none) in (all.held, all.is)

pub rested-held : (held : Bool) (t : Emulator) → rested (holding held t) ≡ holding held (rested t)
rested-held held t = rested-beside [] held t
