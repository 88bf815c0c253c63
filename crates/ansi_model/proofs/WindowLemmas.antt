-- What a window makes of bytes: those that switch no screens are read by the one that it shows.
use Rattle.std.proofs.Common.{◌≡◌, ℕ, Bool, true, List, [], ◌∷◌, ◌++◌, Option, Some, None, IfSome, refl, sym, ap, ◌∙◌}
use Rattle.ansi_model.specs.Emulator.{Emulator, Phase, rested, with_sgr, cursor_shown, without_region}
use Rattle.ansi_model.specs.Emulator.Phase.{Ground, Escape, Opened, Sequence, Spaced, Keyed, Letters, OtherLetters, Coding, Told}
use Rattle.ansi_model.specs.Emulator.Phase.{Switching}
use Rattle.ansi_model.specs.Windows.{Window, alternate_of, come_back, settled_in, reads_on, feed_window}
use Rattle.ansi_model.specs.{Sequences.feed, Sequences.reads_in, Sgr.default_sgr, Endings.ClosesAlternate, Endings.left_back}
use Rattle.ansi_model.specs.{Beginnings.OpensAlternate, Beginnings.IsAsFound, Beginnings.anew}
use Rattle.ansi_model.proofs.{ReadLemmas.feed-append, ReadLemmas.string-read, ReadLemmas.reset-read, ReadLemmas.no_region-read}
use Rattle.ansi_model.proofs.{ReadLemmas.showing-read, CallLemmas.rested-left, CallLemmas.left-anew}

-- a screen that is to be switched reads nothing
stopped : (bytes : List ℕ) (t : Emulator) (alternate : Bool) → t.phase ≡ Switching alternate → feed bytes t ≡ t
unfolding feed
stopped [] t alternate waits = refl
stopped (b ∷ bs) t alternate waits = ap (λ p. feed bs (reads_in p b t)) waits ∙ stopped bs t alternate waits

unswitched : (bytes : List ℕ) (t : Emulator) (aside : Option Emulator) (phase : Phase) → t.phase ≡ phase
    → (feed bytes t).phase ≡ Ground → settled_in phase t aside ≡ record { shown = t; aside = aside }
unswitched bytes t aside (Switching alternate) is ground =
    let same : t.phase ≡ Ground = ap (λ (u : Emulator). u.phase) (sym (stopped bytes t alternate is)) ∙ ground in
    let none : ⊥ = cc in
    absurd none
unswitched bytes t aside Ground is ground = refl
unswitched bytes t aside Escape is ground = refl
unswitched bytes t aside Opened is ground = refl
unswitched bytes t aside (Sequence mark done number) is ground = refl
unswitched bytes t aside (Spaced parameters) is ground = refl
unswitched bytes t aside Keyed is ground = refl
unswitched bytes t aside Letters is ground = refl
unswitched bytes t aside OtherLetters is ground = refl
unswitched bytes t aside Coding is ground = refl
unswitched bytes t aside Told is ground = refl

-- what ends in text has switched no screens
pub window-read : (bytes : List ℕ) (t : Emulator) (aside : Option Emulator) → (feed bytes t).phase ≡ Ground
    → feed_window bytes (record { shown = t; aside = aside }) ≡ record { shown = feed bytes t; aside = aside }
unfolding feed feed_window
window-read [] t aside ground = refl
window-read (b ∷ bs) t aside ground =
    let u : Emulator = reads_in t.phase b t in
    ap (feed_window bs) (unswitched bs u aside u.phase refl ground) ∙ window-read bs u aside ground

pub window-append : (xs ys : List ℕ) (w : Window) → feed_window (xs ++ ys) w ≡ feed_window ys (feed_window xs w)
unfolding feed_window
window-append [] ys w = refl
window-append (x ∷ xs) ys w = window-append xs ys (reads_on x w)

-- ---- the alternate screen

alternate-read : (t : Emulator) → feed_window (27 ∷ 91 ∷ 63 ∷ 49 ∷ 48 ∷ 52 ∷ 57 ∷ 104 ∷ [])
    (record { shown = with_sgr default_sgr (rested t); aside = None })
    ≡ record { shown = alternate_of (with_sgr default_sgr (rested t)); aside = Some (with_sgr default_sgr (rested t)) }
unfolding feed_window
alternate-read t = refl

opening-read : (t : Emulator) → t.phase ≡ Ground
    → feed_window (27 ∷ 92 ∷ 27 ∷ 91 ∷ 48 ∷ 109 ∷ 27 ∷ 91 ∷ 63 ∷ 49 ∷ 48 ∷ 52 ∷ 57 ∷ 104 ∷ [])
    (record { shown = t; aside = None })
    ≡ record { shown = alternate_of (with_sgr default_sgr (rested t)); aside = Some (with_sgr default_sgr (rested t)) }
opening-read t ground =
    let ends : List ℕ = 27 ∷ 92 ∷ [] in
    let resets : List ℕ = 27 ∷ 91 ∷ 48 ∷ 109 ∷ [] in
    let own : List ℕ = ends ++ resets in
    let switches : List ℕ = 27 ∷ 91 ∷ 63 ∷ 49 ∷ 48 ∷ 52 ∷ 57 ∷ 104 ∷ [] in
    let settles : feed own t ≡ with_sgr default_sgr (rested t) = feed-append ends resets t ∙ ap (feed resets)
    (string-read t ground) ∙ reset-read (rested t) refl in
    window-append own switches (record { shown = t; aside = None })
    ∙ ap (feed_window switches) (window-read own t None (ap (λ (u : Emulator). u.phase) settles)
    ∙ ap (λ u. record { shown = u; aside = None }) settles) ∙ alternate-read t

pub opens-alternate : (w h : ℕ) (old : List ℕ)
    → OpensAlternate w h old (old ++ (27 ∷ 92 ∷ 27 ∷ 91 ∷ 48 ∷ 109 ∷ 27 ∷ 91 ∷ 63 ∷ 49 ∷ 48 ∷ 52 ∷ 57 ∷ 104 ∷ []))
opens-alternate w h old = record {
  bytes = _;
  appended = refl;
  read = λ main left.
      let again : IsAsFound w h (anew main) = left-anew w h main left in
      opening-read (anew main) again.phase ∙ ap (λ t. record {
        shown = alternate_of (with_sgr default_sgr t);
        aside = Some (with_sgr default_sgr t);
      }) (rested-left w h (anew main) again);
}

back-read : (t main : Emulator) → feed_window (27 ∷ 91 ∷ 63 ∷ 49 ∷ 48 ∷ 52 ∷ 57 ∷ 108 ∷ [])
    (record { shown = cursor_shown true (without_region (rested t)); aside = Some main })
    ≡ record { shown = come_back main (cursor_shown true (without_region (rested t))); aside = None }
unfolding feed_window
back-read t main = refl

abbrev closing_bytes : List ℕ
closing_bytes = 27 ∷ 91 ∷ 114 ∷ 27 ∷ 91 ∷ 63 ∷ 50 ∷ 53 ∷ 104 ∷ 27 ∷ 91 ∷ 63 ∷ 49 ∷ 48 ∷ 52 ∷ 57 ∷ 108 ∷ 27 ∷ 91 ∷ 48 ∷ 109 ∷ []

closing-read : (t : Emulator) (aside : Option Emulator) → t.phase ≡ Ground → IfSome aside (λ main.
    feed_window closing_bytes (record { shown = t; aside = aside }) ≡ record { shown = left_back main (rested t); aside = None })
closing-read t None ground = tt
closing-read t (Some main) ground =
    let region : List ℕ = 27 ∷ 91 ∷ 114 ∷ [] in
    let shows : List ℕ = 27 ∷ 91 ∷ 63 ∷ 50 ∷ 53 ∷ 104 ∷ [] in
    let switches : List ℕ = 27 ∷ 91 ∷ 63 ∷ 49 ∷ 48 ∷ 52 ∷ 57 ∷ 108 ∷ [] in
    let resets : List ℕ = 27 ∷ 91 ∷ 48 ∷ 109 ∷ [] in
    let ready : Emulator = cursor_shown true (without_region (rested t)) in
    let there : Emulator = come_back main ready in
    let settles : feed (region ++ shows) t ≡ ready = feed-append region shows t ∙ ap (feed shows) (no_region-read t ground)
    ∙ showing-read (without_region (rested t)) refl in
    let owns : feed resets there ≡ with_sgr default_sgr there = reset-read there refl in
    window-append (region ++ shows) (switches ++ resets) (record { shown = t; aside = Some main })
    ∙ ap (feed_window (switches ++ resets)) (window-read (region ++ shows) t (Some main)
    (ap (λ (u : Emulator). u.phase) settles) ∙ ap (λ u. record { shown = u; aside = Some main }) settles)
    ∙ window-append switches resets (record { shown = ready; aside = Some main }) ∙ ap (feed_window resets) (back-read t main)
    ∙ window-read resets there None (ap (λ (u : Emulator). u.phase) owns) ∙ ap (λ u. record { shown = u; aside = None }) owns

pub closes-alternate : (old : List ℕ) → ClosesAlternate old (old ++ closing_bytes)
closes-alternate old = record { bytes = _; appended = refl; read = λ w ground. closing-read w.shown w.aside ground }
