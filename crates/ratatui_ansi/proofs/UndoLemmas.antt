-- What takes settings back changes nothing that a terminal shows.
use Rattle.std.proofs.Common.{◌≡◌, ℕ, ◌<◌, nat_lt, Bool, true, false, if◌then◌else◌, List, [], ◌++◌, refl, sym, ap, ◌∙◌, arith}
use Rattle.std.proofs.Common.{◌^◌, Option, Some, None, IfSome}
use Rattle.ansi_model.specs.{Emulator.Emulator, Emulator.rested, Emulator.Phase.Ground, Sequences.feed, Sends.Performs}
use Rattle.ansi_model.specs.{Sends.LeadsBy, Endings.ClosesAlternate, Endings.left_below, Endings.left_back}
use Rattle.ansi_model.specs.Windows.{Window, feed_window}
use Rattle.ansi_model.specs.{declared.command.Command.Command, Commands.command_bytes, Commands.keyboard_pop_bytes}
use Rattle.ansi_model.specs.declared.command.Command.TheVariants.{DisableMouseCapture, DisableBracketedPaste, DisableFocusChange}
use Rattle.ansi_model.specs.declared.command.Command.TheVariants.{DisableSizeReports, BringTitleBack}
use Rattle.ansi_model.specs.declared.command.Command.TheVariants as Asked
use Rattle.ansi_model.specs.declared.command.SetCursorStyle.TheVariants.{DefaultUserShape}
use Rattle.ratatui_ansi.specs.{declared.settings.Settings.Settings, Settings.taken_back, Settings.undo_bytes}
use Rattle.ansi_model.proofs.{ReadLemmas.feed-append, ReadLemmas.command-read, ReadLemmas.keyboard_pop-read}
use Rattle.ansi_model.proofs.{WindowLemmas.window-read, WindowLemmas.window-append}

-- bytes that change nothing that stands on a terminal between two sequences
record IsQuiet (bytes : List ℕ) : Type 0 where
  pub ground : (t : Emulator) → t.phase ≡ Ground → (feed bytes t).phase ≡ Ground
  pub rests : (t : Emulator) → t.phase ≡ Ground → rested (feed bytes t) ≡ rested t

quiet-none : IsQuiet []
unfolding feed
quiet-none = record { ground = λ t ground. ground; rests = λ t ground. refl }

quiet-read : (bytes : List ℕ) → ((t : Emulator) → t.phase ≡ Ground → feed bytes t ≡ rested t) → IsQuiet bytes
quiet-read bytes read = record {
  ground = λ t ground. ap (λ (u : Emulator). u.phase) (read t ground);
  rests = λ t ground. ap rested (read t ground);
}

quiet-both : (xs ys : List ℕ) → IsQuiet xs → IsQuiet ys → IsQuiet (xs ++ ys)
quiet-both xs ys first second = record {
  ground = λ t ground. ap (λ (u : Emulator). u.phase) (feed-append xs ys t)
      ∙ second.ground (feed xs t) (first.ground t ground);
  rests = λ t ground. ap rested (feed-append xs ys t)
      ∙ second.rests (feed xs t) (first.ground t ground) ∙ first.rests t ground;
}

quiet-taken : (is_set : Bool) (command : Command) → IsQuiet (taken_back is_set command)
quiet-taken true command = quiet-read (command_bytes command) (command-read command)
quiet-taken false command = quiet-none

quiet-flags : (n : ℕ) (some : Bool) → n < 2 ^ 64 → IsQuiet (if some then keyboard_pop_bytes n else [])
quiet-flags n true small = quiet-read (keyboard_pop_bytes n) (keyboard_pop-read n small)
quiet-flags n false small = quiet-none

quiet-undo : (s : Settings) → s.flags < 2 ^ 64 → IsQuiet (undo_bytes s)
quiet-undo s small =
    quiet-both _ _ (quiet-taken s.mouse DisableMouseCapture) (quiet-both _ _ (quiet-taken s.pastes DisableBracketedPaste)
    (quiet-both _ _ (quiet-taken s.focus DisableFocusChange) (quiet-both _ _ (quiet-taken s.sizes DisableSizeReports)
    (quiet-both _ _ (quiet-taken s.shape (Asked.SetCursorStyle DefaultUserShape))
    (quiet-both _ _ (quiet-taken s.title BringTitleBack)
    (quiet-flags s.flags (nat_lt 0 s.flags) small))))))

-- what leaves a terminal leaves it also after what was set was taken back
pub undone-left : (s : Settings) (h : ℕ) (old last new : List ℕ) → s.flags < 2 ^ 64
    → ((before : List ℕ) → Performs before (before ++ last) (left_below h)) → new ≡ undo_bytes s ++ last
    → Performs old (old ++ new) (left_below h)
undone-left s h old last new small leaves e =
    let quiet = quiet-undo s small in
    let does = leaves [] in
    record {
      bytes = new;
      appended = refl;
      read = λ t ground.
          let u : Emulator = feed (undo_bytes s) t in
          ap (λ bytes. feed bytes t) e ∙ feed-append (undo_bytes s) last t ∙ ap (λ bytes. feed bytes u) does.appended
          ∙ does.read u (quiet.ground t ground) ∙ ap (left_below h) (quiet.rests t ground);
    }

-- and what brings a main screen back brings it back
pub undone-back : (s : Settings) (old last new : List ℕ) → s.flags < 2 ^ 64
    → ((before : List ℕ) → ClosesAlternate before (before ++ last)) → new ≡ undo_bytes s ++ last
    → ClosesAlternate old (old ++ new)
undone-back s old last new small closes e =
    let quiet = quiet-undo s small in
    let does = closes [] in
    record {
      bytes = new;
      appended = refl;
      read = λ w ground. back w.shown w.aside ground quiet does;
    }
  where
    back : (t : Emulator) (aside : Option Emulator) → t.phase ≡ Ground → IsQuiet (undo_bytes s)
        → ClosesAlternate [] last
        → IfSome aside (λ main. feed_window new (record { shown = t; aside = aside })
        ≡ record { shown = left_back main (rested t); aside = None })
    back t None ground quiet does = tt
    back t (Some main) ground quiet does =
        let u : Emulator = feed (undo_bytes s) t in
        ap (λ bytes. feed_window bytes (record { shown = t; aside = Some main })) e
        ∙ window-append (undo_bytes s) last (record { shown = t; aside = Some main })
        ∙ ap (feed_window last) (window-read (undo_bytes s) t (Some main) (quiet.ground t ground))
        ∙ ap (λ bytes. feed_window bytes (record { shown = u; aside = Some main })) does.appended
        ∙ does.read (record { shown = u; aside = Some main }) (quiet.ground t ground)
        ∙ ap (λ v. record { shown = left_back main v; aside = None }) (quiet.rests t ground)
