-- What an application set on its terminal, beside its screen, and what takes it back.
use Rattle.std.specs.Prelude.{◌≡◌, ℕ, ◌+◌, ◌-◌, nat_lt, min, max, ◌||◌, not, Bool, true, false, List, []}
use Rattle.std.specs.Prelude.{◌++◌, if◌then◌else◌, Result, Ok, Err}
use Rattle.ratatui_ansi.specs.declared.error.AnsiError.{AnsiError}
use Rattle.ratatui_ansi.specs.declared.error.AnsiError.TheVariants.{Write}
use Rattle.ratatui_ansi.specs.declared.settings.Settings.{Settings}
use Rattle.ansi_model.specs.Commands.{command_bytes, keyboard_pop_bytes}
use Rattle.ansi_model.specs.{declared.command.Command.Command, declared.command.SetCursorStyle.SetCursorStyle}
use Rattle.ansi_model.specs.declared.command.Command.TheVariants.{EnableMouseCapture, DisableMouseCapture}
use Rattle.ansi_model.specs.declared.command.Command.TheVariants.{EnableBracketedPaste, DisableBracketedPaste}
use Rattle.ansi_model.specs.declared.command.Command.TheVariants.{EnableFocusChange, DisableFocusChange}
use Rattle.ansi_model.specs.declared.command.Command.TheVariants.{EnableSizeReports, DisableSizeReports}
use Rattle.ansi_model.specs.declared.command.Command.TheVariants.{KeepTitle, BringTitleBack}
use Rattle.ansi_model.specs.declared.command.Command.TheVariants.{PopKeyboardEnhancementFlags}
use Rattle.ansi_model.specs.declared.command.Command.TheVariants.{AskCursorPosition}
use Rattle.ansi_model.specs.declared.command.Command.TheVariants as Asked
use Rattle.ansi_model.specs.declared.command.SetCursorStyle.TheVariants.{DefaultUserShape}

-- nothing is set
abbrev pub no_settings : Settings
no_settings = record {
  mouse = false;
  pastes = false;
  focus = false;
  sizes = false;
  shape = false;
  title = false;
  flags = 0;
}

-- whether a cursor's shape is the one that the user chose
abbrev pub is_user_shape : SetCursorStyle → Bool
is_user_shape DefaultUserShape = true
is_user_shape _ = false

-- what is set after a command
abbrev pub after_command : Command → Settings → Settings
after_command EnableMouseCapture s = record s { mouse = true }
after_command DisableMouseCapture s = record s { mouse = false }
after_command EnableBracketedPaste s = record s { pastes = true }
after_command DisableBracketedPaste s = record s { pastes = false }
after_command EnableFocusChange s = record s { focus = true }
after_command DisableFocusChange s = record s { focus = false }
after_command EnableSizeReports s = record s { sizes = true }
after_command DisableSizeReports s = record s { sizes = false }
after_command (Asked.SetCursorStyle style) s = record s { shape = not (is_user_shape style) }
after_command KeepTitle s = record s { title = true }
after_command BringTitleBack s = record s { title = false }
after_command PopKeyboardEnhancementFlags s = record s { flags = s.flags - 1 }
after_command AskCursorPosition s = s

-- after a set of keyboard flags was put on the terminal's stack, as far as the count goes
abbrev pub with_flags : Settings → Settings
with_flags s = record s { flags = min (s.flags + 1) 65535 }

-- after the window was given a title
abbrev pub with_title : Settings → Settings
with_title s = record s { title = true }

-- what is set in one of two
abbrev pub either : Settings → Settings → Settings
either s t = record {
  mouse = s.mouse || t.mouse;
  pastes = s.pastes || t.pastes;
  focus = s.focus || t.focus;
  sizes = s.sizes || t.sizes;
  shape = s.shape || t.shape;
  title = s.title || t.title;
  flags = max s.flags t.flags;
}

-- what is set after a call that answers this, and that would set the second: where a write failed it may be
abbrev pub noted : {A : Type 0} → Result A AnsiError → Settings → Settings → Settings
noted (Ok x) after s = after
noted (Err (Write error)) after s = either s after
noted (Err _) after s = s

-- what takes a setting back, if it is set
abbrev pub taken_back : Bool → Command → List ℕ
taken_back is_set command = if is_set then command_bytes command else []

-- what takes all back
abbrev pub undo_bytes : Settings → List ℕ
undo_bytes s =
    taken_back s.mouse DisableMouseCapture
    ++ (taken_back s.pastes DisableBracketedPaste
    ++ (taken_back s.focus DisableFocusChange
    ++ (taken_back s.sizes DisableSizeReports
    ++ (taken_back s.shape (Asked.SetCursorStyle DefaultUserShape)
    ++ (taken_back s.title BringTitleBack
    ++ (if nat_lt 0 s.flags then keyboard_pop_bytes s.flags else []))))))

-- bytes were appended of which the first take back what was set
pub record UndoesFirst (set : Settings) (old new : List ℕ) : Type 0 where
  pub rest : List ℕ
  pub undone : new ≡ old ++ (undo_bytes set ++ rest)
