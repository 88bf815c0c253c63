-- What the list of keys names is what the keys do.
use Rattle.std.proofs.Common.{◌≡◌, ◌==◌, Bool, true, Some, refl, ap, ◌∙◌, if◌then◌else◌}
use Rattle.std.specs.{Str.byte, List.slice_split}
use Rattle.std.specs.Prelude.{slice_get}
use Rattle.ratatui_events.specs.declared.event.Event.TheVariants.{Key}
use Rattle.ratatui_events.specs.declared.key.KeyEvent.{KeyEvent}
use Rattle.ratatui_events.specs.declared.key.KeyCode.{KeyCode}
use Rattle.ratatui_events.specs.declared.key.KeyEventKind.{KeyEventKind}
use Rattle.ratatui_events.specs.declared.key.KeyEventKind.TheVariants.{Press, Repeat, Release}
use Rattle.pager.specs.declared.command.Command.{Command}
use Rattle.pager.specs.Keys.{has_control_key, is_press, is_press_kind, kind_command, control_command, code_command, event_command}
use Rattle.pager.specs.Pages.{help_text}
use Rattle.pager.specs.HelpTable.{HelpEntry, help_table, IsHelped, AreHelped}

-- what a key asks for, with Control or not
abbrev asked_for : Bool → KeyCode → Command
asked_for held code = if held then control_command code else code_command code

key-asks : (kind : KeyEventKind) (k : KeyEvent) (held : Bool) (code : KeyCode) → k.code ≡ code
    → has_control_key k ≡ held → is_press_kind kind ≡ true → kind_command kind k ≡ asked_for held code
key-asks Release k held code same is pressed = cc
key-asks Press k held code same is pressed = ap (λ b. asked_for b k.code) is ∙ ap (asked_for held) same
key-asks Repeat k held code same is pressed = ap (λ b. asked_for b k.code) is ∙ ap (asked_for held) same

helped : (e : HelpEntry) → slice_get (slice_split (λ b. b == byte " ") (help_text e.row)) e.word ≡ Some e.name
    → asked_for e.held e.code ≡ e.command → IsHelped e
helped e stands asks = record {
  stands = stands;
  asks = λ k same is pressed. key-asks k.kind k e.held e.code same is pressed ∙ asks;
}

pub all-helped : AreHelped help_table
all-helped = (helped _ refl refl, (helped _ refl refl, (helped _ refl refl, (helped _ refl refl, (helped _ refl refl, (helped _ refl refl, (helped _ refl refl, (helped _ refl refl, (helped _ refl refl, (helped _ refl refl, (helped _ refl refl, (helped _ refl refl, (helped _ refl refl, (helped _ refl refl, (helped _ refl refl, (helped _ refl refl, (helped _ refl refl, (helped _ refl refl, (helped _ refl refl, (helped _ refl refl, (helped _ refl refl, (helped _ refl refl, (helped _ refl refl, (helped _ refl refl, (helped _ refl refl, (helped _ refl refl, (helped _ refl refl, (helped _ refl refl, (helped _ refl refl, (helped _ refl refl, (helped _ refl refl, (helped _ refl refl, (helped _ refl refl, (helped _ refl refl, (helped _ refl refl, (helped _ refl refl, tt))))))))))))))))))))))))))))))))))))
