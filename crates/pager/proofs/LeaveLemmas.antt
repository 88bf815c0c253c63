-- Ctrl+C leaves each mode, and then the pager.
use Rattle.std.proofs.Common.{◌≡◌, ◌==◌, true, None, refl, ap, ◌∙◌, if◌then◌else◌}
use Rattle.ratatui_events.specs.declared.event.Event.TheVariants.{Key}
use Rattle.ratatui_events.specs.declared.key.KeyEvent.{KeyEvent}
use Rattle.ratatui_events.specs.declared.key.KeyEventKind.{KeyEventKind}
use Rattle.ratatui_events.specs.declared.key.KeyEventKind.TheVariants.{Press, Repeat, Release}
use Rattle.pager.specs.declared.pager.Pager.{Pager}
use Rattle.pager.specs.declared.pager.Mode.{Mode}
use Rattle.pager.specs.declared.pager.Mode.TheVariants.{Reading, Asking, Filtering, Marking, Returning, Turning, Helping, Following}
use Rattle.pager.specs.declared.command.Command.TheVariants.{Quit}
use Rattle.pager.specs.declared.answer.Answer.TheVariants.{Cancel}
use Rattle.pager.specs.Keys.{IsControlC, has_control_key, control_command, control_answer, kind_command, kind_answer}
use Rattle.pager.specs.Keys.{code_mark, event_mark}
use Rattle.pager.specs.Keys.{event_ending, code_ending}
use Rattle.pager.specs.Keys.{is_press_kind}
use Rattle.pager.specs.Moves.{acted, answered, obeyed, updated, letter_marked, gone_back, marked_line, turned_to}

module _ (k : KeyEvent) (is : IsControlC k) where
  held : has_control_key k ≡ true
  held = ap (λ n. n == 4) is.control

  command-of : (kind : KeyEventKind) → is_press_kind kind ≡ true → kind_command kind k ≡ Quit
  command-of Release released = cc
  command-of Press pressed = rw held (ap control_command is.code)
  command-of Repeat pressed = rw held (ap control_command is.code)

  answer-of : (kind : KeyEventKind) → is_press_kind kind ≡ true → kind_answer kind k ≡ Cancel
  answer-of Release released = cc
  answer-of Press pressed = rw held (ap (λ c. control_answer c (Key k)) is.code)
  answer-of Repeat pressed = rw held (ap (λ c. control_answer c (Key k)) is.code)

  no-mark : event_mark (Key k) ≡ None
  no-mark = ap (λ b. if b then None else code_mark k.code) held

  no-ending : event_ending (Key k) ≡ None
  no-ending = ap (λ b. if b then None else code_ending k.code) held

  reads : (m : Mode) (p : Pager) → p.mode ≡ m → (acted m (Key k) p).mode ≡ Reading
  reads Reading p mode = ap (λ c. (obeyed c p).mode) (command-of k.kind is.pressed) ∙ mode
  reads Asking p mode = ap (λ a. (answered a p).mode) (answer-of k.kind is.pressed)
  reads Filtering p mode = ap (λ a. (answered a p).mode) (answer-of k.kind is.pressed)
  reads Marking p mode =
      ap (λ b. (if b then letter_marked (event_mark (Key k)) p else p).mode) is.pressed
      ∙ ap (λ o. (letter_marked o p).mode) no-mark
  reads Returning p mode =
      ap (λ b. (if b then gone_back (marked_line (event_mark (Key k)) p) p else p).mode) is.pressed
      ∙ ap (λ o. (gone_back (marked_line o p) p).mode) no-mark
  reads Turning p mode =
      ap (λ b. (if b then turned_to (event_ending (Key k)) p else p).mode) is.pressed
      ∙ ap (λ o. (turned_to o p).mode) no-ending
  reads Helping p mode = ap (λ b. (if b then record p { mode = Reading } else p).mode) is.pressed
  reads Following p mode = ap (λ b. (if b then record p { mode = Reading } else p).mode) is.pressed

  over : (m : Mode) (p : Pager) → m ≡ Reading → (acted m (Key k) p).is_over ≡ true
  over m p mode =
      ap (λ n. (acted n (Key k) p).is_over) mode
      ∙ ap (λ c. (obeyed c p).is_over) (command-of k.kind is.pressed)

pub leaves : (p : Pager) (k : KeyEvent) → IsControlC k → (updated (updated p (Key k)) (Key k)).is_over ≡ true
leaves p k is =
    let once : Pager = updated p (Key k) in
    over k is once.mode once (reads k is p.mode p refl)
