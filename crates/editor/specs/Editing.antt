-- What events make of an editor.
use Rattle.std.specs.Prelude.{◌≡◌, ◌⊎◌, ◌≢◌, ℕ, Bool, true, false, List, Option, Some, None}
use Rattle.std.specs.Prelude.{string_bytes, Result, OnOk, OnErr, IfOk, ⊤}
use Rattle.editor.specs.Offers.{AnswersOffer}
use Rattle.std.specs.declared.alloc.AllocError.{AllocError}
use Rattle.ratatui_events.specs.declared.event.Event.{Event}
use Rattle.text_area.specs.Areas.{AreaData, area_text}
use Rattle.text_area.specs.AreaKeys.{area_edit_of, area_edited_if}
use Rattle.editor.specs.declared.keys.Command.{Command}
use Rattle.editor.specs.declared.keys.Command.TheVariants as command
use Rattle.editor.specs.declared.editor.Mode.{Mode}
use Rattle.editor.specs.declared.editor.Mode.TheVariants.{Typing, Found, Finding, GoingTo}
use Rattle.editor.specs.declared.editor.Mode.TheVariants.{Offering, Leaving, Replacing, Over}
use Rattle.editor.specs.declared.editor.Request.{Request}
use Rattle.editor.specs.declared.editor.Request.TheVariants.{Nothing, Save, Replace}
use Rattle.editor.specs.declared.editor.Editor.{Editor}
use Rattle.editor.specs.Commands.{asked_of, answer_of, offer_of}

-- the text of an editor
abbrev pub edited_text : Editor → List ℕ
edited_text e = area_text e.area

-- the text is the one that was read or saved last
abbrev pub IsSaved : Editor → Type 0
IsSaved e = edited_text e ≡ string_bytes e.saved

-- what a program is to do after a command
abbrev pub command_request : Option Command → Request
command_request (Some command.Save) = Save
command_request _ = Nothing

-- and after an answer whether to replace a file
abbrev pub answer_request : Option Bool → Request
answer_request (Some true) = Replace
answer_request _ = Nothing

-- what a program is to do after an event
abbrev pub request_of : Mode → Event → Request
request_of Typing event = command_request (asked_of event)
request_of Found event = command_request (asked_of event)
request_of Replacing event = answer_request (answer_of event)
request_of _ event = Nothing

-- what events are taken for after an answer whether to end
abbrev pub left_by : Option Bool → Mode → Mode
left_by None mode = mode
left_by (Some true) mode = Over
left_by (Some false) mode = Typing

-- events are taken for the text
abbrev pub IsForText : Mode → Type 0
IsForText Typing = ⊤
IsForText Found = ⊤
IsForText _ = ⊥

-- an event says what becomes of what was found
abbrev pub IsForOffer : Mode → Type 0
IsForOffer Offering = ⊤
IsForOffer _ = ⊥

-- What any event keeps: the text as it was read or saved last, and, unless events are taken for the text,
-- or say what becomes of what was found, the text.
-- The editor ends only if it had ended, if it was asked and the answer was yes, or if its text is saved.
pub record Keeps (event : Event) (old new : Editor) : Type 0 where
  pub saved : string_bytes new.saved ≡ string_bytes old.saved
  pub text : (IsForText old.mode → ⊥) → (IsForOffer old.mode → ⊥) → edited_text new ≡ edited_text old
  pub answered : IsForOffer old.mode
      → AnswersOffer (offer_of event) (string_bytes old.pattern) (string_bytes old.piece) old.area new.area
  pub over : new.mode ≡ Over
      → (old.mode ≡ Over) ⊎ (((old.mode ≡ Leaving) × (answer_of event ≡ Some true)) ⊎ IsSaved new)
