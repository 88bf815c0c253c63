use Rattle.ratatui_core.specs.Backend.{All, AfterCursor, BeforeCursor, CurrentLine, UntilNewLine}
use Rattle.ansi_model.proofs.ReadLemmas.{pushed, erasing-read}
use Rattle.ansi_model.proofs.sequences.erase.Goals as goal

pub returns-in-All : goal.returns-in-All
returns-in-All c = rw c.in-All.is (pushed c.push_str.result _ _ _ _ c.push_str.ensures.bytes (erasing-read All))

pub returns-in-AfterCursor : goal.returns-in-AfterCursor
returns-in-AfterCursor c = rw c.in-AfterCursor.is
    (pushed c.push_str-in-AfterCursor.result _ _ _ _ c.push_str-in-AfterCursor.ensures.bytes (erasing-read AfterCursor))

pub returns-in-BeforeCursor : goal.returns-in-BeforeCursor
returns-in-BeforeCursor c = rw c.in-BeforeCursor.is
    (pushed c.push_str-in-BeforeCursor.result _ _ _ _ c.push_str-in-BeforeCursor.ensures.bytes (erasing-read BeforeCursor))

pub returns-in-CurrentLine : goal.returns-in-CurrentLine
returns-in-CurrentLine c = rw c.in-CurrentLine.is
    (pushed c.push_str-in-CurrentLine.result _ _ _ _ c.push_str-in-CurrentLine.ensures.bytes (erasing-read CurrentLine))

pub returns-in-UntilNewLine : goal.returns-in-UntilNewLine
returns-in-UntilNewLine c = rw c.in-UntilNewLine.is
    (pushed c.push_str-in-UntilNewLine.result _ _ _ _ c.push_str-in-UntilNewLine.ensures.bytes (erasing-read UntilNewLine))
