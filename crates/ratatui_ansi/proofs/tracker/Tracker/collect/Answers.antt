use Rattle.ratatui_ansi.proofs.tracker.Tracker.collect.Goals as goal

pub returns-in_ok-command-in-Command-clause-ok : goal.returns-in_ok-command-in-Command-clause-ok
returns-in_ok-command-in-Command-clause-ok c = rw c.in-Command.is c.in_ok-command-in-Command.ensures.ok

pub returns-in_ok-push_keyboard_flags-in-PushKeyboardFlags-clause-ok :
    goal.returns-in_ok-push_keyboard_flags-in-PushKeyboardFlags-clause-ok
returns-in_ok-push_keyboard_flags-in-PushKeyboardFlags-clause-ok c =
    rw c.in-PushKeyboardFlags.is c.in_ok-push_keyboard_flags-in-PushKeyboardFlags.ensures.ok

pub returns-in_ok-ask_size-in-AskSize-clause-ok : goal.returns-in_ok-ask_size-in-AskSize-clause-ok
returns-in_ok-ask_size-in-AskSize-clause-ok c = rw c.in-AskSize.is c.in_ok-ask_size-in-AskSize.ensures.ok

pub returns-in_ok-ask_size-in-AskSize-clause-bytes : goal.returns-in_ok-ask_size-in-AskSize-clause-bytes
returns-in_ok-ask_size-in-AskSize-clause-bytes c = rw c.in-AskSize.is c.in_ok-ask_size-in-AskSize.ensures.asks
