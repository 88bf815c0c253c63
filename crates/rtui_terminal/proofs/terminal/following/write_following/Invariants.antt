use Rattle.rtui_buffer.specs.Shown.{buffer_updates}
use Rattle.rtui_terminal.specs.Writing.{last_place}
use Rattle.rtui_terminal.proofs.terminal.following.write_following.Given as goal

abbrev pub ghosts-write_until_told : goal.ghosts-write_until_told
ghosts-write_until_told g a = record { place = last_place a.start (buffer_updates a.previous.now a.current.now) }
