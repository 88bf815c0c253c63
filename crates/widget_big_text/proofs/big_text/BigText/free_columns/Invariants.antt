use Rattle.std.proofs.Common.{◌≡◌, ◌-◌, ◌*◌, length}
use Rattle.ratatui_core.specs.Text.{line_graphemes_left}
use Rattle.widget_big_text.specs.{Glyphs.letter_columns, Inner.free_columns}
use Rattle.widget_big_text.proofs.big_text.BigText.free_columns.Given as goal

-- what the letters that are left will leave free
abbrev pub invariant-loop : goal.invariant-loop
invariant-loop l = record {
  can : (goal.iterator-loop).can_next l.iterator';
  ends : (goal.iterator-loop).is_finite l.iterator';
  free : l.free - length (line_graphemes_left l.iterator') * letter_columns l.fn.self.pixel_size
      ≡ free_columns l.fn.self l.fn.line l.fn.width;
}
