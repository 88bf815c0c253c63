use Rattle.ratatui_core.specs.Text.{line_graphemes_left}
use Rattle.widget_big_text.specs.{BigTexts.letters_of, Inner.letters_over}
use Rattle.widget_big_text.proofs.ChangeLemmas.{FinishesEach}
use Rattle.widget_big_text.proofs.big_text.BigText.draw_letters.Given as goal

-- what is left is to be drawn where it begins
abbrev pub invariant-loop-letter : goal.invariant-loop-letter
invariant-loop-letter l = record {
  can : (goal.iterator-loop-letter).can_next l.letter-iterator;
  ends : (goal.iterator-loop-letter).is_finite l.letter-iterator;
  rest : FinishesEach l.rest (letters_over l.fn.self.pixel_size (line_graphemes_left l.letter-iterator) l.rest) l.fn.area
      (letters_over l.fn.self.pixel_size (letters_of l.fn.self l.fn.line) l.fn.area) l.fn.buf l.buf;
}
