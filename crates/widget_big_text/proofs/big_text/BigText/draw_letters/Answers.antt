use Rattle.std.proofs.Common.{◌≡◌, ◌∷◌, [], rules, arith}
use Rattle.ratatui_core.specs.Text.{grapheme_data, line_graphemes_left}
use Rattle.widget_big_text.specs.BigTexts.{letters_of}
use Rattle.widget_big_text.proofs.ChangeLemmas.{Changes-no_column}
use Rattle.widget_big_text.proofs.LetterLemmas.{letters-step, letters-end}
use Rattle.widget_big_text.proofs.big_text.BigText.draw_letters.Goals as goal

pub loop-letter-init : goal.loop-letter-init
loop-letter-init c =
    let left : line_graphemes_left c.into_iter-letter-iterator.result ≡ letters_of c.args.self.now c.args.line.now = search rules in
    record {
      can = search rules;
      ends = search rules;
      rest = λ new is. rw left at is;
    }

pub returns-then-rest-eq0-clause-ok : goal.returns-then-rest-eq0-clause-ok
returns-then-rest-eq0-clause-ok c =
    c.loop-letter.invariant.rest c.loop-letter.buf (Changes-no_column c.loop-letter.rest _ c.loop-letter.buf (omega arith))

pub loop-letter-preserved : goal.loop-letter-preserved
loop-letter-preserved c =
    let is : line_graphemes_left c.loop-letter.letter-iterator ≡ grapheme_data c.in-Some.letter ∷ line_graphemes_left
    c.next.new.self = search rules in
    record {
      can = search rules;
      ends = search rules;
      rest = λ new others. c.loop-letter.invariant.rest new (rw is (letters-step c.args.self.now.pixel_size
          (grapheme_data c.in-Some.letter) (line_graphemes_left c.next.new.self) c.letter_columns-columns.result
          c.loop-letter.rest c.of.result c.of-rest.result c.loop-letter.buf c.draw_letter.new.buf new
          c.letter_columns-columns.ensures c.of.ensures c.of-rest.ensures c.in_ok-draw_letter.ensures.ok others));
    }

pub returns-clause-ok : goal.returns-clause-ok
returns-clause-ok c =
    let none : line_graphemes_left c.loop-letter.letter-iterator ≡ [] = search rules in
    c.loop-letter.invariant.rest c.loop-letter.buf (rw none (letters-end c.args.self.now.pixel_size c.loop-letter.rest
    c.loop-letter.buf))
