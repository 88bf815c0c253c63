use Rattle.std.proofs.Common.{◌≡◌, ◌++◌, true, string_bytes}
use Rattle.std.specs.List.{flat_map}
use Rattle.unicode_segmentation.specs.Iter.{graphemes_left}
use Rattle.follow.specs.Lines.{shown_grapheme, shown_line}
use Rattle.follow.specs.Inner.{painted_graphemes}
use Rattle.follow.proofs.SkipLemmas.{EndsParted}
use Rattle.follow.proofs.shown.push_graphemes.Given as goal

abbrev pub invariant-loop-grapheme : goal.invariant-loop-grapheme
invariant-loop-grapheme l = record {
  can : (goal.iterator-loop-grapheme).can_next l.grapheme-iterator;
  ends : (goal.iterator-loop-grapheme).is_finite l.grapheme-iterator;
  alike : painted_graphemes (string_bytes l.out ++ flat_map shown_grapheme (graphemes_left l.grapheme-iterator))
      ≡ painted_graphemes (string_bytes l.initial.out ++ shown_line l.text);
  parted : l.is_parted ≡ true → EndsParted (string_bytes l.out);
}
