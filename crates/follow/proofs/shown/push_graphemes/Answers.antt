use Rattle.std.proofs.Common.{◌≡◌, ◌∷◌, string_bytes, true, inr, rules}
use Rattle.std.proofs.lemmas.{Str.IsUtf8-string_bytes}
use Rattle.std.specs.List.{flat_map}
use Rattle.unicode_segmentation.specs.Iter.{graphemes_left}
use Rattle.follow.specs.Lines.{shown_grapheme}
use Rattle.follow.specs.Inner.{is_part}
use Rattle.follow.proofs.SkipLemmas.{ends-parted, skip-turn, push-turn}
use Rattle.follow.proofs.shown.push_graphemes.Goals as goal

pub loop-grapheme-preserved-then-is_parted : goal.loop-grapheme-preserved-then-is_parted
loop-grapheme-preserved-then-is_parted c =
    let i = c.loop-grapheme.invariant in
    let g = c.in-Some.grapheme.now in
    let is : graphemes_left c.loop-grapheme.grapheme-iterator ≡ g ∷ graphemes_left c.next.new.self = search rules in
    let parts : is_part g ≡ true = search rules in
    let parted : c.loop-grapheme.is_parted ≡ true = search rules in
    record {
      can = search rules;
      ends = search rules;
      alike = skip-turn (string_bytes c.loop-grapheme.out) g (graphemes_left c.loop-grapheme.grapheme-iterator)
          (graphemes_left c.next.new.self) _ (IsUtf8-string_bytes c.loop-grapheme.out) is (i.parted parted) parts i.alike;
      parted = i.parted;
    }

pub returns-then-is_filled : goal.returns-then-is_filled
returns-then-is_filled c =
    let i = c.loop-grapheme.invariant in
    let g = c.in-Some.grapheme.now in
    let is : graphemes_left c.loop-grapheme.grapheme-iterator ≡ g ∷ graphemes_left c.next.new.self = search rules in
    record {
      rest = flat_map shown_grapheme (graphemes_left c.next.new.self);
      alike = push-turn (string_bytes c.loop-grapheme.out) g (string_bytes c.push_grapheme.new.out)
          (graphemes_left c.loop-grapheme.grapheme-iterator) (graphemes_left c.next.new.self) _ is c.in_ok-taken.ensures.shown
          i.alike;
      full = inr (search rules);
    }

pub loop-grapheme-preserved : goal.loop-grapheme-preserved
loop-grapheme-preserved c =
    let i = c.loop-grapheme.invariant in
    let g = c.in-Some.grapheme.now in
    let is : graphemes_left c.loop-grapheme.grapheme-iterator ≡ g ∷ graphemes_left c.next.new.self = search rules in
    let same : c.is_part-parts.result ≡ is_part g = c.is_part-parts.ensures in
    record {
      can = search rules;
      ends = search rules;
      alike = push-turn (string_bytes c.loop-grapheme.out) g (string_bytes c.push_grapheme.new.out)
          (graphemes_left c.loop-grapheme.grapheme-iterator) (graphemes_left c.next.new.self) _ is c.in_ok-taken.ensures.shown
          i.alike;
      parted = λ parts. ends-parted (string_bytes c.loop-grapheme.out) g (string_bytes c.push_grapheme.new.out)
          c.in_ok-taken.ensures.shown (rw same at parts);
    }
