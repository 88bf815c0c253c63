-- A half-width sound mark has a column of its own in the width of a text.
use Rattle.std.proofs.Common.{◌≡◌, ◌≢◌, ℕ, suc, ◌+◌, ◌-◌, ◌<◌, ◌≤◌, ◌⊎◌, ⊎_elim, inl, inr, Bool, true, false, cond, not, ◌&&◌}
use Rattle.std.proofs.Common.{◌==◌, nat_le, List, [], ◌∷◌, length, min, Option, Some, None, count_by, refl, sym, subst, ◌∙◌}
use Rattle.std.proofs.Common.{arith}
use Rattle.std.specs.{Int.is_in_range, Str.chars}
use Rattle.std.proofs.lemmas.{Bool.cases_lt, Bool.Decides.nat_tests, List.Sums.sum_by-cons}
use Rattle.ucd_emoji.specs.Binary.{is_emoji_variation_base, is_emoji_modifier_base}
use Rattle.ucd_bidi.specs.{JoiningType.joining_type, JoiningType.joining_type_eq, declared.JoiningType.TheVariants.Transparent}
use Rattle.unicode_width.proofs.Computing.{unicode_width}
use Rattle.unicode_width.specs.{declared.kind.Kind.Kind, declared.state.After.After, declared.state.State.State}
use Rattle.unicode_width.specs.{declared.state.Change.Change}
use Rattle.unicode_width.specs.declared.kind.Kind.TheVariants as kinds
use Rattle.unicode_width.specs.declared.state.After.TheVariants.{Nothing, LineFeed, EmojiModifier, RegionalIndicator}
use Rattle.unicode_width.specs.declared.state.After.TheVariants.{RegionalIndicators, Emoji, ZwjEmoji, IndicatorZwj}
use Rattle.unicode_width.specs.declared.state.After.TheVariants.{EvenIndicatorsZwj, OddIndicatorsZwj, TagEnd, TagDigit1}
use Rattle.unicode_width.specs.declared.state.After.TheVariants.{TagDigit2, TagDigit3, TagLetter1, TagLetter2, TagLetter3}
use Rattle.unicode_width.specs.declared.state.After.TheVariants.{TagLetter4, TagLetter5, TagLetter6, KiratE, KiratAi, Alef}
use Rattle.unicode_width.specs.declared.state.After.TheVariants.{SolidusAlef, ZwjLamed, ZwjYa, VowelZwjYa, Tifinagh, ZwjTifinagh}
use Rattle.unicode_width.specs.declared.state.After.TheVariants.{JoinerTifinagh, LisuTone, ZwjOrkhonI, KhmerLetter}
use Rattle.unicode_width.specs.declared.state.Change.TheVariants.{Less, Same, One, Three}
use Rattle.unicode_width.specs.Kind.{kind, is_ligature_transparent, is_text_presentation_base}
use Rattle.rtui_cell.specs.Width.{is_sound_mark, text_columns, text_width}
use Rattle.unicode_width.specs.Width.{before, plain, single, of_kind, alone, before_alef, in_ligature, in_emoji, in_tags}
use Rattle.unicode_width.specs.Width.{first_of, is_emoji, joins, Reading, added, changed, joined_or, with_joiner, if_kept}
use Rattle.unicode_width.specs.Width.{is_joined_emoji, is_lam, skips_marks, is_kept, is_line_feed, is_quote, is_plain}
use Rattle.unicode_width.specs.Width.{is_tifinagh, is_indicator, is_tag_letter, is_tag_digit, past_selectors, in_context}
use Rattle.unicode_width.specs.Width.{past_emoji, step, read_before, str_width}

-- the columns that what follows may still take away again
slack : After → ℕ
slack KhmerLetter = 1
slack JoinerTifinagh = 1
slack IndicatorZwj = 1
slack OddIndicatorsZwj = 1
slack _ = 0

-- what a change takes away was there to be taken, and what it leaves to be taken stays
is_fine : After → Option (Change × After) → Bool
is_fine a None = true
is_fine a (Some (Less, b)) = nat_le (1 + slack b) (slack a)
is_fine a (Some (Same, b)) = nat_le (slack b) (slack a)
is_fine a (Some (One, b)) = nat_le (slack b) (slack a + 1)
is_fine a (Some (Three, b)) = nat_le (slack b) (slack a + 3)

pick : (a : After) (b : Bool) (x y : Option (Change × After)) → is_fine a x ≡ true → is_fine a y ≡ true
    → is_fine a (cond b x y) ≡ true
pick a true x y h k = h
pick a false x y h k = k

ligature-fine : (a : After) (c : ℕ) → is_fine a (in_ligature a c) ≡ true
unfolding is_fine slack
ligature-fine ZwjLamed c = pick ZwjLamed (c == 0x05D0) _ _ refl refl
ligature-fine KhmerLetter c = pick KhmerLetter (c == 0x17D2) _ _ refl refl
ligature-fine ZwjYa c = pick ZwjYa (c == 0x1A17) _ _ refl refl
ligature-fine VowelZwjYa c = pick VowelZwjYa (c == 0x1A15) _ _ refl refl
ligature-fine Tifinagh c = pick Tifinagh (c == 0x2D7F) _ _ refl refl
ligature-fine ZwjTifinagh c = pick ZwjTifinagh (c == 0x2D7F) _ _ refl (pick ZwjTifinagh (is_tifinagh c) _ _ refl refl)
ligature-fine JoinerTifinagh c = pick JoinerTifinagh (is_tifinagh c) _ _ refl refl
ligature-fine LisuTone c = pick LisuTone (is_in_range 0xA4F8 0xA4FB c) _ _ refl refl
ligature-fine ZwjOrkhonI c = pick ZwjOrkhonI (c == 0x10C32) _ _ refl refl
ligature-fine KiratE c =
    pick KiratE (c == 0x16D63) _ _ refl
    (pick KiratE (c == 0x16D67) _ _ refl (pick KiratE (c == 0x16D68) _ _ refl (pick KiratE (c == 0x16D69) _ _ refl refl)))
ligature-fine KiratAi c = pick KiratAi (c == 0x16D63) _ _ refl refl
ligature-fine _ c = refl

emoji-fine : (a : After) (c : ℕ) → is_fine a (in_emoji a c) ≡ true
unfolding is_fine slack
emoji-fine RegionalIndicator c = pick RegionalIndicator (is_indicator c) _ _ refl refl
emoji-fine RegionalIndicators c = pick RegionalIndicators (is_indicator c) _ _ refl
    (pick RegionalIndicators (c == 0x200D) _ _ refl refl)
emoji-fine Emoji c = pick Emoji (c == 0x200D) _ _ refl refl
emoji-fine IndicatorZwj c = pick IndicatorZwj (is_indicator c) _ _ refl refl
emoji-fine EvenIndicatorsZwj c =
    pick EvenIndicatorsZwj (c == 0x200D) _ _ refl (pick EvenIndicatorsZwj (is_indicator c) _ _ refl refl)
emoji-fine OddIndicatorsZwj c =
    pick OddIndicatorsZwj (c == 0x200D) _ _ refl (pick OddIndicatorsZwj (is_indicator c) _ _ refl refl)
emoji-fine _ c = refl

tags-fine : (a : After) (c : ℕ) → is_fine a (in_tags a c) ≡ true
unfolding is_fine slack
tags-fine TagEnd c = pick TagEnd (is_tag_letter c) _ _ refl (pick TagEnd (is_tag_digit c) _ _ refl refl)
tags-fine TagLetter1 c = pick TagLetter1 (is_tag_letter c) _ _ refl (pick TagLetter1 (is_tag_digit c) _ _ refl refl)
tags-fine TagLetter2 c = pick TagLetter2 (is_tag_letter c) _ _ refl (pick TagLetter2 (is_tag_digit c) _ _ refl refl)
tags-fine TagLetter3 c = pick TagLetter3 (is_tag_letter c) _ _ refl (pick TagLetter3 (is_tag_digit c) _ _ refl
    (pick TagLetter3 (c == 0x1F3F4) _ _ refl refl))
tags-fine TagLetter4 c = pick TagLetter4 (is_tag_letter c) _ _ refl (pick TagLetter4 (is_tag_digit c) _ _ refl
    (pick TagLetter4 (c == 0x1F3F4) _ _ refl refl))
tags-fine TagLetter5 c = pick TagLetter5 (is_tag_letter c) _ _ refl (pick TagLetter5 (c == 0x1F3F4) _ _ refl refl)
tags-fine TagLetter6 c = pick TagLetter6 (c == 0x1F3F4) _ _ refl refl
tags-fine TagDigit1 c = pick TagDigit1 (is_tag_digit c) _ _ refl refl
tags-fine TagDigit2 c = pick TagDigit2 (is_tag_digit c) _ _ refl refl
tags-fine TagDigit3 c = pick TagDigit3 (c == 0x1F3F4) _ _ refl refl
tags-fine _ c = refl

first-fine : (a : After) (x y : Option (Change × After)) → is_fine a x ≡ true → is_fine a y ≡ true
    → is_fine a (first_of x y) ≡ true
first-fine a None y h k = k
first-fine a (Some j) y h k = h

others-fine : (a : After) (c : ℕ) → is_fine a (first_of (in_ligature a c) (first_of (in_emoji a c) (in_tags a c))) ≡ true
others-fine a c =
    first-fine a (in_ligature a c) (first_of (in_emoji a c) (in_tags a c)) (ligature-fine a c)
    (first-fine a (in_emoji a c) (in_tags a c) (emoji-fine a c) (tags-fine a c))

joins-fine : (a : After) (c : ℕ) → is_fine a (joins false a c) ≡ true
unfolding is_fine slack joins before_alef
joins-fine Alef c = pick Alef (is_lam c) _ _ refl
    (pick Alef (((alone false c).0 == 0) && joining_type_eq (joining_type c) Transparent) (Some (Same, Alef)) None refl refl)
joins-fine SolidusAlef c = refl
joins-fine EmojiModifier c = pick EmojiModifier (is_emoji_modifier_base c) _ _ refl
    (pick EmojiModifier (c == 0x200D) _ _ refl refl)
joins-fine ZwjEmoji c =
    pick ZwjEmoji (c == 0x20E3) _ _ refl (pick ZwjEmoji (is_indicator c) _ _ refl
    (pick ZwjEmoji (is_in_range 0x1F3FB 0x1F3FF c) _ _ refl
    (pick ZwjEmoji (c == 0xE007F) _ _ refl (pick ZwjEmoji (is_emoji (kind c)) _ _ refl refl))))
joins-fine a c = others-fine a c

-- what a character leaves to be taken it has itself
is_light : ℕ × State → Bool
is_light x = nat_le (slack x.1.after) x.0

light : (b : Bool) (x y : ℕ × State) → is_light x ≡ true → is_light y ≡ true → is_light (cond b x y) ≡ true
light true x y h k = h
light false x y h k = k

single-light : (c : ℕ) → is_light (single false c) ≡ true
unfolding is_light slack
single-light c =
    light (c == 0x05DC) _ _ refl (light (c == 0xFB3C) _ _ refl
    (light (c == 0x17D8) _ _ refl (light (c == 0x1A10) _ _ refl (light (c == 0x10C03) _ _ refl
    (light (c == 0x16D67) _ _ refl
    (light (c == 0x16D68) _ _ refl
    (light (c == 0xFE0F) _ _ refl (light (c == 0xFE01) _ _ refl (light (c == 0xFE0E) _ _ refl refl)))))))))

kind-light : (c : ℕ) (k : Kind) → is_light (of_kind false c k) ≡ true
unfolding is_light slack
kind-light c kinds.Single = single-light c
kind-light c _ = refl

alone-light : (c : ℕ) → is_light (alone false c) ≡ true
unfolding alone
alone-light c = kind-light c (kind c)

-- a reading has this many columns besides those that may be taken away
Keeps : ℕ → Reading → Type 0
Keeps m r = m + slack r.1.after ≤ r.0

keep : (m : ℕ) (b : Bool) (x y : Reading) → Keeps m x → Keeps m y → Keeps m (cond b x y)
keep m true x y h k = h
keep m false x y h k = k

keeps : (m total : ℕ) (s : State) → m + slack s.after ≤ total → Keeps m (total, s)
unfolding Keeps
keeps m total s le = le

changed-keeps : (m total : ℕ) (a b : After) (ch : Change) → is_fine a (Some (ch, b)) ≡ true → m + slack a ≤ total
    → Keeps m (changed total ch, before b)
unfolding Keeps is_fine
changed-keeps m total a b Less h le = grind (arith, nat_tests, h, le)
changed-keeps m total a b Same h le = grind (arith, nat_tests, h, le)
changed-keeps m total a b One h le = grind (arith, nat_tests, h, le)
changed-keeps m total a b Three h le = grind (arith, nat_tests, h, le)

added-keeps : (m total : ℕ) (own : ℕ × State) → is_light own ≡ true → m ≤ total → Keeps m (added total own)
unfolding Keeps is_light
added-keeps m total own h le = grind (arith, nat_tests, h, le)

joined-keeps : (m total : ℕ) (a : After) (o : Option (Change × After)) (own : ℕ × State) → is_fine a o ≡ true
    → is_light own ≡ true → m + slack a ≤ total → Keeps m (joined_or total o own)
joined-keeps m total a None own h l le = added-keeps m total own l (omega arith)
joined-keeps m total a (Some j) own h l le = changed-keeps m total a j.1 j.0 h le

joiner-slack : (a : After) → nat_le (slack (with_joiner a)) (slack a) ≡ true
unfolding slack
joiner-slack KhmerLetter = refl
joiner-slack _ = refl

selectors-keep : (m c total : ℕ) (a : After) → m + slack a ≤ total → Keeps m (past_selectors false c total a)
unfolding past_selectors
selectors-keep m c total a le =
    keep m (skips_marks a && (c == 0x200D)) (total, before (with_joiner a)) _ (keeps m total (before (with_joiner a))
    (grind (arith, nat_tests, joiner-slack a)))
    (keep m (skips_marks a && is_ligature_transparent c) (total, before a) _ (keeps m total (before a) le)
    (joined-keeps m total a (joins false a c) (alone false c) (joins-fine a c) (alone-light c) le))

nothing-light : slack Nothing ≡ 0
unfolding slack
nothing-light = refl

kept-slack : (b : Bool) (s : State) → slack (cond b s plain).after ≤ slack s.after
kept-slack true s = omega arith
kept-slack false s = omega (arith, nothing-light)

twice-slack : (b d : Bool) (s : State) → slack (cond b s (cond d s plain)).after ≤ slack s.after
twice-slack true d s = omega arith
twice-slack false d s = kept-slack d s

context-keeps : (m c total : ℕ) (s : State) → m + slack s.after ≤ total → Keeps m (in_context false c total s)
unfolding in_context
context-keeps m c total s le =
    let kept = kept-slack (is_kept s.after) s in
    let twice = twice-slack (is_joined_emoji s.after) (is_kept s.after) s in
    keep m (c == 0xFE0F) (total, record (cond (is_joined_emoji s.after) s (if_kept s)) { emoji = true }) _
    (keeps m total _ (omega arith))
    (keep m (c == 0xFE01) (total, record (if_kept s) { quote = true }) _ (keeps m total _ (omega arith))
    (keep m (c == 0xFE0E) (total, record (if_kept s) { text = true }) _ (keeps m total _ (omega arith))
    (keep m (s.text && is_text_presentation_base c)
    (total + 1, plain) _ (keeps m (total + 1) plain (omega (arith, nothing-light)))
    (keep m (s.quote && is_quote c) (total + 2, plain) _ (keeps m (total + 2) plain (omega (arith, nothing-light)))
    (selectors-keep m c total s.after le)))))

feed-light : slack LineFeed ≡ 0
unfolding slack
feed-light = refl

emoji-light : slack Emoji ≡ 0
unfolding slack
emoji-light = refl

past_emoji-keeps : (m c total : ℕ) (s : State) → m + slack s.after ≤ total → Keeps m (past_emoji false c total s)
unfolding past_emoji
past_emoji-keeps m c total s le =
    keep m (c == 0x0A) (total + 1, before LineFeed) _ (keeps m (total + 1) (before LineFeed) (omega (arith, feed-light)))
    (keep m ((c == 0x0D) && is_line_feed s.after) (total, plain) _ (keeps m total plain (omega (arith, nothing-light)))
    (keep m (nat_le c 0xA0) (total + 1, plain) _ (keeps m (total + 1) plain (omega (arith, nothing-light)))
    (keep m (is_plain s) (added total (alone false c)) _ (added-keeps m total (alone false c) (alone-light c) (omega arith))
    (context-keeps m c total s le))))

step-keeps : (m c total : ℕ) (s : State) → m + slack s.after ≤ total → Keeps m (step false c (total, s))
unfolding step
step-keeps m c total s le =
    let kept = kept-slack (is_kept s.after) s in
    keep m (not s.emoji) (past_emoji false c total s) _ (past_emoji-keeps m c total s le)
    (keep m (is_emoji_variation_base c) (total + cond (is_joined_emoji s.after) 0 2, before Emoji) _
    (keeps m (total + cond (is_joined_emoji s.after) 0 2) (before Emoji) (omega (arith, emoji-light)))
    (past_emoji-keeps m c total (record (if_kept s) { emoji = false }) (omega arith)))

-- ---- a sound mark always takes its column

module _ (c : ℕ) (variation : is_emoji_variation_base c ≡ false) (own : alone false c ≡ (1, plain))
    (selectors : (a : After) (total : ℕ) → past_selectors false c total a ≡ (total + 1, plain))
    (feed : (c == 0x0A) ≡ false) (back : (c == 0x0D) ≡ false) (low : nat_le c 0xA0 ≡ false)
    (emoji : (c == 0xFE0F) ≡ false) (quote : (c == 0xFE01) ≡ false) (text : (c == 0xFE0E) ≡ false) where
  one_more : (m total : ℕ) → m ≤ total → Keeps (suc m) (total + 1, plain)
  one_more m total le = keeps (suc m) (total + 1) plain (omega (arith, nothing-light))

  mark-context : (m total : ℕ) (s : State) → m ≤ total → Keeps (suc m) (in_context false c total s)
  unfolding in_context
  mark-context m total s le =
      rw (emoji, quote, text)
      (keep (suc m) (s.text && is_text_presentation_base c) (total + 1, plain) _ (one_more m total le)
      (keep (suc m) (s.quote && is_quote c) (total + 2, plain) _ (keeps (suc m) (total + 2) plain (omega (arith, nothing-light)))
      (subst (Keeps (suc m)) (sym (selectors s.after total)) (one_more m total le))))

  mark-past_emoji : (m total : ℕ) (s : State) → m ≤ total → Keeps (suc m) (past_emoji false c total s)
  unfolding past_emoji
  mark-past_emoji m total s le =
      rw (feed, back, low)
      (keep (suc m) (is_plain s) (added total (alone false c)) _ (rw own (one_more m total le)) (mark-context m total s le))

  mark-step : (m total : ℕ) (s : State) → m ≤ total → Keeps (suc m) (step false c (total, s))
  unfolding step
  mark-step m total s le =
      rw variation
      (keep (suc m) (not s.emoji) (past_emoji false c total s) _ (mark-past_emoji m total s le)
      (mark-past_emoji m total (record (if_kept s) { emoji = false }) le))

selectors-9e : (a : After) (total : ℕ) → past_selectors false 0xFF9E total a ≡ (total + 1, plain)
unfolding unicode_width
selectors-9e KhmerLetter total = refl
selectors-9e _ total = refl

selectors-9f : (a : After) (total : ℕ) → past_selectors false 0xFF9F total a ≡ (total + 1, plain)
unfolding unicode_width
selectors-9f KhmerLetter total = refl
selectors-9f _ total = refl

step-9e : (m total : ℕ) (s : State) → m ≤ total → Keeps (suc m) (step false 0xFF9E (total, s))
unfolding unicode_width
step-9e = mark-step 0xFF9E refl refl selectors-9e refl refl refl refl refl refl

step-9f : (m total : ℕ) (s : State) → m ≤ total → Keeps (suc m) (step false 0xFF9F (total, s))
unfolding unicode_width
step-9f = mark-step 0xFF9F refl refl selectors-9f refl refl refl refl refl refl

one_of : (c : ℕ) → is_sound_mark c ≡ true → (c ≡ 0xFF9E) ⊎ (c ≡ 0xFF9F)
one_of c is = ⊎_elim (λ (h : c < 0xFF9F). inl (grind (arith, nat_tests, is)))
    (λ (h : 0xFF9F ≤ c). inr (grind (arith, nat_tests, is))) (cases_lt c 0xFF9F)

turn : (c : ℕ) (b : Bool) (n : ℕ) (r : Reading) → is_sound_mark c ≡ b → Keeps n r → Keeps (cond b (suc n) n) (step false c r)
unfolding Keeps
turn c true n (total, s) is h =
    ⊎_elim (λ (e : c ≡ 0xFF9E). subst (λ d. Keeps (suc n) (step false d (total, s))) (sym e)
    (step-9e n total s (omega (arith, h))))
    (λ (e : c ≡ 0xFF9F). subst (λ d. Keeps (suc n) (step false d (total, s))) (sym e) (step-9f n total s (omega (arith, h))))
    (one_of c is)
turn c false n (total, s) is h = step-keeps n c total s h

counted : (b : Bool) (n : ℕ) → cond b (suc n) n ≡ cond b 1 0 + n
counted true n = omega arith
counted false n = omega arith

marks-kept : (cs : List ℕ) → Keeps (count_by is_sound_mark cs) (read_before false cs (0, plain))
marks-kept [] = keeps 0 0 plain (omega (arith, nothing-light))
marks-kept (c ∷ cs) =
    subst (λ n. Keeps n (step false c (read_before false cs (0, plain))))
    (counted (is_sound_mark c) (count_by is_sound_mark cs) ∙ sym (sum_by-cons (λ x. cond (is_sound_mark x) 1 0) c cs))
    (turn c (is_sound_mark c) (count_by is_sound_mark cs) (read_before false cs (0, plain)) refl (marks-kept cs))

pub marks-within : (cs : List ℕ) → count_by is_sound_mark cs ≤ str_width false cs
unfolding str_width Keeps
marks-within cs = let h = marks-kept cs in omega (arith, h)

-- the width of a text of more than one byte
pub width_of_columns : (text : List ℕ) → length text ≢ 1
    → text_width text ≡ min (text_columns text + count_by is_sound_mark (chars text)) 65535
unfolding text_width text_columns
width_of_columns text more =
    let within = marks-within (chars text) in
    let whole : str_width false (chars text) - count_by is_sound_mark (chars text) + count_by is_sound_mark
    (chars text) ≡ str_width false (chars text) = omega arith in
    let other : (length text == 1) ≡ false = grind (arith, nat_tests, more) in
    rw (other, whole) refl
