-- A break before a character: after it the rules find what they find in a text that begins there.
use Rattle.std.proofs.Common.{◌≡◌, ℕ, Bool, true, false, not, ◌&&◌, ◌||◌, if◌then◌else◌, List, [], ◌∷◌, ◌++◌, map, unwrap_or}
use Rattle.std.proofs.Common.{refl, sym, ap, ◌∙◌}
use Rattle.std.proofs.lemmas.Bool.{true≢false, false≢true, or_parts, and_parts, not-true}
use Rattle.ucd_breaks.specs.GraphemeClusterBreak.{grapheme_cluster_break}
use Rattle.ucd_breaks.specs.declared.GraphemeClusterBreak.{GraphemeClusterBreak}
use Rattle.ucd_breaks.specs.declared.GraphemeClusterBreak.TheVariants.{Control, Cr, Lf, Extend, Zwj, RegionalIndicator}
use Rattle.ucd_derived.specs.IndicConjunctBreak.{indic_conjunct_break}
use Rattle.ucd_derived.specs.declared.IndicConjunctBreak.{IndicConjunctBreak}
use Rattle.ucd_derived.specs.declared.IndicConjunctBreak.TheVariants as InCb
use Rattle.ucd_emoji.specs.Binary.{is_extended_pictographic}
use Rattle.unicode_segmentation.specs.Segments.{Rule, prepend, cut}
use Rattle.unicode_segmentation.specs.Grapheme.{break_by_pair, ends_in_linker, is_consonant, is_extend, is_zwj, is_regional}
use Rattle.unicode_segmentation.specs.Grapheme.{ends_in_pictograph, ends_in_half_flag, joins_emoji, is_grapheme_break}
use Rattle.rtui_text.proofs.TableLemmas.{is_controlling, is_joining, is_conjunct_extend, is_conjunct_none, conjuncts, pictographs}

-- the rule by which a text is cut into graphemes
abbrev pub breaks : Rule
breaks = is_grapheme_break true

-- what joins whatever is before it breaks after what controls alone
apart-joining : (v w : GraphemeClusterBreak) (x : Bool) → unwrap_or (break_by_pair true v w) x ≡ true → is_joining w ≡ true
    → is_controlling v ≡ true
apart-joining Control w x broken joins = refl
apart-joining Cr w x broken joins = refl
apart-joining Lf w x broken joins = refl
apart-joining v Extend x broken joins = absurd (false≢true broken)
apart-joining v Zwj x broken joins = absurd (false≢true broken)
apart-joining v w x broken joins = absurd (false≢true joins)

-- two regional indicators break after a whole flag alone
apart-flags : (v w : GraphemeClusterBreak) (x half : Bool)
    → unwrap_or (break_by_pair true v w) (not (x || (is_regional v && half) && is_regional w)) ≡ true → is_regional w ≡ true
    → (is_regional v && half) ≡ false
apart-flags RegionalIndicator RegionalIndicator x half broken both =
    let whole : (half && true) ≡ false = (or_parts x (half && true) (not-true _ broken)).1 in
    half-false half whole
  where
    half-false : (b : Bool) → (b && true) ≡ false → b ≡ false
    half-false true e = absurd (true≢false e)
    half-false false e = refl
apart-flags RegionalIndicator w x half broken both = absurd (false≢true both)
apart-flags v w x half broken both = refl

-- what a break before a character says of the characters before it
record Apart (o : ℕ) (before : List ℕ) : Type 0 where
  conjunct : is_conjunct_extend (indic_conjunct_break o) ≡ true → ends_in_linker (map indic_conjunct_break before) ≡ false
  pictograph : is_joining (grapheme_cluster_break o) ≡ true → ends_in_pictograph before ≡ false
  flag : is_regional (grapheme_cluster_break o) ≡ true → ends_in_half_flag before ≡ false

-- what extends a conjunct joins, and what controls stands in no conjunct
extends-joins : (v : GraphemeClusterBreak) (u : IndicConjunctBreak)
    → ((not (is_conjunct_extend u) || is_joining v) && (not (is_controlling v) || is_conjunct_none u)) ≡ true
    → is_conjunct_extend u ≡ true → is_joining v ≡ true
extends-joins v u fit extends = let parts = and_parts (not (is_conjunct_extend u) || is_joining v) _ fit in
    implied (is_conjunct_extend u) (is_joining v) parts.0 extends
  where
    implied : (a b : Bool) → (not a || b) ≡ true → a ≡ true → b ≡ true
    implied true b e is = e
    implied false b e is = absurd (false≢true is)

no-linker : (u : IndicConjunctBreak) (us : List IndicConjunctBreak) → is_conjunct_none u ≡ true → ends_in_linker (u ∷ us) ≡ false
unfolding ends_in_linker
no-linker InCb.None us none = refl
no-linker u us none = absurd (false≢true none)

controls-linker : (k : ℕ) (ks : List ℕ) → is_controlling (grapheme_cluster_break k) ≡ true
    → ends_in_linker (map indic_conjunct_break (k ∷ ks)) ≡ false
controls-linker k ks controls =
    let v = grapheme_cluster_break k in let u = indic_conjunct_break k in
    let none = not (is_controlling v) || is_conjunct_none u in
    let parts = and_parts (not (is_conjunct_extend u) || is_joining v) none (conjuncts k) in
    no-linker u (map indic_conjunct_break ks) (sym (ap (λ b. not b || is_conjunct_none u) controls) ∙ parts.1)

no-pictograph : (v : GraphemeClusterBreak) (pictographic rest : Bool) → not (is_controlling v && pictographic) ≡ true
    → is_controlling v ≡ true → (pictographic || (is_extend v && rest)) ≡ false
no-pictograph Control true rest fit controls = absurd (false≢true fit)
no-pictograph Control false rest fit controls = refl
no-pictograph Cr true rest fit controls = absurd (false≢true fit)
no-pictograph Cr false rest fit controls = refl
no-pictograph Lf true rest fit controls = absurd (false≢true fit)
no-pictograph Lf false rest fit controls = refl
no-pictograph v pictographic rest fit controls = absurd (false≢true controls)

controls-pictograph : (k : ℕ) (ks : List ℕ) → is_controlling (grapheme_cluster_break k) ≡ true
    → ends_in_pictograph (k ∷ ks) ≡ false
unfolding ends_in_pictograph
controls-pictograph k ks controls =
    no-pictograph (grapheme_cluster_break k) (is_extended_pictographic k) (ends_in_pictograph ks) (pictographs k) controls

Apart-from_break : (before : List ℕ) (o : ℕ) (after : List ℕ) → breaks before (o ∷ after) ≡ true → Apart o before
unfolding is_grapheme_break ends_in_linker ends_in_pictograph ends_in_half_flag
Apart-from_break [] o after broken = record { conjunct = λ _. refl; pictograph = λ _. refl; flag = λ _. refl }
Apart-from_break (k ∷ ks) o after broken =
    let v = grapheme_cluster_break k in let w = grapheme_cluster_break o in
    record {
      conjunct = λ extends. controls-linker k ks
          (apart-joining v w _ broken (extends-joins w (indic_conjunct_break o) (conjuncts o) extends));
      pictograph = λ joins. controls-pictograph k ks (apart-joining v w _ broken joins);
      flag = λ both. apart-flags v w _ (not (ends_in_half_flag ks)) broken both;
    }

-- the rules find the same before a place, whether they look at the longer list or the shorter
record FindsSame (long short : List ℕ) : Type 0 where
  conjunct : ends_in_linker (map indic_conjunct_break long) ≡ ends_in_linker (map indic_conjunct_break short)
  pictograph : ends_in_pictograph long ≡ ends_in_pictograph short
  flag : ends_in_half_flag long ≡ ends_in_half_flag short

linker-start : (u : IndicConjunctBreak) (us : List IndicConjunctBreak) → (is_conjunct_extend u ≡ true → ends_in_linker us ≡ false)
    → ends_in_linker (u ∷ us) ≡ ends_in_linker (u ∷ [])
unfolding ends_in_linker
linker-start InCb.Extend us none = none refl
linker-start InCb.Linker us none = refl
linker-start InCb.Consonant us none = refl
linker-start InCb.None us none = refl

and-start : (t b : Bool) → (t ≡ true → b ≡ false) → (t && b) ≡ (t && false)
and-start true b none = none refl
and-start false b none = refl

extend-joins : (v : GraphemeClusterBreak) → is_extend v ≡ true → is_joining v ≡ true
extend-joins Extend is = refl
extend-joins v is = absurd (false≢true is)

zwj-joins : (v : GraphemeClusterBreak) → is_zwj v ≡ true → is_joining v ≡ true
zwj-joins Zwj is = refl
zwj-joins v is = absurd (false≢true is)

same-start : (o : ℕ) (before : List ℕ) → Apart o before → FindsSame (o ∷ before) (o ∷ [])
unfolding ends_in_pictograph ends_in_half_flag
same-start o before apart = record {
  conjunct = linker-start (indic_conjunct_break o) (map indic_conjunct_break before) apart.conjunct;
  pictograph = ap (λ b. is_extended_pictographic o || b)
      (and-start (is_extend (grapheme_cluster_break o)) (ends_in_pictograph before)
      (λ is. apart.pictograph (extend-joins (grapheme_cluster_break o) is)));
  flag = regional-start (is_regional (grapheme_cluster_break o)) (ends_in_half_flag before) apart.flag;
}
  where
    regional-start : (t b : Bool) → (t ≡ true → b ≡ false) → (t && not b) ≡ (t && true)
    regional-start true b none = ap not (none refl)
    regional-start false b none = refl

linker-more : (u : IndicConjunctBreak) (us vs : List IndicConjunctBreak) → ends_in_linker us ≡ ends_in_linker vs
    → ends_in_linker (u ∷ us) ≡ ends_in_linker (u ∷ vs)
unfolding ends_in_linker
linker-more InCb.Extend us vs same = same
linker-more InCb.Linker us vs same = refl
linker-more InCb.Consonant us vs same = refl
linker-more InCb.None us vs same = refl

same-more : (c : ℕ) (long short : List ℕ) → FindsSame long short → FindsSame (c ∷ long) (c ∷ short)
unfolding ends_in_pictograph ends_in_half_flag
same-more c long short same = record {
  conjunct = linker-more (indic_conjunct_break c) _ _ same.conjunct;
  pictograph = ap (λ b. is_extended_pictographic c || (is_extend (grapheme_cluster_break c) && b)) same.pictograph;
  flag = ap (λ b. is_regional (grapheme_cluster_break c) && not b) same.flag;
}

-- so they say the same, if the nearest character is the same
break-same : (c : ℕ) (long short after : List ℕ) → FindsSame (c ∷ long) (c ∷ short)
    → ((next : ℕ) → joins_emoji (c ∷ long) next ≡ joins_emoji (c ∷ short) next)
    → breaks (c ∷ long) after ≡ breaks (c ∷ short) after
unfolding is_grapheme_break
break-same c long short [] same emoji = refl
break-same c long short (next ∷ after) same emoji = λ i.
    unwrap_or (break_by_pair true (grapheme_cluster_break c) (grapheme_cluster_break next))
    (not ((same.conjunct i && is_consonant (indic_conjunct_break next)) || emoji next i
    || (same.flag i && is_regional (grapheme_cluster_break next))))

break-start : (o : ℕ) (before after : List ℕ) → Apart o before → breaks (o ∷ before) after ≡ breaks (o ∷ []) after
unfolding ends_in_pictograph
break-start o before after apart = break-same o before [] after (same-start o before apart)
    (λ next. ap (λ b. b && is_extended_pictographic next)
    (and-start (is_zwj (grapheme_cluster_break o)) (ends_in_pictograph before)
    (λ is. apart.pictograph (zwj-joins (grapheme_cluster_break o) is))))

break-more : (c : ℕ) (long short after : List ℕ) → FindsSame long short
    → breaks (c ∷ long) after ≡ breaks (c ∷ short) after
break-more c long short after same = break-same c long short after (same-more c long short same)
    (λ next. ap (λ b. is_zwj (grapheme_cluster_break c) && b && is_extended_pictographic next) same.pictograph)

-- characters cut after either list of characters
cut-same : (long short cs after : List ℕ) → FindsSame long short → cut breaks long cs after ≡ cut breaks short cs after
unfolding cut
cut-same long short [] after same = refl
cut-same long short (c ∷ cs) after same =
    let rest = cut-same (c ∷ long) (c ∷ short) cs after (same-more c long short same) in λ i.
    if break-more c long short (cs ++ after) same i then (c ∷ []) ∷ rest i else prepend (c ∷ []) (rest i)

-- what is cut after a break is cut as a text of its own
pub cut-start : (before cs : List ℕ) → breaks before cs ≡ true
    → cut breaks before cs [] ≡ cut breaks [] cs []
unfolding cut
cut-start before [] broken = refl
cut-start before (o ∷ cs) broken =
    let apart = Apart-from_break before o cs broken in
    let rest = cut-same (o ∷ before) (o ∷ []) cs [] (same-start o before apart) in λ i.
    if break-start o before (cs ++ []) apart i then (o ∷ []) ∷ rest i else prepend (o ∷ []) (rest i)
