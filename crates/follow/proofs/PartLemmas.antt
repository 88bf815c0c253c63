-- A control character but a line break parts a text: the graphemes on both sides of it are those of two texts.
use Rattle.std.proofs.Common.{◌≡◌, ℕ, zero, suc, ◌<◌, ◌==◌, ◌&&◌, ◌||◌, not, Bool, true, false, if◌then◌else◌}
use Rattle.std.proofs.Common.{List, [], ◌∷◌, ◌++◌, map, length, unwrap_or, lit<, encode_utf8, encode_utf8_all, refl, ap, ◌∙◌, arith, eqb-true, append-nil}
use Rattle.std.proofs.lemmas.{Bool.false≢true, Bool.Decides.nat_tests, List.map-append, Str.encode_ascii, Str.chars-append, Str.chars-IsAscii}
use Rattle.std.proofs.lemmas.Str.{IsUtf8-from_ascii}
use Rattle.std.specs.Str.{chars, IsAscii, IsUtf8}
use Rattle.ucd_table.proofs.Facts.{Stepped-below}
use Rattle.ucd_breaks.specs.GraphemeClusterBreak.{grapheme_cluster_break, grapheme_cluster_break_number}
use Rattle.ucd_breaks.specs.declared.GraphemeClusterBreak.{GraphemeClusterBreak}
use Rattle.ucd_breaks.specs.declared.GraphemeClusterBreak.TheVariants.{Control, Cr, Extend, L, Lf, Lv, Lvt, Other, Prepend}
use Rattle.ucd_breaks.specs.declared.GraphemeClusterBreak.TheVariants.{RegionalIndicator, SpacingMark, T, V, Zwj}
use Rattle.ucd_breaks.proofs.Computing.{ucd_breaks}
use Rattle.ucd_breaks.proofs.GraphemeClusterBreakLemmas.{grapheme_cluster_break_stepped, grapheme_cluster_break_number_injective}
use Rattle.ucd_derived.specs.IndicConjunctBreak.{indic_conjunct_break, indic_conjunct_break_number}
use Rattle.ucd_derived.specs.declared.IndicConjunctBreak.{IndicConjunctBreak}
use Rattle.ucd_derived.specs.declared.IndicConjunctBreak.TheVariants as InCb
use Rattle.ucd_derived.proofs.Computing.{ucd_derived}
use Rattle.ucd_derived.proofs.IndicConjunctBreakLemmas.{indic_conjunct_break_stepped, indic_conjunct_break_number_injective}
use Rattle.ucd_emoji.specs.Binary.{is_extended_pictographic}
use Rattle.ucd_emoji.proofs.{Computing.ucd_emoji, BinaryLemmas.is_extended_pictographic_stepped}
use Rattle.unicode_segmentation.specs.Segments.{prepend, cut, segments}
use Rattle.unicode_segmentation.specs.Grapheme.{break_by_pair, ends_in_linker, joins_conjunct, is_extend, is_regional}
use Rattle.unicode_segmentation.specs.Grapheme.{ends_in_pictograph, joins_emoji, ends_in_half_flag, joins_flag, is_grapheme_break}
use Rattle.unicode_segmentation.specs.Grapheme.{graphemes}
use Rattle.ratatui_core.specs.Text.{has_control}
use Rattle.follow.specs.Inner.{is_parting}
use Rattle.follow.proofs.CutLemmas.{same-break}

-- ---- what the tables say of such a character

module _ (c : ℕ) (parts : is_parting c ≡ true) where
  low : c < 0x80
  low = grind (arith, nat_tests, parts)

  is_control : grapheme_cluster_break c ≡ Control
  unfolding ucd_breaks
  is_control =
      let test = Stepped-below grapheme_cluster_break grapheme_cluster_break_stepped
      (λ x v. not (is_parting x) || (grapheme_cluster_break_number v == 0)) 0x80 refl c low in
      grapheme_cluster_break_number_injective _ _ (eqb-true _ _ (rw parts at test))

  no_conjunct : indic_conjunct_break c ≡ InCb.None
  unfolding ucd_derived
  no_conjunct =
      indic_conjunct_break_number_injective _ _
      (eqb-true _ _ (Stepped-below indic_conjunct_break indic_conjunct_break_stepped (λ x v. indic_conjunct_break_number v == 3)
      0x80 refl c low))

  no_pictograph : is_extended_pictographic c ≡ false
  unfolding ucd_emoji
  no_pictograph = by (is_extended_pictographic c)
      (Stepped-below is_extended_pictographic is_extended_pictographic_stepped (λ x v. not v) 0x80 refl c low)
    where
      by : (t : Bool) → not t ≡ true → t ≡ false
      by true h = absurd (false≢true h)
      by false h = refl

  -- ---- the rule looks no further back than such a character

  same_end : (v : IndicConjunctBreak) (us vs : List IndicConjunctBreak) → ends_in_linker us ≡ ends_in_linker vs
      → ends_in_linker (v ∷ us) ≡ ends_in_linker (v ∷ vs)
  unfolding ends_in_linker
  same_end InCb.Linker us vs e = refl
  same_end InCb.Extend us vs e = e
  same_end InCb.Consonant us vs e = refl
  same_end InCb.None us vs e = refl

  linker-past : (before cs : List ℕ)
      → ends_in_linker (map indic_conjunct_break (cs ++ c ∷ before)) ≡ ends_in_linker (map indic_conjunct_break cs)
  unfolding ends_in_linker
  linker-past before [] = rw no_conjunct refl
  linker-past before (x ∷ cs) =
      same_end (indic_conjunct_break x) (map indic_conjunct_break (cs ++ c ∷ before)) (map indic_conjunct_break cs)
      (linker-past before cs)

  pictograph-past : (before cs : List ℕ) → ends_in_pictograph (cs ++ c ∷ before) ≡ ends_in_pictograph cs
  unfolding ends_in_pictograph
  pictograph-past before [] = rw (no_pictograph, is_control) refl
  pictograph-past before (x ∷ cs) = ap (λ t. is_extended_pictographic x || (is_extend (grapheme_cluster_break x) && t))
      (pictograph-past before cs)

  flag-past : (before cs : List ℕ) → ends_in_half_flag (cs ++ c ∷ before) ≡ ends_in_half_flag cs
  unfolding ends_in_half_flag
  flag-past before [] = rw is_control refl
  flag-past before (x ∷ cs) = ap (λ t. is_regional (grapheme_cluster_break x) && not t) (flag-past before cs)

  break-past : (before : List ℕ) (x : ℕ) (cs after : List ℕ)
      → is_grapheme_break true (x ∷ (cs ++ c ∷ before)) after ≡ is_grapheme_break true (x ∷ cs) after
  unfolding is_grapheme_break
  break-past before x cs [] = refl
  break-past before x cs (next ∷ after) =
      let linker = linker-past before (x ∷ cs) in
      let pictograph = pictograph-past before cs in
      let flag = flag-past before (x ∷ cs) in
      rw (linker, pictograph, flag) refl

  cut-past : (before front cs after : List ℕ)
      → cut (is_grapheme_break true) (front ++ c ∷ before) cs after ≡ cut (is_grapheme_break true) front cs after
  unfolding cut
  cut-past before front [] after = refl
  cut-past before front (x ∷ cs) after = rw (
    break-past before x front (cs ++ after),
    cut-past before (x ∷ front) cs after,
  ) refl

  -- ---- both of its sides are breaks

  breaks_after : (before after : List ℕ) → is_grapheme_break true (c ∷ before) after ≡ true
  unfolding is_grapheme_break
  breaks_after before [] = refl
  breaks_after before (next ∷ after) = rw is_control (by (grapheme_cluster_break next))
    where
      by : (v : GraphemeClusterBreak) → unwrap_or (break_by_pair true Control v) (not ((true && joins_conjunct (c ∷ before) next)
          || joins_emoji (c ∷ before) next || joins_flag (c ∷ before) next)) ≡ true
      by v = refl

  breaks_before : (x : ℕ) (before after : List ℕ) → is_grapheme_break true (x ∷ before) (c ∷ after) ≡ true
  unfolding is_grapheme_break
  breaks_before x before after = rw is_control (by (grapheme_cluster_break x) _)
    where
      by : (v : GraphemeClusterBreak) (other : Bool) → unwrap_or (break_by_pair true v Control) other ≡ true
      by Control other = refl
      by Cr other = refl
      by Lf other = refl
      by Extend other = refl
      by Zwj other = refl
      by L other = refl
      by V other = refl
      by T other = refl
      by Lv other = refl
      by Lvt other = refl
      by Prepend other = refl
      by RegionalIndicator other = refl
      by SpacingMark other = refl
      by Other other = refl

  cut-after : (before after : List ℕ) → cut (is_grapheme_break true) before (c ∷ after) []
      ≡ (c ∷ []) ∷ cut (is_grapheme_break true) [] after []
  unfolding cut
  cut-after before after = rw (breaks_after before (after ++ [])) (ap (λ ps. (c ∷ []) ∷ ps) (cut-past before [] after []))

  end_breaks : (x : ℕ) (before : List ℕ) → is_grapheme_break true (x ∷ before) [] ≡ true
  unfolding is_grapheme_break
  end_breaks x before = refl

  some-cut : (before : List ℕ) (x : ℕ) (cs : List ℕ) → 0 < length (cut (is_grapheme_break true) before (x ∷ cs) [])
  unfolding cut
  some-cut before x cs = by (is_grapheme_break true (x ∷ before) (cs ++ [])) (cut (is_grapheme_break true) (x ∷ before) cs [])
    where
      by : (t : Bool) (ps : List (List ℕ)) → 0 < length (if t then (x ∷ []) ∷ ps else prepend (x ∷ []) ps)
      by true ps = omega arith
      by false [] = omega arith
      by false (p ∷ ps) = omega arith

  -- pieces after others
  then-pieces : (x : ℕ) (t : Bool) (ps qs : List (List ℕ)) → 0 < length ps
      → (if t then (x ∷ []) ∷ (ps ++ qs) else prepend (x ∷ []) (ps ++ qs))
      ≡ (if t then (x ∷ []) ∷ ps else prepend (x ∷ []) ps) ++ qs
  then-pieces x t [] qs some = absurd (omega arith)
  then-pieces x true (p ∷ ps) qs some = refl
  then-pieces x false (p ∷ ps) qs some = refl

  cut-parts : (before front after : List ℕ) → cut (is_grapheme_break true) before (front ++ c ∷ after) []
      ≡ cut (is_grapheme_break true) before front [] ++ ((c ∷ []) ∷ cut (is_grapheme_break true) [] after [])
  unfolding cut
  cut-parts before [] after = cut-after before after
  cut-parts before (x ∷ []) after =
      rw (breaks_before x before (after ++ []), end_breaks x before, cut-after (x ∷ before) after) refl
  cut-parts before (x ∷ (y ∷ front)) after =
      let ps = cut (is_grapheme_break true) (x ∷ before) (y ∷ front) [] in
      let qs = (c ∷ []) ∷ cut (is_grapheme_break true) [] after [] in
      let t = is_grapheme_break true (x ∷ before) (y ∷ ((front ++ c ∷ after) ++ [])) in
      ap (λ rest. if t then (x ∷ []) ∷ rest else prepend (x ∷ []) rest) (cut-parts (x ∷ before) (y ∷ front) after)
      ∙ then-pieces x t ps qs (some-cut (x ∷ before) y front)
      ∙ ap (λ u. (if u then (x ∷ []) ∷ ps else prepend (x ∷ []) ps) ++ qs)
      (same-break x before y ((front ++ c ∷ after) ++ []) (front ++ []))

  one-byte : encode_utf8_all (c ∷ []) ≡ c ∷ []
  one-byte = append-nil (encode_utf8 c) ∙ encode_ascii c low

  ascii : IsAscii (c ∷ [])
  ascii zero = low
  ascii (suc k) = lit< tt

  pub one-utf8 : IsUtf8 (c ∷ [])
  one-utf8 = IsUtf8-from_ascii (c ∷ []) ascii

  chars-more : (after : List ℕ) → chars (c ∷ after) ≡ c ∷ chars after
  chars-more after = chars-append (c ∷ []) after one-utf8 ∙ ap (λ cs. cs ++ chars after) (chars-IsAscii (c ∷ []) ascii)

  pub parting-control : has_control (c ∷ []) ≡ true
  parting-control =
      let one : chars (c ∷ []) ≡ c ∷ [] = chars-IsAscii (c ∷ []) ascii in
      rw one (grind (arith, nat_tests, parts))

  -- the graphemes of what is parted
  pub graphemes-parts : (front after : List ℕ) → IsUtf8 front
      → graphemes true (front ++ c ∷ after) ≡ graphemes true front ++ ((c ∷ []) ∷ graphemes true after)
  unfolding segments
  graphemes-parts front after utf8 =
      let cs = cut (is_grapheme_break true) [] (chars front) [] in
      let rest = cut (is_grapheme_break true) [] (chars after) [] in
      ap (λ all. map encode_utf8_all (cut (is_grapheme_break true) [] all []))
      (chars-append front (c ∷ after) utf8 ∙ ap (λ more. chars front ++ more) (chars-more after))
      ∙ ap (map encode_utf8_all) (cut-parts [] (chars front) (chars after))
      ∙ map-append encode_utf8_all cs ((c ∷ []) ∷ rest)
      ∙ ap (λ p. map encode_utf8_all cs ++ (p ∷ map encode_utf8_all rest)) one-byte
