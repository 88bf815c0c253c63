-- What Unicode's tables say of graphemes, each shown for every code point by a computation.
use Rattle.std.proofs.Common.{◌≡◌, ℕ, Bool, true, false, not, ◌&&◌, ◌||◌, refl}
use Rattle.ucd_table.proofs.Computing.{tables}
use Rattle.ucd_table.proofs.Stepped.{zip_stepped}
use Rattle.ucd_table.proofs.Facts.{Stepped-everywhere}
use Rattle.ucd_breaks.specs.GraphemeClusterBreak.{grapheme_cluster_break}
use Rattle.ucd_breaks.specs.declared.GraphemeClusterBreak.{GraphemeClusterBreak}
use Rattle.ucd_breaks.specs.declared.GraphemeClusterBreak.TheVariants.{Control, Cr, Lf, Extend, Zwj}
use Rattle.ucd_breaks.proofs.GraphemeClusterBreakLemmas.{grapheme_cluster_break_stepped}
use Rattle.ucd_derived.specs.IndicConjunctBreak.{indic_conjunct_break}
use Rattle.ucd_derived.specs.declared.IndicConjunctBreak.{IndicConjunctBreak}
use Rattle.ucd_derived.specs.declared.IndicConjunctBreak.TheVariants as InCb
use Rattle.ucd_derived.proofs.IndicConjunctBreakLemmas.{indic_conjunct_break_stepped}
use Rattle.ucd_emoji.specs.Binary.{is_extended_pictographic}
use Rattle.ucd_emoji.proofs.BinaryLemmas.{is_extended_pictographic_stepped}

-- a control character, or the end of a line
abbrev pub is_controlling : GraphemeClusterBreak → Bool
is_controlling Control = true
is_controlling Cr = true
is_controlling Lf = true
is_controlling _ = false

-- what joins whatever is before it
abbrev pub is_joining : GraphemeClusterBreak → Bool
is_joining Extend = true
is_joining Zwj = true
is_joining _ = false

abbrev pub is_conjunct_extend : IndicConjunctBreak → Bool
is_conjunct_extend InCb.Extend = true
is_conjunct_extend _ = false

abbrev pub is_conjunct_none : IndicConjunctBreak → Bool
is_conjunct_none InCb.None = true
is_conjunct_none _ = false

-- what extends a conjunct joins; what controls is in no conjunct
abbrev conjuncts_fit : GraphemeClusterBreak → IndicConjunctBreak → Bool
conjuncts_fit value conjunct =
    (not (is_conjunct_extend conjunct) || is_joining value) && (not (is_controlling value) || is_conjunct_none conjunct)

pub conjuncts : (c : ℕ) → conjuncts_fit (grapheme_cluster_break c) (indic_conjunct_break c) ≡ true
unfolding tables grapheme_cluster_break_stepped indic_conjunct_break_stepped
conjuncts =
    let steps = zip_stepped conjuncts_fit grapheme_cluster_break indic_conjunct_break grapheme_cluster_break_stepped
    indic_conjunct_break_stepped in
    Stepped-everywhere (λ c. conjuncts_fit (grapheme_cluster_break c) (indic_conjunct_break c)) steps refl

-- what controls is no pictograph
abbrev pictographs_fit : GraphemeClusterBreak → Bool → Bool
pictographs_fit value pictographic = not (is_controlling value && pictographic)

pub pictographs : (c : ℕ) → pictographs_fit (grapheme_cluster_break c) (is_extended_pictographic c) ≡ true
unfolding tables grapheme_cluster_break_stepped is_extended_pictographic_stepped
pictographs =
    let steps = zip_stepped pictographs_fit grapheme_cluster_break is_extended_pictographic grapheme_cluster_break_stepped
    is_extended_pictographic_stepped in
    Stepped-everywhere (λ c. pictographs_fit (grapheme_cluster_break c) (is_extended_pictographic c)) steps refl
