-- A printable character of ASCII before another character of ASCII is a grapheme of its own.
use Rattle.std.proofs.Common.{◌≡◌, ℕ, zero, suc, ◌-◌, ◌<◌, ◌≤◌, Bool, true, false, cond, not, ◌&&◌, ◌||◌, ◌==◌, nat_le, nat_lt}
use Rattle.std.proofs.Common.{List, [], ◌∷◌, ◌++◌, map, length, unwrap_or, refl, sym, ap, ◌∙◌, arith, append-nil, eqb-true, ◌⊎◌}
use Rattle.std.proofs.Common.{⊎_elim, inl, inr, take, drop, slice_index, subst, add-one, count_by, encode_utf8, encode_utf8_all}
use Rattle.std.proofs.Common.{length-take, get_or-take}
use Rattle.std.proofs.lemmas.{Bool.false≢true, Bool.cases_lt, Bool.cases_order, Bool.or_parts, Bool.Decides.nat_tests}
use Rattle.std.proofs.lemmas.{List.Elements.All-nil, List.Elements.All-cons}
use Rattle.std.proofs.lemmas.Str.{encode_ascii, chars-nil, chars-IsAscii, IsCharBoundary-start}
use Rattle.std.specs.{Char.is_control, List.All, List.list_any}
use Rattle.std.specs.Str.{chars, IsAscii, IsUtf8, IsCharBoundary}
use Rattle.ucd_table.proofs.Facts.{Stepped-below}
use Rattle.ucd_breaks.specs.GraphemeClusterBreak.{grapheme_cluster_break, grapheme_cluster_break_number}
use Rattle.ucd_breaks.specs.declared.GraphemeClusterBreak.{GraphemeClusterBreak}
use Rattle.ucd_breaks.specs.declared.GraphemeClusterBreak.TheVariants.{Control, Cr, Lf, Other}
use Rattle.ucd_breaks.proofs.Computing.{ucd_breaks}
use Rattle.ucd_breaks.proofs.GraphemeClusterBreakLemmas.{grapheme_cluster_break_stepped, grapheme_cluster_break_number_injective}
use Rattle.ucd_derived.specs.IndicConjunctBreak.{indic_conjunct_break, indic_conjunct_break_number}
use Rattle.ucd_derived.specs.declared.IndicConjunctBreak.{IndicConjunctBreak}
use Rattle.ucd_derived.specs.declared.IndicConjunctBreak.TheVariants as InCb
use Rattle.ucd_derived.proofs.Computing.{ucd_derived}
use Rattle.ucd_derived.proofs.IndicConjunctBreakLemmas.{indic_conjunct_break_stepped, indic_conjunct_break_number_injective}
use Rattle.ucd_emoji.specs.Binary.{is_extended_pictographic}
use Rattle.ucd_emoji.proofs.{Computing.ucd_emoji, BinaryLemmas.is_extended_pictographic_stepped}
use Rattle.unicode_segmentation.specs.Segments.{prepend, cut, segments}
use Rattle.unicode_segmentation.proofs.SegmentsLemmas.{AllPieces}
use Rattle.unicode_segmentation.specs.Grapheme.{break_by_pair, ends_in_linker, joins_conjunct, is_extend, is_zwj, is_regional}
use Rattle.unicode_segmentation.specs.Grapheme.{ends_in_pictograph, joins_emoji, ends_in_half_flag, joins_flag, is_grapheme_break}
use Rattle.unicode_segmentation.specs.Grapheme.{graphemes}
use Rattle.unicode_width.specs.declared.state.State.{State}
use Rattle.unicode_width.specs.Width.{str_width, read_before, step, past_emoji, plain}
use Rattle.rtui_cell.specs.Width.{is_sound_mark, text_columns, text_width}
use Rattle.rtui_text.specs.Graphemes.{has_control}
use Rattle.rtui_text.specs.Printable.{IsPrintable, ArePrintable, IsPrintableFront, singles}
use Rattle.std.proofs.Math.Bool.{and-false}

-- ---- what the tables say of ASCII

is_other : (b : ℕ) → IsPrintable b → grapheme_cluster_break b ≡ Other
unfolding ucd_breaks
is_other b p =
    let low : nat_le 0x20 b ≡ true = grind (arith, nat_tests, p.low) in
    let below : b < 0x7F = p.high in
    let test = Stepped-below grapheme_cluster_break grapheme_cluster_break_stepped
    (λ x v. not (nat_le 0x20 x) || (grapheme_cluster_break_number v == 12)) 0x7F refl b below in
    grapheme_cluster_break_number_injective _ _ (eqb-true _ _ (rw low at test))

is_no_conjunct : (b : ℕ) → b < 0x80 → indic_conjunct_break b ≡ InCb.None
unfolding ucd_derived
is_no_conjunct b below =
    indic_conjunct_break_number_injective _ _
    (eqb-true _ _ (Stepped-below indic_conjunct_break indic_conjunct_break_stepped (λ x v. indic_conjunct_break_number v == 3)
    0x80 refl b below))

is_no_pictograph : (b : ℕ) → b < 0x80 → not (is_extended_pictographic b) ≡ true
unfolding ucd_emoji
is_no_pictograph b below = Stepped-below is_extended_pictographic is_extended_pictographic_stepped
    (λ x v. not v) 0x80 refl b below

-- ---- the rule looks no further back than a character of ASCII

same_end : (v : IndicConjunctBreak) (us vs : List IndicConjunctBreak) → ends_in_linker us ≡ ends_in_linker vs
    → ends_in_linker (v ∷ us) ≡ ends_in_linker (v ∷ vs)
unfolding ends_in_linker
same_end InCb.Linker us vs e = refl
same_end InCb.Extend us vs e = e
same_end InCb.Consonant us vs e = refl
same_end InCb.None us vs e = refl

ends_in_linker-past : (b : ℕ) → b < 0x80 → (cs : List ℕ)
    → ends_in_linker (map indic_conjunct_break (cs ++ b ∷ [])) ≡ ends_in_linker (map indic_conjunct_break cs)
unfolding ends_in_linker
ends_in_linker-past b below [] = rw (is_no_conjunct b below) refl
ends_in_linker-past b below (c ∷ cs) =
    same_end (indic_conjunct_break c) (map indic_conjunct_break (cs ++ b ∷ [])) (map indic_conjunct_break cs)
    (ends_in_linker-past b below cs)

no_pictograph : (p e : Bool) → not p ≡ true → e ≡ false → (p || (e && false)) ≡ false
no_pictograph true e h k = absurd (false≢true h)
no_pictograph false e h k = rw k refl

-- a character of ASCII is printable, or a control character of these three kinds
abbrev is_ascii_kind : GraphemeClusterBreak → Bool
is_ascii_kind Control = true
is_ascii_kind Cr = true
is_ascii_kind Lf = true
is_ascii_kind Other = true
is_ascii_kind _ = false

is_ascii_kind-of : (b : ℕ) → b < 0x80 → is_ascii_kind (grapheme_cluster_break b) ≡ true
unfolding ucd_breaks
is_ascii_kind-of b below = Stepped-below grapheme_cluster_break grapheme_cluster_break_stepped
    (λ x v. is_ascii_kind v) 0x80 refl b below

-- so what holds of the four kinds holds of its kind
of_ascii : (P : GraphemeClusterBreak → Type 0) → P Control → P Cr → P Lf → P Other → (b : ℕ) → b < 0x80
    → P (grapheme_cluster_break b)
of_ascii P control cr lf other b below = each (grapheme_cluster_break b) (is_ascii_kind-of b below)
  where
    each : (v : GraphemeClusterBreak) → is_ascii_kind v ≡ true → P v
    each Control h = control
    each Cr h = cr
    each Lf h = lf
    each Other h = other
    each _ h = absurd (false≢true h)

no_regional : (b : ℕ) → b < 0x80 → is_regional (grapheme_cluster_break b) ≡ false
no_regional = of_ascii (λ v. is_regional v ≡ false) refl refl refl refl

no_extend : (b : ℕ) → b < 0x80 → is_extend (grapheme_cluster_break b) ≡ false
no_extend = of_ascii (λ v. is_extend v ≡ false) refl refl refl refl

no_joiner : (b : ℕ) → b < 0x80 → is_zwj (grapheme_cluster_break b) ≡ false
no_joiner = of_ascii (λ v. is_zwj v ≡ false) refl refl refl refl

ends_in_pictograph-past : (b : ℕ) → b < 0x80 → (cs : List ℕ) → ends_in_pictograph (cs ++ b ∷ []) ≡ ends_in_pictograph cs
unfolding ends_in_pictograph
ends_in_pictograph-past b below [] =
    no_pictograph (is_extended_pictographic b) (is_extend (grapheme_cluster_break b)) (is_no_pictograph b below)
    (no_extend b below)
ends_in_pictograph-past b below (c ∷ cs) = ap (λ t. is_extended_pictographic c || (is_extend (grapheme_cluster_break c) && t))
    (ends_in_pictograph-past b below cs)

ends_in_half_flag-past : (b : ℕ) → b < 0x80 → (cs : List ℕ) → ends_in_half_flag (cs ++ b ∷ []) ≡ ends_in_half_flag cs
unfolding ends_in_half_flag
ends_in_half_flag-past b below [] = rw (no_regional b below) refl
ends_in_half_flag-past b below (c ∷ cs) = ap (λ t. is_regional (grapheme_cluster_break c) && not t)
    (ends_in_half_flag-past b below cs)

is_break-past : (b : ℕ) → b < 0x80 → (c : ℕ) (cs after : List ℕ)
    → is_grapheme_break true (c ∷ (cs ++ b ∷ [])) after ≡ is_grapheme_break true (c ∷ cs) after
unfolding is_grapheme_break
is_break-past b below c cs [] = refl
is_break-past b below c cs (next ∷ after) =
    let linker = ends_in_linker-past b below (c ∷ cs) in
    let pictograph = ends_in_pictograph-past b below cs in
    let flag = ends_in_half_flag-past b below (c ∷ cs) in
    rw (linker, pictograph, flag) refl

cut-past : (b : ℕ) → b < 0x80 → (before cs after : List ℕ)
    → cut (is_grapheme_break true) (before ++ b ∷ []) cs after ≡ cut (is_grapheme_break true) before cs after
unfolding cut
cut-past b below before [] after = refl
cut-past b below before (c ∷ cs) after = rw (
  is_break-past b below c before (cs ++ after),
  cut-past b below (c ∷ before) cs after,
) refl

-- ---- the place after it is a break

-- no later rule joins two characters of ASCII
abbrev unjoined : ℕ → ℕ → Bool
unjoined b next = not ((true && joins_conjunct (b ∷ []) next) || joins_emoji (b ∷ []) next || joins_flag (b ∷ []) next)

unjoined-ascii : (b next : ℕ) → b < 0x80 → next < 0x80 → unjoined b next ≡ true
unfolding ends_in_linker
unjoined-ascii b next below lower = rw (is_no_conjunct b below, no_joiner b below, no_regional next lower, and-false) refl

breaks_behind : (b : ℕ) → IsPrintable b → (next : ℕ) (after : List ℕ) → next < 0x80
    → is_grapheme_break true (b ∷ []) (next ∷ after) ≡ true
unfolding is_grapheme_break
breaks_behind b p next after lower =
    ap (λ v. unwrap_or (break_by_pair true v (grapheme_cluster_break next)) (unjoined b next)) (is_other b p)
    ∙ of_ascii (λ v. unwrap_or (break_by_pair true Other v) (unjoined b next) ≡ true) refl refl refl
    (unjoined-ascii b next (omega (arith, p.high)) lower) next lower

-- ---- such a character is a grapheme of its own

chars-ascii : (b : ℕ) → b < 0x80 → (rest : List ℕ) → chars (b ∷ rest) ≡ b ∷ chars rest
unfolding chars
chars-ascii b below [] = let t : nat_lt b 128 ≡ true = grind (arith, nat_tests) in rw t refl
chars-ascii b below (c ∷ rest) = let t : nat_lt b 128 ≡ true = grind (arith, nat_tests) in rw t refl

-- a text is empty or begins with a character of ASCII
abbrev pub BeginsWithAscii : List ℕ → Type 0
BeginsWithAscii [] = Unit {0}
BeginsWithAscii (b ∷ bs) = b < 0x80

cut-broken : (b : ℕ) (cs : List ℕ) → b < 0x80 → is_grapheme_break true (b ∷ []) cs ≡ true
    → cut (is_grapheme_break true) [] (b ∷ cs) [] ≡ (b ∷ []) ∷ cut (is_grapheme_break true) [] cs []
unfolding cut
cut-broken b cs below broken = rw (append-nil cs, broken) (ap (λ t. (b ∷ []) ∷ t) (cut-past b below [] cs []))

one_byte : (b : ℕ) → b < 0x80 → encode_utf8_all (b ∷ []) ≡ b ∷ []
one_byte b below = append-nil (encode_utf8 b) ∙ encode_ascii b below

is_broken : (b : ℕ) → IsPrintable b → (rest : List ℕ) → BeginsWithAscii rest → is_grapheme_break true (b ∷ []) (chars rest) ≡ true
unfolding is_grapheme_break chars
is_broken b p [] ascii = refl
is_broken b p (c ∷ rest) ascii = rw (chars-ascii c ascii rest) (breaks_behind b p c (chars rest) ascii)

pub graphemes-printable : (b : ℕ) (rest : List ℕ) → IsPrintable b → BeginsWithAscii rest
    → graphemes true (b ∷ rest) ≡ (b ∷ []) ∷ graphemes true rest
unfolding segments
graphemes-printable b rest p ascii =
    let below : b < 0x80 = omega (arith, p.high) in
    ap (λ cs. map encode_utf8_all (cut (is_grapheme_break true) [] cs [])) (chars-ascii b below rest)
    ∙ ap (map encode_utf8_all) (cut-broken b (chars rest) below (is_broken b p rest ascii))
    ∙ ap (λ g. g ∷ graphemes true rest) (one_byte b below)

-- ---- and so is each of a front of such characters

front-graphemes : (text : List ℕ) (n : ℕ) → n ≤ length text → ((k : ℕ) → k < n → IsPrintable (slice_index text k))
    → BeginsWithAscii (drop n text) ⊎ (n ≡ 0)
    → graphemes true text ≡ singles (take n text) ++ graphemes true (drop n text)
front-graphemes text zero le all behind = refl
front-graphemes [] (suc n) le all behind = absurd (omega arith)
front-graphemes (b ∷ rest) (suc n) le all behind =
    let p : IsPrintable b = all 0 (omega arith) in
    let follows : BeginsWithAscii (drop n rest) = ⊎_elim (λ (a : BeginsWithAscii (drop n rest)). a)
    (λ (z : suc n ≡ 0). absurd (omega arith)) behind in
    graphemes-printable b rest p (begins n rest (omega arith) (λ k lt. all (suc k) (omega arith)) follows)
    ∙ ap (λ t. (b ∷ []) ∷ t) (front-graphemes rest n (omega arith) (λ k lt. all (suc k) (omega arith)) (inl follows))
  where
    begins : (n : ℕ) (rest : List ℕ) → n ≤ length rest → ((k : ℕ) → k < n → IsPrintable (slice_index rest k))
        → BeginsWithAscii (drop n rest) → BeginsWithAscii rest
    begins zero rest le all h = h
    begins (suc n) [] le all h = tt
    begins (suc n) (c ∷ rest) le all h = omega (arith, (all 0 (omega arith)).high)

begins_at : (text : List ℕ) (n : ℕ) → n ≤ length text → (n < length text → slice_index text n < 0x80)
    → BeginsWithAscii (drop n text)
begins_at [] zero le h = tt
begins_at (b ∷ text) zero le h = h (omega arith)
begins_at [] (suc n) le h = absurd (omega arith)
begins_at (b ∷ text) (suc n) le h = begins_at text n (omega arith) (λ lt. h (omega arith))

-- a text may be cut after such a front
pub front-boundary : (text : List ℕ) (n : ℕ) → IsUtf8 text → IsPrintableFront text n → IsCharBoundary text n
front-boundary text zero u h = IsCharBoundary-start text u
front-boundary text (suc n) u h = (h.within, λ lt high. absurd (let low = h.followed (omega arith) lt in omega arith))

pub graphemes-front : (text : List ℕ) (n : ℕ) → IsPrintableFront text n
    → graphemes true text ≡ singles (take n text) ++ graphemes true (drop n text)
graphemes-front text zero h = front-graphemes text 0 h.within h.printable (inr refl)
graphemes-front text (suc n) h = front-graphemes text (suc n) h.within h.printable
    (inl (begins_at text (suc n) h.within (λ lt. h.followed (omega arith) lt)))

-- the longest one, of what was read of the bytes
pub longest-front : (text : List ℕ) (n len max : ℕ) → IsPrintableFront text n → n ≤ max
    → (len < max → len < length text → ¬ (IsPrintable (slice_index text len)))
    → (0 < len → len < length text → slice_index text len < 0x80) → n ≤ len
longest-front text n len max h le stops follows = elim (cases_lt len n) [
  | inl past ↦ absurd (stops (omega arith) (omega (arith, h.within)) (h.printable len past))
  | inr within ↦ within
]

pub longest-front_cut : (text : List ℕ) (n len max : ℕ) → IsPrintableFront text n → n ≤ max
    → (len < max → len < length text → ¬ (IsPrintable (slice_index text len)))
    → 0 < len → len < length text → 0x80 ≤ slice_index text len → n ≤ len - 1
longest-front_cut text n len max h le stops some more high = elim (cases_order n len) [
  | inl is ↦ let low = subst (λ m. 0 < m → m < length text → slice_index text m < 0x80) is h.followed some more in
      absurd (omega arith)
  | inr (inl below) ↦ omega arith
  | inr (inr past) ↦ absurd (stops (omega arith) more (h.printable len past))
]

-- ---- widths

read-printable : (cs : List ℕ) → ArePrintable cs → read_before false cs (0, plain) ≡ (length cs, plain)
unfolding step past_emoji
read-printable [] all = refl
read-printable (c ∷ cs) all =
    let p : IsPrintable c = all 0 (omega arith) in
    let feed : (c == 0x0A) ≡ false = grind (arith, nat_tests, p.low) in
    let back : (c == 0x0D) ≡ false = grind (arith, nat_tests, p.low) in
    let low : nat_le c 0xA0 ≡ true = grind (arith, nat_tests, p.high) in
    ap (step false c) (read-printable cs (λ k lt. all (suc k) (omega arith)))
    ∙ rw (feed, back, low) (ap (λ n. (n, plain)) (add-one (length cs)))

chars-printable : (text : List ℕ) → ArePrintable text → chars text ≡ text
chars-printable [] all = chars-nil
chars-printable (b ∷ text) all =
    chars-ascii b (omega (arith, (all 0 (omega arith)).high)) text ∙ ap (λ t. b ∷ t)
    (chars-printable text (λ k lt. all (suc k) (omega arith)))

pub width-printable : (text : List ℕ) → ArePrintable text → str_width false (chars text) ≡ length text
unfolding str_width
width-printable text all = rw (chars-printable text all) (ap (λ (r : ℕ × State). r.0) (read-printable text all))

-- and some column of a cell
pub wide-printable : (text : List ℕ) → 0 < length text → ArePrintable text → 0 < text_width text
unfolding text_width
wide-printable text some all = rw (width-printable text all) (grind (arith, nat_tests))

no_marks : (cs : List ℕ) → ArePrintable cs → count_by is_sound_mark cs ≡ 0
no_marks [] all = refl
no_marks (c ∷ cs) all =
    let p : IsPrintable c = all 0 (omega arith) in
    let no : is_sound_mark c ≡ false = grind (arith, nat_tests, p.high) in
    rw no (no_marks cs (λ k lt. all (suc k) (omega arith)))

-- a text of such characters takes a column a byte
pub columns-printable : (text : List ℕ) → ArePrintable text → text_columns text ≡ length text
unfolding text_columns
columns-printable text all = rw (width-printable text all, chars-printable text all, no_marks text all) (omega arith)

pub ruleset front_rules = (front-boundary, graphemes-front)

pub ruleset longest_rules = (longest-front, longest-front_cut)

-- a text's columns, as they are defined
pub columns-is : (text : List ℕ) → text_columns text ≡ str_width false (chars text) - count_by is_sound_mark (chars text)
unfolding text_columns
columns-is text = refl

pub ruleset columns_rules = (columns-printable, columns-is)

-- the bytes of a front
pub front-bytes : (text : List ℕ) (n : ℕ) → IsPrintableFront text n → ArePrintable (take n text)
front-bytes text n h k lt = let low : k < n = omega (arith, length-take n text) in
    subst IsPrintable (sym (get_or-take n text k 0 low)) (h.printable k low)

-- such a character is no control character
pub printable-plain : (b : ℕ) → IsPrintable b → has_control (b ∷ []) ≡ false
printable-plain b p =
    let low : nat_lt b 32 ≡ false = grind (arith, nat_tests, p.low) in
    let high : nat_lt b 127 ≡ true = grind (arith, nat_tests, p.high) in
    rw (chars-ascii b (omega (arith, p.high)) [], chars-nil) (grind (arith, nat_tests, p.low, p.high))

-- ---- each grapheme of ASCII is a character, or a carriage return and a line feed

-- the characters are of ASCII
abbrev pub AreAsciiChars : List ℕ → Type 0
AreAsciiChars [] = Unit {0}
AreAsciiChars (c ∷ cs) = (c < 0x80) × AreAsciiChars cs

-- two characters of ASCII break, but for a carriage return before a line feed
ascii-pair : (b next : ℕ) (after : List ℕ) → b < 0x80 → next < 0x80 → (is_grapheme_break true (b ∷ []) (next ∷ after) ≡ true)
    ⊎ (grapheme_cluster_break next ≡ Lf)
unfolding is_grapheme_break
ascii-pair b next after below lower =
    of_ascii (λ l. (unwrap_or (break_by_pair true l (grapheme_cluster_break next)) (unjoined b next) ≡ true)
    ⊎ (grapheme_cluster_break next ≡ Lf))
    (of_ascii (λ r. (unwrap_or (break_by_pair true Control r) (unjoined b next) ≡ true) ⊎ (r ≡ Lf)) (inl refl) (inl refl)
    (inr refl) (inl refl) next lower)
    (of_ascii (λ r. (unwrap_or (break_by_pair true Cr r) (unjoined b next) ≡ true) ⊎ (r ≡ Lf)) (inl refl) (inl refl) (inr refl)
    (inl refl) next lower)
    (of_ascii (λ r. (unwrap_or (break_by_pair true Lf r) (unjoined b next) ≡ true) ⊎ (r ≡ Lf)) (inl refl) (inl refl) (inr refl)
    (inl refl) next lower)
    (of_ascii (λ r. (unwrap_or (break_by_pair true Other r) (unjoined b next) ≡ true) ⊎ (r ≡ Lf)) (inl refl) (inl refl) (inr refl)
    (inl (unjoined-ascii b next below lower)) next lower)
    b below

behind-feed : (b : ℕ) (cs : List ℕ) → grapheme_cluster_break b ≡ Lf → AreAsciiChars cs → is_grapheme_break true (b ∷ []) cs ≡ true
unfolding is_grapheme_break
behind-feed b [] feed low = refl
behind-feed b (c ∷ cs) feed low =
    ap (λ v. unwrap_or (break_by_pair true v (grapheme_cluster_break c)) (unjoined b c)) feed
    ∙ of_ascii (λ r. unwrap_or (break_by_pair true Lf r) (unjoined b c) ≡ true) refl refl refl refl c low.0

cut-none : cut (is_grapheme_break true) [] [] [] ≡ []
unfolding cut
cut-none = refl

-- one or two characters of ASCII
pub record IsAsciiPiece (p : List ℕ) : Type 0 where
  pub some : 0 < length p
  pub few : length p ≤ 2
  pub ascii : AreAsciiChars p

one_piece : (b : ℕ) → b < 0x80 → IsAsciiPiece (b ∷ [])
one_piece b low = record { some = omega arith; few = omega arith; ascii = (low, tt) }

two_piece : (b c : ℕ) → b < 0x80 → c < 0x80 → IsAsciiPiece (b ∷ c ∷ [])
two_piece b c low lower = record { some = omega arith; few = omega arith; ascii = (low, (lower, tt)) }

cut-either : (b : ℕ) (cs : List ℕ) (broken : Bool) → b < 0x80 → is_grapheme_break true (b ∷ []) (cs ++ []) ≡ broken
    → cut (is_grapheme_break true) [] (b ∷ cs) [] ≡ cond broken ((b ∷ []) ∷ cut (is_grapheme_break true) [] cs [])
    (prepend (b ∷ []) (cut (is_grapheme_break true) [] cs []))
unfolding cut
cut-either b cs broken below e = rw (e, cut-past b below [] cs []) refl

either-short : (v : Bool) (b c : ℕ) (ps : List (List ℕ)) → b < 0x80 → c < 0x80 → AllPieces IsAsciiPiece ps
    → AllPieces IsAsciiPiece (cond v ((b ∷ []) ∷ ((c ∷ []) ∷ ps)) (prepend (b ∷ []) ((c ∷ []) ∷ ps)))
either-short true b c ps low lower all = (one_piece b low, (one_piece c lower, all))
either-short false b c ps low lower all = (two_piece b c low lower, all)

end_breaks : (b : ℕ) → is_grapheme_break true (b ∷ []) [] ≡ true
unfolding is_grapheme_break
end_breaks b = refl

pieces-short : (cs : List ℕ) → AreAsciiChars cs → AllPieces IsAsciiPiece (cut (is_grapheme_break true) [] cs [])
pieces-short [] low = let none : cut (is_grapheme_break true) [] [] [] ≡ [] = cut-none in rw none tt
pieces-short (b ∷ []) low =
    let none : cut (is_grapheme_break true) [] [] [] ≡ [] = cut-none in
    rw (cut-broken b [] low.0 (end_breaks b), none) (one_piece b low.0, tt)
pieces-short (b ∷ (c ∷ cs)) low =
    let rest = pieces-short (c ∷ cs) low.1 in
    let behind = pieces-short cs low.1.1 in
    ⊎_elim
    (λ (broken : is_grapheme_break true (b ∷ []) (c ∷ cs) ≡ true). subst (AllPieces IsAsciiPiece)
    (sym (cut-broken b (c ∷ cs) low.0 broken)) (one_piece b low.0, rest))
    (λ (feed : grapheme_cluster_break c ≡ Lf).
    let v : Bool = is_grapheme_break true (b ∷ []) ((c ∷ cs) ++ []) in
    subst (AllPieces IsAsciiPiece)
    (sym (cut-either b (c ∷ cs) v low.0 refl ∙ ap (λ ps. cond v ((b ∷ []) ∷ ps) (prepend (b ∷ []) ps))
    (cut-broken c cs low.1.0 (behind-feed c cs feed low.1.1))))
    (either-short v b c (cut (is_grapheme_break true) [] cs []) low.0 low.1.0 behind))
    (ascii-pair b c cs low.0 low.1.0)

ascii-bytes : (cs : List ℕ) → AreAsciiChars cs → encode_utf8_all cs ≡ cs
ascii-bytes [] low = refl
ascii-bytes (c ∷ cs) low = rw (encode_ascii c low.0) (ap (λ t. c ∷ t) (ascii-bytes cs low.1))

pieces-texts : (ps : List (List ℕ)) → AllPieces IsAsciiPiece ps → All IsAsciiPiece (map encode_utf8_all ps)
pieces-texts [] all = All-nil IsAsciiPiece
pieces-texts (p ∷ ps) all =
    All-cons IsAsciiPiece (encode_utf8_all p) (map encode_utf8_all ps)
    (subst IsAsciiPiece (sym (ascii-bytes p all.0.ascii)) all.0) (pieces-texts ps all.1)

pub are_ascii : (text : List ℕ) → IsAscii text → AreAsciiChars text
are_ascii [] ascii = tt
are_ascii (b ∷ text) ascii = (ascii 0, are_ascii text (λ i. ascii (suc i)))

pub ascii-graphemes : (text : List ℕ) → IsAscii text → All IsAsciiPiece (graphemes true text)
unfolding segments
ascii-graphemes text ascii =
    let read : chars text ≡ text = chars-IsAscii text ascii in
    rw read (pieces-texts (cut (is_grapheme_break true) [] text []) (pieces-short text (are_ascii text ascii)))

-- one without a control character is printable
printable-byte : (b : ℕ) → b < 0x80 → is_control b ≡ false → IsPrintable b
printable-byte b low plain = record { low = grind (arith, nat_tests, plain); high = grind (arith, nat_tests, plain) }

plain-printable : (cs : List ℕ) → AreAsciiChars cs → list_any is_control cs ≡ false → (k : ℕ) → k < length cs
    → IsPrintable (slice_index cs k)
plain-printable [] low plain k lt = absurd (omega arith)
plain-printable (c ∷ cs) low plain zero lt = printable-byte c low.0 (or_parts (is_control c) (list_any is_control cs) plain).0
plain-printable (c ∷ cs) low plain (suc k) lt =
    plain-printable cs low.1 (or_parts (is_control c) (list_any is_control cs) plain).1 k (omega arith)

ascii-chars : (cs : List ℕ) → AreAsciiChars cs → chars cs ≡ cs
ascii-chars [] low = chars-nil
ascii-chars (c ∷ cs) low = chars-ascii c low.0 cs ∙ ap (λ t. c ∷ t) (ascii-chars cs low.1)

pub piece-printable : (g : List ℕ) → AreAsciiChars g → has_control g ≡ false → ArePrintable g
piece-printable g low plain = plain-printable g low (ap (list_any is_control) (sym (ascii-chars g low)) ∙ plain)
