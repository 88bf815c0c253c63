-- What equal cells have in common, and what the empty cell is.
use Rattle.std.proofs.Common.{◌≡◌, ℕ, Bool, true, false, ◌&&◌, ◌==◌, length, nat_eq, refl, sym, ap, ◌∙◌, if◌then◌else◌}
use Rattle.std.proofs.lemmas.{Bool.false≢true, Bool.and_parts, Bool.and_from, Bool.Decides.Decides-eqb, Slice.Eq.bytes_eq-Decides}
use Rattle.std.specs.{Int.NonZero.non_zero_u16_get, declared.num.NonZeroU16.NonZeroU16, Str.bytes_eq, Cmp.Lexicographic.pointwise}
use Rattle.std.specs.{Cmp.Lexicographic.same_text}
use Rattle.std.specs.contracts.num.NonZeroU16 as nonzero
use Rattle.rtui_style.specs.{declared.color.Color.Color, contracts.color.ColorEq.TheImpl.Laws.laws-law as color_laws}
use Rattle.rtui_style.specs.contracts.color.Color as color
use Rattle.rtui_style.specs.contracts.color.ColorPartialEq.TheImpl as color_equality
use Rattle.rtui_style.specs.{contracts.ModifierEq.TheImpl.Laws.laws-law as modifier_laws, Modifier.modifier_of, Modifier.bits_of}
use Rattle.rtui_style.specs.{declared.Modifier.Modifier}
use Rattle.rtui_style.specs.contracts.ModifierPartialEq.TheImpl as modifier_equality
use Rattle.std.specs.contracts.prelude.BoolPartialEq.TheImpl as flag_equality
use Rattle.rtui_cell.specs.{declared.cell.Cell.Cell, declared.cell.CellDiffOption.CellDiffOption, Symbol.symbol_text}
use Rattle.rtui_cell.specs.{Width.text_width}
use Rattle.rtui_cell.specs.declared.cell.CellDiffOption.TheVariants as DiffOption
use Rattle.rtui_cell.specs.contracts.cell.CellDiffOption as option
use Rattle.rtui_cell.specs.contracts.cell.CellDiffOptionPartialEq.TheImpl as option_equality
use Rattle.rtui_cell.specs.{Look.look_of, Look.empty_look, contracts.cell.CellDiffOptionEq.TheImpl.Laws.laws-law as option_laws}
use Rattle.rtui_cell.specs.Cell.{empty_cell, width_by, width_of, is_skipped, has_no_option, is_single_byte}
use Rattle.rtui_cell.specs.Equality.{is_same, is_same_symbol, IsEqual}
use Rattle.rtui_cell.proofs.DerivedLemmas.{same_value}

no_field : (a b : Unit {0}) → true ≡ true → a ≡ b
no_field a b e = refl

pub same_number : (a b : ℕ) → nat_eq a b ≡ true → a ≡ b
same_number a b e = (Decides-eqb a b).0 e

same_index : (a b : ℕ × Unit {0}) → nat_eq a.0 b.0 ≡ true → a ≡ b
same_index a b e = ap (λ n. (n, tt)) (same_number a.0 b.0 e)

same_channels : (a b : ℕ × (ℕ × (ℕ × Unit {0}))) → (nat_eq a.0 b.0 && (nat_eq a.1.0 b.1.0 && nat_eq a.1.1.0 b.1.1.0)) ≡ true
    → a ≡ b
same_channels a b e =
    let outer = and_parts (nat_eq a.0 b.0) (nat_eq a.1.0 b.1.0 && nat_eq a.1.1.0 b.1.1.0) e in
    let inner = and_parts (nat_eq a.1.0 b.1.0) (nat_eq a.1.1.0 b.1.1.0) outer.1 in
    let first = same_number a.0 b.0 outer.0 in
    let second = same_number a.1.0 b.1.0 inner.0 in
    let third = same_number a.1.1.0 b.1.1.0 inner.1 in
    rw (first, second, third) refl

same_width_given : (a b : NonZeroU16 × Unit {0}) → nat_eq (non_zero_u16_get a.0) (non_zero_u16_get b.0) ≡ true → a ≡ b
same_width_given a b e = ap (λ n. (n, tt))
    (nonzero.the_field.into_one a.0 b.0 (ap (λ n. (n, tt)) (same_number a.0.value b.0.value e)))

pub same_color : (a b : Color) → color_equality.eq-value.it a b ≡ true → a ≡ b
same_color =
    let n = no_field in
    same_value color.enum _
    (n, (n, (n, (n, (n, (n, (n, (n, (n, (n, (n, (n, (n, (n, (n, (n, (n, (same_channels, (same_index, tt)))))))))))))))))))

pub same_modifier : (a b : Modifier) → modifier_equality.eq-value.it a b ≡ true → a ≡ b
same_modifier a b e = ap modifier_of (same_number (bits_of a) (bits_of b) e)

same_option : (a b : CellDiffOption) → option_equality.eq-value.it a b ≡ true → a ≡ b
same_option =
    let n = no_field in
    same_value option.enum _ (n, (n, (n, (same_width_given, tt))))

-- the parts of an equality
pub record HasSameParts (a b : Cell) : Type 0 where
  pub fg : a.fg ≡ b.fg
  pub bg : a.bg ≡ b.bg
  pub underline_color : a.underline_color ≡ b.underline_color
  pub modifier : a.modifier ≡ b.modifier
  pub option : a.diff_option ≡ b.diff_option
  pub skip : a.skip ≡ b.skip
  pub symbol : symbol_text a.symbol ≡ symbol_text b.symbol

-- seven tests that hold together
all_seven : (a b c d e f g : Bool) → (a && (b && (c && (d && (e && (f && g)))))) ≡ true
    → (a ≡ true) × (b ≡ true) × (c ≡ true) × (d ≡ true) × (e ≡ true) × (f ≡ true) × (g ≡ true)
all_seven a b c d e f g h =
    let p = and_parts a (b && (c && (d && (e && (f && g))))) h in
    let q = and_parts b (c && (d && (e && (f && g)))) p.1 in
    let r = and_parts c (d && (e && (f && g))) q.1 in
    let s = and_parts d (e && (f && g)) r.1 in
    let t = and_parts e (f && g) s.1 in
    let u = and_parts f g t.1 in
    (p.0, q.0, r.0, s.0, t.0, u.0, u.1)

same_flag : (a b : Bool) → flag_equality.eq-value.it a b ≡ true → a ≡ b
same_flag true true e = refl
same_flag true false e = absurd (false≢true e)
same_flag false true e = absurd (false≢true e)
same_flag false false e = refl

same_parts : (a b : Cell) → is_same a b ≡ true → HasSameParts a b
unfolding is_same
same_parts a b e =
    let h = all_seven (color_equality.eq-value.it a.fg b.fg) (color_equality.eq-value.it a.bg b.bg)
    (color_equality.eq-value.it a.underline_color b.underline_color) (modifier_equality.eq-value.it a.modifier b.modifier)
    (option_equality.eq-value.it a.diff_option b.diff_option) (flag_equality.eq-value.it a.skip b.skip)
    (pointwise nat_eq (symbol_text a.symbol) (symbol_text b.symbol)) e in
    record {
      fg = same_color _ _ h.0;
      bg = same_color _ _ h.1;
      underline_color = same_color _ _ h.2;
      modifier = same_modifier _ _ h.3;
      option = same_option _ _ h.4;
      skip = same_flag _ _ h.5;
      symbol = same_text _ _ (sym h.6);
    }

pub same_meaning : (a b : Cell) → is_same a b ≡ true → IsEqual a b
unfolding look_of
same_meaning a b e =
    let h = same_parts a b e in
    record { look = rw (h.fg, h.bg, h.underline_color, h.modifier, h.symbol) refl; option = h.option; flag = h.skip }

-- a test that is true of each value and itself is true of equal values
true_along : {A : Type 0} (E : A → A → Bool) → ((x : A) → E x x ≡ true) → (x y : A) → x ≡ y → E x y ≡ true
true_along E same x y e = rw (← e) (same x)

same_as_itself : (b : Bool) → flag_equality.eq-value.it b b ≡ true
same_as_itself true = refl
same_as_itself false = refl

pub equal_parts : (a b : Cell) → IsEqual a b → is_same a b ≡ true
unfolding is_same look_of
equal_parts a b h =
    and_from _ _ (true_along color_equality.eq-value.it color_laws.refl a.fg b.fg (ap (λ l. l.fg) h.look))
    (and_from _ _ (true_along color_equality.eq-value.it color_laws.refl a.bg b.bg (ap (λ l. l.bg) h.look))
    (and_from _ _ (true_along color_equality.eq-value.it color_laws.refl a.underline_color b.underline_color
    (ap (λ l. l.underline_color) h.look))
    (and_from _ _ (true_along modifier_equality.eq-value.it modifier_laws.refl a.modifier b.modifier
    (ap (λ l. l.modifier) h.look))
    (and_from _ _ (true_along option_equality.eq-value.it option_laws.refl a.diff_option b.diff_option h.option)
    (and_from _ _ (true_along flag_equality.eq-value.it same_as_itself a.skip b.skip h.flag)
    ((bytes_eq-Decides (symbol_text a.symbol) (symbol_text b.symbol)).1 (ap (λ l. l.symbol) h.look)))))))

-- cells that differ in colours and modifiers alone
pub same_but_paint : (x y c : Cell) → x.fg ≡ y.fg → x.bg ≡ y.bg → x.underline_color ≡ y.underline_color → x.modifier ≡ y.modifier
    → record c { fg = x.fg; bg = x.bg; underline_color = x.underline_color; modifier = x.modifier }
    ≡ record c { fg = y.fg; bg = y.bg; underline_color = y.underline_color; modifier = y.modifier }
same_but_paint x y c f b u m = rw (f, b, u, m) refl

pub same_look : (a b : Cell) → is_same a b ≡ true → look_of a ≡ look_of b
unfolding look_of
same_look a b e = let h = same_parts a b e in rw (h.fg, h.bg, h.underline_color, h.modifier, h.symbol) refl

pub same_width : (a b : Cell) → is_same a b ≡ true → width_of a ≡ width_of b
unfolding width_of
same_width a b e = let h = same_parts a b e in rw (h.option, h.symbol) refl

pub same_skipped : (a b : Cell) → is_same a b ≡ true → is_skipped a ≡ is_skipped b
unfolding is_skipped
same_skipped a b e = let h = same_parts a b e in rw (h.option, h.skip) refl

pub same_symbol : (a b : Cell) → is_same a b ≡ true → is_same_symbol a b ≡ true
unfolding is_same_symbol
same_symbol a b e = let h = same_parts a b e in (bytes_eq-Decides _ _).1 h.symbol

pub symbol_beside : (a b c : Cell) → is_same b c ≡ true → is_same_symbol a b ≡ is_same_symbol a c
unfolding is_same_symbol
symbol_beside a b c e = let h = same_parts b c e in ap (λ text. bytes_eq (symbol_text a.symbol) text) h.symbol

pub look-empty : look_of empty_cell ≡ empty_look
unfolding look_of
look-empty = refl

pub width-empty : width_of empty_cell ≡ 1
unfolding width_of text_width
width-empty = refl

pub same-empty : is_same empty_cell empty_cell ≡ true
unfolding is_same
same-empty = refl

plain_width : (o : CellDiffOption) (n : ℕ) → has_no_option o ≡ true → width_by o n ≡ n
plain_width DiffOption.None n e = refl
plain_width DiffOption.Skip n e = absurd (false≢true e)
plain_width DiffOption.AlwaysUpdate n e = absurd (false≢true e)
plain_width (DiffOption.ForcedWidth forced) n e = absurd (false≢true e)

one_byte_width : (one : Bool) (n : ℕ) → one ≡ true → (if one then 1 else n) ≡ 1
one_byte_width true n e = refl
one_byte_width false n e = absurd (false≢true e)

-- a cell of a single byte takes one column
pub single_byte_width : (c : Cell) → is_single_byte c ≡ true → width_of c ≡ 1
unfolding is_single_byte width_of text_width
single_byte_width c e =
    let h = and_parts (has_no_option c.diff_option) (length (symbol_text c.symbol) == 1) e in
    plain_width c.diff_option (text_width (symbol_text c.symbol)) h.0 ∙ one_byte_width (length (symbol_text c.symbol) == 1) _ h.1

-- and has no option
pub single_byte_option : (c : Cell) → is_single_byte c ≡ true → has_no_option c.diff_option ≡ true
unfolding is_single_byte
single_byte_option c e = (and_parts (has_no_option c.diff_option) _ e).0
