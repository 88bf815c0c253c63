-- When two cells are the same, by what is compared first.
use Rattle.std.proofs.Common.{◌≡◌, ℕ, Bool, true, false, ◌&&◌, ◌==◌, List, [], ◌∷◌, length, nat_eq, refl, sym, ap, ◌∙◌, arith}
use Rattle.std.proofs.lemmas.Bool.{false≢true, and_parts}
use Rattle.std.proofs.lemmas.Bool.Decides.{Decides-eqb}
use Rattle.std.specs.Str.{bytes_eq}
use Rattle.std.specs.Prelude.{slice_index_or}
use Rattle.std.proofs.Math.Bool.{and-true, and-false}
use Rattle.rtui_cell.specs.{declared.cell.Cell.Cell, declared.cell.CellDiffOption.CellDiffOption, Symbol.symbol_text}
use Rattle.rtui_cell.specs.declared.cell.CellDiffOption.TheVariants as DiffOption
use Rattle.std.specs.contracts.prelude.BoolPartialEq.TheImpl as flag_equality
use Rattle.rtui_style.specs.contracts.color.ColorPartialEq.TheImpl as color_equality
use Rattle.rtui_style.specs.contracts.ModifierPartialEq.TheImpl as modifier_equality
use Rattle.rtui_cell.specs.contracts.cell.CellDiffOptionPartialEq.TheImpl as option_equality
use Rattle.rtui_cell.specs.{Cell.is_single_byte, Cell.has_no_option, Equality.is_same, Equality.is_same_symbol}
use Rattle.rtui_cell.proofs.CellLemmas.{single_byte_option}
use Rattle.rtui_diff.specs.Inner.{has_same_style}

-- seven tests, in another order
reordered : (f b u m o s t : Bool)
    → (t && ((f && (b && (u && (m && s)))) && o)) ≡ (f && (b && (u && (m && (o && (s && t))))))
reordered false b u m o s false = refl
reordered false b u m o s true = refl
reordered true false u m o s false = refl
reordered true false u m o s true = refl
reordered true true false m o s false = refl
reordered true true false m o s true = refl
reordered true true true false o s false = refl
reordered true true true false o s true = refl
reordered true true true true false false false = refl
reordered true true true true false true false = refl
reordered true true true true false false true = refl
reordered true true true true false true true = refl
reordered true true true true true false false = refl
reordered true true true true true false true = refl
reordered true true true true true true false = refl
reordered true true true true true true true = refl

-- the symbols are compared first, and the options last
pub same_by_symbol : (a b : Cell)
    → (is_same_symbol a b && (has_same_style a b && option_equality.eq-value.it a.diff_option b.diff_option)) ≡ is_same a b
unfolding is_same is_same_symbol has_same_style
same_by_symbol a b = reordered (color_equality.eq-value.it a.fg b.fg) (color_equality.eq-value.it a.bg b.bg)
    (color_equality.eq-value.it a.underline_color b.underline_color) (modifier_equality.eq-value.it a.modifier b.modifier)
    (option_equality.eq-value.it a.diff_option b.diff_option) (flag_equality.eq-value.it a.skip b.skip)
    (bytes_eq (symbol_text a.symbol) (symbol_text b.symbol))

-- two texts of a byte each are the same if the bytes are
one_byte : (xs ys : List ℕ) → length xs ≡ 1 → length ys ≡ 1
    → nat_eq (slice_index_or xs 0 0) (slice_index_or ys 0 0) ≡ bytes_eq xs ys
one_byte (x ∷ []) (y ∷ []) a b = sym (and-true (nat_eq x y))
one_byte [] ys a b = absurd (omega arith)
one_byte (x ∷ []) [] a b = absurd (omega arith)
one_byte (x ∷ []) (y ∷ (z ∷ zs)) a b = absurd (omega arith)
one_byte (x ∷ (y ∷ xs)) ys a b = absurd (omega arith)

-- cells without an option have the same one
same_none : (a b : CellDiffOption) → has_no_option a ≡ true → has_no_option b ≡ true
    → option_equality.eq-value.it a b ≡ true
same_none DiffOption.None DiffOption.None a b = refl
same_none DiffOption.None DiffOption.Skip a b = absurd (false≢true b)
same_none DiffOption.None DiffOption.AlwaysUpdate a b = absurd (false≢true b)
same_none DiffOption.None (DiffOption.ForcedWidth _) a b = absurd (false≢true b)
same_none DiffOption.Skip b' a b = absurd (false≢true a)
same_none DiffOption.AlwaysUpdate b' a b = absurd (false≢true a)
same_none (DiffOption.ForcedWidth _) b' a b = absurd (false≢true a)

pub byte_there : (c : Cell) (bytes : List ℕ) → is_single_byte c ≡ true → bytes ≡ symbol_text c.symbol → length bytes ≡ 1
unfolding is_single_byte
byte_there c bytes single text =
    let p = and_parts (has_no_option c.diff_option) (length (symbol_text c.symbol) == 1) single in
    rw text ((Decides-eqb _ _).0 p.1)

-- of two cells of a byte each only that and the style is compared
pub same_by_byte : (a b : Cell) (xs ys : List ℕ) → is_single_byte a ≡ true → is_single_byte b ≡ true → xs ≡ symbol_text a.symbol
    → ys ≡ symbol_text b.symbol
    → (nat_eq (slice_index_or xs 0 0) (slice_index_or ys 0 0) && has_same_style a b) ≡ is_same a b
unfolding is_same_symbol
same_by_byte a b xs ys single other text_a text_b =
    let text = one_byte xs ys (byte_there a xs single text_a) (byte_there b ys other text_b) in
    let option = same_none a.diff_option b.diff_option (single_byte_option a single) (single_byte_option b other) in
    rw (text, text_a, text_b) (ap (λ t. bytes_eq (symbol_text a.symbol) (symbol_text b.symbol) && t)
    (sym (rw option (and-true (has_same_style a b)))) ∙ same_by_symbol a b)

-- a test that fails decides
pub untrue : (b s r : Bool) → (b && s) ≡ r → (b ≡ true → ⊥) → b ≡ r
untrue true s r e f = absurd (f refl)
untrue false s r e f = e

-- what the three tests say, one after the other
pub same_symbols : (a b : Cell) (t s o : Bool) → t ≡ is_same_symbol a b → t ≡ true → s ≡ has_same_style a b → s ≡ true
    → o ≡ option_equality.eq-value.it a.diff_option b.diff_option → o ≡ is_same a b
same_symbols a b t s o is same style holds option =
    let lhs = same_by_symbol a b in
    option ∙ rw (← is, same, ← style, holds) at lhs

pub other_style : (a b : Cell) (s : Bool) → s ≡ has_same_style a b → s ≡ false → false ≡ is_same a b
other_style a b s style fails =
    let lhs = same_by_symbol a b in
    sym (and-false (is_same_symbol a b)) ∙ rw (← style, fails) at lhs

pub other_symbol : (a b : Cell) (t : Bool) → t ≡ is_same_symbol a b → t ≡ false → false ≡ is_same a b
other_symbol a b t is fails = let lhs = same_by_symbol a b in rw (← is, fails) at lhs
