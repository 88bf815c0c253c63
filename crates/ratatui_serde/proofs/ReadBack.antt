-- What is written of a set of flags is read as it.
use Rattle.std.proofs.Common.{◌≡◌, ℕ, ◌<◌, ◌≤◌, ◌==◌, Bool, true, false, eqb, Result, Ok, Err}
use Rattle.std.proofs.Common.{refl, ap, arith}
use Rattle.std.specs.{Fmt.digits, Int.RustNames.bit_and}
use Rattle.std.proofs.lemmas.Bool.{agree_below, agree_below_at, eqb-true}
use Rattle.std.proofs.lemmas.Nat.{and_le_l}
use Rattle.bitflags.proofs.OnLiterals.{bitflags_on_literals}
use Rattle.bitflags.specs.Text.{flag_piece, read_text}
use Rattle.bitflags.specs.declared.parser.ParseError.{ParseError}
use Rattle.widget_boxes.specs.Borders.{border_table}
use Rattle.rtui_style.specs.Modifier.{modifier_table, modifier_sets}
use Rattle.ratatui_serde.specs.Flags.{flags_text, ReadsFlags}

reads-as : ℕ → Result ℕ ParseError → Bool
reads-as n (Ok m) = eqb m n
reads-as n (Err e) = false

from-reads-as : (n : ℕ) (r : Result ℕ ParseError) → reads-as n r ≡ true → r ≡ Ok n
unfolding reads-as
from-reads-as n (Ok m) h = ap Ok (eqb-true m n h)
from-reads-as n (Err e) h = absurd (cc)

modifiers-read : ℕ → Bool
modifiers-read n = reads-as n (read_text (flag_piece modifier_table 16) (flags_text 16 modifier_table n))

all-modifiers-read : agree_below modifiers-read (λ _. true) modifier_sets ≡ true
unfolding modifiers-read reads-as bitflags_on_literals digits
all-modifiers-read = refl

pub modifiers-read-back : (n : ℕ) → n < modifier_sets → ReadsFlags 16 modifier_table n (flags_text 16 modifier_table n)
unfolding modifiers-read
modifiers-read-back n lt =
    from-reads-as n _ (agree_below_at modifiers-read (λ _. true) modifier_sets n all-modifiers-read lt)

sides-read : ℕ → Bool
sides-read n = reads-as n (read_text (flag_piece border_table 8) (flags_text 8 border_table n))

all-sides-read : agree_below sides-read (λ _. true) 16 ≡ true
unfolding sides-read reads-as bitflags_on_literals digits
all-sides-read = refl

pub sides-read-back : (n : ℕ) → n < 16 → ReadsFlags 8 border_table n (flags_text 8 border_table n)
unfolding sides-read
sides-read-back n lt = from-reads-as n _ (agree_below_at sides-read (λ _. true) 16 n all-sides-read lt)

-- what a set has beside another is no more than that one
pub no-more : (a b : ℕ) → (bit_and a b == b) ≡ true → b ≤ a
no-more a b h =
    let same : bit_and a b ≡ b = eqb-true (bit_and a b) b h in
    omega (arith, and_le_l a b, same)
