-- Texts of one character, and texts that begin with a name.
use Rattle.std.proofs.Common.{◌≡◌, ℕ, Bool, true, false, length, drop, List, [], ◌∷◌, ◌++◌, None, Some, refl, ap, sym, ◌∙◌}
use Rattle.std.specs.Prelude.{nat_eq, if◌then◌else◌}
use Rattle.std.specs.List.{slice_get, starts_with}
use Rattle.std.specs.Int.RustNames.{bit_or}
use Rattle.std.specs.Str.Pattern.{LacksTextAt}
use Rattle.std.proofs.lemmas.Slice.Eq.{starts_is}
use Rattle.std.proofs.lemmas.Bool.Decides.{Decides-eqb}
use Rattle.std.specs.Str.{IsUtf8, chars}
use lib.Utf8.{encode}
use Rattle.std.proofs.lemmas.Str.{chars_past_char}
use Rattle.ratatui_events.specs.Parsing.{one_of, only_character, stripped}

none-more : (c : ℕ) (l : List ℕ) → None ≡ slice_get l 0 → Some c ≡ one_of (c ∷ l)
none-more c [] e = refl
none-more c (x ∷ l) e = cc

some-more : (c d : ℕ) (l : List ℕ) → Some d ≡ slice_get l 0 → None ≡ one_of (c ∷ l)
some-more c d [] e = cc
some-more c d (x ∷ l) e = refl

-- one character, and no other after it
pub only-one : (bs rest : List ℕ) (c : ℕ) → IsUtf8 bs → bs ≡ encode c ++ rest → None ≡ slice_get (chars rest) 0
    → Some c ≡ only_character bs
only-one bs rest c text e none = none-more c (chars rest) none ∙ ap one_of (sym (chars_past_char bs rest c text e))

-- and with another
pub one-of_more : (bs rest : List ℕ) (c d : ℕ) → IsUtf8 bs → bs ≡ encode c ++ rest → Some d ≡ slice_get (chars rest) 0
    → None ≡ only_character bs
one-of_more bs rest c d text e more = some-more c d (chars rest) more ∙ ap one_of (sym (chars_past_char bs rest c text e))

-- ---- a text that begins with a name

pub begins : (text name rest : List ℕ) → text ≡ name ++ rest → starts_with nat_eq text name ≡ true
begins text name rest e = (starts_is Decides-eqb text name (starts_with nat_eq text name) refl).1 rest e

pub strips-some : (text name rest : List ℕ) (bits bit k : ℕ) → k ≡ length name → text ≡ name ++ drop k text → rest ≡ drop k text
    → (bit_or bits bit, rest) ≡ stripped name bit (bits, text)
strips-some text name rest bits bit k n e r =
    ap (λ (x : List ℕ). (bit_or bits bit, x)) (r ∙ ap (λ (m : ℕ). drop m text) n)
    ∙ sym (ap (λ (b : Bool). let x : ℕ × List ℕ = if b then (bit_or bits bit, drop (length name) text) else (bits, text) in
    x) (begins text name (drop k text) e))

pub differs : (text name : List ℕ) (b : Bool) → starts_with nat_eq text name ≡ b → LacksTextAt name text 0 → b ≡ false
differs text name true e h = absurd (h (drop (length name) text)
    ((starts_is Decides-eqb text name (starts_with nat_eq text name) refl).0 e))
differs text name false e h = refl

pub strips-none : (text name : List ℕ) (bits bit : ℕ) → LacksTextAt name text 0 → (bits, text) ≡ stripped name bit (bits, text)
strips-none text name bits bit h =
    sym (ap (λ (b : Bool). let x : ℕ × List ℕ = if b then (bit_or bits bit, drop (length name) text) else (bits, text) in x)
    (differs text name (starts_with nat_eq text name) refl h))
