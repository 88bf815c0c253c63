-- How many events a read tells.
use Rattle.std.proofs.Common.{◌≡◌, ℕ, ◌*◌, ◌≤◌, ◌==◌, Bool, true, false, List, [], ◌∷◌, length, refl, arith}
use Rattle.std.specs.Prelude.{nat_lt}
use Rattle.std.proofs.Common.{length-append}
use Rattle.ratatui_input.specs.declared.decoder.Decoder.{Decoder}
use Rattle.ratatui_input.specs.declared.decoder.State.{State}
use Rattle.ratatui_input.specs.declared.decoder.State.TheVariants.{Ground, Escape, Single, Bracket, Function, Numbers, Click}
use Rattle.ratatui_input.specs.declared.decoder.State.TheVariants.{ClickButton, ClickColumn, Character, Opened, Text, TextEscape}
use Rattle.ratatui_input.specs.Decoding.{byte_told, decoded, settled, settled_single, settled_text}
use Rattle.ratatui_input.proofs.DecodingLemmas.{fed-two}
use Rattle.ratatui_reads.specs.Reads.{told_by}

decoded-count : (d : Decoder) (bytes : List ℕ) → length (decoded d bytes).0 ≤ 2 * length bytes
unfolding decoded
decoded-count d [] = omega arith
decoded-count d (b ∷ bytes) =
    let one = fed-two d b in
    let others = decoded-count (byte_told d b).1 bytes in
    let both = length-append (byte_told d b).0 (decoded (byte_told d b).1 bytes).0 in
    omega (arith, one, others, both)

single-count : (b : Bool) (number : ℕ) (d : Decoder) → (number == 0) ≡ b → length (settled_single number d).0 ≤ 1
single-count true number d is = rw is (omega arith)
single-count false number d is = rw is (omega arith)

text-count : (b : Bool) (has_bell : Bool) (ticks : ℕ) (d : Decoder) → nat_lt ticks 9 ≡ b
    → length (settled_text has_bell ticks d).0 ≤ 1
text-count true has_bell ticks d is = rw is (omega arith)
text-count false has_bell ticks d is = rw is (omega arith)

settled-count : (s : State) (d : Decoder) → length (settled s d).0 ≤ 1
unfolding settled
settled-count Ground d = omega arith
settled-count Escape d = omega arith
settled-count (Single n) d = single-count (n == 0) n d refl
settled-count Bracket d = omega arith
settled-count Function d = omega arith
settled-count (Numbers s) d = omega arith
settled-count Click d = omega arith
settled-count (ClickButton b) d = omega arith
settled-count (ClickColumn b c) d = omega arith
settled-count (Character q) d = omega arith
settled-count (Opened o) d = omega arith
settled-count (Text has_bell n) d = text-count (nat_lt n 9) has_bell n d refl
settled-count TextEscape d = omega arith

-- a read of bytes, and one that gave nothing
pub some_count : (d : Decoder) (b : ℕ) (bytes : List ℕ) → length (told_by d (b ∷ bytes)).0 ≤ 2 * length (b ∷ bytes)
some_count d b bytes = decoded-count d (b ∷ bytes)

pub none_count : (d : Decoder) → length (told_by d []).0 ≤ 1
none_count d = settled-count d.state d

-- what a read of so many bytes tells at most
pub room-count : (d : Decoder) (bytes : List ℕ) → length bytes ≤ 1024 → length (told_by d bytes).0 ≤ 2048
room-count d [] few = let one = none_count d in omega (arith, one)
room-count d (b ∷ bytes) few = let all = some_count d b bytes in omega (arith, all, few)
