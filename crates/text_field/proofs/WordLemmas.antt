-- Words at the start and at the end of a text.
use Rattle.std.proofs.Common.{ℕ, ◌≡◌, ◌+◌, ◌<◌, ◌≤◌, Bool, true, false, not, ◌==◌, List, length, take, drop, get_or}
use Rattle.std.proofs.Common.{reverse, sym, ap, arith}
use Rattle.text_field.specs.Reach.{is_blank, blanks_len, solid_len, word_len}
use Rattle.text_field.proofs.ListLemmas.{run_len-step, run_len-stop, run_len-end, back_len-step, back_len-stop, drop-reverse}

pub is_blank-yes : (b : ℕ) → b ≡ 32 → is_blank b ≡ true
is_blank-yes b is = ap (λ x. x == 32) is

abbrev pub is_solid : ℕ → Bool
is_solid b = not (is_blank b)

pub is_solid-no : (b : ℕ) → b ≡ 32 → is_solid b ≡ false
is_solid-no b is = ap not (is_blank-yes b is)

-- one more blank, one more byte of a word
pub blanks-step : (xs : List ℕ) (i : ℕ) → i < length xs → get_or xs i 0 ≡ 32
    → blanks_len (drop i xs) ≡ blanks_len (drop (i + 1) xs) + 1
blanks-step xs i lt is = run_len-step is_blank xs i lt (is_blank-yes _ is)

pub blanks-stop : (xs : List ℕ) (i : ℕ) → i < length xs → is_blank (get_or xs i 0) ≡ false → blanks_len (drop i xs) ≡ 0
blanks-stop xs i lt fails = run_len-stop is_blank xs i lt fails

pub blanks-end : (xs : List ℕ) (i : ℕ) → length xs ≤ i → blanks_len (drop i xs) ≡ 0
blanks-end xs i le = run_len-end is_blank xs i le

pub solid-step : (xs : List ℕ) (i : ℕ) → i < length xs → is_solid (get_or xs i 0) ≡ true
    → solid_len (drop i xs) ≡ solid_len (drop (i + 1) xs) + 1
solid-step xs i lt holds = run_len-step is_solid xs i lt holds

pub solid-stop : (xs : List ℕ) (i : ℕ) → i < length xs → get_or xs i 0 ≡ 32 → solid_len (drop i xs) ≡ 0
solid-stop xs i lt is = run_len-stop is_solid xs i lt (is_solid-no _ is)

pub solid-end : (xs : List ℕ) (i : ℕ) → length xs ≤ i → solid_len (drop i xs) ≡ 0
solid-end xs i le = run_len-end is_solid xs i le

-- the same from the end
pub last_blanks-step : (xs : List ℕ) (i : ℕ) → i < length xs → get_or xs i 0 ≡ 32
    → blanks_len (reverse (take (i + 1) xs)) ≡ blanks_len (reverse (take i xs)) + 1
last_blanks-step xs i lt is = back_len-step is_blank xs i lt (is_blank-yes _ is)

pub last_blanks-stop : (xs : List ℕ) (i : ℕ) → i < length xs → is_blank (get_or xs i 0) ≡ false
    → blanks_len (reverse (take (i + 1) xs)) ≡ 0
last_blanks-stop xs i lt fails = back_len-stop is_blank xs i lt fails

pub last_solid-step : (xs : List ℕ) (i : ℕ) → i < length xs → is_solid (get_or xs i 0) ≡ true
    → solid_len (reverse (take (i + 1) xs)) ≡ solid_len (reverse (take i xs)) + 1
last_solid-step xs i lt holds = back_len-step is_solid xs i lt holds

pub last_solid-stop : (xs : List ℕ) (i : ℕ) → i < length xs → get_or xs i 0 ≡ 32
    → solid_len (reverse (take (i + 1) xs)) ≡ 0
last_solid-stop xs i lt is = back_len-stop is_solid xs i lt (is_solid-no _ is)

-- what is after the blanks of a text that is read from its end
pub word-behind : (xs : List ℕ) (start : ℕ) → start ≤ length xs → length xs ≡ blanks_len (reverse xs) + start
    → solid_len (reverse (take start xs)) + length xs ≡ word_len (reverse xs) + start
word-behind xs start le is =
    let behind : solid_len (drop (blanks_len (reverse xs)) (reverse xs)) ≡ solid_len (reverse (take start xs)) =
    ap solid_len (drop-reverse xs (blanks_len (reverse xs)) start (sym is)) in
    omega (arith, is, behind)

pub ruleset front_rules = (blanks-step, blanks-stop, blanks-end, solid-step, solid-stop, solid-end)

pub ruleset back_rules = (last_blanks-step, last_blanks-stop, last_solid-step, last_solid-stop, word-behind)
