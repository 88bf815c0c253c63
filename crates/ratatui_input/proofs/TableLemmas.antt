-- Each key of the protocols' tables is told by its letter, its number or its code point.
use Rattle.std.proofs.Common.{◌≡◌, ◌⊎◌, inl, ℕ, ◌≤◌, ◌<◌, ◌^◌, ◌+◌, ◌-◌, ◌*◌, ◌/◌, ◌==◌, ◌&&◌, ◌||◌, Bool, true, false}
use Rattle.std.proofs.Common.{Option, Some, None, List, [], ◌∷◌, refl, ap, ◌∙◌, arith}
use Rattle.std.proofs.lemmas.Grind.{common_steps}
use Rattle.std.proofs.lemmas.Bool.Decides.{nat_tests}
use Rattle.std.specs.Prelude.{nat_le, nat_lt, find, if◌then◌else◌, not}
use Rattle.ratatui_events.specs.declared.event.Event.TheVariants.{PasteBegun, PasteEnded}
use lib.Utf8.{scalar_cases, scalar_fits}
use Rattle.std.specs.List.{list_all}
use Rattle.std.specs.Option.{option_map}
use Rattle.std.specs.Char.{IsScalar, is_control}
use Rattle.ratatui_events.specs.declared.key.KeyCode.TheVariants.{Char, Up, Down, Right, Left, KeypadBegin, End, Home, F, BackTab}
use Rattle.ratatui_input.specs.declared.keys.TheConstants.{CODES, KEYPAD}
use Rattle.ratatui_events.specs.declared.key.KeyCode.{KeyCode}
use Rattle.ratatui_input.specs.declared.sequence.Sequence.{Sequence}
use Rattle.ratatui_input.specs.declared.sequence.Source.{Source}
use Rattle.ratatui_input.specs.declared.sequence.Source.TheVariants.{Keys}
use Rattle.ratatui_input.specs.Keys.{key_at, number_key, code_key, keypad_key, name_key, named_key, pad_key}
use Rattle.ratatui_input.specs.Sequences.{sequence_event, keys_event, letter_event, tilde_event, single_event, letter_code_event}
use Rattle.ratatui_input.specs.Sequences.{key_event, kind_of, with_shift, position_event, number_key_event, code_key_event}
use Rattle.ratatui_input.specs.Grammar.{key_told, letter_told}
use Rattle.ratatui_input.specs.KeyTables.{IsEntry, IsLetter, IsTilde, IsCode, code_named, code_keypad, code_character}
use Rattle.ratatui_input.specs.KeyTables.{letter_keys, tilde_keys, named_keys, keypad_keys}
use Rattle.ratatui_input.proofs.EntryLemmas.{both, AllAre, entries-are, numbers-pass, nothing-at, has_no, entry-found, ◌▸◌}

-- a sequence's numbers
abbrev pub seq : Source → ℕ → ℕ → ℕ → ℕ → ℕ → ℕ → Sequence
seq source numbers parts first second third kind =
    record { source = source; numbers = numbers; parts = parts; first = first; second = second; third = third; kind = kind }

-- a letter, after what numbers there are
no-report : (c n : ℕ) → (c ≡ 1 → n ≡ 1) → ((c == 1) && (if n == 1 then false else true)) ≡ false
no-report c n h = grind (arith, nat_tests)

abbrev SaysKey : ℕ → KeyCode → Type 0
SaysKey b code = (c p n m t k : ℕ) → (b ≡ 82 → c ≡ 1 → n ≡ 1)
    → sequence_event (seq Keys c p n m t k) b ≡ letter_code_event (Some code) k (if c == 0 then n else m)

letters-say : AllAre SaysKey letter_keys
unfolding letter_keys sequence_event keys_event letter_event key_at
letters-say =
    (λ c p n m t k h. refl) ▸ (λ c p n m t k h. refl) ▸ (λ c p n m t k h. refl) ▸ (λ c p n m t k h. refl) ▸
    (λ c p n m t k h. refl) ▸ (λ c p n m t k h. refl) ▸ (λ c p n m t k h. refl) ▸ (λ c p n m t k h. refl) ▸
    (λ c p n m t k h. refl) ▸
    (λ c p n m t k h. ap (λ (x : Bool). if x then position_event (seq Keys c p n m t k)
    else letter_event (seq Keys c p n m t k) 82) (no-report c n (h refl))) ▸
    (λ c p n m t k h. refl) ▸ (λ c p n m t k h. refl) ▸ tt

pub letter-says : {b : ℕ} {code : KeyCode} → IsLetter b code → (c p n m t k : ℕ) → (b ≡ 82 → c ≡ 1 → n ≡ 1)
    → sequence_event (seq Keys c p n m t k) b ≡ letter_code_event (Some code) k (if c == 0 then n else m)
letter-says letter c p n m t k h = entries-are SaysKey letters-say letter c p n m t k h

-- after a lone number, and after 1 and what is held
pub letter-alone : {b : ℕ} {code : KeyCode} → IsLetter b code → (n : ℕ)
    → sequence_event (seq Keys 0 0 n 0 0 0) b ≡ letter_code_event (Some code) 0 n
letter-alone letter n = letter-says letter 0 0 n 0 0 0 (λ report one. omega (arith, one))

pub letter-held : {b : ℕ} {code : KeyCode} → IsLetter b code → (p m k : ℕ)
    → sequence_event (seq Keys 1 p 1 m 0 k) b ≡ letter_code_event (Some code) k m
letter-held letter p m k = letter-says letter 1 p 1 m 0 k (λ report one. refl)

abbrev SaysSingle : ℕ → KeyCode → Type 0
SaysSingle b code = (n : ℕ) → single_event n b ≡ letter_code_event (Some code) 0 n

letters-single : AllAre SaysSingle letter_keys
unfolding letter_keys single_event letter_event key_at
letters-single =
    (λ n. refl) ▸ (λ n. refl) ▸ (λ n. refl) ▸ (λ n. refl) ▸ (λ n. refl) ▸ (λ n. refl) ▸ (λ n. refl) ▸ (λ n. refl) ▸
    (λ n. refl) ▸ (λ n. refl) ▸ (λ n. refl) ▸ (λ n. refl) ▸ tt

pub letter-single : {b : ℕ} {code : KeyCode} → IsLetter b code → (n : ℕ) → single_event n b ≡ letter_code_event (Some code) 0 n
letter-single letter n = entries-are SaysSingle letters-single letter n

-- such a letter is one of @ to ~, and begins nothing else
pub record EndsSequence (b : ℕ) : Type 0 where
  pub low : 64 ≤ b
  pub high : b ≤ 126
  pub no_bracket : b ≡ 91 → ⊥
  pub no_click : b ≡ 77 → ⊥

abbrev ends_sequence : ℕ → Bool
ends_sequence b = nat_le 64 b && nat_le b 126 && not (b == 91) && not (b == 77)

ends-by : (b : ℕ) → ends_sequence b ≡ true → EndsSequence b
ends-by b h = record {
  low = grind (arith, nat_tests);
  high = grind (arith, nat_tests);
  no_bracket = λ e. grind (arith, nat_tests);
  no_click = λ e. grind (arith, nat_tests);
}

pub letter-ends : {b : ℕ} {code : KeyCode} → IsLetter b code → EndsSequence b
unfolding letter_keys
letter-ends {b = b} letter = ends-by b (numbers-pass ends_sequence refl letter)

-- a number before a tilde: none of the few that have a meaning of their own
abbrev is_tilde_number : ℕ → Bool
is_tilde_number n = nat_lt n 35 && not (n == 27)

tilde-number : {n : ℕ} {code : KeyCode} → IsTilde n code → is_tilde_number n ≡ true
unfolding tilde_keys
tilde-number tilde = numbers-pass is_tilde_number refl tilde

tilde-found : {n : ℕ} {code : KeyCode} → IsTilde n code → number_key n ≡ Some code
unfolding tilde_keys
tilde-found tilde = entry-found refl tilde

number-told : (n : ℕ) (s : Sequence) → s.first ≡ n → is_tilde_number n ≡ true
    → tilde_event s ≡ number_key_event (number_key s.first) s.kind s.second
unfolding tilde_event
number-told n s is test =
    let pasted : (s.first == 200) ≡ false = grind (arith, nat_tests) in
    let ended : (s.first == 201) ≡ false = grind (arith, nat_tests) in
    let other : ((s.first == 27) && nat_le 2 s.numbers) ≡ false = grind (arith, nat_tests) in
    ap (λ (b : Bool). if b then PasteBegun else (if s.first == 201 then PasteEnded
    else (if (s.first == 27) && nat_le 2 s.numbers then code_key_event (code_key s.third) s.kind s.second
    else number_key_event (number_key s.first) s.kind s.second))) pasted
    ∙ ap (λ (b : Bool). if b then PasteEnded
    else (if (s.first == 27) && nat_le 2 s.numbers then code_key_event (code_key s.third) s.kind s.second
    else number_key_event (number_key s.first) s.kind s.second)) ended
    ∙ ap (λ (b : Bool). if b then code_key_event (code_key s.third) s.kind s.second
    else number_key_event (number_key s.first) s.kind s.second) other

pub tilde-told : {n : ℕ} {code : KeyCode} → IsTilde n code → (numbers p m t k : ℕ)
    → sequence_event (seq Keys numbers p n m t k) 126 ≡ key_event k code false m
unfolding sequence_event keys_event
tilde-told {n = n} tilde numbers p m t k =
    number-told n (seq Keys numbers p n m t k) refl (tilde-number tilde)
    ∙ ap (λ (o : Option KeyCode). number_key_event o k m) (tilde-found tilde)

small-number : (n : ℕ) → is_tilde_number n ≡ true → n < 2 ^ 32
small-number n h = grind (arith, nat_tests)

pub tilde-small : {n : ℕ} {code : KeyCode} → IsTilde n code → n < 2 ^ 32
tilde-small {n = n} tilde = small-number n (tilde-number tilde)

abbrev lies_elsewhere : ℕ → Bool
lies_elsewhere n = (nat_le 57344 n && nat_lt n 63744) || is_control n

apart : (c n : ℕ) → is_control c ≡ false → (c < 57344) ⊎ (63744 ≤ c) → lies_elsewhere n ≡ true → (n == c) ≡ false
apart c n plain where_it_is h = grind (arith, nat_tests)

none-at : (table : List (ℕ × KeyCode)) (c : ℕ) → is_control c ≡ false → (c < 57344) ⊎ (63744 ≤ c)
    → list_all (λ (e : ℕ × KeyCode). lies_elsewhere e.0) table ≡ true → key_at table c ≡ None
unfolding key_at
none-at [] c plain where_it_is h = refl
none-at (e ∷ table) c plain where_it_is h =
    ap (λ (b : Bool). option_map (λ (x : ℕ × KeyCode). x.1) (if b then Some e else find (λ (x : ℕ × KeyCode). x.0 == c) table))
    (apart c e.0 plain where_it_is (both (lies_elsewhere e.0) (list_all (λ (x : ℕ × KeyCode). lies_elsewhere x.0) table) h).0)
    ∙ none-at table c plain where_it_is (both (lies_elsewhere e.0) (list_all (λ (x : ℕ × KeyCode). lies_elsewhere x.0) table) h).1

-- a number above those of a table has no entry
above : (m n : ℕ) → nat_lt m 35 ≡ true → 35 ≤ n → (m == n) ≡ false
above m n h k = grind (arith, nat_tests)

pub none-above : (table : List (ℕ × KeyCode)) (n : ℕ) → list_all (λ (e : ℕ × KeyCode). nat_lt e.0 35) table ≡ true → 35 ≤ n
    → key_at table n ≡ None
unfolding key_at
none-above [] n h k = refl
none-above (e ∷ table) n h k =
    ap (λ (b : Bool). option_map (λ (x : ℕ × KeyCode). x.1) (if b then Some e else find (λ (x : ℕ × KeyCode). x.0 == n) table))
    (above e.0 n (both (nat_lt e.0 35) (list_all (λ (x : ℕ × KeyCode). nat_lt x.0 35) table) h).0 k)
    ∙ none-above table n (both (nat_lt e.0 35) (list_all (λ (x : ℕ × KeyCode). nat_lt x.0 35) table) h).1 k

-- no table has a printed ASCII character
pub printed-plain : (c : ℕ) → 32 ≤ c → c ≤ 126 → is_control c ≡ false
printed-plain c low high = grind (arith, nat_tests)

pub keypad-none : (c : ℕ) → 32 ≤ c → c ≤ 126 → keypad_key c ≡ None
unfolding keypad_key
keypad-none c low high = none-at KEYPAD c (printed-plain c low high) (inl (omega arith)) refl

pub name-none : (c : ℕ) → 32 ≤ c → c ≤ 126 → name_key c ≡ None
unfolding name_key
name-none c low high = none-at CODES c (printed-plain c low high) (inl (omega arith)) refl

named-none : (c : ℕ) → (c < 55296) ⊎ ((57344 ≤ c) × (c < 1114112)) → is_control c ≡ false → (c < 57344) ⊎ (63744 ≤ c)
    → named_key None c ≡ Some (Char c, false)
named-none c scalar plain where_it_is = grind (arith, nat_tests)

character-told : (c : ℕ) → IsScalar c → is_control c ≡ false → (c < 57344) ⊎ (63744 ≤ c) → code_key c ≡ Some (Char c, false)
unfolding code_key keypad_key name_key
character-told c scalar plain where_it_is =
    ap (λ (o : Option KeyCode). pad_key o (named_key (name_key c) c)) (none-at KEYPAD c plain where_it_is refl)
    ∙ ap (λ (o : Option KeyCode). named_key o c) (none-at CODES c plain where_it_is refl)
    ∙ named-none c (scalar_cases c scalar) plain where_it_is

-- a code point
name-told : {n : ℕ} {code : KeyCode} → IsEntry named_keys n code → code_key n ≡ Some (code, false)
unfolding code_key keypad_key name_key named_keys
name-told {n = n} is =
    ap (λ (o : Option KeyCode). pad_key o (named_key (key_at CODES n) n))
    (nothing-at KEYPAD n (numbers-pass (has_no KEYPAD) refl is))
    ∙ ap (λ (o : Option KeyCode). named_key o n) (entry-found refl is)

pad-told : {n : ℕ} {code : KeyCode} → IsEntry keypad_keys n code → code_key n ≡ Some (code, true)
unfolding code_key keypad_key name_key keypad_keys
pad-told {n = n} is = ap (λ (o : Option KeyCode). pad_key o (named_key (key_at CODES n) n)) (entry-found refl is)

pub code-told : {n : ℕ} {code : KeyCode} {is_keypad : Bool} → IsCode n code is_keypad → code_key n ≡ Some (code, is_keypad)
code-told (code_named is) = name-told is
code-told (code_keypad is) = pad-told is
code-told (code_character c scalar plain where_it_is) = character-told c scalar plain where_it_is

abbrev is_code_number : ℕ → Bool
is_code_number n = nat_lt n 65536

code-number : (n : ℕ) → is_code_number n ≡ true → n < 2 ^ 32
code-number n h = grind (arith, nat_tests)

pub code-small : {n : ℕ} {code : KeyCode} {is_keypad : Bool} → IsCode n code is_keypad → n < 2 ^ 32
unfolding named_keys keypad_keys
code-small {n = n} (code_named is) = code-number n (numbers-pass is_code_number refl is)
code-small {n = n} (code_keypad is) = code-number n (numbers-pass is_code_number refl is)
code-small (code_character c scalar plain where_it_is) = scalar_fits c scalar

-- ---- what is told of a key

pub key-is : (k : ℕ) (code : KeyCode) (is_keypad : Bool) (m : ℕ) → m ≤ 256
    → key_event k code is_keypad m ≡ key_told code is_keypad m (kind_of k)
unfolding key_event
key-is k code is_keypad m h = grind (arith, common_steps)

shifted : (m : ℕ) → m ≤ 256 → with_shift m ≡ (m - 1) / 2 * 2 + 2
shifted m h = grind (arith, nat_tests)

abbrev IsTold : ℕ → KeyCode → Type 0
IsTold b code = (k m : ℕ) → m ≤ 256 → letter_code_event (Some code) k m ≡ letter_told code m (kind_of k)

letters-are : AllAre IsTold letter_keys
unfolding letter_keys
letters-are =
    (λ k m h. key-is k Up false m h) ▸ (λ k m h. key-is k Down false m h) ▸ (λ k m h. key-is k Right false m h) ▸
    (λ k m h. key-is k Left false m h) ▸ (λ k m h. key-is k KeypadBegin false m h) ▸ (λ k m h. key-is k End false m h) ▸
    (λ k m h. key-is k Home false m h) ▸ (λ k m h. key-is k (F 1) false m h) ▸ (λ k m h. key-is k (F 2) false m h) ▸
    (λ k m h. key-is k (F 3) false m h) ▸ (λ k m h. key-is k (F 4) false m h) ▸
    (λ k m h. ap (key_event k BackTab false) (shifted m h) ∙ key-is k BackTab false ((m - 1) / 2 * 2 + 2) (omega arith)) ▸ tt

pub letter-is : {b : ℕ} {code : KeyCode} → IsLetter b code → (k m : ℕ) → m ≤ 256
    → letter_code_event (Some code) k m ≡ letter_told code m (kind_of k)
letter-is letter k m h = entries-are IsTold letters-are letter k m h
