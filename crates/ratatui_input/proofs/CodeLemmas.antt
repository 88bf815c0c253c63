-- Which keys the tables' numbers stand for.
use Rattle.std.proofs.Common.{◌≡◌, ◌⊎◌, inl, inr, ℕ, ◌<◌, ◌≤◌, ◌++◌, Bool, true, false, List, [], ◌∷◌, Option, Some, None, refl, arith}
use Rattle.std.specs.Prelude.{if◌then◌else◌}
use Rattle.std.proofs.lemmas.Bool.{cases_lt}
use Rattle.std.proofs.lemmas.Bool.Decides.{nat_tests}
use Rattle.std.specs.Char.{IsScalar, is_control}
use Rattle.ratatui_events.specs.declared.key.KeyCode.{KeyCode}
use Rattle.ratatui_events.specs.declared.key.KeyCode.TheVariants.{Char, Enter}
use Rattle.ratatui_input.specs.declared.keys.TheConstants.{LETTERS, NUMBERS, CODES, KEYPAD}
use Rattle.ratatui_input.specs.Keys.{key_at, letter_key, number_key, code_key, keypad_key, name_key, named_key, pad_key}
use Rattle.ratatui_input.specs.Keys.{character_key, is_scalar}
use Rattle.ratatui_input.specs.KeyTables.{IsEntry, first_entry, later_entry, IsLetter, IsTilde, IsCode}
use Rattle.ratatui_input.specs.KeyTables.{code_named, code_keypad, code_character}
use Rattle.ratatui_input.specs.KeyTables.{letter_keys, tilde_keys, named_keys, keypad_keys}
use Rattle.ratatui_input.specs.Pieces.{IsCodePoint, named_code, private_code}
use Rattle.ratatui_input.proofs.EntryLemmas.{entry-at, entry-found}

-- the last entry of a table, or one before it
last-or : (table : List (ℕ × KeyCode)) (m n : ℕ) (key code : KeyCode) → IsEntry (table ++ (m, key) ∷ []) n code
    → IsEntry table n code ⊎ ((n ≡ m) × (code ≡ key))
last-or [] m n key code first_entry = inr (refl, refl)
last-or [] m n key code (later_entry is) = elim is [ ]
last-or (e ∷ table) m n key code first_entry = inl first_entry
last-or (e ∷ table) m n key code (later_entry is) = elim (last-or table m n key code is) [
  | inl there ↦ inl (later_entry there)
  | inr last ↦ inr last
]

abbrev pub LetterOrEnter : ℕ → KeyCode → Type 0
LetterOrEnter b code = IsLetter b code ⊎ ((b ≡ 77) × (code ≡ Enter))

pub letter-of : (b : ℕ) (code : KeyCode) → letter_key b ≡ Some code → LetterOrEnter b code
unfolding letter_keys
letter-of b code e = last-or letter_keys 77 b Enter code (entry-at LETTERS b code e)

pub tilde-of : (n : ℕ) (code : KeyCode) → number_key n ≡ Some code → IsTilde n code
unfolding tilde_keys
tilde-of n code e = entry-at NUMBERS n code e

pub name-of : (n : ℕ) (code : KeyCode) → key_at CODES n ≡ Some code → IsCode n code false
unfolding named_keys
name-of n code e = code_named (entry-at CODES n code e)

pub pad-of : (n : ℕ) (code : KeyCode) → key_at KEYPAD n ≡ Some code → IsCode n code true
unfolding keypad_keys
pad-of n code e = code_keypad (entry-at KEYPAD n code e)

-- the keys with a code point
abbrev pub IsCodeOf : ℕ → Option (KeyCode × Bool) → Type 0
IsCodeOf n None = Unit {0}
IsCodeOf n (Some key) = IsCodePoint n key.0 key.1

if-code : (n : ℕ) (t : Bool) (x y : Option (KeyCode × Bool)) → (t ≡ true → IsCodeOf n x) → (t ≡ false → IsCodeOf n y)
    → IsCodeOf n (if t then x else y)
if-code n true x y f g = f refl
if-code n false x y f g = g refl

pub scalar-is : (n : ℕ) → is_scalar n ≡ true → IsScalar n
scalar-is n h = grind (arith, nat_tests)

-- a code point of the private use area without a key of its own
unnamed : {n : ℕ} {code : KeyCode} {is_keypad : Bool} → IsCode n code is_keypad → key_at CODES n ≡ None
    → key_at KEYPAD n ≡ None → 57344 ≤ n → n < 63744 → ⊥
unfolding named_keys keypad_keys
unnamed {n = n} {code = code} (code_named is) none pad low high =
    let found : key_at CODES n ≡ Some code = entry-found refl is in cc
unnamed {n = n} {code = code} (code_keypad is) none pad low high =
    let found : key_at KEYPAD n ≡ Some code = entry-found refl is in cc
unnamed (code_character c scalar_it plain where_it_is) none pad low high = omega (arith, low, high, where_it_is)

abbrev IsFree : ℕ → Type 0
IsFree n = (code : KeyCode) (is_keypad : Bool) → IsCode n code is_keypad → ⊥

plain-code : (n : ℕ) → IsScalar n → is_control n ≡ false → (57344 ≤ n → n < 63744 → IsFree n) → IsCodePoint n (Char n) false
plain-code n scalar_it plain free =
    elim (cases_lt n 57344) [
      | inl low ↦ named_code (code_character n scalar_it plain (inl low))
      | inr more ↦ elim (cases_lt n 63744) [
        | inl private_use ↦ private_code n more private_use (free more private_use)
        | inr high ↦ named_code (code_character n scalar_it plain (inr high))
      ]
    ]

character-code : (n : ℕ) (t : Bool) → (t ≡ true → IsScalar n) → (57344 ≤ n → n < 63744 → IsFree n)
    → IsCodeOf n (character_key (if t then Some n else None))
character-code n false h free = tt
character-code n true h free = if-code n (is_control n) None (Some (Char n, false)) (λ e. tt) (λ e. plain-code n (h refl) e free)

named-code : (n : ℕ) (o : Option KeyCode) → ((code : KeyCode) → o ≡ Some code → IsCode n code false)
    → (o ≡ None → 57344 ≤ n → n < 63744 → IsFree n) → IsCodeOf n (named_key o n)
named-code n (Some key) h free = named_code (h key refl)
named-code n None h free = character-code n (is_scalar n) (scalar-is n) (free refl)

padded-code : (n : ℕ) (o : Option KeyCode) (other : Option (KeyCode × Bool))
    → ((code : KeyCode) → o ≡ Some code → IsCode n code true) → (o ≡ None → IsCodeOf n other)
    → IsCodeOf n (pad_key o other)
padded-code n (Some key) other h k = named_code (h key refl)
padded-code n None other h k = k refl

pub code-of : (n : ℕ) → IsCodeOf n (code_key n)
unfolding code_key keypad_key name_key
code-of n =
    padded-code n (key_at KEYPAD n) (named_key (key_at CODES n) n) (pad-of n)
    (λ pad. named-code n (key_at CODES n) (name-of n)
    (λ none low high code is_keypad is. unnamed is none pad low high))
