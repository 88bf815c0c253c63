-- A key, and the character that is told beside it.
use Rattle.std.proofs.Common.{◌≡◌, ◌⊎◌, ℕ, ◌+◌, ◌-◌, ◌*◌, ◌/◌, ◌%◌, ◌<◌, ◌≤◌, Bool, true, false, Option, Some, None, ◌∙◌, arith}
use lib.Utf8.{scalar_cases}
use Rattle.std.specs.Prelude.{nat_lt, if◌then◌else◌, ◌==◌}
use Rattle.std.specs.Char.{IsScalar, is_control}
use Rattle.std.specs.Char.Unicode.Uppercase.{is_uppercase}
use Rattle.std.proofs.lemmas.Bool.Decides.{nat_tests}
use Rattle.std.proofs.lemmas.Grind.{common_steps}
use Rattle.ratatui_events.specs.declared.event.Event.{Event}
use Rattle.ratatui_events.specs.declared.event.Event.TheVariants.{Unknown}
use Rattle.ratatui_events.specs.declared.key.KeyCode.{KeyCode}
use Rattle.ratatui_events.specs.declared.key.KeyCode.TheVariants.{Char}
use Rattle.ratatui_input.specs.Keys.{tab_key}
use Rattle.ratatui_input.specs.Sequences.{kind_of, key_event, typed_mask, typed_event, told_key_event}
use Rattle.ratatui_input.specs.Grammar.{key_told, typed_told, told_character}
use Rattle.ratatui_input.proofs.TableLemmas.{key-is}

not-many : (m : ℕ) (x : Event) → m ≤ 256 → (if nat_lt 256 m then Unknown else x) ≡ x
not-many m x h = grind (arith, nat_tests)

typed-small : (m : ℕ) (t : Bool) → m ≤ 256 → (m - 1) / 2 * 2 + (if t then 2 else 1) ≤ 256
typed-small m true h = omega (arith, h)
typed-small m false h = omega (arith, h)

pub typed-is : (k c : ℕ) (is_keypad : Bool) (m : ℕ) → m ≤ 256
    → typed_event k c is_keypad m ≡ key_told (Char c) is_keypad (typed_mask c m) (kind_of k)
typed-is k c is_keypad m h =
    not-many m (key_event k (Char c) is_keypad (typed_mask c m)) h
    ∙ key-is k (Char c) is_keypad (typed_mask c m) (typed-small m (is_uppercase c) h)

many : (m : ℕ) (x : Event) → 256 < m → (if nat_lt 256 m then Unknown else x) ≡ Unknown
many m x h = grind (arith, nat_tests)

pub typed-many : (k c : ℕ) (is_keypad : Bool) (m : ℕ) → 256 < m → typed_event k c is_keypad m ≡ Unknown
typed-many k c is_keypad m h = many m (key_event k (Char c) is_keypad (typed_mask c m)) h

either-is : (b : Bool) (x y x' y' : Event) → x ≡ x' → y ≡ y' → (if b then x else y) ≡ (if b then x' else y')
either-is true x y x' y' e f = e
either-is false x y x' y' e f = f

both-are : (b : Bool) (x y z : Event) → x ≡ z → y ≡ z → (if b then x else y) ≡ z
both-are true x y z e f = e
both-are false x y z e f = f

pub told-is : (told : Option ℕ) (code : KeyCode) (is_keypad : Bool) (k m : ℕ) → m ≤ 256
    → told_key_event told code is_keypad k m ≡ typed_told told code is_keypad m (kind_of k)
told-is (Some c) (Char d) is_keypad k m h =
    either-is ((m - 1) % 2 == 1) _ _ _ _ (typed-is k c is_keypad m h) (key-is k (Char d) is_keypad m h)
told-is (Some c) code is_keypad k m h = key-is k (tab_key code m) is_keypad m h
told-is None code is_keypad k m h = key-is k (tab_key code m) is_keypad m h

key-many : (k : ℕ) (code : KeyCode) (is_keypad : Bool) (m : ℕ) → 256 < m → key_event k code is_keypad m ≡ Unknown
unfolding key_event
key-many k code is_keypad m h = grind (arith, nat_tests)

pub told-many : (told : Option ℕ) (code : KeyCode) (is_keypad : Bool) (k m : ℕ) → 256 < m
    → told_key_event told code is_keypad k m ≡ Unknown
told-many (Some c) (Char d) is_keypad k m h =
    both-are ((m - 1) % 2 == 1) _ _ Unknown (typed-many k c is_keypad m h) (key-many k (Char d) is_keypad m h)
told-many (Some c) code is_keypad k m h = key-many k (tab_key code m) is_keypad m h
told-many None code is_keypad k m h = key-many k (tab_key code m) is_keypad m h

beside-in : (t : ℕ) → (t < 55296) ⊎ ((57344 ≤ t) × (t < 1114112)) → is_control t ≡ false → told_character t ≡ Some t
beside-in t h plain = grind (arith, common_steps)

pub beside-some : (t : ℕ) → IsScalar t → is_control t ≡ false → told_character t ≡ Some t
beside-some t scalar plain = beside-in t (scalar_cases t scalar) plain
