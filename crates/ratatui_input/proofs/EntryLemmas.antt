-- What a table of keys has at a number.
use Rattle.std.proofs.Common.{◌≡◌, ℕ, Bool, true, false, List, [], ◌∷◌, Option, Some, None, refl, subst, ap, ◌∙◌, arith}
use Rattle.std.specs.Prelude.{if◌then◌else◌, ◌==◌, ◌&&◌, find, not}
use Rattle.std.specs.Option.{option_map}
use Rattle.std.specs.List.{list_all}
use Rattle.std.proofs.lemmas.Bool.Decides.{nat_tests}
use Rattle.ratatui_events.specs.declared.key.KeyCode.{KeyCode}
use Rattle.ratatui_input.specs.Keys.{key_at}
use Rattle.ratatui_input.specs.KeyTables.{IsEntry, first_entry, later_entry}
use Rattle.ratatui_input.proofs.StandLemmas.{same}

pub both : (s t : Bool) → (s && t) ≡ true → (s ≡ true) × (t ≡ true)
both true true e = (refl, refl)
both true false e = cc
both false t e = cc

-- one entry holds, and those after it do
infixr 20 ◌▸◌
pub ◌▸◌ : {A B : Type 0} → A → B → A × B
a ▸ b = (a, b)

abbrev pub AllAre : (ℕ → KeyCode → Type 0) → List (ℕ × KeyCode) → Type 0
AllAre P [] = Unit {0}
AllAre P (e ∷ table) = P e.0 e.1 × AllAre P table

pub entries-are : {table : List (ℕ × KeyCode)} {n : ℕ} {code : KeyCode} (P : ℕ → KeyCode → Type 0) → AllAre P table
    → IsEntry table n code → P n code
entries-are {table = []} P all is = elim is [ ]
entries-are {table = (n, code) ∷ table} P all first_entry = all.0
entries-are {table = e ∷ table} P all (later_entry is) = entries-are P all.1 is

-- a test of each number
pub numbers-pass : {table : List (ℕ × KeyCode)} {n : ℕ} {code : KeyCode} (test : ℕ → Bool)
    → list_all (λ (e : ℕ × KeyCode). test e.0) table ≡ true → IsEntry table n code → test n ≡ true
numbers-pass {table = []} test all is = elim is [ ]
numbers-pass {table = (n, code) ∷ table} test all first_entry =
    (both (test n) (list_all (λ (e : ℕ × KeyCode). test e.0) table) all).0
numbers-pass {table = e ∷ table} test all (later_entry is) =
    numbers-pass test (both (test e.0) (list_all (λ (x : ℕ × KeyCode). test x.0) table) all).1 is

-- what is found at a number is an entry
found-or : (t : Bool) (n : ℕ) (code : KeyCode) (e : ℕ × KeyCode) (table : List (ℕ × KeyCode)) (o : Option (ℕ × KeyCode))
    → (t ≡ true → e.0 ≡ n)
    → (option_map (λ (x : ℕ × KeyCode). x.1) o ≡ Some code → IsEntry table n code)
    → option_map (λ (x : ℕ × KeyCode). x.1) (if t then Some e else o) ≡ Some code → IsEntry (e ∷ table) n code
found-or true n code e table o f k eq =
    let is : e.1 ≡ code = cc in
    subst (λ (x : ℕ). IsEntry (e ∷ table) x code) (f refl) (subst (λ (c : KeyCode). IsEntry (e ∷ table) e.0 c) is first_entry)
found-or false n code e table o f k eq = later_entry (k eq)

pub entry-at : (table : List (ℕ × KeyCode)) (n : ℕ) (code : KeyCode) → key_at table n ≡ Some code → IsEntry table n code
unfolding key_at
entry-at [] n code eq = cc
entry-at (e ∷ table) n code eq =
    found-or (e.0 == n) n code e table (find (λ (x : ℕ × KeyCode). x.0 == n) table) (same e.0 n) (entry-at table n code) eq

-- a table without a number
abbrev pub has_no : List (ℕ × KeyCode) → ℕ → Bool
has_no table n = list_all (λ (e : ℕ × KeyCode). not (e.0 == n)) table

not-true : (b : Bool) → not b ≡ true → b ≡ false
not-true true e = cc
not-true false e = refl

turned : (m n : ℕ) → not (m == n) ≡ true → (n == m) ≡ false
turned m n h = grind (arith, nat_tests)

pub nothing-at : (table : List (ℕ × KeyCode)) (n : ℕ) → has_no table n ≡ true → key_at table n ≡ None
unfolding key_at
nothing-at [] n h = refl
nothing-at (e ∷ table) n h =
    ap (λ (b : Bool). option_map (λ (x : ℕ × KeyCode). x.1) (if b then Some e else find (λ (x : ℕ × KeyCode). x.0 == n) table))
    (not-true (e.0 == n) (both (not (e.0 == n)) (has_no table n) h).0)
    ∙ nothing-at table n (both (not (e.0 == n)) (has_no table n) h).1

-- a table with one entry for a number has it there
abbrev pub is_distinct : List (ℕ × KeyCode) → Bool
is_distinct [] = true
is_distinct (e ∷ table) = has_no table e.0 && is_distinct table

equal : (n : ℕ) → (n == n) ≡ true
equal n = grind (arith, nat_tests)

pub entry-found : {table : List (ℕ × KeyCode)} {n : ℕ} {code : KeyCode} → is_distinct table ≡ true → IsEntry table n code
    → key_at table n ≡ Some code
unfolding key_at
entry-found {table = []} one is = elim is [ ]
entry-found {table = (n, code) ∷ table} one first_entry =
    ap (λ (b : Bool). option_map (λ (x : ℕ × KeyCode). x.1)
    (if b then Some (n, code) else find (λ (x : ℕ × KeyCode). x.0 == n) table)) (equal n)
entry-found {table = e ∷ table} {n = n} one (later_entry is) =
    let parts = both (has_no table e.0) (is_distinct table) one in
    ap (λ (b : Bool). option_map (λ (x : ℕ × KeyCode). x.1) (if b then Some e else find (λ (x : ℕ × KeyCode). x.0 == n) table))
    (turned n e.0 (numbers-pass (λ (x : ℕ). not (x == e.0)) parts.0 is))
    ∙ entry-found parts.1 is
