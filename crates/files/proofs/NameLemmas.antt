-- Names that are shown alike are the same.
use Rattle.std.proofs.Common.{◌≡◌, ◌&&◌, ℕ, ◌/◌, ◌%◌, ◌<◌, ◌≤◌, nat_lt, Bool, true, false, arith, refl, sym, ap}
use Rattle.std.proofs.Common.{◌∙◌, subst, List, [], ◌∷◌, ◌++◌, length, chars, encode_utf8, encode_utf8_all, if◌then◌else◌, ⊎_elim}
use Rattle.std.specs.{Str.IsUtf8, List.flat_map, Char.digit_char}
use Rattle.std.proofs.Math.Utf8.{scalar, scalars, scalar_cases}
use Rattle.std.proofs.lemmas.{Str.encode_ascii, Str.encode_same, Str.length-encode, Str.len_utf8_bounds, Str.encodes-chars, Str.scalars-chars}
use Rattle.std.proofs.lemmas.{Bool.Decides.nat_tests, List.length-append}
use Rattle.files.specs.Names.{is_plain, escaped_low, escaped_high, shown_name_char, shown_name}

-- ---- digits

digit-same : (m n : ℕ) → m < 16 → n < 16 → digit_char m ≡ digit_char n → m ≡ n
digit-same m n m_small n_small same = grind (arith, nat_tests)

digits-same : (m n : ℕ) → digit_char (m % 16) ≡ digit_char (n % 16) → m / 16 ≡ n / 16 → m ≡ n
digits-same m n same above =
    let last : m % 16 ≡ n % 16 = digit-same (m % 16) (n % 16) (omega arith) (omega arith) same in omega arith

pub low-same : (c d : ℕ) (r t : List ℕ) → c < 256 → d < 256 → escaped_low c ++ r ≡ escaped_low d ++ t → (c ≡ d) × (r ≡ t)
low-same c d r t c_low d_low same =
    let one : digit_char (c / 16 % 16) ≡ digit_char (d / 16 % 16) = cc in
    let two : digit_char (c % 16) ≡ digit_char (d % 16) = cc in
    let rest : r ≡ t = cc in
    (digits-same c d two (digits-same (c / 16) (d / 16) one (omega arith)), rest)

pub high-same : (c d : ℕ) (r t : List ℕ) → c < 16777216 → d < 16777216 → escaped_high c ++ r ≡ escaped_high d ++ t
    → (c ≡ d) × (r ≡ t)
high-same c d r t c_low d_low same =
    let a5 : digit_char (c / 1048576 % 16) ≡ digit_char (d / 1048576 % 16) = cc in
    let a4 : digit_char (c / 65536 % 16) ≡ digit_char (d / 65536 % 16) = cc in
    let a3 : digit_char (c / 4096 % 16) ≡ digit_char (d / 4096 % 16) = cc in
    let a2 : digit_char (c / 256 % 16) ≡ digit_char (d / 256 % 16) = cc in
    let a1 : digit_char (c / 16 % 16) ≡ digit_char (d / 16 % 16) = cc in
    let a0 : digit_char (c % 16) ≡ digit_char (d % 16) = cc in
    let rest : r ≡ t = cc in
    let b5 : c / 1048576 ≡ d / 1048576 = digits-same (c / 1048576) (d / 1048576) a5 (omega arith) in
    let b4 : c / 65536 ≡ d / 65536 = digits-same (c / 65536) (d / 65536) a4 (omega arith) in
    let b3 : c / 4096 ≡ d / 4096 = digits-same (c / 4096) (d / 4096) a3 (omega arith) in
    let b2 : c / 256 ≡ d / 256 = digits-same (c / 256) (d / 256) a2 (omega arith) in
    let b1 : c / 16 ≡ d / 16 = digits-same (c / 16) (d / 16) a1 (omega arith) in
    (digits-same c d a0 b1, rest)

-- ---- characters

-- a plain character is shown as none that is escaped
plain-escaped : (c : ℕ) (r t : List ℕ) → is_plain c ≡ true → encode_utf8 c ++ r ≡ 92 ∷ t → ⊥
plain-escaped c r t is same =
    let it = encode_same c 92 r t (same ∙ ap (λ bs. bs ++ t) (sym (encode_ascii 92 (omega arith)))) in
    let no : is_plain 92 ≡ true = subst (λ x. is_plain x ≡ true) it.0 is in cc

abbrev shown_by : Bool → Bool → ℕ → List ℕ
shown_by true low c = encode_utf8 c
shown_by false true c = escaped_low c
shown_by false false c = escaped_high c

shown-by : (plain low : Bool) (c : ℕ)
    → (if plain then encode_utf8 c else if low then escaped_low c else escaped_high c) ≡ shown_by plain low c
shown-by true low c = refl
shown-by false true c = refl
shown-by false false c = refl

low-high : (c d : ℕ) (r t : List ℕ) → escaped_low c ++ r ≡ escaped_high d ++ t → ⊥
low-high c d r t same = let x : ◌≡◌ {A = ℕ} 120 117 = cc in omega (arith, x)

pub is-below : (c n : ℕ) → nat_lt c n ≡ true → c < n
is-below c n is = grind (arith, nat_tests)

is-small : (c : ℕ) → scalar c ≡ true → c < 16777216
is-small c is = ⊎_elim (λ (low : c < 55296). omega arith) (λ (high : (57344 ≤ c) × (c < 1114112)). omega (arith, high.1)) (scalar_cases c is)

piece-by : (p q l m : Bool) (c d : ℕ) (r t : List ℕ) → is_plain c ≡ p → is_plain d ≡ q → nat_lt c 256 ≡ l → nat_lt d 256 ≡ m
    → c < 16777216 → d < 16777216 → shown_by p l c ++ r ≡ shown_by q m d ++ t → (c ≡ d) × (r ≡ t)
piece-by true true l m c d r t cp dp cl dl cs ds same = encode_same c d r t same
piece-by true false l true c d r t cp dp cl dl cs ds same = absurd (plain-escaped c r _ cp same)
piece-by true false l false c d r t cp dp cl dl cs ds same = absurd (plain-escaped c r _ cp same)
piece-by false true true m c d r t cp dp cl dl cs ds same = absurd (plain-escaped d t _ dp (sym same))
piece-by false true false m c d r t cp dp cl dl cs ds same = absurd (plain-escaped d t _ dp (sym same))
piece-by false false true true c d r t cp dp cl dl cs ds same = low-same c d r t (is-below c 256 cl) (is-below d 256 dl) same
piece-by false false true false c d r t cp dp cl dl cs ds same = absurd (low-high c d r t same)
piece-by false false false true c d r t cp dp cl dl cs ds same = absurd (low-high d c t r (sym same))
piece-by false false false false c d r t cp dp cl dl cs ds same = high-same c d r t cs ds same

-- what is shown of a text tells its first character, and what is shown of the others
pub piece-same : (c d : ℕ) (r t : List ℕ) → scalar c ≡ true → scalar d ≡ true → shown_name_char c ++ r ≡ shown_name_char d ++ t
    → (c ≡ d) × (r ≡ t)
piece-same c d r t cs ds same =
    let one = shown-by (is_plain c) (nat_lt c 256) c in let two = shown-by (is_plain d) (nat_lt d 256) d in
    piece-by (is_plain c) (is_plain d) (nat_lt c 256) (nat_lt d 256) c d r t refl refl refl refl (is-small c cs) (is-small d ds)
    (ap (λ bs. bs ++ r) (sym one) ∙ same ∙ ap (λ bs. bs ++ t) two)

some-by : (p l : Bool) (c : ℕ) → 0 < length (shown_by p l c)
some-by true l c = omega (arith, length-encode c, (len_utf8_bounds c).0)
some-by false true c = omega arith
some-by false false c = omega arith

some-shown : (c : ℕ) → 0 < length (shown_name_char c)
some-shown c = rw (shown-by (is_plain c) (nat_lt c 256) c) (some-by (is_plain c) (nat_lt c 256) c)

both : (a b : Bool) → (a && b) ≡ true → (a ≡ true) × (b ≡ true)
both true true is = (refl, refl)
both true false is = absurd (cc)
both false b is = absurd (cc)

none-shown : (d : ℕ) (rest : List ℕ) → [] ≡ shown_name_char d ++ rest → ⊥
none-shown d rest same =
    let long = some-shown d in omega (arith, ap length same, length-append (shown_name_char d) rest)

-- ---- names

lists-same : (cs ds : List ℕ) → scalars cs ≡ true → scalars ds ≡ true → flat_map shown_name_char cs ≡ flat_map shown_name_char ds → cs ≡ ds
lists-same [] [] c d same = refl
lists-same [] (e ∷ ds) c d same = absurd (none-shown e (flat_map shown_name_char ds) same)
lists-same (b ∷ cs) [] c d same = absurd (none-shown b (flat_map shown_name_char cs) (sym same))
lists-same (b ∷ cs) (e ∷ ds) c d same =
    let one = both (scalar b) (scalars cs) c in let two = both (scalar e) (scalars ds) d in
    let it = piece-same b e (flat_map shown_name_char cs) (flat_map shown_name_char ds) one.0 two.0 same in
    ap (λ x. x ∷ cs) it.0 ∙ ap (λ xs. e ∷ xs) (lists-same cs ds one.1 two.1 it.1)

pub names-same : (a b : List ℕ) → IsUtf8 a → IsUtf8 b → shown_name a ≡ shown_name b → a ≡ b
unfolding shown_name
names-same a b one two same =
    let alike = lists-same (chars a) (chars b) (scalars-chars a one) (scalars-chars b two) same in
    sym (encodes-chars a one) ∙ ap encode_utf8_all alike ∙ encodes-chars b two
