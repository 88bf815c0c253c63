-- The arms of a text, by its bytes.
use Rattle.std.proofs.Common.{◌≡◌, ℕ, ◌+◌, ◌-◌, ◌*◌, ◌/◌, ◌%◌, ◌<◌, ◌≤◌, ◌≢◌, ◌==◌, ◌&&◌, nat_lt, nat_le, List, [], ◌∷◌, Option}
use Rattle.std.proofs.Common.{None, map, length, refl, get_or, ap, arith, ◌∙◌, sym, Bool, true}
use Rattle.std.specs.{List.range_with_len, List.list_all, Option.option_map, Char.encode_utf8, Str.bytes_eq}
use Rattle.std.specs.{Cmp.Lexicographic.same_text}
use Rattle.std.proofs.lemmas.Bool.{and_parts, false_from_ne_true, eqb-true, leb-true, ltb-true}
use Rattle.std.proofs.lemmas.{List.FromFn.get_or-map-range_with_len, Slice.Eq.text_from_reads}
use Rattle.rtui_merge.specs.{declared.tables.TheConstants.ARMS, declared.border_symbol.BorderSymbol.BorderSymbol}
use Rattle.rtui_merge.specs.Symbols.{Symbol, arms_of, symbols}
use Rattle.rtui_merge.proofs.FindLemmas.{find-other_shape}

-- the text of the character n places after U+2500
abbrev pub text_at : ℕ → List ℕ
text_at n = 226 ∷ (148 + n / 64) ∷ (128 + n % 64) ∷ []

-- the table of the code is that of the definition
ARMS-is : ARMS ≡ map (λ n. arms_of (text_at n)) (range_with_len 0 128)
unfolding arms_of symbols encode_utf8
ARMS-is = refl

get_or-ARMS : (n : ℕ) → n < 128 → get_or ARMS n None ≡ arms_of (text_at n)
get_or-ARMS n h =
    ap (λ (xs : List (Option BorderSymbol)). get_or xs n None) ARMS-is
    ∙ get_or-map-range_with_len (λ n. arms_of (text_at n)) 0 128 n n None h (omega arith)

-- the text is one character from U+2500 to U+257F
pub record IsInBlock (text : List ℕ) : Type 0 where
  pub len : length text ≡ 3
  pub first : get_or text 0 0 ≡ 226
  pub second_from : 148 ≤ get_or text 1 0
  pub second_to : get_or text 1 0 < 150
  pub third_from : 128 ≤ get_or text 2 0
  pub third_to : get_or text 2 0 < 192

-- the same as a test
abbrev is_in_block : List ℕ → Bool
is_in_block text =
    length text == 3
    && (get_or text 0 0 == 226
    && (nat_le 148 (get_or text 1 0) && (nat_lt (get_or text 1 0) 150
    && (nat_le 128 (get_or text 2 0) && nat_lt (get_or text 2 0) 192))))

IsInBlock-from : (text : List ℕ) → is_in_block text ≡ true → IsInBlock text
IsInBlock-from text e =
    let a = and_parts _ _ e in
    let b = and_parts _ _ a.1 in
    let c = and_parts _ _ b.1 in
    let d = and_parts _ _ c.1 in
    let f = and_parts _ _ d.1 in
    record {
      len = eqb-true _ _ a.0;
      first = eqb-true _ _ b.0;
      second_from = leb-true _ _ c.0;
      second_to = ltb-true _ _ d.0;
      third_from = leb-true _ _ f.0;
      third_to = ltb-true _ _ f.1;
    }

symbols-is_in_block : list_all (λ symbol. is_in_block symbol.text) symbols ≡ true
unfolding symbols encode_utf8
symbols-is_in_block = refl

arms_of-outside : (text : List ℕ) → (IsInBlock text → ⊥) → arms_of text ≡ None
unfolding arms_of
arms_of-outside text out =
    ap (option_map (λ (symbol : Symbol). symbol.arms))
    (find-other_shape (λ symbol. symbol.text) bytes_eq (λ a b e. same_text a b (sym e)) is_in_block symbols text
    symbols-is_in_block (false_from_ne_true _ (λ e. out (IsInBlock-from text e))))

pub arms_of-len : (text : List ℕ) → length text ≢ 3 → arms_of text ≡ None
arms_of-len text h = arms_of-outside text (λ b. h b.len)

pub arms_of-first : (text : List ℕ) → get_or text 0 0 ≢ 226 → arms_of text ≡ None
arms_of-first text h = arms_of-outside text (λ b. h b.first)

pub arms_of-second_below : (text : List ℕ) → get_or text 1 0 < 148 → arms_of text ≡ None
arms_of-second_below text h = arms_of-outside text (λ b. omega arith)

pub arms_of-second_above : (text : List ℕ) → 150 ≤ get_or text 1 0 → arms_of text ≡ None
arms_of-second_above text h = arms_of-outside text (λ b. omega arith)

pub arms_of-third_below : (text : List ℕ) → get_or text 2 0 < 128 → arms_of text ≡ None
arms_of-third_below text h = arms_of-outside text (λ b. omega arith)

pub arms_of-third_above : (text : List ℕ) → 192 ≤ get_or text 2 0 → arms_of text ≡ None
arms_of-third_above text h = arms_of-outside text (λ b. omega arith)

text-is : (text : List ℕ) → IsInBlock text → text ≡ text_at ((get_or text 1 0 - 148) * 64 + (get_or text 2 0 - 128))
text-is text h = text_from_reads text _ h.len (h.first, (omega arith, (omega arith, tt)))

-- the table's entry for a character of the block
pub arms_of-in_block : (text : List ℕ) → length text ≡ 3 → get_or text 0 0 ≡ 226 → 148 ≤ get_or text 1 0 → get_or text 1 0 < 150
    → 128 ≤ get_or text 2 0 → get_or text 2 0 < 192
    → arms_of text ≡ get_or ARMS ((get_or text 1 0 - 148) * 64 + (get_or text 2 0 - 128)) None
arms_of-in_block text l f s s' t t' =
    ap arms_of (text-is text (record { len = l; first = f; second_from = s; second_to = s'; third_from = t; third_to = t' }))
    ∙ sym (get_or-ARMS _ (omega arith))

-- the arms of a text by its bytes
pub ruleset arms_by_bytes = (
  arms_of-len,
  arms_of-first,
  arms_of-second_below,
  arms_of-second_above,
  arms_of-third_below,
  arms_of-third_above,
  arms_of-in_block,
)
