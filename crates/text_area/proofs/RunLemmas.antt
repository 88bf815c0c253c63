-- Runs of bytes in a text, and where they end.
use Rattle.std.proofs.Common.{ℕ, zero, suc, get_or, add-one, ◌≡◌, ◌+◌, ◌-◌, ◌<◌, ◌≤◌, Bool, true, false, not}
use Rattle.std.proofs.Common.{List, length, take, drop, slice_range, refl, sym, ap, subst, ◌∙◌, arith, inl, inr, length-take}
use Rattle.std.proofs.lemmas.{List.take-take, List.take_all, List.drop-drop, List.length-take-le, List.length-drop}
use Rattle.std.proofs.lemmas.{List.get_or-take, List.get_or-drop, Bool.cases_lt}
use Rattle.std.proofs.lemmas.{List.Sums.prefix_len_is, List.Sums.suffix_len_is}
use Rattle.std.proofs.lemmas.{Str.IsCharBoundary-after_ascii, Str.IsCharBoundary-start}
use Rattle.std.specs.{List.prefix_len, List.suffix_len, Str.IsUtf8, Str.IsCharBoundary}
use Rattle.memchr.specs.Find.{Passes, Nowhere, NoneBefore, NoneAfter}
use Rattle.text_area.specs.Extents.{is_gap, in_word, extent_left, extent_right}
use Rattle.text_area.specs.declared.extent.Extent.TheVariants.{Word}

pub word-stop : (b : ℕ) → is_gap b ≡ true → b < 128
word-stop b is = grind arith

-- no character is cut after an ASCII character, or before one
pub boundary-after : (text : List ℕ) (n : ℕ) → IsUtf8 text → n ≤ length text
    → (0 < n → get_or text (n - 1) 0 < 128)
    → IsCharBoundary text n
boundary-after text zero utf8 le small = IsCharBoundary-start text utf8
boundary-after text (suc m) utf8 le small =
    let same : suc m - 1 ≡ m = omega arith in
    let byte : get_or text m 0 < 128 = subst (λ i. get_or text i 0 < 128) same (small (omega arith)) in
    subst (IsCharBoundary text) (add-one m) (IsCharBoundary-after_ascii text m utf8 (omega (arith, le)) byte)

-- the word before a place
pub word-left : (text : List ℕ) (at gap start : ℕ) → at ≤ length text
    → gap + suffix_len is_gap (take at text) ≡ at
    → start + suffix_len in_word (take gap text) ≡ gap
    → start + extent_left Word (take at text) ≡ at
word-left text at gap start le first second =
    let size : length (take at text) - suffix_len is_gap (take at text) ≡ gap =
    omega (arith, length-take-le at text le, first) in
    let part : take (length (take at text) - suffix_len is_gap (take at text)) (take at text)
    ≡ take gap text =
    ap (λ m. take m (take at text)) size ∙ take-take gap at text (omega (arith, first)) in
    let word : suffix_len in_word (take
    (length (take at text) - suffix_len is_gap (take at text)) (take at text))
    ≡ suffix_len in_word (take gap text) =
    ap (suffix_len in_word) part in
    omega (arith, first, second, word)

-- the word after it
pub word-right : (text : List ℕ) (at gap end : ℕ) → gap ≡ at + prefix_len is_gap (drop at text)
    → end ≡ gap + prefix_len in_word (drop gap text)
    → end ≡ at + extent_right Word (drop at text)
word-right text at gap end first second =
    let part : drop gap text ≡ drop (prefix_len is_gap (drop at text)) (drop at text) =
    ap (λ m. drop m text) first ∙ sym (drop-drop (prefix_len is_gap (drop at text)) at text) in
    let word : prefix_len in_word (drop gap text)
    ≡ prefix_len in_word (drop (prefix_len is_gap (drop at text)) (drop at text)) =
    ap (prefix_len in_word) part in
    omega (arith, first, second, word)

-- what a search finds: the last byte before a place that passes a test, or the first one after it
passes-no : (t : Bool) → ¬ (t ≡ true) → not t ≡ true
passes-no true other = absurd (other refl)
passes-no false other = refl

module _ (test : ℕ → Bool) (hay : List ℕ) where
  left-found : (n : ℕ) → NoneAfter (Passes test hay) 0 (length hay) n → Passes test hay n
      → n + 1 + suffix_len (λ b. not (test b)) hay ≡ length hay
  left-found n none found =
      let here : n ≡ n + 1 - 1 = omega arith in
      omega (
        arith,
        none.high,
        suffix_len_is (λ b. not (test b)) hay (n + 1) 0 (omega (arith, none.high))
            (λ k low high. passes-no _ (none.after k low high))
            (λ _. ap (λ i. not (test (get_or hay i 0))) (sym here) ∙ ap not found),
      )

  left-none : Nowhere (Passes test hay) 0 (length hay) → suffix_len (λ b. not (test b)) hay ≡ length hay
  left-none none = omega (
    arith,
    suffix_len_is (λ b. not (test b)) hay 0 0 (omega arith) (λ k low high. passes-no _ (none k low high))
        (λ some. absurd (omega (arith, some))),
  )

  right-found : (n : ℕ) → NoneBefore (Passes test hay) 0 (length hay) n → Passes test hay n
      → prefix_len (λ b. not (test b)) hay ≡ n
  right-found n none found =
      prefix_len_is (λ b. not (test b)) hay n 0 (omega (arith, none.high))
      (λ k lt. passes-no _ (none.before k (omega arith) lt)) (λ _. ap not found)

  right-none : Nowhere (Passes test hay) 0 (length hay) → prefix_len (λ b. not (test b)) hay ≡ length hay
  right-none none =
      prefix_len_is (λ b. not (test b)) hay (length hay) 0 (omega arith)
      (λ k lt. passes-no _ (none k (omega arith) lt)) (λ lt. absurd (omega (arith, lt)))

module _ (test : ℕ → Bool) (text bytes : List ℕ) (at : ℕ) (same : bytes ≡ text) (le : at ≤ length text) where
  size-before : length (take at bytes) ≡ at
  size-before = ap (λ t. length (take at t)) same ∙ length-take-le at text le

  module _ (n : ℕ) (none : NoneAfter (Passes test (take at bytes)) 0 (length (take at bytes)) n)
      (found : Passes test (take at bytes) n) where
    pub begin-within : n + 1 ≤ length text
    begin-within = omega (arith, none.high, size-before, le)

    pub begin-value : n + 1 + suffix_len (λ b. not (test b)) (take at text) ≡ at
    begin-value =
        ap (λ t. n + 1 + suffix_len (λ b. not (test b)) (take at t)) (sym same)
        ∙ left-found test (take at bytes) n none found ∙ size-before

    pub begin-stops : test (get_or text (n + 1 - 1) 0) ≡ true
    begin-stops =
        let here : n + 1 - 1 ≡ n = omega arith in
        ap (λ i. test (get_or text i 0)) here ∙ ap (λ t. test (get_or t n 0)) (sym same)
        ∙ ap test (sym (get_or-take at bytes n 0 (omega (arith, none.high, size-before)))) ∙ found

  pub begin-none : Nowhere (Passes test (take at bytes)) 0 (length (take at bytes))
      → 0 + suffix_len (λ b. not (test b)) (take at text) ≡ at
  begin-none none = omega (
    arith,
    ap (λ t. suffix_len (λ b. not (test b)) (take at t)) same,
    left-none test (take at bytes) none,
    size-before,
  )

  abbrev pub rest : List ℕ
  rest = slice_range bytes at (length bytes)

  rest-is : rest ≡ drop at text
  rest-is = take_all (length bytes - at) (drop at bytes) (omega (arith, length-drop at bytes)) ∙ ap (drop at) same

  size-after : length rest + at ≡ length text
  size-after = omega (arith, ap length rest-is, length-drop at text, le)

  module _ (n : ℕ) (none : NoneBefore (Passes test rest) 0 (length rest) n) (found : Passes test rest n) where
    pub end-value : at + n ≡ at + prefix_len (λ b. not (test b)) (drop at text)
    end-value = omega (
      arith,
      ap (prefix_len (λ b. not (test b))) rest-is,
      right-found test rest n none found,
    )

    pub end-stops : test (get_or text (at + n) 0) ≡ true
    end-stops =
        ap test (sym (get_or-drop at text n 0)) ∙ ap (λ t. test (get_or t n 0)) (sym rest-is) ∙ found

  pub end-none : Nowhere (Passes test rest) 0 (length rest)
      → length text ≡ at + prefix_len (λ b. not (test b)) (drop at text)
  end-none none = omega (
    arith,
    ap (prefix_len (λ b. not (test b))) rest-is,
    right-none test rest none,
    size-after,
  )

-- a run, block by block
module _ (p : ℕ → Bool) (bytes part : List ℕ) (start more : ℕ) (le : start + more ≤ length bytes)
    (is : part ≡ slice_range bytes start (start + more)) (all : (k : ℕ) → k < length part → p (get_or part k 0) ≡ true) where
  pub block-byte : (k : ℕ) → start ≤ k → k < start + more → p (get_or bytes k 0) ≡ true
  block-byte k from to =
      let there : start + (k - start) ≡ k = omega (arith, from) in
      let size : length part ≡ more =
      omega (arith, ap length is, length-take (start + more - start) (drop start bytes), length-drop start bytes, le) in
      let byte : get_or part (k - start) 0 ≡ get_or bytes k 0 =
      ap (λ t. get_or t (k - start) 0) is
      ∙ get_or-take (start + more - start) (drop start bytes) (k - start) 0 (omega (arith, from, to))
      ∙ get_or-drop start bytes (k - start) 0 ∙ ap (λ i. get_or bytes i 0) there in
      ap p (sym byte) ∙ all (k - start) (omega (arith, size, from, to))

pub run-joined : (p : ℕ → Bool) (bytes : List ℕ) (a b c : ℕ)
    → ((k : ℕ) → a ≤ k → k < b → p (get_or bytes k 0) ≡ true)
    → ((k : ℕ) → b ≤ k → k < c → p (get_or bytes k 0) ≡ true)
    → (k : ℕ) → a ≤ k → k < c → p (get_or bytes k 0) ≡ true
run-joined p bytes a b c first second k from to = elim (cases_lt k b) [
  | inl before ↦ first k from before
  | inr after ↦ second k after to
]

-- and how long it is
pub run-right : (p : ℕ → Bool) (bytes : List ℕ) (start end : ℕ) → start ≤ end → end ≤ length bytes
    → ((k : ℕ) → start ≤ k → k < end → p (get_or bytes k 0) ≡ true)
    → (end < length bytes → p (get_or bytes end 0) ≡ false)
    → end ≡ start + prefix_len p (drop start bytes)
run-right p bytes start end order le all stops =
    let there : start + (end - start) ≡ end = omega (arith, order) in
    omega (
      arith,
      order,
      prefix_len_is p (drop start bytes) (end - start) 0 (omega (arith, length-drop start bytes, le))
          (λ k lt. ap p (get_or-drop start bytes k 0) ∙ all (start + k) (omega arith) (omega (arith, lt)))
          (λ lt. ap p (get_or-drop start bytes (end - start) 0 ∙ ap (λ i. get_or bytes i 0) there)
          ∙ stops (omega (arith, lt, length-drop start bytes, order))),
    )

pub run-left : (p : ℕ → Bool) (bytes : List ℕ) (start end : ℕ) → start ≤ end → end ≤ length bytes
    → ((k : ℕ) → start ≤ k → k < end → p (get_or bytes k 0) ≡ true)
    → (0 < start → p (get_or bytes (start - 1) 0) ≡ false)
    → start + suffix_len p (take end bytes) ≡ end
run-left p bytes start end order le all stops =
    let size = length-take-le end bytes le in
    omega (
      arith,
      order,
      size,
      suffix_len_is p (take end bytes) start 0 (omega (arith, size, order))
          (λ k low high. ap p (get_or-take end bytes k 0 (omega (arith, size, high))) ∙ all k low (omega (arith, size, high)))
          (λ some. ap p (get_or-take end bytes (start - 1) 0 (omega (arith, some, order))) ∙ stops some),
    )

pub ruleset length_rules = (run-right, run-left)

pub ruleset run_rules = (word-stop, boundary-after)
