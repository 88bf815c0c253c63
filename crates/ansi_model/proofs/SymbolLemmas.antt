-- How terminals print symbols.
use Rattle.std.proofs.Common.{◌≡◌, ℕ, ◌&&◌, ◌||◌, not, Bool, List, [], ◌∷◌, ◌++◌, ◌==◌, length, IsUtf8, chars, true, false, refl}
use Rattle.std.proofs.Common.{sym, ap, ◌∙◌, arith, append-nil, drop, if◌then◌else◌}
use Rattle.std.proofs.lemmas.{Bool.and_parts, Bool.not-true, Bool.Decides.nat_tests, List.Folds.list_all-append}
use lib.Utf8.{scalar, encode, encodes, low_scalar}
use Rattle.std.specs.{List.list_all, List.list_any, Str.is_utf8}
use Rattle.std.proofs.lemmas.Str.{chars-nil, chars-append, chars-encodes, encodes-chars, IsUtf8-encode, IsUtf8-nil}
use Rattle.std.proofs.lemmas.Str.{IsUtf8-from_is_utf8, is_utf8-from_IsUtf8}
use Rattle.unicode_segmentation.specs.Grapheme.{graphemes}
use Rattle.ratatui_core.specs.Buffer.{text_width}
use Rattle.ansi_model.specs.Emulator.{Emulator, standing, rested, if_so, unsure, by_modes, printed, printed_alike, prints}
use Rattle.ansi_model.specs.Emulator.{prints_disputed, prints_whole, types}
use Rattle.ansi_model.specs.Symbols.{is_plain_char, is_shown, is_symbol, is_single, begins_anew, is_one_plain, is_printed}
use Rattle.ansi_model.specs.Symbols.{is_disputed, printed_columns}
use Rattle.ansi_model.specs.Sends.{typed}
use Rattle.ansi_model.specs.Modes.{Modes, no_modes, has_none}
use Rattle.ansi_model.proofs.{ReadLemmas.and-true, TextLemmas.one-single}

-- how plain characters are printed one after the other
types-append : (xs ys : List ℕ) (t : Emulator) → types (xs ++ ys) t ≡ types ys (types xs t)
types-append [] ys t = refl
types-append (x ∷ xs) ys t = types-append xs ys (prints (encode x) 1 t)

types-text : (xs text : List ℕ) (t : Emulator) → types xs (record t { text = text }) ≡ record (types xs t) { text = text }
types-text [] text t = refl
types-text (x ∷ xs) text t = types-text xs text (prints (encode x) 1 t)

-- in no mode text is printed alike by all terminals
in-no-mode : (m : Modes) (t : Emulator) → m ≡ no_modes → by_modes m t ≡ t
in-no-mode m t e = ap (λ n. by_modes n t) e

printed-plain : (xs : List ℕ) (t : Emulator) → t.modes ≡ no_modes → list_all is_plain_char (chars xs) ≡ true
    → printed xs t ≡ types (chars xs) t
printed-plain [] t modes e = ap (λ cs. types cs t) (sym chars-nil)
printed-plain (x ∷ xs) t modes e = in-no-mode t.modes (printed_alike (x ∷ xs) t) modes ∙ rw e refl

-- printing changes no modes
types-modes : (cs : List ℕ) (t : Emulator) → (types cs t).modes ≡ t.modes
types-modes [] t = refl
types-modes (c ∷ cs) t = types-modes cs (prints (encode c) 1 t)

either-modes : (p : Bool) (s t u : Emulator) → s.modes ≡ u.modes → t.modes ≡ u.modes → (if p then s else t).modes ≡ u.modes
either-modes true s t u e f = e
either-modes false s t u e f = f

printed-modes : (text : List ℕ) (t : Emulator) → (printed text t).modes ≡ t.modes
printed-modes [] t = refl
printed-modes (b ∷ bs) t =
    let text = b ∷ bs in
    let whole : (prints_whole text (text_width text) t).modes ≡ t.modes = either-modes (is_disputed text)
    (prints_disputed text (text_width text) t) (prints text (text_width text) t) t refl refl in
    let alike : (printed_alike text t).modes ≡ t.modes
    = either-modes (list_all is_plain_char (chars text)) (types (chars text) t)
    (if_so (is_symbol text) (prints_whole text (text_width text) t)) t (types-modes (chars text) t) whole in
    either-modes (has_none t.modes) (printed_alike text t) (unsure (printed_alike text t)) t alike alike

pub rested-modes : (t : Emulator) → (rested t).modes ≡ t.modes
rested-modes t = printed-modes t.text t

-- a text of one plain character
pub one-char : (cs : List ℕ) → is_one_plain cs ≡ true → (c : ℕ) × ((cs ≡ c ∷ []) × (is_plain_char c ≡ true))
one-char [] e = let h : ⊥ = cc in absurd h
one-char (c ∷ []) e = (c, (refl, sym (and-true (is_plain_char c)) ∙ e))
one-char (c ∷ d ∷ cs) e =
    let two : (length (c ∷ d ∷ cs) == 1) ≡ false = grind (arith, nat_tests) in
    let h : ⊥ = cc in
    absurd h

plain-shown : (c : ℕ) → is_plain_char c ≡ true → is_shown c ≡ true
plain-shown c plain = grind (arith, nat_tests)

-- a symbol is text in UTF-8
pub symbol-utf8 : (symbol : List ℕ) → is_symbol symbol ≡ true → IsUtf8 symbol
symbol-utf8 symbol is = IsUtf8-from_is_utf8 symbol (and_parts (is_utf8 symbol) _ (and_parts _ (begins_anew (chars symbol))
    (and_parts _ (is_single (graphemes true symbol)) is).0).0).0

pub one-encoded : (symbol : List ℕ) (c : ℕ) → IsUtf8 symbol → chars symbol ≡ c ∷ [] → encode c ≡ symbol
one-encoded symbol c utf8 e = sym (append-nil (encode c)) ∙ ap encodes (sym e) ∙ encodes-chars symbol utf8

-- a plain character after plain text is printed after it
pub after-standing : (symbol : List ℕ) (t : Emulator) → is_symbol symbol ≡ true → is_one_plain (chars symbol) ≡ true
    → t.modes ≡ no_modes → IsUtf8 t.text → list_all is_plain_char (chars t.text) ≡ true
    → standing (typed symbol t) ≡ prints symbol 1 (standing t)
after-standing symbol t is one modes utf8 plain =
    let found = one-char (chars symbol) one in
    let c = found.0 in
    let e : chars symbol ≡ c ∷ [] = found.1.0 in
    let text = t.text ++ symbol in
    let all_chars : chars text ≡ chars t.text ++ c ∷ [] = chars-append t.text symbol utf8 ∙ ap (λ cs. chars t.text ++ cs) e in
    let all : list_all is_plain_char (chars text) ≡ true = ap (list_all is_plain_char) all_chars
    ∙ list_all-append is_plain_char (chars t.text) (c ∷ []) ∙ rw (plain, found.1.1) refl in
    ap (λ (v : Emulator). record v { text = [] }) (printed-plain text (typed symbol t) modes all
    ∙ ap (λ cs. types cs (typed symbol t)) all_chars
    ∙ types-append (chars t.text) (c ∷ []) (typed symbol t) ∙ ap (prints (encode c) 1) (types-text (chars t.text) text t))
    ∙ ap (λ (v : Emulator). prints (encode c) 1 (record v { text = [] })) (sym (printed-plain t.text t modes plain))
    ∙ ap (λ bs. prints bs 1 (standing t)) (one-encoded symbol c (symbol-utf8 symbol is) e)

printed-other : (symbol : List ℕ) (t : Emulator) → t.modes ≡ no_modes → is_symbol symbol ≡ true
    → list_all is_plain_char (chars symbol) ≡ false → printed symbol t ≡ prints_whole symbol (text_width symbol) t
printed-other [] t modes is other =
    let e : list_all is_plain_char (chars []) ≡ true = ap (list_all is_plain_char) chars-nil in
    let h : ⊥ = cc in
    absurd h
printed-other (b ∷ bs) t modes is other =
    let u : Emulator = prints_whole (b ∷ bs) (text_width (b ∷ bs)) t in
    in-no-mode t.modes (printed_alike (b ∷ bs) t) modes
    ∙ rw other (ap (λ v. record u { sure = v }) (ap (λ v. u.sure && v) is ∙ and-true u.sure))

-- a symbol that isn't one plain character, and stands alone between two sequences
whole-standing : (symbol : List ℕ) (t : Emulator) → t.modes ≡ no_modes → is_printed symbol ≡ true → t.text ≡ []
    → is_one_plain (chars symbol) ≡ false
    → standing (typed symbol t) ≡ prints_whole symbol (text_width symbol) (standing t)
whole-standing symbol t modes is none many =
    let both = and_parts (is_symbol symbol) (is_one_plain (chars symbol) || not (list_all is_plain_char (chars symbol))) is in
    let not_plain : not (list_all is_plain_char (chars symbol)) ≡ true = rw many at both.1 in
    let other : list_all is_plain_char (chars symbol) ≡ false = not-true (list_all is_plain_char (chars symbol)) not_plain in
    let text : t.text ++ symbol ≡ symbol = ap (λ xs. xs ++ symbol) none in
    let rests : prints_whole symbol (text_width symbol) (record t { text = symbol }) ≡ record
    (prints_whole symbol (text_width symbol) t) { text = symbol } = whole-text symbol symbol (text_width symbol) t in
    ap (λ xs. record (printed xs (record t { text = xs })) { text = [] }) text
    ∙ ap (λ (v : Emulator). record v { text = [] }) (printed-other symbol (record t { text = symbol }) modes both.0 other ∙ rests)
    ∙ sym (whole-text symbol [] (text_width symbol) t)
    ∙ sym (ap (λ xs. prints_whole symbol (text_width symbol) (record (printed xs t) { text = [] })) none)
  where
    whole-text : (xs text : List ℕ) (n : ℕ) (v : Emulator)
        → prints_whole xs n (record v { text = text }) ≡ record (prints_whole xs n v) { text = text }
    whole-text xs text n v =
        elim (is_disputed xs) as (λ d. (if d then prints_disputed xs n (record v { text = text }) else prints xs n
        (record v { text = text }))
        ≡ record (if d then prints_disputed xs n v else prints xs n v) { text = text }) [ true ↦ refl | false ↦ refl ]

-- one plain character isn't disputed
pub one-undisputed : (symbol : List ℕ) → is_one_plain (chars symbol) ≡ true → is_disputed symbol ≡ false
one-undisputed symbol one = let found = one-char (chars symbol) one in
    ap (λ cs. list_any (λ c. c == 0xFE0F) (drop 1 cs)) found.1.0

-- a symbol that stands alone between two sequences
pub alone-standing : (symbol : List ℕ) (t : Emulator) → t.modes ≡ no_modes → is_printed symbol ≡ true → is_disputed symbol ≡ false
    → t.text ≡ []
    → standing (typed symbol t) ≡ prints symbol (printed_columns symbol) (standing t)
alone-standing symbol t modes is agreed none =
    let both = and_parts (is_symbol symbol) (is_one_plain (chars symbol) || not (list_all is_plain_char (chars symbol))) is in
    elim (is_one_plain (chars symbol)) as (λ v. is_one_plain (chars symbol) ≡ v → standing (typed symbol t) ≡ prints symbol
    (if v then 1 else text_width symbol) (standing t)) [
      | true ↦ λ one. after-standing symbol t both.0 one modes (rw none IsUtf8-nil)
          (rw none (ap (list_all is_plain_char) chars-nil))
      | false ↦ λ many.
          whole-standing symbol t modes is none many
          ∙ ap (λ d. if d then prints_disputed symbol (text_width symbol) (standing t) else prints symbol (text_width symbol)
          (standing t)) agreed
    ] refl

pub alone-disputed : (symbol : List ℕ) (t : Emulator) → t.modes ≡ no_modes → is_printed symbol ≡ true → is_disputed symbol ≡ true
    → t.text ≡ []
    → standing (typed symbol t) ≡ prints_disputed symbol (printed_columns symbol) (standing t)
alone-disputed symbol t modes is disputed none =
    elim (is_one_plain (chars symbol)) as (λ v. is_one_plain (chars symbol) ≡ v
    → standing (typed symbol t) ≡ prints_disputed symbol (if v then 1 else text_width symbol) (standing t)) [
      | true ↦ λ one. let agreed = one-undisputed symbol one in let h : ⊥ = cc in absurd h
      | false ↦ λ many.
          whole-standing symbol t modes is none many
          ∙ ap (λ d. if d then prints_disputed symbol (text_width symbol) (standing t) else prints symbol (text_width symbol)
          (standing t)) disputed
    ] refl

-- ---- a plain character

plain-scalar : (c : ℕ) → is_plain_char c ≡ true → scalar c ≡ true
plain-scalar c plain = low_scalar c (grind (arith, nat_tests))

plain-chars : (c : ℕ) → is_plain_char c ≡ true → chars (encode c) ≡ c ∷ []
plain-chars c plain = ap chars (sym (append-nil (encode c))) ∙ chars-encodes (c ∷ []) (rw (plain-scalar c plain) refl)

-- one printed as a symbol
pub plain-printed : (c : ℕ) → is_plain_char c ≡ true → is_printed (encode c) ≡ true
plain-printed c plain = rw (
  one-single (encode c) c (plain-chars c plain),
  plain-chars c plain,
  is_utf8-from_IsUtf8 (encode c)
      (IsUtf8-encode c (plain-scalar c plain)),
  plain,
  plain-shown c plain,
) refl

pub plain-single : (c : ℕ) → is_plain_char c ≡ true → is_one_plain (chars (encode c)) ≡ true
plain-single c plain = rw (plain-chars c plain, plain) refl
