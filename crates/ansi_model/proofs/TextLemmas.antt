-- Text, read as it is sent.
use Rattle.std.proofs.Common.{◌≡◌, ℕ, ◌+◌, ◌/◌, ◌%◌, ◌≤◌, ◌&&◌, not, cond, ltb, List, [], ◌∷◌, Bool, true, false, IsTrue, IsUtf8}
use Rattle.std.proofs.Common.{chars, refl, sym, ap, ◌∙◌, arith, ◌==◌, append_assoc, append-nil, ◌<◌, ◌++◌, length, suc, Some}
use Rattle.std.proofs.Common.{None, if◌then◌else◌}
use Rattle.std.proofs.lemmas.{Bool.and_parts, Bool.and_right, Bool.Decides.nat_tests, List.Folds.list_all-append}
use lib.Utf8.{encode, encodes}
use Rattle.std.specs.{List.list_all, List.flat_map, Str.is_utf8}
use Rattle.std.proofs.lemmas.Str.{chars-nil, chars-encodes, chars_past_char, encodes-chars, IsUtf8-past_char, IsUtf8-from_is_utf8}
use Rattle.std.proofs.lemmas.Str.{is_utf8-from_IsUtf8}
use Rattle.unicode_segmentation.specs.{Grapheme.graphemes, Grapheme.is_grapheme_break, Segments.segments, Segments.cut}
use Rattle.ratatui_core.specs.Buffer.{blank}
use Rattle.ansi_model.specs.{Columns.Column, Columns.blank_column, Columns.is_known_column, Columns.Column.Shows}
use Rattle.ansi_model.specs.{Columns.Column.Unknown, Screens.HasOwnWidth}
use Rattle.ansi_model.specs.Symbols.{only_of, printed_columns, is_control, is_directional, is_shown, is_plain_char, is_symbol}
use Rattle.ansi_model.specs.Symbols.{is_single, begins_anew}
use Rattle.ansi_model.specs.{Emulator.Emulator, Emulator.rested, Emulator.Phase.Ground, Emulator.Phase.Told, Sequences.feed}
use Rattle.ansi_model.specs.{Sequences.reads_in, Sequences.is_text, Sends.typed, Commands.shown_char, Commands.shown_text}
use Rattle.ansi_model.specs.{Commands.title_bytes, Commands.titled_bytes, Commands.command_bytes}
use Rattle.ansi_model.specs.declared.command.Command.TheVariants.{KeepTitle}
use Rattle.ansi_model.proofs.ReadLemmas.{feed-append, and-true, command-read}

one-text : (b : ℕ) → is_text b ≡ true → (t : Emulator) → reads_in Ground b t ≡ typed (b ∷ []) t
one-text b is t =
    let e : (b == 27) ≡ false = grind (arith, nat_tests) in
    rw (e, is) refl

-- text is kept as it is read
pub text-read : (bs : List ℕ) → list_all is_text bs ≡ true → (t : Emulator) → t.phase ≡ Ground → feed bs t ≡ typed bs t
unfolding feed
text-read [] all t ground = ap (λ xs. record t { text = xs }) (sym (append-nil t.text))
text-read (b ∷ bs) all t ground =
    let both = and_parts (is_text b) (list_all is_text bs) all in
    ap (λ p. feed bs (reads_in p b t)) ground
    ∙ ap (feed bs) (one-text b both.0 t)
    ∙ text-read bs both.1 (typed (b ∷ []) t) ground
    ∙ ap (λ xs. record t { text = xs }) (append_assoc t.text (b ∷ []) bs)

-- a byte that isn't one of ASCII
high : (b : ℕ) → 128 ≤ b → is_text b ≡ true
high b big = grind (arith, nat_tests)

one-of : (p q r : Bool) (ws bs cs ds : List ℕ) → list_all is_text ws ≡ true → list_all is_text bs ≡ true
    → list_all is_text cs ≡ true → list_all is_text ds ≡ true
    → list_all is_text (cond p ws (cond q bs (cond r cs ds))) ≡ true
one-of true q r ws bs cs ds a b c d = a
one-of false true r ws bs cs ds a b c d = b
one-of false false true ws bs cs ds a b c d = c
one-of false false false ws bs cs ds a b c d = d

-- a character that is no control character of ASCII has bytes of text
encode-text : (c : ℕ) → is_text c ≡ true → list_all is_text (encode c) ≡ true
unfolding encode
encode-text c is =
    let a1 = high (128 + c % 64) (omega arith) in
    let a2 = high (128 + c / 64 % 64) (omega arith) in
    let a3 = high (128 + c / 4096 % 64) (omega arith) in
    one-of (ltb c 128) (ltb c 2048) (ltb c 65536) _ _ _ _
    (rw is refl)
    (rw (high (192 + c / 64) (omega arith), a1) refl)
    (rw (high (224 + c / 4096) (omega arith), a2, a1) refl)
    (rw (high (240 + c / 262144) (omega arith), a3, a2, a1) refl)

-- nor is one that is shown
shown-text : (c : ℕ) → is_shown c ≡ true → list_all is_text (encode c) ≡ true
shown-text c is =
    let shown = and_parts (not (is_control c)) (not (is_directional c)) is in
    let control : not (is_control c) ≡ true = shown.0 in
    let text : is_text c ≡ true = grind (arith, nat_tests) in
    encode-text c text

encodes-text : (cs : List ℕ) → list_all is_shown cs ≡ true → list_all is_text (encodes cs) ≡ true
encodes-text [] all = refl
encodes-text (c ∷ cs) all =
    let both = and_parts (is_shown c) (list_all is_shown cs) all in
    list_all-append is_text (encode c) (encodes cs) ∙ rw (shown-text c both.0, encodes-text cs both.1) refl

-- so are those of a text without control characters
shown-one : (c : ℕ) → list_all is_text (shown_char c) ≡ true
shown-one c =
    elim (is_shown c) as (λ v. is_shown c ≡ v → list_all is_text (if v then encode c else []) ≡ true) [
      | true ↦ λ shown. shown-text c shown
      | false ↦ λ hidden. refl
    ] refl

shown-all : (cs : List ℕ) → list_all is_text (flat_map shown_char cs) ≡ true
shown-all [] = refl
shown-all (c ∷ cs) = list_all-append is_text (shown_char c) (flat_map shown_char cs) ∙ rw (shown-one c, shown-all cs) refl

one-told : (b : ℕ) → is_text b ≡ true → (t : Emulator) → reads_in Told b t ≡ t
one-told b is t =
    let e : (b == 27) ≡ false = grind (arith, nat_tests) in
    rw (e, is) refl

told-read : (bs : List ℕ) → list_all is_text bs ≡ true → (t : Emulator) → t.phase ≡ Told → feed bs t ≡ t
unfolding feed
told-read [] all t told = refl
told-read (b ∷ bs) all t told =
    let both = and_parts (is_text b) (list_all is_text bs) all in
    ap (λ p. feed bs (reads_in p b t)) told ∙ ap (feed bs) (one-told b both.0 t) ∙ told-read bs both.1 t told

-- a title changes nothing on the screen
pub title-read : (title : List ℕ) (t : Emulator) → t.phase ≡ Ground → feed (title_bytes title) t ≡ rested t
unfolding feed
title-read title t ground =
    let text = shown_text title in
    let s : Emulator = record (rested t) { phase = Told } in
    ap (λ p. feed (93 ∷ 50 ∷ 59 ∷ (text ++ 27 ∷ 92 ∷ [])) (reads_in p 27 t)) ground
    ∙ feed-append text (27 ∷ 92 ∷ []) s ∙ ap (feed (27 ∷ 92 ∷ [])) (told-read text (shown-all (chars title)) s refl)

-- nor does one before which the window's own is kept
pub titled-read : (is_first : Bool) (title : List ℕ) (t : Emulator) → t.phase ≡ Ground
    → feed (titled_bytes is_first title) t ≡ rested t
titled-read false title t ground = title-read title t ground
titled-read true title t ground = feed-append (command_bytes KeepTitle) (title_bytes title) t
    ∙ ap (feed (title_bytes title)) (command-read KeepTitle t ground) ∙ title-read title (rested t) refl

-- a symbol's bytes are bytes of text
pub symbol-text : (text : List ℕ) → IsTrue (is_symbol text) → list_all is_text text ≡ true
symbol-text text is =
    let e : is_symbol text ≡ true = grind (arith, nat_tests) in
    let utf8 = and_parts (is_utf8 text) _ (and_parts _ (begins_anew (chars text))
    (and_parts _ (is_single (graphemes true text)) e).0).0 in
    ap (list_all is_text) (sym (encodes-chars text (IsUtf8-from_is_utf8 text utf8.0))) ∙ encodes-text (chars text) utf8.1

-- and so are those of a plain character
pub plain-text : (c : ℕ) → IsTrue (is_plain_char c) → list_all is_text (encode c) ≡ true
plain-text c plain =
    let text : is_text c ≡ true = grind (arith, nat_tests) in
    encode-text c text

-- a text of one character is one grapheme
pub one-single : (text : List ℕ) (c : ℕ) → chars text ≡ c ∷ [] → is_single (graphemes true text) ≡ true
unfolding segments cut is_grapheme_break
one-single text c one = rw one refl

-- what the characters of a text say of it
pub symbol-then : (text : List ℕ) → IsUtf8 text → begins_anew (chars text) ≡ true
    → is_symbol text ≡ (list_all is_shown (chars text) && is_single (graphemes true text))
symbol-then text utf8 begins = rw (is_utf8-from_IsUtf8 text utf8, begins) (ap (λ b. b && is_single (graphemes true text))
    (and-true (list_all is_shown (chars text))))

pub symbol-else : (text : List ℕ) → begins_anew (chars text) ≡ false → is_symbol text ≡ false
symbol-else text begins = rw begins (ap (λ b. b && is_single (graphemes true text))
    (and_right (is_utf8 text && list_all is_shown (chars text)) false refl))

-- ---- the character of a text that has only one

pub only-first : (text rest : List ℕ) (c : ℕ) → IsUtf8 text → text ≡ encode c ++ rest → length rest ≡ 0
    → Some c ≡ only_of (chars text)
only-first text [] c utf8 e none = rw (chars_past_char text [] c utf8 e, chars-nil) refl
only-first text (b ∷ bs) c utf8 e none = let some : length (b ∷ bs) ≡ suc (length bs) = refl in absurd (omega arith)

two-or-more : (c : ℕ) (cs rest : List ℕ) → encodes cs ≡ rest → 0 < length rest → None ≡ only_of (c ∷ cs)
two-or-more c [] rest e some = let none : length rest ≡ 0 = ap length (sym e) in absurd (omega arith)
two-or-more c (d ∷ cs) rest e some = refl

pub only-more : (text rest : List ℕ) (c : ℕ) → IsUtf8 text → text ≡ encode c ++ rest → 0 < length rest
    → None ≡ only_of (chars text)
only-more text rest c utf8 e some =
    rw (chars_past_char text rest c utf8 e)
    (two-or-more c (chars rest) rest (encodes-chars rest (IsUtf8-past_char text rest c utf8 e)) some)

pub only-none : (text : List ℕ) → length text ≡ 0 → None ≡ only_of (chars text)
only-none [] none = rw chars-nil refl
only-none (b ∷ bs) none = let some : length (b ∷ bs) ≡ suc (length bs) = refl in absurd (omega arith)

-- ---- the blank

pub blank-chars : chars blank ≡ 32 ∷ []
unfolding encode
blank-chars = chars-encodes (32 ∷ []) refl

pub blank-one : printed_columns blank ≡ 1
blank-one = rw blank-chars refl

pub blank-sized : HasOwnWidth blank_column
blank-sized = sym blank-one

pub sized-known : (c : Column) → HasOwnWidth c → is_known_column c ≡ true
sized-known (Shows look index count) takes = refl
sized-known Unknown none = absurd none
