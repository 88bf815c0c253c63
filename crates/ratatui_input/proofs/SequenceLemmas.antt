-- The events of a sequence.
use Rattle.std.proofs.Common.{◌≡◌, ◌≢◌, ◌⊎◌, inl, inr, ℕ, ◌-◌, ◌≤◌, Bool, true, false, List, [], ◌∷◌, Option, Some, None, refl}
use Rattle.std.proofs.Common.{sym, subst, arith}
use Rattle.std.specs.Prelude.{nat_lt, nat_le, if◌then◌else◌, ◌==◌, ◌&&◌, ◌||◌}
use Rattle.std.proofs.lemmas.Bool.{cases_lt}
use Rattle.std.proofs.lemmas.Bool.Decides.{nat_tests}
use Rattle.ratatui_events.specs.declared.event.Event.TheVariants.{FocusGained, FocusLost, PasteBegun, PasteEnded, Size, Position}
use Rattle.ratatui_events.specs.declared.event.Event.TheVariants.{Unknown}
use Rattle.ratatui_events.specs.declared.key.KeyCode.{KeyCode}
use Rattle.ratatui_events.specs.declared.key.KeyCode.TheVariants.{Enter}
use Rattle.ratatui_events.specs.declared.mouse.MouseEventKind.{MouseEventKind}
use Rattle.ratatui_input.specs.declared.sequence.Sequence.{Sequence}
use Rattle.ratatui_input.specs.Keys.{letter_key, number_key, code_key, tab_key}
use Rattle.ratatui_input.specs.KeyTables.{IsLetter, IsTilde}
use Rattle.ratatui_input.specs.Mouse.{mouse_kind, mouse_event, kind_told}
use Rattle.ratatui_input.specs.Grammar.{csi, key_told, letter_told, code_told, mouse_told}
use Rattle.ratatui_input.specs.Sequences.{kind_of, keys_event, pointer_event, letter_event, tilde_event, code_event, size_event}
use Rattle.ratatui_input.specs.Sequences.{position_event, key_event, letter_code_event, code_key_event, number_key_event}
use Rattle.ratatui_input.specs.Pieces.{HasNumbers, HasText, IsCodePoint}
use Rattle.std.specs.Char.{IsScalar, is_control}
use Rattle.ratatui_input.specs.Keys.{plain_character, is_scalar}
use Rattle.ratatui_input.specs.Grammar.{told_character}
use Rattle.ratatui_input.specs.Sequences.{typed_event, told_key_event, text_event, told_code_event}
use Rattle.ratatui_input.proofs.ToldLemmas.{told-is, told-many, typed-is, typed-many}
use Rattle.ratatui_input.specs.Pieces.{any_letter, any_tilde, any_code, any_other, any_begun, any_ended, any_size, any_position}
use Rattle.ratatui_input.specs.Pieces.{any_plain_mouse, any_down, any_up, any_gained, any_lost, any_text}
use Rattle.ratatui_input.proofs.TableLemmas.{letter-is}
use Rattle.ratatui_input.proofs.NothingLemmas.{letter-too-many}
use Rattle.ratatui_input.proofs.StandLemmas.{Stands, if-stands, same, differ, not-below, numbers_stand, not_known}
use Rattle.ratatui_input.proofs.CodeLemmas.{LetterOrEnter, letter-of, tilde-of, IsCodeOf, code-of, scalar-is}

pub csi-some : (body : List ℕ) (last : ℕ) → csi body last ≢ []
csi-some body last e = cc

-- a key, if no more is held than there is to hold
key-stands : {bytes : List ℕ} (k : ℕ) (code : KeyCode) (is_keypad : Bool) (m : ℕ) → bytes ≢ []
    → (m ≤ 256 → Stands bytes (key_told code is_keypad m (kind_of k)))
    → Stands bytes (key_event k code is_keypad m)
unfolding key_event
key-stands k code is_keypad m some h =
    if-stands (nat_lt 256 m) Unknown (key_told code is_keypad m (kind_of k)) (λ e. not_known some) (λ e. h (not-below 256 m e))

-- a key with a letter
letter-stands : {bytes : List ℕ} {b : ℕ} {code : KeyCode} (k m : ℕ) → bytes ≢ [] → IsLetter b code
    → (m ≤ 256 → Stands bytes (letter_told code m (kind_of k)))
    → Stands bytes (letter_code_event (Some code) k m)
letter-stands {bytes = bytes} k m some letter h =
    elim (cases_lt 256 m) [
      | inl many ↦ subst (Stands bytes) (sym (letter-too-many letter k m many)) (not_known some)
      | inr small ↦ subst (Stands bytes) (sym (letter-is letter k m small)) (h small)
    ]

pub letter-answer : {bytes : List ℕ} (b : ℕ) (o : Option KeyCode) (k m : ℕ) → bytes ≢ []
    → ((code : KeyCode) → o ≡ Some code → LetterOrEnter b code)
    → ((code : KeyCode) → IsLetter b code → m ≤ 256 → Stands bytes (letter_told code m (kind_of k)))
    → (b ≡ 77 → m ≤ 256 → Stands bytes (key_told Enter false m (kind_of k)))
    → Stands bytes (letter_code_event o k m)
letter-answer b None k m some which h enter = not_known some
letter-answer {bytes = bytes} b (Some code) k m some which h enter =
    elim (which code refl) [
      | inl letter ↦ letter-stands k m some letter (h code letter)
      | inr (at_enter, is) ↦ subst (λ (c : KeyCode). Stands bytes (letter_code_event (Some c) k m)) (sym is)
          (key-stands k Enter false m some (enter at_enter))
    ]

tilde-answer : {bytes : List ℕ} (n : ℕ) (o : Option KeyCode) (k m : ℕ) → bytes ≢ []
    → ((code : KeyCode) → o ≡ Some code → IsTilde n code)
    → ((code : KeyCode) → IsTilde n code → m ≤ 256 → Stands bytes (key_told code false m (kind_of k)))
    → Stands bytes (number_key_event o k m)
tilde-answer n None k m some which h = not_known some
tilde-answer n (Some code) k m some which h = key-stands k code false m some (h code (which code refl))

code-answer : {bytes : List ℕ} (n : ℕ) (o : Option (KeyCode × Bool)) (k m : ℕ) → bytes ≢ [] → IsCodeOf n o
    → ((code : KeyCode) (is_keypad : Bool) → IsCodePoint n code is_keypad → m ≤ 256
    → Stands bytes (code_told code is_keypad m (kind_of k)))
    → Stands bytes (code_key_event o k m)
code-answer n None k m some which h = not_known some
code-answer n (Some key) k m some which h = key-stands k (tab_key key.0 m) key.1 m some (h key.0 key.1 which)

-- the mouse
mouse-answer : {bytes : List ℕ} (o : Option MouseEventKind) (n x y : ℕ) → bytes ≢ []
    → ((kind : MouseEventKind) → o ≡ Some kind → Stands bytes (mouse_told kind n x y))
    → Stands bytes (kind_told o n x y)
mouse-answer None n x y some h = not_known some
mouse-answer (Some kind) n x y some h = h kind refl

within-all : (n x y : ℕ) → (nat_le n 255 && (nat_le x 65535 && nat_le y 65535)) ≡ true → (n ≤ 255) × (x ≤ 65535) × (y ≤ 65535)
within-all n x y h = grind (arith, nat_tests)

pub mouse-stands : {bytes : List ℕ} (n x y : ℕ) (is_up : Bool) → bytes ≢ []
    → ((kind : MouseEventKind) → n ≤ 255 → x ≤ 65535 → y ≤ 65535 → mouse_kind n is_up ≡ Some kind
    → Stands bytes (mouse_told kind n x y))
    → Stands bytes (mouse_event n x y is_up)
unfolding mouse_event
mouse-stands n x y is_up some h =
    if-stands (nat_le n 255 && (nat_le x 65535 && nat_le y 65535)) (kind_told (mouse_kind n is_up) n x y) Unknown
    (λ e. let bounds = within-all n x y e in
    mouse-answer (mouse_kind n is_up) n x y some (λ kind is. h kind bounds.0 bounds.1 bounds.2 is)) (λ e. not_known some)

other-asked : (n c : ℕ) → ((n == 27) && nat_le 2 c) ≡ true → (n ≡ 27) × (2 ≤ c)
other-asked n c h = grind (arith, nat_tests)

tilde-stands : (s : Sequence) (body : List ℕ) → HasNumbers body s.numbers s.first s.second s.third s.kind
    → Stands (csi body 126) (tilde_event s)
unfolding tilde_event code_event
tilde-stands s body h =
    if-stands (s.first == 200) PasteBegun _
    (λ e. numbers_stand (any_begun (subst (λ (n : ℕ). HasNumbers body s.numbers n s.second s.third s.kind)
    (same s.first 200 e) h)))
    (λ x. if-stands (s.first == 201) PasteEnded _
    (λ e. numbers_stand (any_ended (subst (λ (n : ℕ). HasNumbers body s.numbers n s.second s.third s.kind)
    (same s.first 201 e) h)))
    (λ y. if-stands ((s.first == 27) && nat_le 2 s.numbers) (code_key_event (code_key s.third) s.kind s.second)
    (number_key_event (number_key s.first) s.kind s.second)
    (λ e. let f = other-asked s.first s.numbers e in
    code-answer s.third (code_key s.third) s.kind s.second (csi-some body 126) (code-of s.third)
    (λ code is_keypad is small. numbers_stand (any_other (subst (λ (n : ℕ). HasNumbers body s.numbers n s.second s.third s.kind)
    f.0 h) f.1 is small)))
    (λ z. tilde-answer s.first (number_key s.first) s.kind s.second (csi-some body 126) (tilde-of s.first)
    (λ code is small. numbers_stand (any_tilde h is small)))))

told-stands : (s : Sequence) (body : List ℕ) (key : KeyCode × Bool)
    → HasNumbers body s.numbers s.first s.second s.third s.kind → IsCodePoint s.first key.0 key.1
    → Stands (csi body 117) (told_key_event (told_character s.third) key.0 key.1 s.kind s.second)
told-stands s body key h is =
    elim (cases_lt 256 s.second) [
      | inl many ↦ subst (Stands (csi body 117)) (sym (told-many (told_character s.third) key.0 key.1 s.kind s.second many))
          (not_known (csi-some body 117))
      | inr small ↦ subst (Stands (csi body 117)) (sym (told-is (told_character s.third) key.0 key.1 s.kind s.second small))
          (numbers_stand (any_code h is small))
    ]

text-asked : (n c p : ℕ) → ((n == 0) && ((c == 2) && (p == 0))) ≡ true → (n ≡ 0) × (c ≡ 2) × (p ≡ 0)
text-asked n c p h = grind (arith, nat_tests)

text-stands : (s : Sequence) (body : List ℕ) → HasText body 0 s.second s.third s.kind → IsScalar s.third
    → is_control s.third ≡ false
    → Stands (csi body 117) (typed_event s.kind s.third false s.second)
text-stands s body h scalar plain =
    elim (cases_lt 256 s.second) [
      | inl many ↦ subst (Stands (csi body 117)) (sym (typed-many s.kind s.third false s.second many))
          (not_known (csi-some body 117))
      | inr small ↦ subst (Stands (csi body 117)) (sym (typed-is s.kind s.third false s.second small))
          (numbers_stand (any_text h scalar plain small))
    ]

plain-answer : (s : Sequence) (body : List ℕ) (b : Bool) → (b ≡ false → is_control s.third ≡ false) → IsScalar s.third
    → (s.numbers ≡ 2 → s.parts ≡ 0 → HasText body s.first s.second s.third s.kind)
    → Stands (csi body 117) (text_event (if b then None else Some s.third) s)
plain-answer s body true plain scalar text = not_known (csi-some body 117)
plain-answer s body false plain scalar text =
    if-stands ((s.first == 0) && ((s.numbers == 2) && (s.parts == 0))) (typed_event s.kind s.third false s.second) Unknown
    (λ e. let f = text-asked s.first s.numbers s.parts e in
    text-stands s body (subst (λ (n : ℕ). HasText body n s.second s.third s.kind) f.0 (text f.1 f.2)) scalar (plain refl))
    (λ e. not_known (csi-some body 117))

text-answer : (s : Sequence) (body : List ℕ) (a : Bool) → (a ≡ true → IsScalar s.third)
    → (s.numbers ≡ 2 → s.parts ≡ 0 → HasText body s.first s.second s.third s.kind)
    → Stands (csi body 117) (text_event (plain_character (if a then Some s.third else None)) s)
text-answer s body false scalar text = not_known (csi-some body 117)
text-answer s body true scalar text = plain-answer s body (is_control s.third) (λ e. e) (scalar refl) text

told-answer : (s : Sequence) (body : List ℕ) (o : Option (KeyCode × Bool))
    → HasNumbers body s.numbers s.first s.second s.third s.kind
    → (s.numbers ≡ 2 → s.parts ≡ 0 → HasText body s.first s.second s.third s.kind) → IsCodeOf s.first o
    → Stands (csi body 117) (told_code_event o (told_character s.third) s)
told-answer s body (Some key) h text is = told-stands s body key h is
told-answer s body None h text is = text-answer s body (is_scalar s.third) (scalar-is s.third) text

code-stands : (s : Sequence) (body : List ℕ) → HasNumbers body s.numbers s.first s.second s.third s.kind
    → (s.numbers ≡ 2 → s.parts ≡ 0 → HasText body s.first s.second s.third s.kind)
    → Stands (csi body 117) (code_event s)
unfolding code_event
code-stands s body h text = told-answer s body (code_key s.first) h text (code-of s.first)

size-tests : (n c m t : ℕ) → (((n == 48) || (n == 8)) && (nat_le 2 c && (nat_le m 65535 && nat_le t 65535))) ≡ true
    → ((n ≡ 48) ⊎ (n ≡ 8)) × (2 ≤ c) × (m ≤ 65535) × (t ≤ 65535)
size-tests n c m t h = grind (arith, nat_tests)

size-stands : (s : Sequence) (body : List ℕ) → HasNumbers body s.numbers s.first s.second s.third s.kind
    → Stands (csi body 116) (size_event s)
unfolding size_event
size-stands s body h =
    if-stands (((s.first == 48) || (s.first == 8)) && (nat_le 2 s.numbers && (nat_le s.second 65535 && nat_le s.third 65535)))
    (Size s.third s.second) Unknown
    (λ e. let f = size-tests s.first s.numbers s.second s.third e in numbers_stand (any_size h f.0 f.1 f.2 f.3))
    (λ e. not_known (csi-some body 116))

position-tests : (n m : ℕ) → (nat_le n 65535 && nat_le m 65535) ≡ true → (n ≤ 65535) × (m ≤ 65535)
position-tests n m h = grind (arith, nat_tests)

position-stands : (s : Sequence) (body : List ℕ) → HasNumbers body 1 s.first s.second s.third s.kind → s.first ≢ 1
    → Stands (csi body 82) (position_event s)
unfolding position_event
position-stands s body h other =
    if-stands (nat_le s.first 65535 && nat_le s.second 65535) (Position (s.second - 1) (s.first - 1)) Unknown
    (λ e. let f = position-tests s.first s.second e in numbers_stand (any_position h other f.0 f.1))
    (λ e. not_known (csi-some body 82))

letter-sequence : (s : Sequence) (body : List ℕ) (b : ℕ) → HasNumbers body s.numbers s.first s.second s.third s.kind → b ≢ 77
    → (b ≡ 82 → s.numbers ≡ 1 → s.first ≡ 1) → Stands (csi body b) (letter_event s b)
unfolding letter_event
letter-sequence s body b h other report =
    letter-answer b (letter_key b) s.kind (if s.numbers == 0 then s.first else s.second) (csi-some body b) (letter-of b)
    (λ code letter small. numbers_stand (any_letter h letter report small)) (λ e small. absurd (other e))

position-asked : (b c n : ℕ) → ((b == 82) && ((c == 1) && (if n == 1 then false else true))) ≡ true → (b ≡ 82) × (c ≡ 1) × (n ≢ 1)
position-asked b c n h = (grind (arith, nat_tests), grind (arith, nat_tests), λ e. grind (arith, nat_tests))

position-not : (b c n : ℕ) → ((b == 82) && ((c == 1) && (if n == 1 then false else true))) ≡ false → b ≡ 82 → c ≡ 1 → n ≡ 1
position-not b c n h e f = grind (arith, nat_tests)

click-asked : (c n : ℕ) → (nat_le 2 c && nat_le 32 n) ≡ true → (2 ≤ c) × (32 ≤ n)
click-asked c n h = grind (arith, nat_tests)

alone-asked : (b x c : ℕ) → ((b == x) && (c == 0)) ≡ true → (b ≡ x) × (c ≡ 0)
alone-asked b x c h = grind (arith, nat_tests)

plain-mouse : (s : Sequence) (body : List ℕ) → HasNumbers body s.numbers s.first s.second s.third s.kind → 2 ≤ s.numbers
    → 32 ≤ s.first
    → Stands (csi body 77) (mouse_event (s.first - 32) s.second s.third false)
plain-mouse s body h many high =
    mouse-stands (s.first - 32) s.second s.third false (csi-some body 77)
    (λ kind a b c is. numbers_stand (any_plain_mouse (subst (λ (n : ℕ). HasNumbers body s.numbers n s.second s.third s.kind)
    (omega arith) h) many a b c is))

pub keys-stand : (s : Sequence) (body : List ℕ) (b : ℕ) → HasNumbers body s.numbers s.first s.second s.third s.kind
    → (s.numbers ≡ 2 → s.parts ≡ 0 → HasText body s.first s.second s.third s.kind)
    → Stands (csi body b) (keys_event s b)
unfolding keys_event
keys-stand s body b h text =
    if-stands (b == 126) _ _ (λ e. subst (λ (x : ℕ). Stands (csi body x) (tilde_event s)) (sym (same b 126 e))
    (tilde-stands s body h))
    (λ n1. if-stands (b == 117) _ _ (λ e. subst (λ (x : ℕ). Stands (csi body x) (code_event s)) (sym (same b 117 e))
    (code-stands s body h text))
    (λ n2. if-stands (b == 116) _ _ (λ e. subst (λ (x : ℕ). Stands (csi body x) (size_event s)) (sym (same b 116 e))
    (size-stands s body h))
    (λ n3. if-stands ((b == 82) && ((s.numbers == 1) && (if s.first == 1 then false else true))) _ _
    (λ e. let f = position-asked b s.numbers s.first e in
    subst (λ (x : ℕ). Stands (csi body x) (position_event s)) (sym f.0)
    (position-stands s body (subst (λ (c : ℕ). HasNumbers body c s.first s.second s.third s.kind) f.1 h) f.2))
    (λ n4. if-stands (b == 77) _ _
    (λ e. if-stands (nat_le 2 s.numbers && nat_le 32 s.first) (mouse_event (s.first - 32) s.second s.third false) Unknown
    (λ i. let f = click-asked s.numbers s.first i in
    subst (λ (x : ℕ). Stands (csi body x) (mouse_event (s.first - 32) s.second s.third false)) (sym (same b 77 e))
    (plain-mouse s body h f.0 f.1))
    (λ i. not_known (csi-some body b)))
    (λ n5. if-stands ((b == 73) && (s.numbers == 0)) _ _
    (λ e. let f = alone-asked b 73 s.numbers e in
    subst (λ (x : ℕ). Stands (csi body x) FocusGained) (sym f.0)
    (numbers_stand (any_gained (subst (λ (c : ℕ). HasNumbers body c s.first s.second s.third s.kind) f.1 h))))
    (λ n6. if-stands ((b == 79) && (s.numbers == 0)) _ _
    (λ e. let f = alone-asked b 79 s.numbers e in
    subst (λ (x : ℕ). Stands (csi body x) FocusLost) (sym f.0)
    (numbers_stand (any_lost (subst (λ (c : ℕ). HasNumbers body c s.first s.second s.third s.kind) f.1 h))))
    (λ n7. letter-sequence s body b h (differ b 77 n5) (position-not b s.numbers s.first n4))))))))

-- a sequence of the mouse
pub pointer-stands : (s : Sequence) (body : List ℕ) (b : ℕ) → HasNumbers body s.numbers s.first s.second s.third s.kind
    → Stands (csi (60 ∷ body) b) (pointer_event s b)
unfolding pointer_event
pointer-stands s body b h =
    if-stands (s.numbers == 2) _ _
    (λ two. let h2 = subst (λ (c : ℕ). HasNumbers body c s.first s.second s.third s.kind) (same s.numbers 2 two) h in
    if-stands (b == 77) _ _
    (λ e. subst (λ (x : ℕ). Stands (csi (60 ∷ body) x) (mouse_event s.first s.second s.third false)) (sym (same b 77 e))
    (mouse-stands s.first s.second s.third false (csi-some (60 ∷ body) 77)
    (λ kind x y z is. numbers_stand (any_down h2 x y z is))))
    (λ no. if-stands (b == 109) _ _
    (λ e. subst (λ (x : ℕ). Stands (csi (60 ∷ body) x) (mouse_event s.first s.second s.third true)) (sym (same b 109 e))
    (mouse-stands s.first s.second s.third true (csi-some (60 ∷ body) 109) (λ kind x y z is. numbers_stand (any_up h2 x y z is))))
    (λ none. not_known (csi-some (60 ∷ body) b))))
    (λ other. not_known (csi-some (60 ∷ body) b))
