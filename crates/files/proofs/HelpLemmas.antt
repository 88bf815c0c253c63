-- What the list of keys names is what the keys do, and it names all of them.
use Rattle.std.proofs.Common.{◌≡◌, ◌≢◌, ⊎_elim, inl, inr, ◌==◌, ℕ, ◌∷◌, List, [], ◌++◌, map, Bool, true, false, Some, refl, ap, ◌∙◌, if◌then◌else◌, arith}
use Rattle.std.specs.{Str.byte, List.slice_split}
use Rattle.std.specs.Prelude.{slice_get, take, drop, length}
use Rattle.std.proofs.lemmas.Bool.{cases_Bool}
use Rattle.std.proofs.lemmas.{Bool.Decides.nat_tests}
use Rattle.ratatui_events.specs.declared.event.Event.TheVariants.{Key}
use Rattle.ratatui_events.specs.declared.key.KeyEvent.{KeyEvent}
use Rattle.ratatui_events.specs.declared.key.KeyCode.{KeyCode}
use Rattle.ratatui_events.specs.declared.key.KeyCode.TheVariants as key
use Rattle.ratatui_events.specs.declared.key.KeyEventKind.{KeyEventKind}
use Rattle.ratatui_events.specs.declared.key.KeyEventKind.TheVariants.{Press, Repeat, Release}
use Rattle.files.specs.declared.keys.Wish.{Wish}
use Rattle.files.specs.declared.keys.Wish.TheVariants as wish
use Rattle.files.specs.Keys.{holds_control, is_down_kind, kind_wish, control_wish, code_wish, event_wish}
use Rattle.files.specs.Help.{keys_row}
use Rattle.files.specs.HelpTable.{KeyEntry, LetterEntry, letter_entry, key_letters, key_controls, key_others, key_words, key_table}
use Rattle.files.specs.HelpTable.{IsListedKey, AreListedKeys, HasEntryFor}

-- what a key asks for, with Control or not
abbrev asked_for : Bool → KeyCode → Wish
asked_for held code = if held then control_wish code else code_wish code

key-asks : (kind : KeyEventKind) (k : KeyEvent) (held : Bool) (code : KeyCode) → k.code ≡ code
    → holds_control k ≡ held → is_down_kind kind ≡ true → kind_wish kind k ≡ asked_for held code
key-asks Release k held code same is pressed = absurd (cc)
key-asks Press k held code same is pressed = ap (λ b. asked_for b k.code) is ∙ ap (asked_for held) same
key-asks Repeat k held code same is pressed = ap (λ b. asked_for b k.code) is ∙ ap (asked_for held) same

helped : (e : KeyEntry) → slice_get (slice_split (λ b. b == byte " ") (keys_row e.row)) e.word ≡ Some e.name
    → take (length (key_words e.wish)) (drop e.column (keys_row e.row)) ≡ key_words e.wish
    → asked_for e.held e.code ≡ e.wish → IsListedKey e
helped e stands says asks = record {
  stands = stands;
  says = says;
  asks = λ k same is pressed. key-asks k.kind k e.held e.code same is pressed ∙ asks;
}

pub all-helped : AreListedKeys key_table
all-helped = (helped _ refl refl refl, (helped _ refl refl refl, (helped _ refl refl refl, (helped _ refl refl refl, (helped _ refl refl refl, (helped _ refl refl refl, (helped _ refl refl refl, (helped _ refl refl refl, (helped _ refl refl refl, (helped _ refl refl refl, (helped _ refl refl refl, (helped _ refl refl refl, (helped _ refl refl refl, (helped _ refl refl refl, (helped _ refl refl refl, (helped _ refl refl refl, (helped _ refl refl refl, (helped _ refl refl refl, (helped _ refl refl refl, (helped _ refl refl refl, (helped _ refl refl refl, (helped _ refl refl refl, (helped _ refl refl refl, (helped _ refl refl refl, (helped _ refl refl refl, (helped _ refl refl refl, (helped _ refl refl refl, (helped _ refl refl refl, (helped _ refl refl refl, (helped _ refl refl refl, (helped _ refl refl refl, (helped _ refl refl refl, (helped _ refl refl refl, (helped _ refl refl refl, (helped _ refl refl refl, (helped _ refl refl refl, (helped _ refl refl refl, (helped _ refl refl refl, (helped _ refl refl refl, (helped _ refl refl refl, tt))))))))))))))))))))))))))))))))))))))))

-- ---- all keys

left-entry : (k : KeyEvent) (one two : List KeyEntry) → HasEntryFor k one → HasEntryFor k (one ++ two)
left-entry k [] two has = absurd has
left-entry k (e ∷ es) two (inl is) = inl is
left-entry k (e ∷ es) two (inr has) = inr (left-entry k es two has)

right-entry : (k : KeyEvent) (one two : List KeyEntry) → HasEntryFor k two → HasEntryFor k (one ++ two)
right-entry k [] two has = has
right-entry k (e ∷ es) two has = inr (right-entry k es two has)

-- what a letter of a list asks for
abbrev letter_wish : ℕ → List LetterEntry → Wish
letter_wish c [] = wish.Nothing
letter_wish c (l ∷ ls) = if c == l.letter then l.wish else letter_wish c ls

same-letter : (c d : ℕ) → (c == d) ≡ true → c ≡ d
same-letter c d is = grind (arith, nat_tests)

letter-found : (held : Bool) (c : ℕ) (ls : List LetterEntry) (k : KeyEvent) → k.code ≡ key.Char c → holds_control k ≡ held
    → event_wish (Key k) ≡ letter_wish c ls → (letter_wish c ls ≡ wish.Nothing → ⊥) → HasEntryFor k (map (letter_entry held) ls)
letter-found held c [] k code is asks some = absurd (some refl)
letter-found held c (l ∷ ls) k code is asks some = ⊎_elim
    (λ (here : (c == l.letter) ≡ true).
    inl (record { code = code ∙ ap key.Char (same-letter c l.letter here); held = is; wish = rw here at asks }))
    (λ (not : (c == l.letter) ≡ false).
    inr (letter-found held c ls k code is (rw not at asks) (λ none. some (rw not none))))
    (cases_Bool (c == l.letter))

abbrev In : KeyEvent → Type 0
In k = HasEntryFor k key_table

a-letter : (k : KeyEvent) → HasEntryFor k (map (letter_entry false) key_letters) → In k
a-letter k has = left-entry k (map (letter_entry false) key_letters) (map (letter_entry true) key_controls ++ key_others) has

a-control : (k : KeyEvent) → HasEntryFor k (map (letter_entry true) key_controls) → In k
a-control k has = right-entry k (map (letter_entry false) key_letters) (map (letter_entry true) key_controls ++ key_others)
    (left-entry k (map (letter_entry true) key_controls) key_others has)

a-key : (k : KeyEvent) → HasEntryFor k key_others → In k
a-key k has = right-entry k (map (letter_entry false) key_letters) (map (letter_entry true) key_controls ++ key_others)
    (right-entry k (map (letter_entry true) key_controls) key_others has)

-- F1 is the only key of its kind
function-found : (one : Bool) (n : ℕ) (k : KeyEvent) → (n == 1) ≡ one → k.code ≡ key.F n → holds_control k ≡ false
    → event_wish (Key k) ≡ (if one then wish.Help else wish.Nothing)
    → ((if one then wish.Help else wish.Nothing) ≡ wish.Nothing → ⊥) → In k
function-found false n k is code held asks some = absurd (some refl)
function-found true n k is code held asks some =
    a-key k (inr (inr (inr (inr (inr (inr (inr (inr (inr (inr (inl (record { code = code ∙ ap key.F (same-letter n 1 is); held = held; wish = asks }))))))))))))

in-table : (held : Bool) (code : KeyCode) (k : KeyEvent) → k.code ≡ code → holds_control k ≡ held
    → event_wish (Key k) ≡ asked_for held code → (asked_for held code ≡ wish.Nothing → ⊥) → In k
in-table false (key.Char c) k code held asks some = a-letter k (letter-found false c key_letters k code held asks some)
in-table true (key.Char c) k code held asks some = a-control k (letter-found true c key_controls k code held asks some)
in-table false (key.F n) k code held asks some = function-found (n == 1) n k refl code held asks some
in-table true (key.F n) k code held asks some = absurd (some refl)
in-table false (key.Media m) k code held asks some = absurd (some refl)
in-table true (key.Media m) k code held asks some = absurd (some refl)
in-table false (key.Modifier m) k code held asks some = absurd (some refl)
in-table true (key.Modifier m) k code held asks some = absurd (some refl)
in-table false key.Backspace k code held asks some = a-key k (inr (inr (inr (inr (inr (inr (inr (inr (inl (record { code = code; held = held; wish = asks }))))))))))
in-table true key.Backspace k code held asks some = absurd (some refl)
in-table false key.Enter k code held asks some = a-key k (inr (inr (inr (inr (inr (inr (inl (record { code = code; held = held; wish = asks }))))))))
in-table true key.Enter k code held asks some = absurd (some refl)
in-table false key.Left k code held asks some = a-key k (inr (inr (inr (inr (inr (inr (inr (inr (inr (inl (record { code = code; held = held; wish = asks })))))))))))
in-table true key.Left k code held asks some = absurd (some refl)
in-table false key.Right k code held asks some = a-key k (inr (inr (inr (inr (inr (inr (inr (inl (record { code = code; held = held; wish = asks })))))))))
in-table true key.Right k code held asks some = absurd (some refl)
in-table false key.Up k code held asks some = a-key k (inr (inl (record { code = code; held = held; wish = asks })))
in-table true key.Up k code held asks some = absurd (some refl)
in-table false key.Down k code held asks some = a-key k (inl (record { code = code; held = held; wish = asks }))
in-table true key.Down k code held asks some = absurd (some refl)
in-table false key.Home k code held asks some = a-key k (inr (inr (inr (inr (inl (record { code = code; held = held; wish = asks }))))))
in-table true key.Home k code held asks some = absurd (some refl)
in-table false key.End k code held asks some = a-key k (inr (inr (inr (inr (inr (inl (record { code = code; held = held; wish = asks })))))))
in-table true key.End k code held asks some = absurd (some refl)
in-table false key.PageUp k code held asks some = a-key k (inr (inr (inr (inl (record { code = code; held = held; wish = asks })))))
in-table true key.PageUp k code held asks some = absurd (some refl)
in-table false key.PageDown k code held asks some = a-key k (inr (inr (inl (record { code = code; held = held; wish = asks }))))
in-table true key.PageDown k code held asks some = absurd (some refl)
in-table false key.Tab k code held asks some = absurd (some refl)
in-table true key.Tab k code held asks some = absurd (some refl)
in-table false key.BackTab k code held asks some = absurd (some refl)
in-table true key.BackTab k code held asks some = absurd (some refl)
in-table false key.Delete k code held asks some = absurd (some refl)
in-table true key.Delete k code held asks some = absurd (some refl)
in-table false key.Insert k code held asks some = absurd (some refl)
in-table true key.Insert k code held asks some = absurd (some refl)
in-table false key.Esc k code held asks some = a-key k (inr (inr (inr (inr (inr (inr (inr (inr (inr (inr (inr (inl (record { code = code; held = held; wish = asks })))))))))))))
in-table true key.Esc k code held asks some = absurd (some refl)
in-table false key.CapsLock k code held asks some = absurd (some refl)
in-table true key.CapsLock k code held asks some = absurd (some refl)
in-table false key.ScrollLock k code held asks some = absurd (some refl)
in-table true key.ScrollLock k code held asks some = absurd (some refl)
in-table false key.NumLock k code held asks some = absurd (some refl)
in-table true key.NumLock k code held asks some = absurd (some refl)
in-table false key.PrintScreen k code held asks some = absurd (some refl)
in-table true key.PrintScreen k code held asks some = absurd (some refl)
in-table false key.Pause k code held asks some = absurd (some refl)
in-table true key.Pause k code held asks some = absurd (some refl)
in-table false key.Menu k code held asks some = absurd (some refl)
in-table true key.Menu k code held asks some = absurd (some refl)
in-table false key.KeypadBegin k code held asks some = absurd (some refl)
in-table true key.KeypadBegin k code held asks some = absurd (some refl)

by-held : (held : Bool) (k : KeyEvent) → holds_control k ≡ held → event_wish (Key k) ≡ asked_for (holds_control k) k.code
    → (event_wish (Key k) ≡ wish.Nothing → ⊥) → In k
by-held held k is asks some =
    let asked : event_wish (Key k) ≡ asked_for held k.code = asks ∙ ap (λ b. asked_for b k.code) is in
    in-table held k.code k refl is asked (λ none. some (asked ∙ none))

by-kind : (kind : KeyEventKind) (k : KeyEvent) → k.kind ≡ kind → (event_wish (Key k) ≡ wish.Nothing → ⊥) → In k
by-kind Release k is some = absurd (some (ap (λ x. kind_wish x k) is))
by-kind Press k is some = by-held (holds_control k) k refl (ap (λ x. kind_wish x k) is) some
by-kind Repeat k is some = by-held (holds_control k) k refl (ap (λ x. kind_wish x k) is) some

pub all-keys : (k : KeyEvent) → event_wish (Key k) ≢ wish.Nothing → HasEntryFor k key_table
all-keys k some = by-kind k.kind k refl some
