-- What a terminal makes of appended bytes, of numbers, and of whole sequences.
use Rattle.std.proofs.Common.{◌≡◌, ℕ, ◌+◌, ◌-◌, ◌*◌, ◌/◌, ◌%◌, ◌<◌, ◌≤◌, ◌^◌, min, List, [], ◌∷◌, ◌++◌, Bool, true, false, zero}
use Rattle.std.proofs.Common.{suc, refl, sym, ap, ap₂, ◌∙◌, arith, ◌==◌, ◌&&◌, nat_lt, nat_eq, if◌then◌else◌, Result, Ok, Err}
use Rattle.std.proofs.Common.{OnOk, append_assoc, append-nil, subst, codes}
use Rattle.std.specs.{Result.is_ok, Fmt.decimal}
use Rattle.std.proofs.lemmas.{Fmt.decimal_by_steps, Fmt.decimal_step, Fmt.decimal_digit, Bool.Decides.nat_tests}
use Rattle.std.proofs.Math.Nat.{div-add-mod'}
use Rattle.ansi_model.specs.Commands.{cursor_bytes, style_digit}
use Rattle.ansi_model.specs.Emulator.{Emulator, Phase, rested, cursor_moved, returned, erased, scrolled, line_fed, fed, if_so}
use Rattle.ansi_model.specs.Emulator.{cursor_shown, with_region, without_region, lines_deleted, lines_inserted, with_modes}
use Rattle.ansi_model.specs.Emulator.{holding, with_sgr}
use Rattle.ansi_model.specs.{Emulator.Phase.Ground, Emulator.Phase.Opened, Emulator.Phase.Sequence, Emulator.Phase.Keyed}
use Rattle.ansi_model.specs.Sequences.{feed, reads_in, is_digit, is_key_mark}
use Rattle.ratatui_core.specs.Backend.{ClearType, All, AfterCursor, BeforeCursor, CurrentLine, UntilNewLine}
use Rattle.ansi_model.specs.Sends.{Leads, Sends, Performs}
use Rattle.ansi_model.specs.Commands.{command_bytes, flag_bits, keyboard_bytes, keyboard_pop_bytes}
use Rattle.ansi_model.specs.{declared.command.Command.Command, declared.command.KeyboardEnhancementFlags.KeyboardEnhancementFlags}
use Rattle.ansi_model.specs.{declared.command.SetCursorStyle.SetCursorStyle}
use Rattle.ansi_model.specs.declared.command.Command.TheVariants.{EnableMouseCapture, DisableMouseCapture, EnableBracketedPaste}
use Rattle.ansi_model.specs.declared.command.Command.TheVariants.{DisableBracketedPaste, EnableFocusChange, DisableFocusChange}
use Rattle.ansi_model.specs.declared.command.Command.TheVariants.{AskCursorPosition, EnableSizeReports, DisableSizeReports}
use Rattle.ansi_model.specs.declared.command.Command.TheVariants.{PopKeyboardEnhancementFlags, KeepTitle, BringTitleBack}
use Rattle.ansi_model.specs.declared.command.Command.TheVariants as Asked
use Rattle.ansi_model.specs.declared.command.SetCursorStyle.TheVariants.{DefaultUserShape, BlinkingBlock, SteadyBlock}
use Rattle.ansi_model.specs.declared.command.SetCursorStyle.TheVariants.{BlinkingUnderScore, SteadyUnderScore, BlinkingBar}
use Rattle.ansi_model.specs.declared.command.SetCursorStyle.TheVariants.{SteadyBar}
use Rattle.ansi_model.specs.{Endings.left_below, Sgr.default_sgr, Sgr.inks, Sgr.are_known}
use Rattle.ansi_model.specs.Inner.{without_modes}

pub and-true : (b : Bool) → (b && true) ≡ b
and-true true = refl
and-true false = refl

pub feed-append : (xs ys : List ℕ) (t : Emulator) → feed (xs ++ ys) t ≡ feed ys (feed xs t)
unfolding feed
feed-append [] ys t = refl
feed-append (x ∷ xs) ys t = feed-append xs ys (reads_in t.phase x t)

pub after-those : (old mid new a b : List ℕ) → mid ≡ old ++ a → new ≡ mid ++ b → new ≡ old ++ (a ++ b)
after-those old mid new a b first second = second ∙ ap (λ xs. xs ++ b) first ∙ append_assoc old a b

-- bytes after others: what the first leave is what the second want
pub Leads-then : {a b c : List ℕ} {p q : Emulator → Type 0} {f g all : Emulator → Emulator → Type 0} → Leads a b p f
    → Leads b c q g → ((t u : Emulator) → p t → f t u → q u)
    → ((t u v : Emulator) → p t → f t u → g u v → all t v) → Leads a c p all
Leads-then {a} {b} {c} {all = all} first second links joins = record {
  bytes = first.bytes ++ second.bytes;
  appended = after-those a b c first.bytes second.bytes first.appended second.appended;
  read = λ t is.
      let u : Emulator = feed first.bytes t in
      let led = first.read t is in
      subst (all t) (sym (feed-append first.bytes second.bytes t))
      (joins t u (feed second.bytes u) is led (second.read u (links t u is led)));
}

-- the same bytes, of which less is said
pub Leads-so : {a b : List ℕ} {p q : Emulator → Type 0} {f g : Emulator → Emulator → Type 0} → Leads a b p f
    → ((t : Emulator) → q t → p t) → ((t u : Emulator) → q t → f t u → g t u) → Leads a b q g
Leads-so does wants leaves = record {
  bytes = does.bytes;
  appended = does.appended;
  read = λ t is. leaves t (feed does.bytes t) is (does.read t (wants t is));
}

-- no bytes
pub Leads-none : {a b : List ℕ} {p : Emulator → Type 0} {f : Emulator → Emulator → Type 0} → b ≡ a
    → ((t : Emulator) → p t → f t t) → Leads a b p f
unfolding feed
Leads-none {a} none stays = record { bytes = []; appended = none ∙ sym (append-nil a); read = stays }

-- the same bytes after others
pub Leads-later : {a b : List ℕ} {p : Emulator → Type 0} {f : Emulator → Emulator → Type 0} (before : List ℕ) → Leads a b p f
    → Leads (before ++ a) (before ++ b) p f
Leads-later {a} before does = record {
  bytes = does.bytes;
  appended = ap (λ xs. before ++ xs) does.appended ∙ sym (append_assoc before a does.bytes);
  read = does.read;
}

-- one action after the other
pub Sends-then : (a b c : List ℕ) (f g : Emulator → Emulator) → Sends a b f → Sends b c g
    → ((t : Emulator) → (f t).phase ≡ Ground) → Sends a c (λ t. g (f t))
Sends-then a b c f g first second stays = Leads-then first second
    (λ t u ground e. ap (λ (v : Emulator). v.phase) e ∙ stays t) (λ t u v ground e d. d ∙ ap g e)

-- a text was pushed
pub pushed : {E : Type 0} (r : Result (Unit {0}) E) (old new bs : List ℕ) (effect : Emulator → Emulator)
    → new ≡ (if is_ok r then old ++ bs else old)
    → ((t : Emulator) → t.phase ≡ Ground → feed bs t ≡ effect t) → OnOk r (Sends old new effect)
pushed (Ok u) old new bs effect e read = record { bytes = bs; appended = e; read = read }
pushed (Err f) old new bs effect e read = tt

pub on_push : {E : Type 0} (r : Result (Unit {0}) E) (old new bs : List ℕ) → new ≡ (if is_ok r then old ++ bs else old)
    → OnOk r (new ≡ old ++ bs)
on_push (Ok u) old new bs e = e
on_push (Err f) old new bs e = tt

-- a terminal in a phase
abbrev pub within : Phase → Emulator → Emulator
within p t = record t { phase = p }

digit : (d : ℕ) → d < 10 → is_digit (48 + d) ≡ true
digit d small = grind (arith, nat_tests)

digit-read : (mark : Bool) (done : List ℕ) (m d : ℕ) (t : Emulator) → d < 10
    → reads_in (Sequence mark done m) (48 + d) t ≡ within (Sequence mark done (m * 10 + d)) t
digit-read mark done m d t small =
    let e : 48 + d - 48 ≡ d = omega arith in
    rw (digit d small, e) refl

abbrev ReadsNumber : ℕ → List ℕ → Type 0
ReadsNumber n ds = (mark : Bool) (done : List ℕ) (t : Emulator)
    → feed ds (within (Sequence mark done 0) t) ≡ within (Sequence mark done n) t

one : (n : ℕ) → n < 10 → ReadsNumber n ((48 + n) ∷ [])
unfolding feed
one n small mark done t =
    let e : 0 * 10 + n ≡ n = omega arith in
    digit-read mark done 0 n (within (Sequence mark done 0) t) small ∙ ap (λ k. within (Sequence mark done k) t) e

more : (n : ℕ) (ds : List ℕ) → 10 ≤ n → ReadsNumber (n / 10) ds → ReadsNumber n (ds ++ ((48 + n % 10) ∷ []))
unfolding feed
more n ds big rest mark done t =
    feed-append ds ((48 + n % 10) ∷ []) (within (Sequence mark done 0) t)
    ∙ ap (feed ((48 + n % 10) ∷ [])) (rest mark done t)
    ∙ digit-read mark done (n / 10) (n % 10) (within (Sequence mark done (n / 10)) t) (omega arith)
    ∙ ap (λ k. within (Sequence mark done k) t) (div-add-mod' n 10)

pub number-read : (n : ℕ) → n < 2 ^ 64 → ReadsNumber n (decimal n)
number-read n small = decimal_by_steps ReadsNumber one more n small

-- the first number of a sequence
abbrev ReadsFirst : ℕ → List ℕ → Type 0
ReadsFirst n ds = (t : Emulator) → feed ds (within Opened t) ≡ within (Sequence false [] n) t

first-one : (n : ℕ) → n < 10 → ReadsFirst n ((48 + n) ∷ [])
unfolding feed
first-one n small t =
    let no_mark : (48 + n == 63) ≡ false = grind (arith, nat_tests) in
    let no_key : is_key_mark (48 + n) ≡ false = grind (arith, nat_tests) in
    let e : 0 * 10 + (48 + n - 48) ≡ n = omega arith in
    rw (no_mark, no_key, digit n small, e) refl

first-more : (n : ℕ) (ds : List ℕ) → 10 ≤ n → ReadsFirst (n / 10) ds → ReadsFirst n (ds ++ ((48 + n % 10) ∷ []))
unfolding feed
first-more n ds big rest t =
    feed-append ds ((48 + n % 10) ∷ []) (within Opened t)
    ∙ ap (feed ((48 + n % 10) ∷ [])) (rest t)
    ∙ digit-read false [] (n / 10) (n % 10) (within (Sequence false [] (n / 10)) t) (omega arith)
    ∙ ap (λ k. within (Sequence false [] k) t) (div-add-mod' n 10)

pub first-read : (n : ℕ) → n < 2 ^ 64 → ReadsFirst n (decimal n)
first-read n small = decimal_by_steps ReadsFirst first-one first-more n small

-- a number in a sequence of kitty's keyboard protocol
abbrev ReadsKeyed : ℕ → List ℕ → Type 0
ReadsKeyed n ds = (t : Emulator) → feed ds (within Keyed t) ≡ within Keyed t

keyed-one : (n : ℕ) → n < 10 → ReadsKeyed n ((48 + n) ∷ [])
unfolding feed
keyed-one n small t = rw (digit n small) refl

keyed-more : (n : ℕ) (ds : List ℕ) → 10 ≤ n → ReadsKeyed (n / 10) ds → ReadsKeyed n (ds ++ ((48 + n % 10) ∷ []))
keyed-more n ds big rest t = feed-append ds ((48 + n % 10) ∷ []) (within Keyed t)
    ∙ ap (feed ((48 + n % 10) ∷ [])) (rest t) ∙ keyed-one (n % 10) (omega arith) t

keyed-number : (n : ℕ) → n < 2 ^ 64 → ReadsKeyed n (decimal n)
keyed-number n small = decimal_by_steps ReadsKeyed keyed-one keyed-more n small

-- a sequence begins
pub begun : (rest : List ℕ) (t : Emulator) → t.phase ≡ Ground → feed (27 ∷ 91 ∷ rest) t ≡ feed rest (within Opened (rested t))
unfolding feed
begun rest t ground = ap (λ p. feed (91 ∷ rest) (reads_in p 27 t)) ground

-- one with a single number
pub with_one : (n final : ℕ) → n < 2 ^ 64 → (t : Emulator) → t.phase ≡ Ground
    → feed (27 ∷ 91 ∷ (decimal n ++ final ∷ [])) t ≡ reads_in (Sequence false [] n) final (within (Sequence false [] n)
    (rested t))
unfolding feed
with_one n final small t ground =
    begun (decimal n ++ final ∷ []) t ground
    ∙ feed-append (decimal n) (final ∷ []) (within Opened (rested t))
    ∙ ap (feed (final ∷ [])) (first-read n small (rested t))

-- one with two numbers
pub with_two : (m n final : ℕ) → m < 2 ^ 64 → n < 2 ^ 64 → (t : Emulator) → t.phase ≡ Ground
    → feed (27 ∷ 91 ∷ (decimal m ++ (59 ∷ (decimal n ++ final ∷ [])))) t
    ≡ reads_in (Sequence false (m ∷ []) n) final (within (Sequence false (m ∷ []) n) (rested t))
unfolding feed
with_two m n final small_m small_n t ground =
    let s : Emulator = rested t in
    let back = 59 ∷ (decimal n ++ final ∷ []) in
    begun (decimal m ++ back) t ground
    ∙ feed-append (decimal m) back (within Opened s)
    ∙ ap (feed back) (first-read m small_m s)
    ∙ feed-append (decimal n) (final ∷ []) (within (Sequence false (m ∷ []) 0) s)
    ∙ ap (feed (final ∷ [])) (number-read n small_n false (m ∷ []) s)

-- ---- the sequences

pub CUP-read : (x y : ℕ) → x < 2 ^ 16 → y < 2 ^ 16 → (t : Emulator) → t.phase ≡ Ground
    → feed (cursor_bytes x y) t ≡ cursor_moved x y (rested t)
CUP-read x y x_in y_in t ground =
    let ex : x + 1 - 1 ≡ x = omega arith in
    let ey : y + 1 - 1 ≡ y = omega arith in
    with_two (y + 1) (x + 1) 72 (omega arith) (omega arith) t ground ∙ ap₂ (λ a b. cursor_moved a b (rested t)) ex ey

-- ---- numbers, digit by digit

pub digits-more : (n : ℕ) (old pre new : List ℕ) → 10 ≤ n → n < 2 ^ 64 → pre ≡ old ++ decimal (n / 10)
    → new ≡ pre ++ (48 + n % 10) ∷ [] → new ≡ old ++ decimal n
digits-more n old pre new big small first last =
    last ∙ ap (λ xs. xs ++ (48 + n % 10) ∷ []) first ∙ append_assoc old (decimal (n / 10)) ((48 + n % 10) ∷ [])
    ∙ ap (λ ds. old ++ ds) (sym (decimal_step n big small))

pub digits-one : (n : ℕ) (old new : List ℕ) → n < 10 → new ≡ old ++ (48 + n) ∷ [] → new ≡ old ++ decimal n
digits-one n old new small last = last ∙ ap (λ ds. old ++ ds) (sym (decimal_digit n small))

abbrev pub erasing : ClearType → List ℕ
erasing All = 27 ∷ 91 ∷ 50 ∷ 74 ∷ []
erasing AfterCursor = 27 ∷ 91 ∷ 74 ∷ []
erasing BeforeCursor = 27 ∷ 91 ∷ 49 ∷ 74 ∷ []
erasing CurrentLine = 27 ∷ 91 ∷ 50 ∷ 75 ∷ []
erasing UntilNewLine = 27 ∷ 91 ∷ 75 ∷ []

pub erasing-read : (part : ClearType) (t : Emulator) → t.phase ≡ Ground → feed (erasing part) t ≡ erased part (rested t)
unfolding feed
erasing-read All t ground = begun (50 ∷ 74 ∷ []) t ground
erasing-read AfterCursor t ground = begun (74 ∷ []) t ground
erasing-read BeforeCursor t ground = begun (49 ∷ 74 ∷ []) t ground
erasing-read CurrentLine t ground = begun (50 ∷ 75 ∷ []) t ground
erasing-read UntilNewLine t ground = begun (75 ∷ []) t ground

pub hiding-read : (t : Emulator) → t.phase ≡ Ground → feed (27 ∷ 91 ∷ 63 ∷ 50 ∷ 53 ∷ 108 ∷ []) t ≡ cursor_shown false (rested t)
unfolding feed
hiding-read t ground = begun (63 ∷ 50 ∷ 53 ∷ 108 ∷ []) t ground

pub showing-read : (t : Emulator) → t.phase ≡ Ground → feed (27 ∷ 91 ∷ 63 ∷ 50 ∷ 53 ∷ 104 ∷ []) t ≡ cursor_shown true (rested t)
unfolding feed
showing-read t ground = begun (63 ∷ 50 ∷ 53 ∷ 104 ∷ []) t ground

pub region-read : (top bottom : ℕ) → top < 2 ^ 16 → bottom < 2 ^ 16 → (t : Emulator) → t.phase ≡ Ground
    → feed (27 ∷ 91 ∷ (decimal (top + 1) ++ (59 ∷ (decimal bottom ++ 114 ∷ [])))) t ≡ with_region top bottom (rested t)
region-read top bottom top_in bottom_in t ground =
    let e : top + 1 - 1 ≡ top = omega arith in
    with_two (top + 1) bottom 114 (omega arith) (omega arith) t ground ∙ ap (λ a. with_region a bottom (rested t)) e

pub no_region-read : (t : Emulator) → t.phase ≡ Ground → feed (27 ∷ 91 ∷ 114 ∷ []) t ≡ without_region (rested t)
unfolding feed
no_region-read t ground = begun (114 ∷ []) t ground

pub deleting-read : (n : ℕ) → 0 < n → n < 2 ^ 16 → (t : Emulator) → t.phase ≡ Ground
    → feed (27 ∷ 91 ∷ (decimal n ++ 77 ∷ [])) t ≡ lines_deleted n (rested t)
deleting-read n some n_in t ground =
    let e : (n == 0) ≡ false = grind (arith, nat_tests) in
    with_one n 77 (omega arith) t ground ∙ rw e refl

pub inserting-read : (n : ℕ) → 0 < n → n < 2 ^ 16 → (t : Emulator) → t.phase ≡ Ground
    → feed (27 ∷ 91 ∷ (decimal n ++ 76 ∷ [])) t ≡ lines_inserted n (rested t)
inserting-read n some n_in t ground =
    let e : (n == 0) ≡ false = grind (arith, nat_tests) in
    with_one n 76 (omega arith) t ground ∙ rw e refl

-- ---- line feeds

pub return-read : (t : Emulator) → t.phase ≡ Ground → feed (13 ∷ []) t ≡ returned (rested t)
unfolding feed
return-read t ground = ap (λ p. reads_in p 13 t) ground

pub feed-read : (t : Emulator) → t.phase ≡ Ground → feed (10 ∷ []) t ≡ line_fed (rested t)
unfolding feed
feed-read t ground = ap (λ p. reads_in p 10 t) ground

-- ---- what leaves a terminal

pub reset-read : (t : Emulator) → t.phase ≡ Ground → feed (27 ∷ 91 ∷ 48 ∷ 109 ∷ []) t ≡ with_sgr default_sgr (rested t)
unfolding feed inks are_known
reset-read t ground =
    let s : Emulator = rested t in
    begun (48 ∷ 109 ∷ []) t ground ∙ ap (λ sure. record (with_sgr default_sgr s) { sure = sure }) (and-true s.sure)

-- to the first column of a row, counted from 1
abbrev pub row_start : ℕ → List ℕ
row_start h = 27 ∷ 91 ∷ (decimal h ++ (59 ∷ 49 ∷ 72 ∷ []))

row_start-read : (h : ℕ) → h < 2 ^ 16 → (t : Emulator) → t.phase ≡ Ground
    → feed (row_start h) t ≡ cursor_moved 0 (h - 1) (rested t)
row_start-read h fits t ground =
    ap (λ ds. feed (27 ∷ 91 ∷ (decimal h ++ (59 ∷ (ds ++ 72 ∷ [])))) t) (sym (decimal_digit 1 (omega arith)))
    ∙ with_two h 1 72 (omega arith) (omega arith) t ground

abbrev pub leaving_bytes : ℕ → List ℕ
leaving_bytes h =
    (27 ∷ 91 ∷ 48 ∷ 109 ∷ 27 ∷ 91 ∷ 114 ∷ 27 ∷ 91 ∷ 63 ∷ 50 ∷ 53 ∷ 104 ∷ 27 ∷ 91 ∷ [])
    ++ (decimal h ++ (59 ∷ 49 ∷ 72 ∷ 13 ∷ 10 ∷ []))

pub leaving-read : (h : ℕ) → h < 2 ^ 16 → (t : Emulator) → t.phase ≡ Ground
    → feed (leaving_bytes h) t ≡ left_below h (rested t)
leaving-read h fits t ground =
    let reset : List ℕ = 27 ∷ 91 ∷ 48 ∷ 109 ∷ [] in
    let region : List ℕ = 27 ∷ 91 ∷ 114 ∷ [] in
    let cursor : List ℕ = 27 ∷ 91 ∷ 63 ∷ 50 ∷ 53 ∷ 104 ∷ [] in
    let move = row_start h in
    let ends : List ℕ = 13 ∷ 10 ∷ [] in
    let t1 : Emulator = with_sgr default_sgr (rested t) in
    let t2 : Emulator = without_region t1 in
    let t3 : Emulator = cursor_shown true t2 in
    let t4 : Emulator = cursor_moved 0 (h - 1) t3 in
    ap (λ last. feed (reset ++ (region ++ (cursor ++ (27 ∷ 91 ∷ last)))) t)
    (sym (append_assoc (decimal h) (59 ∷ 49 ∷ 72 ∷ []) ends)) ∙
    let t5 : Emulator = returned t4 in
    feed-append reset (region ++ (cursor ++ (move ++ ends))) t ∙ ap (feed (region ++ (cursor ++ (move ++ ends))))
    (reset-read t ground)
    ∙ feed-append region (cursor ++ (move ++ ends)) t1 ∙ ap (feed (cursor ++ (move ++ ends))) (no_region-read t1 refl)
    ∙ feed-append cursor (move ++ ends) t2 ∙ ap (feed (move ++ ends)) (showing-read t2 refl)
    ∙ feed-append move ends t3 ∙ ap (feed ends) (row_start-read h fits t3 refl)
    ∙ feed-append (13 ∷ []) (10 ∷ []) t4 ∙ ap (feed (10 ∷ [])) (return-read t4 refl)
    ∙ feed-read t5 refl

-- to the first column of a terminal's last row
pub last_row-read : (t : Emulator) → t.phase ≡ Ground
    → feed (27 ∷ 91 ∷ 54 ∷ 53 ∷ 53 ∷ 51 ∷ 53 ∷ 59 ∷ 49 ∷ 72 ∷ []) t ≡ cursor_moved 0 65534 (rested t)
unfolding feed
last_row-read t ground = begun (54 ∷ 53 ∷ 53 ∷ 51 ∷ 53 ∷ 59 ∷ 49 ∷ 72 ∷ []) t ground

-- ---- what settles a terminal's modes

pub string-read : (t : Emulator) → t.phase ≡ Ground → feed (27 ∷ 92 ∷ []) t ≡ rested t
unfolding feed
string-read t ground = ap (λ p. feed (92 ∷ []) (reads_in p 27 t)) ground

shift-read : (t : Emulator) → t.phase ≡ Ground → feed (15 ∷ []) t ≡ with_modes (record (rested t).modes { shifted = false })
    (rested t)
unfolding feed
shift-read t ground = ap (λ p. reads_in p 15 t) ground

letters-read : (t : Emulator) → t.phase ≡ Ground
    → feed (27 ∷ 40 ∷ 66 ∷ []) t ≡ with_modes (record (rested t).modes { lettered = false }) (rested t)
unfolding feed
letters-read t ground = ap (λ p. feed (40 ∷ 66 ∷ []) (reads_in p 27 t)) ground

-- G2 is ASCII, and so is what bytes above ASCII are printed by; G1 is, too
other_letters-read : (t : Emulator) → t.phase ≡ Ground
    → feed (27 ∷ 42 ∷ 66 ∷ 27 ∷ 125 ∷ 27 ∷ 41 ∷ 66 ∷ []) t ≡ rested t
unfolding feed
other_letters-read t ground = ap (λ p. feed (42 ∷ 66 ∷ 27 ∷ 125 ∷ 27 ∷ 41 ∷ 66 ∷ []) (reads_in p 27 t)) ground

coding-read : (t : Emulator) → t.phase ≡ Ground
    → feed (27 ∷ 37 ∷ 71 ∷ []) t ≡ with_modes (record (rested t).modes { coded = false }) (rested t)
unfolding feed
coding-read t ground = ap (λ p. feed (37 ∷ 71 ∷ []) (reads_in p 27 t)) ground

insert-read : (t : Emulator) → t.phase ≡ Ground
    → feed (27 ∷ 91 ∷ 52 ∷ 108 ∷ []) t ≡ with_modes (record (rested t).modes { inserts = false }) (rested t)
unfolding feed
insert-read t ground = begun (52 ∷ 108 ∷ []) t ground

origin-read : (t : Emulator) → t.phase ≡ Ground
    → feed (27 ∷ 91 ∷ 63 ∷ 54 ∷ 108 ∷ []) t ≡ record (rested t) {
      modes = record (rested t).modes { origin = false };
      x = 0;
      y = 0;
    }
unfolding feed
origin-read t ground = begun (63 ∷ 54 ∷ 108 ∷ []) t ground

sides-read : (t : Emulator) → t.phase ≡ Ground
    → feed (27 ∷ 91 ∷ 63 ∷ 54 ∷ 57 ∷ 108 ∷ []) t ≡ with_modes (record (rested t).modes { sides = false }) (rested t)
unfolding feed
sides-read t ground = begun (63 ∷ 54 ∷ 57 ∷ 108 ∷ []) t ground

wrap-read : (t : Emulator) → t.phase ≡ Ground
    → feed (27 ∷ 91 ∷ 63 ∷ 55 ∷ 104 ∷ []) t ≡ with_modes (record (rested t).modes { unwrapped = false }) (rested t)
unfolding feed
wrap-read t ground = begun (63 ∷ 55 ∷ 104 ∷ []) t ground

pub update_begin-read : (t : Emulator) → t.phase ≡ Ground
    → feed (27 ∷ 91 ∷ 63 ∷ 50 ∷ 48 ∷ 50 ∷ 54 ∷ 104 ∷ []) t ≡ holding true (rested t)
unfolding feed
update_begin-read t ground = begun (63 ∷ 50 ∷ 48 ∷ 50 ∷ 54 ∷ 104 ∷ []) t ground

pub update_end-read : (t : Emulator) → t.phase ≡ Ground
    → feed (27 ∷ 91 ∷ 63 ∷ 50 ∷ 48 ∷ 50 ∷ 54 ∷ 108 ∷ []) t ≡ holding false (rested t)
unfolding feed
update_end-read t ground = begun (63 ∷ 50 ∷ 48 ∷ 50 ∷ 54 ∷ 108 ∷ []) t ground

abbrev pub settling_bytes : List ℕ
settling_bytes =
    27 ∷ 92 ∷ 15 ∷ 27 ∷ 42 ∷ 66 ∷ 27 ∷ 125 ∷ 27 ∷ 41 ∷ 66 ∷ 27 ∷ 40 ∷ 66 ∷ 27 ∷ 37 ∷ 71 ∷ 27 ∷ 91 ∷ 52 ∷ 108 ∷ 27 ∷ 91 ∷ 63 ∷ 54
    ∷ 108 ∷ 27 ∷ 91 ∷ 63 ∷ 54 ∷ 57 ∷ 108 ∷ 27 ∷ 91 ∷ 63 ∷ 55 ∷ 104 ∷ 27 ∷ 91 ∷ 63 ∷ 50 ∷ 48 ∷ 50 ∷ 54 ∷ 108 ∷ []

pub settling-read : (t : Emulator) → t.phase ≡ Ground → feed settling_bytes t ≡ without_modes (rested t)
settling-read t ground =
    let a1 : List ℕ = 27 ∷ 92 ∷ [] in
    let a2 : List ℕ = 15 ∷ [] in
    let others : List ℕ = 27 ∷ 42 ∷ 66 ∷ 27 ∷ 125 ∷ 27 ∷ 41 ∷ 66 ∷ [] in
    let a3 : List ℕ = 27 ∷ 40 ∷ 66 ∷ [] in
    let a4 : List ℕ = 27 ∷ 37 ∷ 71 ∷ [] in
    let a5 : List ℕ = 27 ∷ 91 ∷ 52 ∷ 108 ∷ [] in
    let a6 : List ℕ = 27 ∷ 91 ∷ 63 ∷ 54 ∷ 108 ∷ [] in
    let a7 : List ℕ = 27 ∷ 91 ∷ 63 ∷ 54 ∷ 57 ∷ 108 ∷ [] in
    let a8 : List ℕ = 27 ∷ 91 ∷ 63 ∷ 55 ∷ 104 ∷ [] in
    let a9 : List ℕ = 27 ∷ 91 ∷ 63 ∷ 50 ∷ 48 ∷ 50 ∷ 54 ∷ 108 ∷ [] in
    let r8 : List ℕ = a8 ++ a9 in
    let r7 : List ℕ = a7 ++ r8 in
    let r6 : List ℕ = a6 ++ r7 in
    let r5 : List ℕ = a5 ++ r6 in
    let r4 : List ℕ = a4 ++ r5 in
    let r3 : List ℕ = a3 ++ r4 in
    let r0 : List ℕ = others ++ r3 in
    let r2 : List ℕ = a2 ++ r0 in
    let t1 : Emulator = rested t in
    let t2 : Emulator = with_modes (record t1.modes { shifted = false }) t1 in
    let t3 : Emulator = with_modes (record t2.modes { lettered = false }) t2 in
    let t4 : Emulator = with_modes (record t3.modes { coded = false }) t3 in
    let t5 : Emulator = with_modes (record t4.modes { inserts = false }) t4 in
    let t6 : Emulator = record t5 { modes = record t5.modes { origin = false }; x = 0; y = 0 } in
    let t7 : Emulator = with_modes (record t6.modes { sides = false }) t6 in
    let t8 : Emulator = with_modes (record t7.modes { unwrapped = false }) t7 in
    feed-append a1 r2 t ∙ ap (feed r2) (string-read t ground)
    ∙ feed-append a2 r0 t1 ∙ ap (feed r0) (shift-read t1 refl)
    ∙ feed-append others r3 t2 ∙ ap (feed r3) (other_letters-read t2 refl)
    ∙ feed-append a3 r4 t2 ∙ ap (feed r4) (letters-read t2 refl)
    ∙ feed-append a4 r5 t3 ∙ ap (feed r5) (coding-read t3 refl)
    ∙ feed-append a5 r6 t4 ∙ ap (feed r6) (insert-read t4 refl)
    ∙ feed-append a6 r7 t5 ∙ ap (feed r7) (origin-read t5 refl)
    ∙ feed-append a7 r8 t6 ∙ ap (feed r8) (sides-read t6 refl)
    ∙ feed-append a8 a9 t7 ∙ ap (feed a9) (wrap-read t7 refl)
    ∙ update_end-read t8 refl

-- ---- what changes nothing on the screen

-- a sequence that changes nothing
abbrev IsIdle : List ℕ → Type 0
IsIdle rest = (t : Emulator) → feed rest (within Opened (rested t)) ≡ rested t

idle-read : (rest : List ℕ) → IsIdle rest → (t : Emulator) → t.phase ≡ Ground → feed (27 ∷ 91 ∷ rest) t ≡ rested t
idle-read rest idle t ground = begun rest t ground ∙ idle t

-- sequences that change nothing, one after the other
idle-then : (rest : List ℕ) → IsIdle rest → (after : List ℕ) → ((t : Emulator) → feed after (rested t) ≡ rested t)
    → (t : Emulator) → t.phase ≡ Ground → feed ((27 ∷ 91 ∷ rest) ++ after) t ≡ rested t
idle-then rest idle after quiet t ground =
    feed-append (27 ∷ 91 ∷ rest) after t ∙ ap (feed after) (idle-read rest idle t ground) ∙ quiet t

-- four modes, one after the other
modes-read : (one two three four : List ℕ) → IsIdle one → IsIdle two → IsIdle three → IsIdle four → (t : Emulator)
    → t.phase ≡ Ground
    → feed ((27 ∷ 91 ∷ one) ++ ((27 ∷ 91 ∷ two) ++ ((27 ∷ 91 ∷ three) ++ (27 ∷ 91 ∷ four)))) t ≡ rested t
modes-read one two three four first second third fourth t ground =
    idle-then one first ((27 ∷ 91 ∷ two) ++ ((27 ∷ 91 ∷ three) ++ (27 ∷ 91 ∷ four)))
    (λ s. idle-then two second ((27 ∷ 91 ∷ three) ++ (27 ∷ 91 ∷ four))
    (λ u. idle-then three third (27 ∷ 91 ∷ four) (λ v. idle-read four fourth (rested v) refl) (rested u) refl)
    (rested s) refl) t ground

-- kitty's keyboard protocol changes nothing on the screen
keyed-read : (mark n : ℕ) → is_key_mark mark ≡ true → (mark == 63) ≡ false → n < 2 ^ 64 → (t : Emulator) → t.phase ≡ Ground
    → feed (27 ∷ 91 ∷ mark ∷ (decimal n ++ 117 ∷ [])) t ≡ rested t
unfolding feed
keyed-read mark n key no_mark small t ground =
    let s : Emulator = rested t in
    let opens : reads_in Opened mark (within Opened s) ≡ within Keyed s = rw (no_mark, key) refl in
    begun (mark ∷ (decimal n ++ 117 ∷ [])) t ground ∙ ap (feed (decimal n ++ 117 ∷ [])) opens
    ∙ feed-append (decimal n) (117 ∷ []) (within Keyed s) ∙ ap (feed (117 ∷ [])) (keyed-number n small s)

pub keyboard-read : (flags : KeyboardEnhancementFlags) → flag_bits flags < 2 ^ 64 → (t : Emulator) → t.phase ≡ Ground
    → feed (keyboard_bytes flags) t ≡ rested t
keyboard-read flags small = keyed-read 62 (flag_bits flags) refl refl small

pub keyboard_pop-read : (n : ℕ) → n < 2 ^ 64 → (t : Emulator) → t.phase ≡ Ground → feed (keyboard_pop_bytes n) t ≡ rested t
keyboard_pop-read n small = keyed-read 60 n refl refl small

style-idle : (style : SetCursorStyle) → IsIdle (style_digit style ++ codes " q")
unfolding feed
style-idle DefaultUserShape t = refl
style-idle BlinkingBlock t = refl
style-idle SteadyBlock t = refl
style-idle BlinkingUnderScore t = refl
style-idle SteadyUnderScore t = refl
style-idle BlinkingBar t = refl
style-idle SteadyBar t = refl

pub command-read : (command : Command) (t : Emulator) → t.phase ≡ Ground → feed (command_bytes command) t ≡ rested t
unfolding feed
command-read EnableMouseCapture t ground = modes-read (codes "?1000h") (codes "?1002h") (codes "?1003h") (codes "?1006h")
    (λ s. refl) (λ s. refl) (λ s. refl) (λ s. refl) t ground
command-read DisableMouseCapture t ground = modes-read (codes "?1006l") (codes "?1003l") (codes "?1002l") (codes "?1000l")
    (λ s. refl) (λ s. refl) (λ s. refl) (λ s. refl) t ground
command-read EnableBracketedPaste t ground = idle-read (codes "?2004h") (λ s. refl) t ground
command-read DisableBracketedPaste t ground = idle-read (codes "?2004l") (λ s. refl) t ground
command-read EnableFocusChange t ground = idle-read (codes "?1004h") (λ s. refl) t ground
command-read DisableFocusChange t ground = idle-read (codes "?1004l") (λ s. refl) t ground
command-read AskCursorPosition t ground = idle-read (codes "6n") (λ s. refl) t ground
command-read (Asked.SetCursorStyle style) t ground =
    idle-read (style_digit style ++ codes " q") (style-idle style) t ground
command-read EnableSizeReports t ground = idle-read (codes "?2048h") (λ s. refl) t ground
command-read DisableSizeReports t ground = idle-read (codes "?2048l") (λ s. refl) t ground
command-read PopKeyboardEnhancementFlags t ground = idle-read (codes "<1u") (λ s. refl) t ground
command-read KeepTitle t ground = idle-read (codes "22;2t") (λ s. refl) t ground
command-read BringTitleBack t ground = idle-read (codes "23;2t") (λ s. refl) t ground

-- the end of the screen, and a question there
pub end_asked-read : (t : Emulator) → t.phase ≡ Ground
    → feed (27 ∷ 91 ∷ 54 ∷ 53 ∷ 53 ∷ 51 ∷ 53 ∷ 59 ∷ 54 ∷ 53 ∷ 53 ∷ 51 ∷ 53 ∷ 72 ∷ 27 ∷ 91 ∷ 54 ∷ 110 ∷ []) t ≡ cursor_moved 65534
    65534 (rested t)
unfolding feed
end_asked-read t ground = begun (54 ∷ 53 ∷ 53 ∷ 51 ∷ 53 ∷ 59 ∷ 54 ∷ 53 ∷ 53 ∷ 51 ∷ 53 ∷ 72 ∷ 27 ∷ 91 ∷ 54 ∷ 110 ∷ []) t ground
    ∙ idle-read (codes "6n") (λ s. refl) (cursor_moved 65534 65534 (rested t)) refl

-- a rested terminal stays so
pub line_fed-rested : (t : Emulator) → line_fed (rested t) ≡ rested (line_fed (rested t))
line_fed-rested t =
    let s : Emulator = rested t in
    elim (nat_eq (s.y + 1) s.bottom) as (λ v. (if v then scrolled (if_so (nat_lt s.x s.width) s) else record s {
      y = min (s.y + 1)
          (s.height - 1);
      sure = s.sure && nat_lt s.x s.width;
    })
    ≡ rested (if v then scrolled (if_so (nat_lt s.x s.width) s) else record s {
      y = min (s.y + 1) (s.height - 1);
      sure = s.sure && nat_lt s.x s.width;
    }))
    [ true ↦ refl | false ↦ refl ]

pub fed-rested : (n : ℕ) (t : Emulator) → fed n (rested t) ≡ rested (fed n (rested t))
fed-rested zero t = refl
fed-rested (suc n) t = ap (fed n) (line_fed-rested t) ∙ fed-rested n (line_fed (rested t)) ∙ ap (λ u. rested (fed n u))
    (sym (line_fed-rested t))

fed-more : (n : ℕ) (t : Emulator) → fed (suc n) t ≡ line_fed (fed n t)
fed-more zero t = refl
fed-more (suc n) t = fed-more n (line_fed t)

-- one more line feed sent
pub feeds-more : (a b c : List ℕ) (k : ℕ) → Performs a b (λ t. fed k (returned t)) → Performs b c line_fed
    → Performs a c (λ t. fed (k + 1) (returned t))
feeds-more a b c k first next =
    let rests : (t : Emulator) → fed k (returned (rested t)) ≡ rested (fed k (returned (rested t))) =
    λ t. fed-rested k (returned (rested t)) in
    let e : suc k ≡ k + 1 = omega arith in
    Leads-so (Sends-then a b c (λ t. fed k (returned (rested t))) (λ t. line_fed (rested t)) first next
    (λ t. ap (λ (u : Emulator). u.phase) (rests t))) (λ t ground. ground) (λ t u ground does. does
    ∙ ap line_fed (sym (rests t)) ∙ sym (fed-more k (returned (rested t))) ∙ ap (λ n. fed n (returned (rested t))) e)
