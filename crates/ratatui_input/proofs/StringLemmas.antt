-- Strings of the terminal: what opens one, its text, and its end.
use Rattle.std.proofs.Common.{◌≡◌, ◌≢◌, ◌⊎◌, ℕ, ◌<◌, ◌≤◌, Bool, true, false, List, [], ◌∷◌, ◌++◌, Option, Some, None, refl}
use Rattle.std.proofs.Common.{ap, ◌∙◌, arith}
use Rattle.std.specs.Prelude.{nat_le, if◌then◌else◌, ◌==◌, ◌||◌}
use Rattle.std.proofs.lemmas.Bool.Decides.{nat_tests}
use Rattle.ratatui_events.specs.declared.event.Event.TheVariants.{Unknown}
use Rattle.ratatui_input.specs.declared.decoder.State.TheVariants.{Ground, Escape, Opened, Text, TextEscape}
use Rattle.ratatui_input.specs.declared.decoder.Partial.{Partial}
use Rattle.ratatui_input.specs.Decoding.{Next, Whole, More, Apart}
use Rattle.ratatui_input.specs.Decoding.{Told, stepped, first, begun, beginning, after_escape, in_text, after_text}
use Rattle.ratatui_input.specs.Decoding.{opens_string, may_be_in_string, begun_anew, unless_apart, cut, read, byte_told, fed_next}
use Rattle.ratatui_input.specs.Decoding.{decoded, lies_in, after_cut, settled}
use Rattle.ratatui_input.specs.Keys.{typed_key, with_alt}
use Rattle.ratatui_input.specs.Encodings.{fresh_decoder, Gives, FollowsEscape, settled_after}
use Rattle.ratatui_input.specs.Grammar.{IsOpener, IsText, AreText, EndsString, by_terminator, by_bell}
use Rattle.ratatui_input.proofs.StepLemmas.{at, Leads, leads-none, leads-cons}
use Rattle.ratatui_input.proofs.StandLemmas.{same}

-- ---- what opens a string, and its text

pub opener-asked : (b : ℕ) → opens_string b ≡ true → IsOpener b
opener-asked b h = grind (arith, nat_tests)

pub opener-not : (b : ℕ) → opens_string b ≡ false → (b ≢ 80) × (b ≢ 88) × ((b < 93) ⊎ (95 < b))
opener-not b h = (λ e. grind (arith, nat_tests), λ e. grind (arith, nat_tests), grind (arith, nat_tests))

pub text-asked : (b : ℕ) → may_be_in_string b ≡ true → IsText b
text-asked b h = grind (arith, nat_tests)

opened : (b : ℕ) → IsOpener b → stepped Escape b ≡ More (Opened b)
unfolding stepped after_escape
opened b h = grind (arith, nat_tests)

text-begun : (opener b : ℕ) → IsText b → stepped (Opened opener) b ≡ More (Text (opener == 93) 0)
unfolding stepped
text-begun opener b h = grind (arith, nat_tests)

text-goes_on : (bell : Bool) (ticks b : ℕ) → IsText b → stepped (Text bell ticks) b ≡ More (Text bell 0)
unfolding stepped in_text
text-goes_on bell ticks b h = grind (arith, nat_tests)

text-leads : (bell : Bool) (ts : List ℕ) → AreText ts → Leads (Text bell 0) ts (Text bell 0)
text-leads bell [] h = leads-none (Text bell 0)
text-leads bell (t ∷ ts) h = leads-cons (Text bell 0) (Text bell 0) (Text bell 0) t ts (text-goes_on bell 0 t h.0)
    (text-leads bell ts h.1)

escape-begun : stepped Ground 27 ≡ More Escape
unfolding stepped first
escape-begun = refl

pub string-leads : (opener t : ℕ) (ts : List ℕ) → IsOpener opener → AreText (t ∷ ts)
    → Leads Ground (27 ∷ opener ∷ t ∷ ts) (Text (opener == 93) 0)
string-leads opener t ts o h =
    leads-cons Ground Escape (Text (opener == 93) 0) 27 (opener ∷ t ∷ ts) escape-begun
    (leads-cons Escape (Opened opener) (Text (opener == 93) 0) opener (t ∷ ts) (opened opener o)
    (leads-cons (Opened opener) (Text (opener == 93) 0) (Text (opener == 93) 0) t ts (text-begun opener t h.0)
    (text-leads (opener == 93) ts h.1)))

pub text-snoc : (ts : List ℕ) (b : ℕ) → AreText ts → IsText b → AreText (ts ++ (b ∷ []))
text-snoc [] b h k = (k, tt)
text-snoc (t ∷ ts) b h k = (h.0, text-snoc ts b h.1 k)

-- ---- a whole string

end-told : {opener : ℕ} {end : List ℕ} → EndsString opener end
    → decoded (at false (Text (opener == 93) 0)) end ≡ (Unknown ∷ [], fresh_decoder)
unfolding decoded byte_told stepped in_text read
end-told by_terminator = refl
end-told by_bell = refl

pub string-told : {opener : ℕ} (first_byte : ℕ) (text end : List ℕ) → IsOpener opener → AreText (first_byte ∷ text)
    → EndsString opener end
    → Gives (27 ∷ opener ∷ first_byte ∷ (text ++ end)) (Unknown ∷ [])
string-told {opener = opener} first_byte text end o h e = record {
  all = (string-leads opener first_byte text o h).to false end ∙ end-told e;
}

-- ---- ESC within a string

-- a byte that is not apart from what came before it
abbrev pub IsJoined : Next → Type 0
IsJoined Apart = ⊥
IsJoined next = Unit {0}

if-goes_on : (t : Bool) (x y : Next) → (t ≡ true → IsJoined x) → (t ≡ false → IsJoined y) → IsJoined (if t then x else y)
if-goes_on true x y f g = f refl
if-goes_on false x y f g = g refl

begun-not_none : (b : ℕ) → 194 ≤ b → b ≤ 244 → begun b true ≡ None → ⊥
unfolding begun
begun-not_none b low high e = grind (arith, nat_tests)

beginning-goes_on : (o : Option Partial) → (o ≡ None → ⊥) → IsJoined (beginning o true)
beginning-goes_on (Some p) h = tt
beginning-goes_on None h = h refl

beyond : (b : ℕ) → (nat_le b 31 || (b == 127)) ≡ false → lies_in 32 126 b ≡ false → 128 ≤ b
beyond b h k = grind (arith, nat_tests)

first-goes_on : (b : ℕ) → FollowsEscape b → IsJoined (first b true)
unfolding first
first-goes_on b h =
    if-goes_on (b == 27) _ _ (λ e. tt)
    (λ n1. if-goes_on (nat_le b 31 || (b == 127)) _ _ (λ e. tt)
    (λ n2. if-goes_on (lies_in 32 126 b) _ _ (λ e. tt)
    (λ n3. let far = beyond b n2 n3 in let where_it_is = h.2 in
    beginning-goes_on (begun b true) (begun-not_none b (omega (arith, far, where_it_is)) (omega (arith, far, where_it_is))))))

escape-goes_on : (b : ℕ) → FollowsEscape b → IsJoined (after_escape b)
unfolding after_escape
escape-goes_on b h =
    if-goes_on (b == 27) _ _ (λ e. absurd (h.0 (same b 27 e)))
    (λ n1. if-goes_on (b == 91) _ _ (λ e. tt)
    (λ n2. if-goes_on (b == 79) _ _ (λ e. tt)
    (λ n3. if-goes_on (opens_string b) _ _ (λ e. tt) (λ n4. first-goes_on b h))))

no-end : (b : ℕ) → b ≢ 92 → after_text b ≡ Apart
no-end b h = grind (arith, nat_tests)

-- what a byte gives that goes on with ESC, and the bytes after it
abbrev followed : Told → List ℕ → Told
followed t rest = let u = decoded t.1 rest in (t.0 ++ u.0, u.1)

joined-alike : (n : Next) (b : ℕ) (rest : List ℕ) → IsJoined n
    → followed (after_cut (Some Unknown) (unless_apart n b) false) rest
    ≡ (Unknown ∷ (followed (fed_next n Escape b false) rest).0, (followed (fed_next n Escape b false) rest).1)
unfolding read
joined-alike (Whole event) b rest h = refl
joined-alike (More state) b rest h = refl
joined-alike Apart b rest h = absurd h

-- an ESC within a string, and a byte that goes on with it: the string is over, and what follows is read from ESC on
pub escape-in_string : (bell : Bool) (ticks b : ℕ) (rest : List ℕ) → FollowsEscape b
    → decoded (at false (Text bell ticks)) (27 ∷ b ∷ rest) ≡ (
      Unknown ∷ (decoded fresh_decoder (27 ∷ b ∷ rest)).0,
      (decoded fresh_decoder (27 ∷ b ∷ rest)).1,
    )
unfolding decoded byte_told stepped in_text first cut begun_anew
escape-in_string bell ticks b rest h =
    ap (λ (n : Next). followed (fed_next n TextEscape b false) rest) (no-end b h.1)
    ∙ joined-alike (after_escape b) b rest (escape-goes_on b h)

-- ---- settling

opened-two : (b : ℕ) → IsOpener b → decoded fresh_decoder (27 ∷ b ∷ []) ≡ ([], at false (Opened b))
unfolding decoded byte_told stepped first
opened-two b h = ap (λ (n : Next). followed (fed_next n Escape b false) []) (opened b h)

pub settled-opened : (b : ℕ) → IsOpener b → settled_after (27 ∷ b ∷ []) ≡ (with_alt (typed_key b) true ∷ [], fresh_decoder)
unfolding settled read
settled-opened b h = ap (λ (t : Told). settled t.1.state t.1) (opened-two b h)
