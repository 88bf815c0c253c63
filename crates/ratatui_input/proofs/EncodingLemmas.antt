-- Which bytes stand for which events.
use Rattle.std.proofs.Common.{◌≡◌, ℕ, ◌≤◌, Bool, List, ◌++◌, ap, ◌∙◌, arith}
use Rattle.std.proofs.lemmas.Grind.{common_steps}
use Rattle.ratatui_input.specs.Decoding.{Whole}
use Rattle.ratatui_events.specs.declared.event.Event.{Event}
use Rattle.ratatui_input.specs.Keys.{typed_key, with_alt}
use Rattle.ratatui_input.specs.Decoding.{Told, first, decoded, next_told}
use Rattle.ratatui_input.specs.Encodings.{fresh_decoder, Gives}
use Rattle.ratatui_input.proofs.DecodingLemmas.{decoded-append}

-- what stands for events stands for them whatever follows
pub gives-before : (a rest : List ℕ) (xs : List Event) → Gives a xs
    → decoded fresh_decoder (a ++ rest) ≡ (xs ++ (decoded fresh_decoder rest).0, (decoded fresh_decoder rest).1)
gives-before a rest xs h = decoded-append fresh_decoder a rest ∙ ap (λ (t : Told). next_told t rest) h.all

-- and so do bytes of several events, one after the other
pub gives-append : (a b : List ℕ) (xs ys : List Event) → Gives a xs → Gives b ys → Gives (a ++ b) (xs ++ ys)
gives-append a b xs ys h k = record { all = gives-before a b xs h ∙ ap (λ (t : Told). (xs ++ t.0, t.1)) k.all }

-- a printed ASCII character, as a first byte
pub first-typed : (b : ℕ) (alt : Bool) → 32 ≤ b → b ≤ 126 → first b alt ≡ Whole (with_alt (typed_key b) alt)
unfolding first
first-typed b alt low high = grind (arith, common_steps)
