-- What is read is pieces, each of which stands for the event that is told of it.
use Rattle.std.proofs.Common.{◌≡◌, ◌≢◌, ℕ, ◌<◌, Bool, true, false, List, [], ◌∷◌, ◌++◌, Option, Some, None, refl, ap, sym, ◌∙◌}
use Rattle.std.proofs.Common.{subst, append_assoc}
use Rattle.std.proofs.lemmas.List.{append-nil}
use Rattle.ratatui_events.specs.declared.event.Event.{Event}
use Rattle.ratatui_events.specs.declared.event.Event.TheVariants.{FocusGained, FocusLost, Key, Mouse, PasteBegun, PasteEnded}
use Rattle.ratatui_events.specs.declared.event.Event.TheVariants.{Pasted, Size, Position, Unknown}
use Rattle.ratatui_input.specs.declared.decoder.State.{State}
use Rattle.ratatui_input.specs.declared.decoder.State.TheVariants.{Ground, Escape, Single, Bracket, Function, Numbers, Click}
use Rattle.ratatui_input.specs.declared.decoder.State.TheVariants.{ClickButton, ClickColumn, Character, Opened, Text, TextEscape}
use Rattle.ratatui_input.specs.Decoding.{Next, Whole, More, Apart}
use Rattle.ratatui_input.specs.Encodings.{fresh_decoder}
use Rattle.ratatui_input.specs.Decoding.{Told, told_event, stepped, first, cut, read, byte_told, fed_next, decoded, fresh}
use Rattle.ratatui_input.specs.Decoding.{after_cut, after_escape, begun_anew, unless_apart}
use Rattle.ratatui_input.proofs.StringLemmas.{string-leads, IsJoined}
use Rattle.ratatui_input.specs.Pieces.{StandsFor, IsNothing, by_grammar, by_numbers, lone_escape, lone_bracket, lone_opener, lone_single}
use Rattle.ratatui_input.specs.Pieces.{IsPiece, unknown_piece, nothing_piece, early_end_piece, event_piece, begun_piece}
use Rattle.ratatui_input.specs.Pieces.{pasted_piece, ended_piece, no_piece, then_pieces, IsReadInPieces, AreBytes}
use Rattle.ratatui_input.proofs.StepLemmas.{at, Leads, leads-none, leads-one, leads-append, ends}
use Rattle.ratatui_input.proofs.UnknownLemmas.{nothing-whole, nothing-cut}
use Rattle.ratatui_input.proofs.StandLemmas.{Stands, grammar_stands, numbers_stand, escape_stands, bracket_stands, single_stands}
use Rattle.ratatui_input.proofs.StandLemmas.{not_known, opener_stands}
use Rattle.ratatui_input.proofs.ComeLemmas.{HasCome, Follows, nothing, follows, first-follows, first-joined, IsCut, escape_comes}
use Rattle.ratatui_input.proofs.ComeLemmas.{cut-stands, single_comes, bracket_comes, function_comes, numbers_come, click_comes}
use Rattle.ratatui_input.proofs.ComeLemmas.{button_comes, column_comes, opened_comes, text_comes, text_escape_comes, character_comes}
use Rattle.ratatui_input.proofs.ComeLemmas.{string-some}
use Rattle.std.specs.Prelude.{◌==◌}
use Rattle.ratatui_input.specs.Grammar.{IsOpener, AreText}

-- ---- an event as it is read, within a paste and outside one

stands-for : {bytes : List ℕ} {event : Event} → Stands bytes event → event ≢ Unknown → StandsFor bytes event
stands-for (grammar_stands h) k = by_grammar h
stands-for (numbers_stand h) k = by_numbers h
stands-for escape_stands k = lone_escape
stands-for bracket_stands k = lone_bracket
stands-for (opener_stands h) k = lone_opener h
stands-for (single_stands h) k = lone_single h
stands-for (not_known h) k = absurd (k refl)

piece-of : (p : Bool) (bytes : List ℕ) (e : Event) → bytes ≢ [] → Stands bytes e → (e ≡ Unknown → IsNothing bytes)
    → IsPiece p bytes (read p e).0 (read p e).1
unfolding read
piece-of false bytes PasteBegun some h k = begun_piece (stands-for h (λ x. cc))
piece-of false bytes PasteEnded some h k = early_end_piece (stands-for h (λ x. cc))
piece-of false bytes Unknown some h k = nothing_piece (k refl)
piece-of false bytes (Key key) some h k = event_piece (stands-for h (λ x. cc)) (λ x. cc) (λ x. cc) (λ x. cc)
piece-of false bytes (Mouse m) some h k = event_piece (stands-for h (λ x. cc)) (λ x. cc) (λ x. cc) (λ x. cc)
piece-of false bytes FocusGained some h k = event_piece (stands-for h (λ x. cc)) (λ x. cc) (λ x. cc) (λ x. cc)
piece-of false bytes FocusLost some h k = event_piece (stands-for h (λ x. cc)) (λ x. cc) (λ x. cc) (λ x. cc)
piece-of false bytes (Pasted c) some h k = event_piece (stands-for h (λ x. cc)) (λ x. cc) (λ x. cc) (λ x. cc)
piece-of false bytes (Size x y) some h k = event_piece (stands-for h (λ x. cc)) (λ x. cc) (λ x. cc) (λ x. cc)
piece-of false bytes (Position x y) some h k = event_piece (stands-for h (λ x. cc)) (λ x. cc) (λ x. cc) (λ x. cc)
piece-of true bytes PasteEnded some h k = ended_piece (stands-for h (λ x. cc))
piece-of true bytes (Key key) some h k = pasted_piece (stands-for h (λ x. cc))
piece-of true bytes PasteBegun some h k = unknown_piece some
piece-of true bytes Unknown some h k = unknown_piece some
piece-of true bytes (Mouse m) some h k = unknown_piece some
piece-of true bytes FocusGained some h k = unknown_piece some
piece-of true bytes FocusLost some h k = unknown_piece some
piece-of true bytes (Pasted c) some h k = unknown_piece some
piece-of true bytes (Size x y) some h k = unknown_piece some
piece-of true bytes (Position x y) some h k = unknown_piece some

-- ---- byte by byte

-- bytes have come that lead here and tell nothing
record Waits (s : State) (come : List ℕ) : Type 0 where
  shape : HasCome s come
  leads : Leads Ground come s

waits-none : Waits Ground []
waits-none = record { shape = nothing; leads = leads-none Ground }

some-bytes : (come : List ℕ) (b : ℕ) → come ++ (b ∷ []) ≢ []
some-bytes [] b e = cc
some-bytes (x ∷ come) b e = cc

-- what one byte and the others give
abbrev joined : Next → State → ℕ → Bool → List ℕ → Told
joined n s b p bs = let t = fed_next n s b p in let u = decoded t.1 bs in (t.0 ++ u.0, u.1)

decoded-cons : (p : Bool) (s : State) (b : ℕ) (bs : List ℕ) → decoded (at p s) (b ∷ bs) ≡ joined (stepped s b) s b p bs
unfolding decoded byte_told
decoded-cons p s b bs = refl

ended : (p : Bool) (s : State) (come : List ℕ) → Waits s come → IsReadInPieces p (come ++ []) (decoded (at p s) [])
unfolding decoded
ended p s come h = record {
  pieces = [];
  rest = come ++ [];
  whole = refl;
  events = no_piece;
  silent = h.leads.to p [];
}

-- a first piece, and what follows it
piece-then : (p q : Bool) (come bytes : List ℕ) (event : Event) (told : Told) → IsPiece p come event q
    → IsReadInPieces q bytes told
    → IsReadInPieces p (come ++ bytes) (event ∷ told.0, told.1)
piece-then p q come bytes event told h k = record {
  pieces = come ++ k.pieces;
  rest = k.rest;
  whole = ap (λ (bs : List ℕ). come ++ bs) k.whole ∙ sym (append_assoc come k.pieces k.rest);
  events = then_pieces h k.events;
  silent = k.silent;
}

-- what the bytes tell by themselves
whole-told : (s : State) (come : List ℕ) (b : ℕ) → Leads Ground come s → stepped s b ≡ Whole Unknown → (q : Bool)
    → decoded (at q Ground) (come ++ (b ∷ [])) ≡ told_event Unknown Ground q
whole-told s come b leads eq q = leads.to q (b ∷ []) ∙ ends q s b Unknown eq

cut-told : (s : State) (come : List ℕ) → Leads Ground come s → (decoded fresh_decoder come).0 ≡ []
unfolding decoded
cut-told s come leads =
    ap (λ (bs : List ℕ). (decoded fresh_decoder bs).0) (sym (append-nil come)) ∙ ap (λ (t : Told). t.0) (leads.to false [])

-- the byte goes on with what has come, or ends it
goes-on : (next : Next) (p : Bool) (s : State) (come : List ℕ) (b : ℕ) (bs : List ℕ) → stepped s b ≡ next → IsJoined next
    → Follows next (come ++ (b ∷ [])) → Leads Ground come s
    → ((q : Bool) (s' : State) (further : List ℕ) → Waits s' further → IsReadInPieces q (further ++ bs) (decoded (at q s') bs))
    → IsReadInPieces p (come ++ (b ∷ bs)) (let t = fresh next p in let u = decoded t.1 bs in (t.0 ++ u.0, u.1))
goes-on (Whole e) p s come b bs eq j f leads ih =
    subst (λ (all : List ℕ). IsReadInPieces p all (let u = decoded (at (read p e).1 Ground) bs in ((read p e).0 ∷ u.0, u.1)))
    (append_assoc come (b ∷ []) bs)
    (piece-then p (read p e).1 (come ++ (b ∷ [])) bs (read p e).0 (decoded (at (read p e).1 Ground) bs)
    (piece-of p (come ++ (b ∷ [])) e (some-bytes come b) f (λ x. nothing-whole (come ++ (b ∷ [])) (some-bytes come b)
    (whole-told s come b leads (eq ∙ ap Whole x)))) (ih (read p e).1 Ground [] waits-none))
goes-on (More s') p s come b bs eq j f leads ih =
    subst (λ (all : List ℕ). IsReadInPieces p all (decoded (at p s') bs)) (append_assoc come (b ∷ []) bs)
    (ih p s' (come ++ (b ∷ [])) (record {
      shape = f;
      leads = leads-append Ground s s' come (b ∷ []) leads (leads-one s s' b eq);
    }))
goes-on Apart p s come b bs eq j f leads ih = absurd j

-- the byte begins anew, and what had come is told
begins-anew : (o : Option Event) (p : Bool) (s : State) (come : List ℕ) (b : ℕ) (bs : List ℕ) → b < 256 → stepped s b ≡ Apart
    → IsCut o s come → Leads Ground come s
    → ((q : Bool) (s' : State) (further : List ℕ) → Waits s' further → IsReadInPieces q (further ++ bs) (decoded (at q s') bs))
    → IsReadInPieces p (come ++ (b ∷ bs)) (let t = after_cut o (first b false) p in let u = decoded t.1 bs in (t.0 ++ u.0, u.1))
unfolding stepped
begins-anew None p s come b bs small eq c leads ih = absurd (subst IsJoined (ap (λ (x : State). stepped x b) (sym c) ∙ eq)
    (first-joined b))
begins-anew (Some e) p s come b bs small eq c leads ih =
    piece-then p (read p e).1 come (b ∷ bs) (read p e).0 (let t = fresh (first b false) (read p e).1 in let u = decoded t.1 bs in
    (t.0 ++ u.0, u.1))
    (piece-of p come e c.1 c.0 (λ x. nothing-cut come c.1 (cut-told s come leads)))
    (goes-on (first b false) (read p e).1 Ground [] b bs refl (first-joined b) (first-follows b) (leads-none Ground) ih)

escape-leads : Leads Ground (27 ∷ []) Escape
unfolding stepped first
escape-leads = leads-one Ground Escape 27 refl

over-then : (p : Bool) (opener t : ℕ) (ts : List ℕ) (n : Next) (b : ℕ) (bs : List ℕ) → IsOpener opener → AreText (t ∷ ts)
    → IsReadInPieces (read p Unknown).1 (27 ∷ b ∷ bs) (let t = fresh n (read p Unknown).1 in let u = decoded t.1 bs in
    (t.0 ++ u.0, u.1))
    → IsReadInPieces p (27 ∷ opener ∷ t ∷ ((ts ++ (27 ∷ [])) ++ (b ∷ bs)))
    (let t = fresh n (read p Unknown).1 in let u = decoded t.1 bs in ((read p Unknown).0 ∷ (t.0 ++ u.0), u.1))
over-then p opener t ts n b bs o h k =
    let come = 27 ∷ opener ∷ t ∷ ts in
    let some = string-some opener t ts in
    subst (λ (all : List ℕ). IsReadInPieces p (27 ∷ opener ∷ t ∷ all)
    (let t = fresh n (read p Unknown).1 in let u = decoded t.1 bs in ((read p Unknown).0 ∷ (t.0 ++ u.0), u.1)))
    (sym (append_assoc ts (27 ∷ []) (b ∷ bs)))
    (piece-then p (read p Unknown).1 come (27 ∷ b ∷ bs) (read p Unknown).0
    (let t = fresh n (read p Unknown).1 in let u = decoded t.1 bs in (t.0 ++ u.0, u.1))
    (piece-of p come Unknown some (not_known some)
    (λ x. nothing-cut come some (cut-told (Text (opener == 93) 0) come (string-leads opener t ts o h)))) k)

-- the bytes after ESC go on with it, and a string is over that came before it
escape-begins : (n : Next) (p : Bool) (opener t : ℕ) (ts : List ℕ) (b : ℕ) (bs : List ℕ) → b < 256 → IsOpener opener
    → AreText (t ∷ ts)
    → stepped Escape b ≡ n → Follows n (27 ∷ b ∷ []) → stepped TextEscape b ≡ Apart
    → IsCut (Some Unknown) TextEscape (27 ∷ opener ∷ t ∷ (ts ++ (27 ∷ [])))
    → Leads Ground (27 ∷ opener ∷ t ∷ (ts ++ (27 ∷ []))) TextEscape
    → ((q : Bool) (s' : State) (further : List ℕ) → Waits s' further → IsReadInPieces q (further ++ bs) (decoded (at q s') bs))
    → IsReadInPieces p (27 ∷ opener ∷ t ∷ ((ts ++ (27 ∷ [])) ++ (b ∷ bs)))
    (let t = after_cut (Some Unknown) (unless_apart n b) p in let u = decoded t.1 bs in (t.0 ++ u.0, u.1))
escape-begins Apart p opener t ts b bs small o h eq f apart c leads ih =
    begins-anew (Some Unknown) p TextEscape (27 ∷ opener ∷ t ∷ (ts ++ (27 ∷ []))) b bs small apart c leads ih
escape-begins (More s) p opener t ts b bs small o h eq f apart c leads ih =
    over-then p opener t ts (More s) b bs o h
    (goes-on (More s) (read p Unknown).1 Escape (27 ∷ []) b bs eq tt f escape-leads ih)
escape-begins (Whole e) p opener t ts b bs small o h eq f apart c leads ih =
    over-then p opener t ts (Whole e) b bs o h
    (goes-on (Whole e) (read p Unknown).1 Escape (27 ∷ []) b bs eq tt f escape-leads ih)

-- what had come is told, and the byte is read anew
read-anew : {s : State} {come : List ℕ} → HasCome s come → (p : Bool) (b : ℕ) (bs : List ℕ) → b < 256 → stepped s b ≡ Apart
    → Leads Ground come s
    → ((q : Bool) (s' : State) (further : List ℕ) → Waits s' further → IsReadInPieces q (further ++ bs) (decoded (at q s') bs))
    → IsReadInPieces p (come ++ (b ∷ bs)) (let t = after_cut (cut s) (begun_anew s b) p in let u = decoded t.1 bs in
    (t.0 ++ u.0, u.1))
unfolding begun_anew stepped cut
read-anew (text_escape_comes {opener = opener} t ts o h) p b bs small eq leads ih =
    escape-begins (after_escape b) p opener t ts b bs small o h refl (follows escape_comes b small) eq
    (cut-stands (text_escape_comes t ts o h)) leads ih
read-anew nothing p b bs small eq leads ih = begins-anew (cut Ground) p Ground [] b bs small eq refl leads ih
read-anew escape_comes p b bs small eq leads ih = begins-anew (cut Escape) p Escape _ b bs small eq (cut-stands escape_comes) leads ih
read-anew (single_comes {n = n} h) p b bs small eq leads ih = begins-anew (cut (Single n)) p (Single n) _ b bs small eq (cut-stands (single_comes h)) leads ih
read-anew bracket_comes p b bs small eq leads ih = begins-anew (cut Bracket) p Bracket _ b bs small eq (cut-stands bracket_comes) leads ih
read-anew function_comes p b bs small eq leads ih = begins-anew (cut Function) p Function _ b bs small eq (cut-stands function_comes) leads ih
read-anew (numbers_come {s = s} h) p b bs small eq leads ih = begins-anew (cut (Numbers s)) p (Numbers s) _ b bs small eq (cut-stands (numbers_come h)) leads ih
read-anew click_comes p b bs small eq leads ih = begins-anew (cut Click) p Click _ b bs small eq (cut-stands click_comes) leads ih
read-anew (button_comes n n1 n2) p b bs small eq leads ih = begins-anew (cut (ClickButton n)) p (ClickButton n) _ b bs small eq (cut-stands (button_comes n n1 n2)) leads ih
read-anew (column_comes n x n1 n2 x1 x2) p b bs small eq leads ih = begins-anew (cut (ClickColumn n x)) p (ClickColumn n x) _ b bs small eq (cut-stands (column_comes n x n1 n2 x1 x2)) leads ih
read-anew (opened_comes {opener = opener} o) p b bs small eq leads ih = begins-anew (cut (Opened opener)) p (Opened opener) _ b bs small eq (cut-stands (opened_comes o)) leads ih
read-anew (text_comes {opener = opener} t ts o h) p b bs small eq leads ih = begins-anew (cut (Text (opener == 93) 0)) p (Text (opener == 93) 0) _ b bs small eq (cut-stands (text_comes t ts o h)) leads ih
read-anew (character_comes {p = q} h) p b bs small eq leads ih = begins-anew (cut (Character q)) p (Character q) _ b bs small eq (cut-stands (character_comes h)) leads ih

one-byte : (next : Next) (p : Bool) (s : State) (come : List ℕ) (b : ℕ) (bs : List ℕ) → b < 256 → stepped s b ≡ next
    → Follows next (come ++ (b ∷ [])) → Waits s come
    → ((q : Bool) (s' : State) (further : List ℕ) → Waits s' further → IsReadInPieces q (further ++ bs) (decoded (at q s') bs))
    → IsReadInPieces p (come ++ (b ∷ bs)) (joined next s b p bs)
one-byte (Whole e) p s come b bs small eq f w ih = goes-on (Whole e) p s come b bs eq tt f w.leads ih
one-byte (More s') p s come b bs small eq f w ih = goes-on (More s') p s come b bs eq tt f w.leads ih
one-byte Apart p s come b bs small eq f w ih = read-anew w.shape p b bs small eq w.leads ih

from-here : (bs : List ℕ) (p : Bool) (s : State) (come : List ℕ) → AreBytes bs → Waits s come
    → IsReadInPieces p (come ++ bs) (decoded (at p s) bs)
from-here [] p s come h w = ended p s come w
from-here (b ∷ bs) p s come h w =
    subst (IsReadInPieces p (come ++ (b ∷ bs))) (sym (decoded-cons p s b bs))
    (one-byte (stepped s b) p s come b bs h.0 refl (follows w.shape b h.0) w (λ q s' further v. from-here bs q s' further h.1 v))

-- whatever bytes are read, they are pieces
pub read-in-pieces : (bytes : List ℕ) → AreBytes bytes → IsReadInPieces false bytes (decoded fresh_decoder bytes)
read-in-pieces bytes h = from-here bytes false Ground [] h waits-none
