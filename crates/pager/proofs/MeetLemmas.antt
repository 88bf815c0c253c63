-- Pages meet, and the last one ends with the text.
use Rattle.std.proofs.Common.{◌≡◌, ◌<◌, ◌≤◌, ◌==◌, ℕ, zero, suc, ◌+◌, ◌-◌, Bool, true, false, List, [], length}
use Rattle.std.proofs.Common.{nat_lt, if◌then◌else◌, refl, ap, sym, ◌∙◌, subst, arith, min, ◌/◌, ◌^◌}
use Rattle.std.proofs.lemmas.Bool.Decides.{nat_tests}
use Rattle.pager.specs.declared.sought.Sought.TheVariants.{Plain}
use Rattle.pager.specs.declared.pager.Pager.{Pager}
use Rattle.text_places.specs.declared.place.Place.{Place}
use Rattle.pager.specs.declared.command.Command.TheVariants.{PageDown}
use Rattle.pager.specs.Search.{numbered_line}
use Rattle.pager.specs.Symbols.{line_symbols}
use Rattle.text_places.specs.Places.{text_place, next_place, previous_place, places_after, places_before, is_before, earlier_place}
use Rattle.pager.specs.Places.{breaking, page_place, page_rows, last_start, stride}
use Rattle.pager.specs.Places.{place_after, last_page}
use Rattle.pager.specs.Places.{at_place}
use Rattle.pager.specs.Moves.{after_move}
use Rattle.pager.specs.PlaceLaws.{rows-some}
use Rattle.text_places.proofs.WalkLemmas.{further}

pub meets : (p : Pager) → p.number ≡ 0
    → page_place (after_move PageDown p) ≡ earlier_place (place_after (page_rows p) p) (last_page p)
meets p none = ap (λ n. let q : Pager = at_place (place_after (if n == 0 then page_rows p else n) p) p in page_place q) none

-- without broken lines each line is a row
flat-after : (p : Pager) → p.wraps ≡ false → (n line : ℕ) → places_after (breaking p) n (text_place line 0) ≡ text_place (line + n) 0
unfolding places_after
flat-after p flat zero line = ap (λ l. text_place l 0) (omega arith)
flat-after p flat (suc n) line =
    ap (next_place (breaking p)) (flat-after p flat n line) ∙ one-row (line + n) ∙ ap (λ l. text_place l 0) (omega arith)
  where
    one-row : (l : ℕ) → next_place (breaking p) (text_place l 0) ≡ text_place (l + 1) 0
    one-row l = ap (λ b. let rows : ℕ =
        if b then min (last_start 0 (line_symbols (Plain []) [] (numbered_line p.document l))) (2 ^ 32 - 1) / stride p + 1 else 1 in
        if nat_lt 1 rows then text_place l 1 else text_place (l + 1) 0) flat

ends-by : (b : Bool) (p : Pager) → p.wraps ≡ b → is_before (text_place 0 0) (last_page p) ≡ true
    → places_after (breaking p) (page_rows p) (last_page p) ≡ text_place (length p.document) 0
ends-by true p wraps later =
    let end : Place = text_place (length p.document) 0 in
    let n : ℕ = page_rows p in
    let is : last_page p ≡ places_before (breaking p) n end =
    ap (λ b. if b then places_before (breaking p) n end else text_place (length p.document - n) 0) wraps in
    let after : is_before (text_place 0 0) (places_before (breaking p) n end) ≡ true =
    ap (is_before (text_place 0 0)) (sym is) ∙ later in
    ap (places_after (breaking p) n) is
    ∙ further (breaking p) n end (rows-some p) (rows-some p (length p.document)) after
ends-by false p flat later =
    let n : ℕ = page_rows p in
    let is : last_page p ≡ text_place (length p.document - n) 0 =
    ap (λ b. if b then places_before (breaking p) n (text_place (length p.document) 0) else text_place (length p.document - n) 0)
    flat in
    let after : is_before (text_place 0 0) (text_place (length p.document - n) 0) ≡ true =
    ap (is_before (text_place 0 0)) (sym is) ∙ later in
    let fits : n ≤ length p.document = grind (arith, nat_tests, after) in
    ap (places_after (breaking p) n) is ∙ flat-after p flat n (length p.document - n)
    ∙ ap (λ l. text_place l 0) (omega (arith, fits))

pub ends : (p : Pager) → is_before (text_place 0 0) (last_page p) ≡ true
    → places_after (breaking p) (page_rows p) (last_page p) ≡ text_place (length p.document) 0
ends p = ends-by p.wraps p refl
