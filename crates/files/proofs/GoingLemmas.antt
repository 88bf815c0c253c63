-- Where typed paths lead, and how they are completed.
use Rattle.std.proofs.Common.{◌≡◌, ⊎_elim, inl, inr, ◌==◌, ℕ, zero, suc, Bool, true, false, if◌then◌else◌, arith}
use Rattle.std.proofs.Common.{List, [], ◌∷◌, ◌++◌, length, take, drop, map, Option, Some, None, refl, ap, sym, ◌∙◌, append_assoc, append-nil, subst}
use Rattle.std.specs.Prelude.{is_some, slice_get, codes, encode_utf8_all, unwrap_or}
use Rattle.std.specs.List.{fold, slice_split}
use Rattle.std.specs.Option.{option_and_then}
use Rattle.std.proofs.Math.Seq.{drop-append_seam, drop-length}
use Rattle.std.proofs.lemmas.Bool.{cases_Bool}
use Rattle.std.proofs.lemmas.{Bool.Decides.nat_tests}
use Rattle.ratatui_events.specs.declared.event.Event.{Event}
use Rattle.ratatui_reads.specs.Reads.{size_in}
use Rattle.ratatui_acts.specs.declared.message.Message.TheVariants as message
use Rattle.text_field.specs.Field.{FieldData, field_text, accepted, typing, moved_right}
use Rattle.ratatui_files.specs.Paths.{after_start, is_slash, is_path, path_in, is_inside}
use Rattle.ratatui_files.specs.declared.answer.Answer.{Answer}
use Rattle.ratatui_files.specs.declared.answer.Answer.TheVariants as answer
use Rattle.ratatui_files.specs.declared.answer.Info.{Info}
use Rattle.ratatui_files.proofs.PathLemmas.{after-start_some}
use Rattle.files.specs.declared.browser.Browser.{Browser}
use Rattle.files.specs.declared.browser.Mode.{Mode}
use Rattle.files.specs.declared.browser.Mode.TheVariants.{Visiting, Locating, Completing}
use Rattle.files.specs.declared.list.Listing.{Listing as ListingData}
use Rattle.files.specs.declared.list.Outcome.TheVariants as outcome
use Rattle.files.specs.declared.hands.Wanted.{Wanted}
use Rattle.files.specs.Keys.{is_input}
use Rattle.files.specs.Sorting.{IsPlaceOf}
use Rattle.files.specs.Doing.{Lists, TellsListing}
use Rattle.files.specs.Moves.{browsed, browser_at_told_size, browsed_after, is_completing}
use Rattle.files.specs.Ways.{after_parts, path_meant, path_below, path_if, way_of}
use Rattle.files.specs.Completions.{entry_rest, common_count, common_with, in_common, completion}
use Rattle.files.specs.Laws.{IsWithin, LeadsToEntry, IsFront}

-- ---- where they lead

inside-by : (base inner : List ℕ) → (inner ≡ [] → ⊥) → is_inside base (path_in base inner) ≡ true
inside-by [] [] some = absurd (some refl)
inside-by [] (b ∷ inner) some = refl
inside-by (c ∷ base) inner some =
    let path = (c ∷ base) ++ (codes "/" ++ inner) in
    let seam : drop (length (c ∷ base)) path ≡ codes "/" ++ inner = drop-append_seam (c ∷ base) (codes "/" ++ inner) in
    let first = after-start_some (c ∷ base) path (codes "/" ++ inner) (length (c ∷ base)) refl
    (ap (λ t. (c ∷ base) ++ t) (sym seam)) (sym seam) in
    ap (is_inside (c ∷ base)) (append_assoc (c ∷ base) (codes "/") inner)
    ∙ ap (λ o. is_some (option_and_then (after_start (codes "/")) o)) (sym first)

some-length : (c : ℕ) (inner : List ℕ) → (length (c ∷ inner) == 0) ≡ false
some-length c inner = grind (arith, nat_tests)

below-within : (b : Browser) (inner : List ℕ) → IsWithin b.base (path_below b inner)
below-within b [] = inl refl
below-within b (c ∷ inner) = inr (rw (some-length c inner) (inside-by b.base (c ∷ inner) (λ same. absurd (cc))))

if-within : (test : Bool) (base text path : List ℕ) → IsWithin base text → (if test then Some text else None) ≡ Some path
    → IsWithin base path
if-within true base text path is same = let e : text ≡ path = cc in subst (IsWithin base) e is
if-within false base text path is same = absurd (cc)

within-by : (o : Option (List ℕ)) (b : Browser) (path : List ℕ)
    → option_and_then (λ inner. path_if (path_below b inner)) o ≡ Some path → IsWithin b.base path
within-by None b path is = absurd (cc)
within-by (Some inner) b path is = if-within (is_path (path_below b inner)) b.base (path_below b inner) path (below-within b inner) is

pub way-within : (b : Browser) (text path : List ℕ) → way_of b text ≡ Some path → IsWithin b.base path
way-within b text path is = within-by (after_parts (slice_split is_slash (path_meant b text))) b path is

pub way-visited : (b : Browser) (w : Wanted) (a : Answer) (l : ListingData) → Lists Visiting b w
    → TellsListing b.order b.has_hidden w a (outcome.Listed l)
    → way_of b (field_text b.typed) ≡ Some (browsed_after b (message.Answer (outcome.Listed l))).folder
unfolding browsed_after
way-visited b w (answer.Listed entries unnamed) l wants tells = wants.folder ∙ ap Some (sym tells.folder)
way-visited b w (answer.Read bytes) l wants tells = absurd (cc)
way-visited b w (answer.Time time) l wants tells = absurd (cc)
way-visited b w (answer.Failed why) l wants tells = absurd (cc)
way-visited b w answer.Done l wants tells = absurd (cc)

pub way-located : (b : Browser) (w : Wanted) (a : Answer) (l : ListingData) → Lists Locating b w
    → TellsListing b.order b.has_hidden w a (outcome.Listed l)
    → LeadsToEntry b l (browsed_after b (message.Answer (outcome.Listed l)))
unfolding browsed_after
way-located b w (answer.Listed entries unnamed) l wants tells = record {
  name = w.name;
  leads = wants.leads ∙ ap Some (wants.above.is ∙ ap (λ folder. path_in folder w.name) (sym tells.folder));
  place = subst (λ n. IsPlaceOf w.name n l.rows l.place) wants.above.other tells.place;
}
way-located b w (answer.Read bytes) l wants tells = absurd (cc)
way-located b w (answer.Time time) l wants tells = absurd (cc)
way-located b w (answer.Failed why) l wants tells = absurd (cc)
way-located b w answer.Done l wants tells = absurd (cc)

-- ---- what is typed

if-mode : (test : Bool) (one two : Browser) → test ≡ true → (if test then one else two) ≡ one
if-mode true one two on = refl
if-mode false one two on = absurd (cc)

if-none : (test : Bool) (one two : Browser) → test ≡ false → (if test then one else two) ≡ two
if-none true one two off = absurd (cc)
if-none false one two off = refl

take-whole : (t : List ℕ) → t ≡ take (length t) t
take-whole [] = refl
take-whole (x ∷ t) = ap (λ u. x ∷ u) (take-whole t)

goes-further : (f : FieldData) (rest : List ℕ)
    → field_text (typing rest (moved_right (length f.after) f)) ≡ field_text f ++ accepted (moved_right (length f.after) f) rest
goes-further f rest =
    let all = f.before ++ take (length f.after) f.after in
    let more = accepted (moved_right (length f.after) f) rest in
    ap (λ t. (all ++ more) ++ t) (drop-length f.after) ∙ append-nil (all ++ more)
    ∙ ap (λ t. (f.before ++ t) ++ more) (sym (take-whole f.after))

pub completed-typed : (b : Browser) (rest : List ℕ) → b.mode ≡ Completing
    → (more : List ℕ) × (field_text (browsed_after b (message.Answer (outcome.Completed rest))).typed ≡ field_text b.typed ++ more)
unfolding browsed_after
completed-typed b rest at = (
  accepted (moved_right (length b.typed.after) b.typed) rest,
  ap (λ (c : Browser). field_text c.typed) (if-mode (is_completing b.mode) _ b (ap is_completing at)) ∙ goes-further b.typed rest,
)

pub completed-dropped : (b : Browser) (rest : List ℕ) → is_completing b.mode ≡ false
    → (browsed_after b (message.Answer (outcome.Completed rest))).typed ≡ b.typed
unfolding browsed_after
completed-dropped b rest off = ap (λ (c : Browser). c.typed) (if-none (is_completing b.mode) _ b off)

waits-sized : (size : Option (ℕ × ℕ)) (b : Browser) → (browser_at_told_size size b).typed ≡ b.typed
waits-sized None b = refl
waits-sized (Some size) b = refl

waits-told : (input : Bool) (mode : Mode) (e : Event) (b : Browser) → mode ≡ Completing
    → (if input then record (browsed mode e b) { is_quiet = false } else browser_at_told_size (size_in e) b).typed ≡ b.typed
waits-told true mode e b at = rw at refl
waits-told false mode e b at = waits-sized (size_in e) b

pub completing-waits : (b : Browser) (e : Event) → b.mode ≡ Completing → (browsed_after b (message.Event e)).typed ≡ b.typed
unfolding browsed_after
completing-waits b e at = waits-told (is_input e) b.mode e b at

-- ---- what is in common

take-twice : (n m : ℕ) (t : List ℕ) → IsFront (take n (take m t)) t
take-twice zero m t = record { count = 0; is = refl }
take-twice (suc n) zero t = record { count = 0; is = refl }
take-twice (suc n) (suc m) [] = record { count = 0; is = refl }
take-twice (suc n) (suc m) (x ∷ t) = let r = take-twice n m t in record { count = suc r.count; is = ap (λ u. x ∷ u) r.is }

front-of : (c t : List ℕ) (m : ℕ) → IsFront c (take m t) → IsFront c t
front-of c t m f = let r = take-twice f.count m t in record { count = r.count; is = f.is ∙ r.is }

same-char : (a b : ℕ) → (a == b) ≡ true → a ≡ b
same-char a b is = grind (arith, nat_tests)

count-front : (one other : List ℕ) → take (common_count one other) one ≡ take (common_count one other) other
unfolding common_count
count-front [] other = refl
count-front (c ∷ one) [] = refl
count-front (c ∷ one) (d ∷ other) = ⊎_elim
    (λ (is : (c == d) ≡ true). rw is (ap (λ x. x ∷ take (common_count one other) one) (same-char c d is)
    ∙ ap (λ u. d ∷ u) (count-front one other)))
    (λ (no : (c == d) ≡ false). rw no refl)
    (cases_Bool (c == d))

first-front : (ts : List (Option (List ℕ))) (a c : List ℕ) → fold common_with (Some a) ts ≡ Some c → IsFront c a
first-front [] a c is = let same : c ≡ a = cc in record { count = length a; is = same ∙ take-whole a }
first-front (None ∷ ts) a c is = first-front ts a c is
first-front (Some t ∷ ts) a c is =
    front-of c a (common_count a t) (first-front ts (take (common_count a t) a) c is)

each-front : (ts : List (Option (List ℕ))) (o : Option (List ℕ)) (c : List ℕ) (k : ℕ) (t : List ℕ)
    → fold common_with o ts ≡ Some c → slice_get ts k ≡ Some (Some t) → IsFront c t
each-front [] o c k t is at = absurd (cc)
each-front (None ∷ ts) o c zero t is at = absurd (cc)
each-front (Some u ∷ ts) None c zero t is at =
    let same : u ≡ t = cc in subst (IsFront c) same (first-front ts u c is)
each-front (Some u ∷ ts) (Some a) c zero t is at =
    let same : u ≡ t = cc in
    subst (IsFront c) same (front-of c u (common_count a u)
    (subst (IsFront c) (count-front a u) (first-front ts (take (common_count a u) a) c is)))
each-front (x ∷ ts) o c (suc k) t is at = each-front ts (common_with o x) c k t is at

get-mapped : (f : Info → Option (List ℕ)) (xs : List Info) (k : ℕ) (x : Info) → slice_get xs k ≡ Some x
    → slice_get (map f xs) k ≡ Some (f x)
get-mapped f [] k x at = absurd (cc)
get-mapped f (y ∷ xs) zero x at = let same : y ≡ x = cc in ap (λ z. Some (f z)) same
get-mapped f (y ∷ xs) (suc k) x at = get-mapped f xs k x at

fronts-by : (all : Option (List ℕ)) (ts : List (Option (List ℕ))) (k : ℕ) (t : List ℕ) → in_common ts ≡ all
    → slice_get ts k ≡ Some (Some t) → IsFront (unwrap_or all []) t
fronts-by None ts k t is at = record { count = 0; is = refl }
fronts-by (Some c) ts k t is at = each-front ts None c k t is at

pub completion-fronts : (hidden : Bool) (start : List ℕ) (entries : List Info) (info : Info) (rest : List ℕ) (k : ℕ)
    → slice_get entries k ≡ Some info → entry_rest hidden start info ≡ Some rest
    → (n : ℕ) × (completion hidden start entries ≡ encode_utf8_all (take n rest))
completion-fronts hidden start entries info rest k at goes =
    let texts = map (entry_rest hidden start) entries in
    let front = fronts-by (in_common texts) texts k rest refl
    (get-mapped (entry_rest hidden start) entries k info at ∙ ap Some goes) in
    (front.count, ap encode_utf8_all front.is)
