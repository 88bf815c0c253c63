-- Events of reads, one after the other.
use Rattle.std.proofs.Common.{◌≡◌, ℕ, ◌+◌, ◌<◌, ◌≤◌, Bool, true, false, if◌then◌else◌, List, [], ◌∷◌, ◌++◌, length, drop, get_or, refl}
use Rattle.std.proofs.Common.{ap, ap₂, sym, ◌∙◌, add-one, append-nil, append_assoc, rules, Option, Some, None, Result, Ok, Err}
use Rattle.std.proofs.Common.{OnErr, subst}
use Rattle.std.proofs.Math.Seq.{drop-cons}
use Rattle.std.proofs.lemmas.List.{drop_all}
use Rattle.ratatui_events.specs.declared.event.Event.{Event}
use Rattle.ratatui_input.specs.declared.decoder.Decoder.{Decoder}
use Rattle.ratatui_input.specs.Decoding.{Told, some_list, byte_told, decoded, next_told}
use Rattle.ratatui_input.proofs.DecodingLemmas.{decoded-append}
use Rattle.ratatui_reads.specs.Reads.{Between, Rules, told_by, all_updated}
use Rattle.ratatui_reads.specs.Reads.{after_read, after_reads, after_bytes, all_bytes, IsNonEmpty}
use Rattle.ratatui_reads.specs.Reads.{AreNonEmpty, size_in, later, last_size, RefusesAmong}

-- both lists are empty
pub both-nil : {A : Type 0} (a b : List A) → a ≡ [] → b ≡ [] → a ++ b ≡ []
both-nil {A = A} a b ea eb = ap₂ (λ (x y : List A). x ++ y) ea eb

-- a read of some bytes tells what they decode to
pub told-some : (d : Decoder) (bytes : List ℕ) → IsNonEmpty bytes → told_by d bytes ≡ decoded d bytes
told-some d [] h = absurd h
told-some d (b ∷ bs) h = refl

size-append : (z : Option (ℕ × ℕ)) (a b : List Event) → last_size z (a ++ b) ≡ last_size (last_size z a) b
size-append z [] b = refl
size-append z (e ∷ a) b = size-append (later (size_in e) z) a b

false-true : false ≡ true → ⊥
false-true e = search rules

joined : (a b : List ℕ) → IsNonEmpty a → IsNonEmpty (a ++ b)
joined [] b h = absurd h
joined (x ∷ a) b h = tt

next-byte : (told : List Event) (d : Decoder) (b : ℕ) (rest : List ℕ)
    → next_told (told, d) (b ∷ rest) ≡ next_told (told ++ (byte_told d b).0, (byte_told d b).1) rest
unfolding decoded
next-byte told d b rest = ap (λ (es : List Event). (es, (decoded (byte_told d b).1 rest).1))
    (sym (append_assoc told (byte_told d b).0 (decoded (byte_told d b).1 rest).0))

none-left : (told : List Event) (d : Decoder) → next_told (told, d) [] ≡ (told, d)
unfolding decoded
none-left told d = ap (λ (es : List Event). (es, d)) (append-nil told)

module _ {S : Type 0} (u : Rules S) where
  pub all_updated-append : (s : S) (a b : List Event) → all_updated u s (a ++ b) ≡ all_updated u (all_updated u s a) b
  all_updated-append s [] b = refl
  all_updated-append s (e ∷ a) b = all_updated-append (if u.is_over s then s else u.updated s e) a b

  pub bytes-append : (x : Between S) (a b : List ℕ) → after_bytes u x (a ++ b) ≡ after_bytes u (after_bytes u x a) b
  bytes-append x a b =
      ap (λ (t : Told). record { decoder = t.1; state = all_updated u x.state t.0 }) (decoded-append x.decoder a b)
      ∙ ap (λ (s : S). record { decoder = (decoded (decoded x.decoder a).1 b).1; state = s })
      (all_updated-append x.state (decoded x.decoder a).0 (decoded (decoded x.decoder a).1 b).0)

  -- a read of some bytes
  pub read-some : (x : Between S) (r : List ℕ) → IsNonEmpty r → after_read u x r ≡ after_bytes u x r
  read-some x r some = ap (λ (t : Told). record { decoder = t.1; state = all_updated u x.state t.0 })
      (told-some x.decoder r some)

  pub bytes-none : (x : Between S) → x ≡ after_bytes u x []
  unfolding decoded
  bytes-none x = refl

  pub reads-whole : (x : Between S) (rs : List (List ℕ)) → AreNonEmpty rs
      → after_reads u x rs ≡ after_bytes u x (all_bytes rs)
  reads-whole x [] all = bytes-none x
  reads-whole x (r ∷ rs) all =
      ap (λ (y : Between S). after_reads u y rs) (read-some x r all.0) ∙ reads-whole (after_bytes u x r) rs all.1
      ∙ sym (bytes-append x r (all_bytes rs))

  pub two-reads : (x : Between S) (a b : List ℕ) (rs : List (List ℕ)) → IsNonEmpty a → IsNonEmpty b
      → after_reads u x (a ∷ b ∷ rs) ≡ after_reads u x ((a ++ b) ∷ rs)
  two-reads x a b rs na nb =
      ap (λ (y : Between S). after_reads u y rs)
      (ap (λ (y : Between S). after_read u y b) (read-some x a na) ∙ read-some (after_bytes u x a) b nb
      ∙ sym (bytes-append x a b) ∙ sym (read-some x (a ++ b) (joined a b na)))

  -- what is left of bytes, as a loop goes over them: what all give is what has been told, and then what the rest gives
  pub record Left (d : Decoder) (s : S) (bytes : List ℕ) (d' : Decoder) (s' : S) (any : Bool) (size : Option (ℕ × ℕ))
      (rest : List ℕ) : Type 0 where
    pub told : List Event
    pub whole : decoded d bytes ≡ next_told (told, d') rest
    pub state : s' ≡ all_updated u s told
    pub quiet : any ≡ false → told ≡ []
    pub sized : size ≡ last_size None told

  pub left-all : (d : Decoder) (s : S) (bytes : List ℕ) → Left d s bytes d s false None bytes
  left-all d s bytes = record { told = []; whole = refl; state = refl; quiet = λ e. refl; sized = refl }

  -- one more byte is fed
  pub left-fed : (d : Decoder) (s : S) (bytes : List ℕ) (d' : Decoder) (s' : S) (any : Bool) (i : ℕ) (cut event : Option Event)
      (d'' : Decoder) (s1 s2 : S) (first any' : Bool) (z z1 z2 : Option (ℕ × ℕ))
      → i < length bytes → (some_list cut ++ some_list event, d'') ≡ byte_told d' (get_or bytes i 0)
      → s1 ≡ all_updated u s' (some_list cut) → s2 ≡ all_updated u s1 (some_list event)
      → (first ≡ false → (any ≡ false) × (some_list cut ≡ [])) → (any' ≡ false → (first ≡ false) × (some_list event ≡ []))
      → z1 ≡ last_size z (some_list cut) → z2 ≡ last_size z1 (some_list event)
      → Left d s bytes d' s' any z (drop i bytes) → Left d s bytes d'' s2 any' z2 (drop (i + 1) bytes)
  left-fed d s bytes d' s' any i cut event d'' s1 s2 first any' z z1 z2 lt f e1 e2 qa qb g1 g2 h =
      let b = get_or bytes i 0 in
      let one : drop i bytes ≡ b ∷ drop (i + 1) bytes = rw add-one (drop-cons bytes i 0 lt) in
      let es = some_list cut ++ some_list event in
      record {
        told = h.told ++ es;
        whole = h.whole ∙ ap (next_told (h.told, d')) one ∙ next-byte h.told d' b (drop (i + 1) bytes)
            ∙ ap (λ (t : Told). next_told (h.told ++ t.0, t.1) (drop (i + 1) bytes)) (sym f);
        state = e2 ∙ ap (λ (x : S). all_updated u x (some_list event))
            (e1 ∙ ap (λ (x : S). all_updated u x (some_list cut)) h.state)
            ∙ sym (all_updated-append (all_updated u s h.told) (some_list cut) (some_list event))
            ∙ sym (all_updated-append s h.told es);
        quiet = λ n. both-nil h.told es (h.quiet (qa (qb n).0).0) (both-nil (some_list cut) (some_list event)
            (qa (qb n).0).1 (qb n).1);
        sized = g2 ∙ ap (λ (x : Option (ℕ × ℕ)). last_size x (some_list event))
            (g1 ∙ ap (λ (x : Option (ℕ × ℕ)). last_size x (some_list cut)) h.sized)
            ∙ sym (size-append (last_size None h.told) (some_list cut) (some_list event)) ∙ sym (size-append None h.told es);
      }

  -- at the end nothing is left
  pub left-end : (d : Decoder) (s : S) (bytes : List ℕ) (d' : Decoder) (s' : S) (any : Bool) (z : Option (ℕ × ℕ)) (i : ℕ)
      → length bytes ≤ i → Left d s bytes d' s' any z (drop i bytes)
      → (d' ≡ (decoded d bytes).1) × (s' ≡ all_updated u s (decoded d bytes).0) × (any ≡ false → (decoded d bytes).0 ≡ [])
      × (z ≡ last_size None (decoded d bytes).0)
  left-end d s bytes d' s' any z i past h =
      let whole : decoded d bytes ≡ (h.told, d') = h.whole ∙ ap (next_told (h.told, d')) (drop_all i bytes past)
      ∙ none-left h.told d' in (
        ap (λ (t : Told). t.1) (sym whole),
        h.state ∙ ap (λ (t : Told). all_updated u s t.0) (sym whole),
        λ n. ap (λ (t : Told). t.0) whole ∙ h.quiet n,
        h.sized ∙ ap (λ (t : Told). last_size None t.0) (sym whole),
      )

  -- one event was refused
  pub refused-one : {A E : Type 0} (result : Result A E) (some : Option Event) (e : Event) (s after : S) → some ≡ Some e
      → after ≡ s → (u.is_light s e → false ≡ true) → OnErr result (RefusesAmong u (some_list some) s after)
  refused-one (Ok x) some e s after is same heavy = tt
  refused-one (Err x) some e s after is same heavy =
      subst (λ (o : Option Event). RefusesAmong u (some_list o) s after) (sym is) (record {
        taken = [];
        next = e;
        rest = [];
        told_is = refl;
        after_is = same;
        heavy = λ light. false-true (heavy (subst (λ (x : S). u.is_light x e) same light));
      })

  -- refused among events is refused among these and more
  pub refused-before : {told : List Event} {s after : S} (more : List Event) → RefusesAmong u told s after
      → RefusesAmong u (told ++ more) s after
  refused-before {told} more r = record {
    taken = r.taken;
    next = r.next;
    rest = r.rest ++ more;
    told_is = ap (λ (es : List Event). es ++ more) r.told_is ∙ append_assoc r.taken (r.next ∷ r.rest) more;
    after_is = r.after_is;
    heavy = r.heavy;
  }

  pub refused-after : {told : List Event} {s s' after : S} (first : List Event) → s' ≡ all_updated u s first
      → RefusesAmong u told s' after → RefusesAmong u (first ++ told) s after
  refused-after {told} {s} first is r = record {
    taken = first ++ r.taken;
    next = r.next;
    rest = r.rest;
    told_is = ap (λ (es : List Event). first ++ es) r.told_is ∙ sym (append_assoc first r.taken (r.next ∷ r.rest));
    after_is = r.after_is ∙ ap (λ (x : S). all_updated u x r.taken) is ∙ sym (all_updated-append s first r.taken);
    heavy = r.heavy;
  }

  -- an update of a byte's events was refused: those before it, and all of the bytes before, were taken
  pub left-refused : (d : Decoder) (s : S) (bytes : List ℕ) (d' : Decoder) (s' : S) (any : Bool) (z : Option (ℕ × ℕ)) (i : ℕ)
      (es : List Event) (after : S) {A E : Type 0} (result : Result A E)
      → i < length bytes → es ≡ (byte_told d' (get_or bytes i 0)).0 → RefusesAmong u es s' after
      → Left d s bytes d' s' any z (drop i bytes) → OnErr result (RefusesAmong u (decoded d bytes).0 s after)
  left-refused d s bytes d' s' any z i es after (Ok x) lt told r h = tt
  left-refused d s bytes d' s' any z i es after (Err x) lt told r h =
      let b = get_or bytes i 0 in
      let rest = drop (i + 1) bytes in
      let one : drop i bytes ≡ b ∷ rest = rw add-one (drop-cons bytes i 0 lt) in
      let more = (decoded (byte_told d' b).1 rest).0 in
      let whole : decoded d bytes ≡ next_told (h.told ++ (byte_told d' b).0, (byte_told d' b).1) rest = h.whole
      ∙ ap (next_told (h.told, d')) one ∙ next-byte h.told d' b rest in
      let all : (h.told ++ es) ++ more ≡ (decoded d bytes).0 = ap (λ (x : List Event). (h.told ++ x) ++ more) told
      ∙ sym (ap (λ (t : Told). t.0) whole) in
      subst (λ (x : List Event). RefusesAmong u x s after) all
      (refused-before more (refused-after h.told h.state r))
