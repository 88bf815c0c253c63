-- What an event reader has read and not told yet.
use Rattle.std.proofs.Common.{◌≡◌, ◌⊎◌, inl, inr, ℕ, ◌+◌, ◌<◌, ◌≤◌, List, [], ◌∷◌, ◌++◌, Option, None, Some, length, take, drop}
use Rattle.std.proofs.Common.{get_or, refl, ap, sym, ◌∙◌, subst, add-one, arith, length-take, append-nil, append_assoc}
use Rattle.std.proofs.Common.{MatchOption}
use Rattle.std.proofs.Math.Seq.{drop-cons}
use Rattle.std.proofs.lemmas.List.{drop_all, get_or-take}
use Rattle.std.specs.List.{slice_get}
use Rattle.std.proofs.lemmas.Option.{slice_get_within, get_or_from_slice_get}
use Rattle.std.specs.Io.KnownBytes.{Consumes, Keeps, IsAtEnd}
use Rattle.std.proofs.KnownBytes.{Consumes-trans, Consumes-kept, Consumes-nil}
use Rattle.ratatui_events.specs.declared.event.Event.{Event}
use Rattle.ratatui_input.specs.declared.decoder.Decoder.{Decoder}
use Rattle.ratatui_input.specs.declared.reader.Kept.{Kept}
use Rattle.ratatui_input.specs.declared.reader.EventReader.{EventReader}
use Rattle.ratatui_input.specs.Decoding.{Told, byte_told, decoded, next_told, settled, some_list}
use Rattle.ratatui_input.specs.Reading.{left_bytes, kept_told, unread, source, Reads, KeepsAll}
use Rattle.ratatui_input.specs.Inner.{TellsFirst, TellsNothing}
use Rattle.ratatui_input.proofs.DecodingLemmas.{decoded-append}

abbrev kept : Decoder → Option Event → List ℕ → ℕ → ℕ → Kept
kept d second bytes next end = record { decoder = d; second = second; bytes = bytes; next = next; end = end }

-- where no byte is left, nothing is told
pub told-of_none : (d : Decoder) (bytes : List ℕ) (next end : ℕ) → end ≤ next → kept_told (kept d None bytes next end) ≡ ([], d)
unfolding kept_told decoded
told-of_none d bytes next end h =
    ap (λ (bs : List ℕ). decoded d bs) (drop_all next (take end bytes) (omega (arith, length-take end bytes)))

pub told-of_room : (d : Decoder) (bytes : List ℕ) (next end : ℕ) → length bytes ≤ next
    → kept_told (kept d None bytes next end) ≡ ([], d)
unfolding kept_told decoded
told-of_room d bytes next end h =
    ap (λ (bs : List ℕ). decoded d bs) (drop_all next (take end bytes) (omega (arith, length-take end bytes)))

-- bytes that have just come
pub told-of_bytes : (d : Decoder) (bytes : List ℕ) (end : ℕ) → kept_told (kept d None bytes 0 end) ≡ decoded d (take end bytes)
unfolding kept_told
told-of_bytes d bytes end = refl

-- the second event of a byte is told next
pub told-second : (d : Decoder) (event : Event) (bytes : List ℕ) (next end : ℕ)
    → kept_told (kept d (Some event) bytes next end) ≡ (
      event ∷ (kept_told (kept d None bytes next end)).0,
      (kept_told (kept d None bytes next end)).1,
    )
unfolding kept_told
told-second d event bytes next end = refl

-- the next byte is decoded
told-byte : (d : Decoder) (bytes : List ℕ) (next end : ℕ) → next < end → next < length bytes
    → left_bytes (kept d None bytes next end) ≡ get_or bytes next 0 ∷ left_bytes (kept d None bytes (next + 1) end)
told-byte d bytes next end h k =
    rw add-one (drop-cons (take end bytes) next 0 (omega (arith, length-take end bytes)))
    ∙ ap (λ (b : ℕ). b ∷ drop (next + 1) (take end bytes)) (get_or-take end bytes next 0 h)

pub told-fed : (d : Decoder) (bytes : List ℕ) (next end : ℕ) (cut event : Option Event) (d' : Decoder) → next < end
    → next < length bytes
    → (some_list cut ++ some_list event, d') ≡ byte_told d (get_or bytes next 0)
    → kept_told (kept d None bytes next end)
    ≡ (
      (some_list cut ++ some_list event) ++ (kept_told (kept d' None bytes (next + 1) end)).0,
      (kept_told (kept d' None bytes (next + 1) end)).1,
    )
unfolding kept_told decoded
told-fed d bytes next end cut event d' h k f =
    ap (λ (bs : List ℕ). decoded d bs) (told-byte d bytes next end h k)
    ∙ ap (λ (t : Told). let r = decoded t.1 (left_bytes (kept d None bytes (next + 1) end)) in (t.0 ++ r.0, r.1)) (sym f)

told-one : (d : Decoder) (bytes : List ℕ) (next end : ℕ) (event : Option Event) (d' : Decoder)
    → kept_told (kept d None bytes next end)
    ≡ (some_list event ++ (kept_told (kept d' None bytes (next + 1) end)).0, (kept_told (kept d' None bytes (next + 1) end)).1)
    → MatchOption event (kept_told (kept d' None bytes (next + 1) end) ≡ kept_told (kept d None bytes next end))
    (λ e. TellsFirst (kept d None bytes next end) e (kept d' None bytes (next + 1) end))
told-one d bytes next end None d' h = sym h
told-one d bytes next end (Some e) d' h = h

-- a byte with an event that what came before it has, and perhaps one of its own
pub told-first : (d : Decoder) (second : Option Event) (bytes : List ℕ) (next end b : ℕ) (cut event : Option Event) (d' : Decoder)
    (first : Event)
    → second ≡ None → next < end → slice_get bytes next ≡ Some b → cut ≡ Some first
    → (some_list cut ++ some_list event, d') ≡ byte_told d b
    → TellsFirst (kept d second bytes next end) first (kept d' event bytes (next + 1) end)
unfolding kept_told
told-first d second bytes next end b cut event d' first none h k e f =
    subst (λ (s : Option Event). TellsFirst (kept d s bytes next end) first (kept d' event bytes (next + 1) end)) (sym none)
    (told-fed d bytes next end (Some first) event d' h (slice_get_within bytes next b k)
    (ap (λ (c : Option Event). let t : Told = (some_list c ++ some_list event, d') in t) (sym e) ∙ f ∙ ap (byte_told d)
    (sym (get_or_from_slice_get bytes next b 0 k))))

-- a byte with an event of its own alone, or with none
pub told-only : (d : Decoder) (second : Option Event) (bytes : List ℕ) (next end b : ℕ) (cut event : Option Event) (d' : Decoder)
    → second ≡ None → next < end → slice_get bytes next ≡ Some b → cut ≡ None
    → (some_list cut ++ some_list event, d') ≡ byte_told d b
    → MatchOption event (kept_told (kept d' second bytes (next + 1) end) ≡ kept_told (kept d second bytes next end))
    (λ e. TellsFirst (kept d second bytes next end) e (kept d' second bytes (next + 1) end))
unfolding kept_told
told-only d second bytes next end b cut event d' none h k e f =
    subst (λ (s : Option Event). MatchOption event (kept_told (kept d' s bytes (next + 1) end) ≡ kept_told
    (kept d s bytes next end))
    (λ e. TellsFirst (kept d s bytes next end) e (kept d' s bytes (next + 1) end))) (sym none)
    (told-one d bytes next end event d' (told-fed d bytes next end None event d' h (slice_get_within bytes next b k)
    (ap (λ (c : Option Event). let t : Told = (some_list c ++ some_list event, d') in t) (sym e) ∙ f ∙ ap (byte_told d)
    (sym (get_or_from_slice_get bytes next b 0 k)))))

-- the second event of a byte is told
pub told-stored : (d : Decoder) (second : Option Event) (bytes : List ℕ) (next end : ℕ) (event : Event) → second ≡ Some event
    → TellsFirst (kept d second bytes next end) event (kept d None bytes next end)
told-stored d second bytes next end event e =
    subst (λ (s : Option Event). TellsFirst (kept d s bytes next end) event (kept d None bytes next end)) (sym e)
    (told-second d event bytes next end)

-- nothing is left
pub told-nothing : (k : Kept) (d : Decoder) (second : Option Event) (bytes : List ℕ) (next end : ℕ)
    → kept_told (kept d second bytes next end) ≡ kept_told k
    → second ≡ None → (end ≤ next) ⊎ (length bytes ≤ next) → TellsNothing k (kept d second bytes next 0)
told-nothing k d second bytes next end e none over = record {
  told = sym e ∙ ap (λ (s : Option Event). kept_told (kept d s bytes next end)) none
      ∙ elim over [ inl h ↦ told-of_none d bytes next end h | inr h ↦ told-of_room d bytes next end h ];
  no_second = none;
  no_bytes = refl;
}

-- what nothing is left of, whatever stands in the bytes
emptied : (k : Kept) (bytes : List ℕ) → k.second ≡ None → k.end ≡ 0 → kept_told (record k { bytes = bytes }) ≡ ([], k.decoder)
emptied k bytes none over =
    ap (λ (s : Option Event). kept_told (kept k.decoder s bytes k.next k.end)) none
    ∙ told-of_none k.decoder bytes k.next k.end (omega arith)

-- bytes in two pieces, after what was told before
next_told-append : (t : Told) (a b : List ℕ) → next_told t (a ++ b) ≡ next_told (next_told t a) b
next_told-append t a b =
    ap (λ (u : Told). (t.0 ++ u.0, u.1)) (decoded-append t.1 a b)
    ∙ ap (λ (es : List Event). (es, (decoded (decoded t.1 a).1 b).1))
    (sym (append_assoc t.0 (decoded t.1 a).0 (decoded (decoded t.1 a).1 b).0))

next_told-nil : (t : Told) → next_told t [] ≡ t
unfolding decoded
next_told-nil t = ap (λ (es : List Event). let u : Told = (es, t.1) in u) (append-nil t.0)

-- ---- a reader's loop, over what it kept
module _ {R : Type 0} (remaining : R → Option (List ℕ)) where
  pub keeps-start : (old : EventReader R) → KeepsAll remaining old old
  keeps-start old = record {
    bytes = [];
    consumed = Consumes-nil (remaining (source old));
    kept = sym (next_told-nil (unread old));
  }

  -- a read that failed
  pub keeps-failed : (old mid : EventReader R) (k : Kept) (bytes : List ℕ) (r : R) → KeepsAll remaining old mid
      → TellsNothing mid.kept k
      → Keeps (remaining mid.reader) (remaining r)
      → KeepsAll remaining old (record { reader = r; kept = record k { bytes = bytes } })
  keeps-failed old mid k bytes r h t same = record {
    bytes = h.bytes;
    consumed = Consumes-kept (remaining (source old)) (remaining mid.reader) (remaining r) h.bytes h.consumed same;
    kept = emptied k bytes t.no_second t.no_bytes ∙ sym t.told ∙ h.kept;
  }

  -- bytes that were read
  pub keeps-read : (old mid : EventReader R) (k new : Kept) (bytes : List ℕ) (r : R) (n : ℕ) → KeepsAll remaining old mid
      → TellsNothing mid.kept k
      → Consumes (remaining mid.reader) (remaining r) (take n bytes) → new ≡ kept k.decoder None bytes 0 n
      → KeepsAll remaining old (record { reader = r; kept = new })
  keeps-read old mid k new bytes r n h t c e = record {
    bytes = h.bytes ++ take n bytes;
    consumed = Consumes-trans (remaining (source old)) (remaining mid.reader) (remaining r) h.bytes (take n bytes) h.consumed c;
    kept = ap kept_told e ∙ told-of_bytes k.decoder bytes n ∙ sym (next_told-append (unread old) h.bytes (take n bytes)
        ∙ ap (λ (u : Told). next_told u (take n bytes)) (sym h.kept ∙ t.told));
  }

  -- a read that found nothing
  pub reads-settled : (old mid : EventReader R) (k new : Kept) (bytes : List ℕ) (r : R) (n : ℕ) (told : Option Event)
      (d : Decoder)
      → KeepsAll remaining old mid → TellsNothing mid.kept k → Consumes (remaining mid.reader) (remaining r) (take n bytes)
      → n ≡ 0
      → IsAtEnd (remaining r) → new ≡ kept k.decoder None bytes 0 n → (some_list told, d) ≡ settled new.decoder.state new.decoder
      → Reads remaining old told (record { reader = r; kept = record new { decoder = d } })
  reads-settled old mid k new bytes r n told d h t c zero end e s =
      let over : kept_told (record new { decoder = d }) ≡ ([], d) =
      ap (λ (x : Kept). kept_told (record x { decoder = d })) e ∙ told-of_none d bytes 0 n (omega arith) in
      let all : next_told (unread old) h.bytes ≡ ([], k.decoder) = sym h.kept ∙ t.told in
      record {
        bytes = h.bytes;
        consumed = subst (λ (bs : List ℕ). Consumes (remaining (source old)) (remaining r) bs) (append-nil h.bytes)
            (Consumes-trans (remaining (source old)) (remaining mid.reader) (remaining r) h.bytes [] h.consumed
            (subst (λ (m : ℕ). Consumes (remaining mid.reader) (remaining r) (take m bytes)) zero c));
        tells = inr (
          end,
          record {
            told_all = ap (λ (u : Told). u.0) all;
            settles = ap (λ (u : Told). (some_list told, u.1)) over ∙ s ∙ ap (λ (x : Kept). settled x.decoder.state x.decoder) e
                ∙ ap (λ (u : Told). settled u.1.state u.1) (sym all);
            nothing_left = ap (λ (u : Told). u.0) over;
          },
        );
      }
