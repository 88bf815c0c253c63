-- Of control characters in a row one is enough.
use Rattle.std.proofs.Common.{◌≡◌, ℕ, true, false, List, [], ◌∷◌, ◌++◌, filter, IsUtf8}
use Rattle.std.proofs.Common.{refl, sym, ap, ◌∙◌, append_assoc}
use Rattle.std.proofs.lemmas.{Bool.false≢true}
use Rattle.std.proofs.lemmas.{List.Elements.filter-append, Str.IsUtf8-nil}
use Rattle.std.specs.List.{flat_map}
use Rattle.unicode_segmentation.specs.Grapheme.{graphemes}
use Rattle.unicode_segmentation.proofs.TextLemmas.{IsUtf8-before}
use Rattle.rtui_text.proofs.GraphemeLemmas.{graphemes-empty}
use Rattle.ratatui_core.specs.Buffer.{painted_width, has_painted_width}
use Rattle.follow.specs.Lines.{shown_grapheme}
use Rattle.follow.specs.Inner.{is_part, is_parting, painted_graphemes}
use Rattle.follow.proofs.PartLemmas.{parting-control, one-utf8, graphemes-parts}

-- a text ends with a character that parts
pub record EndsParted (text : List ℕ) : Type 0 where
  pub front : List ℕ
  pub last : ℕ
  pub parts : is_parting last ≡ true
  pub is : text ≡ front ++ last ∷ []

module _ (c : ℕ) (parts : is_parting c ≡ true) where
  unpainted : has_painted_width (c ∷ []) ≡ false
  unfolding painted_width
  unpainted = rw (parting-control c parts) refl

  part-shown : shown_grapheme (c ∷ []) ≡ c ∷ []
  part-shown = rw (parting-control c parts) refl

  -- what is painted of a text that is parted
  painted-parts : (front after : List ℕ) → IsUtf8 front
      → painted_graphemes (front ++ c ∷ after) ≡ painted_graphemes front ++ painted_graphemes after
  painted-parts front after utf8 =
      ap (filter has_painted_width) (graphemes-parts c parts front after utf8)
      ∙ filter-append has_painted_width (graphemes true front) ((c ∷ []) ∷ graphemes true after)
      ∙ ap (λ gs. painted_graphemes front ++ gs) (rw unpainted refl)

none-painted : painted_graphemes [] ≡ []
none-painted = rw graphemes-empty refl

skipped-after : (front : List ℕ) (last c : ℕ) (more : List ℕ) → is_parting last ≡ true → is_parting c ≡ true → IsUtf8 front
    → painted_graphemes ((front ++ last ∷ []) ++ (c ∷ more)) ≡ painted_graphemes ((front ++ last ∷ []) ++ more)
skipped-after front last c more ends parts utf8 =
    ap painted_graphemes (append_assoc front (last ∷ []) (c ∷ more))
    ∙ painted-parts last ends front (c ∷ more) utf8
    ∙ ap (λ gs. painted_graphemes front ++ gs) (painted-parts c parts [] more IsUtf8-nil
    ∙ ap (λ gs. gs ++ painted_graphemes more) none-painted)
    ∙ sym (painted-parts last ends front more utf8)
    ∙ ap painted_graphemes (sym (append_assoc front (last ∷ []) more))

-- one after another is left out
pub skipped : (held g more : List ℕ) → IsUtf8 held → EndsParted held → is_part g ≡ true
    → painted_graphemes (held ++ (shown_grapheme g ++ more)) ≡ painted_graphemes (held ++ more)
skipped held [] more utf8 ends parts = absurd (false≢true parts)
skipped held (c ∷ (d ∷ cs)) more utf8 ends parts = absurd (false≢true parts)
skipped held (c ∷ []) more utf8 ends parts =
    let front = IsUtf8-before held ends.front (ends.last ∷ []) utf8 (one-utf8 ends.last ends.parts) ends.is in
    rw (part-shown c parts, ends.is) (skipped-after ends.front ends.last c more ends.parts parts front)

-- and the first one is held
pub ends-parted : (held g now : List ℕ) → now ≡ held ++ shown_grapheme g → is_part g ≡ true → EndsParted now
ends-parted held [] now is parts = absurd (false≢true parts)
ends-parted held (c ∷ (d ∷ cs)) now is parts = absurd (false≢true parts)
ends-parted held (c ∷ []) now is parts = record {
  front = held;
  last = c;
  parts = parts;
  is = is ∙ ap (λ bytes. held ++ bytes) (part-shown c parts);
}

-- a turn of the loop that leaves a grapheme out, and one that holds it
pub skip-turn : (held g : List ℕ) (left rest whole : List (List ℕ)) → IsUtf8 held → left ≡ g ∷ rest → EndsParted held
    → is_part g ≡ true → painted_graphemes (held ++ flat_map shown_grapheme left) ≡ whole
    → painted_graphemes (held ++ flat_map shown_grapheme rest) ≡ whole
skip-turn held g left rest whole utf8 is ends parts alike =
    sym (skipped held g (flat_map shown_grapheme rest) utf8 ends parts)
    ∙ ap (λ gs. painted_graphemes (held ++ flat_map shown_grapheme gs)) (sym is) ∙ alike

pub push-turn : (held g now : List ℕ) (left rest whole : List (List ℕ)) → left ≡ g ∷ rest → now ≡ held ++ shown_grapheme g
    → painted_graphemes (held ++ flat_map shown_grapheme left) ≡ whole
    → painted_graphemes (now ++ flat_map shown_grapheme rest) ≡ whole
push-turn held g now left rest whole is now_is alike =
    ap painted_graphemes (ap (λ bytes. bytes ++ flat_map shown_grapheme rest) now_is
    ∙ append_assoc held (shown_grapheme g) (flat_map shown_grapheme rest)
    ∙ ap (λ gs. held ++ flat_map shown_grapheme gs) (sym is)) ∙ alike
