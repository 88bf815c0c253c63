-- Drafts as their texts and cursors.
use Rattle.std.proofs.Common.{ℕ, ◌≡◌, ◌+◌, ◌≤◌, List, ◌++◌, length, take, drop, sym, ap, ap₂, ◌∙◌, arith}
use Rattle.std.proofs.Common.{subst}
use Rattle.std.proofs.Common.{length-append}
use Rattle.std.proofs.lemmas.{List.length-take-le, List.take-append-drop, List.take_at, List.drop_at}
use Rattle.std.proofs.lemmas.{Str.IsCharBoundary-at_seam, Str.IsUtf8-drop}
use Rattle.std.specs.{Str.IsUtf8, Str.IsCharBoundary, List.replace_range}
use Rattle.text_field.specs.History.{CursorText, cursor_text_at}
use Rattle.text_area.specs.Drafts.{draft_text, cursor_at, part_replaced}

-- a draft of its parts
abbrev pub made : List ℕ → List ℕ → CursorText
made before after = record { before = before; after = after }

pub text-at : (text : List ℕ) (at : ℕ) → draft_text (cursor_text_at text at) ≡ text
text-at text at = take-append-drop at text

pub length-before : (text : List ℕ) (at : ℕ) → at ≤ length text → at ≡ length (cursor_text_at text at).before
length-before text at le = sym (length-take-le at text le)

pub moved-to : (text : List ℕ) (at to : ℕ) → cursor_text_at text to ≡ cursor_at to (cursor_text_at text at)
moved-to text at to = ap (λ w. cursor_text_at w to) (sym (text-at text at))

-- a text of which a part has given way, with its cursor after the piece
pub replaced-at : (text new piece : List ℕ) (at from to end : ℕ) → from ≤ length text
    → new ≡ replace_range text from to piece → end ≡ from + length piece
    → cursor_text_at new end ≡ part_replaced from to piece (cursor_text_at text at)
replaced-at text new piece at from to end le is place =
    let size : length (take from text ++ piece) ≡ end =
    omega (arith, length-append (take from text) piece, length-take-le from text le, place) in
    let front : take end new ≡ take from text ++ piece =
    ap (take end) is ∙ take_at (take from text ++ piece) (drop to text) end size in
    let back : drop end new ≡ drop to text =
    ap (drop end) is ∙ drop_at (take from text ++ piece) (drop to text) end size in
    let whole = sym (text-at text at) in
    ap₂ made (front ∙ ap (λ w. take from w ++ piece) whole) (back ∙ ap (drop to) whole)

-- the place after a piece is a place of the text
pub boundary-piece : (text new piece : List ℕ) (from to end : ℕ) → IsUtf8 text → IsCharBoundary text from
    → IsCharBoundary text to
    → new ≡ replace_range text from to piece → end ≡ from + length piece → IsCharBoundary new end
boundary-piece text new piece from to end utf8 start stop is place =
    let size : length (take from text ++ piece) ≡ end =
    omega (arith, length-append (take from text) piece, length-take-le from text start.0, place) in
    subst (IsCharBoundary new) size
    (IsCharBoundary-at_seam new (take from text ++ piece) (drop to text) is (IsUtf8-drop text to utf8 stop))

pub ruleset draft_rules = (text-at, length-before, moved-to, replaced-at, boundary-piece)
