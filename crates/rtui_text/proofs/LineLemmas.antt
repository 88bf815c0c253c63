-- Lines of a text: one span more at the end, and the printed text.
use Rattle.std.proofs.Common.{◌≡◌, ℕ, ◌-◌, ◌<◌, List, [], ◌∷◌, ◌++◌, length, refl, ◌∙◌, ap, arith, rules, append_assoc}
use Rattle.std.proofs.Common.{slice_index_or, slice_set, suc, zero}
use Rattle.rtui_text.specs.Text.{SpanData, LineData, with_span, with_last_span}
use Rattle.rtui_text.specs.Display.{printed_spans, printed_lines}
use Rattle.std.specs.List.{flat_map}

-- the lines, each with a line break after it
abbrev pub broken_lines : List LineData → List ℕ
broken_lines ls = flat_map (λ line. printed_spans line.spans ++ 10 ∷ []) ls

-- the last line is written anew
set_last : (span : SpanData) (ls : List LineData) (old new : LineData) (n : ℕ) → length ls ≡ suc n → old ≡ slice_index_or ls n old
    → new ≡ with_span span old → slice_set ls n new ≡ with_last_span span ls
set_last span [] old new n e o h = absurd (omega (arith, e))
set_last span (l ∷ []) old new zero e o h = ap (λ x. x ∷ []) (h ∙ ap (with_span span) o)
set_last span (l ∷ []) old new (suc n) e o h = absurd (omega (arith, e))
set_last span (l ∷ m ∷ ls) old new zero e o h = absurd (omega (arith, e))
set_last span (l ∷ m ∷ ls) old new (suc n) e o h = ap (λ more. l ∷ more) (set_last span (m ∷ ls) old new n (omega (arith, e)) o h)

pub set_last_line : (span : SpanData) (ls : List LineData) (old new : LineData) (n : ℕ) → n ≡ length ls → 0 < n
    → old ≡ slice_index_or ls (n - 1) old → new ≡ with_span span old → slice_set ls (n - 1) new ≡ with_last_span span ls
set_last_line span ls old new n e p o h = set_last span ls old new (n - 1) (omega arith) o h

-- the lines before the last one end with a break
pub printed_lines-last : (ls : List LineData) (l : LineData)
    → printed_lines (ls ++ l ∷ []) ≡ broken_lines ls ++ printed_spans l.spans
printed_lines-last [] l = refl
printed_lines-last (x ∷ []) l = search (rules, append_assoc)
printed_lines-last (x ∷ y ∷ ls) l =
    ap (λ text. printed_spans x.spans ++ 10 ∷ text) (printed_lines-last (y ∷ ls) l) ∙ search (rules, append_assoc)
