-- The status line is ASCII, takes no memory, and can be shown.
use Rattle.std.proofs.Common.{◌≡◌, ℕ, zero, suc, ◌<◌, ◌^◌, List, [], ◌∷◌, codes, lit<, ap, arith}
use Rattle.std.specs.{Fmt.decimal, Str.IsAscii}
use Rattle.std.proofs.lemmas.{Fmt.IsAscii-decimal, Str.IsAscii-append}
use Rattle.ratatui_core.specs.{Layout.Rect, Terminal.IsRendered}
use Rattle.ratatui_core.specs.Buffer.{BufferData, pieces_at, IsSettledBuffer}
use Rattle.ratatui_core.proofs.BufferLemmas.{text-short, ascii-short, text-ends, IsSettledBuffer-empty}
use Rattle.ratatui_core.proofs.BufferLemmas.{IsPaintable-empty, IsSettledBuffer-painted}
use Rattle.logview.specs.Rows.{status_text, status_style, RendersStatus}
use Rattle.logview.specs.Inner.{RendersShortStatus}

more : (b : ℕ) (bs : List ℕ) → b < 128 → IsAscii bs → IsAscii (b ∷ bs)
more b bs p all zero = p
more b bs p all (suc k) = all k

none : IsAscii []
none i = lit< tt

label : IsAscii (codes "lines: ")
label =
    more 108 (codes "ines: ") (lit< tt)
    (more 105 (codes "nes: ") (lit< tt)
    (more 110 (codes "es: ") (lit< tt)
    (more 101 (codes "s: ") (lit< tt) (more 115 (codes ": ") (lit< tt) (more 58 (codes " ") (lit< tt)
    (more 32 [] (lit< tt) none))))))

pub ascii-status : (n : ℕ) → n < 2 ^ 64 → IsAscii (status_text n)
ascii-status n small = IsAscii-append (codes "lines: ") (decimal n) label (IsAscii-decimal n small)

pub short-status : (n : ℕ) (area : Rect) (s : BufferData) → n < 2 ^ 64 → RendersShortStatus (status_text n) area s
short-status n area s small = text-short _ status_style (status_text n) (ascii-short (status_text n) (ascii-status n small))

-- what is painted on an empty row can be shown
pub status-settled : (text : List ℕ) (sheet : BufferData) → IsRendered (RendersStatus text) sheet → IsSettledBuffer sheet
status-settled text sheet is =
    let blank = is.blank in
    let area = sheet.area in
    let left : blank.area.x ≡ area.x = ap (λ (r : Rect). r.x) is.emptied.area in
    let pieces = pieces_at blank.area area.x area.width status_style text in
    IsSettledBuffer-painted (record { x = area.x; y = area.y }) pieces blank sheet
    (omega (arith, left)) (text-ends blank.area area.x area.width status_style text) (IsSettledBuffer-empty _ _ is.emptied)
    (IsPaintable-empty _ _ is.emptied _ _) is.rendered
