-- Logos and mascots keep cells plain.
use Rattle.std.proofs.Common.{◌≡◌, ℕ, zero, suc, ◌-◌, ◌==◌, ◌≤◌, Bool, true, false, ◌&&◌, nat_le, List, [], ◌∷◌, Option, Some, None, IfSome}
use Rattle.std.proofs.Common.{slice_get, refl, arith}
use Rattle.std.specs.Char.{encode_utf8}
use Rattle.std.proofs.lemmas.{Bool.and_parts, Bool.Decides.nat_tests}
use Rattle.unicode_width.proofs.Computing.{unicode_width}
use Rattle.ratatui_core.specs.{Layout.Rect, Layout.intersected}
use Rattle.ratatui_core.specs.Buffer.{BufferData, Cell, text_width, width_of, IsPlain, IsPlainFrom}
use Rattle.ratatui_core.specs.Style.{Color}
use Rattle.ratatui_core.proofs.BufferLemmas.{plain-with_symbol, plain-changed}
use Rattle.widget_logo.specs.declared.logo.Size.{Size as LogoSize}
use Rattle.widget_logo.specs.declared.logo.Size.TheVariants.{Tiny, Small}
use Rattle.widget_logo.specs.declared.mascot.MascotEyeColor.{MascotEyeColor as EyeColor}
use Rattle.widget_logo.specs.Mascots.{dot_color, halves_shown, upper_dot, lower_dot, mascot_cell, RendersMascot}
use Rattle.widget_logo.specs.Logos.{logo_row, logo_character, showing_character, logo_cell, RendersLogo}

abbrev are_narrow : List ℕ → Bool
are_narrow [] = true
are_narrow (c ∷ cs) = nat_le (text_width (encode_utf8 c)) 1 && are_narrow cs

-- what holds of all holds of the one at a place, if there is one
nth-narrow : (cs : List ℕ) (i : ℕ) → are_narrow cs ≡ true → IfSome (slice_get cs i) (λ c. text_width (encode_utf8 c) ≤ 1)
nth-narrow [] i all = tt
nth-narrow (c ∷ cs) zero all =
    let e : nat_le (text_width (encode_utf8 c)) 1 ≡ true = (and_parts _ _ all).0 in grind (arith, nat_tests, e)
nth-narrow (c ∷ cs) (suc i) all = nth-narrow cs i (and_parts _ _ all).1

row-narrow : (size : LogoSize) (y : ℕ) → are_narrow (logo_row size y) ≡ true
unfolding encode_utf8 text_width unicode_width
row-narrow Tiny zero = refl
row-narrow Tiny (suc zero) = refl
row-narrow Tiny (suc (suc y)) = refl
row-narrow Small zero = refl
row-narrow Small (suc zero) = refl
row-narrow Small (suc (suc y)) = refl

character-plain : (o : Option ℕ) (c : Cell) → IfSome o (λ c. text_width (encode_utf8 c) ≤ 1) → IsPlain c
    → IsPlain (showing_character o c)
character-plain None c narrow is = is
character-plain (Some character) c narrow is = plain-with_symbol (encode_utf8 character) c is narrow

pub logo-plain : (size : LogoSize) (area : Rect) (old new : BufferData) → IsPlainFrom 0 old → RendersLogo size area old new
    → IsPlainFrom 0 new
logo-plain size area old new plain =
    λ is. let r = intersected area old.area in
    plain-changed r (logo_cell size r) old new (λ p c cell.
    character-plain (logo_character size (p.x - r.x) (p.y - r.y)) c
    (nth-narrow (logo_row size (p.y - r.y)) (p.x - r.x) (row-narrow size (p.y - r.y))) cell) is plain

-- the half blocks and the full one take one column
abbrev blocks : List ℕ
blocks = 0x2580 ∷ 0x2584 ∷ 0x2588 ∷ []

blocks-narrow : are_narrow blocks ≡ true
unfolding encode_utf8 text_width unicode_width
blocks-narrow = refl

colored-plain : (fg bg : Color) (c : Cell) → IsPlain c → IsPlain (record c { fg = fg; bg = bg })
unfolding width_of
colored-plain fg bg c is =
    record { narrow = is.narrow; unmarked = record { option = is.unmarked.option; flag = is.unmarked.flag } }

halves-plain : (upper lower : Option Color) (is_one : Bool) (c : Cell) → IsPlain c
    → IsPlain (halves_shown upper lower is_one c)
halves-plain None None is_one c is = is
halves-plain (Some u) None is_one c is =
    plain-with_symbol _ _ (colored-plain u c.bg c is) (nth-narrow blocks 0 blocks-narrow)
halves-plain None (Some l) is_one c is =
    plain-with_symbol _ _ (colored-plain l c.bg c is) (nth-narrow blocks 1 blocks-narrow)
halves-plain (Some u) (Some l) true c is =
    plain-with_symbol _ _ (colored-plain u c.bg c is) (nth-narrow blocks 2 blocks-narrow)
halves-plain (Some u) (Some l) false c is =
    plain-with_symbol _ _ (colored-plain u l c is) (nth-narrow blocks 0 blocks-narrow)

pub mascot-plain : (eye : EyeColor) (area : Rect) (old new : BufferData) → IsPlainFrom 0 old
    → RendersMascot eye area old new → IsPlainFrom 0 new
mascot-plain eye area old new plain =
    λ is. let r = intersected area old.area in
    plain-changed r (mascot_cell eye r) old new (λ p c cell.
    let upper = upper_dot r p in let lower = lower_dot r p in
    halves-plain (dot_color eye upper) (dot_color eye lower) (upper == lower) c cell) is plain
