-- What painting bytes do one after the other, and blanks in any rendition.
use Rattle.std.proofs.Common.{◌≡◌, ℕ, ◌+◌, List, zero, suc, refl, sym, ap, ◌∙◌, subst}
use lib.Utf8.{encode}
use Rattle.ratatui_core.specs.Buffer.{blank}
use Rattle.ansi_model.specs.{declared.sgr.Sgr.Sgr, declared.pen.Pen.Pen, Emulator.Emulator, Emulator.rested}
use Rattle.ansi_model.specs.Drawing.{printed_at, blanked_in, PenSends, Prints}
use Rattle.ansi_model.proofs.ReadLemmas.{Leads-then, Leads-none}

pub blank-encoded : encode 32 ≡ blank
unfolding encode
blank-encoded = refl

-- all but the columns, the cursor, the rendition and the doubt stays
abbrev pub OnlyPrinted : Emulator → Emulator → Type 0
OnlyPrinted s u = record u { columns = s.columns; x = s.x; y = s.y; sgr = s.sgr; sure = s.sure } ≡ s

pub blanked-only : (sgr : Sgr) (x y n : ℕ) (t : Emulator) → OnlyPrinted t (blanked_in sgr x y n t)
blanked-only sgr x y zero t = refl
blanked-only sgr x y (suc n) t = blanked-only sgr x y n t

pub blanked-width : (sgr : Sgr) (x y n : ℕ) (t : Emulator) → (blanked_in sgr x y n t).width ≡ t.width
blanked-width sgr x y n t = ap (λ (v : Emulator). v.width) (blanked-only sgr x y n t)

pub blanked-height : (sgr : Sgr) (x y n : ℕ) (t : Emulator) → (blanked_in sgr x y n t).height ≡ t.height
blanked-height sgr x y n t = ap (λ (v : Emulator). v.height) (blanked-only sgr x y n t)

-- bytes that do nothing, and bytes after others
abbrev pub KeepsSize : (Emulator → Emulator) → Type 0
KeepsSize effect = (t : Emulator) → ((effect t).width ≡ t.width) × ((effect t).height ≡ t.height)

pub blanked-keeps : (sgr : Sgr) (x y n : ℕ) → KeepsSize (blanked_in sgr x y n)
blanked-keeps sgr x y n t = (blanked-width sgr x y n t, blanked-height sgr x y n t)

pub PenSends-then : (w h : ℕ) (a b c : List ℕ) (p q r : Pen) (f g : Emulator → Emulator) → KeepsSize f → PenSends w h a p f b q
    → PenSends w h b q g c r → PenSends w h a p (λ t. g (f t)) c r
PenSends-then w h a b c p q r f g keeps first second =
    Leads-then first second (λ t u is one. record {
      width = ap (λ (v : Emulator). v.width) one.printed ∙ (keeps (rested t)).0 ∙ is.width;
      height = ap (λ (v : Emulator). v.height) one.printed ∙ (keeps (rested t)).1 ∙ is.height;
      drawn = one.drawn;
    }) (λ t u v is one two. record { drawn = two.drawn; printed = two.printed ∙ ap g one.printed })

pub blanks-none : (w h : ℕ) (old : List ℕ) (pen : Pen) (sgr : Sgr) (x y n : ℕ) → n ≡ 0
    → PenSends w h old pen (blanked_in sgr x y n) old pen
blanks-none w h old pen sgr x y n e = Leads-none refl (λ t is. record {
  drawn = is.drawn;
  printed = ap (λ k. blanked_in sgr x y k (rested t)) (sym e);
})

pub blanks-more : (w h : ℕ) (sgr : Sgr) (x y column m k : ℕ) (old mid new : List ℕ) (before between after : Pen)
    → PenSends w h old before (blanked_in sgr x y m) mid between → between.sgr ≡ sgr
    → Prints w h mid between column y between.sgr (encode 32) new after → column ≡ x + m → k ≡ suc m
    → PenSends w h old before (blanked_in sgr x y k) new after
blanks-more w h sgr x y column m k old mid new before between after done own more at count =
    let more_blank : Prints w h mid between column y between.sgr blank new after =
    subst (λ bs. Prints w h mid between column y between.sgr bs new after) blank-encoded more in
    let more_own : Prints w h mid between column y sgr blank new after =
    subst (λ p. Prints w h mid between column y p blank new after) own more_blank in
    let more_at : Prints w h mid between (x + m) y sgr blank new after =
    subst (λ j. Prints w h mid between j y sgr blank new after) at more_own in
    subst (λ j. PenSends w h old before (blanked_in sgr x y j) new after) (sym count)
    (PenSends-then w h old mid new before between after (blanked_in sgr x y m) (printed_at (x + m) y sgr blank)
    (blanked-keeps sgr x y m) done more_at)
