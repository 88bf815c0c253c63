-- No two variants of an enum have the same name.
use Rattle.std.proofs.Common.{◌≡◌, ℕ, List, [], ◌∷◌, Some, Ok, Err, refl, ap, sym, ◌∙◌, find}
use Rattle.std.specs.Str.{bytes_eq}
use Rattle.rtui_layout.specs.declared.alignment.HorizontalAlignment.TheVariants as horizontal
use Rattle.rtui_layout.specs.declared.alignment.VerticalAlignment.TheVariants as vertical
use Rattle.rtui_layout.specs.declared.direction.Direction.TheVariants.{Horizontal, Vertical}
use Rattle.rtui_layout.specs.declared.flex.Flex.TheVariants as flex
use Rattle.rtui_layout.specs.Names.{ReadsBack, direction_name, horizontal_name, vertical_name, flex_name}

-- if a search through all variants finds each by its name, names read back
module _ {V : Type 0} (name : V → List ℕ) (all : List V) where
  pub reads_back : ((v : V) → find (λ w. bytes_eq (name w) (name v)) all ≡ Some v) → ReadsBack name
  reads_back finds v (Ok w) same =
      let found : Some w ≡ Some v = sym (finds w) ∙ ap (λ text. find (λ u. bytes_eq (name u) text) all) same ∙ finds v in
      cc
  reads_back finds v (Err e) none = absurd (none v refl)

pub direction_reads_back : ReadsBack direction_name
direction_reads_back = reads_back direction_name (Horizontal ∷ Vertical ∷ []) (elim [ Horizontal ↦ refl | Vertical ↦ refl ])

pub horizontal_reads_back : ReadsBack horizontal_name
horizontal_reads_back = reads_back horizontal_name (horizontal.Left ∷ horizontal.Center ∷ horizontal.Right ∷ [])
    (elim [ horizontal.Left ↦ refl | horizontal.Center ↦ refl | horizontal.Right ↦ refl ])

pub vertical_reads_back : ReadsBack vertical_name
vertical_reads_back = reads_back vertical_name (vertical.Top ∷ vertical.Center ∷ vertical.Bottom ∷ [])
    (elim [ vertical.Top ↦ refl | vertical.Center ↦ refl | vertical.Bottom ↦ refl ])

pub flex_reads_back : ReadsBack flex_name
flex_reads_back = reads_back flex_name
    (flex.Legacy ∷ flex.Start ∷ flex.End ∷ flex.Center ∷ flex.SpaceBetween ∷ flex.SpaceEvenly ∷ flex.SpaceAround ∷ [])
    (elim [
      | flex.Legacy ↦ refl
      | flex.Start ↦ refl
      | flex.End ↦ refl
      | flex.Center ↦ refl
      | flex.SpaceBetween ↦ refl
      | flex.SpaceEvenly ↦ refl
      | flex.SpaceAround ↦ refl
    ])
