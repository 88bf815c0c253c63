-- Equal texts are hashed alike.
use Rattle.std.specs.Prelude.{refl, nat_eq}
use Rattle.std.proofs.lemmas.{Bool.Decides.Decides-eqb, Slice.Eq.slice_eq-Decides}
use Rattle.std.specs.{Cmp.Lexicographic.pointwise, Hash.Alike, Hash.same_Alike}
use Rattle.std.specs.Hash as fed

-- equal bytes feed a hasher the same
pub text_Alike : Alike (pointwise nat_eq) fed.str
text_Alike = same_Alike fed.str (λ x y. slice_eq-Decides Decides-eqb x y _ refl)

-- equal characters feed a hasher the same
pub char_Alike : Alike nat_eq fed.char
char_Alike = same_Alike fed.char (λ x y. Decides-eqb x y)
