-- A derived `==` of an enum is true only of equal values, where that of each variant's fields is.
use Rattle.std.proofs.Common.{◌≡◌, Bool, true, false, List, [], ◌∷◌, ap, inl, inr}
use Rattle.std.proofs.lemmas.Bool.{false≢true}
use denote.Struct.Field.{Field}
use denote.Struct.Values.{Values}
use denote.Enum.Compared.{Each, by}
use denote.Enum.Declared.{Record, Choice, values_one}

-- the test of each variant is true only of equal fields
abbrev pub Tells : (parts : List (List Field)) → Each Bool parts → Type 0
Tells [] tests = Unit {0}
Tells (fields ∷ parts) tests = ((a b : Values fields) → tests.0 a b ≡ true → a ≡ b) × Tells parts tests.1

same_choice : (parts : List (List Field)) (tests : Each Bool parts) → Tells parts tests → (c d : Choice parts)
    → by false false parts tests c d ≡ true → c ≡ d
same_choice [] tests tell c d e = absurd c
same_choice (fields ∷ parts) tests tell (inl x) (inl y) e = ap inl (tell.0 x y e)
same_choice (fields ∷ parts) tests tell (inl x) (inr d) e = absurd (false≢true e)
same_choice (fields ∷ parts) tests tell (inr c) (inl y) e = absurd (false≢true e)
same_choice (fields ∷ parts) tests tell (inr c) (inr d) e = ap inr (same_choice parts tests.1 tell.1 c d e)

pub same_value : (N : Record) (tests : Each Bool N.parts) → Tells N.parts tests → (a b : N.D)
    → by false false N.parts tests (N.as_values a) (N.as_values b) ≡ true → a ≡ b
same_value N tests tell a b e = values_one N a b (same_choice N.parts tests tell (N.as_values a) (N.as_values b) e)
