-- Sets of sixteen bits as numbers: what is in either, and what is in one and not in the other.
use Rattle.std.proofs.Common.{◌≡◌, ℕ, ◌-◌, ◌<◌, ◌^◌, sym, ap, ◌∙◌, arith}
use Rattle.std.specs.{Int.RustNames.bit_and, Int.RustNames.bit_or, Int.bit_at, Int.w16, Int.Bits.and_zero_l, Int.Bits.or_zero_l}
use Rattle.std.specs.{Int.Bits.or_zero_r}
use Rattle.std.proofs.lemmas.Nat.{and_le_l, or_lt, and_mask}
use Rattle.std.proofs.lemmas.Nat.Bits.{bit_at_and, bit_at_or, bit_at_not, bit_at-lt, same_from_bits_below}
use Rattle.std.proofs.Math.Nat.{mod-eq_of_lt}
use Prim.Native.Nat.{min, max, zero, suc}

abbrev pub either : ℕ → ℕ → ℕ
either a b = bit_or a b

abbrev pub less : ℕ → ℕ → ℕ
less a b = bit_and a (2 ^ 16 - 1 - b)

pub less-lt : (a b : ℕ) → a < 2 ^ 16 → less a b < 2 ^ 16
less-lt a b h = omega (arith, and_le_l a (2 ^ 16 - 1 - b))

pub bit_at-either : (a b i : ℕ) → bit_at (either a b) i ≡ max (bit_at a i) (bit_at b i)
bit_at-either a b i = bit_at_or a b i

pub bit_at-less : (a b i : ℕ) → b < 2 ^ 16 → i < 16 → bit_at (less a b) i ≡ min (bit_at a i) (1 - bit_at b i)
bit_at-less a b i h k = bit_at_and a (2 ^ 16 - 1 - b) i ∙ ap (min (bit_at a i)) (bit_at_not w16 b i h k)

-- one bit of a set after a layer: it was there or is added, and isn't taken away
one_layer : (x s a : ℕ) (i : ℕ) → s < 2 ^ 16 → i < 16 → bit_at (either (less x s) a) i ≡ max (min (bit_at x i) (1 - bit_at s i))
    (bit_at a i)
one_layer x s a i h k = bit_at-either (less x s) a i ∙ ap (λ b. max b (bit_at a i)) (bit_at-less x s i h k)

-- what holds at each of two bits holds of every two
at_bits : (P : ℕ → ℕ → Type 0) → P 0 0 → P 0 1 → P 1 0 → P 1 1 → (m n : ℕ) → m < 2 → n < 2 → P m n
at_bits P a b c d zero zero hm hn = a
at_bits P a b c d zero (suc zero) hm hn = b
at_bits P a b c d (suc zero) zero hm hn = c
at_bits P a b c d (suc zero) (suc zero) hm hn = d
at_bits P a b c d m n hm hn = absurd (omega arith)

layers_of_bits : (p qa qs ra rs : ℕ) → p < 2 → qa < 2 → qs < 2 → ra < 2 → rs < 2
    → max (min (max (min p (1 - qs)) qa) (1 - rs)) ra ≡ max (min p (1 - max (min qs (1 - ra)) rs)) (max (min qa (1 - rs)) ra)
layers_of_bits p qa qs ra rs hp hqa hqs hra hrs =
    at_bits (λ ra rs. max (min (max (min p (1 - qs)) qa) (1 - rs)) ra ≡ max (min p (1 - max (min qs (1 - ra)) rs))
    (max (min qa (1 - rs)) ra))
    (omega arith) (omega arith) (omega arith) (omega arith) ra rs hra hrs

-- a set of modifiers after two more layers, whichever two are joined first
pub patch_associates : (p qa qs ra rs : ℕ) → p < 2 ^ 16 → qa < 2 ^ 16 → qs < 2 ^ 16 → ra < 2 ^ 16 → rs < 2 ^ 16
    → either (less (either (less p qs) qa) rs) ra ≡ either (less p (either (less qs ra) rs)) (either (less qa rs) ra)
patch_associates p qa qs ra rs hp hqa hqs hra hrs =
    same_from_bits_below 16 _ _
    (or_lt 16 _ _ (less-lt _ rs (or_lt 16 _ _ (less-lt p qs hp) hqa)) hra)
    (or_lt 16 _ _ (less-lt p _ hp) (or_lt 16 _ _ (less-lt qa rs hqa) hra))
    (λ i h.
    one_layer (either (less p qs) qa) rs ra i hrs h
    ∙ ap (λ b. max (min b (1 - bit_at rs i)) (bit_at ra i)) (one_layer p qs qa i hqs h)
    ∙ layers_of_bits (bit_at p i) (bit_at qa i) (bit_at qs i) (bit_at ra i) (bit_at rs i)
    (bit_at-lt p i) (bit_at-lt qa i) (bit_at-lt qs i) (bit_at-lt ra i) (bit_at-lt rs i)
    ∙ sym (one_layer p (either (less qs ra) rs) (either (less qa rs) ra) i (or_lt 16 _ _ (less-lt qs ra hqs) hrs) h
    ∙ ap (λ b. max (min (bit_at p i) (1 - b)) (bit_at (either (less qa rs) ra) i)) (one_layer qs ra rs i hra h)
    ∙ ap (λ b. max (min (bit_at p i) (1 - max (min (bit_at qs i) (1 - bit_at ra i)) (bit_at rs i))) b)
    (one_layer qa rs ra i hrs h)))

-- one bit of a set under a style
under_style : (m a s : ℕ) (i : ℕ) → s < 2 ^ 16 → i < 16 → bit_at (less (either m a) s) i ≡ min (max (bit_at m i) (bit_at a i))
    (1 - bit_at s i)
under_style m a s i h k = bit_at-less (either m a) s i h k ∙ ap (λ b. min b (1 - bit_at s i)) (bit_at-either m a i)

styles_of_bits : (m pa ps qa qs : ℕ) → m < 2 → pa < 2 → ps < 2 → qa < 2 → qs < 2
    → min (max (min (max m pa) (1 - ps)) qa) (1 - qs) ≡ min (max m (max (min pa (1 - qs)) qa)) (1 - max (min ps (1 - qa)) qs)
styles_of_bits m pa ps qa qs hm hpa hps hqa hqs =
    at_bits (λ qa qs. min (max (min (max m pa) (1 - ps)) qa) (1 - qs) ≡ min (max m (max (min pa (1 - qs)) qa))
    (1 - max (min ps (1 - qa)) qs))
    (omega arith) (omega arith) (omega arith) (omega arith) qa qs hqa hqs

-- a set of modifiers under one style and then under another
pub painted_twice : (m pa ps qa qs : ℕ) → m < 2 ^ 16 → pa < 2 ^ 16 → ps < 2 ^ 16 → qa < 2 ^ 16 → qs < 2 ^ 16
    → less (either (less (either m pa) ps) qa) qs ≡ less (either m (either (less pa qs) qa)) (either (less ps qa) qs)
painted_twice m pa ps qa qs hm hpa hps hqa hqs =
    same_from_bits_below 16 _ _
    (less-lt _ qs (or_lt 16 _ _ (less-lt _ ps (or_lt 16 m pa hm hpa)) hqa))
    (less-lt _ _ (or_lt 16 _ _ hm (or_lt 16 _ _ (less-lt pa qs hpa) hqa)))
    (λ i h.
    under_style (less (either m pa) ps) qa qs i hqs h
    ∙ ap (λ b. min (max b (bit_at qa i)) (1 - bit_at qs i)) (under_style m pa ps i hps h)
    ∙ styles_of_bits (bit_at m i) (bit_at pa i) (bit_at ps i) (bit_at qa i) (bit_at qs i)
    (bit_at-lt m i) (bit_at-lt pa i) (bit_at-lt ps i) (bit_at-lt qa i) (bit_at-lt qs i)
    ∙ sym (under_style m (either (less pa qs) qa) (either (less ps qa) qs) i (or_lt 16 _ _ (less-lt ps qa hps) hqs) h
    ∙ ap (λ b. min (max (bit_at m i) b) (1 - bit_at (either (less ps qa) qs) i)) (one_layer pa qs qa i hqs h)
    ∙ ap (λ b. min (max (bit_at m i) (max (min (bit_at pa i) (1 - bit_at qs i)) (bit_at qa i))) (1 - b))
    (one_layer ps qa qs i hqa h)))

-- all but nothing, and nothing more
pub over_nothing : (a : ℕ) → a < 2 ^ 16 → either (less a 0) 0 ≡ a
over_nothing a h = or_zero_r (less a 0) ∙ and_mask a 16 ∙ mod-eq_of_lt h

-- nothing, and what is added
pub less-nothing : (s a : ℕ) → either (less 0 s) a ≡ a
less-nothing s a = ap (λ n. either n a) (and_zero_l (2 ^ 16 - 1 - s)) ∙ or_zero_l a
