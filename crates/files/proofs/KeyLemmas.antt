-- What names are compared by, byte by byte.
use Rattle.std.proofs.Common.{◌≡◌, ℕ, ◌+◌, ◌-◌, ◌++◌, List, [], ◌∷◌, true, false, Option, Some, None, refl, ap, sym, ◌∙◌, append_assoc, append-nil}
use Rattle.std.specs.Str.{byte}
use Rattle.files.specs.NameKeys.{is_digit_byte, digit_added, sort_key_in}

pub key-first_digit : (b : ℕ) (rest : List ℕ) → is_digit_byte b ≡ true → sort_key_in None (b ∷ rest) ≡ sort_key_in (Some (b - byte "0")) rest
unfolding sort_key_in
key-first_digit b rest is = rw is refl

pub key-digit : (n b : ℕ) (rest : List ℕ) → is_digit_byte b ≡ true → sort_key_in (Some n) (b ∷ rest) ≡ sort_key_in (Some (digit_added n b)) rest
unfolding sort_key_in
key-digit n b rest is = rw is refl

pub key-other : (n : Option ℕ) (b : ℕ) (rest : List ℕ) → is_digit_byte b ≡ false
    → sort_key_in n (b ∷ rest) ≡ (sort_key_in n [] ++ (b + 1) ∷ []) ++ sort_key_in None rest
unfolding sort_key_in
key-other None b rest is = rw is refl
key-other (Some n) b rest is = rw is refl

pub key-none : (key : List ℕ) → key ≡ key ++ sort_key_in None []
unfolding sort_key_in
key-none key = sym (append-nil key)

pub key-number : (key one two : List ℕ) (n : ℕ) → one ≡ key ++ 0 ∷ [] → two ≡ one ++ n ∷ [] → two ≡ key ++ sort_key_in (Some n) []
unfolding sort_key_in
key-number key one two n first second = second ∙ ap (λ k. k ++ n ∷ []) first ∙ append_assoc key (0 ∷ []) (n ∷ [])

pub key-pushed : (key one two : List ℕ) (n : Option ℕ) (b : ℕ) (rest : List ℕ) → is_digit_byte b ≡ false
    → one ≡ key ++ sort_key_in n [] → two ≡ one ++ (b + 1) ∷ [] → two ++ sort_key_in None rest ≡ key ++ sort_key_in n (b ∷ rest)
key-pushed key one two n b rest is first second =
    ap (λ k. k ++ sort_key_in None rest) (second ∙ ap (λ k. k ++ (b + 1) ∷ []) first ∙ append_assoc key (sort_key_in n []) ((b + 1) ∷ []))
    ∙ append_assoc key (sort_key_in n [] ++ (b + 1) ∷ []) (sort_key_in None rest)
    ∙ ap (λ k. key ++ k) (sym (key-other n b rest is))
