-- A thumb at an end of its track.
use Rattle.std.proofs.Common.{◌≡◌, ℕ, ◌+◌, ◌-◌, ◌*◌, ◌/◌, ◌<◌, ◌≤◌, Bool, true, false, if◌then◌else◌, min, max, nat_lt}
use Rattle.std.proofs.Common.{refl, ap, ◌∙◌, arith}
use Rattle.std.proofs.lemmas.{Nat.div-mul-add, Bool.Decides.nat_tests}
use Rattle.widget_scrollbar.specs.declared.scrollbar.state.ScrollbarState.{ScrollbarState}
use Rattle.widget_scrollbar.specs.Scrollbars.{rounded_quotient, seen_rows, first_seen, whole_length, thumb_start, thumb_length}

-- so many wholes, and nothing, rounded
whole-rounded : (n d : ℕ) → 0 < d → (2 * (d * n) + d) / (2 * d) ≡ n
whole-rounded n d some =
    let e : 2 * (d * n) + d ≡ n * (2 * d) + d = omega arith in
    ap (λ k. k / (2 * d)) e ∙ div-mul-add n (2 * d) d (omega arith)

none-rounded : (n d : ℕ) → 0 < d → n ≡ 0 → rounded_quotient n d ≡ 0
none-rounded n d some e =
    let least : 2 * n + d ≡ 0 * (2 * d) + d = omega arith in
    ap (λ k. k / (2 * d)) least ∙ div-mul-add 0 (2 * d) d (omega arith)

-- at least one row is seen
seen-some : (s : ScrollbarState) (length : ℕ) → 0 < length → 0 < seen_rows s length
seen-some s length some = by-test (nat_lt 0 s.viewport_content_length) refl
  where
    by-test : (b : Bool) → nat_lt 0 s.viewport_content_length ≡ b → 0 < (if b then s.viewport_content_length else length)
    by-test true e = grind (arith, nat_tests, e)
    by-test false e = some

pub thumb-first : (s : ScrollbarState) (track length : ℕ) → 0 < length → s.position ≡ 0 → thumb_start s track length ≡ 0
thumb-first s track length some at =
    let seen = seen-some s length some in
    let first : first_seen s ≡ 0 = omega arith in
    let none : first_seen s * track ≡ 0 = ap (λ n. n * track) first ∙ omega arith in
    let start : rounded_quotient (first_seen s * track) (whole_length s length) ≡ 0 =
    none-rounded (first_seen s * track) (whole_length s length) (omega arith) none in
    ap (λ n. min n (track - 1)) start ∙ omega arith

pub thumb-last : (s : ScrollbarState) (track length : ℕ) → 0 < length → 0 < track → 0 < s.content_length
    → s.content_length ≤ s.position + 1
    → thumb_start s track length + thumb_length s track length ≡ track
thumb-last s track length some room content at =
    let seen = seen-some s length some in
    let whole : first_seen s + seen_rows s length ≡ whole_length s length = omega arith in
    let end : rounded_quotient ((first_seen s + seen_rows s length) * track) (whole_length s length) ≡ track =
    ap (λ n. (2 * (n * track) + whole_length s length) / (2 * whole_length s length)) whole
    ∙ whole-rounded track (whole_length s length) (omega arith) in
    ends-there (rounded_quotient (first_seen s * track) (whole_length s length)) _ track room end
  where
    ends-there : (start end track : ℕ) → 0 < track → end ≡ track
        → min start (track - 1) + max (min end track - min start (track - 1)) 1 ≡ track
    ends-there start end track room e = omega arith

pub thumb-within : (s : ScrollbarState) (track length : ℕ) → 0 < track
    → thumb_start s track length + thumb_length s track length ≤ track
thumb-within s track length room =
    within (rounded_quotient (first_seen s * track) (whole_length s length))
    (rounded_quotient ((first_seen s + seen_rows s length) * track) (whole_length s length)) track room
  where
    within : (start end track : ℕ) → 0 < track → min start (track - 1) + max (min end track - min start (track - 1)) 1 ≤ track
    within start end track room = omega arith
