-- What a regular expression that was made of a text matches, and what is known ahead of a byte.
use Rattle.std.proofs.Common.{◌≡◌, ◌≢◌, ℕ, zero, suc, ◌+◌, ◌-◌, ◌<◌, ◌≤◌, ⊎_elim, inl, inr, List, length, Option, Some, None, true, false}
use Rattle.std.proofs.Common.{IsSomeAnd, is_some, option_map, get_or, refl, sym, ap, ap₂, ◌∙◌, arith}
use Rattle.std.proofs.lemmas.Bool.{cases_lt}
use Rattle.std.proofs.lemmas.Bool.Decides.{nat_tests}
use Rattle.std.specs.Option.{option_or}
use Rattle.regex_hir.specs.Find.{first_from}
use Rattle.regex_hir.specs.Meaning.{meaning}
use Rattle.regex_hir.specs.Re.{Re, Rest, Trace}
use Rattle.regex_hir.specs.declared.hir.Hir.{Hir}
use Rattle.regex_syntax.specs.Brackets.{Nested}
use Rattle.regex_syntax.specs.Grammar.{Names, read, group_count}
use Rattle.regex_syntax.specs.Verdict.{Reads, Refuses}
use Rattle.regex_syntax.specs.declared.error.ErrorKind.{ErrorKind}
use Rattle.regex_syntax.specs.declared.error.ErrorKind.TheVariants.{OutOfMemory, NestLimitExceeded}
use Rattle.regex.specs.Patterns.{SameCaptures, Config, find_str, span, default_config}
use Rattle.regex.specs.Strings.{regex_pattern, regex_source, regex_config, IsReadFromSource, matcher_pattern}
use Rattle.regex.specs.Names.{names_of}
use Rattle.regex.specs.declared.string.regex.Regex.{Regex}
use Rattle.regex.specs.declared.string.matcher.Matcher.{Matcher}
use Rattle.regex.specs.declared.builder.RegexBuilder.{RegexBuilder}
use Rattle.regex.specs.declared.error.Error.{Error}
use Rattle.regex.specs.declared.error.Error.TheVariants.{Syntax}
use Rattle.regex.specs.{Sources.IsRefusal, Failures.IsRightKind}
use Rattle.regex.specs.Views.{builder_config, builder_flags, with_flags}
use Rattle.regex_syntax.specs.declared.error.Error as parser
use Rattle.regex.proofs.ForCallers.{is_match_alike, span_alike}
use Rattle.pager.specs.{Search.sought_if, Search.has_match, Symbols.marked_bytes}
use Rattle.pager.specs.Patterns.{has_capital, typed_config, shallow, pattern_of, IsPatternOf, has_found, span_from, begun_at, match_at}
use Rattle.pager.specs.Inner.{reaches, IsAheadIn, IsAheadIf, IsKnownAhead}
use Rattle.pager.specs.declared.sought.Sought.{Sought}
use Rattle.pager.specs.declared.sought.Sought.TheVariants.{Plain, Pattern}
use Rattle.pager.specs.declared.finder.Ahead.{Ahead}
use Rattle.std.specs.Str.{chars}
use Rattle.std.proofs.Common.{IfSome, IfErr, Err, Result, Bool, not, nat_lt, nat_le, if◌then◌else◌, subst}

-- ---- what is read

read-alike : (o : Option (Nested Re × Names)) (re : Re) (names : Names)
    → IsSomeAnd o (λ (found, called). (found.depth ≤ default_config.nest_limit) × SameCaptures re found.value × (names ≡ called)
    × (group_count re ≤ length names))
    → IsSomeAnd (shallow o) (SameCaptures re)
read-alike None re names p = absurd p
read-alike (Some (found, called)) re names p =
    let fits : nat_le found.depth default_config.nest_limit ≡ true = grind (arith, nat_tests, p.0) in rw fits p.1

-- a regular expression that was made of a text is that of the text
pub made-alike : (text : List ℕ) (r : Regex) → regex_source r ≡ text → regex_config r ≡ typed_config text
    → IsReadFromSource r → IsPatternOf text (regex_pattern r)
unfolding pattern_of Reads
made-alike text r source config made =
    let reads : Reads (typed_config text) text r.pattern.program.hir (names_of r.pattern.names.items) = rw (source, config) at made in
    read-alike (read (typed_config text) (chars text)) (regex_pattern r) (names_of r.pattern.names.items) reads

too-deep : (o : Option (Nested Re × Names)) → IfSome o (λ (found, called). default_config.nest_limit < found.depth) → shallow o ≡ None
too-deep None p = refl
too-deep (Some (found, called)) p =
    let deep : nat_le found.depth default_config.nest_limit ≡ false = grind (arith, nat_tests, p) in rw deep refl

-- the options with which a text is read
pub options-are : (made new : RegexBuilder) (text : List ℕ) (any : Bool)
    → made ≡ with_flags new (record (builder_flags new) { case_insensitive = any }) → builder_config new ≡ default_config
    → any ≡ not (has_capital text) → record (builder_config made) { utf8 = true } ≡ typed_config text
options-are made new text any is fresh case =
    ap (λ (b : RegexBuilder). record (builder_config b) { utf8 = true }) is
    ∙ ap (λ (c : Config). record (record c { flags = record c.flags { case_insensitive = any } }) { utf8 = true }) fresh
    ∙ ap (λ b. record default_config { flags = record default_config.flags { case_insensitive = b } }) case

-- a text that the parser refuses is no regular expression, unless memory ran out
pub none-made : (text : List ℕ) (kind : ErrorKind) → Refuses (typed_config text) text kind → kind ≢ OutOfMemory → pattern_of text ≡ None
unfolding pattern_of Refuses
none-made text kind refuses other = ⊎_elim
    (λ memory. absurd (other memory))
    (λ rest. ⊎_elim
    (λ (none : read (typed_config text) (chars text) ≡ None). ap shallow none)
    (λ deep. too-deep (read (typed_config text) (chars text)) deep.1)
    rest)
    refuses

pub none-read : (r : Result Regex Error) (p : parser.Error) (config : Config) (source text : List ℕ) → r ≡ Err (Syntax p)
    → IfErr r (IsRefusal config source) → IfErr r (IsRightKind config source)
    → config ≡ typed_config text → source ≡ text → pattern_of text ≡ None
none-read r p config source text failed refusal right options is =
    let refuses : IsRefusal config source (Syntax p) = rw failed at refusal in
    let other : p.kind ≢ OutOfMemory = rw failed at right in
    none-made text p.kind (rw (options, is) at (refuses p refl)) other

-- what is made is the text
pub some-made : (text : List ℕ) (re : Re) → IsPatternOf text re → Some text ≡ option_map (λ r. text) (pattern_of text)
some-made text re is = by (pattern_of text) is
  where
    by : (o : Option Re) → IsSomeAnd o (SameCaptures re) → Some text ≡ option_map (λ r. text) o
    by None p = absurd p
    by (Some r) p = refl

-- ---- what it finds

module _ (text : List ℕ) (re : Re) (is : IsPatternOf text re) (line : List ℕ) (bytes : (k : ℕ) → get_or line k 0 < 256) where
  pub found-alike : is_some (find_str re line 0) ≡ has_found (pattern_of text) line
  found-alike = by (pattern_of text) is
    where
      by : (o : Option Re) → IsSomeAnd o (SameCaptures re) → is_some (find_str re line 0) ≡ has_found o line
      by None p = absurd p
      by (Some r) p = is_match_alike p line bytes true 0

  pub match-alike : (at : ℕ) → begun_at at (span_from re line at) ≡ match_at (pattern_of text) line at
  match-alike at = by (pattern_of text) is
    where
      by : (o : Option Re) → IsSomeAnd o (SameCaptures re) → begun_at at (span_from re line at) ≡ match_at o line at
      by None p = absurd p
      by (Some r) p = ap (begun_at at) (span_alike p line bytes true at)

  pub ahead-in : (at : ℕ) (ahead : Option Ahead) → IsAheadIf (pattern_of text) line at ahead → IsAheadIn re line at ahead
  ahead-in at ahead known = by (pattern_of text) is ahead known
    where
      by : (o : Option Re) → IsSomeAnd o (SameCaptures re) → (a : Option Ahead) → IsAheadIf o line at a → IsAheadIn re line at a
      by None p a k = absurd p
      by (Some r) p None k = tt
      by (Some r) p (Some a) k = (k.0, k.1 ∙ sym (span_alike p line bytes true a.from))

  pub ahead-of : (at : ℕ) (ahead : Option Ahead) → IsAheadIn re line at ahead → IsAheadIf (pattern_of text) line at ahead
  ahead-of at ahead known = by (pattern_of text) is ahead known
    where
      by : (o : Option Re) → IsSomeAnd o (SameCaptures re) → (a : Option Ahead) → IsAheadIn re line at a → IsAheadIf o line at a
      by None p a k = absurd p
      by (Some r) p None k = tt
      by (Some r) p (Some a) k = (k.0, k.1 ∙ span_alike p line bytes true a.from)

-- a finder of matches seeks its text as a regular expression
module _ (text : List ℕ) (m : Matcher) (held : Option Matcher) (some : held ≡ Some m) (sought : Sought)
    (view : sought_if held text ≡ sought) (holds : IfSome held (λ x. IsPatternOf text (matcher_pattern x))) where
  seeks : Pattern text ≡ sought
  seeks = sym (ap (λ o. sought_if o text) some) ∙ view

  is-held : IsPatternOf text (matcher_pattern m)
  is-held = rw some at holds

  module _ (line : List ℕ) (bytes : (k : ℕ) → get_or line k 0 < 256) where
    pub found-by : is_some (find_str (matcher_pattern m) line 0) ≡ has_match sought line
    found-by = found-alike text (matcher_pattern m) is-held line bytes ∙ ap (λ s. has_match s line) seeks

    pub marked-by : (marked : ℕ) (rest : List ℕ) → marked ≤ 0
        → begun_at (length line - length rest) (span_from (matcher_pattern m) line (length line - length rest))
        ≡ marked_bytes sought line marked rest
    marked-by marked rest none =
        let not : nat_lt 0 marked ≡ false = grind (arith, nat_tests, none) in
        match-alike text (matcher_pattern m) is-held line bytes (length line - length rest)
        ∙ sym (ap (λ b. if b then marked else match_at (pattern_of text) line (length line - length rest)) not)
        ∙ ap (λ s. marked_bytes s line marked rest) seeks

    pub ahead-by : (at : ℕ) (ahead : Option Ahead) → IsKnownAhead sought line at ahead → IsAheadIn (matcher_pattern m) line at ahead
    ahead-by at ahead known = ahead-in text (matcher_pattern m) is-held line bytes at ahead
        (subst (λ s. IsKnownAhead s line at ahead) (sym seeks) known)

    pub ahead-for : (at : ℕ) (ahead : Option Ahead) → IsAheadIn (matcher_pattern m) line at ahead → IsKnownAhead sought line at ahead
    ahead-for at ahead known = subst (λ s. IsKnownAhead s line at ahead) seeks
        (ahead-of text (matcher_pattern m) is-held line bytes at ahead known)

-- and one of no matches as it stands
pub seeks-plain : (text : List ℕ) (held : Option Matcher) (sought : Sought) → held ≡ None → sought_if held text ≡ sought
    → Plain text ≡ sought
seeks-plain text held sought none view = sym (ap (λ o. sought_if o text) none) ∙ view

-- ---- what is known ahead

pub nothing_ahead : (sought : Sought) (line : List ℕ) (at : ℕ) → IsKnownAhead sought line at None
nothing_ahead (Plain text) line at = tt
nothing_ahead (Pattern text) line at = by (pattern_of text)
  where
    by : (o : Option Re) → IsAheadIf o line at None
    by None = tt
    by (Some r) = tt

-- it is known at a later byte, too
pub ahead-later : (sought : Sought) (line : List ℕ) (at later : ℕ) (ahead : Option Ahead) → at ≤ later
    → IsKnownAhead sought line at ahead → IsKnownAhead sought line later ahead
ahead-later (Plain text) line at later ahead le known = tt
ahead-later (Pattern text) line at later ahead le known = by (pattern_of text) ahead known
  where
    by : (o : Option Re) (a : Option Ahead) → IsAheadIf o line at a → IsAheadIf o line later a
    by None a k = tt
    by (Some r) None k = tt
    by (Some r) (Some a) k = (omega (arith, k.0, le), k.1)

-- ---- the first match from a later byte on

later-first : (f : Rest) (n i j k : ℕ) → i ≤ j → k + j ≡ n + i → reaches j (option_map span (first_from f n i)) ≡ true
    → first_from f k j ≡ first_from f n i
unfolding first_from
later-first f zero i j k le same is =
    let none : k ≡ 0 = omega arith in let here : j ≡ i = omega arith in ap₂ (first_from f) none here
later-first f (suc n) i j k le same is = ⊎_elim
    (λ (lt : i < j). by (f i) refl lt (λ rest. later-first f n (i + 1) j k (omega (arith, lt)) (omega (arith, same)) rest))
    (λ (ge : j ≤ i). let all : k ≡ suc n = omega arith in let here : j ≡ i = omega arith in ap₂ (first_from f) all here)
    (cases_lt i j)
  where
    by : (o : Option Trace) → f i ≡ o → i < j
        → (reaches j (option_map span (first_from f n (i + 1))) ≡ true → first_from f k j ≡ first_from f n (i + 1))
        → first_from f k j ≡ first_from f (suc n) i
    by (Some t) e lt more =
        let far : nat_le j i ≡ true = rw e at is in absurd (grind (arith, nat_tests, far))
    by None e lt more =
        let rest : reaches j (option_map span (first_from f n (i + 1))) ≡ true = rw e at is in
        more rest ∙ (rw e refl)

-- it is the same one, if that doesn't begin before
pub later-span : (re : Re) (line : List ℕ) (i j : ℕ) → i ≤ j → j ≤ length line → reaches j (span_from re line i) ≡ true
    → span_from re line j ≡ span_from re line i
unfolding find_str
later-span re line i j le fits is =
    ap (option_map span) (later-first _ (length line + 1 - i) i j (length line + 1 - j) le (omega (arith, le, fits)) is)

pub known-span : (re : Re) (line : List ℕ) (at : ℕ) (ahead : Option Ahead) (a : Ahead) → ahead ≡ Some a → at ≤ length line
    → IsAheadIn re line at ahead → reaches at a.span ≡ true → a.span ≡ span_from re line at
known-span re line at ahead a some fits known far =
    let both : IsAheadIn re line at (Some a) = rw some at known in
    both.1 ∙ sym (later-span re line a.from at both.0 fits (sym (ap (reaches at) both.1) ∙ far))
