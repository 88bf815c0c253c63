-- The graphemes of the empty text, and those of a front of printable characters.
use Rattle.unicode_segmentation.proofs.Computing.{unicode_segmentation}
use Rattle.std.proofs.Common.{◌≡◌, ℕ, ◌<◌, true, false, List, [], ◌∷◌, ◌++◌, length, take, drop, ◌==◌}
use Rattle.std.proofs.Common.{refl, sym, ◌∙◌, ap, append-nil, append_assoc, arith, eqb-true}
use Rattle.std.proofs.lemmas.{Bool.false≢true}
use Rattle.unicode_segmentation.specs.Grapheme.{graphemes}
use Rattle.rtui_style.specs.declared.Style.{Style}
use Rattle.rtui_text.specs.{Graphemes.in_style, Graphemes.has_control, Printable.ArePrintable, Printable.singles}
use Rattle.rtui_text.proofs.PrintableLemmas.{printable-plain}

pub graphemes-empty : graphemes true [] ≡ []
unfolding unicode_segmentation
graphemes-empty = refl

-- the first character of a front, and the others
pub front-taken : (style : Style) (front symbol rest : List ℕ) (gs : List (List ℕ)) → ArePrintable front → 0 < length front
    → symbol ≡ take 1 front → rest ≡ drop 1 front
    → in_style style (singles front ++ gs) ≡ record { symbol = symbol; style = style } ∷ in_style style (singles rest ++ gs)
front-taken style [] symbol rest gs printable some is others = absurd (omega arith)
front-taken style (b ∷ bs) symbol rest gs printable some is others =
    rw (is, others, printable-plain b (printable 0 (omega arith))) refl

-- the test of an empty text
pub none-left : (text : List ℕ) → true ≡ (length text == 0) → text ≡ []
none-left [] is = refl
none-left (b ∷ text) is = absurd (let zero : length (b ∷ text) ≡ 0 = eqb-true _ _ (sym is) in omega arith)

pub some-left : (text : List ℕ) → false ≡ (length text == 0) → 0 < length text
some-left [] is = absurd (false≢true is)
some-left (b ∷ text) is = omega arith

-- nothing is ahead: what is left is given as it comes
pub front-looked : (style : Style) (front ahead : List ℕ) (gs : List (List ℕ)) → front ≡ [] → ahead ≡ []
    → in_style style (singles front ++ (graphemes true ahead ++ gs)) ≡ in_style style gs
front-looked style front ahead gs none all = rw (none, all, graphemes-empty) refl

-- a text that wasn't looked at
pub unread : (style : Style) (text : List ℕ) (gs : List (List ℕ)) → gs ≡ graphemes true []
    → in_style style (graphemes true text ++ gs) ≡ in_style style (graphemes true text)
unread style text gs none = rw (none, graphemes-empty, append-nil (graphemes true text)) refl

-- looking at a text parts it into a front and what comes after
pub looked-front : (style : Style) (old ahead front rest : List ℕ) (gs : List (List ℕ)) (n : ℕ) → old ≡ []
    → graphemes true ahead ≡ singles (take n ahead) ++ graphemes true (drop n ahead)
    → front ≡ take n ahead → rest ≡ drop n ahead
    → in_style style (singles front ++ (graphemes true rest ++ gs))
    ≡ in_style style (singles old ++ (graphemes true ahead ++ gs))
looked-front style old ahead front rest gs n none parts is after =
    rw (none, is, after, parts) (ap (in_style style) (sym (append_assoc (singles (take n ahead)) _ gs)))

-- and one without such a front is read as it is
pub looked-none : (style : Style) (old ahead front rest : List ℕ) (before gs : List (List ℕ)) (n : ℕ) → old ≡ []
    → graphemes true ahead ≡ singles (take n ahead) ++ graphemes true (drop n ahead)
    → front ≡ take n ahead → rest ≡ drop n ahead → front ≡ [] → before ≡ [] → gs ≡ graphemes true rest
    → in_style style (singles old ++ (graphemes true [] ++ gs))
    ≡ in_style style (singles old ++ (graphemes true ahead ++ before))
looked-none style old ahead front rest before gs n none parts is after nothing unread left =
    let emptied : take n ahead ≡ [] = sym is ∙ nothing in
    rw (none, left, after, unread, graphemes-empty, parts, emptied, append-nil (graphemes true (drop n ahead))) refl

-- the next grapheme, if it has no control character
pub shown-next : (style : Style) (symbol : List ℕ) (gs : List (List ℕ)) → has_control symbol ≡ false
    → in_style style (symbol ∷ gs) ≡ record { symbol = symbol; style = style } ∷ in_style style gs
shown-next style symbol gs plain = rw plain refl

pub ruleset front_rules = (front-taken, front-looked)

pub ruleset unread_rules = (unread)

pub ruleset ahead_rules = (looked-front, looked-none)
