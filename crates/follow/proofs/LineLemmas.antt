-- Lines that were read, and the view of them.
use Rattle.std.proofs.Common.{◌≡◌, ℕ, true, false, List, [], ◌∷◌, ◌++◌, map, Option, None, Some, IfSome, is_some, unwrap_or, refl}
use Rattle.std.proofs.Common.{sym, ap, subst, ◌∙◌, append_assoc, append-nil}
use Rattle.std.proofs.lemmas.{Bool.false≢true, List.map-append}
use Rattle.std.specs.Io.BufRead.{take_through, drop_through}
use Rattle.ratatui_core.specs.Layout.{Size}
use Rattle.ratatui_ansi.specs.{Backend.BackendState, Backend.shown_by, declared.error.AnsiError.AnsiError}
use Rattle.logview.specs.{Views.IsViewOf, declared.view.LogView.LogView}
use Rattle.logview.proofs.LogLemmas.{view_more}
use Rattle.follow.specs.{declared.error.FollowError.FollowError}
use Rattle.follow.specs.Inner.{StopsAtNext, StopsAfter, StopsText}
use Rattle.follow.specs.declared.error.FollowError.TheVariants.{Terminal, Read, Write, Lines}
use Rattle.follow.specs.Lines.{shown_line, AreLinesOf}
use Rattle.follow.specs.Inner.{ShowsInput, MovesOn}

some-same : {A : Type 0} {a b : A} → Some a ≡ Some b → b ≡ a
some-same {A} {a} {b} e = ap (λ o. unwrap_or o a) (sym e)

none-some : {A : Type 0} {a : A} → None ≡ Some a → ⊥
none-some e = false≢true (ap is_some e)

-- what was read of a text until now, and what is left of it: lines that continue those that were read are lines of the text
pub record HasRead {W E : Type 0} (size : Size) (text : List ℕ) (left : Option (List ℕ))
    (v : LogView (BackendState W) E) : Type 0 where
  pub lines : List (List ℕ)
  pub rest : List ℕ
  pub rest_is : left ≡ Some rest
  pub continued : (more : List (List ℕ)) → AreLinesOf rest more → AreLinesOf text (lines ++ more)
  pub view : IsViewOf shown_by size (map shown_line lines) v

has-read-none : {W E : Type 0} (size : Size) (text : List ℕ) (v : LogView (BackendState W) E) → IsViewOf shown_by size [] v
    → HasRead size text (Some text) v
has-read-none size text v view = record { lines = []; rest = text; rest_is = refl; continued = λ more are. are; view = view }

-- at first nothing was read
pub begun : {W E : Type 0} (left : Option (List ℕ)) (v : LogView (BackendState W) E)
    → IfSome left (λ text. (size : Size) → IsViewOf shown_by size [] v → HasRead size text left v)
begun (Some text) v = λ size view. has-read-none size text v view
begun None v = tt

has-read-more : {W E : Type 0} (size : Size) (text rest : List ℕ) (now : Option (List ℕ)) (v w : LogView (BackendState W) E)
    (read : HasRead size text (Some rest) v) → MovesOn rest true now v w → HasRead size text now w
has-read-more size text rest now v w read moves =
    let same : read.rest ≡ rest = some-same read.rest_is in
    let line = take_through 10 rest in
    record {
      lines = read.lines ++ line ∷ [];
      rest = drop_through 10 rest;
      rest_is = moves.1;
      continued = λ more are. subst (AreLinesOf text) (sym (append_assoc read.lines (line ∷ []) more))
          (read.continued (line ∷ more) (subst (λ r. AreLinesOf r (line ∷ more)) (sym same) (moves.0, refl, are)));
      view = subst (λ ls. IsViewOf shown_by size ls w) (sym (map-append shown_line read.lines (line ∷ [])))
          (view_more shown_by size (map shown_line read.lines) (shown_line line) v w read.view moves.2
          (moves.3 read.view.following));
    }

-- a line more was read and shown
pub turned : {W E : Type 0} (first left now : Option (List ℕ)) (u v w : LogView (BackendState W) E)
    → IfSome first (λ text. (size : Size) → IsViewOf shown_by size [] u → HasRead size text left v)
    → IfSome left (λ text. MovesOn text true now v w)
    → IfSome first (λ text. (size : Size) → IsViewOf shown_by size [] u → HasRead size text now w)
turned None left now u v w read moves = tt
turned (Some text) None now u v w read moves = λ size view. absurd (none-some (read size view).rest_is)
turned (Some text) (Some rest) now u v w read moves = λ size view. has-read-more size text rest now v w (read size view) moves

has-read-all : {W E : Type 0} (size : Size) (text rest : List ℕ) (now : Option (List ℕ)) (v w : LogView (BackendState W) E)
    (read : HasRead size text (Some rest) v) → MovesOn rest false now v w
    → (now ≡ Some []) × ShowsInput size text w
has-read-all size text rest now v w read moves =
    let same : read.rest ≡ [] = some-same read.rest_is ∙ moves.0 in (
      moves.1,
      record {
        lines = read.lines;
        cut = subst (AreLinesOf text) (append-nil read.lines) (read.continued [] same);
        view = subst (IsViewOf shown_by size (map shown_line read.lines)) (sym moves.2) read.view;
      },
    )

-- nothing is left
pub ended : {W E : Type 0} (first left now : Option (List ℕ)) (u v w : LogView (BackendState W) E)
    → IfSome first (λ text. (size : Size) → IsViewOf shown_by size [] u → HasRead size text left v)
    → IfSome left (λ text. MovesOn text false now v w)
    → IfSome first (λ text. (size : Size) → IsViewOf shown_by size [] u → (now ≡ Some []) × ShowsInput size text w)
ended None left now u v w read moves = tt
ended (Some text) None now u v w read moves = λ size view. absurd (none-some (read size view).rest_is)
ended (Some text) (Some rest) now u v w read moves = λ size view. has-read-all size text rest now v w (read size view) moves

after-some : {W : Type 0} (text : List ℕ) (v w : LogView (BackendState W) AnsiError) (fault : FollowError)
    → StopsAtNext text v w fault
    → StopsAfter text v w fault
after-some text v w (Terminal error) stops = stops
after-some text v w (Read error) stops = stops
after-some text v w (Write error) stops = absurd stops
after-some text v w Lines stops = absurd stops

stops-after : {W : Type 0} (size : Size) (text rest : List ℕ) (v w : LogView (BackendState W) AnsiError) (fault : FollowError)
    → HasRead size text (Some rest) v → StopsAfter rest v w fault
    → StopsText size text w fault
stops-after size text rest v w fault read stops =
    let same : read.rest ≡ rest = some-same read.rest_is in
    record {
      lines = read.lines;
      rest = rest;
      continued = λ more are. read.continued more (subst (λ r. AreLinesOf r more) (sym same) are);
      before = v;
      view = read.view;
      stops = stops;
    }

-- the next line isn't shown
pub stopped : {W : Type 0} (first left : Option (List ℕ)) (u v w : LogView (BackendState W) AnsiError) (fault : FollowError)
    → IfSome first (λ text. (size : Size) → IsViewOf shown_by size [] u → HasRead size text left v)
    → IfSome left (λ text. StopsAtNext text v w fault)
    → IfSome first (λ text. (size : Size) → IsViewOf shown_by size [] u → StopsText size text w fault)
stopped None left u v w fault read stops = tt
stopped (Some text) None u v w fault read stops = λ size view. absurd (none-some (read size view).rest_is)
stopped (Some text) (Some rest) u v w fault read stops = λ size view. stops-after size text rest v w fault (read size view)
    (after-some rest v w fault stops)

-- so many lines were read as can be counted
pub overrun : {W : Type 0} (first left : Option (List ℕ)) (u v : LogView (BackendState W) AnsiError)
    → IfSome first (λ text. (size : Size) → IsViewOf shown_by size [] u → HasRead size text left v)
    → IfSome first (λ text. (size : Size) → IsViewOf shown_by size [] u → StopsText size text v Lines)
overrun None left u v read = tt
overrun (Some text) None u v read = λ size view. absurd (none-some (read size view).rest_is)
overrun (Some text) (Some rest) u v read = λ size view. stops-after size text rest v v Lines (read size view) refl
