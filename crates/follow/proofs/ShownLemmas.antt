-- From a view of all lines to what each terminal shows that has read its bytes.
use Rattle.std.proofs.Common.{◌≡◌, ℕ, ◌<◌, List, [], ◌++◌, map, Option, None, Some, IsSome, IfSome, sym, ap, subst, ◌∙◌}
use Rattle.std.proofs.Common.{append_assoc}
use Rattle.std.proofs.lemmas.Bool.{false≢true}
use Rattle.std.specs.Io.KnownBytes.{Appends}
use Rattle.ratatui_core.specs.{Layout.Size, Backend.Screen}
use Rattle.ansi_model.specs.{Emulator.Emulator, Emulator.rested, Emulator.blank_terminal, Sequences.feed, Sends.Performs}
use Rattle.ansi_model.specs.{Screens.IsIdle, Beginnings.IsAsFound, Beginnings.anew, Endings.left_below, Endings.IsLeftBelow}
use Rattle.ansi_model.proofs.{CallLemmas.fresh-left, ReadLemmas.feed-append, EndLemmas.left-in-order}
use Rattle.ratatui_ansi.specs.{Backend.BackendState, Backend.shown_by, Headline.IsReadBy, Headline.IsReadByAll}
use Rattle.logview.specs.{Engine.ShowsLog, Views.IsViewOf, declared.view.LogView.LogView}
use Rattle.logview.proofs.LogLemmas.{shows_log}
use Rattle.follow.specs.{Lines.shown_line, Shown.FollowsText}
use Rattle.follow.specs.Inner.{ShowsInput}

-- what a writer held is known, so what it holds then is
held : (before mid after : Option (List ℕ)) (sent last : List ℕ) → IsSome before → Appends before mid sent
    → Appends mid after last → (first : List ℕ) × (after ≡ Some (first ++ (sent ++ last)))
held None mid after sent last some one two = absurd (false≢true some)
held (Some first) None after sent last some one two = absurd one
held (Some first) (Some bytes) None sent last some one two = absurd two
held (Some first) (Some bytes) (Some all) sent last some one two = (
  first,
  ap Some (two ∙ ap (λ xs. xs ++ last) one
      ∙ append_assoc first sent last),
)

-- the size of what a backend shows is its own
own-width : {W : Type 0} (b : BackendState W) → IsReadByAll b → (shown_by b).width ≡ b.size.width
own-width b read =
    let found = read (blank_terminal b.size.width b.size.height) (fresh-left b.size.width b.size.height) in
    sym (ap (λ (s : Screen). s.width) found.screen) ∙ found.ready.rest.width

own-height : {W : Type 0} (b : BackendState W) → IsReadByAll b → (shown_by b).height ≡ b.size.height
own-height b read =
    let found = read (blank_terminal b.size.width b.size.height) (fresh-left b.size.width b.size.height) in
    sym (ap (λ (s : Screen). s.height) found.screen) ∙ found.ready.rest.height

-- all lines were shown, and then the terminal was given back
pub shown-text : {W E : Type 0} (size : Size) (text : List ℕ) (v : LogView (BackendState W) E)
    (contents taken : Option (List ℕ)) (last : List ℕ) → ShowsInput size text v → IsReadByAll v.terminal.backend
    → 0 < size.width → 0 < size.height → ((old : List ℕ) → Performs old (old ++ last) (left_below size.height))
    → IsSome v.terminal.backend.before
    → Appends v.terminal.backend.before contents v.terminal.backend.sent → Appends contents taken last
    → FollowsText size text taken
shown-text size text v contents taken last input read wide high leaves some tied more =
    let b = v.terminal.backend in
    let log : ShowsLog size (map shown_line input.lines) (shown_by b) = shows_log shown_by size
    (map shown_line input.lines) v input.view in
    let width : b.size.width ≡ size.width = sym (own-width b read) ∙ ap (λ (s : Size). s.width) log.size_is in
    let height : b.size.height ≡ size.height = sym (own-height b read) ∙ ap (λ (s : Size). s.height) log.size_is in
    let reads : (t : Emulator) → IsAsFound size.width size.height t → IsReadBy b t = λ t found.
    read t (subst (λ w. IsAsFound w b.size.height t) (sym width) (subst (λ h. IsAsFound size.width h t) (sym height) found)) in
    let ready : (t : Emulator) → IsAsFound size.width size.height t
    → IsIdle size.width size.height (rested (feed b.sent (anew t))) = λ t found.
    subst (λ w. IsIdle w size.height (rested (feed b.sent (anew t)))) width (subst (λ h. IsIdle b.size.width h (rested
    (feed b.sent (anew t)))) height (reads t found).ready) in
    let does = leaves b.sent in
    let at = held b.before contents taken b.sent last some tied more in
    record {
      lines = input.lines;
      cut = input.cut;
      sent = b.sent;
      shown = λ t found. record { screen = shown_by b; shows = log; is = (reads t found).screen };
      all = b.sent ++ last;
      left = λ t found.
          let u : Emulator = feed b.sent (anew t) in
          let e : feed (b.sent ++ last) (anew t) ≡ left_below size.height (rested u) = ap (λ bytes. feed bytes (anew t)) does.appended
          ∙ feed-append b.sent does.bytes (anew t) ∙ does.read u (reads t found).phase in
          subst (IsLeftBelow size.width size.height (rested u)) (sym e) (left-in-order size.width size.height wide high
          (rested u) (ready t found));
      before = at.0;
      tied = at.1;
    }

-- by what was read
pub shown-if : {W E : Type 0} (first now : Option (List ℕ)) (size : Size) (v w : LogView (BackendState W) E)
    (contents taken : Option (List ℕ)) (last : List ℕ) → IsViewOf shown_by size [] v
    → IfSome first (λ text. (size : Size) → IsViewOf shown_by size [] v → (now ≡ Some []) × ShowsInput size text w)
    → IsReadByAll w.terminal.backend
    → 0 < size.width → 0 < size.height → ((old : List ℕ) → Performs old (old ++ last) (left_below size.height))
    → IsSome w.terminal.backend.before
    → Appends w.terminal.backend.before contents w.terminal.backend.sent → Appends contents taken last
    → IfSome first (λ text. FollowsText size text taken)
shown-if None now size v w contents taken last view all read wide high leaves some tied more = tt
shown-if (Some text) now size v w contents taken last view all read wide high leaves some tied more =
    shown-text size text w contents taken last (all size view).1 read wide high leaves some tied more
