use Rattle.std.proofs.Common.{ap, sym, ◌∙◌}
use Rattle.ratatui_ansi.specs.declared.tracker.Tracker.{Tracker}
use Rattle.ratatui_ansi.proofs.TrackLemmas.{drawn-collected}
use Rattle.ratatui_ansi.proofs.tracker.Tracker.draw.Goals as goal

pub returns-clause-ok : goal.returns-clause-ok
returns-clause-ok g c =
    let k = c.args.self.now in
    let u = c.draft_as_told.new.self in
    let kept = c.draft_as_told.ensures.kept in
    let d = c.in_ok-cursor.ensures.ok in
    let taken : Tracker → Tracker = λ s. record s {
      cursor = c.in_ok-cursor.cursor;
      continuations = c.swap.new.x;
      draft = c.swap.new.y;
      written = c.in_ok-cursor.written;
    } in
    let was = ap (λ v. v.items) c.swap.ensures.y_after ∙ ap (λ (s : Tracker). s.continuations.items) kept.rest in
    let count = kept.draft_count ∙ c.requires.tracker.fits.draft_count ∙ sym c.requires.tracker.fits.count in (
      d.items,
      d.drained,
      drawn-collected k (taken u) c.in_ok-cursor.cursor c.in_ok-cursor.written u.draft.items c.requires.tracker
          (ap taken kept.rest) was (ap (λ v. v.items) c.swap.ensures.x_after) count d.drafts,
      d.sendable,
    )
