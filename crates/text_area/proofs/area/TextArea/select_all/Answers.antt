use Rattle.std.proofs.Common.{◌≡◌, ◌∙◌, sym, ap, subst, length}
use Rattle.std.proofs.lemmas.Str.{IsCharBoundary-start}
use Rattle.std.specs.Str.{IsUtf8}
use Rattle.text_area.specs.Drafts.{draft_text}
use Rattle.text_area.specs.Journals.{JournalData}
use Rattle.text_area.specs.Areas.{AreaData, area_text}
use Rattle.text_area.proofs.DraftLemmas.{text-at}
use Rattle.text_area.proofs.area.TextArea.select_all.Goals as goal

pub invariant_of-self : goal.invariant_of-self
invariant_of-self c =
    let stays : draft_text c.go.new.self.text ≡ draft_text c.self.inside.journal.text =
    ap (λ (j : JournalData). draft_text j.text) c.go.ensures
    ∙ text-at (draft_text c.self.inside.journal.text) (length c.text-end.result.now) in
    let whole : c.text-end.result.now ≡ draft_text c.self.inside.journal.text =
    c.text-end.ensures ∙ ap (λ (a : AreaData). area_text a) (sym c.self.view_is) in
    IsCharBoundary-start _ (subst IsUtf8 (whole ∙ sym stays) c.text-end.utf8)
