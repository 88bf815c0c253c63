use Rattle.std.proofs.Common.{◌≡◌, length, subst, rules}
use Rattle.std.specs.Str.{IsUtf8, IsCharBoundary}
use Rattle.text_area.specs.Drafts.{draft_text}
use Rattle.text_area.specs.Journals.{step_for}
use Rattle.text_area.proofs.JournalLemmas.{undoes-inverse}
use Rattle.text_area.proofs.journal.inverse.Goals as goal

pub returns-clause-undoes : goal.returns-clause-undoes
returns-clause-undoes c = λ steps can.
    let is : c.new.result ≡ step_for c.args.step.now.at c.args.step.now.to (length c.args.step.now.was)
    c.args.draft.now = search rules in
    undoes-inverse c.args.step.now c.new.result steps c.args.draft.now is
    (subst IsUtf8 c.text-text.ensures c.text-text.utf8)
    (subst (IsCharBoundary (draft_text c.args.draft.now)) c.at.ensures.value c.at.ensures.boundary)
    c.requires can
