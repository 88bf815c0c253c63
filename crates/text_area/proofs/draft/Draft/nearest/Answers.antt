use Rattle.std.proofs.Common.{sym, subst}
use Rattle.std.proofs.lemmas.Str.{IsCharBoundary-start, IsUtf8-string_bytes}
use Rattle.std.specs.Str.{IsCharBoundary}
use Rattle.text_area.specs.Drafts.{draft_text}
use Rattle.text_area.proofs.DraftLemmas.{text-at}
use Rattle.text_area.proofs.draft.Draft.nearest.Goals as goal

pub returns-then-at-far-clause-boundary : goal.returns-then-at-far-clause-boundary
returns-then-at-far-clause-boundary c =
    subst (λ w. IsCharBoundary (draft_text w) 0) c.self.view_is (subst (λ s. IsCharBoundary s 0)
    (sym (text-at _ c.self.inside.at)) (IsCharBoundary-start _ (IsUtf8-string_bytes c.self.inside.text)))
