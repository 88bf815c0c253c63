use Rattle.std.proofs.Common.{rules, refl, ℕ, List, ◌≡◌, sym, ap, ◌∙◌, subst, slice_range, string_bytes, take}
use Rattle.std.proofs.lemmas.Str.{IsUtf8-string_bytes}
use Rattle.std.specs.Str.{IsUtf8, IsCharBoundary}
use Rattle.text_area.specs.{Lines.feeds, Inner.IsKept}
use Rattle.text_area.specs.Drafts.{draft_text}
use Rattle.text_area.proofs.DraftLemmas.{text-at, boundary-piece}
use Rattle.text_area.proofs.KeptLemmas.{replaced-row, replaced-last, gone-le}
use Rattle.text_area.proofs.draft.Draft.replace.Goals as goal

pub returns-in_err-replace_range-clause-utf8 : goal.returns-in_err-replace_range-clause-utf8
returns-in_err-replace_range-clause-utf8 c =
    subst (λ w. IsUtf8 (draft_text w)) c.self.view_is
    (subst IsUtf8 (sym (text-at _ c.self.inside.at)) (IsUtf8-string_bytes c.self.inside.text))

pub returns-clause-utf8 : goal.returns-clause-utf8
returns-clause-utf8 c =
    subst (λ w. IsUtf8 (draft_text w)) c.self.view_is
    (subst IsUtf8 (sym (text-at _ c.self.inside.at)) (IsUtf8-string_bytes c.self.inside.text))

pub overflow_sub-self : goal.overflow_sub-self
overflow_sub-self c =
    let text : List ℕ = string_bytes c.self.inside.text in
    let part : c.feeds-gone.result ≡ feeds (slice_range text c.args.from c.args.to) = search rules in
    gone-le text c.args.from c.args.to c.self.inside.last c.feeds-gone.result c.requires.order c.self.invariant.2 part

pub invariant_of-self-2 : goal.invariant_of-self-2
invariant_of-self-2 c =
    let text : List ℕ = string_bytes c.self.inside.text in
    let whole : draft_text c.args.self.now ≡ text = ap draft_text (sym c.self.view_is) ∙ text-at _ c.self.inside.at in
    let start : IsCharBoundary text c.args.from = subst (λ s. IsCharBoundary s c.args.from) whole c.requires.start in
    let stop : IsCharBoundary text c.args.to = subst (λ s. IsCharBoundary s c.args.to) whole c.requires.end in
    let part : c.feeds-gone.result ≡ feeds (slice_range text c.args.from c.args.to) = search rules in
    let front = c.row_of-row.ensures ∙ ap (λ s. feeds (take c.args.from s)) whole in
    let is = c.in_ok-replace_range.ensures.bytes in
    let kept = c.line_after-self-inside.ensures.kept text c.self.invariant.3 stop.0 (c.as_str-text.ensures.value ∙ is) in (
      boundary-piece text _ c.args.piece.now c.args.from c.args.to _ (IsUtf8-string_bytes c.self.inside.text) start stop
          is refl,
      replaced-row text _ c.args.piece.now c.args.from c.args.to c.row_of-row.result c.feeds-more.result start.0 is
          front c.feeds-more.ensures.value,
      replaced-last text _ c.args.piece.now c.args.from c.args.to c.self.inside.last c.feeds-gone.result
          c.feeds-more.result c.requires.order stop.0 is c.self.invariant.2 part c.feeds-more.ensures.value,
      subst (λ t. IsKept t c.line_after-self-inside.result) c.as_str-text.ensures.value kept,
      c.line_after-self-inside.ensures.start,
      c.line_after-self-inside.ensures.end,
    )
