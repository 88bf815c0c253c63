use Rattle.std.proofs.Common.{◌≡◌, ◌≤◌, length, ap, ◌∙◌, rules, false, true}
use Rattle.text_area.specs.Drafts.{draft_text, part_replaced}
use Rattle.text_area.specs.Journals.{journal_of, changed, changes_nothing, goes_on}
use Rattle.text_area.proofs.JournalLemmas.{undoes-take, kept-few, went-on}
use Rattle.text_area.proofs.JournalLemmas.{undoes-on}
use Rattle.text_area.proofs.journal.Journal.change.Goals as goal

pub invariant_of-self-2 : goal.invariant_of-self-2
invariant_of-self-2 c = (
  rw c.keep_first.ensures (undoes-take _ _ _ (c.in_ok-record.ensures.undoes c.self.invariant.0)),
  rw c.clear.ensures tt,
  kept-few _ _ _ _ c.keep_first.ensures c.clear.ensures,
)

pub invariant_of-self-then-goes_on : goal.invariant_of-self-then-goes_on
invariant_of-self-then-goes_on c =
    let j = c.self.inside in
    let on : goes_on c.args.from c.args.to c.args.piece.now j.past j.future ≡ true = search rules in
    let is : c.replace.new.self ≡ part_replaced c.args.from c.args.to c.args.piece.now j.draft = search rules in
    let le : c.args.from ≤ length (draft_text j.draft) = search rules in
    undoes-on (journal_of j.draft j.past j.future j.most) c.replace.new.self c.lengthen.new.self c.args.from
    c.args.to c.at.result c.args.piece.now c.replace.ensures.utf8 c.utf8.piece on le is c.at.ensures.value c.lengthen.ensures
    c.self.invariant.0 c.self.invariant.2

pub returns-then-goes_on-clause-ok : goal.returns-then-goes_on-clause-ok
returns-then-goes_on-clause-ok c =
    let j = c.self.inside in
    let some : changes_nothing c.args.from c.args.to c.args.piece.now ≡ false = search rules in
    let on : goes_on c.args.from c.args.to c.args.piece.now j.past j.future ≡ true = search rules in
    let is : c.replace.new.self ≡ part_replaced c.args.from c.args.to c.args.piece.now j.draft = search rules in
    let le : c.args.from ≤ length (draft_text j.draft) = search rules in
    went-on (journal_of j.draft j.past j.future j.most) c.replace.new.self c.lengthen.new.self c.args.from
    c.args.to c.at.result c.args.piece.now some on le is c.at.ensures.value c.lengthen.ensures
    ∙ ap (changed c.args.from c.args.to c.args.piece.now) c.self.view_is
