use Rattle.std.proofs.Common.{◌≡◌, true, false, ap, sym, ◌∙◌, refl}
use Rattle.files.specs.Sorting.{is_listed}
use Rattle.files.proofs.SortLemmas.{adds-row, adds-none}
use Rattle.files.proofs.sorting.add.Goals as goal

pub returns-in_ok-push : goal.returns-in_ok-push
returns-in_ok-push c =
    let is : is_listed c.args.has_hidden c.args.info.name ≡ true =
    ap (is_listed c.args.has_hidden) (sym c.as_str.ensures) ∙ sym c.is_listed.ensures ∙ c.if-is_listed.true in
    adds-row c.args.has_hidden c.args.info c.in_ok-row.row c.args.rows.now.items c.push.new.self.items is c.in_ok-row.ensures
    c.in_ok-push.ensures.items

pub returns-else-is_listed : goal.returns-else-is_listed
returns-else-is_listed c =
    let is : is_listed c.args.has_hidden c.args.info.name ≡ false =
    ap (is_listed c.args.has_hidden) (sym c.as_str.ensures) ∙ sym c.is_listed.ensures ∙ c.if-is_listed.false in
    adds-none c.args.has_hidden c.args.info c.args.rows.now.items c.args.rows.now.items is refl
