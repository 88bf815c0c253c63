use Rattle.std.proofs.Common.{rules, ◌≡◌, string_bytes, ℕ, ◌+◌, length, true, false, refl, zero, suc, subst, sym, ap, inl, inr}
use Rattle.text_area.specs.Areas.{AreaData, area_text, selection, typing_over}
use Rattle.text_area.specs.Finding.{IsFirstFrom, IsNowhereFrom, part_selected}
use Rattle.editor.specs.Offers.{ReplacesMany, ReplacesOne, ReplacesAll}
use Rattle.editor.proofs.editor.Editor.replace_all.Goals as goal

pub loop-init : goal.loop-init
loop-init c = ((0, refl), refl, refl, refl, refl)

pub returns-then-is_err-clause-area : goal.returns-then-is_err-clause-area
returns-then-is_err-clause-area c =
    let same : c.insert_str.new.self ≡ c.loop.self.area = search rules in
    (c.loop.invariant.0.0, c.loop.self.area, c.loop.invariant.0.1, inr same)

pub returns-then-is_err-clause-mode : goal.returns-then-is_err-clause-mode
returns-then-is_err-clause-mode c = c.loop.invariant.4

pub returns-then-is_err-clause-saved : goal.returns-then-is_err-clause-saved
returns-then-is_err-clause-saved c = c.loop.invariant.3

pub returns-then-not-select_next-clause-area : goal.returns-then-not-select_next-clause-area
returns-then-not-select_next-clause-area c =
    let pattern = string_bytes c.args.self.now.pattern in
    let typed : c.insert_str.new.self ≡ typing_over (string_bytes c.args.self.now.piece) c.loop.self.area =
    search rules in
    let same : c.select_next.new.self ≡ c.insert_str.new.self = search rules in
    let missing : IsNowhereFrom pattern (area_text c.insert_str.new.self) (selection c.insert_str.new.self).1 =
    search rules in (
      c.loop.invariant.0.0,
      c.loop.self.area,
      c.loop.invariant.0.1,
      inl record {
        area = subst (λ (a : AreaData). a ≡ typing_over (string_bytes c.args.self.now.piece) c.loop.self.area)
            (sym same) typed;
        none = subst (λ (a : AreaData). IsNowhereFrom pattern (area_text a) (selection a).1) (sym same) missing;
      },
    )

pub returns-then-not-select_next-clause-mode : goal.returns-then-not-select_next-clause-mode
returns-then-not-select_next-clause-mode c = c.loop.invariant.4

pub returns-then-not-select_next-clause-saved : goal.returns-then-not-select_next-clause-saved
returns-then-not-select_next-clause-saved c = c.loop.invariant.3

pub loop-preserved : goal.loop-preserved
loop-preserved c =
    let pattern = string_bytes c.args.self.now.pattern in
    let old : AreaData = c.insert_str.new.self in
    let new : AreaData = c.select_next.new.self in
    let typed : old ≡ typing_over (string_bytes c.args.self.now.piece) c.loop.self.area = search rules in
    let found : (at : ℕ) × IsFirstFrom pattern (area_text old) (selection old).1 at
    × (new ≡ part_selected at (at + length pattern) old) = search rules in
    let one : ReplacesOne pattern (string_bytes c.args.self.now.piece) c.loop.self.area new =
    subst (λ (a : AreaData). (at : ℕ) × IsFirstFrom pattern (area_text a) (selection a).1 at
    × (new ≡ part_selected at (at + length pattern) a)) typed found in (
      (suc c.loop.invariant.0.0, (c.loop.self.area, c.loop.invariant.0.1, one)),
      c.loop.invariant.1,
      c.loop.invariant.2,
      c.loop.invariant.3,
      c.loop.invariant.4,
    )

pub returns-clause-area : goal.returns-clause-area
returns-clause-area c = (c.loop.invariant.0.0, c.loop.self.area, c.loop.invariant.0.1, inr refl)

pub returns-clause-mode : goal.returns-clause-mode
returns-clause-mode c = c.loop.invariant.4

pub returns-clause-saved : goal.returns-clause-saved
returns-clause-saved c = c.loop.invariant.3
