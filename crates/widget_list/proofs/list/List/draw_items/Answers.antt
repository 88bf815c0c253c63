use Rattle.std.proofs.Common.{◌≡◌, ◌∙◌, refl, sym, subst, arith, true, false}
use Rattle.ratatui_core.specs.{Widgets.ChangesWithin}
use Rattle.ratatui_core.proofs.{BufferLemmas.within-same, BufferLemmas.within-wider, WidgetLemmas.within-then}
use Rattle.rtui_drawing.specs.Cuts.{cut_from}
use Rattle.rtui_drawing.proofs.DrawingLemmas.{cut-inside}
use Rattle.widget_list.specs.Items.{item_cut, IsShortItem}
use Rattle.widget_list.proofs.{WindowLemmas.rows-next}
use Rattle.widget_list.proofs.ItemLemmas.{item-height, item-fits, left-first, left-next, left-none, selected-by}
use Rattle.widget_list.proofs.list.List.draw_items.Goals as goal

pub loop-k-init : goal.loop-k-init
loop-k-init c = record {
  used = omega arith;
  within = within-same c.args.inner c.args.buf.now;
  rest = rw (← left-first c.args.self.now.items.items c.args.inner.height c.args.offset c.args.count c.requires.items c.requires.fits)
      (λ new is. is);
}

pub overflow_cast-rows : goal.overflow_cast-rows
overflow_cast-rows c =
    let fit = item-fits c.args.self.now.items.items c.args.inner.height c.args.offset c.args.count c.requires.items c.requires.fits c.loop-k.k
    c.loop-k.used c.index-items-k.result (omega arith) (rw c.as_slice-items.ensures.value at c.index-items-k.is)
    c.loop-k.invariant.used in
    omega (arith, c.height-rows.ensures)

pub overflow_add-used : goal.overflow_add-used
overflow_add-used c =
    let fit = item-fits c.args.self.now.items.items c.args.inner.height c.args.offset c.args.count c.requires.items c.requires.fits c.loop-k.k
    c.loop-k.used c.index-items-k.result (omega arith) (rw c.as_slice-items.ensures.value at c.index-items-k.is)
    c.loop-k.invariant.used in
    omega (arith, c.height-rows.ensures)

pub draw_item-requires : goal.draw_item-requires
draw_item-requires c =
    let fit = item-fits c.args.self.now.items.items c.args.inner.height c.args.offset c.args.count c.requires.items c.requires.fits c.loop-k.k
    c.loop-k.used c.index-items-k.result (omega arith) (rw c.as_slice-items.ensures.value at c.index-items-k.is)
    c.loop-k.invariant.used in
    rw (c.of-part.ensures, c.item_cut.ensures, c.height-rows.ensures) (item-height c.args.self.now.direction c.args.inner c.loop-k.used _ fit)

-- what an item changes lies in the part, and so in the area
pub returns-in_err-draw_item-clause-within : goal.returns-in_err-draw_item-clause-within
returns-in_err-draw_item-clause-within c =
    let cut = item_cut c.args.self.now.direction c.args.inner c.loop-k.used c.height-rows.result in
    let here : ChangesWithin (cut_from cut c.args.inner) c.loop-k.buf c.draw_item.new.buf =
    rw (c.of-part.ensures, c.item_cut.ensures) at c.in_err-draw_item.ensures.within in
    within-then c.args.inner c.args.buf.now c.loop-k.buf c.draw_item.new.buf c.loop-k.invariant.within
    (within-wider (cut_from cut c.args.inner) c.args.inner c.loop-k.buf c.draw_item.new.buf (cut-inside cut c.args.inner) here)

pub returns-in_err-draw_item-clause-short : goal.returns-in_err-draw_item-clause-short
returns-in_err-draw_item-clause-short c = λ short.
    let is = rw c.as_slice-items.ensures.value at c.index-items-k.is in
    let item : IsShortItem c.index-items-k.result = subst IsShortItem (sym is)
    (short.items c.loop-k.k c.index-items-k.result (let inside = c.requires.items in omega arith)) in
    let no : false ≡ true = c.in_err-draw_item.ensures.short short.symbol item in
    absurd (cc)

pub loop-k-preserved : goal.loop-k-preserved
loop-k-preserved c =
    let is = rw c.as_slice-items.ensures.value at c.index-items-k.is in
    let next = left-next c.args.self.now.items.items c.args.inner.height c.args.offset c.args.count c.requires.items c.requires.fits c.loop-k.k
    c.loop-k.used c.index-items-k.result (omega arith) is in
    let cut = item_cut c.args.self.now.direction c.args.inner c.loop-k.used c.height-rows.result in
    let selected = c.eq.ensures ∙ selected-by c.args.selected c.loop-k.k in
    let inside = c.requires.items in
    let more = rows-next c.args.self.now.items.items c.loop-k.k c.index-items-k.result (omega arith) is in
    let here : ChangesWithin (cut_from cut c.args.inner) c.loop-k.buf c.draw_item.new.buf =
    rw (c.of-part.ensures, c.item_cut.ensures) at c.in_ok-draw_item.ensures.within in
    record {
      used = omega (arith, more, c.height-rows.ensures);
      within = within-then c.args.inner c.args.buf.now c.loop-k.buf c.draw_item.new.buf c.loop-k.invariant.within
          (within-wider (cut_from cut c.args.inner) c.args.inner c.loop-k.buf c.draw_item.new.buf (cut-inside cut c.args.inner) here);
      rest = λ new others. c.loop-k.invariant.rest new (rw next (record {
        between = c.draw_item.new.buf;
        first = rw (c.of-part.ensures, c.item_cut.ensures, c.height-rows.ensures, c.columns_kept_free-mark.ensures, c.is_some.ensures, selected) at
            c.in_ok-draw_item.ensures.ok;
        second = rw c.height-rows.ensures at others;
      }));
    }

pub returns-clause-within : goal.returns-clause-within
returns-clause-within c = c.loop-k.invariant.within

pub returns-clause-ok : goal.returns-clause-ok
returns-clause-ok c =
    let none = left-none c.args.self.now.items.items c.args.inner.height c.args.offset c.args.count c.requires.items c.requires.fits c.loop-k.k
    (omega arith) in
    c.loop-k.invariant.rest c.loop-k.buf (rw none refl)
