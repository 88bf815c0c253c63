use Rattle.std.proofs.Common.{refl}
use Rattle.widget_scroll_view.proofs.WindowLemmas.{shows-ok, light-window}
use Rattle.widget_scroll_view.proofs.scroll_view.ScrollView.show_content.Goals as goal

pub returns-clause-ok : goal.returns-clause-ok
returns-clause-ok c =
    shows-ok c.args.self.now.content c.args.offset c.args.view c.shown_area-area.ensures.edges c.requires.across c.requires.down
    c.change_area.result
    (record { content = record { ref_ptr = c.args.self.ref_ptr; now = c.args.self.now.content }; offset = c.args.offset; area = c.shown_area-area.result })
    c.args.buf.now c.change_area.new.buf refl refl c.shown_area-area.ensures.value c.change_area.ensures.ok

pub returns-clause-short : goal.returns-clause-short
returns-clause-short c = λ short.
    c.change_area.ensures.short
    (light-window c.args.self.now.content c.args.offset c.args.view c.shown_area-area.ensures.edges c.requires.across c.requires.down
    (record { content = record { ref_ptr = c.args.self.ref_ptr; now = c.args.self.now.content }; offset = c.args.offset; area = c.shown_area-area.result })
    c.args.buf.now refl refl c.shown_area-area.ensures.value short)
