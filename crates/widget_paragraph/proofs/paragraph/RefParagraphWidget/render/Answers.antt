use Rattle.ratatui_core.specs.{Layout.Rect, Buffer.BufferData, Buffer.IsSettledBuffer}
use Rattle.ratatui_core.proofs.WidgetLemmas.{holds_anyway}
use Rattle.widget_boxes.proofs.FrameLemmas.{frame-alone, frame-filled, frame-within, frame-own}
use Rattle.widget_boxes.proofs.InnerLemmas.{settled-frame}
use Rattle.widget_boxes.specs.Framed.{FramesInside}
use Rattle.widget_paragraph.specs.Paragraphs.{FillsText}
use Rattle.widget_paragraph.proofs.ParagraphLemmas.{framed-ready, paragraph-ok}
use Rattle.widget_paragraph.proofs.paragraph.RefParagraphWidget.render.Goals as goal

pub returns-in_default-clause-ok : goal.returns-in_default-clause-ok
returns-in_default-clause-ok c =
    let alone = rw c.in_default.is at c.in_ok-inner.ensures.inner in
    let F : Rect → BufferData → BufferData → Type 0 = λ r old new. IsSettledBuffer new in
    record {
      frame = frame-alone c.args.self.now.style c.args.self.now.block (λ _ _. FillsText c.args.self.now) tt c.args.area
          c.args.buf.now c.render_frame.new.buf c.render_frame.ensures.within alone;
      settled = λ edges plain box. settled-frame c.args.self.now.style c.args.self.now.block F c.args.area
          c.args.buf.now c.render_frame.new.buf edges plain box (λ r s t some inside fit cells settled. settled)
          (frame-alone c.args.self.now.style c.args.self.now.block (λ _ _. F) tt c.args.area c.args.buf.now
          c.render_frame.new.buf c.render_frame.ensures.within alone);
    }

pub render_text-requires-clause-inside : goal.render_text-requires-clause-inside
render_text-requires-clause-inside c =
    frame-own c.args.self.now.style c.args.self.now.block c.args.area c.in-Some.inner c.args.buf.now c.render_frame.new.buf
    c.render_frame.new.buf (rw c.in-Some.is at c.in_ok-inner.ensures.inner)

pub returns-clause-ok : goal.returns-clause-ok
returns-clause-ok c =
    let inside : FramesInside c.args.self.now.style c.args.self.now.block c.args.area c.args.buf.now c.render_frame.new.buf
    c.in-Some.inner = rw c.in-Some.is at c.in_ok-inner.ensures.inner in
    paragraph-ok c.render_text.result c.args.self.now c.args.area c.args.buf.now c.render_text.new.buf
    (frame-filled c.args.self.now.style c.args.self.now.block c.args.area c.in-Some.inner c.args.buf.now c.render_frame.new.buf
    c.render_text.new.buf inside (λ _ _. FillsText c.args.self.now) tt tt c.render_text.result c.render_text.ensures.within
    c.render_text.ensures.ok)
    (λ edges plain box. c.render_text.ensures.settled
    (framed-ready c.args.self.now.style c.args.self.now.block inside.part c.args.buf.now c.render_frame.new.buf
    inside.framed edges plain box c.in-Some.inner.y))

pub returns-clause-err : goal.returns-clause-err
returns-clause-err c =
    holds_anyway c.render_text.result
    (frame-within c.args.self.now.style c.args.self.now.block c.args.area c.in-Some.inner c.args.buf.now c.render_frame.new.buf
    c.render_text.new.buf (rw c.in-Some.is at c.in_ok-inner.ensures.inner) c.render_text.ensures.within)

pub returns-clause-left : goal.returns-clause-left
returns-clause-left c = holds_anyway c.render_text.result tt

pub returns-clause-short : goal.returns-clause-short
returns-clause-short c = λ short. c.render_text.ensures.short short.cut short.text
