-- A text of more lines than a screen has rows: what is drawn or inserted of it.
use Rattle.std.proofs.Common.{◌≡◌, ℕ, ◌-◌, ◌<◌, ◌≤◌, min, List, [], length, take, get_or-take, length-take}
use Rattle.std.proofs.Common.{refl, sym, ap, ◌∙◌, arith, map, inl, inr}
use Rattle.std.proofs.lemmas.{Grind.common_steps, Bool.cases_lt, List.take_all, List.take-map, List.length-map}
use Rattle.rtui_geometry.specs.{declared.rect.Rect.Rect, Rect.intersected}
use Rattle.rtui_cell.specs.declared.cell.Cell.{Cell}
use Rattle.rtui_text.specs.Text.{TextData, line_of, raw_line, text_of}
use Rattle.rtui_buffer.specs.BufferData.{BufferData}
use Rattle.rtui_backend.specs.declared.test.TestBackend.{TestBackend}
use Rattle.rtui_terminal.specs.TerminalData.{TerminalData}
use Rattle.rtui_widgets.specs.Rendering.{text_line, text_row}
use Rattle.screenplay.specs.Run.{View, IsFrame, HasUnsettled, IsCauseOfStep, row_count}
use Rattle.screenplay.specs.{Playing.Plays, Inner.front_of, declared.scene.Stage.Stage}
use Rattle.screenplay.specs.{declared.scene.PlayCause.PlayCause}
use Rattle.screenplay.specs.declared.scene.PlayCause.TheVariants.{Memory, Unsettled}
use Rattle.screenplay.specs.declared.scene.Step.TheVariants.{Draw, Insert}
use Rattle.rtui_geometry.specs.declared.size.Size.{Size}
use Rattle.std.proofs.Common.{Option}

count-whole : {A : Type 0} (xs : List A) (n : ℕ) → n ≡ min (length xs) 65535 → take n xs ≡ take 65535 xs
count-whole xs n is = elim (cases_lt 65535 (length xs)) [
  | inl more ↦ let all : n ≡ 65535 = grind (arith, common_steps) in ap (λ k. take k xs) all
  | inr few ↦ take_all n xs (grind (arith, common_steps)) ∙ sym (take_all 65535 xs few)
]

-- the lines that a text is made of, after the last one
pub front-whole : (items : List (List ℕ)) (count index : ℕ) → count ≡ min (length items) 65535
    → length (take count items) ≤ index
    → text_of (map raw_line (take index (take count items))) ≡ front_of (text_of (map raw_line items))
front-whole items count index is past =
    ap text_of (ap (map raw_line) (take_all index (take count items) past) ∙ sym (take-map raw_line count items)
    ∙ count-whole (map raw_line items) count (is ∙ ap (λ n. min n 65535) (sym (length-map items raw_line))))

rows-within : (a b : Rect) → (intersected a b).height ≤ a.height
rows-within a b = grind (arith, common_steps)

module _ (text : TextData) where
  row-front : (k : ℕ) (row : List Cell) → k < 65535 → text_row (front_of text) k row ≡ text_row text k row
  row-front k row low =
      let same : text_line (front_of text) k ≡ text_line text k = get_or-take 65535 text.lines k (line_of []) low in
      rw same refl

  count-front : row_count (front_of text) ≡ row_count text
  count-front = let n = length-take 65535 text.lines in grind (arith, common_steps)

  pub IsFrame-front : (area : Rect) (puts : List (ℕ × ℕ × ℕ)) (frame : BufferData) → IsFrame area (front_of text) puts frame
      → IsFrame area text puts frame
  IsFrame-front area puts frame made = record {
    edges = made.edges;
    blank = made.blank;
    emptied = made.emptied;
    rendered = made.rendered;
    renders = record {
      within = made.renders.within;
      rows = λ k inside. made.renders.rows k inside ∙ row-front k _
          (omega (arith, inside, rows-within area made.blank.area, made.edges.bottom));
      marks = made.renders.marks;
    };
    painted = made.painted;
  }

  HasUnsettled-front : (area : Rect) (puts : List (ℕ × ℕ × ℕ)) → HasUnsettled area (front_of text) puts
      → HasUnsettled area text puts
  HasUnsettled-front area puts has = record {
    frame = has.frame;
    made = IsFrame-front area puts has.frame has.made;
    unsettled = has.unsettled;
  }

  module _ (stage : Stage) (s t : TerminalData TestBackend) where
    pub Plays-draw-front : (given : Option Size) (puts : List (ℕ × ℕ × ℕ)) → Plays stage (Draw given (front_of text) puts) s t
        → Plays stage (Draw given text puts) s t
    Plays-draw-front given puts plays = let shows = plays.after.shows in record {
      playing = plays.playing;
      after = record {
        size = plays.after.size;
        shows = record {
          frame = shows.frame;
          made = IsFrame-front _ puts shows.frame shows.made;
          settled = shows.settled;
          shown = shows.shown;
        };
        same = plays.after.same;
        other = plays.after.other;
      };
    }

    pub Plays-insert-front : Plays stage (Insert (front_of text)) s t → Plays stage (Insert text) s t
    Plays-insert-front plays = record {
      playing = plays.playing;
      after = (
        λ inline. let is = plays.after.0 inline in record {
          size = is.size;
          viewport = rw count-front at is.viewport;
          frame = is.frame;
          made = IsFrame-front _ [] is.frame (rw count-front at is.made);
          settled = is.settled;
          above = is.above;
          shown = is.shown;
          none = is.none;
        },
        plays.after.1,
      );
    }

  module _ (stage : Stage) (s : View) where
    pub IsCauseOfStep-draw-front : (given : Option Size) (puts : List (ℕ × ℕ × ℕ)) (cause : PlayCause)
        → IsCauseOfStep stage (Draw given (front_of text) puts) s cause → IsCauseOfStep stage (Draw given text puts) s cause
    IsCauseOfStep-draw-front given puts Memory why = tt
    IsCauseOfStep-draw-front given puts (Unsettled area) why = (why.0, HasUnsettled-front area puts why.1)

    pub IsCauseOfStep-insert-front : (cause : PlayCause) → IsCauseOfStep stage (Insert (front_of text)) s cause
        → IsCauseOfStep stage (Insert text) s cause
    IsCauseOfStep-insert-front Memory why = tt
    IsCauseOfStep-insert-front (Unsettled area) why = (why.0, why.1, HasUnsettled-front _ [] (rw count-front at why.2))
