-- Rows that come in above a viewport, one scroll and one drawing at a time.
use Rattle.std.proofs.Common.{◌≡◌, ℕ, ◌+◌, ◌-◌, ◌*◌, ◌<◌, ◌≤◌, List, [], refl, sym, ap, subst, ◌∙◌, arith, min, inl, inr}
use Rattle.std.proofs.Common.{append-nil, ◌++◌, ◌⊎◌}
use Rattle.rtui_geometry.specs.declared.rect.Rect.{Rect}
use Rattle.rtui_cell.specs.Look.{Look}
use Rattle.rtui_buffer.specs.{BufferData.BufferData, BufferData.IsEmptied, Shown.IsSettledBuffer}
use Rattle.rtui_backend.specs.Screen.{Screen, rows_above, ScrollsUp, ScrollsDown}
use Rattle.rtui_insert.specs.Rows.{IsBlankFor, IsBlankAt, DrawsRows, DrawsFirstRow, RowsFit, IsNarrowBuffer, nonempty_cells}
use Rattle.rtui_insert.specs.Rows.{WritesAtMost}
use Rattle.rtui_insert.specs.{Insertion.KeepsSizeAndVisibility, Insertion.AppendsPart, Scrolling.HasPushed, Scrolling.HasRaised}
use Rattle.rtui_insert.specs.Scrolling.{IsPushing, IsRaising, IsLowering}
use Rattle.rtui_insert.specs.{Scrolling.HasLowered, Scrolling.HasMadeRoom}
use Rattle.rtui_backend.proofs.RegionLemmas.{above_scrolled, blank_scrolled, below_scrolled, above_lowered, blank_lowered}
use Rattle.rtui_backend.proofs.RegionLemmas.{moved_lowered, below_lowered}
use Rattle.rtui_insert.proofs.ShownLemmas.{ShowsFirst, ShowsRows, above_grown, parts_join, rows_shown, blank_first, unknown_first}
use Rattle.rtui_insert.proofs.CountLemmas.{writes_rows, writes_nonempty, writes_then, writes_after, writes_before, nonempty_parts}
use Rattle.rtui_backend.proofs.ScrollLemmas.{above_same}

-- what holds whatever is answered
same_shape : (s : Screen) → KeepsSizeAndVisibility s s
same_shape s = record { width = refl; height = refl; visible = refl }

pub no_part : (s : BufferData) (i : ℕ) (rows : List (List Look)) → AppendsPart s i 0 rows rows
no_part s i rows = record {
  rows = [];
  appended = sym (append-nil rows);
  agree = record { count = refl; agree = λ b low. absurd (omega arith) };
}

-- an empty buffer that was emptied again
pub still_blank : {m : ℕ} {s old new : BufferData} → IsBlankFor m s old → IsEmptied old.area new → IsBlankFor m s new
still_blank {m} {s} {old} {new} is emptied = record {
  width = is.width ∙ ap (λ (r : Rect). r.width) (sym emptied.area);
  rows = subst (λ (r : Rect). m ≤ r.height) (sym emptied.area) is.rows;
  empty = subst (λ r. IsEmptied r new) (sym emptied.area) emptied;
}

-- nothing yet
pub pushed_none : (s : BufferData) (q : Screen) → HasPushed s 0 q q
pushed_none s q = record {
  shape = same_shape q;
  above = no_part s 0 (rows_above q 0);
  blank = λ more. absurd (omega arith);
  below = λ a b a_in b_in low. refl;
  few = λ narrow room. omega arith;
  most = λ room. omega arith;
}

pub raised_none : (s : BufferData) (i n d : ℕ) (q : Screen) → n ≡ 0 → HasRaised s i n d q q
raised_none s i n d q none =
    rw none (record {
      shape = same_shape q;
      above = no_part s i (rows_above q d);
      below = λ a b a_in b_in low. refl;
      few = λ narrow room. omega arith;
      most = λ room. omega arith;
    })

-- some rows were pushed off
pub still_pushing : (s : BufferData) (k : ℕ) (old new : Screen) → k ≤ s.area.height → HasPushed s k old new → IsPushing s old new
still_pushing s k old new inside pushed = record {
  count = k;
  inside = inside;
  shape = pushed.shape;
  above = pushed.above;
  below = pushed.below;
}

-- some rows came to those above
pub still_raising : (s : BufferData) (i n d : ℕ) (old new : Screen) → i + n ≤ s.area.height → HasRaised s i n d old new
    → IsRaising s i d old new
still_raising s i n d old new inside raised = record {
  count = n;
  inside = inside;
  room = 0;
  shape = raised.shape;
  above = let none : d - 0 ≡ d = omega arith in rw none raised.above;
  below = raised.below;
}

-- one more row put on the first row of the screen, and scrolled off
module _ (s : BufferData) (k : ℕ) (old cur mid : Screen) (before : HasPushed s k old cur) (fit : RowsFit s 1 0 old)
    (settled : IsSettledBuffer s) (inside : k + 1 ≤ s.area.height) where
  fit_now : RowsFit s 1 0 cur
  fit_now = record { width = fit.width ∙ sym before.shape.width; bottom = omega (arith, fit.bottom, before.shape.height) }

  -- over what the screen shows there
  on_first : (former : BufferData) → s.area.width ≡ former.area.width → ShowsFirst former 1 0 cur
      → DrawsRows former s k 1 0 cur mid → ShowsRows s k 1 0 cur mid
  on_first former wide first drew = rows_shown former s wide k 1 0 (omega arith) drew (record {
    fit = fit_now;
    inside = inside;
    settled = settled;
    shown = first;
  })

  -- before it is scrolled off
  pushing_shown : ShowsRows s k 1 0 cur mid → IsPushing s old mid
  pushing_shown shown = record {
    count = k;
    inside = omega (arith, inside);
    shape = record {
      width = shown.width ∙ before.shape.width;
      height = shown.height ∙ before.shape.height;
      visible = shown.visible ∙ before.shape.visible;
    };
    above = subst (AppendsPart s 0 k (rows_above old 0)) (ap (λ h. h ++ []) (sym shown.history)) before.above;
    below = λ a b a_in b_in low. shown.outside a b (inr (omega arith)) ∙ before.below a b a_in b_in low;
  }

  pushing_still : mid ≡ cur → IsPushing s old mid
  pushing_still same = subst (IsPushing s old) (sym same) (still_pushing s k old cur (omega (arith, inside)) before)

  -- the first one, whatever stood there
  pub pushing_first : k ≡ 0 → (mid ≡ cur) ⊎ DrawsFirstRow s cur mid → IsPushing s old mid
  pushing_first first (inl same) = pushing_still same
  pushing_first first (inr drew) = pushing_shown (on_first drew.former drew.width (unknown_first drew.former cur drew.unknown)
      (subst (λ j. DrawsRows drew.former s j 1 0 cur mid) (sym first) drew.drawn))

  blank_now : {m : ℕ} (blank : BufferData) → IsBlankFor m s blank → 0 < k → ShowsFirst blank 1 0 cur
  blank_now blank is more = blank_first blank 1 0 cur is.empty (sym is.width ∙ fit_now.width) (before.blank more)

  -- any further one, over the row that is blank then
  pub pushing_next : {m : ℕ} (blank : BufferData) → IsBlankFor m s blank → 0 < k
      → (mid ≡ cur) ⊎ DrawsRows blank s k 1 0 cur mid → IsPushing s old mid
  pushing_next blank is more (inl same) = pushing_still same
  pushing_next blank is more (inr drew) = pushing_shown (on_first blank is.width (blank_now blank is more) drew)

  -- and once it is
  module _ (new : Screen) (up : ScrollsUp 0 1 1 mid new) where
    pushed_over : (former : BufferData) → s.area.width ≡ former.area.width → ShowsFirst former 1 0 cur
        → DrawsRows former s k 1 0 cur mid
        → (n : ℕ) → min k 1 * s.area.width + n ≤ min (k + 1) 1 * s.area.width + nonempty_cells s k 1
        → (IsNarrowBuffer s → WritesAtMost n cur mid) → HasPushed s (k + 1) old new
    pushed_over former wide first drew n le few =
        let shown = on_first former wide first drew in
        let some : 1 ≤ mid.height = omega (arith, fit.bottom, before.shape.height, shown.height) in record {
          shape = record {
            width = up.width ∙ shown.width ∙ before.shape.width;
            height = up.height ∙ shown.height ∙ before.shape.height;
            visible = up.visible ∙ shown.visible ∙ before.shape.visible;
          };
          above =
              let gone : rows_above new 0 ≡ rows_above mid 1 = above_scrolled (omega arith) some up (omega arith) in
              subst (AppendsPart s 0 (k + 1) (rows_above old 0)) (sym gone) (parts_join before.above (above_grown shown fit_now)
              (omega arith) refl);
          blank = λ more. record {
            at = λ a b a_in b_in. blank_scrolled (omega arith) some up (omega arith) a b
                (omega (arith, up.width)) b_in;
          };
          below = λ a b a_in b_in low.
              below_scrolled (omega arith) some up a b (omega (arith, shown.width, before.shape.width))
              (omega (arith, shown.height, before.shape.height)) (omega arith)
              ∙ shown.outside a b (inr (omega arith)) ∙ before.below a b a_in b_in low;
          few = λ narrow.
              let parts : nonempty_cells s 0 (k + 1) ≡ nonempty_cells s 0 k + nonempty_cells s k 1 = nonempty_parts s 0 k 1
              ∙ ap (λ j. nonempty_cells s 0 k + nonempty_cells s j 1) (omega arith) in
              writes_before _ old mid new up.written (writes_then _ _ _ old cur mid (omega (arith, parts, le)) (before.few narrow)
              (few narrow));
          most = writes_before _ old mid new up.written (writes_then _ _ _ old cur mid (omega arith) before.most
              (subst (λ w. WritesAtMost (w * 1) cur mid) (sym wide) (writes_rows drew)));
        }

    pub pushed_first : k ≡ 0 → DrawsFirstRow s cur mid → HasPushed s (k + 1) old new
    pushed_first first drew =
        let none : min k 1 * s.area.width ≡ 0 * s.area.width = ap (λ j. min j 1 * s.area.width) first in
        let whole : min (k + 1) 1 * s.area.width ≡ 1 * s.area.width = ap (λ j. min (j + 1) 1 * s.area.width) first in
        pushed_over drew.former drew.width (unknown_first drew.former cur drew.unknown)
        (subst (λ j. DrawsRows drew.former s j 1 0 cur mid) (sym first) drew.drawn)
        _ (omega (arith, drew.width, none, whole)) (λ narrow. writes_rows drew.drawn)

    pub pushed_next : {m : ℕ} (blank : BufferData) → IsBlankFor m s blank → 0 < k → DrawsRows blank s k 1 0 cur mid
        → HasPushed s (k + 1) old new
    pushed_next blank is more drew =
        let same : min (k + 1) 1 ≡ min k 1 = omega arith in
        pushed_over blank is.width (blank_now blank is more) drew
        _ (omega (arith, ap (λ m. m * s.area.width) same)) (writes_nonempty drew is.width is.empty)

-- rows drawn over blank ones
blank_shown : (s : BufferData) (i n y : ℕ) (old new : Screen) → RowsFit s n y old → i + n ≤ s.area.height → IsSettledBuffer s
    → y + n ≤ 65535
    → {m : ℕ} (blank : BufferData) → IsBlankFor m s blank → DrawsRows blank s i n y old new → IsBlankAt n y old
    → ShowsRows s i n y old new
blank_shown s i n y old new fit inside settled small blank is drew empty = rows_shown blank s is.width i n y small drew (record {
  fit = fit;
  inside = inside;
  settled = settled;
  shown = blank_first blank n y old is.empty (sym is.width ∙ fit.width) empty;
})

-- the rows above row d scrolled up by t, and t rows more drawn above it
module _ (s : BufferData) (i n j d t : ℕ) (old cur mid : Screen) (j_is : j ≡ i + n) (before : HasRaised s i n d old cur)
    (width : s.area.width ≡ old.width) (fits : d ≤ old.height) (settled : IsSettledBuffer s)
    (inside : j + t ≤ s.area.height) (some : 0 < d) (le : t ≤ d) (up : ScrollsUp 0 d t cur mid) where
  high : d ≤ cur.height
  high = omega (arith, fits, before.shape.height)

  -- before they are drawn
  pub raising_room : IsRaising s i d old mid
  raising_room = record {
    count = n;
    inside = omega (arith, inside, j_is);
    room = t;
    shape = record {
      width = up.width ∙ before.shape.width;
      height = up.height ∙ before.shape.height;
      visible = up.visible ∙ before.shape.visible;
    };
    above = subst (AppendsPart s i n (rows_above old d)) (sym (above_scrolled some high up le)) before.above;
    below = λ a b a_in b_in low.
        below_scrolled some high up a b (omega (arith, before.shape.width)) (omega (arith, before.shape.height)) low
        ∙ before.below a b a_in b_in low;
  }

  -- and after it
  module _ (new : Screen) {m : ℕ} (blank : BufferData) (is : IsBlankFor m s blank) (small : d ≤ 65535)
      (drew : DrawsRows blank s j t (d - t) mid new) where
    fit_up : RowsFit s t (d - t) mid
    fit_up = record { width = width ∙ sym before.shape.width ∙ sym up.width; bottom = omega (arith, up.height, high) }

    shown : ShowsRows s j t (d - t) mid new
    shown = blank_shown s j t (d - t) mid new fit_up inside settled (omega arith) blank is drew
        (record { at = λ a b a_in b_in. blank_scrolled some high up le a b (omega (arith, up.width)) b_in })

    pub raised_more : (k : ℕ) → k ≡ n + t → HasRaised s i k d old new
    raised_more k all = rw all (record {
      shape = record {
        width = shown.width ∙ up.width ∙ before.shape.width;
        height = shown.height ∙ up.height ∙ before.shape.height;
        visible = shown.visible ∙ up.visible ∙ before.shape.visible;
      };
      above =
          let end : d - t + t ≡ d = omega arith in
          parts_join before.above (rw (above_scrolled some high up le, end) at (above_grown shown fit_up)) j_is refl;
      below = λ a b a_in b_in low.
          shown.outside a b (inr (omega arith))
          ∙ below_scrolled some high up a b (omega (arith, before.shape.width)) (omega (arith, before.shape.height)) low
          ∙ before.below a b a_in b_in low;
      few = λ narrow.
          let parts : nonempty_cells s i (n + t) ≡ nonempty_cells s i n + nonempty_cells s j t = nonempty_parts s i n t
          ∙ ap (λ e. nonempty_cells s i n + nonempty_cells s e t) (sym j_is) in
          writes_then _ _ _ old cur new (omega (arith, parts)) (before.few narrow)
          (writes_after _ cur mid new up.written (writes_nonempty drew is.width is.empty narrow));
      most = writes_then _ _ _ old cur new (omega arith) before.most
          (writes_after _ cur mid new up.written (subst (λ w. WritesAtMost (w * t) mid new) (sym is.width) (writes_rows drew)));
    })

  pub raising_drawn : (new : Screen) {m : ℕ} (blank : BufferData) → IsBlankFor m s blank → d ≤ 65535
      → (new ≡ mid) ⊎ DrawsRows blank s j t (d - t) mid new → IsRaising s i d old new
  raising_drawn new blank is small (inl same) = subst (IsRaising s i d old) (sym same) raising_room
  raising_drawn new blank is small (inr drew) = still_raising s i (n + t) d old new (omega (arith, inside, j_is))
      (raised_more new blank is small drew (n + t) refl)

-- a viewport's rows moved down by n, and n rows drawn where it stood
module _ (s : BufferData) (n : ℕ) (r : Rect) (old mid : Screen) (width : s.area.width ≡ old.width)
    (fits : r.y + n + r.height ≤ old.height) (settled : IsSettledBuffer s)
    (inside : n ≤ s.area.height) (down : ScrollsDown r.y (r.y + r.height + n) n old mid) where
  blank_mid : IsBlankAt n r.y mid
  blank_mid = record { at = λ a b a_in b_in. blank_lowered down (omega arith) (omega arith) a b (omega (arith, down.width)) b_in }

  above_mid : rows_above mid r.y ≡ rows_above old r.y
  above_mid = above_same old mid r.y down.history down.width down.height (above_lowered down)

  -- before they are drawn
  pub room_made : HasMadeRoom n r old mid
  room_made = record {
    shape = record { width = down.width; height = down.height; visible = down.visible };
    above = above_mid;
    blank = blank_mid;
    moved = λ a b a_in b_in. moved_lowered down (omega arith) a b a_in (omega arith);
    below = λ a b a_in b_in low. below_lowered down a b a_in b_in (omega arith);
  }

  -- and after it
  module _ (new : Screen) {m : ℕ} (blank : BufferData) (is : IsBlankFor m s blank) (small : r.y + n ≤ 65535)
      (drew : DrawsRows blank s 0 n r.y mid new) where
    fit_mid : RowsFit s n r.y mid
    fit_mid = record { width = width ∙ sym down.width; bottom = omega (arith, down.height) }

    drawn : ShowsRows s 0 n r.y mid new
    drawn = blank_shown s 0 n r.y mid new fit_mid (omega arith) settled small blank is drew blank_mid

    pub lowered_rows : HasLowered s n r old new
    lowered_rows = record {
      shape = record {
        width = drawn.width ∙ down.width;
        height = drawn.height ∙ down.height;
        visible = drawn.visible ∙ down.visible;
      };
      above = rw above_mid at (above_grown drawn fit_mid);
      moved = λ a b a_in b_in. drawn.outside a (r.y + n + b) (inr (omega arith))
          ∙ moved_lowered down (omega arith) a b a_in (omega arith);
      below = λ a b a_in b_in low. drawn.outside a b (inr (omega arith)) ∙ below_lowered down a b a_in b_in (omega arith);
      few = λ narrow. writes_after _ old mid new down.written (writes_nonempty drew is.width is.empty narrow);
      most = writes_after _ old mid new down.written
          (subst (λ w. WritesAtMost (w * n) mid new) (sym is.width) (writes_rows drew));
    }

  pub lowering_drawn : (new : Screen) {m : ℕ} (blank : BufferData) → IsBlankFor m s blank → r.y + n ≤ 65535
      → (new ≡ mid) ⊎ DrawsRows blank s 0 n r.y mid new → IsLowering s n r old new
  lowering_drawn new blank is small (inl same) = inr (inl (subst (HasMadeRoom n r old) (sym same) room_made))
  lowering_drawn new blank is small (inr drew) = inr (inr (lowered_rows new blank is small drew))
