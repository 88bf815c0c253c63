-- What a draw of the differences leaves on a screen.
use Rattle.std.specs.Iterator.{Drains, YieldsFirstBy}
use Rattle.std.proofs.Common.{◌≡◌, ◌⊎◌, ℕ, ◌+◌, ◌*◌, ◌<◌, ◌≤◌, List, Ok, length, map, inl, inr}
use Rattle.std.proofs.Common.{refl, sym, ap, subst, ◌∙◌, arith}
use Rattle.std.proofs.lemmas.{Bool.cases_lt, List.length-map, Iterator.Consumers.YieldsList-from_first}
use Rattle.rtui_geometry.specs.{declared.rect.Rect.Rect, Rect.EdgesFit, Rect.HasPosition}
use Rattle.rtui_cell.specs.Grid.{Update}
use Rattle.rtui_diff.specs.{Settled.IsSettled, Shows.ShowsColumn, Shows.Shows, Shows.Replays}
use Rattle.rtui_diff.specs.{Updates.update_at, Completeness.AreNarrow, Completeness.differing}
use Rattle.rtui_buffer.specs.BufferData.{BufferData}
use Rattle.rtui_buffer.specs.Shown.{IsSettledBuffer, IsBufferDiff, common_rows, buffer_updates}
use Rattle.rtui_backend.specs.Screen.{Screen, Draws}
use Rattle.rtui_backend.proofs.DrawLemmas.{Draws-along}
use Rattle.rtui_terminal.specs.Writing.{WritesDifferences, differing_count}

-- a column that isn't in a rectangle lies on one side of it
pub beside : (r : Rect) (a b : ℕ) → EdgesFit r → (HasPosition r (record { x = a; y = b }) → ⊥)
    → (a < r.x) ⊎ (r.x + r.width ≤ a) ⊎ (b < r.y) ⊎ (r.y + r.height ≤ b)
beside r a b fit out = elim (cases_lt a r.x) [
  | inl left ↦ inl left
  | inr x ↦ elim (cases_lt a (r.x + r.width)) [
    | inr right ↦ inr (inl right)
    | inl x' ↦ elim (cases_lt b r.y) [
      | inl above ↦ inr (inr (inl above))
      | inr y ↦ elim (cases_lt b (r.y + r.height)) [
        | inr below ↦ inr (inr (inr below))
        | inl y' ↦ absurd (out (record { left = x; right = omega arith; top = y; bottom = omega arith }))
      ]
    ]
  ]
]

module _ (p n : BufferData) (us : List Update) (old new : Screen) (fit : EdgesFit p.area) (same : n.area ≡ p.area)
    (are : us ≡ buffer_updates p n) (drawn : Draws old us new) where
  rows : common_rows p n ≡ p.area.height
  rows = let h : n.area.height ≡ p.area.height = ap (λ r. r.height) same in omega arith

  over : IsSettledBuffer n → IsSettled p.area.width p.area.height n.cells
  over settled = subst (λ area. IsSettled area.width area.height n.cells) same settled

  pub writes_differences :
      (IsSettled p.area.width (common_rows p n) p.cells → IsSettled p.area.width (common_rows p n) n.cells
      → Replays p.area.x p.area.y p.area.width (common_rows p n) p.cells n.cells us)
      → (AreNarrow (p.area.width * common_rows p n) p.cells n.cells → us ≡ map (update_at p.area.x p.area.y p.area.width n.cells)
      (differing p.cells n.cells (p.area.width * common_rows p n)))
      → WritesDifferences p n old new
  writes_differences replays narrow = record {
    drawn = subst (λ updates. Draws old updates new) are drawn;
    shown = λ on sp sn shown.
        let r = (rw rows at replays) sp (over sn) in
        let all = r.shows old.width old.height old.grid on.right on.bottom shown in
        subst (λ area. Shows area.x area.y area.width area.height n.cells new.grid) (sym same)
        (record {
          at = λ a b a_in b_in. subst (ShowsColumn p.area.width n.cells a b)
              (sym (drawn.grid (p.area.x + a) (p.area.y + b))) (all.at a b a_in b_in);
        });
    outside = λ on sp sn.
        let r = (rw rows at replays) sp (over sn) in
        record {
          at = λ a b a_in b_in out. drawn.grid a b ∙ r.outside old.width old.height old.grid on.right on.bottom a b
              (beside p.area a b fit out);
        };
    few = λ is_narrow below.
        let us_are = rw rows at narrow in
        let count : length us ≡ differing_count p n = ap length (us_are is_narrow) ∙ length-map _ _ in
        drawn.written (rw count below) ∙ ap (λ k. old.written + k) count;
  }

-- the items of an iterator whose state shows the updates between two buffers that are left were drawn
pub differences_drawn : {S A : Type 0} (view : A → Update) (left : S → List Update) (s : S)
    → (p n : BufferData) (old new : Screen) → EdgesFit p.area → n.area ≡ p.area → IsBufferDiff p n (left s)
    → (xs : List A) × Drains (YieldsFirstBy view left) s xs × Draws old (map view xs) new → WritesDifferences p n old new
differences_drawn view left s p n old new fit same diff drew =
    let drawn = Draws-along {T = ℕ} {E = ℕ} (Ok 0) old new drew (YieldsList-from_first view left _ refl) in
    writes_differences p n (left s) old new fit same diff.walks drawn diff.replays diff.narrow
