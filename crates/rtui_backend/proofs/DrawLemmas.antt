-- Draws one after the other.
use Rattle.std.proofs.Common.{◌≡◌, ℕ, List, [], ◌∷◌, ◌++◌, Option, Result, map, refl, sym, ap, subst, ◌∙◌, arith, length-append}
use Rattle.std.proofs.Common.{OnOk}
use Rattle.std.specs.Iterator.{Drains}
use Rattle.std.proofs.lemmas.{Grind.common_steps, Iterator.YieldsList, Iterator.items_from_drains, Result.on_ok_weaker}
use Rattle.rtui_cell.specs.Grid.{Grid, Update, put, puts}
use Rattle.rtui_backend.specs.{Screen.Screen, Screen.Draws, Screen.cursor_of, TestBackend.screen_of, TestBackend.HasOnlyPut}
use Rattle.rtui_backend.specs.declared.test.TestBackend.{TestBackend}

puts-push : (w h : ℕ) (us : List Update) (u : Update) (g : Grid) → puts w h (us ++ u ∷ []) g ≡ put w h u (puts w h us g)
puts-push w h [] u g = refl
puts-push w h (v ∷ us) u g = puts-push w h us u (put w h v g)

pub Draws-none : (s : Screen) → Draws s [] s
Draws-none s = record {
  history = refl;
  width = refl;
  height = refl;
  visible = refl;
  written = λ below. omega arith;
  full = λ above. omega arith;
  grid = λ a b. refl;
}

-- a screen that stays is one on which nothing was put
pub nothing_put : {old new : TestBackend} → screen_of new ≡ screen_of old → HasOnlyPut old new
nothing_put {old} {new} same = record {
  items = [];
  draws = subst (Draws (screen_of old) []) (sym same) (Draws-none (screen_of old));
  cursor = ap cursor_of same;
}

pub Draws-push : {r s t : Screen} {us : List Update} {u : Update} → Draws r us s → Draws s (u ∷ []) t → Draws r (us ++ u ∷ []) t
Draws-push {r} {s} {t} {us} {u} p q = record {
  history = q.history ∙ p.history;
  width = q.width ∙ p.width;
  height = q.height ∙ p.height;
  visible = q.visible ∙ p.visible;
  written = λ below. grind (arith, common_steps, length-append us (u ∷ []), p.written, q.written);
  full = λ above. grind (arith, common_steps, length-append us (u ∷ []), p.written, p.full, q.full);
  grid = λ a b.
      let on : put s.width s.height u s.grid a b ≡ put r.width r.height u (puts r.width r.height us r.grid) a b =
      rw (p.width, p.height, p.grid a b) refl in
      q.grid a b ∙ on ∙ ap (λ g. g a b) (sym (puts-push r.width r.height us u r.grid));
}

-- a draw of an iterator whose items are known
pub Draws-along : {S A T E : Type 0} {steps : S → Option A → S → Type 0} {view : A → Update} {s : S} {us : List Update}
    (r : Result T E) (old new : Screen)
    → OnOk r ((xs : List A) × Drains steps s xs × Draws old (map view xs) new) → YieldsList steps view s us
    → OnOk r (Draws old us new)
Draws-along r old new drew road =
    on_ok_weaker r (λ e. subst (λ us'. Draws old us' new) (items_from_drains e.0 (e.1.1.0, e.1.1.1, λ _. (e.1.0, e.1.1.2)) road)
    e.2) drew
