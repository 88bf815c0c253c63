use Rattle.std.proofs.Common.{◌≡◌, arith, sym, subst}
use Rattle.std.proofs.lemmas.{Bool.Decides.nat_tests, Result.on_ok_weaker}
use Rattle.rtui_viewport.specs.Viewports.{IsFixed}
use Rattle.rtui_backend.specs.{Screen.size_of, TestBackend.screen_of}
use Rattle.screenplay.proofs.PlayLemmas.{IsPlaying-resized, IsSizedFor-resized, is_free}
use Rattle.screenplay.proofs.playing.take_size.Goals as goal

pub returns : goal.returns
returns c = on_ok_weaker c.resize.result (λ taken stage is playing.
    let free : IsFixed stage.viewport
    → ⊥ = λ fixed. is_free c.args.viewport c.in_default-viewport.not-Fixed (subst IsFixed is fixed) in
    let differs = sym (rw (
      c.as_size.ensures,
      c.area.ensures.area,
      c.buffer.ensures.value,
      c.backend.ensures,
      c.if-eq.false,
    ) at c.eq.ensures) in
    let other : size_of (screen_of c.args.terminal.now.backend) ≡ c.in-Some.size
    → ⊥ = λ same. let equal = rw (← same) at differs in grind (arith, nat_tests, equal) in
    rw c.in-Some.is (
      IsPlaying-resized stage c.in-Some.size c.args.terminal.now _ free playing other taken,
      IsSizedFor-resized stage c.in-Some.size c.args.terminal.now _ free playing other taken,
    )) c.resize.ensures
