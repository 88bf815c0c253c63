use Rattle.std.proofs.Common.{refl, ap, ◌∙◌, [], ◌∷◌}
use Rattle.std.proofs.lemmas.Result.{on_ok_weaker}
use lib.Utf8.{encode}
use Rattle.ansi_model.specs.{Sends.typed, Emulator.Emulator, Emulator.returned, Emulator.rested}
use Rattle.ansi_model.proofs.ReadLemmas.{Leads-then, Sends-then, return-read}
use Rattle.ansi_model.proofs.screen.print_letters.Goals as goal

pub returns : goal.returns
returns c =
    on_ok_weaker c.push_plain-2.result (λ last.
    Leads-then c.in_ok-push_plain.ensures
    (Sends-then _ _ _ (λ t. returned (rested t)) (typed (encode 233))
    (record { bytes = 13 ∷ []; appended = c.in_ok-push_str.ensures.bytes; read = return-read }) last (λ t. refl))
    (λ t u ground e. ap (λ (v : Emulator). v.phase) e ∙ ground)
    (λ t u v ground e f. f ∙ ap (λ w. typed (encode 233) (returned (rested w))) e)) c.push_plain-2.ensures
