use Rattle.std.proofs.Common.{◌∷◌, [], ◌++◌, string_bytes, List, ℕ}
use Rattle.std.proofs.lemmas.Result.{on_ok_weaker}
use Rattle.ansi_model.specs.Emulator.{Emulator}
use Rattle.ansi_model.specs.Commands.{shown_text, title_bytes, titled_bytes}
use Rattle.ansi_model.proofs.{ReadLemmas.on_push, ReadLemmas.after-those, TextLemmas.titled-read, ScrollLemmas.turns-from}
use Rattle.ansi_model.proofs.{CallLemmas.nothing-changed}
use Rattle.ansi_model.proofs.command.push_title.Goals as goal

pub returns-clause-bytes : goal.returns-clause-bytes
returns-clause-bytes c =
    let title : List ℕ = shown_text c.args.title.now in
    on_ok_weaker c.push_str-3.result (λ last.
    after-those _ _ _ _ (title_bytes c.args.title.now) (rw c.keeping.ensures at c.in_ok-push_str.ensures.bytes)
    (after-those _ _ _ (27 ∷ 93 ∷ 50 ∷ 59 ∷ []) (title ++ 27 ∷ 92 ∷ []) c.in_ok-push_str-2.ensures.bytes
    (after-those _ _ _ title (27 ∷ 92 ∷ []) c.in_ok-push_shown.ensures last)))
    (on_push c.push_str-3.result (string_bytes c.push_shown.new.out) (string_bytes c.push_str-3.new.self)
    (27 ∷ 92 ∷ []) c.push_str-3.ensures.bytes)

pub returns-clause-turns : goal.returns-clause-turns
returns-clause-turns c =
    let title : List ℕ = shown_text c.args.title.now in
    on_ok_weaker c.push_str-3.result (λ last w h.
    turns-from w h _ _ (λ (t : Emulator). t) _ (record {
      bytes = titled_bytes c.args.is_first c.args.title.now;
      appended = after-those _ _ _ _ (title_bytes c.args.title.now)
          (rw c.keeping.ensures at c.in_ok-push_str.ensures.bytes)
          (after-those _ _ _ (27 ∷ 93 ∷ 50 ∷ 59 ∷ []) (title ++ 27 ∷ 92 ∷ []) c.in_ok-push_str-2.ensures.bytes
          (after-those _ _ _ title (27 ∷ 92 ∷ []) c.in_ok-push_shown.ensures last));
      read = titled-read c.args.is_first c.args.title.now;
    }) (nothing-changed w h))
    (on_push c.push_str-3.result (string_bytes c.push_shown.new.out) (string_bytes c.push_str-3.new.self)
    (27 ∷ 92 ∷ []) c.push_str-3.ensures.bytes)
