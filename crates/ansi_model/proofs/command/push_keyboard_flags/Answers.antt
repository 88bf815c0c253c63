use Rattle.std.proofs.Common.{◌∷◌, [], ◌++◌, string_bytes, decimal, arith}
use Rattle.std.proofs.lemmas.Result.{on_ok_weaker}
use Rattle.ansi_model.specs.Emulator.{Emulator}
use Rattle.ansi_model.specs.Commands.{flag_bits, keyboard_bytes}
use Rattle.ansi_model.proofs.{ReadLemmas.on_push, ReadLemmas.after-those, ReadLemmas.keyboard-read, ScrollLemmas.turns-from}
use Rattle.ansi_model.proofs.{CallLemmas.nothing-changed}
use Rattle.ansi_model.proofs.command.push_keyboard_flags.Goals as goal

pub returns-clause-bytes : goal.returns-clause-bytes
returns-clause-bytes c =
    on_ok_weaker c.push_str-2.result (λ last.
    after-those _ _ _ (27 ∷ 91 ∷ 62 ∷ []) (decimal (flag_bits c.args.flags) ++ 117 ∷ []) c.in_ok-push_str.ensures.bytes
    (after-those _ _ _ (decimal (flag_bits c.args.flags)) (117 ∷ []) (rw (c.from.ensures, c.to_bits.ensures) at c.in_ok-push_number.ensures) last))
    (on_push c.push_str-2.result (string_bytes c.push_number.new.out) (string_bytes c.push_str-2.new.self)
    (117 ∷ []) c.push_str-2.ensures.bytes)

pub returns-clause-turns : goal.returns-clause-turns
returns-clause-turns c =
    on_ok_weaker c.push_str-2.result (λ last w h.
    turns-from w h _ _ (λ (t : Emulator). t) _ (record {
      bytes = keyboard_bytes c.args.flags;
      appended = after-those _ _ _ (27 ∷ 91 ∷ 62 ∷ []) (decimal (flag_bits c.args.flags) ++ 117 ∷ [])
          c.in_ok-push_str.ensures.bytes
          (after-those _ _ _ (decimal (flag_bits c.args.flags)) (117 ∷ []) (rw (c.from.ensures, c.to_bits.ensures) at c.in_ok-push_number.ensures) last);
      read = keyboard-read c.args.flags (omega arith);
    }) (nothing-changed w h))
    (on_push c.push_str-2.result (string_bytes c.push_number.new.out) (string_bytes c.push_str-2.new.self)
    (117 ∷ []) c.push_str-2.ensures.bytes)
