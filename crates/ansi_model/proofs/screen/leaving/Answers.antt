use Rattle.std.proofs.Common.{◌≡◌, ℕ, List, [], ◌++◌, arith, ap, subst}
use Rattle.ansi_model.proofs.ReadLemmas.{leaving-read, leaving_bytes, after-those}
use Rattle.ansi_model.proofs.screen.leaving.Goals as goal

pub returns : goal.returns
returns c = λ old. record {
  bytes = leaving_bytes c.args.height;
  appended = ap (λ bytes. old ++ bytes) (rw c.format.ensures.text at (after-those [] c.push_str.new.self.bytes
      c.push_str-3.new.self.bytes _ _
      (subst (λ (xs : List ℕ). c.push_str.new.self.bytes ≡ xs ++ _) c.new-text.ensures c.push_str.ensures.bytes)
      (after-those c.push_str.new.self.bytes c.push_str-2.new.self.bytes _ _ _ c.push_str-2.ensures.bytes
      c.push_str-3.ensures.bytes)));
  read = leaving-read c.args.height (omega arith);
}
