use Rattle.std.proofs.Common.{◌≡◌, ◌+◌, [], ◌∷◌, string_bytes, length, get_or, ap, ap₂, sym, subst, ◌∙◌, length-append, arith}
use Rattle.ratatui_core.specs.Style.{bits_of, no_modifier}
use Rattle.ansi_model.specs.Inner.{AddsParameters, modifier_parameter}
use Rattle.ansi_model.proofs.SgrLemmas.{Parameters-then, numbered, first_modifiers, modifiers-more}
use Rattle.ansi_model.proofs.sgr.push_modifiers.Goals as goal

pub loop-modifier-preserved : goal.loop-modifier-preserved
loop-modifier-preserved c =
    let bits = bits_of c.args.modifiers in
    let i = c.loop-modifier.modifier-index in
    let item = get_or numbered i (no_modifier, 0) in
    let more = modifiers-more bits i (omega arith) in
    let one : AddsParameters (59 ∷ []) (string_bytes c.loop-modifier.out) (string_bytes c.push_modifier.new.out)
    (modifier_parameter bits item.0.0 item.1)
    = rw (c.bits.ensures, c.bits-in-loop-modifier.ensures) at c.in_ok-count.ensures.adds in
    let count : c.in_ok-count.field-0 ≡ length (modifier_parameter bits item.0.0 item.1) =
    rw (c.bits.ensures, c.bits-in-loop-modifier.ensures) at c.in_ok-count.ensures.counts in
    record {
      adds = subst (λ ps. AddsParameters (59 ∷ []) (string_bytes c.args.out.now) (string_bytes c.push_modifier.new.out) ps)
          (sym more) (Parameters-then _ _ _ _ _ c.loop-modifier.invariant.adds one);
      counts = ap₂ (λ m n. m + n) c.loop-modifier.invariant.counts count
          ∙ sym (ap length more ∙ length-append (first_modifiers bits i) _);
      most = omega (arith, c.in_ok-count.ensures.most);
    }

pub returns : goal.returns
returns c =
    let all : c.loop-modifier.modifier-index ≡ 9 = omega arith in
    record {
      adds = rw all at c.loop-modifier.invariant.adds;
      counts = rw all at c.loop-modifier.invariant.counts;
      most = omega arith;
    }
