use Rattle.std.proofs.Common.{string_bytes, [], ◌∷◌, ◌++◌}
use Rattle.std.proofs.lemmas.Result.{on_ok_weaker}
use Rattle.ratatui_core.specs.Style.{bits_of}
use Rattle.ansi_model.specs.Parameters.{color_parameters, color_count, lead_of}
use Rattle.ansi_model.specs.Inner.{AddsParameters, modifier_parameters}
use Rattle.ansi_model.specs.Inner.{underline_parameters}
use Rattle.ansi_model.proofs.{ReadLemmas.on_push, SgrLemmas.Parameters-then, SgrLemmas.sgr-sent, SgrLemmas.first_count}
use Rattle.ansi_model.proofs.{SgrLemmas.second_count}
use Rattle.ansi_model.proofs.sgr.push_sgr.Goals as goal

pub returns : goal.returns
returns c =
    let p = c.args.sgr.now in
    let old = string_bytes c.args.out.now in
    let modifiers : AddsParameters (59 ∷ []) (old ++ (27 ∷ 91 ∷ 48 ∷ [])) (string_bytes c.push_modifiers.new.out)
    (modifier_parameters (bits_of p.modifier))
    = rw (← c.in_ok-push_str.ensures.bytes) c.in_ok-modifiers.ensures.adds in
    let first = Parameters-then _ _ _ _ _ modifiers c.in_ok-push_color.ensures in
    let second : AddsParameters (lead_of (first_count p) (color_count p.bg)) (string_bytes c.push_color.new.out)
    (string_bytes c.push_color-2.new.out) (color_parameters 40 p.bg)
    = rw (
      c.lead_of.ensures,
      c.color_count.ensures.counts,
      c.color_count-more.ensures.counts,
      c.in_ok-modifiers.ensures.counts,
    ) at c.in_ok-push_color-2.ensures in
    let third : AddsParameters (lead_of (second_count p) (color_count p.underline_color)) (string_bytes c.push_color-2.new.out)
    (string_bytes c.push_underline.new.out) (underline_parameters p.underline_color)
    = rw (
      c.lead_of-2.ensures,
      c.count_with-second.ensures,
      c.color_count.ensures.counts,
      c.color_count-more.ensures.counts,
      c.color_count-more-2.ensures.counts,
      c.in_ok-modifiers.ensures.counts,
    ) at c.in_ok-push_underline.ensures in
    on_ok_weaker c.push_str-2.result (λ e. sgr-sent p old _ _ _ _ c.requires
    (rw (← c.in_ok-modifiers.ensures.counts) c.in_ok-modifiers.ensures.most) first second third e)
    (on_push c.push_str-2.result (string_bytes c.push_underline.new.out) (string_bytes c.push_str-2.new.self)
    (109 ∷ []) c.push_str-2.ensures.bytes)
