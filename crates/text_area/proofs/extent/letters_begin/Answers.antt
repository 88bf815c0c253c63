use Rattle.std.proofs.Common.{refl}
use Rattle.memchr.specs.Find.{is_byte3}
use Rattle.text_area.proofs.RunLemmas.{begin-value, begin-none}
use Rattle.text_area.proofs.extent.letters_begin.Goals as goal

pub returns-in-Some-clause-value : goal.returns-in-Some-clause-value
returns-in-Some-clause-value c =
    begin-value (is_byte3 10 9 32) c.args.bytes.now _ c.args.at refl c.requires c.in-Some.gap c.in-Some.ensures.0
    c.in-Some.ensures.1

pub returns-in-None-clause-value : goal.returns-in-None-clause-value
returns-in-None-clause-value c =
    begin-none (is_byte3 10 9 32) c.args.bytes.now _ c.args.at refl c.requires c.in-None.ensures
