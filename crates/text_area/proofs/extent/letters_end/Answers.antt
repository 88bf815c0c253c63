use Rattle.std.proofs.Common.{refl}
use Rattle.memchr.specs.Find.{is_byte3}
use Rattle.text_area.proofs.RunLemmas.{end-value, end-none}
use Rattle.text_area.proofs.extent.letters_end.Goals as goal

pub returns-in-Some-clause-value : goal.returns-in-Some-clause-value
returns-in-Some-clause-value c =
    end-value (is_byte3 10 9 32) c.args.bytes.now _ c.args.at refl c.requires c.in-Some.offset c.in-Some.ensures.0
    c.in-Some.ensures.1

pub returns-in-None-clause-value : goal.returns-in-None-clause-value
returns-in-None-clause-value c =
    end-none (is_byte3 10 9 32) c.args.bytes.now _ c.args.at refl c.requires c.in-None.ensures
