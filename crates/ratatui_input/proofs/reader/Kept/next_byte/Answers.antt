use Rattle.ratatui_input.proofs.ReaderLemmas.{told-first, told-only}
use Rattle.ratatui_input.proofs.reader.Kept.next_byte.Goals as goal

pub returns-in-Some-clause-told : goal.returns-in-Some-clause-told
returns-in-Some-clause-told c =
    told-first c.args.self.now.decoder c.args.self.now.second c.args.self.now.bytes c.args.self.now.next c.args.self.now.end
    c.args.byte
    c.feed-cut.result.cut c.feed-cut.result.event c.feed-cut.new.self c.in-Some.first c.requires.none c.requires.some
    c.requires.next c.in-Some.is c.feed-cut.ensures

pub returns-in-None-clause-told : goal.returns-in-None-clause-told
returns-in-None-clause-told c =
    told-only c.args.self.now.decoder c.args.self.now.second c.args.self.now.bytes c.args.self.now.next c.args.self.now.end
    c.args.byte
    c.feed-cut.result.cut c.feed-cut.result.event c.feed-cut.new.self c.requires.none c.requires.some c.requires.next c.in-None.is
    c.feed-cut.ensures
