use Rattle.std.proofs.Common.{inl, inr, refl}
use Rattle.files.proofs.DiscardLemmas.{prepares-entries, prepares-time, prepares-then}
use Rattle.files.proofs.hands.Hands.see.Goals as goal

pub returns-in_err-files-clause-prepares : goal.returns-in_err-files-clause-prepares
returns-in_err-files-clause-prepares g c = prepares-entries g.P.Performs.does c.args.discard.now c.args.discard.now.files
    c.entries.result c.args.self.now.files c.entries.new.self.files (inr (inl refl)) c.entries.ensures

pub returns-in_err-info-clause-prepares : goal.returns-in_err-info-clause-prepares
returns-in_err-info-clause-prepares g c =
    let does = g.P.Performs.does in let d = c.args.discard.now in
    prepares-then does d c.args.self.now.files c.entries.new.self.files c.entries-2.new.self.files
    (prepares-entries does d d.files c.entries.result c.args.self.now.files c.entries.new.self.files (inr (inl refl)) c.entries.ensures)
    (prepares-entries does d d.info c.entries-2.result c.entries.new.self.files c.entries-2.new.self.files (inr (inr refl))
    c.entries-2.ensures)

pub returns-in_err-time-clause-prepares : goal.returns-in_err-time-clause-prepares
returns-in_err-time-clause-prepares g c =
    let does = g.P.Performs.does in let d = c.args.discard.now in
    prepares-then does d c.args.self.now.files c.entries-2.new.self.files c.time.new.self.files
    (prepares-then does d c.args.self.now.files c.entries.new.self.files c.entries-2.new.self.files
    (prepares-entries does d d.files c.entries.result c.args.self.now.files c.entries.new.self.files (inr (inl refl)) c.entries.ensures)
    (prepares-entries does d d.info c.entries-2.result c.entries.new.self.files c.entries-2.new.self.files (inr (inr refl))
    c.entries-2.ensures))
    (prepares-time does d c.time.result c.entries-2.new.self.files c.time.new.self.files c.time.ensures)

pub returns-clause-prepares : goal.returns-clause-prepares
returns-clause-prepares g c =
    let does = g.P.Performs.does in let d = c.args.discard.now in
    prepares-then does d c.args.self.now.files c.entries-2.new.self.files c.time.new.self.files
    (prepares-then does d c.args.self.now.files c.entries.new.self.files c.entries-2.new.self.files
    (prepares-entries does d d.files c.entries.result c.args.self.now.files c.entries.new.self.files (inr (inl refl)) c.entries.ensures)
    (prepares-entries does d d.info c.entries-2.result c.entries.new.self.files c.entries-2.new.self.files (inr (inr refl))
    c.entries-2.ensures))
    (prepares-time does d c.time.result c.entries-2.new.self.files c.time.new.self.files c.time.ensures)
