use Rattle.std.proofs.Common.{inr}
use Rattle.files.proofs.hands.Hands.discard.Goals as goal

pub returns-in-Ok-prepare : goal.returns-in-Ok-prepare
returns-in-Ok-prepare g c = inr (
  c.in-Ok.discard,
  c.in-Ok.ensures.is,
  inr (record {
    plan = c.in-Ok-prepare.plan;
    ready = c.prepare.new.self.files;
    prepared = c.in-Ok-prepare.ensures.ok;
    ends = c.carry_out.ensures;
  }),
)
