use Rattle.rank_walk.proofs.Sends.{sending_by, sums_are}
use Rattle.rank_walk.proofs.walker.Walker.sums_to.Goals as goal

pub returns : goal.returns
returns c = λ z s t. sums_are z t.seat s c.args.self.now t.walker t.through c.args.home c.in_ok-out.out.items
    (sending_by c.args.self.now.heard.slots.items c.deref.result.now c.deref.ensures.value c.args.self.now.heard.touched.items c.deref-2.result.now c.deref-2.ensures.value c.args.self.now.heard.sums.items c.deref-3.result.now c.deref-3.ensures.value c.args.home c.in_ok-out.out.items c.in_ok-out.ensures)
