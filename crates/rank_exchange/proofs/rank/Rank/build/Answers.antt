use Rattle.std.proofs.Common.{refl, ap, sym, ◌∙◌}
use Rattle.nbody_model.specs.Setups.{SetupData}
use Rattle.rank_exchange.specs.Built.{IsBuilt}
use Rattle.rank_exchange.proofs.Doing.{are_of_rank, keeps_built, size_built, sent_built}
use Rattle.rank_exchange.proofs.rank.Rank.build.Goals as goal

pub returns : goal.returns
returns c = λ m h.
    let d : IsBuilt m.whole c.args.self.now.number c.deref-2.result.now c.in_ok-built.built.size c.in_ok-built.built.messages.items c.in_ok-built.built.kept.items =
    c.in_ok-built.ensures m.whole (are_of_rank m c.args.kit.now c.args.bounds.now c.args.self.now h c.deref.result.now c.deref.ensures.value c.behind-kit.inside.soft (sym (ap (λ (s : SetupData). s.soft) c.behind-kit.view_is ∙ ap (λ (s : SetupData). s.soft) c.setup.ensures))) in
    record {
      rank = keeps_built m c.args.kit.now c.args.bounds.now c.args.self.now h c.deref-2.result.now c.in_ok-built.built.size c.in_ok-built.built.messages.items c.in_ok-built.built.kept.items d c.keep.new.self c.in_ok-keep.ensures.ok;
      kind = refl;
      size = size_built m c.args.kit.now c.args.bounds.now c.args.self.now h c.deref-2.result.now c.in_ok-built.built.size c.in_ok-built.built.messages.items c.in_ok-built.built.kept.items d;
      messages = sent_built m c.args.kit.now c.args.bounds.now c.args.self.now h c.deref-2.result.now c.in_ok-built.built.size c.in_ok-built.built.messages.items c.in_ok-built.built.kept.items d (c.deref-2.ensures.value ∙ c.in_ok-to.ensures.others);
    }
