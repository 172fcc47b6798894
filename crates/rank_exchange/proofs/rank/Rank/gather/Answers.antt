use Rattle.std.proofs.Common.{◌≡◌, ◌++◌, ap, ◌∙◌, arith}
use Rattle.rank_exchange.specs.Came.{HasParts}
use Rattle.rank_exchange.specs.Moments.{Moment, state_at}
use Rattle.rank_exchange.specs.Ranks.{HasMost}
use Rattle.rank_exchange.proofs.Acts.{has_parts}
use Rattle.rank_exchange.proofs.Ranked.{most_forced}
use Rattle.rank_exchange.proofs.rank.Rank.gather.Goals as goal

pub gathered-requires : goal.gathered-requires
gathered-requires c = (
  c.requires.0,
  has_parts c.requires.0 c.args.self.now c.requires.1 c.if-not-self.false (let d : c.args.self.now.due.parts ≡ 0 = omega (arith, c.if-self-gt0.false) in d) c.extend_from_slice.new.self.items c.deref-2.result.now
      (c.in_ok-extend_from_slice.ensures.items ∙ (λ i. c.in_ok-own.ensures.items i ++ c.deref.ensures.value i)) c.deref-2.ensures.value,
)

pub returns : goal.returns
returns c = λ m h. record {
  most = most_forced m.whole m.rank (state_at m) c.args.self.now c.in_ok-self.field-0 h;
  forces = λ s n. record {
    climbs = c.in_ok-self.ensures.climbs;
    given = c.in_ok-self.ensures.sums m (has_parts m c.args.self.now h c.if-not-self.false n c.extend_from_slice.new.self.items c.deref-2.result.now
        (c.in_ok-extend_from_slice.ensures.items ∙ (λ i. c.in_ok-own.ensures.items i ++ c.deref.ensures.value i)) c.deref-2.ensures.value);
  };
}
