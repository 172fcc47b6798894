use Rattle.std.proofs.Common.{refl, subst}
use Rattle.rank_exchange.specs.Posts.{Answers}
use Rattle.rank_exchange.proofs.Answered.{known_none, known_some, of_node}
use Rattle.rank_exchange.proofs.post.known_of.Goals as goal

pub known_by-requires : goal.known_by-requires
known_by-requires c = of_node c.requires.0 c.requires.1.0 c.in-Some.entry (subst (Answers c.requires.0 c.requires.1.0) c.in-Some.is c.requires.1.1)

pub returns-in-Some : goal.returns-in-Some
returns-in-Some c = λ z d a. known_some z d c.in-Some.entry (subst (Answers z d) c.in-Some.is a) c.known_by.result c.known_by.ensures.moments c.known_by.ensures.below

pub returns-in-None : goal.returns-in-None
returns-in-None c = λ z d a. known_none z d (subst (Answers z d) c.in-None.is a) _ refl
