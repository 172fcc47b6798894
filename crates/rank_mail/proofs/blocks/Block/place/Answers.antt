use Rattle.std.proofs.Common.{◌≡◌, ◌<◌, length, [], subst, arith}
use Rattle.nbody_model.specs.declared.field.EventKind.TheVariants.{Build}
use Rattle.rank_laws.specs.Contents.{OfTable}
use Rattle.rank_exchange.specs.Messages.{MessageData}
use Rattle.rank_mail.specs.Blocks.{BlockData}
use Rattle.rank_mail.specs.Mails.{how_many}
use Rattle.rank_mail.proofs.Counted.{all_come}
use Rattle.rank_mail.proofs.blocks.Block.place.Goals as goal

all : (c : goal.Then-self-len) → how_many c.args.ready.now c.args.self.now.messages ≡ length c.args.self.now.messages
all c =
    let n : c.args.self.now.coming ≡ length c.args.self.now.messages = subst (λ (v : BlockData). v.coming ≡ length v.messages) c.self.view_is (omega (arith, c.if-self-len.true, c.len.ensures, c.self.inside.messages.ok)) in
    omega (arith, n, c.requires.counted)

number : (c : goal.Then-self-len) → c.args.k < length c.args.self.now.messages
number c = omega (arith, all c, c.requires.number, c.requires.counted)

nothing : MessageData
nothing = record { kind = Build; «from» = 0; to = 0; contents = OfTable [] }

pub returns-then-self-len-clause-comes : goal.returns-then-self-len-clause-comes
returns-then-self-len-clause-comes c = λ d. (all_come c.args.ready.now c.args.self.now.messages c.args.k d (all c) (number c)).0

pub returns-then-self-len-clause-number : goal.returns-then-self-len-clause-number
returns-then-self-len-clause-number c = (all_come c.args.ready.now c.args.self.now.messages c.args.k nothing (all c) (number c)).1
