use Rattle.std.proofs.Common.{◌≡◌, ◌<◌, ℕ, ◌++◌, List, [], length, Bool, true, false, refl, ap, ◌∙◌, arith, get_or, set}
use Rattle.nbody_model.specs.declared.field.EventKind.TheVariants.{Build}
use Rattle.rank_laws.specs.Contents.{OfTable}
use Rattle.rank_laws.specs.Machine.{machine}
use Rattle.rank_laws.specs.Protocol.{state}
use Rattle.rank_laws.specs.Whole.{rules_of}
use Rattle.rank_exchange.specs.Ranks.{handed_back}
use Rattle.rank_mail.specs.Mails.{IsTaken, how_many}
use Rattle.rank_field.proofs.Coming.{all_come, may_come_there, place_is}
use Rattle.rank_field.proofs.Next.{arrival, come_ready, has_come_at, rank_there, reached, taken_next, tells_mail}
use Rattle.rank_field.proofs.Readiness.{ready_kept}
use Rattle.rank_field.proofs.machine.Machine.deliver.Goals as goal

pub take-message-requires : goal.take-message-requires
take-message-requires c =
    let h = c.requires.1.1 in
    let g : c.args.k < how_many c.args.self.now.mail.ready c.args.self.now.mail.messages =
    omega (arith, h.comes, all_come c.requires.0 c.requires.1.0 h.machine.run c.args.self.now.mail h.machine.mail (record { kind = Build; «from» = 0; to = 0; contents = OfTable [] })) in
    g

pub index_mut-rank-requires : goal.index_mut-rank-requires
index_mut-rank-requires c =
    let w = c.requires.0 in
    let z = c.requires.1.0 in
    let h = c.requires.1.1.machine in
    let v = c.args.self.now in
    let n = taken_next w z v c.args.k c.take-message.result c.take-message.new.self.messages h c.take-message.ensures.taken in
    omega (arith, n.travels.to_in, ap (λ v. v.to) (c.message.view_is ∙ n.travels.filled_in), h.ranks, v.ranks.ok.0)

pub take-requires : goal.take-requires
take-requires c =
    let w = c.requires.0 in
    let z = c.requires.1.0 in
    let h = c.requires.1.1.machine in
    let v = c.args.self.now in
    let t = c.take-message.ensures.taken in
    let n = taken_next w z v c.args.k c.take-message.result c.take-message.new.self.messages h t in
    let to : c.message.inside.to ≡ n.message.to = ap (λ v. v.to) (c.message.view_is ∙ n.travels.filled_in) in
    (arrival w z v t.place c.take-message.result h n, (rank_there w z v t.place c.take-message.result h n c.message.inside.to to c.index_mut-rank.result.now c.index_mut-rank.ensures.value, n.travels.filled_in))

pub mark-requires : goal.mark-requires
mark-requires c =
    let w = c.requires.0 in
    let z = c.requires.1.0 in
    let h = c.requires.1.1.machine in
    let v = c.args.self.now in
    let n = taken_next w z v c.args.k c.take-message.result c.take-message.new.self.messages h c.take-message.ensures.taken in
    let long : length c.take-message.new.self.ready ≡ length v.mail.ready = ap length c.take-message.ensures.ready in
    omega (arith, n.travels.to_in, ap (λ v. v.to) (c.message.view_is ∙ n.travels.filled_in), h.mail.all, long)

pub returns-clause-delivered : goal.returns-clause-delivered
returns-clause-delivered c = λ w z g.
    let h = g.machine in
    let v = c.args.self.now in
    let left = c.take-message.new.self in
    let m = c.take-message.result in
    let t : IsTaken v.mail.ready c.args.k v.mail.messages m left.messages = c.take-message.ensures.taken in
    let n = taken_next w z v c.args.k m left.messages h t in
    let to : c.message.inside.to ≡ n.message.to = ap (λ v. v.to) (c.message.view_is ∙ n.travels.filled_in) in
    let rank = rank_there w z v t.place m h n c.message.inside.to to c.index_mut-rank.result.now c.index_mut-rank.ensures.value in
    let a = arrival w z v t.place m h n in
    let out = c.in_ok-answer.answer in
    let done = c.in_ok-answer.ensures a rank n.travels.filled_in in
    let s = state (machine (rules_of w)) z n.message.to in
    let is = come_ready w z v t.place h m n out c.take.new.self done c.is_ready-is.result c.is_ready-is.ensures in
    let mark : get_or v.mail.ready n.message.to false ≡ c.is_ready-was.result → (c.is_ready-was.result ≡ true → c.is_ready-is.result ≡ true) → c.send_answer.new.mail.ready ≡ set v.mail.ready n.message.to c.is_ready-is.result =
    λ e f. c.in_ok-send_answer.ensures.ready ∙ c.mark.ensures.ready (ap (λ (bs : List Bool). get_or bs c.message.inside.to false) c.take-message.ensures.ready ∙ ap (λ (q : ℕ). get_or v.mail.ready q false) to ∙ e) f
    ∙ ap (λ (bs : List Bool). set bs c.message.inside.to c.is_ready-is.result) c.take-message.ensures.ready ∙ ap (λ (q : ℕ). set v.mail.ready q c.is_ready-is.result) to in
    let entries = tells_mail w z v h n.message.to n.travels.to_in (reached w z v t.place h m n out c.take.new.self done) c.is_ready-was.result c.is_ready-is.result c.send_answer.new.mail.ready
    (c.is_ready-was.ensures a.moment rank) is (ready_kept (rules_of w) n.message.to s n.message n.message.kind) mark in
    let messages = c.in_ok-send_answer.ensures.messages ∙ ap (λ ms. ms ++ handed_back out) (c.mark.ensures.messages ∙ t.left) in
    has_come_at w z v t.place h m n out c.take.new.self done _ (place_is w z h.run v.mail h.mail c.args.k m left.messages t) (may_come_there w z h.run v.mail h.mail c.args.k m left.messages t)
    c.message.inside.to to c.delivery-event.result (c.delivery-event.ensures w n.message n.travels.filled_in) _ refl messages entries refl refl refl refl
