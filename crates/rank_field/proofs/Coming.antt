-- Which messages of a machine may come: as many as the mail says, and the one of a number stands where the machine has it.
use Rattle.std.proofs.Common.{◌≡◌, ℕ, zero, suc, ◌+◌, ◌<◌, ◌≤◌, Bool, true, false, cond, List, length, map, take, get_or, refl, ap, sym, ◌∙◌, arith, add-one}
use Rattle.std.specs.Prelude.{Some, slice_get, slice_index_or}
use Rattle.std.specs.Int.{from_bool}
use Rattle.std.proofs.lemmas.List.{length-map, take_all}
use Rattle.std.proofs.lemmas.List.Sums.{sum_by_more}
use Rattle.std.proofs.lemmas.Option.{get_or_from_slice_get, slice_get_within}
use Rattle.rank_laws.specs.Protocol.{World, state, may_come as may_come_in}
use Rattle.rank_laws.specs.Machine.{Kind, Table, Sums, Want, Members, Parts, Ask, Reply, Message, Rank, accepted, machine}
use Rattle.rank_laws.specs.Told.{is_ask, told_kind}
use Rattle.rank_laws.specs.Whole.{Whole, ranks_of, rules_of}
use Rattle.rank_exchange.specs.Messages.{MessageData, filled}
use Rattle.rank_mail.specs.Mails.{IsTaken, MailData, how_many, may_come}
use Rattle.rank_field.specs.Machines.{HoldsMail, RunsTo, coming_in}
use Rattle.rank_field.proofs.Passed.{count_more, passed, stands_at}
use Rattle.rank_field.proofs.Travelling.{found, goes_to}

-- the message at a place may come
abbrev pub comes_at : Whole → World Rank Message → ℕ → Bool
comes_at w z k = may_come_in (machine (rules_of w)) z (slice_get z.mail k)

bit_is : (b : Bool) → cond {A = ℕ} b 1 0 ≡ from_bool b
bit_is true = refl
bit_is false = refl

module _ (w : Whole) (z : World Rank Message) (run : RunsTo w z) (mail : MailData) (h : HoldsMail w z mail) where
  by_kind : (m : Message) (k : Kind) → m.to < ranks_of w → cond (is_ask (told_kind k)) (slice_index_or mail.ready m.to false) true ≡ accepted (rules_of w) m (state (machine (rules_of w)) z m.to) k
  by_kind m Ask l = h.each m.to l
  by_kind m Table l = refl
  by_kind m Sums l = refl
  by_kind m Want l = refl
  by_kind m Members l = refl
  by_kind m Parts l = refl
  by_kind m Reply l = refl

  -- what the mail says of the message at a place
  said_at : (n : ℕ) (d : MessageData) → n < length z.mail → may_come mail.ready (get_or mail.messages n d) ≡ comes_at w z n
  said_at n d l =
      let f : (m : Message) × (slice_get z.mail n ≡ Some m) × (get_or (map (filled w) z.mail) n d ≡ filled w m) = found w z z.mail n d l in
      ap (λ (ms : List MessageData). may_come mail.ready (get_or ms n d)) h.messages ∙ ap (may_come mail.ready) f.2
      ∙ by_kind f.0 f.0.kind (goes_to w z run n f.0 f.1) ∙ sym (ap (may_come_in (machine (rules_of w)) z) f.1)

  as_long : length mail.messages ≡ length z.mail
  as_long = ap length h.messages ∙ length-map z.mail (filled w)

  -- as many of the first messages may come
  first_come : (n : ℕ) → (MessageData) → n ≤ length z.mail → how_many mail.ready (take n mail.messages) ≡ length (passed (comes_at w z) n)
  first_come zero d l = refl
  first_come (suc n) d l =
      let within : n < length z.mail = omega (arith, l) in
      let more : how_many mail.ready (take (n + 1) mail.messages) ≡ how_many mail.ready (take n mail.messages) + cond (may_come mail.ready (get_or mail.messages n d)) 1 0 =
      sum_by_more (λ m. cond {A = ℕ} (may_come mail.ready m) 1 0) mail.messages n d (omega (arith, within, as_long)) in
      ap (λ (k : ℕ). how_many mail.ready (take k mail.messages)) (sym (add-one n))
      ∙ count_more (comes_at w z) n (how_many mail.ready (take n mail.messages)) (how_many mail.ready (take (n + 1) mail.messages)) (may_come mail.ready (get_or mail.messages n d)) (said_at n d within) (first_come n d (omega (arith, l)))
      (more ∙ ap (λ (k : ℕ). how_many mail.ready (take n mail.messages) + k) (bit_is (may_come mail.ready (get_or mail.messages n d))))
      ∙ ap (λ (k : ℕ). length (passed (comes_at w z) k)) (add-one n)

  -- of all messages
  pub all_come : MessageData → how_many mail.ready mail.messages ≡ length (coming_in w z)
  all_come d = ap (how_many mail.ready) (sym (take_all (length z.mail) mail.messages (omega (arith, as_long)))) ∙ first_come (length z.mail) d (omega arith)

  module _ (k : ℕ) (m : MessageData) (left : List MessageData) (t : IsTaken mail.ready k mail.messages m left) where
    within : t.place < length z.mail
    within = omega (arith, slice_get_within mail.messages t.place m t.there, as_long)

    pub stands_there : m ≡ get_or mail.messages t.place m
    stands_there = sym (get_or_from_slice_get mail.messages t.place m m t.there)

    pub may_come_there : comes_at w z t.place ≡ true
    may_come_there = sym (said_at t.place m within) ∙ ap (may_come mail.ready) (sym stands_there) ∙ t.comes

    -- the message of a number that is taken stands where the machine has it
    pub place_is : slice_index_or (coming_in w z) k 0 ≡ t.place
    place_is = stands_at (comes_at w z) t.place (length z.mail) within may_come_there k (sym t.number ∙ first_come t.place m (omega (arith, within)))
