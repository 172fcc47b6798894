-- The machine after an event.
use Rattle.std.proofs.Common.{◌≡◌, ℕ, ◌<◌, ◌⊎◌, inl, inr, Bool, true, false, List, [], ◌∷◌, ◌++◌, length, map, get_or, set, zero, suc, refl, ap, sym, ◌∙◌, arith, subst}
use Rattle.std.specs.Prelude.{Option, Some, None, option_map, slice_get, nat_lt}
use Rattle.std.specs.List.{remove}
use Rattle.std.proofs.lemmas.Bool.{and_parts, cases_eq, false≢true, ltb-true}
use Rattle.std.proofs.lemmas.List.{get_or-set_same, get_or-set_other, length-set, map-append}
use Rattle.std.proofs.lemmas.Option.{get_or_from_slice_get, slice_get-map}
use Rattle.nbody_model.specs.declared.field.Event.{Event}
use Rattle.nbody_model.specs.declared.field.EventKind.{EventKind}
use Rattle.rank_laws.specs.Protocol.{World, Move, Acts, Comes, comes, happens, may, may_come, state}
use Rattle.rank_laws.specs.Machine.{Message, Rank, accepted, action, after, answers_of, blank, is_some, kept, machine, ready, sent, start_world}
use Rattle.rank_laws.specs.Whole.{Whole, ranks_of, rules_of}
use Rattle.rank_laws.specs.Told.{told, told_action, told_message}
use Rattle.rank_laws.proofs.Fairness.{rules_fair}
use Rattle.rank_exchange.specs.Messages.{MessageData, filled}
use Rattle.rank_exchange.specs.declared.rank.Acted.{Acted}
use Rattle.rank_exchange.specs.Moments.{Arrival, Moment, state_at}
use Rattle.rank_exchange.specs.Ranks.{Attends, HasActed, HasTaken, IsAt, IsRank, RankData, handed_back}
use Rattle.rank_exchange.proofs.Moves.{acted, arrived, run_more, state_acted, state_arrived}
use Rattle.rank_exchange.proofs.Senders.{is_kept}
use Rattle.rank_mail.specs.Mails.{IsTaken}
use Rattle.rank_field.specs.Machines.{CanHappen, HasHappened, HoldsMail, IsMachine, MachineData, RunsTo, moment_of}
use Rattle.rank_field.proofs.Coming.{may_come_there, stands_there}
use Rattle.rank_field.proofs.Readiness.{marked}
use Rattle.rank_field.proofs.Travelling.{Travels, goes_to}

removed : {X Y : Type 0} (f : X → Y) (xs : List X) (k : ℕ) → remove (map f xs) k ≡ map f (remove xs k)
removed f [] zero = refl
removed f [] (suc k) = refl
removed f (x ∷ xs) zero = refl
removed f (x ∷ xs) (suc k) = ap (λ ys. f x ∷ ys) (removed f xs k)

module _ (w : Whole) (z : World Rank Message) where
  pub runs_on : RunsTo w z → (x : Move) → may (machine (rules_of w)) z x ≡ true → RunsTo w (happens (machine (rules_of w)) z x)
  runs_on h x y = record {
    events = h.events ++ x ∷ [];
    is_whole = h.is_whole;
    softenings = h.softenings;
    along = h.along;
    small = h.small;
    few = h.few;
    run = run_more (machine (rules_of w)) (start_world (rules_of w)) z h.events x h.run y;
  }

  states_long : RunsTo w z → length z.states ≡ ranks_of w
  states_long h = (is_kept (rules_of w) (rules_fair w h.is_whole) h.events z h.run).size

  -- one rank changed in an event, and the mail
  pub next : (v : MachineData) (x : Move) (q : ℕ) (s : Rank) (mail : List Message) → IsMachine w z v → may (machine (rules_of w)) z x ≡ true →
      happens (machine (rules_of w)) z x ≡ record { states = set z.states q s; mail = mail } → q < ranks_of w →
      (r : RankData) → IsRank w q s r → (u : MachineData) → u.ranks.items ≡ set v.ranks.items q r → HoldsMail w (record { states = set z.states q s; mail = mail }) u.mail →
      u.kit.now ≡ v.kit.now → u.bounds ≡ v.bounds → u.owners.items ≡ v.owners.items → u.spent ≡ false →
      IsMachine w (happens (machine (rules_of w)) z x) u
  next v x q s mail h y e lt r is_rank u ranks mails kit bounds owners lasts = record {
    run = runs_on h.run x y;
    ranks = ap length ranks ∙ length-set v.ranks.items q r ∙ h.ranks;
    each = λ p d within. subst (λ (t : World Rank Message). IsRank w p (state (machine (rules_of w)) t p) (get_or u.ranks.items p d)) (sym e)
        (subst (λ (xs : List RankData). IsRank w p (get_or (set z.states q s) p blank) (get_or xs p d)) (sym ranks) (at p d within (cases_eq p q)));
    mail = subst (λ (t : World Rank Message). HoldsMail w t u.mail) (sym e) mails;
    gravity = h.gravity ∙ sym kit;
    bounds = h.bounds ∙ sym bounds;
    owners = owners ∙ h.owners;
    lasts = lasts;
  }
    where
      at : (p : ℕ) (d : RankData) → p < ranks_of w → (p ≡ q) ⊎ (p ≡ q → ⊥) → IsRank w p (get_or (set z.states q s) p blank) (get_or (set v.ranks.items q r) p d)
      at p d within (inl same) = subst (λ (p : ℕ). IsRank w p (get_or (set z.states q s) p blank) (get_or (set v.ranks.items q r) p d)) (sym same)
          (subst (λ (t : Rank). IsRank w q t (get_or (set v.ranks.items q r) q d)) (sym (get_or-set_same z.states q s blank (omega (arith, states_long h.run, lt))))
          (subst (IsRank w q s) (sym (get_or-set_same v.ranks.items q r d (omega (arith, h.ranks, lt)))) is_rank))
      at p d within (inr other) = subst (λ (t : Rank). IsRank w p t (get_or (set v.ranks.items q r) p d)) (sym (get_or-set_other z.states q p s blank other))
          (subst (IsRank w p (state (machine (rules_of w)) z p)) (sym (get_or-set_other v.ranks.items q p r d other)) (h.each p d within))

  -- the mail is told of the rank, as it was and as it is
  pub tells_mail : (v : MachineData) (h : IsMachine w z v) (q : ℕ) → q < ranks_of w → (s : Rank) (was is : Bool) (entries : List Bool) →
      was ≡ ready (rules_of w) q (state (machine (rules_of w)) z q) → is ≡ ready (rules_of w) q s →
      (ready (rules_of w) q (state (machine (rules_of w)) z q) ≡ true → ready (rules_of w) q s ≡ true) →
      (get_or v.mail.ready q false ≡ was → (was ≡ true → is ≡ true) → entries ≡ set v.mail.ready q is) → entries ≡ set v.mail.ready q (ready (rules_of w) q s)
  tells_mail v h q lt s was is entries was_is is_is stays told = told (h.mail.each q lt ∙ sym was_is) (λ e. is_is ∙ stays (sym was_is ∙ e)) ∙ ap (set v.mail.ready q) is_is

  -- a rank that acts
  pub record ActsNext (v : MachineData) (r : ℕ) : Type 0 where
    pub within : r < ranks_of w
    pub some : is_some (action (rules_of w) r (state (machine (rules_of w)) z r)) ≡ true

  pub acts_next : (v : MachineData) (r : ℕ) → CanHappen w z (Acts r) v → ActsNext v r
  acts_next v r h =
      let p : (nat_lt r (ranks_of w) ≡ true) × (is_some (action (rules_of w) r (state (machine (rules_of w)) z r)) ≡ true) = and_parts (nat_lt r (ranks_of w)) (is_some (action (rules_of w) r (state (machine (rules_of w)) z r))) h.may in
      record { within = ltb-true r (ranks_of w) p.0; some = p.1 }

  pub attends : (v : MachineData) (h : IsMachine w z v) (r : ℕ) (lt : r < ranks_of w) (d : RankData) → d ≡ get_or v.ranks.items r d → Attends (moment_of w z h.run r lt) v.kit.now v.bounds d
  attends v h r lt d e = record { rank = subst (IsRank w r (state (machine (rules_of w)) z r)) (sym e) (h.each r d lt); gravity = h.gravity; bounds = h.bounds }

  module _ (v : MachineData) (r : ℕ) (h : CanHappen w z (Acts r) v) (a : Acted) (new : RankData) (d : HasActed (moment_of w z h.machine.run r (acts_next v r h).within) a new) where
    abbrev before : Rank
    before = state (machine (rules_of w)) z r

    abbrev pub behind : Rank
    behind = after (rules_of w) r before (action (rules_of w) r before)

    -- the rank after its action tells whether it is ready
    pub acted_ready : (is : Bool) → ((m : Moment) → IsAt m new → is ≡ ready (rules_of m.whole) m.rank (state_at m)) → is ≡ ready (rules_of w) r behind
    acted_ready is told =
        let some = (acts_next v r h).some in
        let m : Moment = moment_of w z h.machine.run r (acts_next v r h).within in
        told (acted m some) (subst (λ (s : Rank). IsRank w r s new) (sym (state_acted m some)) d.rank) ∙ ap (ready (rules_of w) r) (state_acted m some)

    pub has_acted : (u : MachineData) → u.ranks.items ≡ set v.ranks.items r new → u.mail.messages ≡ v.mail.messages ++ a.messages.items → u.mail.ready ≡ set v.mail.ready r (ready (rules_of w) r behind) →
        u.kit.now ≡ v.kit.now → u.bounds ≡ v.bounds → u.owners.items ≡ v.owners.items → u.spent ≡ false → HasHappened w z (Acts r) (record { kind = a.kind; «from» = r; to = r; size = a.size }) v u
    has_acted u ranks mails entries kit bounds owners lasts =
        let all : List Message = sent (rules_of w) r before (action (rules_of w) r before) in
        let messages : u.mail.messages ≡ map (filled w) (z.mail ++ all) =
        mails ∙ ap (λ ms. ms ++ a.messages.items) h.machine.mail.messages ∙ ap (λ ms. map (filled w) z.mail ++ ms) d.messages ∙ sym (map-append (filled w) z.mail all) in
        let mail = marked w z v.mail u.mail r behind (z.mail ++ all) h.machine.mail (states_long h.machine.run) (acts_next v r h).within messages entries in
        record {
          event = ap (λ (k : EventKind). let e : Event = record { kind = k; «from» = r; to = r; size = a.size } in e) d.kind ∙ ap (λ (n : ℕ). let e : Event = record { kind = told_action (action (rules_of w) r before); «from» = r; to = r; size = n } in e) d.size;
          machine = next v (Acts r) r behind (z.mail ++ all) h.machine h.may refl (acts_next v r h).within new d.rank u ranks mail kit bounds owners lasts;
          others = λ q e n. ap (λ vs. get_or vs q e) ranks ∙ get_or-set_other v.ranks.items r q new e n;
          mail = record { sent = a.messages.items; kept = inl mails };
        }

  -- a message that comes to its rank
  pub record ComesNext (k : ℕ) (m : MessageData) : Type 0 where
    pub message : Message
    pub there : slice_get z.mail k ≡ Some message
    pub travels : Travels w message m
    pub taken : accepted (rules_of w) message (state (machine (rules_of w)) z message.to) message.kind ≡ true

  pub comes_next : (v : MachineData) (k : ℕ) (m : MessageData) → CanHappen w z (Comes k) v → m ≡ get_or v.mail.messages k m → ComesNext k m
  comes_next v k m h e = case (slice_get z.mail k) refl h.may
    where
      case : (o : Option Message) → slice_get z.mail k ≡ o → may_come (machine (rules_of w)) z o ≡ true → ComesNext k m
      case None f y = absurd (false≢true y)
      case (Some x) f y = record {
        message = x;
        there = f;
        travels = record {
          filled_in = e ∙ ap (λ ms. get_or ms k m) h.machine.mail.messages ∙ get_or_from_slice_get (map (filled w) z.mail) k (filled w x) m (slice_get-map (filled w) z.mail k ∙ ap (option_map (filled w)) f);
          to_in = goes_to w z h.machine.run k x f;
        };
        taken = y;
      }

  abbrev pub arrival : (v : MachineData) (k : ℕ) (m : MessageData) → IsMachine w z v → ComesNext k m → Arrival
  arrival v k m h n = record {
    moment = moment_of w z h.run n.message.to n.travels.to_in;
    place = k;
    message = n.message;
    there = n.there;
    to = refl;
    accepted = n.taken;
  }

  pub rank_there : (v : MachineData) (k : ℕ) (m : MessageData) (h : IsMachine w z v) (n : ComesNext k m) (q : ℕ) → q ≡ n.message.to → (d : RankData) → d ≡ get_or v.ranks.items q d → IsAt (arrival v k m h n).moment d
  rank_there v k m h n q to d e = subst (IsRank w n.message.to (state (machine (rules_of w)) z n.message.to)) (sym (e ∙ ap (λ (q : ℕ). get_or v.ranks.items q d) to)) (h.each n.message.to d n.travels.to_in)

  -- the message that is taken out of the mail
  pub taken_next : (v : MachineData) (k : ℕ) (m : MessageData) (left : List MessageData) (h : IsMachine w z v) (t : IsTaken v.mail.ready k v.mail.messages m left) → ComesNext t.place m
  taken_next v k m left h t = comes_next v t.place m (record { may = may_come_there w z h.run v.mail h.mail k m left t; machine = h }) (stands_there w z h.run v.mail h.mail k m left t)

  module _ (v : MachineData) (k : ℕ) (h : IsMachine w z v) (m : MessageData) (n : ComesNext k m) (out : Option MessageData) (new : RankData) (d : HasTaken (arrival v k m h n) out new) where
    abbrev pub reached : Rank
    reached = kept (rules_of w) n.message (state (machine (rules_of w)) z n.message.to) n.message.kind

    -- the rank that took it tells whether it is ready
    pub come_ready : (is : Bool) → ((m : Moment) → IsAt m new → is ≡ ready (rules_of m.whole) m.rank (state_at m)) → is ≡ ready (rules_of w) n.message.to reached
    come_ready is told =
        let a : Arrival = arrival v k m h n in
        told (arrived a) (subst (λ (s : Rank). IsRank w n.message.to s new) (sym (state_arrived a)) d.rank) ∙ ap (ready (rules_of w) n.message.to) (state_arrived a)

    has_come : may (machine (rules_of w)) z (Comes k) ≡ true → (q : ℕ) → q ≡ n.message.to → (e : Event) → e ≡ told_message w (Some n.message) →
        (u : MachineData) → u.ranks.items ≡ set v.ranks.items q new → u.mail.messages ≡ remove v.mail.messages k ++ handed_back out → u.mail.ready ≡ set v.mail.ready n.message.to (ready (rules_of w) n.message.to reached) →
        u.kit.now ≡ v.kit.now → u.bounds ≡ v.bounds → u.owners.items ≡ v.owners.items → u.spent ≡ false → HasHappened w z (Comes k) e v u
    has_come y q to e event u ranks mails entries kit bounds owners lasts =
        let x : Message = n.message in
        let all : List Message = answers_of (rules_of w) x x.kind in
        let at : u.ranks.items ≡ set v.ranks.items x.to new = ranks ∙ ap (λ (q : ℕ). set v.ranks.items q new) to in
        let messages : u.mail.messages ≡ map (filled w) (remove z.mail k ++ all) =
        mails ∙ ap (λ ms. remove ms k ++ handed_back out) h.mail.messages ∙ ap (λ ms. ms ++ handed_back out) (removed (filled w) z.mail k) ∙ ap (λ ms. map (filled w) (remove z.mail k) ++ ms) d.answer ∙ sym (map-append (filled w) (remove z.mail k) all) in
        let mail = marked w z v.mail u.mail x.to reached (remove z.mail k ++ all) h.mail (states_long h.run) n.travels.to_in messages entries in
        record {
          event = event ∙ ap (told_message w) (sym n.there);
          machine = next v (Comes k) x.to reached (remove z.mail k ++ all) h y (ap (comes (machine (rules_of w)) z k) n.there) n.travels.to_in new d.rank u at mail kit bounds owners lasts;
          others = λ p i other. ap (λ vs. get_or vs p i) at ∙ get_or-set_other v.ranks.items x.to p new i (λ f. other (f ∙ sym (ap (λ (t : Event). t.to) event)));
          mail = record { sent = handed_back out; kept = inr (k, mails) };
        }

    -- the same, where the place is told by another name
    pub has_come_at : (p : ℕ) → p ≡ k → may (machine (rules_of w)) z (Comes k) ≡ true → (q : ℕ) → q ≡ n.message.to → (e : Event) → e ≡ told_message w (Some n.message) →
        (u : MachineData) → u.ranks.items ≡ set v.ranks.items q new → u.mail.messages ≡ remove v.mail.messages k ++ handed_back out → u.mail.ready ≡ set v.mail.ready n.message.to (ready (rules_of w) n.message.to reached) →
        u.kit.now ≡ v.kit.now → u.bounds ≡ v.bounds → u.owners.items ≡ v.owners.items → u.spent ≡ false → HasHappened w z (Comes p) e v u
    has_come_at p place y q to e event u ranks mails entries kit bounds owners lasts = subst (λ (k : ℕ). HasHappened w z (Comes k) e v u) (sym place) (has_come y q to e event u ranks mails entries kit bounds owners lasts)
