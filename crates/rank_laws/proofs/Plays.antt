-- Plays from one start are one; every play from the start of a machine gives the forces.
use Rattle.std.proofs.Common.{◌≡◌, ℕ, zero, suc, ◌+◌, ◌*◌, ◌<◌, ◌≤◌, Bool, true, false, cond, ◌&&◌, List, [], ◌∷◌, ◌++◌, length, sum_by, count_by, refl, ap, sym, ◌∙◌, arith, ◌⊎◌, inl, inr}
use Rattle.std.specs.Prelude.{Option, Some, None as Nothing, slice_get, nat_lt, replicate}
use Rattle.std.specs.List.{filter, flat_map, range_with_len}
use Rattle.std.proofs.lemmas.Bool.{false≢true, and_parts, ltb-true, cases_lt}
use Rattle.std.proofs.lemmas.List.Sums.{sum_by-cons, sum_by-append}
use Rattle.nbody_model.specs.declared.field.Event.{Event}
use Rattle.nbody_model.specs.Covers.{orient, interactions, opening_of}
use Rattle.nbody_model.specs.Force.{forces}
use Rattle.model_laws.proofs.Sums.{sum_by-flat_map, sum_by-mapped}
use Rattle.model_laws.proofs.Walk.{filter_sum}
use Rattle.model_laws.proofs.Partners.{ones}
use Rattle.model_laws.proofs.Ranks.{sum_by-on}
use Rattle.nbody_model.specs.Evolve.{is_empty}
use Rattle.rank_laws.specs.Trees.{all_from}
use Rattle.rank_laws.specs.Protocol.{World, Move, Acts, Comes, state, happens, may, may_come, IsRun, enabled, comes_by, listed, delivered, comes}
use Rattle.rank_laws.specs.Machine.{blank, Pair, Kind, Table, Sums, Want, Members, Parts, Ask, Reply, Message, Rank, through, action, Action, Build, Walk, Add, Share, None, is_some, kept, done_after, machine, start_world, after}
use Rattle.rank_laws.specs.Whole.{ranks, Whole, IsWhole, opening, depth_of, next_of, start_of, rules_of, ranks_of, is_counted, counted_in, counted}
use Rattle.rank_laws.specs.Runs.{unsent, received, IsFair, IsFinished, DeliversEach, all_needed, is_of}
use Rattle.rank_laws.specs.Kept.{HasCounts}
use Rattle.rank_laws.specs.Told.{told, told_act, told_message, is_ask, is_reply, is_walk, walked_size, told_kind}
use Rattle.rank_laws.specs.Played.{Picks, IsInRange, picked, IsPlayed, IsOnePlay, PlaysAreOne, EveryPlayIsWell, EveryPickPlays, PlaysWell, NothingShows}
use Rattle.rank_laws.proofs.Protocol.{IsKept, run_kept, potential, over-changed, each-get, over, over-ranks}
use Rattle.rank_laws.proofs.Machine.{IsSteady, IsGood, left}
use Rattle.rank_laws.proofs.Taken.{first}
use Rattle.rank_laws.proofs.Run.{lawful, start_kept}
use Rattle.rank_laws.proofs.Stuck.{range_below}
use Rattle.rank_laws.proofs.Numbered.{numbered_may, goes_on}
use Rattle.rank_laws.proofs.Finished.{InTurn, in_turn, events_deliver, is_bounded}
use Rattle.rank_laws.proofs.Fairness.{rules_fair}
use Rattle.rank_laws.proofs.Counted.{as_many}
use Rattle.rank_laws.proofs.KeptLaws.{has_forces}

-- ---- plays from one start are one

module _ (p : Picks) (w : Whole) where
  pub one_play : (m : World Rank Message) (a : List ℕ) (es fs : List Event) (z y : World Rank Message) (b c : List ℕ) → IsPlayed p w m a es z b → IsPlayed p w m a fs y c → IsOnePlay es fs z y b c
  one_play m a [] [] z y b c h k = record { events = refl; worlds = sym h.1 ∙ k.1; states = sym h.2 ∙ k.2 }
  one_play m a [] (f ∷ fs) z y b c h k = absurd (omega (arith, h.0, k.0))
  one_play m a (e ∷ es) [] z y b c h k = absurd (omega (arith, h.0, k.0))
  one_play m a (e ∷ es) (f ∷ fs) z y b c h k =
      let r : IsOnePlay es fs z y b c = one_play (happens (machine (rules_of w)) m (picked p w m a)) (p.after a (enabled (machine (rules_of w)) m)) es fs z y b c h.2 k.2 in
      record { events = ap (λ u. u ∷ es) (h.1 ∙ sym k.1) ∙ ap (λ us. f ∷ us) r.events; worlds = r.worlds; states = r.states }

  -- the moves of a play
  abbrev pub moves : World Rank Message → List ℕ → List Event → List Move
  moves m a [] = []
  moves m a (e ∷ es) = picked p w m a ∷ moves (happens (machine (rules_of w)) m (picked p w m a)) (p.after a (enabled (machine (rules_of w)) m)) es

  pub runs : (m : World Rank Message) (a : List ℕ) (es : List Event) (z : World Rank Message) (b : List ℕ) → IsPlayed p w m a es z b → IsRun (machine (rules_of w)) m (moves m a es) z
  runs m a [] z b h = h.1
  runs m a (e ∷ es) z b h = (
    numbered_may (machine (rules_of w)) m (p.answer a (enabled (machine (rules_of w)) m)) h.0,
    runs (happens (machine (rules_of w)) m (picked p w m a)) (p.after a (enabled (machine (rules_of w)) m)) es z b h.2,
  )

  pub ends : (m : World Rank Message) (a : List ℕ) (es : List Event) (z : World Rank Message) (b : List ℕ) → IsPlayed p w m a es z b → enabled (machine (rules_of w)) z ≡ 0
  ends m a [] z b h = ap (enabled (machine (rules_of w))) (sym h.1) ∙ h.0
  ends m a (e ∷ es) z b h = ends (happens (machine (rules_of w)) m (picked p w m a)) (p.after a (enabled (machine (rules_of w)) m)) es z b h.2

  as_long : (m : World Rank Message) (a : List ℕ) (es : List Event) → length (moves m a es) ≡ length es
  as_long m a [] = refl
  as_long m a (e ∷ es) = ap suc (as_long (happens (machine (rules_of w)) m (picked p w m a)) (p.after a (enabled (machine (rules_of w)) m)) es)

  -- asks and replies are told as such
  ask_kind : (m : Message) (k : Kind) → m.kind ≡ k → cond {A = ℕ} (is_ask (told_message w (Some m)).kind) 1 0 ≡ is_of Ask m
  ask_kind m Table e = rw e refl
  ask_kind m Sums e = rw e refl
  ask_kind m Want e = rw e refl
  ask_kind m Members e = rw e refl
  ask_kind m Parts e = rw e refl
  ask_kind m Ask e = rw e refl
  ask_kind m Reply e = rw e refl

  reply_kind : (m : Message) (k : Kind) → m.kind ≡ k → cond {A = ℕ} (is_reply (told_message w (Some m)).kind) 1 0 ≡ is_of Reply m
  reply_kind m Table e = rw e refl
  reply_kind m Sums e = rw e refl
  reply_kind m Want e = rw e refl
  reply_kind m Members e = rw e refl
  reply_kind m Parts e = rw e refl
  reply_kind m Ask e = rw e refl
  reply_kind m Reply e = rw e refl

  act_ask : (r : ℕ) (s : Rank) (a : Action) → cond {A = ℕ} (is_ask (told_act w r s a).kind) 1 0 ≡ 0
  act_ask r s Build = refl
  act_ask r s Walk = refl
  act_ask r s Add = refl
  act_ask r s Share = refl
  act_ask r s None = refl

  act_reply : (r : ℕ) (s : Rank) (a : Action) → cond {A = ℕ} (is_reply (told_act w r s a).kind) 1 0 ≡ 0
  act_reply r s Build = refl
  act_reply r s Walk = refl
  act_reply r s Add = refl
  act_reply r s Share = refl
  act_reply r s None = refl

  came_ask : (o : Option Message) → cond {A = ℕ} (is_ask (told_message w o).kind) 1 0 ≡ sum_by (is_of Ask) (listed (machine (rules_of w)) o)
  came_ask Nothing = refl
  came_ask (Some m) = ask_kind m m.kind refl ∙ (omega (arith, sum_by-cons (is_of Ask) m []))

  came_reply : (o : Option Message) → cond {A = ℕ} (is_reply (told_message w o).kind) 1 0 ≡ sum_by (is_of Reply) (listed (machine (rules_of w)) o)
  came_reply Nothing = refl
  came_reply (Some m) = reply_kind m m.kind refl ∙ (omega (arith, sum_by-cons (is_of Reply) m []))

  told_ask : (m : World Rank Message) (v : Move) → cond {A = ℕ} (is_ask (told w m v).kind) 1 0 ≡ sum_by (is_of Ask) (comes_by (machine (rules_of w)) m v)
  told_ask m (Acts r) = act_ask r (state (machine (rules_of w)) m r) (action (rules_of w) r (state (machine (rules_of w)) m r))
  told_ask m (Comes k) = came_ask (slice_get m.mail k)

  told_reply : (m : World Rank Message) (v : Move) → cond {A = ℕ} (is_reply (told w m v).kind) 1 0 ≡ sum_by (is_of Reply) (comes_by (machine (rules_of w)) m v)
  told_reply m (Acts r) = act_reply r (state (machine (rules_of w)) m r) (action (rules_of w) r (state (machine (rules_of w)) m r))
  told_reply m (Comes k) = came_reply (slice_get m.mail k)

  asks_told : (m : World Rank Message) (a : List ℕ) (es : List Event) (z : World Rank Message) (b : List ℕ) → IsPlayed p w m a es z b → count_by (λ (e : Event). is_ask e.kind) es ≡ sum_by (is_of Ask) (delivered (machine (rules_of w)) m (moves m a es))
  asks_told m a [] z b h = refl
  asks_told m a (e ∷ es) z b h =
      let n : World Rank Message = happens (machine (rules_of w)) m (picked p w m a) in
      let u : cond {A = ℕ} (is_ask e.kind) 1 0 ≡ sum_by (is_of Ask) (comes_by (machine (rules_of w)) m (picked p w m a)) = ap (λ (v : Event). cond {A = ℕ} (is_ask v.kind) 1 0) h.1 ∙ told_ask m (picked p w m a) in
      omega (
        arith,
        u,
        sum_by-cons (λ (e : Event). cond {A = ℕ} (is_ask e.kind) 1 0) e es,
        sum_by-append (is_of Ask) (comes_by (machine (rules_of w)) m (picked p w m a)) (delivered (machine (rules_of w)) (happens (machine (rules_of w)) m (picked p w m a)) (moves (happens (machine (rules_of w)) m (picked p w m a)) (p.after a (enabled (machine (rules_of w)) m)) es)),
        asks_told (happens (machine (rules_of w)) m (picked p w m a)) (p.after a (enabled (machine (rules_of w)) m)) es z b h.2,
      )

  replies_told : (m : World Rank Message) (a : List ℕ) (es : List Event) (z : World Rank Message) (b : List ℕ) → IsPlayed p w m a es z b → count_by (λ (e : Event). is_reply e.kind) es ≡ sum_by (is_of Reply) (delivered (machine (rules_of w)) m (moves m a es))
  replies_told m a [] z b h = refl
  replies_told m a (e ∷ es) z b h =
      let u : cond {A = ℕ} (is_reply e.kind) 1 0 ≡ sum_by (is_of Reply) (comes_by (machine (rules_of w)) m (picked p w m a)) = ap (λ (v : Event). cond {A = ℕ} (is_reply v.kind) 1 0) h.1 ∙ told_reply m (picked p w m a) in
      omega (
        arith,
        u,
        sum_by-cons (λ (e : Event). cond {A = ℕ} (is_reply e.kind) 1 0) e es,
        sum_by-append (is_of Reply) (comes_by (machine (rules_of w)) m (picked p w m a)) (delivered (machine (rules_of w)) (happens (machine (rules_of w)) m (picked p w m a)) (moves (happens (machine (rules_of w)) m (picked p w m a)) (p.after a (enabled (machine (rules_of w)) m)) es)),
        replies_told (happens (machine (rules_of w)) m (picked p w m a)) (p.after a (enabled (machine (rules_of w)) m)) es z b h.2,
      )

pub plays_one : PlaysAreOne
plays_one p w m a es fs z y b c h k = one_play p w m a es fs z y b c h k

-- ---- what a rank has worked off at the end is all that it reaches

none_on : {X : Type 0} (walked : Bool) (list start : List X) (g : X → ℕ) → (walked && is_empty list) ≡ true → sum_by g (cond walked list start) ≡ 0
none_on true [] start g e = refl
none_on true (x ∷ xs) start g e = absurd (false≢true e)
none_on false xs start g e = absurd (false≢true e)

done_sum : (w : Whole) (r : ℕ) (s : Rank) → IsSteady (rules_of w) r s → through (rules_of w) s ≡ true → (g : Pair → ℕ) → sum_by g s.done ≡ sum_by g (flat_map (all_from depth_of (next_of w r)) (start_of w r))
done_sum w r s k e g = omega (
  arith,
  k.settled g,
  none_on s.walked s.list (start_of w r) (λ x. sum_by g (all_from depth_of (next_of w r) x)) e,
  sum_by-flat_map g (all_from depth_of (next_of w r)) (start_of w r),
)

counted_weight : (w : Whole) (r : ℕ) (h : Pair → ℕ) (xs : List Pair) → sum_by h (counted_in w r xs) ≡ sum_by (λ x. cond (is_counted w r x) (h (orient x)) 0) xs
counted_weight w r h xs = sum_by-mapped h orient (filter (is_counted w r) xs) ∙ filter_sum (is_counted w r) (λ x. h (orient x)) xs

pub done_counted : (w : Whole) (r : ℕ) (s : Rank) → IsSteady (rules_of w) r s → through (rules_of w) s ≡ true → (h : Pair → ℕ) → sum_by h (counted_in w r s.done) ≡ sum_by h (counted w r)
unfolding counted
done_counted w r s k e h =
    counted_weight w r h s.done
    ∙ done_sum w r s k e (λ x. cond (is_counted w r x) (h (orient x)) 0)
    ∙ sym (counted_weight w r h (flat_map (all_from depth_of (next_of w r)) (start_of w r)))

done_many : (w : Whole) (r : ℕ) (s : Rank) → IsSteady (rules_of w) r s → through (rules_of w) s ≡ true → length (counted_in w r s.done) ≡ length (counted w r)
done_many w r s k e = sym (ones (counted_in w r s.done)) ∙ done_counted w r s k e (λ x. 1) ∙ ones (counted w r)

-- in a finished machine the ranks have counted as many pairs as there are interactions
pub has_counts : HasCounts
has_counts w whole es z run e =
    let fair : IsFair (rules_of w) = rules_fair w whole in
    let f : IsFinished (rules_of w) z = goes_on (rules_of w) fair es z run e in
    let k : IsKept (machine (rules_of w)) (unsent (rules_of w)) (received (rules_of w)) (left (rules_of w)) (IsSteady (rules_of w)) (IsGood (rules_of w)) (first (rules_of w) fair) z =
    (run_kept (machine (rules_of w)) (unsent (rules_of w)) (received (rules_of w)) (left (rules_of w)) (IsSteady (rules_of w)) (IsGood (rules_of w)) (first (rules_of w) fair) (lawful (rules_of w) fair) (start_world (rules_of w)) z es (start_kept (rules_of w) fair) run).0 in
    sum_by-on (λ r. length (counted_in w r (state (machine (rules_of w)) z r).done)) (λ r. length (counted w r)) (ranks w)
    (λ q i. let lt : q < ranks_of w = omega (arith, range_below 0 (ranks_of w) q i) in
    let u : InTurn (rules_of w) (state (machine (rules_of w)) z q) = in_turn (rules_of w) es z run q in
    done_many w q (state (machine (rules_of w)) z q) (k.local q lt) (u.adds (u.shares (f.shared q lt))))
    ∙ as_many w whole

-- ---- what the walks count

counted-append : (w : Whole) (r : ℕ) (xs ys : List Pair) → length (counted_in w r (xs ++ ys)) ≡ length (counted_in w r xs) + length (counted_in w r ys)
counted-append w r xs ys = omega (
  arith,
  ones (counted_in w r (xs ++ ys)),
  ones (counted_in w r xs),
  ones (counted_in w r ys),
  counted_weight w r (λ x. 1) (xs ++ ys),
  counted_weight w r (λ x. 1) xs,
  counted_weight w r (λ x. 1) ys,
  sum_by-append (λ x. cond {A = ℕ} (is_counted w r x) 1 0) xs ys,
)

abbrev worked : Whole → ℕ → Rank → ℕ
worked w r s = length (counted_in w r s.done)

acted_size : (w : Whole) (r : ℕ) (s : Rank) (a : Action) → worked w r (after (rules_of w) r s a) ≡ walked_size (told_act w r s a) + worked w r s
acted_size w r s Build = omega arith
acted_size w r s Walk = omega (arith, counted-append w r s.done (done_after (rules_of w) r s))
acted_size w r s Add = omega arith
acted_size w r s Share = omega arith
acted_size w r s None = omega arith

kept_size : (w : Whole) (r : ℕ) (m : Message) (s : Rank) (k : Kind) → worked w r (kept (rules_of w) m s k) ≡ worked w r s
kept_size w r m s Reply = refl
kept_size w r m s Ask = refl
kept_size w r m s Want = refl
kept_size w r m s Table = refl
kept_size w r m s Sums = refl
kept_size w r m s Members = refl
kept_size w r m s Parts = refl

told_none : (m : Message) (k : Kind) → is_walk (told_kind k) ≡ false
told_none m Table = refl
told_none m Sums = refl
told_none m Want = refl
told_none m Members = refl
told_none m Parts = refl
told_none m Ask = refl
told_none m Reply = refl

module _ (p : Picks) (w : Whole) (whole : IsWhole w) where
  abbrev Kept : World Rank Message → Type 0
  Kept m = IsKept (machine (rules_of w)) (unsent (rules_of w)) (received (rules_of w)) (left (rules_of w)) (IsSteady (rules_of w)) (IsGood (rules_of w)) (first (rules_of w) (rules_fair w whole)) m

  abbrev left_of : World Rank Message → ℕ
  left_of m = potential (machine (rules_of w)) (unsent (rules_of w)) (received (rules_of w)) (left (rules_of w)) (IsSteady (rules_of w)) (IsGood (rules_of w)) (first (rules_of w) (rules_fair w whole)) m

  one_step : (m : World Rank Message) (a : List ℕ) → Kept m → p.answer a (enabled (machine (rules_of w)) m) < enabled (machine (rules_of w)) m → Kept (happens (machine (rules_of w)) m (picked p w m a)) × (1 + left_of (happens (machine (rules_of w)) m (picked p w m a)) ≤ left_of m)
  one_step m a k h = run_kept (machine (rules_of w)) (unsent (rules_of w)) (received (rules_of w)) (left (rules_of w)) (IsSteady (rules_of w)) (IsGood (rules_of w)) (first (rules_of w) (rules_fair w whole)) (lawful (rules_of w) (rules_fair w whole)) m (happens (machine (rules_of w)) m (picked p w m a)) (picked p w m a ∷ []) k
      (numbered_may (machine (rules_of w)) m (p.answer a (enabled (machine (rules_of w)) m)) h, refl)

  -- ---- there is a play

  pub record HasEnd (m : World Rank Message) (a : List ℕ) : Type 0 where
    pub events : List Event
    pub last : World Rank Message
    pub rest : List ℕ
    pub played : IsPlayed p w m a events last rest

  with_first : IsInRange p → (m : World Rank Message) (a : List ℕ) → 0 < enabled (machine (rules_of w)) m → HasEnd (happens (machine (rules_of w)) m (picked p w m a)) (p.after a (enabled (machine (rules_of w)) m)) → HasEnd m a
  with_first r m a h e = record { events = told w m (picked p w m a) ∷ e.events; last = e.last; rest = e.rest; played = (r a (enabled (machine (rules_of w)) m) h, refl, e.played) }

  by_enabled : IsInRange p → (m : World Rank Message) (a : List ℕ) → (0 < enabled (machine (rules_of w)) m → HasEnd (happens (machine (rules_of w)) m (picked p w m a)) (p.after a (enabled (machine (rules_of w)) m))) → (0 < enabled (machine (rules_of w)) m) ⊎ (enabled (machine (rules_of w)) m ≤ 0) → HasEnd m a
  by_enabled r m a rest (inl h) = with_first r m a h (rest h)
  by_enabled r m a rest (inr e) = record { events = []; last = m; rest = a; played = (omega (arith, e), refl, refl) }

  pub to_end : IsInRange p → (n : ℕ) (m : World Rank Message) (a : List ℕ) → Kept m → left_of m ≤ n → HasEnd m a
  to_end r zero m a k l = by_enabled r m a (λ h. absurd (omega (arith, l, (one_step m a k (r a (enabled (machine (rules_of w)) m) h)).1))) (cases_lt 0 (enabled (machine (rules_of w)) m))
  to_end r (suc n) m a k l = by_enabled r m a (λ h. to_end r n (happens (machine (rules_of w)) m (picked p w m a)) (p.after a (enabled (machine (rules_of w)) m)) (one_step m a k (r a (enabled (machine (rules_of w)) m) h)).0 (omega (arith, l, (one_step m a k (r a (enabled (machine (rules_of w)) m) h)).1))) (cases_lt 0 (enabled (machine (rules_of w)) m))

  -- ---- what the walks count, over a play

  not_walk : (x : Message) → walked_size (told_message w (Some x)) ≡ 0
  not_walk x = ap (λ b. cond {A = ℕ} b (told_message w (Some x)).size 0) (told_none x x.kind)

  step_size : (m : World Rank Message) (v : Move) → Kept m → may (machine (rules_of w)) m v ≡ true → over (machine (rules_of w)) (worked w) 0 (happens (machine (rules_of w)) m v).states ≡ over (machine (rules_of w)) (worked w) 0 m.states + walked_size (told w m v)
  step_size m (Acts q) k y =
      let s : Rank = state (machine (rules_of w)) m q in
      let b : (nat_lt q (ranks_of w) ≡ true) × (is_some (action (rules_of w) q (state (machine (rules_of w)) m q)) ≡ true) = and_parts (nat_lt q (ranks_of w)) (is_some (action (rules_of w) q (state (machine (rules_of w)) m q))) y in
      omega (
        arith,
        over-changed (machine (rules_of w)) (worked w) m.states q (after (rules_of w) q (state (machine (rules_of w)) m q) (action (rules_of w) q (state (machine (rules_of w)) m q))) (omega (arith, k.size, ltb-true q (ranks_of w) b.0)),
        acted_size w q (state (machine (rules_of w)) m q) (action (rules_of w) q (state (machine (rules_of w)) m q)),
      )
  step_size m (Comes j) k y = came (slice_get m.mail j) refl y
    where
      came : (o : Option Message) → slice_get m.mail j ≡ o → may_come (machine (rules_of w)) m o ≡ true → over (machine (rules_of w)) (worked w) 0 (comes (machine (rules_of w)) m j o).states ≡ over (machine (rules_of w)) (worked w) 0 m.states + walked_size (told_message w o)
      came Nothing e y = absurd (false≢true y)
      came (Some x) e y =
          let good : IsGood (rules_of w) x = each-get (machine (rules_of w)) (unsent (rules_of w)) (received (rules_of w)) (left (rules_of w)) (IsSteady (rules_of w)) (IsGood (rules_of w)) (first (rules_of w) (rules_fair w whole)) m.mail j x k.good e in
          let lt : x.to < ranks_of w = good.to_in in
          omega (
            arith,
            over-changed (machine (rules_of w)) (worked w) m.states x.to (kept (rules_of w) x (state (machine (rules_of w)) m x.to) x.kind) (omega (arith, k.size, lt)),
            kept_size w x.to x (state (machine (rules_of w)) m x.to) x.kind,
            not_walk x,
          )

  walked_in : (m : World Rank Message) (a : List ℕ) (es : List Event) (z : World Rank Message) (b : List ℕ) → Kept m → IsPlayed p w m a es z b → over (machine (rules_of w)) (worked w) 0 m.states + sum_by walked_size es ≡ over (machine (rules_of w)) (worked w) 0 z.states
  walked_in m a [] z b k h = (omega arith) ∙ ap (λ (u : World Rank Message). over (machine (rules_of w)) (worked w) 0 u.states) h.1
  walked_in m a (e ∷ es) z b k h =
      let u : walked_size e ≡ walked_size (told w m (picked p w m a)) = ap walked_size h.1 in
      omega (
        arith,
        u,
        sum_by-cons walked_size e es,
        step_size m (picked p w m a) k (numbered_may (machine (rules_of w)) m (p.answer a (enabled (machine (rules_of w)) m)) h.0),
        walked_in (happens (machine (rules_of w)) m (picked p w m a)) (p.after a (enabled (machine (rules_of w)) m)) es z b (one_step m a k h.0).0 h.2,
      )

start_none : (w : Whole) (i n : ℕ) → over (machine (rules_of w)) (worked w) i (replicate n blank) ≡ 0
start_none w i zero = refl
start_none w i (suc n) = omega (arith, start_none w (i + 1) n)

pub pick_plays : EveryPickPlays
pick_plays p r w whole a =
    let e : HasEnd p w whole (start_world (rules_of w)) a = to_end p w whole r (left_of p w whole (start_world (rules_of w))) (start_world (rules_of w)) a (start_kept (rules_of w) (rules_fair w whole)) (omega arith) in
    record { events = e.events; last = e.last; left = e.rest; played = e.played }

pub plays_well : EveryPlayIsWell
plays_well p w whole a es z b h =
    let fair : IsFair (rules_of w) = rules_fair w whole in
    let run : IsRun (machine (rules_of w)) (start_world (rules_of w)) (moves p w (start_world (rules_of w)) a es) z = runs p w (start_world (rules_of w)) a es z b h in
    let e : enabled (machine (rules_of w)) z ≡ 0 = ends p w (start_world (rules_of w)) a es z b h in
    let f : IsFinished (rules_of w) z = goes_on (rules_of w) fair (moves p w (start_world (rules_of w)) a es) z run e in
    let d : DeliversEach (rules_of w) (moves p w (start_world (rules_of w)) a es) = events_deliver (rules_of w) fair (moves p w (start_world (rules_of w)) a es) z run e in
    let k : IsKept (machine (rules_of w)) (unsent (rules_of w)) (received (rules_of w)) (left (rules_of w)) (IsSteady (rules_of w)) (IsGood (rules_of w)) (first (rules_of w) fair) z =
    (run_kept (machine (rules_of w)) (unsent (rules_of w)) (received (rules_of w)) (left (rules_of w)) (IsSteady (rules_of w)) (IsGood (rules_of w)) (first (rules_of w) fair) (lawful (rules_of w) fair) (start_world (rules_of w)) z (moves p w (start_world (rules_of w)) a es) (start_kept (rules_of w) fair) run).0 in
    let l : length (moves p w (start_world (rules_of w)) a es) ≡ length es = as_long p w (start_world (rules_of w)) a es in
    let bound : length (moves p w (start_world (rules_of w)) a es) + ranks_of w ≤ 5 * ranks_of w * ranks_of w + 3 * all_needed (rules_of w) = is_bounded (rules_of w) fair (moves p w (start_world (rules_of w)) a es) z run in
    let counted_all : sum_by (λ r. length (counted_in w r (state (machine (rules_of w)) z r).done)) (ranks w) ≡ length (interactions (opening w)) = has_counts w whole (moves p w (start_world (rules_of w)) a es) z run e in
    let sizes : sum_by (λ r. worked w r (state (machine (rules_of w)) z r)) (range_with_len 0 (length z.states)) ≡ sum_by (λ r. worked w r (state (machine (rules_of w)) z r)) (ranks w) = ap (λ (n : ℕ). sum_by (λ r. worked w r (state (machine (rules_of w)) z r)) (range_with_len 0 n)) k.size in
    record {
      finished = f;
      few = omega (arith, l, bound);
      asks = asks_told p w (start_world (rules_of w)) a es z b h ∙ d.asks;
      replies = replies_told p w (start_world (rules_of w)) a es z b h ∙ d.replies;
      counted = counted_all;
      forces = has_forces w whole (moves p w (start_world (rules_of w)) a es) z run e;
      walked = omega (
        arith,
        walked_in p w whole (start_world (rules_of w)) a es z b (start_kept (rules_of w) fair) h,
        start_none w 0 (ranks_of w),
        over-ranks (machine (rules_of w)) (worked w) z,
        sizes,
        counted_all,
      );
    }

pub shows_nothing : NothingShows
shows_nothing p q v w u x same alike a c es fs y z b d h k =
    let f : PlaysWell v es y = plays_well p v u a es y b h in
    let g : PlaysWell w fs z = plays_well q w x c fs z d k in
    record {
      forces = f.forces ∙ (λ i. forces (alike i) (same i)) ∙ sym g.forces;
      counted = f.counted ∙ (λ i. length (interactions (opening_of (alike i).setup (same i)))) ∙ sym g.counted;
    }
