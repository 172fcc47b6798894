-- Messages are kept, and events run out, in every run of a protocol.
use Rattle.std.proofs.Common.{◌≡◌, ℕ, zero, suc, ◌+◌, ◌<◌, ◌≤◌, true, List, [], ◌∷◌, ◌++◌, length, sum_by, refl, ap, sym, ◌∙◌, arith, ◌⊎◌, inl, inr, subst, get_or, zero-add}
use Rattle.std.specs.Prelude.{Option, Some, None, slice_get, slice_set, slice_index_or, nat_lt}
use Rattle.std.specs.List.{remove, AllByRecursion, range_with_len}
use Rattle.std.proofs.lemmas.Bool.{ltb-true, false≢true, and_parts, cases_eq}
use Rattle.std.proofs.lemmas.List.Sums.{sum_by-append, sum_by-cons, sum_by-remove}
use Rattle.std.proofs.lemmas.List.{length-set, get_or-set_same, get_or-set_other}
use Rattle.rank_laws.specs.Protocol.{Protocol, World, Move, Acts, Comes, state, comes, happens, may, may_come, IsRun, comes_by, listed, delivered}

module _ {S M : Type 0} (p : Protocol S M) where
  -- the weight of a message and of its answers
  abbrev pub with_answers : (M → ℕ) → M → ℕ
  with_answers g m = g m + sum_by g (p.answers m)

  -- a sum over the ranks' states
  abbrev pub over : (ℕ → S → ℕ) → ℕ → List S → ℕ
  over f i [] = 0
  over f i (s ∷ ss) = f i s + over f (i + 1) ss

module _ {S M : Type 0} (p : Protocol S M) where
  over-set : (f : ℕ → S → ℕ) (i : ℕ) (ss : List S) (k : ℕ) (s : S) → k < length ss → over p f i (slice_set ss k s) + f (i + k) (slice_index_or ss k p.blank) ≡ over p f i ss + f (i + k) s
  over-set f i [] k s h = absurd (omega (arith, h))
  over-set f i (t ∷ ts) zero s h = let e : i + 0 ≡ i = omega arith in rw e (omega arith)
  over-set f i (t ∷ ts) (suc k) s h = let e : i + suc k ≡ i + 1 + k = omega arith in let r : over p f (i + 1) (slice_set ts k s) + f (i + 1 + k) (slice_index_or ts k p.blank) ≡ over p f (i + 1) ts + f (i + 1 + k) s = over-set f (i + 1) ts k s (omega (arith, h)) in rw e (omega arith)

  over-one : (f : ℕ → S → ℕ) (i : ℕ) (ss : List S) (k : ℕ) → k < length ss → f (i + k) (slice_index_or ss k p.blank) ≤ over p f i ss
  over-one f i [] k h = absurd (omega (arith, h))
  over-one f i (t ∷ ts) zero h = let e : i + 0 ≡ i = omega arith in rw e (omega arith)
  over-one f i (t ∷ ts) (suc k) h = let e : i + suc k ≡ i + 1 + k = omega arith in let r : f (i + 1 + k) (slice_index_or ts k p.blank) ≤ over p f (i + 1) ts = over-one f (i + 1) ts k (omega (arith, h)) in rw e (omega arith)

  pub over-changed : (f : ℕ → S → ℕ) (ss : List S) (k : ℕ) (s : S) → k < length ss → over p f 0 (slice_set ss k s) + f k (slice_index_or ss k p.blank) ≡ over p f 0 ss + f k s
  over-changed f ss k s h = subst (λ (t : ℕ). over p f 0 (slice_set ss k s) + f t (slice_index_or ss k p.blank) ≡ over p f 0 ss + f t s) (zero-add k) (over-set f 0 ss k s h)

  over-from : (f : ℕ → S → ℕ) (w : World S M) (i : ℕ) (ss : List S) → ((k : ℕ) → k < length ss → slice_index_or ss k p.blank ≡ slice_index_or w.states (i + k) p.blank) → over p f i ss ≡ sum_by (λ r. f r (state p w r)) (range_with_len i (length ss))
  over-from f w i [] h = refl
  over-from f w i (s ∷ ss) h =
      let here : s ≡ slice_index_or w.states i p.blank = h 0 (omega arith) ∙ ap (λ (t : ℕ). slice_index_or w.states t p.blank) (let q : i + 0 ≡ i = omega arith in q) in
      let v : f i s ≡ f i (slice_index_or w.states i p.blank) = ap (f i) here in
      omega (
        arith,
        v,
        sum_by-cons (λ r. f r (state p w r)) i (range_with_len (i + 1) (length ss)),
        over-from f w (i + 1) ss (λ k l. h (suc k) (omega (arith, l)) ∙ ap (λ (t : ℕ). slice_index_or w.states t p.blank) (let q : i + suc k ≡ i + 1 + k = omega arith in q)),
      )

  -- such a sum is one over the ranks
  pub over-ranks : (f : ℕ → S → ℕ) (w : World S M) → over p f 0 w.states ≡ sum_by (λ r. f r (state p w r)) (range_with_len 0 (length w.states))
  over-ranks f w = over-from f w 0 w.states (λ r l. ap (λ (t : ℕ). slice_index_or w.states t p.blank) (let q : r ≡ 0 + r = omega arith in q))

  pub over-part : (f : ℕ → S → ℕ) (ss : List S) (k : ℕ) → k < length ss → f k (slice_index_or ss k p.blank) ≤ over p f 0 ss
  over-part f ss k h = subst (λ (t : ℕ). f t (slice_index_or ss k p.blank) ≤ over p f 0 ss) (zero-add k) (over-one f 0 ss k h)

  there : (ms : List M) (k : ℕ) (m : M) → slice_get ms k ≡ Some m → (k < length ms) × (get_or ms k m ≡ m)
  there [] k m h = cc
  there (x ∷ xs) zero m h = (omega arith, cc)
  there (x ∷ xs) (suc k) m h = let r : (k < length xs) × (get_or xs k m ≡ m) = there xs k m h in (omega (arith, r.0), r.1)

  removed : (g : M → ℕ) (ms : List M) (k : ℕ) (m : M) → slice_get ms k ≡ Some m → g m + sum_by g (remove ms k) ≡ sum_by g ms
  removed g ms k m h = let t : (k < length ms) × (get_or ms k m ≡ m) = there ms k m h in omega (arith, sum_by-remove g ms k m t.0, ap g t.1)

  module _ (unsent : ℕ → S → List M) (got : ℕ → S → List M) (left : ℕ → S → ℕ) (Local : ℕ → S → Type 0) (IsGood : M → Type 0) (all : List M) where
    pub record Acted (r : ℕ) (s : S) : Type 0 where
      pub kept : (g : M → ℕ) → sum_by g (unsent r s) ≡ sum_by g (p.sends r s) + sum_by g (unsent r (p.act r s))
      pub got_same : (g : M → ℕ) → sum_by g (got r (p.act r s)) ≡ sum_by g (got r s)
      pub fewer : left r (p.act r s) < left r s
      pub local : Local r (p.act r s)
      pub good : AllByRecursion IsGood (p.sends r s)

    pub record Taken (r : ℕ) (s : S) (m : M) : Type 0 where
      pub kept : (g : M → ℕ) → sum_by g (unsent r (p.take m s)) ≡ sum_by g (unsent r s)
      pub got_more : (g : M → ℕ) → sum_by g (got r (p.take m s)) ≡ g m + sum_by g (got r s)
      pub fewer : left r (p.take m s) ≤ left r s
      pub local : Local r (p.take m s)
      pub good : AllByRecursion IsGood (p.answers m)

    -- m is none of what the rank still has to send, nor of what it has got
    abbrev pub Fits : ℕ → S → M → Type 0
    Fits r s m = (g : M → ℕ) → sum_by (with_answers p g) (unsent r s) + sum_by g (got r s) + with_answers p g m ≤ sum_by (with_answers p g) all

    pub record IsLawful : Type 0 where
      pub acted : (r : ℕ) (s : S) → r < p.ranks → Local r s → p.acts r s ≡ true → Acted r s
      pub taken : (s : S) (m : M) → IsGood m → Local (p.to m) s → p.accepts m s ≡ true → Fits (p.to m) s m → Taken (p.to m) s m
      pub reaches : (m : M) → IsGood m → p.to m < p.ranks
      pub no_more : (m : M) (g : M → ℕ) → sum_by (with_answers p g) (p.answers m) ≡ sum_by g (p.answers m)

    abbrev pub share : (M → ℕ) → ℕ → S → ℕ
    share g r s = sum_by (with_answers p g) (unsent r s) + sum_by g (got r s)

    -- each message is unsent, in the mail or delivered: any sum
    pub record IsKept (w : World S M) : Type 0 where
      pub size : length w.states ≡ p.ranks
      pub good : AllByRecursion IsGood w.mail
      pub local : (r : ℕ) → r < p.ranks → Local r (state p w r)
      pub every : (g : M → ℕ) → over p (share g) 0 w.states + sum_by (with_answers p g) w.mail ≡ sum_by (with_answers p g) all

    abbrev pub still : ℕ → S → ℕ
    still r s = left r s + sum_by (with_answers p (λ m. 1)) (unsent r s)

    -- how many events are left, at most
    abbrev pub potential : World S M → ℕ
    potential w = over p still 0 w.states + sum_by (with_answers p (λ m. 1)) w.mail

    each-append : (xs ys : List M) → AllByRecursion IsGood xs → AllByRecursion IsGood ys → AllByRecursion IsGood (xs ++ ys)
    each-append [] ys a b = b
    each-append (x ∷ xs) ys a b = (a.0, each-append xs ys a.1 b)

    each-remove : (xs : List M) (k : ℕ) → AllByRecursion IsGood xs → AllByRecursion IsGood (remove xs k)
    each-remove [] zero a = tt
    each-remove [] (suc k) a = tt
    each-remove (x ∷ xs) zero a = a.1
    each-remove (x ∷ xs) (suc k) a = (a.0, each-remove xs k a.1)

    pub each-get : (xs : List M) (k : ℕ) (m : M) → AllByRecursion IsGood xs → slice_get xs k ≡ Some m → IsGood m
    each-get [] k m a h = cc
    each-get (x ∷ xs) zero m a h = let e : x ≡ m = cc in subst IsGood e a.0
    each-get (x ∷ xs) (suc k) m a h = each-get xs k m a.1 h

    local_set : (w : World S M) (k : ℕ) (s : S) → length w.states ≡ p.ranks → ((r : ℕ) → r < p.ranks → Local r (state p w r)) → k < p.ranks → Local k s → (r : ℕ) → r < p.ranks → Local r (slice_index_or (slice_set w.states k s) r p.blank)
    local_set w k s size h lt new r below = case (cases_eq k r)
      where
        case : (k ≡ r) ⊎ (k ≡ r → ⊥) → Local r (slice_index_or (slice_set w.states k s) r p.blank)
        case (inl e) = subst (λ (t : ℕ). Local t (slice_index_or (slice_set w.states k s) t p.blank)) e (subst (Local k) (sym (get_or-set_same w.states k s p.blank (omega (arith, size, lt)))) new)
        case (inr n) = subst (Local r) (sym (get_or-set_other w.states k r s p.blank (λ e. n (sym e)))) (h r below)

    module _ (law : IsLawful) where
      acts_kept : (w : World S M) (r : ℕ) → IsKept w → r < p.ranks → p.acts r (state p w r) ≡ true → IsKept (happens p w (Acts r)) × (potential (happens p w (Acts r)) < potential w)
      acts_kept w r h lt e =
          let a : Acted r (state p w r) = law.acted r (state p w r) lt (h.local r lt) e in (
            record {
              size = length-set w.states r (p.act r (state p w r)) ∙ h.size;
              good = each-append w.mail (p.sends r (state p w r)) h.good a.good;
              local = local_set w r (p.act r (state p w r)) h.size h.local lt a.local;
              every = λ g. omega (
                arith,
                h.every g,
                over-changed (share g) w.states r (p.act r (state p w r)) (omega (arith, h.size, lt)),
                a.kept (with_answers p g),
                a.got_same g,
                sum_by-append (with_answers p g) w.mail (p.sends r (state p w r)),
              );
            },
            omega (
              arith,
              over-changed still w.states r (p.act r (state p w r)) (omega (arith, h.size, lt)),
              a.kept (with_answers p (λ m. 1)),
              a.fewer,
              sum_by-append (with_answers p (λ m. 1)) w.mail (p.sends r (state p w r)),
            ),
          )

      comes_kept : (w : World S M) (k : ℕ) (o : Option M) → slice_get w.mail k ≡ o → IsKept w → may_come p w o ≡ true → IsKept (comes p w k o) × (potential (comes p w k o) < potential w)
      comes_kept w k None e h y = absurd (false≢true y)
      comes_kept w k (Some m) e h y =
          let good : IsGood m = each-get w.mail k m h.good e in
          let lt : p.to m < p.ranks = law.reaches m good in
          let t : Taken (p.to m) (state p w (p.to m)) m =
          law.taken (state p w (p.to m)) m good (h.local (p.to m) lt) y
          (λ g. omega (arith, h.every g, over-part (share g) w.states (p.to m) (omega (arith, h.size, lt)), removed (with_answers p g) w.mail k m e)) in (
            record {
              size = length-set w.states (p.to m) (p.take m (state p w (p.to m))) ∙ h.size;
              good = each-append (remove w.mail k) (p.answers m) (each-remove w.mail k h.good) t.good;
              local = local_set w (p.to m) (p.take m (state p w (p.to m))) h.size h.local lt t.local;
              every = λ g. omega (
                arith,
                h.every g,
                over-changed (share g) w.states (p.to m) (p.take m (state p w (p.to m))) (omega (arith, h.size, lt)),
                t.kept (with_answers p g),
                t.got_more g,
                sum_by-append (with_answers p g) (remove w.mail k) (p.answers m),
                removed (with_answers p g) w.mail k m e,
                law.no_more m g,
              );
            },
            omega (
              arith,
              over-changed still w.states (p.to m) (p.take m (state p w (p.to m))) (omega (arith, h.size, lt)),
              t.kept (with_answers p (λ x. 1)),
              t.fewer,
              sum_by-append (with_answers p (λ x. 1)) (remove w.mail k) (p.answers m),
              removed (with_answers p (λ x. 1)) w.mail k m e,
              law.no_more m (λ x. 1),
            ),
          )

      step_kept : (w : World S M) (e : Move) → IsKept w → may p w e ≡ true → IsKept (happens p w e) × (potential (happens p w e) < potential w)
      step_kept w (Acts r) h y = let b : (nat_lt r p.ranks ≡ true) × (p.acts r (state p w r) ≡ true) = and_parts (nat_lt r p.ranks) (p.acts r (state p w r)) y in acts_kept w r h (ltb-true r p.ranks b.0) b.1
      step_kept w (Comes k) h y = comes_kept w k (slice_get w.mail k) refl h y

      -- in every run: the messages are kept, and there are no more events than the potential
      pub run_kept : (w z : World S M) (es : List Move) → IsKept w → IsRun p w es z → IsKept z × (length es + potential z ≤ potential w)
      run_kept w z [] h e = (subst IsKept e h, omega (arith, ap potential e))
      run_kept w z (e ∷ es) h y =
          let s : IsKept (happens p w e) × (potential (happens p w e) < potential w) = step_kept w e h y.0 in
          let r : IsKept z × (length es + potential z ≤ potential (happens p w e)) = run_kept (happens p w e) z es s.0 y.1 in
          (r.0, omega (arith, s.1, r.1))

      over-got : (w : World S M) (r : ℕ) → IsKept w → r < p.ranks → p.acts r (state p w r) ≡ true → (g : M → ℕ) → over p (λ r s. sum_by g (got r s)) 0 (happens p w (Acts r)).states ≡ over p (λ r s. sum_by g (got r s)) 0 w.states
      over-got w r h lt e g =
          let a : Acted r (state p w r) = law.acted r (state p w r) lt (h.local r lt) e in
          omega (arith, over-changed (λ r s. sum_by g (got r s)) w.states r (p.act r (state p w r)) (omega (arith, h.size, lt)), a.got_same g)

      over-came : (w : World S M) (k : ℕ) (o : Option M) → slice_get w.mail k ≡ o → IsKept w → may_come p w o ≡ true → (g : M → ℕ) → over p (λ r s. sum_by g (got r s)) 0 (comes p w k o).states ≡ over p (λ r s. sum_by g (got r s)) 0 w.states + sum_by g (listed p o)
      over-came w k None e h y g = absurd (false≢true y)
      over-came w k (Some m) e h y g =
          let good : IsGood m = each-get w.mail k m h.good e in
          let lt : p.to m < p.ranks = law.reaches m good in
          let t : Taken (p.to m) (state p w (p.to m)) m =
          law.taken (state p w (p.to m)) m good (h.local (p.to m) lt) y
          (λ g. omega (arith, h.every g, over-part (share g) w.states (p.to m) (omega (arith, h.size, lt)), removed (with_answers p g) w.mail k m e)) in
          omega (arith, over-changed (λ r s. sum_by g (got r s)) w.states (p.to m) (p.take m (state p w (p.to m))) (omega (arith, h.size, lt)), t.got_more g, sum_by-cons g m [])

      step_got : (w : World S M) (e : Move) → IsKept w → may p w e ≡ true → (g : M → ℕ) → over p (λ r s. sum_by g (got r s)) 0 (happens p w e).states ≡ over p (λ r s. sum_by g (got r s)) 0 w.states + sum_by g (comes_by p w e)
      step_got w (Acts r) h y g = let b : (nat_lt r p.ranks ≡ true) × (p.acts r (state p w r) ≡ true) = and_parts (nat_lt r p.ranks) (p.acts r (state p w r)) y in omega (arith, over-got w r h (ltb-true r p.ranks b.0) b.1 g)
      step_got w (Comes k) h y g = over-came w k (slice_get w.mail k) refl h y g

      -- in every run: what is received is what came
      pub run_got : (w z : World S M) (es : List Move) → IsKept w → IsRun p w es z → (g : M → ℕ) → over p (λ r s. sum_by g (got r s)) 0 z.states ≡ over p (λ r s. sum_by g (got r s)) 0 w.states + sum_by g (delivered p w es)
      run_got w z [] h e g = ap (λ t. over p (λ r s. sum_by g (got r s)) 0 t.states) (sym e) ∙ (omega arith)
      run_got w z (e ∷ es) h y g = omega (
        arith,
        step_got w e h y.0 g,
        run_got (happens p w e) z es (step_kept w e h y.0).0 y.1 g,
        sum_by-append g (comes_by p w e) (delivered p (happens p w e) es),
      )

  -- what each action and each delivery keeps holds of every state of a run
  module _ (P : S → Type 0) (acted : (r : ℕ) (s : S) → P s → p.acts r s ≡ true → P (p.act r s)) (taken : (m : M) (s : S) → P s → P (p.take m s)) where
    each-set : (ss : List S) (k : ℕ) (s : S) → AllByRecursion P ss → P s → AllByRecursion P (slice_set ss k s)
    each-set [] k s a h = tt
    each-set (t ∷ ts) zero s a h = (h, a.1)
    each-set (t ∷ ts) (suc k) s a h = (a.0, each-set ts k s a.1 h)

    pub each-state : (ss : List S) (k : ℕ) → P p.blank → AllByRecursion P ss → P (slice_index_or ss k p.blank)
    each-state [] k b a = b
    each-state (t ∷ ts) zero b a = a.0
    each-state (t ∷ ts) (suc k) b a = each-state ts k b a.1

    each-step : (w : World S M) (e : Move) → P p.blank → AllByRecursion P w.states → may p w e ≡ true → AllByRecursion P (happens p w e).states
    each-step w (Acts r) b a y = each-set w.states r (p.act r (state p w r)) a (acted r (state p w r) (each-state w.states r b a) (and_parts (nat_lt r p.ranks) (p.acts r (state p w r)) y).1)
    each-step w (Comes k) b a y = one (slice_get w.mail k) y
      where
        one : (o : Option M) → may_come p w o ≡ true → AllByRecursion P (comes p w k o).states
        one None y = absurd (false≢true y)
        one (Some m) y = each-set w.states (p.to m) (p.take m (state p w (p.to m))) a (taken m (state p w (p.to m)) (each-state w.states (p.to m) b a))

    pub each-run : (w z : World S M) (es : List Move) → P p.blank → AllByRecursion P w.states → IsRun p w es z → AllByRecursion P z.states
    each-run w z [] b a e = subst (λ (t : World S M). AllByRecursion P t.states) e a
    each-run w z (e ∷ es) b a y = each-run (happens p w e) z es b (each-step w e b a y.0) y.1
