-- Ranks before any event, one rank more; and the machine that they make.
use Rattle.std.proofs.Common.{◌≡◌, ℕ, ◌+◌, ◌<◌, ◌≤◌, Bool, false, cond, replicate, List, [], ◌∷◌, ◌++◌, length, get_or, map, refl, ap, sym, ◌∙◌, arith, ◌⊎◌, inl, inr, subst, length-append}
use Rattle.std.specs.List.{AllByRecursion, range_with_len}
use Rattle.std.proofs.lemmas.Bool.{cases_lt, eq-eqb, ne_eqb}
use Rattle.std.proofs.lemmas.List.{get_or-replicate, get_or_append_left, length-replicate}
use Rattle.std.proofs.lemmas.List.FromFn.{get_or-map-range_with_len, length-map-range_with_len}
use Rattle.std.proofs.Math.Seq.{get_or-append_seam}
use Rattle.nbody_model.specs.Bodies.{BodyData, IsValid}
use Rattle.nbody_model.specs.Setups.{IsSetup}
use Rattle.nbody_model.specs.Tables.{Gravity}
use Rattle.model_laws.specs.Laws.{AreBodies, CorrectsLittle}
use Rattle.model_laws.proofs.Among.{Among, each-among}
use Rattle.model_laws.proofs.Shares.{Ascending, ascending-from}
use Rattle.rank_laws.specs.Machine.{Rank, blank, ready as is_ready, start_world}
use Rattle.rank_laws.specs.Owners.{OwnersAreTold, handed_to, owner_in}
use Rattle.rank_laws.specs.Whole.{Whole, own, ranks_of, rules_of}
use Rattle.rank_curve_laws.specs.Along.{EveryDivisionIsWhole, IsDivision, divided}
use Rattle.rank_exchange.specs.Came.{KeepsPairsSmall}
use Rattle.rank_exchange.specs.Ranks.{IsRank, RankData}
use Rattle.rank_field.specs.Machines.{AreBlank, AreOwn, IsStarted, MachineData, RunsTo, all_handed}

module _ (w : Whole) where
  abbrev pub BlankBelow : ℕ → List RankData → Type 0
  BlankBelow n vs = (r : ℕ) (d : RankData) → r < n → IsRank w r blank (get_or vs r d)

  pub blank_more : (n : ℕ) (old new : List RankData) (v : RankData) → length old ≡ n → new ≡ old ++ v ∷ [] → BlankBelow n old → IsRank w n blank v → BlankBelow (n + 1) new
  blank_more n old new v long e h here r d lt = case (cases_lt r n)
    where
      case : (r < n) ⊎ (n ≤ r) → IsRank w r blank (get_or new r d)
      case (inl l) = subst (IsRank w r blank) (sym (ap (λ xs. get_or xs r d) e ∙ get_or_append_left old (v ∷ []) d r (omega (arith, l, long)))) (h r d l)
      case (inr l) =
          let same : n ≡ r = omega (arith, l, lt) in
          let last : r ≡ length old = omega (arith, l, lt, long) in
          subst (IsRank w r blank) (sym (ap (λ xs. get_or xs r d) e ∙ ap (λ k. get_or (old ++ v ∷ []) k d) last ∙ get_or-append_seam old v [] d)) (subst (λ q. IsRank w q blank v) same here)

  pub own_long : (lists : List (List BodyData)) → AreOwn w lists → ranks_of w ≡ length lists
  own_long lists e = sym (ap length e ∙ length-map-range_with_len (own w) 0 (ranks_of w))

  -- the list behind those that were taken is that of the next rank
  pub own_next : (lists done rest : List (List BodyData)) (list : List BodyData) → AreOwn w lists → done ++ list ∷ rest ≡ lists → list ≡ own w (length done)
  own_next lists done rest list e f =
      let within : length done < ranks_of w = omega (arith, own_long lists e, ap length f, length-append done (list ∷ rest)) in
      sym (get_or-append_seam done list rest []) ∙ ap (λ xs. get_or xs (length done) []) (f ∙ e) ∙ get_or-map-range_with_len (own w) 0 (ranks_of w) (length done) (length done) [] within (omega arith)

  pub all_blank : (lists done rest : List (List BodyData)) (vs : List RankData) → AreOwn w lists → done ++ rest ≡ lists → length rest ≡ 0 → length vs ≡ length done → BlankBelow (length done) vs → AreBlank w vs
  all_blank lists done rest vs e f none long h =
      let all : length done ≡ ranks_of w = omega (arith, own_long lists e, ap length f, length-append done rest, none) in
      record { all = omega (arith, all, long); each = λ r d lt. h r d (omega (arith, lt, all)) }

-- ---- owners by a list and by ids

map_on : {X Y : Type 0} (f g : X → Y) (xs : List X) → ((x : X) → Among x xs → f x ≡ g x) → map f xs ≡ map g xs
map_on f g [] e = refl
map_on f g (x ∷ xs) e = ap (λ y. y ∷ map f xs) (e x (inl refl)) ∙ ap (λ ys. g x ∷ ys) (map_on f g xs (λ y h. e y (inr h)))

owned_all : (bs : List BodyData) (os : List ℕ) → Ascending bs → length os ≡ length bs → map (λ (b : BodyData). owner_in bs os b.id) bs ≡ os
owned_all [] [] a e = refl
owned_all [] (o ∷ os) a e = absurd (omega (arith, e))
owned_all (b ∷ bs) [] a e = absurd (omega (arith, e))
owned_all (b ∷ bs) (o ∷ os) a e =
    ap (λ t. cond t o (owner_in bs os b.id) ∷ map (λ (m : BodyData). owner_in (b ∷ bs) (o ∷ os) m.id) bs) (eq-eqb b.id b.id refl)
    ∙ ap (λ ys. o ∷ ys) (
    map_on (λ (m : BodyData). owner_in (b ∷ bs) (o ∷ os) m.id) (λ (m : BodyData). owner_in bs os m.id) bs
    (λ m h. let l : b.id < m.id = each-among (λ (k : BodyData). b.id < k.id) m bs a.0 h in ap (λ t. cond t o (owner_in bs os m.id)) (ne_eqb b.id m.id (λ k. omega (arith, l, k))))
    ∙ owned_all bs os a.1 (omega (arith, e)))

-- ---- the machine before any event

module _ (B : List BodyData) (g : Gravity) (O bounds : List ℕ) where
  abbrev whole : Whole
  whole = divided B g O bounds

  pub handed_own : OwnersAreTold B O (length bounds) → (n : ℕ) (lists : List (List BodyData)) → n ≡ length bounds → lists ≡ all_handed B O n → AreOwn whole lists
  handed_own told n lists e f = f ∙ ap (all_handed B O) e ∙ map_on (handed_to B O) (own whole) (range_with_len 0 (length bounds)) (λ q i. sym (told.own q))

  pub begun : AreBodies B → IsValid B → AllByRecursion (λ b. b.kind ≤ 5) B → IsSetup g.setup → CorrectsLittle g.table → KeepsPairsSmall → EveryDivisionIsWhole → IsDivision B O bounds → length bounds ≤ 256 →
      RunsTo whole (start_world (rules_of whole))
  begun bodies valid kinds setup table pairs whole_if division few = record {
    events = [];
    is_whole = whole_if B bodies g O bounds division;
    softenings = record { kinds = kinds; softenings = setup.softenings };
    along = refl;
    small = pairs whole (whole_if B bodies g O bounds division) setup kinds table;
    few = few;
    run = refl;
  }

  pub started : IsValid B → length O ≡ length B → RunsTo whole (start_world (rules_of whole)) → (u : MachineData) → AreBlank whole u.ranks.items → u.mail.messages ≡ [] → u.mail.ready ≡ replicate (length u.ranks.items) false → g ≡ u.kit.now → bounds ≡ u.bounds → u.owners.items ≡ O → u.spent ≡ false → IsStarted whole u
  started valid long run u blanks messages ready gravity at owners lasts = record {
    run = run;
    ranks = blanks.all;
    each = λ r d lt. subst (λ (s : Rank). IsRank whole r s (get_or u.ranks.items r d)) (sym (get_or-replicate (length bounds) r blank blank lt)) (blanks.each r d lt);
    mail = record {
      messages = messages;
      all = ap length ready ∙ length-replicate (length u.ranks.items) false ∙ blanks.all;
      each = λ r lt. ap (λ (bs : List Bool). get_or bs r false) ready ∙ get_or-replicate (length u.ranks.items) r false false (omega (arith, lt, blanks.all))
          ∙ ap (is_ready (rules_of whole) r) (sym (get_or-replicate (length bounds) r blank blank lt));
    };
    gravity = gravity;
    bounds = at;
    owners = owners ∙ sym (owned_all B O (ascending-from B valid.ascending) long);
    lasts = lasts;
  }
