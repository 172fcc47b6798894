-- Of the groups with one descendant, the main one so far.
use Rattle.std.proofs.Common.{◌≡◌, ◌⊎◌, ℕ, ◌+◌, ◌<◌, ◌≤◌, List, length, get_or, replicate, refl, sym, ap, subst, ◌∙◌, inl, inr, arith}
use Rattle.std.proofs.Math.ListN.{set}
use Rattle.std.proofs.lemmas.Bool.{cases_eq, cases_lt}
use Rattle.std.proofs.lemmas.List.{get_or-replicate, length-replicate, length-set, get_or-set_same, get_or-set_other, get_or_default}
use Rattle.merger_links.specs.declared.ties.Tie.{Tie}
use Rattle.merger_links.specs.Ties.{AreMains, IsMainOf}

pub blank : Tie
blank = record { group = 0; shared = 0 }

pub mains_none : (ties : List Tie) (places : ℕ) → AreMains ties 0 places (replicate places (record { group = 0; shared = 0 }))
mains_none ties places = record {
  long = length-replicate places (record { group = 0; shared = 0 });
  each = λ place d l. subst (IsMainOf ties 0 place) (sym (get_or-replicate places place (record { group = 0; shared = 0 }) d l))
      (record { within = λ s. absurd (omega (arith, s)); tied = λ s e. absurd (omega (arith, s)); most = λ k e h. absurd (omega (arith, h)) });
}

-- a tie that doesn't change the main group of a place
main_kept : (ties : List Tie) (i place : ℕ) (m : Tie) → IsMainOf ties i place m → ((d : Tie) → (get_or ties i d).group ≡ place → 1 ≤ (get_or ties i d).shared → (get_or ties i d).shared ≤ m.shared) → IsMainOf ties (i + 1) place m
main_kept ties i place m h f = record {
  within = λ s. omega (arith, h.within s);
  tied = h.tied;
  most = λ k d l e s. elim (cases_lt k i) as (λ _. ((get_or ties k d).shared < m.shared) ⊎ (((get_or ties k d).shared ≡ m.shared) × (m.group ≤ k))) [
    | inl below ↦ h.most k d below e s
    | inr above ↦ (
        let same : k ≡ i = omega (arith, l, above) in
        let low : (get_or ties k d).shared ≤ m.shared = subst (λ j. (get_or ties j d).shared ≤ m.shared) (sym same) (f d (ap (λ j. (get_or ties j d).group) (sym same) ∙ e) (omega (arith, s, ap (λ j. (get_or ties j d).shared) same))) in
        elim (cases_lt (get_or ties k d).shared m.shared) as (λ _. ((get_or ties k d).shared < m.shared) ⊎ (((get_or ties k d).shared ≡ m.shared) × (m.group ≤ k))) [
          | inl less ↦ inl less
          | inr more ↦ (let is : (get_or ties k d).shared ≡ m.shared = omega (arith, low, more) in inr (is, omega (arith, same, h.within (omega (arith, s, is)))))
        ])
  ];
}

-- no tie at a place
pub mains_skip : (ties : List Tie) (i places : ℕ) (mains : List Tie) (d : Tie) → i < length ties → (get_or ties i d).shared ≡ 0 → AreMains ties i places mains → AreMains ties (i + 1) places mains
mains_skip ties i places mains d l z h = record {
  long = h.long;
  each = λ place e m. main_kept ties i place (get_or mains place e) (h.each place e m) (λ f q s. absurd (omega (arith, s, z, ap (λ (t : Tie). t.shared) (get_or_default ties i f d l))));
}

-- a tie with fewer ids, or as many
pub mains_same : (ties : List Tie) (i places : ℕ) (mains : List Tie) (d e : Tie) → i < length ties → (get_or ties i d).group < places → (get_or ties i d).shared ≤ (get_or mains (get_or ties i d).group e).shared → AreMains ties i places mains → AreMains ties (i + 1) places mains
mains_same ties i places mains d e l w le h = record {
  long = h.long;
  each = λ place f m. main_kept ties i place (get_or mains place f) (h.each place f m) (λ g q s.
      (let here : get_or ties i g ≡ get_or ties i d = get_or_default ties i g d l in
      let there : (get_or ties i d).group ≡ place = ap (λ (t : Tie). t.group) (sym here) ∙ q in
      let same : get_or mains (get_or ties i d).group e ≡ get_or mains place f = ap (λ p. get_or mains p e) there ∙ get_or_default mains place e f (omega (arith, m, h.long)) in
      omega (arith, ap (λ (t : Tie). t.shared) here, le, ap (λ (t : Tie). t.shared) same)));
}

-- a tie with more ids
pub mains_more : (ties : List Tie) (i places : ℕ) (mains : List Tie) (d e : Tie) → i < length ties → 1 ≤ (get_or ties i d).shared → (get_or ties i d).group < places → (get_or mains (get_or ties i d).group e).shared < (get_or ties i d).shared → AreMains ties i places mains
    → AreMains ties (i + 1) places (set mains (get_or ties i d).group (record { group = i; shared = (get_or ties i d).shared }))
mains_more ties i places mains d e l s w lt h =
    let t : Tie = get_or ties i d in
    let new : Tie = record { group = i; shared = t.shared } in
    let within : t.group < length mains = omega (arith, w, h.long) in
    let here : (k : ℕ) (f : Tie) → k ≡ i → get_or ties k f ≡ t = λ k f q. ap (λ j. get_or ties j f) q ∙ get_or_default ties i f d l in
    let changed : IsMainOf ties (i + 1) t.group new = record {
      within = λ _. omega arith;
      tied = λ _ f. (ap (λ (x : Tie). x.group) (here i f refl), ap (λ (x : Tie). x.shared) (here i f refl));
      most = λ k f m q u. elim (cases_lt k i) as (λ _. ((get_or ties k f).shared < t.shared) ⊎ (((get_or ties k f).shared ≡ t.shared) × (i ≤ k))) [
        | inl below ↦ inl (elim ((h.each t.group e w).most k f below q u) as (λ _. (get_or ties k f).shared < t.shared) [ inl a ↦ omega (arith, a, lt) | inr a ↦ omega (arith, a.0, lt) ])
        | inr above ↦ inr (ap (λ (x : Tie). x.shared) (here k f (omega (arith, m, above))), above)
      ];
    } in
    record {
      long = length-set mains t.group new ∙ h.long;
      each = λ place f m. elim (cases_eq place t.group) as (λ _. IsMainOf ties (i + 1) place (get_or (set mains t.group new) place f)) [
        | inl q ↦ subst (λ p. IsMainOf ties (i + 1) p (get_or (set mains t.group new) p f)) (sym q) (subst (IsMainOf ties (i + 1) t.group) (sym (get_or-set_same mains t.group new f within)) changed)
        | inr n ↦ subst (IsMainOf ties (i + 1) place) (sym (get_or-set_other mains t.group place new f n))
            (main_kept ties i place (get_or mains place f) (h.each place f m) (λ g q u. absurd (n (sym (ap (λ (x : Tie). x.group) (sym (here i g refl)) ∙ q)))))
      ];
    }
