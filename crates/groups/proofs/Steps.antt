-- Steps of the search, breadth first.
use Rattle.std.proofs.Common.{◌≡◌, ℕ, suc, ◌+◌, ◌<◌, ◌≤◌, List, [], ◌∷◌, ◌++◌, length, get_or, take, cond, refl, subst, ap, sym, ◌∙◌, inl, inr, true, false, Bool, arith}
use Rattle.std.specs.List.{AllByRecursion}
use Rattle.std.proofs.Math.ListN.{set}
use Rattle.std.proofs.Math.Seq.{take-suc}
use Rattle.std.proofs.lemmas.Bool.{cases_lt}
use Rattle.std.proofs.lemmas.List.{length_push, length-set, append-nil, append_assoc, length-append, take-append-le, take_all}
use Rattle.groups.specs.Groups.{Web, Leads, IsJoined}
use Rattle.groups.specs.Spreading.{mark, times, IsTaken, IsSpread, IsClosed, IsClass}
use Rattle.groups.proofs.Lists.{times-cons, times-nil, times-append, times-self, all-append, all-map, of_all, all_by_get, mark-set, mark-le, free-set}

-- ---- what one body gives

pub taken_none : (seen : List Bool) (list : List ℕ) → IsTaken [] seen seen list list
taken_none seen list = record {
  pushed = [];
  is = sym (append-nil list);
  «from» = tt;
  marks = λ k. omega (arith, times-nil k);
  taken = tt;
  as_long = refl;
  count = refl;
}

pub taken_seen : (j : ℕ) (seen : List Bool) (list : List ℕ) → get_or seen j false ≡ true → IsTaken (j ∷ []) seen seen list list
taken_seen j seen list e = record {
  pushed = [];
  is = sym (append-nil list);
  «from» = tt;
  marks = λ k. omega (arith, times-nil k);
  taken = (ap {B = ℕ} (λ b. cond b 1 0) e, tt);
  as_long = refl;
  count = refl;
}

pub taken_new : (j : ℕ) (seen : List Bool) (list : List ℕ) → j < length seen → get_or seen j false ≡ false → IsTaken (j ∷ []) seen (set seen j true) list (list ++ j ∷ [])
taken_new j seen list h e = record {
  pushed = j ∷ [];
  is = refl;
  «from» = (omega (arith, times-self j []), tt);
  marks = λ k. omega (arith, mark-set seen j k h e, times-cons k j [], times-nil k);
  taken = (omega (arith, mark-set seen j j h e, times-self j [], times-nil j, times-cons j j [], mark-le seen j, mark-le (set seen j true) j), tt);
  as_long = length-set seen j true;
  count = omega (arith, length_push list j, free-set seen j h e);
}

pub taken_join : (xs ys : List ℕ) (a b c : List Bool) (l m o : List ℕ) → IsTaken xs a b l m → IsTaken ys b c m o → IsTaken (xs ++ ys) a c l o
taken_join xs ys a b c l m o s t = record {
  pushed = s.pushed ++ t.pushed;
  is = t.is ∙ ap (λ q. q ++ t.pushed) s.is ∙ append_assoc l s.pushed t.pushed;
  «from» = all-append (λ k. 1 ≤ times k (xs ++ ys)) s.pushed t.pushed
      (all-map (λ k. 1 ≤ times k xs) (λ k. 1 ≤ times k (xs ++ ys)) (λ k h. omega (arith, h, times-append k xs ys)) s.pushed s.«from»)
      (all-map (λ k. 1 ≤ times k ys) (λ k. 1 ≤ times k (xs ++ ys)) (λ k h. omega (arith, h, times-append k xs ys)) t.pushed t.«from»);
  marks = λ k. omega (arith, s.marks k, t.marks k, times-append k s.pushed t.pushed);
  taken = all-append (λ k. mark c k ≡ 1) xs ys (all-map (λ k. mark b k ≡ 1) (λ k. mark c k ≡ 1) (λ k h. omega (arith, h, t.marks k, mark-le c k)) xs s.taken) t.taken;
  as_long = t.as_long ∙ s.as_long;
  count = omega (arith, s.count, t.count);
}

-- ---- joined

leads_on : (w : Web) (i : ℕ) (xs : List ℕ) (j k : ℕ) → Leads w i xs j → k < w.size → w.link j k ≡ true → Leads w i (xs ++ k ∷ []) k
leads_on w i [] j k e h l = (h, subst (λ t. w.link t k ≡ true) (sym e) l, refl)
leads_on w i (x ∷ xs) j k e h l = (e.0, e.1, leads_on w x xs j k e.2 h l)

pub joined_on : (w : Web) (i j k : ℕ) → IsJoined w i j → k < w.size → w.link j k ≡ true → IsJoined w i k
joined_on w i j k s h l = record { chain = s.chain ++ k ∷ []; leads = leads_on w i s.chain j k s.leads h l }

pub joined_self : (w : Web) (i : ℕ) → IsJoined w i i
joined_self w i = record { chain = []; leads = refl }

leads_both : (w : Web) (i j k : ℕ) (xs ys : List ℕ) → Leads w i xs j → Leads w j ys k → Leads w i (xs ++ ys) k
leads_both w i j k [] ys e f = subst (λ t. Leads w t ys k) (sym e) f
leads_both w i j k (x ∷ xs) ys e f = (e.0, e.1, leads_both w x j k xs ys e.2 f)

pub joined_both : (w : Web) (i j k : ℕ) → IsJoined w i j → IsJoined w j k → IsJoined w i k
joined_both w i j k s t = record { chain = s.chain ++ t.chain; leads = leads_both w i j k s.chain t.chain s.leads t.leads }

abbrev pub IsEven : Web → Type 0
IsEven w = (i j : ℕ) → w.link i j ≡ w.link j i

turned : (w : Web) → IsEven w → (i : ℕ) (xs : List ℕ) (j : ℕ) → i < w.size → Leads w i xs j → IsJoined w j i
turned w even i [] j h e = subst (λ t. IsJoined w t i) e (joined_self w i)
turned w even i (x ∷ xs) j h e = joined_on w j x i (turned w even x xs j e.0 e.2) h (sym (even i x) ∙ e.1)

pub joined_turned : (w : Web) → IsEven w → (i j : ℕ) → i < w.size → IsJoined w i j → IsJoined w j i
joined_turned w even i j h s = turned w even i s.chain j h s.leads

-- ---- the list

pub spread_start : (w : Web) (p : ℕ) (old : List Bool) → length old ≡ w.size → p < w.size → get_or old p false ≡ false → IsSpread w p old (set old p true) (p ∷ []) 0
spread_start w p old n h e =
    let within : p < length old = omega (arith, n, h) in record {
      as_long = length-set old p true ∙ n;
      joined = ((h, joined_self w p), tt);
      first = omega (arith, times-self p []);
      marks = λ k. omega (arith, mark-set old p k within e, times-cons k p [], times-nil k);
      closed = tt;
      within = omega arith;
      count = omega (arith, free-set old p within e);
    }

-- the places that a place is linked to
pub record AreNear (w : Web) (i : ℕ) (out : List ℕ) : Type 0 where
  pub linked : AllByRecursion (λ k. (k < w.size) × (w.link i k ≡ true)) out
  pub whole : (k : ℕ) → k < w.size → w.link i k ≡ true → 1 ≤ times k out

pub spread_next : (w : Web) (p : ℕ) (old seen after : List Bool) (list more : List ℕ) (cursor i : ℕ) (out : List ℕ) → IsSpread w p old seen list cursor → cursor < length list → get_or list cursor i ≡ i
    → AreNear w i out → IsTaken out seen after list more → IsSpread w p old after more (cursor + 1)
spread_next w p old seen after list more cursor i out s h at a t =
    let here : (i < w.size) × IsJoined w p i = subst (λ t. (t < w.size) × IsJoined w p t) at (all_by_get (λ k. (k < w.size) × IsJoined w p k) list cursor i s.joined h) in
    let now : (k : ℕ) → k < w.size → w.link i k ≡ true → mark after k ≡ 1 = λ k n l. of_all (λ k. mark after k ≡ 1) k out t.taken (a.whole k n l) in
    let up : cursor + 1 ≡ suc cursor = omega arith in
    let cut : take (cursor + 1) more ≡ take cursor list ++ (i ∷ []) = ap (take (cursor + 1)) t.is ∙ take-append-le (cursor + 1) list t.pushed (omega (arith, h)) ∙ ap (λ n. take n list) up ∙ take-suc list cursor i h ∙ ap (λ x. take cursor list ++ (x ∷ [])) at in
    record {
      as_long = t.as_long ∙ s.as_long;
      joined = subst (AllByRecursion (λ k. (k < w.size) × IsJoined w p k)) (sym t.is) (all-append (λ k. (k < w.size) × IsJoined w p k) list t.pushed s.joined
          (all-map (λ k. 1 ≤ times k out) (λ k. (k < w.size) × IsJoined w p k)
          (λ k n. (let l : (k < w.size) × (w.link i k ≡ true) = of_all (λ k. (k < w.size) × (w.link i k ≡ true)) k out a.linked n in (l.0, joined_on w p i k here.1 l.0 l.1))) t.pushed t.«from»));
      first = omega (arith, s.first, ap (times p) t.is, times-append p list t.pushed);
      marks = λ k. omega (arith, s.marks k, t.marks k, ap (times k) t.is, times-append k list t.pushed);
      closed = subst (AllByRecursion (λ j. (k : ℕ) → k < w.size → w.link j k ≡ true → mark after k ≡ 1)) (sym cut)
          (all-append (λ j. (k : ℕ) → k < w.size → w.link j k ≡ true → mark after k ≡ 1) (take cursor list) (i ∷ [])
          (all-map (λ j. (k : ℕ) → k < w.size → w.link j k ≡ true → mark seen k ≡ 1) (λ j. (k : ℕ) → k < w.size → w.link j k ≡ true → mark after k ≡ 1) (λ j f k n l. omega (arith, f k n l, t.marks k, mark-le after k)) (take cursor list) s.closed)
          (now, tt));
      within = omega (arith, h, ap length t.is, length-append list t.pushed);
      count = omega (arith, s.count, t.count);
    }

-- ---- the end

pub spread_done : (w : Web) (p : ℕ) (old seen : List Bool) (list : List ℕ) (cursor : ℕ) → IsSpread w p old seen list cursor → length list ≤ cursor → IsEven w → IsClosed w old → IsClass w p old seen list
spread_done w p old seen list cursor s h even c =
    let all : take cursor list ≡ list = take_all cursor list h in
    let done : AllByRecursion (λ j. (k : ℕ) → k < w.size → w.link j k ≡ true → mark seen k ≡ 1) list = subst (AllByRecursion (λ j. (k : ℕ) → k < w.size → w.link j k ≡ true → mark seen k ≡ 1)) all s.closed in
    let go : (j k : ℕ) → k < w.size → w.link j k ≡ true → 1 ≤ times j list → mark seen k ≡ 1 = λ j k n l t. of_all (λ j. (k : ℕ) → k < w.size → w.link j k ≡ true → mark seen k ≡ 1) j list done t k n l in
    let size : (j : ℕ) → 1 ≤ times j list → j < w.size = λ j t. (of_all (λ k. (k < w.size) × IsJoined w p k) j list s.joined t).0 in
    let next : (j k : ℕ) → k < w.size → w.link j k ≡ true → 1 ≤ times j list → 1 ≤ times k list =
    λ j k n l t. omega (arith, go j k n l t, c j k (size j t) n l, s.marks j, s.marks k, t, mark-le seen j) in
    record {
      as_long = s.as_long;
      joined = s.joined;
      whole = λ k j. (let t : 1 ≤ times k list = along w list next p j.chain k s.first j.leads in omega (arith, t, s.marks k, mark-le seen k));
      marks = s.marks;
      closed = λ j k m n l. elim (cases_lt 0 (times j list)) as (λ _. mark seen j ≡ mark seen k) [
        | inl t ↦ omega (arith, t, go j k n l t, s.marks j, mark-le seen j)
        | inr t ↦ elim (cases_lt 0 (times k list)) as (λ _. mark seen j ≡ mark seen k) [
          | inl u ↦ omega (arith, u, go k j m (sym (even j k) ∙ l) u, s.marks k, mark-le seen k)
          | inr u ↦ omega (arith, t, u, s.marks j, s.marks k, c j k m n l)
        ]
      ];
    } where
      along : (w : Web) (list : List ℕ) → ((j k : ℕ) → k < w.size → w.link j k ≡ true → 1 ≤ times j list → 1 ≤ times k list) → (i : ℕ) (xs : List ℕ) (k : ℕ) → 1 ≤ times i list → Leads w i xs k → 1 ≤ times k list
      along w list next i [] k t e = subst (λ x. 1 ≤ times x list) e t
      along w list next i (x ∷ xs) k t e = along w list next x xs k (next i x e.0 e.1 t) e.2

pub taken_more : (out : List ℕ) (e d : ℕ) (a b c : List Bool) (l m o : List ℕ) → e < length out → IsTaken (take e out) a b l m → IsTaken (get_or out e d ∷ []) b c m o → IsTaken (take (e + 1) out) a c l o
taken_more out e d a b c l m o h s t =
    let up : e + 1 ≡ suc e = omega arith in
    subst (λ xs. IsTaken xs a c l o) (sym (ap (λ n. take n out) up ∙ take-suc out e d h)) (taken_join (take e out) (get_or out e d ∷ []) a b c l m o s t)
