-- A rank that is ready stays so, and the mail knows which ranks are.
use Rattle.std.proofs.Common.{◌≡◌, ℕ, ◌<◌, Bool, true, false, List, [], ◌∷◌, length, get_or, set, map, refl, ap, sym, ◌∙◌, arith, ◌⊎◌, inl, inr, ◌||◌}
use Rattle.std.specs.Prelude.{slice_index_or}
use Rattle.std.specs.List.{list_all, list_any}
use Rattle.std.proofs.lemmas.Bool.{and_from, and_parts, cases_eq}
use Rattle.std.proofs.lemmas.List.{get_or-set_other, get_or-set_same, length-set}
use Rattle.rank_laws.specs.Protocol.{World}
use Rattle.rank_laws.specs.Machine.{Action, Add, Ask, Build, Kind, Members, Message, None, Parts, Rank, Reply, Rules, Share, Sums, Table, Walk, Want, after, blank, has_all, kept, message, others, ready, same_message}
use Rattle.rank_laws.specs.Whole.{Whole, ranks_of, rules_of}
use Rattle.rank_exchange.specs.Messages.{filled}
use Rattle.rank_mail.specs.Mails.{MailData}
use Rattle.rank_field.specs.Machines.{HoldsMail}

-- ---- a rank that is ready stays so

all_more : {X : Type 0} (t u : X → Bool) (xs : List X) → ((x : X) → t x ≡ true → u x ≡ true) → list_all t xs ≡ true → list_all u xs ≡ true
all_more t u [] i h = refl
all_more t u (x ∷ xs) i h =
    let p : (t x ≡ true) × (list_all t xs ≡ true) = and_parts (t x) (list_all t xs) h in
    and_from (u x) (list_all u xs) (i x p.0) (all_more t u xs i p.1)

either : (a b : Bool) → b ≡ true → (a || b) ≡ true
either true b h = refl
either false b h = h

module _ (rules : Rules) where
  has_all_more : (k : Kind) (r : ℕ) (s : Rank) (m : Message) → has_all rules k r s ≡ true → has_all rules k r (record s { got = m ∷ s.got }) ≡ true
  has_all_more k r s m h = all_more (λ q. list_any (same_message (message k q r)) s.got) (λ q. list_any (same_message (message k q r)) (m ∷ s.got)) (others rules r) (λ q e. either (same_message (message k q r) m) (list_any (same_message (message k q r)) s.got) e) h

  with_more : (r : ℕ) (s : Rank) (m : Message) → ready rules r s ≡ true → ready rules r (record s { got = m ∷ s.got }) ≡ true
  with_more r s m h =
      let p : (s.built ≡ true) × (has_all rules Table r s ≡ true) = and_parts s.built (has_all rules Table r s) h in
      and_from s.built (has_all rules Table r (record s { got = m ∷ s.got })) p.0 (has_all_more Table r s m p.1)

  pub ready_after : (r : ℕ) (s : Rank) (a : Action) → ready rules r s ≡ true → ready rules r (after rules r s a) ≡ true
  ready_after r s Build h = (and_parts s.built (has_all rules Table r s) h).1
  ready_after r s Walk h = h
  ready_after r s Add h = h
  ready_after r s Share h = h
  ready_after r s None h = h

  pub ready_kept : (r : ℕ) (s : Rank) (m : Message) (k : Kind) → ready rules r s ≡ true → ready rules r (kept rules m s k) ≡ true
  ready_kept r s m Reply h = h
  ready_kept r s m Ask h = with_more r s m h
  ready_kept r s m Want h = with_more r s m h
  ready_kept r s m Table h = with_more r s m h
  ready_kept r s m Sums h = with_more r s m h
  ready_kept r s m Members h = with_more r s m h
  ready_kept r s m Parts h = with_more r s m h

-- ---- the entry of a rank in the mail

module _ (w : Whole) (z : World Rank Message) (old new : MailData) (q : ℕ) (s : Rank) (ms : List Message) where
  -- the mail once one rank has changed
  pub marked : HoldsMail w z old → length z.states ≡ ranks_of w → q < ranks_of w → new.messages ≡ map (filled w) ms → new.ready ≡ set old.ready q (ready (rules_of w) q s) → HoldsMail w (record { states = set z.states q s; mail = ms }) new
  marked h long lt messages entries = record {
    messages = messages;
    all = ap length entries ∙ length-set old.ready q (ready (rules_of w) q s) ∙ h.all;
    each = λ p within. ap (λ (xs : List Bool). slice_index_or xs p false) entries ∙ at p within (cases_eq p q);
  }
    where
      at : (p : ℕ) → p < ranks_of w → (p ≡ q) ⊎ (p ≡ q → ⊥) → get_or (set old.ready q (ready (rules_of w) q s)) p false ≡ ready (rules_of w) p (get_or (set z.states q s) p blank)
      at p within (inl same) =
          ap (λ (p : ℕ). get_or (set old.ready q (ready (rules_of w) q s)) p false) same
          ∙ get_or-set_same old.ready q (ready (rules_of w) q s) false (omega (arith, lt, h.all))
          ∙ ap (ready (rules_of w) q) (sym (get_or-set_same z.states q s blank (omega (arith, lt, long))))
          ∙ ap (λ (p : ℕ). ready (rules_of w) p (get_or (set z.states q s) p blank)) (sym same)
      at p within (inr other) =
          get_or-set_other old.ready q p (ready (rules_of w) q s) false other
          ∙ h.each p within
          ∙ ap (ready (rules_of w) p) (sym (get_or-set_other z.states q p s blank other))
