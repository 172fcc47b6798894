-- A reply comes: one slot is known from then on.
use Rattle.std.proofs.Common.{◌≡◌, ◌≢◌, ℕ, ◌+◌, ◌*◌, ◌^◌, ◌<◌, Bool, true, false, ◌||◌, List, [], ◌∷◌, map, set, length, get_or, refl, ap, sym, ◌∙◌, arith, ◌⊎◌, inl, inr, subst}
use Rattle.std.specs.Prelude.{Some, is_some}
use Rattle.std.specs.List.{AllByRecursion, list_any, range_with_len}
use Rattle.std.specs.BTreeMap.{get}
use Rattle.std.specs.Ordering.{nat_cmp}
use Rattle.std.proofs.lemmas.Bool.{cases_eq}
use Rattle.std.proofs.lemmas.List.{get_or-set_same, get_or-set_other, length-set}
use Rattle.std.proofs.Math.Seq.{map-set_same}
use Rattle.fixed_point.specs.Vectors.{IsAtMost}
use Rattle.cell_space.specs.Cells.{CellData, root_cell, same_cell}
use Rattle.cell_space.proofs.Cells.{same_cell-exact}
use Rattle.rank_laws.specs.Machine.{Rank, is_one, knows_both, todo}
use Rattle.rank_laws.specs.Whole.{opening}
use Rattle.nbody_model.specs.Walks.{kids}
use Rattle.rank_walk.specs.declared.places.Places.{Places}
use Rattle.rank_walk.specs.declared.told.Known.{Known}
use Rattle.rank_walk.specs.declared.walker.Walker.{Walker}
use Rattle.rank_walk.specs.Seats.{IsKnown, IsPlaced, Seat, is_home, knows_cell, order_of, rules, side}
use Rattle.rank_walk.specs.Slots.{SlotData, no_slot, slot_at, cell_at_place, cells_in, cells, flag_at, sum_at_place, value_at}
use Rattle.rank_walk.specs.Starts.{knows_places}
use Rattle.rank_walk.specs.Tables.{IsBorn, IsIn, IsOpened, IsSlot, IsTable, known_at, with_known}
use Rattle.rank_walk.specs.Walked.{AreListed, IsHeard, IsListed}
use Rattle.rank_walk.specs.Walkers.{Awaits, IsWalker, replied}
use Rattle.rank_walk.proofs.Afterwards.{placed}
use Rattle.rank_walk.proofs.Begins.{knows_some}
use Rattle.rank_walk.proofs.Growth.{StandsAt, stands_at}
use Rattle.rank_walk.proofs.Lists.{at_map, range_same}
use Rattle.rank_walk.proofs.Unasked.{flag_here, flag_stands}

-- where a cell stands that was asked for
pub record AskedAt (w : Walker) (c : CellData) : Type 0 where
  pub place : ℕ
  pub low : place < length w.heard.slots.items
  pub cell : cell_at_place w.heard.slots.items place ≡ c
  pub noted : get nat_cmp w.places (slot_at w.heard.slots.items place).order ≡ Some place

pub asked_at : (z : Seat) (s : Rank) (w : Walker) → IsWalker z s w → (c : CellData) → is_one c s.asked ≡ true → AskedAt w c
asked_at z s w h c e =
    let flag : flag_at (cells_in w.heard.slots.items) w.heard.asked.items c ≡ true = h.kept.asked c ∙ e in
    let t : StandsAt w.heard.slots.items c = stands_at w.heard.slots.items c (flag_stands (cells_in w.heard.slots.items) w.heard.asked.items c flag) in
    let asked : get_or w.heard.asked.items t.place false ≡ true = sym (flag_here w.heard.slots.items w.heard.asked.items t.place h.heard.table.distinct h.heard.long_asked t.low) ∙ ap (flag_at (cells_in w.heard.slots.items) w.heard.asked.items) t.cell ∙ flag in
    record { place = t.place; low = t.low; cell = t.cell; noted = h.found t.place t.low asked }

-- a place by its cell's number, as the code finds it
pub place_is : (z : Seat) (s : Rank) (w : Walker) → IsWalker z s w → (c : CellData) → is_one c s.asked ≡ true → (o : ℕ) → o ≡ order_of z.whole.keys c → (p : ℕ) → ((i : ℕ) → get nat_cmp w.places o ≡ Some i → p ≡ i) → (a : AskedAt w c) → p ≡ a.place
place_is z s w h c e o q p f a = f a.place (ap (get nat_cmp w.places) (q ∙ ap (order_of z.whole.keys) (sym a.cell) ∙ sym (h.heard.table.each a.place a.low).order) ∙ a.noted)

module _ (z : Seat) (ss : List SlotData) (table : IsTable z ss) (i : ℕ) (low : i < length ss) (k : Known) (known : IsKnown z (cell_at_place ss i) k) (ts : List SlotData) (now : ts ≡ set ss i (with_known (slot_at ss i) k)) where
  same_long : length ts ≡ length ss
  same_long = ap length now ∙ length-set ss i (with_known (slot_at ss i) k)

  pub same_cells : cells_in ts ≡ cells_in ss
  same_cells = ap cells_in now ∙ map-set_same (λ (s : SlotData). s.cell) ss i (with_known (slot_at ss i) k) no_slot refl

  pub same_cell_at : (j : ℕ) → cell_at_place ts j ≡ cell_at_place ss j
  same_cell_at j = sym (at_map (λ (s : SlotData). s.cell) no_slot ts j) ∙ ap (λ cs. get_or cs j root_cell) same_cells ∙ at_map (λ (s : SlotData). s.cell) no_slot ss j

  at_it : slot_at ts i ≡ with_known (slot_at ss i) k
  at_it = ap (λ t. get_or t i no_slot) now ∙ get_or-set_same ss i (with_known (slot_at ss i) k) no_slot low

  at_other : (j : ℕ) → j ≢ i → slot_at ts j ≡ slot_at ss j
  at_other j n = ap (λ t. get_or t j no_slot) now ∙ get_or-set_other ss i j (with_known (slot_at ss i) k) no_slot n

  same_first : (j : ℕ) → (slot_at ts j).first ≡ (slot_at ss j).first
  same_first j = by (cases_eq j i)
    where
      by : (j ≡ i) ⊎ (j ≢ i) → (slot_at ts j).first ≡ (slot_at ss j).first
      by (inl e) = ap (λ t. (slot_at ts t).first) e ∙ ap (λ (s : SlotData). s.first) at_it ∙ sym (ap (λ t. (slot_at ss t).first) e)
      by (inr n) = ap (λ (s : SlotData). s.first) (at_other j n)

  same_number : (j : ℕ) → (slot_at ts j).number ≡ (slot_at ss j).number
  same_number j = by (cases_eq j i)
    where
      by : (j ≡ i) ⊎ (j ≢ i) → (slot_at ts j).number ≡ (slot_at ss j).number
      by (inl e) = ap (λ t. (slot_at ts t).number) e ∙ ap (λ (s : SlotData). s.number) at_it ∙ sym (ap (λ t. (slot_at ss t).number) e)
      by (inr n) = ap (λ (s : SlotData). s.number) (at_other j n)

  pub same_order : (j : ℕ) → (slot_at ts j).order ≡ (slot_at ss j).order
  same_order j = by (cases_eq j i)
    where
      by : (j ≡ i) ⊎ (j ≢ i) → (slot_at ts j).order ≡ (slot_at ss j).order
      by (inl e) = ap (λ t. (slot_at ts t).order) e ∙ ap (λ (s : SlotData). s.order) at_it ∙ sym (ap (λ t. (slot_at ss t).order) e)
      by (inr n) = ap (λ (s : SlotData). s.order) (at_other j n)

  slot_known : IsSlot z (slot_at ss i) → IsSlot z (with_known (slot_at ss i) k)
  slot_known h = record { shallow = h.shallow; standing = h.standing; known = ap Some known.moments; below = λ e. known.below; mine = h.mine; here = h.here; home = h.home; order = h.order }

  each_known : (j : ℕ) → j < length ts → IsSlot z (slot_at ts j)
  each_known j h = by (cases_eq j i)
    where
      by : (j ≡ i) ⊎ (j ≢ i) → IsSlot z (slot_at ts j)
      by (inl e) = subst (λ t. IsSlot z (slot_at ts t)) (sym e) (subst (IsSlot z) (sym at_it) (slot_known (table.each i low)))
      by (inr n) = subst (IsSlot z) (sym (at_other j n)) (table.each j (omega (arith, h, same_long)))

  opened_known : (j : ℕ) → j < length ts → 0 < (slot_at ts j).number → IsOpened z ts j
  opened_known j h some =
      let was : IsOpened z ss j = table.opened j (omega (arith, h, same_long)) (omega (arith, some, same_number j)) in
      record {
        within = omega (arith, was.within, same_first j, same_number j, same_long);
        kids = (λ t. map (cell_at_place ts) (range_with_len (same_first j t) (same_number j t))) ∙ range_same (cell_at_place ts) (cell_at_place ss) (slot_at ss j).first (slot_at ss j).number (λ m a b. same_cell_at m) ∙ was.kids ∙ ap (kids (opening z.whole)) (sym (same_cell_at j));
      }

  born_known : (j : ℕ) → j < length ts → 0 < j → IsBorn ts j
  born_known j h some =
      let was : IsBorn ss j = table.born j (omega (arith, h, same_long)) some in
      record { above = was.above; low = omega (arith, was.low, same_long); from = omega (arith, was.from, same_first was.above); to = omega (arith, was.to, same_first was.above, same_number was.above) }

  pub table_known : IsTable z ts
  table_known = record {
    some = omega (arith, table.some, same_long);
    short = omega (arith, table.short, same_long);
    root = same_cell_at 0 ∙ table.root;
    each = each_known;
    opened = opened_known;
    born = born_known;
    distinct = λ a b h m e. table.distinct a b (omega (arith, h, same_long)) (omega (arith, m, same_long)) (sym (same_cell_at a) ∙ e ∙ same_cell_at b);
  }

  pub known_now : (j : ℕ) → j < length ss → known_at ts j ≡ (same_cell (cell_at_place ss j) (cell_at_place ss i) || known_at ss j)
  known_now j h = by (cases_eq j i)
    where
      apart : j ≢ i → (b : Bool) → same_cell (cell_at_place ss j) (cell_at_place ss i) ≡ b → b ≡ false
      apart n true e = absurd (n (table.distinct j i h low ((same_cell-exact (cell_at_place ss j) (cell_at_place ss i)).0 e)))
      apart n false e = refl

      by : (j ≡ i) ⊎ (j ≢ i) → known_at ts j ≡ (same_cell (cell_at_place ss j) (cell_at_place ss i) || known_at ss j)
      by (inl e) = ap (known_at ts) e ∙ ap (λ (s : SlotData). is_some s.moments) at_it ∙ sym (ap (λ b. b || known_at ss j) ((same_cell-exact (cell_at_place ss j) (cell_at_place ss i)).1 (ap (cell_at_place ss) e)))
      by (inr n) = ap (λ (s : SlotData). is_some s.moments) (at_other j n) ∙ sym (ap (λ b. b || known_at ss j) (apart n (same_cell (cell_at_place ss j) (cell_at_place ss i)) refl))

module _ (z : Seat) (s : Rank) (w : Walker) (h : IsWalker z s w) (c : CellData) (asked : is_one c s.asked ≡ true) (i : ℕ) (low : i < length w.heard.slots.items) (cell : cell_at_place w.heard.slots.items i ≡ c) (k : Known) (known : IsKnown z c k)
    (v : Walker) (slots : v.heard.slots.items ≡ set w.heard.slots.items i (with_known (slot_at w.heard.slots.items i) k)) (sums : v.heard.sums.items ≡ w.heard.sums.items) (touched : v.heard.touched.items ≡ w.heard.touched.items) (flags : v.heard.asked.items ≡ w.heard.asked.items) where
  known_here : IsKnown z (cell_at_place w.heard.slots.items i) k
  known_here = subst (λ d. IsKnown z d k) (sym cell) known

  its_cells : cells_in v.heard.slots.items ≡ cells_in w.heard.slots.items
  its_cells = same_cells z w.heard.slots.items h.heard.table i low k known_here v.heard.slots.items slots

  its_cell : (j : ℕ) → cell_at_place v.heard.slots.items j ≡ cell_at_place w.heard.slots.items j
  its_cell = same_cell_at z w.heard.slots.items h.heard.table i low k known_here v.heard.slots.items slots

  its_long : length v.heard.slots.items ≡ length w.heard.slots.items
  its_long = ap length slots ∙ length-set w.heard.slots.items i (with_known (slot_at w.heard.slots.items i) k)

  bools : (a b d : Bool) → (a || (b || d)) ≡ (b || (a || d))
  bools true true d = refl
  bools true false d = refl
  bools false true d = refl
  bools false false d = refl

  pub heard_reply : IsHeard (side z (replied s c).replies) v.heard
  heard_reply = record {
    whole = h.heard.whole;
    table = table_known z w.heard.slots.items h.heard.table i low k known_here v.heard.slots.items slots;
    knows = λ j l.
        let m : j < length w.heard.slots.items = omega (arith, l, its_long) in
        known_now z w.heard.slots.items h.heard.table i low k known_here v.heard.slots.items slots j m
        ∙ ap (λ b. same_cell (cell_at_place w.heard.slots.items j) (cell_at_place w.heard.slots.items i) || b) (h.heard.knows j m)
        ∙ ap (λ d. same_cell (cell_at_place w.heard.slots.items j) d || knows_cell (side z s.replies) (cell_at_place w.heard.slots.items j)) cell
        ∙ bools (same_cell (cell_at_place w.heard.slots.items j) c) (is_home z (cell_at_place w.heard.slots.items j)) (is_one (cell_at_place w.heard.slots.items j) s.replies)
        ∙ ap (knows_cell (side z (replied s c).replies)) (sym (its_cell j));
    stands = λ d e. ap (is_one d) its_cells ∙ stands d (same_cell d c) refl e;
    long = ap length sums ∙ h.heard.long ∙ sym its_long;
    long_touched = ap length touched ∙ h.heard.long_touched ∙ sym its_long;
    long_asked = ap length flags ∙ h.heard.long_asked ∙ sym its_long;
  }
    where
      stands : (d : CellData) (b : Bool) → same_cell d c ≡ b → (same_cell d c || is_one d s.replies) ≡ true → is_one d (cells_in w.heard.slots.items) ≡ true
      stands d true e g = ap (λ t. is_one t (cells_in w.heard.slots.items)) ((same_cell-exact d c).0 e) ∙ flag_stands (cells_in w.heard.slots.items) w.heard.asked.items c (h.kept.asked c ∙ asked)
      stands d false e g = h.heard.stands d (sym (ap (λ b. b || is_one d s.replies) e) ∙ g)

  same_pairs : (xs : List Places) → map (cells v.heard.slots.items) xs ≡ map (cells w.heard.slots.items) xs
  same_pairs [] = refl
  same_pairs (x ∷ xs) = λ t. (its_cell x.a t, its_cell x.b t) ∷ same_pairs xs t

  within_same : (xs : List Places) → AllByRecursion (IsIn w.heard.slots.items) xs → AllByRecursion (IsIn v.heard.slots.items) xs
  within_same [] a = tt
  within_same (x ∷ xs) a = (record { first = omega (arith, a.0.first, its_long); second = omega (arith, a.0.second, its_long) }, within_same xs a.1)

  pub walker_hears : v.list.items ≡ w.list.items → v.counted ≡ w.counted → v.places ≡ w.places → v.walked ≡ w.walked → v.more ≡ list_any (knows_places v.heard.slots.items) v.list.items → IsWalker z (replied s c) v
  walker_hears list count places walked more =
      let listed : AreListed v.heard.slots.items v.list.items = subst (AreListed v.heard.slots.items) (sym list) (record { within = within_same w.list.items h.listed.within; listed = subst (AllByRecursion IsListed) (sym (same_pairs w.list.items)) h.listed.listed }) in
      let pairs : map (cells v.heard.slots.items) v.list.items ≡ todo (rules z) z.rank s = ap (map (cells v.heard.slots.items)) list ∙ same_pairs w.list.items ∙ h.pairs in
      record {
        heard = heard_reply;
        listed = listed;
        pairs = pairs;
        kept = record {
          counted = count ∙ h.kept.counted;
          sums = λ d. (λ t. value_at (its_cells t) (sums t) d) ∙ h.kept.sums d;
          touched = λ d. (λ t. flag_at (its_cells t) (touched t) d) ∙ h.kept.touched d;
          asked = λ d. (λ t. flag_at (its_cells t) (flags t) d) ∙ h.kept.asked d;
          small = λ j. subst (λ n. IsAtMost (n * 2 ^ 86) (sum_at_place v.heard.sums.items j)) (sym count) (subst (λ t. IsAtMost (w.counted * 2 ^ 86) (sum_at_place t j)) (sym sums) (h.kept.small j));
        };
        run = record { settled = h.run.settled; answered = answered; away = h.run.away };
        found = λ j l e. (λ t. get nat_cmp (places t) (same_order z w.heard.slots.items h.heard.table i low k known_here v.heard.slots.items slots j t)) ∙ h.found j (omega (arith, l, its_long)) (sym (ap (λ t. get_or t j false) flags) ∙ e);
        walked = walked ∙ h.walked;
        more = more ∙ knows_some z (replied s c).replies v.heard heard_reply v.list.items listed.within ∙ ap (list_any (knows_both (rules z) z.rank (replied s c).replies)) pairs;
      }
    where
      answered : (d : CellData) → is_one d (replied s c).replies ≡ true → is_one d s.asked ≡ true
      answered d e = by (same_cell d c) refl e
        where
          by : (b : Bool) → same_cell d c ≡ b → (same_cell d c || is_one d s.replies) ≡ true → is_one d s.asked ≡ true
          by true p q = ap (λ t. is_one t s.asked) ((same_cell-exact d c).0 p) ∙ asked
          by false p q = h.run.answered d (sym (ap (λ b. b || is_one d s.replies) p) ∙ q)

-- as the code finds it
pub told_place : (z : Seat) (s : Rank) (w : Walker) (c : CellData) (first : ℕ) (k : Known) → Awaits z s w c first k → (o : ℕ) → o ≡ c.level * 2 ^ 96 + first → (p : ℕ) → ((i : ℕ) → get nat_cmp w.places o ≡ Some i → p ≡ i) → (p < length w.heard.slots.items) × (cell_at_place w.heard.slots.items p ≡ c)
told_place z s w c first k a o q p f =
    let at : AskedAt w c = asked_at z s w a.walker c a.asked in
    let e : p ≡ at.place = place_is z s w a.walker c a.asked o (q ∙ ap (λ n. c.level * 2 ^ 96 + n) a.number) p f at in
    (omega (arith, e, at.low), ap (cell_at_place w.heard.slots.items) e ∙ at.cell)

pub awaited_keys : (z : Seat) (s : Rank) (w : Walker) (c : CellData) (first : ℕ) (k : Known) → Awaits z s w c first k → (first < 2 ^ 96)
awaited_keys z s w c first k a =
    let at : AskedAt w c = asked_at z s w a.walker c a.asked in
    omega (arith, a.number, a.seat.keys c (subst (IsPlaced z.whole) at.cell (placed z w.heard.slots.items a.walker.heard.table at.place at.low)))
