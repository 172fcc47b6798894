-- What a cell is replaced by, as the code tells it.
use Rattle.std.proofs.Common.{◌≡◌, ℕ, ◌+◌, ◌<◌, ◌≤◌, Bool, true, false, List, length, ap, sym, ◌∙◌, arith, subst}
use Rattle.cell_space.specs.Cells.{CellData}
use Rattle.nbody_model.specs.Covers.{leaf}
use Rattle.rank_laws.specs.Whole.{opening}
use Rattle.rank_walk.specs.declared.heard.Heard.{Heard}
use Rattle.rank_walk.specs.Seats.{Seat, TellsBelow, bit, has_child}
use Rattle.rank_walk.specs.Slots.{SlotData, cell_at_place, slot_at}
use Rattle.rank_walk.specs.Tables.{IsDown, IsMaking, IsReplaced, IsTable, MakesAll, MayOpen, known_at, leaf_of}
use Rattle.rank_walk.proofs.Growth.{length_append}
use Rattle.rank_walk.proofs.Opened.{leaf_down, leaf_is, level_low, opened_down, same_grown}

-- slots that children were put behind
pub made_longer : (z : Seat) (c : CellData) (h k : Heard) → IsMaking z c h 0 k → length h.slots.items ≤ length k.slots.items
made_longer z c h k m = omega (arith, ap length m.slots, length_append h.slots.items m.made)

-- what stands at the place of a known cell
module _ (z : Seat) (h : Heard) (i : ℕ) (low : i < length h.slots.items) (known : known_at h.slots.items i ≡ true) (ts : List SlotData) (same : ts ≡ h.slots.items) where
  pub level_at : (c : CellData) → c ≡ cell_at_place ts i → MayOpen h i z → c.level < 32
  level_at c p m = level_low (opening z.whole) (cell_at_place h.slots.items i) c m.parted (p ∙ ap (λ t. cell_at_place t i) same)

  pub below_at : (c : CellData) (n : ℕ) → c ≡ cell_at_place ts i → n ≡ (slot_at ts i).below → IsTable z h.slots.items → TellsBelow c n z
  below_at c n p q table = λ l k u.
      let it : c ≡ cell_at_place h.slots.items i = p ∙ ap (λ t. cell_at_place t i) same in
      ap (λ m. bit m k) (q ∙ ap (λ t. (slot_at t i).below) same) ∙ (table.each i low).below known (subst (λ d. d.level < 32) it l) k u ∙ ap (λ d. has_child z d k) (sym it)

  pub making_at : (c : CellData) (n : ℕ) → c ≡ cell_at_place ts i → n ≡ (slot_at ts i).below → (k : Heard) → MakesAll c n h k z → IsTable z h.slots.items → IsMaking z c h 0 k
  making_at c n p q k makes table = makes (below_at c n p q table)

  pub opened_already : (first number to : ℕ) → first ≡ (slot_at ts i).first → number ≡ (slot_at ts i).number → 0 < number → to ≡ first + number → MayOpen h i z → IsReplaced h i h first to z
  opened_already first number to p q some t m =
      let a : first ≡ (slot_at h.slots.items i).first = p ∙ ap (λ t. (slot_at t i).first) same in
      let b : number ≡ (slot_at h.slots.items i).number = q ∙ ap (λ t. (slot_at t i).number) same in
      let c : to ≡ (slot_at h.slots.items i).first + (slot_at h.slots.items i).number = t ∙ (λ j. a j + b j) in
      record {
        grown = same_grown z h m.table;
        down = subst (λ u. IsDown z h.slots.items (cell_at_place h.slots.items i) u to) (sym a) (subst (IsDown z h.slots.items (cell_at_place h.slots.items i) (slot_at h.slots.items i).first) (sym c)
            (opened_down z h.slots.items i m.table low (omega (arith, some, b)) m.parted));
      }

  module _ (b : Bool) (its : b ≡ leaf_of (slot_at ts i).moments) (table : IsTable z h.slots.items) where
    leaf_at : leaf (opening z.whole) (cell_at_place h.slots.items i) ≡ b
    leaf_at = sym (leaf_is z h.slots.items i table low known) ∙ sym (its ∙ ap (λ t. leaf_of (slot_at t i).moments) same)

    pub leaf_stays : b ≡ true → IsReplaced h i h i (i + 1) z
    leaf_stays e = record { grown = same_grown z h table; down = leaf_down z h.slots.items i low (leaf_at ∙ e) }

    pub may_open : b ≡ false → MayOpen h i z
    may_open e = record { table = table; parted = leaf_at ∙ e }
