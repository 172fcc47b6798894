-- Slots for the children of a cell, one after another.
use Rattle.std.proofs.Common.{◌≡◌, ℕ, suc, Bool, true, false, cond, List, [], ◌∷◌, ◌++◌, map, refl, ap, sym, ◌∙◌, append_assoc, subst}
use Rattle.std.specs.Prelude.{is_some}
use Rattle.std.specs.List.{filter}
use Rattle.std.proofs.lemmas.List.{append-nil, map-append}
use Rattle.fixed_point.specs.Vectors.{origin}
use Rattle.cell_space.specs.Cells.{CellData, child, below}
use Rattle.model_laws.proofs.Among.{each-append}
use Rattle.rank_walk.specs.declared.heard.Heard.{Heard}
use Rattle.rank_walk.specs.Seats.{Seat, has_child, is_home}
use Rattle.rank_walk.specs.Slots.{SlotData, cells_in}
use Rattle.rank_walk.specs.Tables.{IsSlot, IsFresh, IsLonger, IsMaking}

pub same_long : (h : Heard) → IsLonger [] h h
same_long h = record { sums = sym (append-nil h.sums.items); touched = sym (append-nil h.touched.items); asked = sym (append-nil h.asked.items) }

-- a list that grew by a list and then by another
grown_list : {X : Type 0} (e : X) (xs ys zs : List X) (cs ds : List CellData) → ys ≡ xs ++ map (λ c. e) cs → zs ≡ ys ++ map (λ c. e) ds → zs ≡ xs ++ map (λ c. e) (cs ++ ds)
grown_list e xs ys zs cs ds p q = q ∙ ap (λ t. t ++ map (λ c. e) ds) p ∙ append_assoc xs (map (λ c. e) cs) (map (λ c. e) ds) ∙ ap (λ t. xs ++ t) (sym (map-append (λ (c : CellData). e) cs ds))

pub longer_twice : (cs ds : List CellData) (h k l : Heard) → IsLonger cs h k → IsLonger ds k l → IsLonger (cs ++ ds) h l
longer_twice cs ds h k l a b = record {
  sums = grown_list origin h.sums.items k.sums.items l.sums.items cs ds a.sums b.sums;
  touched = grown_list false h.touched.items k.touched.items l.touched.items cs ds a.touched b.touched;
  asked = grown_list false h.asked.items k.asked.items l.asked.items cs ds a.asked b.asked;
}

pub making_start : (z : Seat) (c : CellData) (h : Heard) → IsMaking z c h 8 h
making_start z c h = record { made = []; slots = sym (append-nil h.slots.items); each = tt; cells = refl; longer = same_long h }

-- the numbers below the next number that pass a test
next_kept : (t : ℕ → Bool) (n k : ℕ) → n ≡ suc k → (b : Bool) → t k ≡ b → filter t (below n) ≡ cond b (k ∷ filter t (below k)) (filter t (below k))
next_kept t n k e b h = ap (λ m. filter t (below m)) e ∙ ap (λ u. cond u (k ∷ filter t (below k)) (filter t (below k))) h

module _ (z : Seat) (c : CellData) (start : Heard) where
  pub making_none : (n k : ℕ) (h : Heard) → n ≡ suc k → has_child z c k ≡ false → IsMaking z c start n h → IsMaking z c start k h
  making_none n k h e f m = record { made = m.made; slots = m.slots; each = m.each; cells = ap (λ t. cells_in m.made ++ map (child c) t) (sym (next_kept (has_child z c) n k e false f)) ∙ m.cells; longer = m.longer }

  pub making_one : (n k : ℕ) (h l : Heard) (s : SlotData) → n ≡ suc k → has_child z c k ≡ true → IsFresh z (child c k) s → l.slots.items ≡ h.slots.items ++ s ∷ [] → IsLonger (child c k ∷ []) h l →
      IsMaking z c start n h → IsMaking z c start k l
  making_one n k h l s e f g p q m =
      let cells : cells_in (m.made ++ s ∷ []) ++ map (child c) (filter (has_child z c) (below k)) ≡ cells_in m.made ++ child c k ∷ map (child c) (filter (has_child z c) (below k)) =
      ap (λ t. t ++ map (child c) (filter (has_child z c) (below k))) (map-append (λ (s : SlotData). s.cell) m.made (s ∷ []))
      ∙ append_assoc (cells_in m.made) (s.cell ∷ []) (map (child c) (filter (has_child z c) (below k)))
      ∙ ap (λ d. cells_in m.made ++ d ∷ map (child c) (filter (has_child z c) (below k))) g.cell in
      record {
        made = m.made ++ s ∷ [];
        slots = p ∙ ap (λ t. t ++ s ∷ []) m.slots ∙ append_assoc start.slots.items m.made (s ∷ []);
        each = each-append (λ s. IsSlot z s × (s.number ≡ 0) × (is_some s.moments ≡ is_home z s.cell)) m.made (s ∷ []) m.each ((g.slot, g.closed, g.known), tt);
        cells = cells ∙ ap (λ t. cells_in m.made ++ map (child c) t) (sym (next_kept (has_child z c) n k e true f)) ∙ m.cells;
        longer = subst (λ t. IsLonger t start l) (sym (map-append (λ (s : SlotData). s.cell) m.made (s ∷ []) ∙ ap (λ d. cells_in m.made ++ d ∷ []) g.cell)) (longer_twice (cells_in m.made) (child c k ∷ []) start h l m.longer q);
      }

  -- as the code tells it: a value at the end of each list
  pub making_pushed : (n k : ℕ) (h l : Heard) (s : SlotData) → n ≡ suc k → has_child z c k ≡ true → IsFresh z (child c k) s → l.slots.items ≡ h.slots.items ++ s ∷ [] →
      l.sums.items ≡ h.sums.items ++ origin ∷ [] → l.touched.items ≡ h.touched.items ++ false ∷ [] → l.asked.items ≡ h.asked.items ++ false ∷ [] → IsMaking z c start n h → IsMaking z c start k l
  making_pushed n k h l s e f g p q u v m = making_one n k h l s e f g p (record { sums = q; touched = u; asked = v }) m
