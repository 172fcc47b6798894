-- Bytes are a snapshot of at most one set.
use Rattle.std.proofs.Common.{◌≡◌, ℕ, List, Option, Some, sym, ap, subst, ◌∙◌}
use Rattle.snapshot_blocks.specs.declared.block.Block.{Block}
use Rattle.snapshot_blocks.specs.Blocks.{Spell}
use Rattle.snapshot_blocks.proofs.Framing.{read_one_way}
use Rattle.nbody_model.specs.Bodies.{BodyData}
use Rattle.nbody_model.specs.SnapshotText.{head_name}
use Rattle.particle_set.specs.Rows.{IsSetOf}
use Rattle.particle_set.proofs.OneSet.{one_set}
use Rattle.snap_file.specs.declared.head.Head.{Head}
use Rattle.snap_file.specs.Snapshots.{ColumnTexts, AreColumns, HasHead, HasColumns, SpellsSnapshot, contents_named, head_in, rows_in}

pub some_same : {A : Type 0} {x y : A} {o : Option A} → o ≡ Some x → o ≡ Some y → x ≡ y
some_same e f = cc

pub same_blocks : (bytes : List ℕ) (xs ys : List Block) → Spell bytes xs → Spell bytes ys → xs ≡ ys
same_blocks bytes xs ys h k = (read_one_way bytes).one_value xs ys h k

pub one_head : (bytes : List ℕ) (xs ys : List Block) (h k : Head) → HasHead bytes xs h → HasHead bytes ys k → h ≡ k
one_head bytes xs ys h k p q =
    let same : xs ≡ ys = same_blocks bytes xs ys p.blocks_are.spelled q.blocks_are.spelled in
    let texts : p.text ≡ q.text = some_same (subst (λ bs. contents_named bytes head_name bs ≡ Some p.text) same p.found) q.found in
    p.is ∙ ap head_in texts ∙ sym q.is

pub one_columns : (bytes : List ℕ) (blocks : List Block) (s t : ColumnTexts) → AreColumns bytes blocks s → AreColumns bytes blocks t → s ≡ t
one_columns bytes blocks s t h k =
    let positions : s.positions ≡ t.positions = some_same h.positions k.positions in
    let momenta : s.momenta ≡ t.momenta = some_same h.momenta k.momenta in
    let ids : s.ids ≡ t.ids = some_same h.ids k.ids in
    let masses : s.masses ≡ t.masses = some_same h.masses k.masses in
    λ i. record { positions = positions i; momenta = momenta i; ids = ids i; masses = masses i }

-- the same bytes have the same rows
pub same_rows : (bytes : List ℕ) (xs ys : List Block) (h k : Head) (s t : ColumnTexts) → HasColumns bytes xs h s → HasColumns bytes ys k t → rows_in h.counts s ≡ rows_in k.counts t
same_rows bytes xs ys h k s t p q =
    let same : xs ≡ ys = same_blocks bytes xs ys p.has_head.blocks_are.spelled q.has_head.blocks_are.spelled in
    let heads : h ≡ k = one_head bytes xs ys h k p.has_head q.has_head in
    let columns : s ≡ t = one_columns bytes ys s t (subst (λ bs. AreColumns bytes bs s) same p.found) q.found in
    ap (λ x. rows_in x.counts s) heads ∙ ap (rows_in k.counts) columns

pub one_snapshot : (bytes : List ℕ) (B C : List BodyData) → SpellsSnapshot bytes B → SpellsSnapshot bytes C → B ≡ C
one_snapshot bytes B C h k =
    one_set (rows_in k.head.counts k.columns) B C
    (subst (λ rs. IsSetOf rs B) (same_rows bytes h.blocks k.blocks h.head k.head h.columns k.columns h.has k.has) h.bodies) k.bodies
