-- Bytes that are a snapshot have no fault.
use Rattle.std.proofs.Common.{◌≡◌, ℕ, ◌<◌, Bool, true, false, cond, not, List, length, take, sum, slice_index_or, Option, Some, None, is_some, inl, inr, refl, sym, ap, subst, ◌∙◌, true≢false}
use Rattle.std.specs.Option.{option_map}
use Rattle.snapshot_blocks.specs.declared.block.Block.{Block}
use Rattle.snapshot_blocks.proofs.Framing.{read_one_way}
use Rattle.nbody_model.specs.Bodies.{BodyData}
use Rattle.nbody_model.specs.SnapshotText.{head_name}
use Rattle.particle_set.specs.Rows.{IsFirstRefusal}
use Rattle.particle_set.proofs.OneSet.{no_refusal}
use Rattle.snap_file.specs.declared.head.Head.{Head}
use Rattle.snap_file.specs.declared.errors.SnapErr.{SnapErr}
use Rattle.snap_file.specs.declared.errors.SnapErr.TheVariants.{Block as InFrames, RepeatedBlock, MissingBlock, HeadLength, HeadTag, Gas, BlockLength, Bodies as InBodies, Memory}
use Rattle.snap_file.specs.Snapshots.{ColumnTexts, AreColumns, HasHead, HasColumns, SpellsHead, SpellsSnapshot, IsHeadFault, IsSnapshotFault, IsFirstRepeat, RepeatsBlock, LacksHead, LacksColumn, HasHeadFault, HasCountsFault, HasLengthFault, contents_named, missing_column, head_fault, counts_fault, lengths_fault, repeats, rows_in}
use Rattle.snap_file.specs.Exact.{IsWantOfMemory, ReadOneWay}
use Rattle.snap_file.proofs.OneReading.{some_same, same_blocks, one_head, one_columns, same_rows, one_snapshot}

some_none : {A : Type 0} {x : A} {o : Option A} → o ≡ Some x → o ≡ None → ⊥
some_none e f = cc

-- ---- the checks before

repeated : (blocks : List Block) (name : List ℕ) → IsFirstRepeat blocks name → ((k : ℕ) (d : Block) → k < length blocks → repeats (take k blocks) (slice_index_or blocks k d) ≡ false) → ⊥
repeated blocks name f c =
    true≢false (sym f.repeated ∙ ap (repeats (take f.place blocks)) (sym f.at) ∙ c f.place f.block f.within)

present : {X Y : Type 0} (f : X → Y) (o : Option X) (y : Y) → option_map f o ≡ Some y → is_some o ≡ true
present f None y e = absurd (cc)
present f (Some x) y e = refl

passed : {E : Type 0} (t : Bool) (e : E) (rest : Option E) → t ≡ true → rest ≡ None → cond (not t) (Some e) rest ≡ None
passed t e rest f g = ap (λ s. cond (not s) (Some e) rest) f ∙ g

none_missing : (bytes : List ℕ) (blocks : List Block) (t : ColumnTexts) → AreColumns bytes blocks t → missing_column blocks ≡ None
none_missing bytes blocks t h =
    passed _ _ _ (present _ _ _ h.positions) (passed _ _ _ (present _ _ _ h.momenta) (passed _ _ _ (present _ _ _ h.ids) (passed _ _ _ (present _ _ _ h.masses) refl)))

no_head_fault : (bytes : List ℕ) (xs : List Block) (h : Head) (e : SnapErr) → HasHead bytes xs h → HasHeadFault bytes e → ⊥
no_head_fault bytes xs h e p f =
    let same : f.blocks ≡ xs = same_blocks bytes f.blocks xs f.blocks_are.spelled p.blocks_are.spelled in
    let texts : f.text ≡ p.text = some_same (subst (λ bs. contents_named bytes head_name bs ≡ Some f.text) same f.found) p.found in
    some_none f.fault (ap head_fault texts ∙ p.sound)

no_counts_fault : (bytes : List ℕ) (xs : List Block) (h : Head) (t : ColumnTexts) (e : SnapErr) → HasColumns bytes xs h t → HasCountsFault bytes e → ⊥
no_counts_fault bytes xs h t e p f =
    some_none f.fault (ap (λ x. counts_fault x.counts) (one_head bytes f.blocks xs f.head h f.has p.has_head) ∙ p.counts_sound)

no_length_fault : (bytes : List ℕ) (xs : List Block) (h : Head) (t : ColumnTexts) (e : SnapErr) → HasColumns bytes xs h t → HasLengthFault bytes e → ⊥
no_length_fault bytes xs h t e p f =
    let same : f.blocks ≡ xs = same_blocks bytes f.blocks xs f.has.blocks_are.spelled p.has_head.blocks_are.spelled in
    let heads : f.head ≡ h = one_head bytes f.blocks xs f.head h f.has p.has_head in
    let columns : f.columns ≡ t = one_columns bytes xs f.columns t (subst (λ bs. AreColumns bytes bs f.columns) same f.found) p.found in
    some_none f.fault (ap (λ x. lengths_fault (sum x.counts) f.columns) heads ∙ ap (lengths_fault (sum h.counts)) columns ∙ p.lengths_sound)

no_head : (bytes : List ℕ) (xs : List Block) (h : Head) (name : List ℕ) → HasHead bytes xs h → LacksHead bytes name → ⊥
no_head bytes xs h name p f =
    let same : f.blocks ≡ xs = same_blocks bytes f.blocks xs f.blocks_are.spelled p.blocks_are.spelled in
    some_none p.found (subst (λ bs. contents_named bytes head_name bs ≡ None) same f.missing)

no_column : (bytes : List ℕ) (xs : List Block) (h : Head) (t : ColumnTexts) (e : SnapErr) → HasColumns bytes xs h t → LacksColumn bytes e → ⊥
no_column bytes xs h t e p f =
    let same : f.blocks ≡ xs = same_blocks bytes f.blocks xs f.has.blocks_are.spelled p.has_head.blocks_are.spelled in
    some_none (subst (λ bs. missing_column bs ≡ Some e) same f.fault) (none_missing bytes xs t p.found)

no_repeat : (bytes : List ℕ) (xs : List Block) (h : Head) (name : List ℕ) → HasHead bytes xs h → RepeatsBlock bytes name → ⊥
no_repeat bytes xs h name p f =
    let same : f.blocks ≡ xs = same_blocks bytes f.blocks xs f.spelled p.blocks_are.spelled in
    repeated xs name (subst (λ bs. IsFirstRepeat bs name) same f.first) p.blocks_are.once.clean

apart : (bytes : List ℕ) (B : List BodyData) (e : SnapErr) → SpellsSnapshot bytes B → IsSnapshotFault bytes e → IsWantOfMemory e
apart bytes B (InFrames e) h f = (read_one_way bytes).apart h.blocks e h.has.has_head.blocks_are.spelled f
apart bytes B (RepeatedBlock name) h f = no_repeat bytes h.blocks h.head name h.has.has_head f
apart bytes B (MissingBlock name) h (inl f) = no_head bytes h.blocks h.head name h.has.has_head f
apart bytes B (MissingBlock name) h (inr f) = no_column bytes h.blocks h.head h.columns (MissingBlock name) h.has f
apart bytes B (HeadLength got) h f = no_head_fault bytes h.blocks h.head (HeadLength got) h.has.has_head f
apart bytes B HeadTag h f = no_head_fault bytes h.blocks h.head HeadTag h.has.has_head f
apart bytes B (Gas count) h f = no_counts_fault bytes h.blocks h.head h.columns (Gas count) h.has f
apart bytes B (BlockLength name want got) h f = no_length_fault bytes h.blocks h.head h.columns (BlockLength name want got) h.has f
apart bytes B (InBodies e) h (inl f) = absurd (no_counts_fault bytes h.blocks h.head h.columns (InBodies e) h.has f)
apart bytes B (InBodies e) h (inr f) =
    no_refusal (rows_in h.head.counts h.columns) B e h.bodies
    (subst (λ rs. IsFirstRefusal rs e) (same_rows bytes f.blocks h.blocks f.head h.head f.columns h.columns f.has h.has) f.refused)
apart bytes B Memory h f = tt

head_apart : (bytes : List ℕ) (h : Head) (e : SnapErr) → SpellsHead bytes h → IsHeadFault bytes e → IsWantOfMemory e
head_apart bytes h (InFrames e) p f = (read_one_way bytes).apart p.blocks e p.has.blocks_are.spelled f
head_apart bytes h (RepeatedBlock name) p f = no_repeat bytes p.blocks h name p.has f
head_apart bytes h (MissingBlock name) p f = no_head bytes p.blocks h name p.has f
head_apart bytes h (HeadLength got) p f = no_head_fault bytes p.blocks h (HeadLength got) p.has f
head_apart bytes h HeadTag p f = no_head_fault bytes p.blocks h HeadTag p.has f
head_apart bytes h (Gas count) p f = absurd f
head_apart bytes h (BlockLength name want got) p f = absurd f
head_apart bytes h (InBodies e) p f = absurd f
head_apart bytes h Memory p f = tt

pub reads_one_way : (bytes : List ℕ) → ReadOneWay bytes
reads_one_way bytes = record {
  one_head = λ h k p q. one_head bytes p.blocks q.blocks h k p.has q.has;
  one_value = one_snapshot bytes;
  apart = apart bytes;
  head_apart = head_apart bytes;
}
