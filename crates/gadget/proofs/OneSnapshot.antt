-- Bytes that are no snapshot have one first fault.
use Rattle.std.proofs.Common.{◌≡◌, ◌<◌, ◌≤◌, ℕ, Bool, true, cond, not, List, length, take, sum, get_or, Option, Some, None, is_some, inl, inr, refl, sym, ap, subst, ◌∙◌, true≢false, arith}
use Rattle.std.specs.Option.{option_map}
use Rattle.std.proofs.lemmas.List.{get_or_default}
use Rattle.snapshot_blocks.specs.declared.block.Block.{Block}
use Rattle.snapshot_blocks.specs.declared.block.BlockErr.{BlockErr}
use Rattle.snapshot_blocks.specs.Blocks.{Spell, IsFirstFault}
use Rattle.snapshot_blocks.proofs.Framing.{read_one_way}
use Rattle.nbody_model.specs.SnapshotText.{head_name}
use Rattle.particle_set.specs.declared.row.SetErr.{SetErr}
use Rattle.particle_set.specs.Rows.{IsSetOf}
use Rattle.snap_file.specs.declared.head.Head.{Head}
use Rattle.snap_file.specs.declared.errors.SnapErr.{SnapErr}
use Rattle.snap_file.specs.declared.errors.SnapErr.TheVariants.{Block as InFrames, RepeatedBlock, MissingBlock, HeadLength, HeadTag, Gas, BlockLength, Bodies as InBodies, Memory}
use Rattle.snap_file.specs.Exact.{IsWantOfMemory}
use Rattle.snap_file.specs.Snapshots.{ColumnTexts, AreColumns, HasHead, HasHeadFault, HasCountsFault, HasLengthFault, LacksColumn, NoRepeatBelow, IsFirstRepeat, SpellsSnapshot, IsSnapshotFault, contents_named, counts_fault, head_fault, head_in, lengths_fault, missing_column, repeats, rows_in}
use Rattle.snap_file.proofs.OneReading.{one_columns}
use Rattle.snap_file.proofs.NoFault.{reads_one_way}
use Rattle.gadget.proofs.Exact.{IsExact, Either, OneWay, either_one, check_exact, find_exact, mapped}
use Rattle.gadget.proofs.OneRefusal.{IsRefused, rows_exact}

-- ---- the stages

frames : (bytes : List ℕ) → IsExact (IsFirstFault bytes) (Spell bytes)
frames bytes = record {
  one_refusal = (read_one_way bytes).one_fault;
  one_value = (read_one_way bytes).one_value;
  apart = λ e xs f s. (read_one_way bytes).apart xs e s f;
}

before : (bs : List Block) (m n : List ℕ) (f : IsFirstRepeat bs m) (g : IsFirstRepeat bs n) → f.place < g.place → 1 ≤ 0
before bs m n f g l =
    absurd (true≢false (sym f.repeated ∙ ap (repeats (take f.place bs)) (sym f.at) ∙ g.first.clean f.place f.block l))

one_repeat : (bs : List Block) (m n : List ℕ) → IsFirstRepeat bs m → IsFirstRepeat bs n → m ≡ n
one_repeat bs m n f g =
    let no : f.place < g.place → 1 ≤ 0 = before bs m n f g in
    let none : g.place < f.place → 1 ≤ 0 = before bs n m g f in
    let places : f.place ≡ g.place = grind arith in
    let blocks : f.block ≡ g.block = sym f.at ∙ get_or_default bs f.place f.block g.block f.within ∙ ap (λ k. get_or bs k g.block) places ∙ g.at in
    sym f.named ∙ ap (λ b. b.name) blocks ∙ g.named

repeated : (bs : List Block) (name : List ℕ) → IsFirstRepeat bs name → NoRepeatBelow bs (length bs) → ⊥
repeated bs name f c = true≢false (sym f.repeated ∙ ap (repeats (take f.place bs)) (sym f.at) ∙ c.clean f.place f.block f.within)

repeats_exact : (bs : List Block) → IsExact (IsFirstRepeat bs) (λ (u : Unit {0}). NoRepeatBelow bs (length bs))
repeats_exact bs = record {
  one_refusal = one_repeat bs;
  one_value = λ u v p q. refl;
  apart = λ name u f c. repeated bs name f c;
}

present : {X Y : Type 0} (f : X → Y) (o : Option X) (y : Y) → option_map f o ≡ Some y → is_some o ≡ true
present f None y e = absurd (cc)
present f (Some x) y e = refl

passed : {E : Type 0} (t : Bool) (e : E) (rest : Option E) → t ≡ true → rest ≡ None → cond (not t) (Some e) rest ≡ None
passed t e rest f g = ap (λ s. cond (not s) (Some e) rest) f ∙ g

none_missing : (bytes : List ℕ) (bs : List Block) (t : ColumnTexts) → AreColumns bytes bs t → missing_column bs ≡ None
none_missing bytes bs t h =
    passed _ _ _ (present _ _ _ h.positions) (passed _ _ _ (present _ _ _ h.momenta) (passed _ _ _ (present _ _ _ h.ids) (passed _ _ _ (present _ _ _ h.masses) refl)))

columns_exact : (bytes : List ℕ) (bs : List Block) → IsExact (λ (e : SnapErr). missing_column bs ≡ Some e) (AreColumns bytes bs)
columns_exact bytes bs = record {
  one_refusal = λ a b p q. (check_exact (missing_column bs)).one_refusal a b p q;
  one_value = one_columns bytes bs;
  apart = λ a t p h. (check_exact (missing_column bs)).apart a tt p (none_missing bytes bs t h);
}

-- ---- all of them, from the last on

abbrev Rows : List ℕ → ColumnTexts → SnapErr → Type 0
Rows counts t e = (r : SetErr) × (e ≡ InBodies r) × IsRefused (rows_in counts t) r

abbrev Lengths : List ℕ → ColumnTexts → SnapErr → Type 0
Lengths counts t = Either (λ e. lengths_fault (sum counts) t ≡ Some e) (λ (u : Unit {0}). lengths_fault (sum counts) t ≡ None) (λ u. Rows counts t)

abbrev Counts : List ℕ → ColumnTexts → SnapErr → Type 0
Counts counts t = Either (λ e. counts_fault counts ≡ Some e) (λ (u : Unit {0}). counts_fault counts ≡ None) (λ u. Lengths counts t)

abbrev Columns : List ℕ → List Block → List ℕ → SnapErr → Type 0
Columns bytes bs counts = Either (λ e. missing_column bs ≡ Some e) (AreColumns bytes bs) (λ t. Counts counts t)

abbrev Heads : List ℕ → List Block → List ℕ → SnapErr → Type 0
Heads bytes bs text = Either (λ e. head_fault text ≡ Some e) (λ (u : Unit {0}). head_fault text ≡ None) (λ u. Columns bytes bs (head_in text).counts)

abbrev Texts : List ℕ → List Block → SnapErr → Type 0
Texts bytes bs = Either (λ e. (contents_named bytes head_name bs ≡ None) × (e ≡ MissingBlock head_name)) (λ text. contents_named bytes head_name bs ≡ Some text) (λ text. Heads bytes bs text)

abbrev Repeats : List ℕ → List Block → SnapErr → Type 0
Repeats bytes bs = Either (λ e. (name : List ℕ) × (e ≡ RepeatedBlock name) × IsFirstRepeat bs name) (λ (u : Unit {0}). NoRepeatBelow bs (length bs)) (λ u. Texts bytes bs)

abbrev Faults : List ℕ → SnapErr → Type 0
Faults bytes = Either (λ e. (x : BlockErr) × (e ≡ InFrames x) × IsFirstFault bytes x) (Spell bytes) (λ bs. Repeats bytes bs)

rows_one : (counts : List ℕ) (t : ColumnTexts) → OneWay (Rows counts t)
rows_one counts t = (mapped (IsRefused (rows_in counts t)) (IsSetOf (rows_in counts t)) InBodies (rows_exact (rows_in counts t))).one_refusal

lengths_one : (counts : List ℕ) (t : ColumnTexts) → OneWay (Lengths counts t)
lengths_one counts t = either_one _ _ (λ u. Rows counts t) (check_exact (lengths_fault (sum counts) t)) (λ u. rows_one counts t)

counts_one : (counts : List ℕ) (t : ColumnTexts) → OneWay (Counts counts t)
counts_one counts t = either_one _ _ (λ u. Lengths counts t) (check_exact (counts_fault counts)) (λ u. lengths_one counts t)

columns_one : (bytes : List ℕ) (bs : List Block) (counts : List ℕ) → OneWay (Columns bytes bs counts)
columns_one bytes bs counts = either_one _ _ (λ t. Counts counts t) (columns_exact bytes bs) (λ t. counts_one counts t)

heads_one : (bytes : List ℕ) (bs : List Block) (text : List ℕ) → OneWay (Heads bytes bs text)
heads_one bytes bs text = either_one _ _ (λ u. Columns bytes bs (head_in text).counts) (check_exact (head_fault text)) (λ u. columns_one bytes bs (head_in text).counts)

texts_one : (bytes : List ℕ) (bs : List Block) → OneWay (Texts bytes bs)
texts_one bytes bs = either_one _ _ (λ text. Heads bytes bs text) (find_exact (contents_named bytes head_name bs) (MissingBlock head_name)) (λ text. heads_one bytes bs text)

repeats_one : (bytes : List ℕ) (bs : List Block) → OneWay (Repeats bytes bs)
repeats_one bytes bs = either_one _ _ (λ u. Texts bytes bs) (mapped _ _ RepeatedBlock (repeats_exact bs)) (λ u. texts_one bytes bs)

faults_one : (bytes : List ℕ) → OneWay (Faults bytes)
faults_one bytes = either_one _ _ (λ bs. Repeats bytes bs) (mapped _ _ InFrames (frames bytes)) (λ bs. repeats_one bytes bs)

-- ---- a first fault is one of these

-- behind a sound head
behind : (bytes : List ℕ) (bs : List Block) (head : Head) (e : SnapErr) → HasHead bytes bs head → Columns bytes bs head.counts e → Faults bytes e
behind bytes bs head e h c =
    inr (bs, h.blocks_are.spelled, inr (tt, h.blocks_are.once, inr (h.text, h.found, inr (tt, h.sound, subst (λ x. Columns bytes bs x.counts e) h.is c))))

head_faulty : (bytes : List ℕ) (e : SnapErr) → HasHeadFault bytes e → Faults bytes e
head_faulty bytes e f = inr (f.blocks, f.blocks_are.spelled, inr (tt, f.blocks_are.once, inr (f.text, f.found, inl f.fault)))

counts_faulty : (bytes : List ℕ) (e : SnapErr) → HasCountsFault bytes e → Faults bytes e
counts_faulty bytes e f = behind bytes f.blocks f.head e f.has (inr (f.columns, f.found, inl f.fault))

length_faulty : (bytes : List ℕ) (e : SnapErr) → HasLengthFault bytes e → Faults bytes e
length_faulty bytes e f = behind bytes f.blocks f.head e f.has (inr (f.columns, f.found, inr (tt, f.counts_sound, inl f.fault)))

column_lacks : (bytes : List ℕ) (e : SnapErr) → LacksColumn bytes e → Faults bytes e
column_lacks bytes e f = behind bytes f.blocks f.head e f.has (inl f.fault)

is_fault : (bytes : List ℕ) (e : SnapErr) → (IsWantOfMemory e → ⊥) → IsSnapshotFault bytes e → Faults bytes e
is_fault bytes (InFrames x) p f = inl (x, refl, f)
is_fault bytes (RepeatedBlock name) p f = inr (f.blocks, f.spelled, inl (name, refl, f.first))
is_fault bytes (MissingBlock name) p (inl f) = inr (f.blocks, f.blocks_are.spelled, inr (tt, f.blocks_are.once, inl (f.missing, ap MissingBlock f.named)))
is_fault bytes (MissingBlock name) p (inr f) = column_lacks bytes (MissingBlock name) f
is_fault bytes (HeadLength got) p f = head_faulty bytes (HeadLength got) f
is_fault bytes HeadTag p f = head_faulty bytes HeadTag f
is_fault bytes (Gas count) p f = counts_faulty bytes (Gas count) f
is_fault bytes (BlockLength name want got) p f = length_faulty bytes (BlockLength name want got) f
is_fault bytes (InBodies e) p (inl f) = counts_faulty bytes (InBodies e) f
is_fault bytes (InBodies e) p (inr f) =
    let h = f.has in
    behind bytes f.blocks f.head (InBodies e) h.has_head (inr (f.columns, h.found, inr (tt, h.counts_sound, inr (tt, h.lengths_sound, (e, refl, record { plain = p; first = f.refused })))))
is_fault bytes Memory p f = absurd (p tt)

-- the bytes aren't a snapshot, by this error, which isn't want of memory
pub record IsNoSnapshot (bytes : List ℕ) (e : SnapErr) : Type 0 where
  pub plain : IsWantOfMemory e → ⊥
  pub fault : IsSnapshotFault bytes e

pub snapshot_exact : (bytes : List ℕ) → IsExact (IsNoSnapshot bytes) (SpellsSnapshot bytes)
snapshot_exact bytes = record {
  one_refusal = λ a b p q. faults_one bytes a b (is_fault bytes a p.plain p.fault) (is_fault bytes b q.plain q.fault);
  one_value = (reads_one_way bytes).one_value;
  apart = λ e B p h. p.plain ((reads_one_way bytes).apart B e h p.fault);
}
