-- A step of the way to a cover, by the nodes around two bodies.
use Rattle.std.proofs.Common.{◌≡◌, ℕ, ◌+◌, ◌-◌, ◌<◌, ◌≤◌, Bool, true, false, cond, ◌&&◌, ◌||◌, List, length, get_or, sym, ap, subst, ◌∙◌, arith}
use Rattle.cell_space.specs.Cells.{Position, cell_at, InBox}
use Rattle.nbody_model.specs.Bodies.{BodyData}
use Rattle.nbody_model.specs.Setups.{SetupData}
use Rattle.nbody_model.specs.Moments.{MomentsData, moments}
use Rattle.nbody_model.specs.OpeningRule.{accept}
use Rattle.nbody_model.specs.Covers.{opening_of, leaf, final, step, cover}
use Rattle.force_field.specs.declared.nodes.Node.{Node}
use Rattle.force_field.specs.Around.{IsNodeAround}
use Rattle.force_field.specs.Levels.{Parts, IsCover}
use Rattle.std.proofs.lemmas.List.{get_or_default}
use Rattle.model_laws.specs.Laws.{AreBodies}
use Rattle.force_field.proofs.At.{each-at}
use Rattle.force_field.proofs.CoverSteps.{ended, ended-none, ended-final, ended-step, step-at, cover-from}

-- a node that was read
pub node-read : (s : SetupData) (B : List BodyData) (b : BodyData) (nodes : List Node) (l : ℕ) (n : Node) → n ≡ get_or nodes l n → IsNodeAround s B b l (get_or nodes l n) → IsNodeAround s B b l n
node-read s B b nodes l n read h = subst (IsNodeAround s B b l) (sym read) h

leaf-is : (s : SetupData) (B : List BodyData) (b : BodyData) (l : ℕ) (n : Node) → IsNodeAround s B b l n → leaf (opening_of s B) (cell_at l b.motion.pos) ≡ n.moments.leaf
unfolding moments
leaf-is s B b l n h = ap (λ (m : MomentsData). m.leaf) (sym h.moments_are)

pub final-is : (s : SetupData) (B : List BodyData) (b d : BodyData) (k l : ℕ) (n m : Node) → IsNodeAround s B b k n → IsNodeAround s B d l m →
    final (opening_of s B) (cell_at k b.motion.pos) (cell_at l d.motion.pos) ≡ (n.moments.leaf && m.moments.leaf || accept s n.moments m.moments)
final-is s B b d k l n m h u =
    ap (λ t. t && leaf (opening_of s B) (cell_at l d.motion.pos) || accept s (moments s B (cell_at k b.motion.pos)) (moments s B (cell_at l d.motion.pos))) (leaf-is s B b k n h)
    ∙ ap (λ t. n.moments.leaf && t || accept s (moments s B (cell_at k b.motion.pos)) (moments s B (cell_at l d.motion.pos))) (leaf-is s B d l m u)
    ∙ ap (λ t. n.moments.leaf && m.moments.leaf || accept s t (moments s B (cell_at l d.motion.pos))) (sym h.moments_are)
    ∙ ap (λ t. n.moments.leaf && m.moments.leaf || accept s n.moments t) (sym u.moments_are)

step-is : (s : SetupData) (B : List BodyData) (b : BodyData) (l r : ℕ) (n : Node) → IsNodeAround s B b l n → r ≡ cond n.moments.leaf l (l + 1) → step (opening_of s B) b.motion.pos (cell_at l b.motion.pos) ≡ cell_at r b.motion.pos
step-is s B b l r n h e = step-at (opening_of s B) l b.motion.pos ∙ ap (λ t. cell_at (cond t l (l + 1)) b.motion.pos) (leaf-is s B b l n h) ∙ ap (λ k. cell_at k b.motion.pos) (sym e)

-- where the way goes on from these levels, with so many steps left
pub record Leads (s : SetupData) (B : List BodyData) (b d : BodyData) (left k l : ℕ) : Type 0 where
  pub way : cover (opening_of s B) b.motion.pos d.motion.pos ≡ ended (opening_of s B) left b.motion.pos d.motion.pos (cell_at k b.motion.pos) (cell_at l d.motion.pos)

pub leads-first : (s : SetupData) (B : List BodyData) (b d : BodyData) (level : ℕ) → InBox b.motion.pos → Parts b.motion.pos d.motion.pos level → Leads s B b d (32 - level) level level
leads-first s B b d level box parts = record { way = cover-from (opening_of s B) b.motion.pos d.motion.pos level box parts }

pub leads-start : (s : SetupData) (B : List BodyData) (i j : ℕ) (b d x y : BodyData) (p q : Position) (level : ℕ) → AreBodies B → i < length B → j < length B → p ≡ (get_or B i x).motion.pos → q ≡ (get_or B j y).motion.pos →
    Parts p q level → Leads s B (get_or B i b) (get_or B j d) (32 - level) level level
leads-start s B i j b d x y p q level all low high at to parts =
    let first : p ≡ (get_or B i b).motion.pos = at ∙ ap (λ (t : BodyData). t.motion.pos) (get_or_default B i x b low) in
    let second : q ≡ (get_or B j d).motion.pos = to ∙ ap (λ (t : BodyData). t.motion.pos) (get_or_default B j y d high) in
    leads-first s B (get_or B i b) (get_or B j d) level (each-at (λ (b : BodyData). InBox b.motion.pos) B i b all.in_box low)
    (subst (λ t. Parts (get_or B i b).motion.pos t level) second (subst (λ t. Parts t q level) first parts))

-- a level that is at most one deeper
pub level-up : (r l k : ℕ) (t : Bool) → r ≡ cond t l (l + 1) → l ≤ k → r ≤ k + 1
level-up r l k true e h = omega (arith, e, h)
level-up r l k false e h = omega (arith, e, h)

pub leads-on : (s : SetupData) (B : List BodyData) (b d : BodyData) (left more k l k2 l2 : ℕ) (n m : Node) → IsNodeAround s B b k n → IsNodeAround s B d l m → more ≡ left + 1 →
    (n.moments.leaf && m.moments.leaf || accept s n.moments m.moments) ≡ false → k2 ≡ cond n.moments.leaf k (k + 1) → l2 ≡ cond m.moments.leaf l (l + 1) → Leads s B b d more k l → Leads s B b d left k2 l2
leads-on s B b d left more k l k2 l2 n m h u e f x y leads = record {
  way = let o = opening_of s B in
      leads.way
      ∙ ended-step o left more b.motion.pos d.motion.pos (cell_at k b.motion.pos) (cell_at l d.motion.pos) e (final-is s B b d k l n m h u ∙ f)
      ∙ ap (λ c. ended o left b.motion.pos d.motion.pos c (step o d.motion.pos (cell_at l d.motion.pos))) (step-is s B b k k2 n h x)
      ∙ ap (λ c. ended o left b.motion.pos d.motion.pos (cell_at k2 b.motion.pos) c) (step-is s B d l l2 m u y);
}

pub leads-final : (s : SetupData) (B : List BodyData) (b d : BodyData) (left k l : ℕ) (n m : Node) → IsNodeAround s B b k n → IsNodeAround s B d l m →
    (n.moments.leaf && m.moments.leaf || accept s n.moments m.moments) ≡ true → Leads s B b d left k l → IsCover (opening_of s B) b.motion.pos d.motion.pos k l
leads-final s B b d left k l n m h u f leads =
    leads.way ∙ ended-final (opening_of s B) left b.motion.pos d.motion.pos (cell_at k b.motion.pos) (cell_at l d.motion.pos) (final-is s B b d k l n m h u ∙ f)

pub leads-last : (s : SetupData) (B : List BodyData) (b d : BodyData) (left k l : ℕ) → left ≡ 0 → Leads s B b d left k l → IsCover (opening_of s B) b.motion.pos d.motion.pos k l
leads-last s B b d left k l e leads = leads.way ∙ ended-none (opening_of s B) left b.motion.pos d.motion.pos (cell_at k b.motion.pos) (cell_at l d.motion.pos) e
