use Rattle.std.proofs.Common.{◌≡◌, ℕ, ◌<◌, ◌≤◌, List, ◌∷◌, [], ◌++◌, length, take, sym, subst, ◌∙◌, arith, Bool, false, eqb, zero, suc}
use Rattle.std.proofs.lemmas.Bool.{false≢true}
use Rattle.std.proofs.lemmas.List.{length-map, take_all}
use Rattle.rank_exchange.specs.declared.sums.Placed.{Placed}
use Rattle.rank_exchange.specs.Sums.{IsAdded, entries_in}
use Rattle.rank_exchange.proofs.Totals.{first_next, next_at, next_light, next_taken}
use Rattle.rank_exchange.proofs.sums.add_all.Goals as goal

as_many : (ps : List Placed) → length (entries_in ps) ≡ length ps
as_many ps = length-map ps (λ (p : Placed). p.entry)

some_of : (n : ℕ) (b : Bool) → b ≡ eqb n 0 → b ≡ false → 0 < n
some_of zero b e f = absurd (false≢true (sym f ∙ e))
some_of (suc n) b e f = omega arith

pub loop-i-init : goal.loop-i-init
loop-i-init c =
    let l : 0 < length (entries_in c.args.placed.now) = omega (arith, as_many c.args.placed.now, some_of (length c.args.placed.now) c.is_empty.result c.is_empty.ensures c.if-is_empty.false) in
    subst (λ t. IsAdded (take 1 (entries_in c.args.placed.now)) (t ++ c.entry_at-last.result ∷ [])) (sym c.new-out.ensures.items) (first_next (entries_in c.args.placed.now) c.entry_at-last.result c.requires.rises l (c.entry_at-last.ensures c.entry_at-last.result))

pub add-requires : goal.add-requires
add-requires c =
    let l : c.loop-i.i < length (entries_in c.args.placed.now) = omega (arith, as_many c.args.placed.now, c.loop-i-test.true) in
    (take c.loop-i.i (entries_in c.args.placed.now), c.loop-i.invariant, next_at (entries_in c.args.placed.now) c.loop-i.i c.entry_at.result c.requires.rises l (c.entry_at.ensures c.entry_at.result), next_light (entries_in c.args.placed.now) c.loop-i.i c.entry_at.result c.requires.light l (c.entry_at.ensures c.entry_at.result))

pub loop-i-preserved : goal.loop-i-preserved
loop-i-preserved c =
    let l : c.loop-i.i < length (entries_in c.args.placed.now) = omega (arith, as_many c.args.placed.now, c.loop-i-test.true) in
    let e : c.entry_at.result ≡ _ = c.entry_at.ensures c.entry_at.result in
    subst (λ t. IsAdded t (c.add.new.out.items ++ c.in_ok-last.last ∷ [])) (next_taken (entries_in c.args.placed.now) c.loop-i.i c.entry_at.result l e)
    (c.in_ok-last.ensures (take c.loop-i.i (entries_in c.args.placed.now)) c.loop-i.invariant (next_at (entries_in c.args.placed.now) c.loop-i.i c.entry_at.result c.requires.rises l e))

pub returns : goal.returns
returns c =
    let l : length (entries_in c.args.placed.now) ≤ c.loop-i.i = omega (arith, as_many c.args.placed.now, c.loop-i-test.false) in
    subst (λ t. IsAdded t c.push.new.self.items) (take_all c.loop-i.i (entries_in c.args.placed.now) l) (subst (λ t. IsAdded (take c.loop-i.i (entries_in c.args.placed.now)) t) (sym c.in_ok-push.ensures.items) c.loop-i.invariant)
