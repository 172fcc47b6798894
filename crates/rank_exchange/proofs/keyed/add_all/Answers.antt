use Rattle.std.proofs.Common.{◌≡◌, ℕ, ◌<◌, ◌∷◌, [], ◌++◌, length, take, sym, subst, ◌∙◌, arith, Bool, false, eqb, zero, suc}
use Rattle.std.proofs.lemmas.Bool.{false≢true}
use Rattle.std.proofs.lemmas.List.{take_all}
use Rattle.rank_exchange.specs.Keyed.{IsAdded}
use Rattle.rank_exchange.proofs.KeyedUp.{first_next, next_at, next_light, next_taken}
use Rattle.rank_exchange.proofs.keyed.add_all.Goals as goal

some_of : (n : ℕ) (b : Bool) → b ≡ eqb n 0 → b ≡ false → 0 < n
some_of zero b e f = absurd (false≢true (sym f ∙ e))
some_of (suc n) b e f = omega arith

pub loop-i-init : goal.loop-i-init
loop-i-init c =
    let l : 0 < length c.args.entries.now = some_of (length c.args.entries.now) c.is_empty.result c.is_empty.ensures c.if-is_empty.false in
    subst (λ t. IsAdded (take 1 c.args.entries.now) (t ++ c.entry_at-last.result ∷ [])) (sym c.new-out.ensures.items) (first_next c.args.entries.now c.entry_at-last.result l (c.entry_at-last.ensures c.entry_at-last.result))

pub add-requires : goal.add-requires
add-requires c =
    let e : c.entry_at.result ≡ _ = c.entry_at.ensures c.entry_at.result in
    (take c.loop-i.i c.args.entries.now, c.loop-i.invariant, next_at c.args.entries.now c.loop-i.i c.entry_at.result c.requires.rises c.loop-i-test.true e, next_light c.args.entries.now c.loop-i.i c.entry_at.result c.requires.light c.loop-i-test.true e)

pub loop-i-preserved : goal.loop-i-preserved
loop-i-preserved c =
    let e : c.entry_at.result ≡ _ = c.entry_at.ensures c.entry_at.result in
    subst (λ t. IsAdded t (c.add.new.out.items ++ c.in_ok-last.last ∷ [])) (next_taken c.args.entries.now c.loop-i.i c.entry_at.result c.loop-i-test.true e)
    (c.in_ok-last.ensures (take c.loop-i.i c.args.entries.now) c.loop-i.invariant (next_at c.args.entries.now c.loop-i.i c.entry_at.result c.requires.rises c.loop-i-test.true e))

pub returns : goal.returns
returns c = subst (λ t. IsAdded t c.push.new.self.items) (take_all c.loop-i.i c.args.entries.now (omega arith)) (subst (λ t. IsAdded (take c.loop-i.i c.args.entries.now) t) (sym c.in_ok-push.ensures.items) c.loop-i.invariant)
