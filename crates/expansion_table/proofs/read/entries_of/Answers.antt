use Rattle.std.proofs.Common.{◌≡◌, ◌<◌, List, [], ◌∷◌, ◌++◌, map, not, sym, ap, subst, ◌∙◌, arith}
use Rattle.std.specs.List.{range_with_len}
use Rattle.std.proofs.lemmas.List.FromFn.{map-range_with_len_more}
use Rattle.nbody_model.specs.Tables.{ExpansionEntry}
use Rattle.expansion_table.specs.ExpansionFile.{count_in, entry_in, may_stand}
use Rattle.expansion_table.proofs.Firsts.{FailsBelow, one_more}
use Rattle.expansion_table.proofs.Sound.{fault_at, faultless, stands}
use Rattle.expansion_table.proofs.read.entries_of.Goals as goal

pub returns-then-not-may_stand-clause-err : goal.returns-then-not-may_stand-clause-err
returns-then-not-may_stand-clause-err c =
    fault_at c.args.bytes.now c.loop-index.index (subst (λ n. c.loop-index.index < n) c.requires.whole.0 c.loop-index-test.true) c.loop-index.invariant.1 (sym c.may_stand.ensures ∙ c.if-not-may_stand.true)

pub loop-index-preserved : goal.loop-index-preserved
loop-index-preserved c =
    let bytes = c.args.bytes.now in
    let f = entry_in bytes in
    let index = c.loop-index.index in
    let pushed : c.push.new.self.items ≡ c.loop-index.entries.items ++ c.entry.result ∷ [] = c.in_ok-push.ensures.items in (
      pushed ∙ ap (λ (es : List ExpansionEntry). es ++ c.entry.result ∷ []) c.loop-index.invariant.0 ∙ ap (λ (e : ExpansionEntry). map f (range_with_len 0 index) ++ e ∷ []) c.entry.ensures
          ∙ sym (map-range_with_len_more f 0 index index (omega arith)),
      one_more (λ i. not (may_stand bytes i)) index c.loop-index.invariant.1 (ap not (sym c.may_stand.ensures ∙ c.if-not-may_stand.false)),
    )

pub returns-clause-sound : goal.returns-clause-sound
returns-clause-sound c =
    let bytes = c.args.bytes.now in
    let all : c.loop-index.index ≡ count_in bytes = omega (arith, c.loop-index-test.false, c.loop-index.auto.index-end, c.requires.whole.0) in
    faultless bytes (omega (arith, c.if-head-eq0.false, c.requires.whole.0)) (subst (FailsBelow (λ i. not (may_stand bytes i))) all c.loop-index.invariant.1)

pub returns-clause-each : goal.returns-clause-each
returns-clause-each c =
    let bytes = c.args.bytes.now in
    let all : c.loop-index.index ≡ c.args.head.count = omega (arith, c.loop-index-test.false, c.loop-index.auto.index-end) in
    (omega (arith, c.if-head-eq0.false), stands bytes c.args.head.count (subst (FailsBelow (λ i. not (may_stand bytes i))) all c.loop-index.invariant.1))
