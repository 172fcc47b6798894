use Rattle.std.proofs.Common.{◌≡◌, ◌+◌, ◌||◌, ◌&&◌, nat_le, nat_lt, false, true, length, List, ℕ, ap, sym, ◌∙◌, refl, rules}
use Rattle.std.specs.List.{list_all}
use Rattle.nbody_model.specs.Bodies.{has}
use Rattle.nbody_model.specs.Evolve.{is_empty}
use Rattle.rewind_laws.specs.Bins.{ascends, ids_at, end_of}
use Rattle.rewind.proofs.StepsRead.{no_room, no_order, no_part, no_bin, tested, ends_within, ids_rise, is_above}
use Rattle.rewind.proofs.records.record_at.Goals as goal

pub returns-then-not-has_room-clause-err : goal.returns-then-not-has_room-clause-err
returns-then-not-has_room-clause-err c =
    let bytes : List ℕ = c.args.source.now.bytes.now in
    let e : (nat_le (c.args.at + 4) (length bytes) && nat_le (end_of bytes c.args.at) (length bytes)) ≡ false = search rules in
    (no_room c.args.source.now.low_bin c.args.bin c.args.part.now bytes c.args.at e, refl)

pub returns-then-not-ascends-clause-err : goal.returns-then-not-ascends-clause-err
returns-then-not-ascends-clause-err c =
    let bytes : List ℕ = c.args.source.now.bytes.now in
    let ids : c.in_ok-ids.ids.items ≡ ids_at bytes c.args.at = search rules in
    let e : ascends c.in_ok-ids.ids.items ≡ false = search rules in
    (no_order c.args.source.now.low_bin c.args.bin c.args.part.now bytes c.args.at (ap ascends (sym ids) ∙ e), refl)

pub returns-then-not-are_in-clause-err : goal.returns-then-not-are_in-clause-err
returns-then-not-are_in-clause-err c =
    let bytes : List ℕ = c.args.source.now.bytes.now in
    let ids : c.in_ok-ids.ids.items ≡ ids_at bytes c.args.at = search rules in
    let e : list_all (has c.args.part.now) c.in_ok-ids.ids.items ≡ false = search rules in
    (no_part c.args.source.now.low_bin c.args.bin c.args.part.now bytes c.args.at (ap (list_all (has c.args.part.now)) (sym ids) ∙ e), refl)

pub returns-then-not-may_be_fast-clause-err : goal.returns-then-not-may_be_fast-clause-err
returns-then-not-may_be_fast-clause-err c =
    let bytes : List ℕ = c.args.source.now.bytes.now in
    let low : ℕ = c.args.source.now.low_bin in
    let ids : c.in_ok-ids.ids.items ≡ ids_at bytes c.args.at = search rules in
    let e : (is_empty c.in_ok-ids.ids.items || nat_lt low c.args.bin) ≡ false = search rules in
    (no_bin low c.args.bin c.args.part.now bytes c.args.at (ap (λ F. is_empty F || nat_lt low c.args.bin) (sym ids) ∙ e), refl)

pub returns-clause-ok : goal.returns-clause-ok
returns-clause-ok c =
    let bytes : List ℕ = c.args.source.now.bytes.now in
    let low : ℕ = c.args.source.now.low_bin in
    let ids : c.in_ok-ids.ids.items ≡ ids_at bytes c.args.at = search rules in
    let a : ascends c.in_ok-ids.ids.items ≡ true = search rules in
    let p : list_all (has c.args.part.now) c.in_ok-ids.ids.items ≡ true = search rules in
    let b : (is_empty c.in_ok-ids.ids.items || nat_lt low c.args.bin) ≡ true = search rules in
    let s : nat_le (c.args.at + 4) (length bytes) ≡ true = search rules in
    let r : nat_le (end_of bytes c.args.at) (length bytes) ≡ true = search rules in
    record {
      good = tested low c.args.bin c.args.part.now bytes c.args.at
          (record { size = s; room = r; rising = ap ascends (sym ids) ∙ a; part = ap (list_all (has c.args.part.now)) (sym ids) ∙ p; low_enough = ap (λ F. is_empty F || nat_lt low c.args.bin) (sym ids) ∙ b });
      are = ids;
    }

pub returns-clause-ascending : goal.returns-clause-ascending
returns-clause-ascending c = ids_rise _ _ _ _ _ _ (returns-clause-ok c)

pub returns-clause-within : goal.returns-clause-within
returns-clause-within c = ends_within _ _ _ _ _ _ (returns-clause-ok c)

pub returns-clause-finer : goal.returns-clause-finer
returns-clause-finer c = is_above _ _ _ _ _ _ (returns-clause-ok c)
