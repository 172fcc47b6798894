use Rattle.std.proofs.Common.{◌≡◌, ◌+◌, ◌++◌, [], ◌∷◌, length, ap, sym, ◌∙◌, arith, subst, append_assoc, length-append}
use Rattle.rank_laws.specs.Machine.{blank}
use Rattle.rank_laws.specs.Whole.{own}
use Rattle.rank_exchange.specs.Ranks.{IsRank}
use Rattle.rank_field.proofs.Beginning.{BlankBelow, all_blank, blank_more, own_long, own_next}
use Rattle.rank_field.proofs.division.all_ranks.Goals as goal

pub loop-list-preserved : goal.loop-list-preserved
loop-list-preserved c =
    let done = c.loop-list.yielded in
    let list = c.in-Some.list in
    let rest = c.next.new.self.rest.items in
    let long_as_said : length c.args.lists.items ≡ c.len-count.result = omega (arith, c.len-count.ensures, c.args.lists.ok.0) in
    let taken : done ++ list ∷ rest ≡ c.args.lists.items = ap (λ xs. done ++ xs) (sym c.in-Some.ensures.steps.0) ∙ c.loop-list.invariant.taken in
    let number : c.len-number.result ≡ length done = omega (arith, c.len-number.ensures, c.loop-list.ranks.ok.0, c.loop-list.invariant.as_many) in
    let long : length (done ++ list ∷ []) ≡ length done + 1 = length-append done (list ∷ []) in
    record {
      can_next = tt;
      is_finite = tt;
      taken = append_assoc done (list ∷ []) rest ∙ taken;
      as_many = omega (arith, ap length c.in_ok-push.ensures.items, length-append c.loop-list.ranks.items (c.new.result ∷ []), c.loop-list.invariant.as_many, long);
      each = λ w o. subst (λ n. BlankBelow w n c.push.new.self.items) (sym long)
          (blank_more w (length done) c.loop-list.ranks.items c.push.new.self.items c.new.result c.loop-list.invariant.as_many c.in_ok-push.ensures.items (c.loop-list.invariant.each w o)
          (subst (λ n. IsRank w n blank c.new.result) number
          (c.new.ensures w (own_long w c.args.lists.items o ∙ long_as_said) (c.list.view_is ∙ own_next w c.args.lists.items done rest list o taken ∙ ap (own w) (sym number)))));
    }

pub overflow_cast-number : goal.overflow_cast-number
overflow_cast-number c = omega (
  arith,
  c.requires,
  c.len-number.ensures,
  c.loop-list.ranks.ok.0,
  c.loop-list.invariant.as_many,
  ap length c.loop-list.invariant.taken,
  length-append c.loop-list.yielded c.loop-list.list-iterator.rest.items,
)

pub returns : goal.returns
returns c = λ w o. all_blank w c.args.lists.items c.loop-list.yielded c.loop-list.list-iterator.rest.items c.loop-list.ranks.items o c.loop-list.invariant.taken (omega (arith, c.in-None.ensures.steps.0, c.loop-list.list-iterator.rest.ok.0)) c.loop-list.invariant.as_many (c.loop-list.invariant.each w o)
