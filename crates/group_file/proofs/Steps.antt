-- The groups read so far, and how reading ends.
use Rattle.std.proofs.Common.{◌≡◌, ℕ, suc, ◌+◌, ◌*◌, ◌<◌, ◌≤◌, List, [], ◌∷◌, ◌++◌, length, map, cond, Bool, true, false, Option, Some, None, refl, sym, ap, subst, ◌∙◌, arith}
use Rattle.std.specs.Prelude.{nat_lt}
use Rattle.std.specs.Option.{option_or}
use Rattle.std.specs.List.{range_with_len}
use Rattle.std.proofs.lemmas.Bool.{cond-true, cond-false}
use Rattle.std.proofs.lemmas.Bool.Decides.{nat_tests}
use Rattle.std.proofs.lemmas.List.FromFn.{map-range_with_len_more}
use Rattle.group_file.specs.declared.errors.GroupErr.{GroupErr}
use Rattle.group_file.specs.declared.errors.GroupErr.TheVariants.{Tag, Truncated, Field, Rest, Repeated, Memory}
use Rattle.group_file.specs.Catalogues.{GroupData}
use Rattle.group_file.specs.GroupFile.{count_in, first_of, fault_of_group, first_groups, group_at, group_fault, groups_fault, label_at, label_before, number_at, rest_fault, start, IfOfBytes}
use Rattle.group_file.proofs.Faults.{first_here, first_more}

pub of_bytes : (e : GroupErr) (P : Type 0) → P → IfOfBytes e P
of_bytes Memory P h = tt
of_bytes Tag P h = h
of_bytes (Truncated at) P h = h
of_bytes (Field at) P h = h
of_bytes (Rest at) P h = h
of_bytes (Repeated id) P h = h

at_index : (bytes : List ℕ) (k at : ℕ) (before : Option ℕ) → at ≡ start bytes k → before ≡ label_before bytes k → group_fault bytes before at ≡ fault_of_group bytes k
at_index bytes k at before e f = ap (group_fault bytes before) e ∙ ap (λ o. group_fault bytes o (start bytes k)) f

pub fault_here : (bytes : List ℕ) (k at : ℕ) (before : Option ℕ) (e : GroupErr) → k < count_in bytes → first_of (fault_of_group bytes) k ≡ None → at ≡ start bytes k → before ≡ label_before bytes k → group_fault bytes before at ≡ Some e
    → option_or (groups_fault bytes) (rest_fault bytes) ≡ Some e
fault_here bytes k at before e l h a b f =
    ap (λ o. option_or o (rest_fault bytes)) (first_here (fault_of_group bytes) k (count_in bytes) e l h (sym (at_index bytes k at before a b) ∙ f))

pub no_next_fault : (bytes : List ℕ) (k at : ℕ) (before : Option ℕ) → first_of (fault_of_group bytes) k ≡ None → at ≡ start bytes k → before ≡ label_before bytes k → group_fault bytes before at ≡ None → first_of (fault_of_group bytes) (k + 1) ≡ None
no_next_fault bytes k at before h a b f = first_more (fault_of_group bytes) k h (sym (at_index bytes k at before a b) ∙ f)

pub next_start : (bytes : List ℕ) (k at : ℕ) → at ≡ start bytes k → at + 24 + 8 * number_at bytes at ≡ start bytes (k + 1)
next_start bytes k at e = let up : suc k ≡ k + 1 = omega arith in ap (λ p. p + 24 + 8 * number_at bytes p) e ∙ ap (start bytes) up

pub next_label : (bytes : List ℕ) (k at label : ℕ) → at ≡ start bytes k → label ≡ label_at bytes at → Some label ≡ label_before bytes (k + 1)
next_label bytes k at label e l = let up : suc k ≡ k + 1 = omega arith in ap (λ n. Some n) (l ∙ ap (label_at bytes) e) ∙ ap (label_before bytes) up

pub next_groups : (bytes : List ℕ) (k at : ℕ) (g : GroupData) (groups more : List GroupData) → more ≡ groups ++ g ∷ [] → groups ≡ first_groups bytes k → at ≡ start bytes k → g ≡ group_at bytes at → more ≡ first_groups bytes (k + 1)
next_groups bytes k at g groups more m e a f =
    m ∙ ap (λ xs. xs ++ g ∷ []) e ∙ ap (λ x. first_groups bytes k ++ x ∷ []) (f ∙ ap (group_at bytes) a) ∙ sym (map-range_with_len_more (λ j. group_at bytes (start bytes j)) 0 k k (omega arith))

is_below : (a b : ℕ) → a < b → nat_lt a b ≡ true
is_below a b h = grind (arith, nat_tests)

not_below : (a b : ℕ) → b ≤ a → nat_lt a b ≡ false
not_below a b h = grind (arith, nat_tests)

pub rest_here : (bytes : List ℕ) (k at : ℕ) → k ≡ count_in bytes → first_of (fault_of_group bytes) k ≡ None → at ≡ start bytes k → at < length bytes → option_or (groups_fault bytes) (rest_fault bytes) ≡ Some (Rest at)
rest_here bytes k at c h a l =
    let end : at ≡ start bytes (count_in bytes) = a ∙ ap (start bytes) c in
    ap (λ o. option_or o (rest_fault bytes)) (ap (first_of (fault_of_group bytes)) (sym c) ∙ h)
    ∙ cond-true _ _ _ (is_below (start bytes (count_in bytes)) (length bytes) (omega (arith, l, end))) ∙ ap (λ p. Some (Rest p)) (sym end)

pub no_rest : (bytes : List ℕ) (k at : ℕ) → k ≡ count_in bytes → at ≡ start bytes k → length bytes ≤ at → rest_fault bytes ≡ None
no_rest bytes k at c a l = cond-false _ _ _ (not_below (start bytes (count_in bytes)) (length bytes) (omega (arith, l, a ∙ ap (start bytes) c)))
