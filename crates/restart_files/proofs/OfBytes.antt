-- The first fault of the bytes is none of the set, and not want of memory.
use Rattle.std.proofs.Common.{◌≡◌, ℕ, ◌+◌, ◌-◌, ◌*◌, ◌^◌, ◌==◌, Bool, true, false, cond, not, nat_lt, length, take, drop, List, [], ◌∷◌, Option, Some, None, subst}
use Rattle.std.specs.List.{range_with_len}
use Rattle.std.specs.Option.{option_or}
use Rattle.std.specs.Str.{bytes_eq}
use Rattle.restart_files.specs.declared.errors.RestartErr.{RestartErr}
use Rattle.restart_files.specs.declared.errors.RestartErr.TheVariants.{Tag, Length, Version, Field, EndMark, Bodies as InBodies, Memory}
use Rattle.restart_files.specs.RestartFile.{IsFirstFault, bodies_fault, body_fault, count_in, end_mark, first_among, first_fault, has_wrong_depth, has_wrong_id, has_wrong_kind, head_fault, is_count, is_from_to, is_tick, is_version, low_bin_in, restart_tag, rules_fault, softening_fault, tick_fault, version_in, width_of}

abbrev pub IsOfBytes : RestartErr → Type 0
IsOfBytes Tag = Unit {0}
IsOfBytes (Length want got) = Unit {0}
IsOfBytes (Version v) = Unit {0}
IsOfBytes (Field at) = Unit {0}
IsOfBytes EndMark = Unit {0}
IsOfBytes (InBodies e) = ⊥
IsOfBytes Memory = ⊥

-- whatever fault it is, it is one of the bytes
record AreOfBytes (o : Option RestartErr) : Type 0 where
  each : (e : RestartErr) → o ≡ Some e → IsOfBytes e

some_same : {A : Type 0} (x y : A) → Some x ≡ Some y → x ≡ y
some_same x y e = cc

none : AreOfBytes None
none = record { each = λ e s. absurd cc }

test : (t : Bool) (x : RestartErr) (rest : Option RestartErr) → IsOfBytes x → AreOfBytes rest → AreOfBytes (cond t (Some x) rest)
test true x rest h k = record { each = λ e s. subst IsOfBytes (some_same x e s) h }
test false x rest h k = k

either : (a b : Option RestartErr) → AreOfBytes a → AreOfBytes b → AreOfBytes (option_or a b)
either None b h k = k
either (Some x) b h k = h

among : (f : ℕ → Option RestartErr) (is : List ℕ) → ((i : ℕ) → AreOfBytes (f i)) → AreOfBytes (first_among f is)
among f [] h = none
among f (i ∷ is) h = either (f i) (first_among f is) (h i) (among f is h)

heads : (bytes : List ℕ) → AreOfBytes (head_fault bytes)
heads bytes =
    test (not (bytes_eq restart_tag (take 8 bytes))) _ _ tt (test (nat_lt (length bytes) 176) _ _ tt (test (not (is_version (version_in bytes))) _ _ tt (test (not (is_count (version_in bytes) (count_in bytes))) _ _ tt (test (not (length bytes == 176 + width_of (version_in bytes) * count_in bytes)) _ _ tt (test (not (bytes_eq end_mark (drop (length bytes - 8) bytes))) _ _ tt none)))))

tick_test : (t : Bool) (x : RestartErr) → IsOfBytes x → AreOfBytes (cond t None (Some x))
tick_test true x h = none
tick_test false x h = record { each = λ e s. subst IsOfBytes (some_same x e s) h }

rules : (bytes : List ℕ) → AreOfBytes (rules_fault bytes)
rules bytes =
    test (not (is_from_to bytes 72 0 (2 ^ 40))) _ _ tt (test (not (is_from_to bytes 80 1 20)) _ _ tt (test (not (is_from_to bytes 88 (low_bin_in bytes) 20)) _ _ tt (test (not (is_from_to bytes 96 0 256)) _ _ tt (test (not (is_from_to bytes 104 1 65536)) _ _ tt (test (not (is_from_to bytes 112 0 (2 ^ 32))) _ _ tt (test (not (is_from_to bytes 120 0 40)) _ _ tt none))))))

softenings : (bytes : List ℕ) → AreOfBytes (softening_fault bytes)
softenings bytes =
    test (not (is_from_to bytes 128 256 (2 ^ 30))) _ _ tt (test (not (is_from_to bytes 136 256 (2 ^ 30))) _ _ tt (test (not (is_from_to bytes 144 256 (2 ^ 30))) _ _ tt (test (not (is_from_to bytes 152 256 (2 ^ 30))) _ _ tt (test (not (is_from_to bytes 160 256 (2 ^ 30))) _ _ tt none))))

body : (bytes : List ℕ) (i : ℕ) → AreOfBytes (body_fault bytes i)
unfolding body_fault
body bytes i =
    test (has_wrong_id bytes i) _ _ tt (test (has_wrong_kind bytes i) _ _ tt (test (has_wrong_depth bytes i) _ _ tt none))

of_bytes : (bytes : List ℕ) → AreOfBytes (first_fault bytes)
of_bytes bytes =
    either (head_fault bytes) _ (heads bytes) (either (tick_fault bytes) _ (tick_test (is_tick bytes) (Field 24) tt) (either (rules_fault bytes) _ (rules bytes) (either (softening_fault bytes) (bodies_fault bytes) (softenings bytes)
    (among (body_fault bytes) (range_with_len 0 (count_in bytes)) (body bytes)))))

apart : (bytes : List ℕ) (e : RestartErr) → first_fault bytes ≡ Some e → IsOfBytes e → IsFirstFault bytes e
apart bytes Tag s h = s
apart bytes (Length want got) s h = s
apart bytes (Version v) s h = s
apart bytes (Field at) s h = s
apart bytes EndMark s h = s
apart bytes (InBodies e) s h = absurd h
apart bytes Memory s h = absurd h

pub is_first : (bytes : List ℕ) (e : RestartErr) → first_fault bytes ≡ Some e → IsFirstFault bytes e
is_first bytes e s = apart bytes e s ((of_bytes bytes).each e s)
