-- A share, by the turns.
use Rattle.std.proofs.Common.{◌≡◌, ℕ, suc, ◌+◌, ◌-◌, ◌*◌, ◌/◌, ◌%◌, ◌<◌, ◌^◌, ℤ, pos, unsigned_abs, Bool, true, false, not, cond, ltb, eqb, ◌||◌, ◌&&◌, nat_lt, List, [], ◌∷◌, map, sum_by, count_by, All, refl, ap, sym, ◌∙◌, arith, ◌⊎◌, if◌then◌else◌}
use Rattle.std.specs.Int.{int_div_euclid, int_rem_euclid}
use Rattle.std.proofs.lemmas.Bool.{cases_order}
use Rattle.std.proofs.lemmas.Bool.Decides.{nat_tests}
use Rattle.std.proofs.lemmas.Nat.{mod_below}
use Rattle.std.proofs.lemmas.List.Sums.{sum_by-cons}
use Rattle.nbody_model.specs.Bodies.{BodyData}
use Rattle.nbody_model.specs.Moments.{mass_of}
use Rattle.nbody_model.specs.Force.{share, small_share, is_served_before}
use Rattle.force_sharing.specs.Sharing.{Member, body_of, shares_of}
use Rattle.force_sharing.specs.Turns.{turn, share_by}

by_order : (all ra rb ia ib : ℕ) → ra < all → rb < all → ia < 2 ^ 64 → ib < 2 ^ 64 → (ra ≡ rb) ⊎ ((ra < rb) ⊎ (rb < ra)) → (ltb rb ra || (eqb ra rb && ltb ia ib)) ≡ ltb ((all - ra) * 2 ^ 64 + ia) ((all - rb) * 2 ^ 64 + ib)
by_order all ra rb ia ib ha hb ka kb o = grind (arith, nat_tests, o)

-- the smaller turn is served first
turns_order : (s all : ℕ) (b a : Member) → 0 < all → a.0 < 2 ^ 64 → b.0 < 2 ^ 64 → is_served_before s all (body_of b) (body_of a) ≡ nat_lt (turn s all a) (turn s all b)
turns_order s all b a h ka kb = by_order all (s * a.1 % all) (s * b.1 % all) a.0 b.0 (mod_below (s * a.1) all h) (mod_below (s * b.1) all h) ka kb (cases_order (s * a.1 % all) (s * b.1 % all))

count_turns : (s all : ℕ) (b : Member) (ms : List Member) → 0 < all → b.0 < 2 ^ 64 → All (λ m. m.0 < 2 ^ 64) ms → count_by (is_served_before s all (body_of b)) (map body_of ms) ≡ count_by (λ t. nat_lt t (turn s all b)) (map (turn s all) ms)
count_turns s all b [] h k a = refl
count_turns s all b (m ∷ ms) h k a =
    sum_by-cons (λ (c : BodyData). cond (is_served_before s all (body_of b) c) 1 0) (body_of m) (map body_of ms)
    ∙ rw (turns_order s all b m h (a 0 (0, 0) (omega arith)) k, count_turns s all b ms h k (λ i d l. a (suc i) d (omega arith))) refl
    ∙ sym (sum_by-cons (λ t. cond (nat_lt t (turn s all b)) 1 0) (turn s all m) (map (turn s all) ms))

pub sum_mapped : (f : BodyData → ℕ) (ms : List Member) → sum_by f (map body_of ms) ≡ sum_by (λ m. f (body_of m)) ms
sum_mapped f [] = refl
sum_mapped f (m ∷ ms) = omega (arith, sum_by-cons f (body_of m) (map body_of ms), sum_by-cons (λ m. f (body_of m)) m ms, sum_mapped f ms)

abbrev one_if : Bool → ℕ
one_if b = if b then 1 else 0

abbrev none_if : Bool → ℕ
none_if b = if b then 0 else 1

one_less : (b : Bool) → one_if (not b) ≡ none_if b
one_less true = refl
one_less false = refl

turn_some : (s all : ℕ) (m : Member) → 0 < all → 0 < turn s all m
turn_some s all m h = let u : s * m.1 % all < all = mod_below (s * m.1) all h in omega arith

pub shared : (ms : List Member) (N : ℤ) (m : Member) (all s : ℕ) (q : ℤ) (last left : ℕ) → all ≡ sum_by (λ m. m.1) ms → q ≡ int_div_euclid N (pos all) → s ≡ unsigned_abs (int_rem_euclid N (pos all))
    → 0 < all → All (λ m. m.0 < 2 ^ 64) ms → m.0 < 2 ^ 64 → left ≡ s - sum_by (λ m. s * m.1 / all) ms
    → ((n : ℕ) → 0 < n → nat_lt (count_by (λ t. nat_lt t n) (map (turn s all) ms)) left ≡ not (nat_lt last n))
    → share (map body_of ms) N (body_of m) ≡ share_by q s all last m
unfolding share small_share
shared ms N m all s q last left e1 e2 e3 some ids id e4 cut =
    let M : mass_of (map body_of ms) ≡ all = sum_mapped (λ b. b.mass) ms ∙ sym e1 in
    let floors : sum_by (λ a. s * a.mass / all) (map body_of ms) ≡ sum_by (λ m. s * m.1 / all) ms = sum_mapped (λ a. s * a.mass / all) ms in
    let more : one_if (nat_lt (count_by (is_served_before s all (body_of m)) (map body_of ms)) (s - sum_by (λ a. s * a.mass / all) (map body_of ms))) ≡ none_if (nat_lt last (turn s all m)) =
    rw (count_turns s all m ms some id ids, floors, sym e4, cut (turn s all m) (turn_some s all m some)) (one_less (nat_lt last (turn s all m))) in
    rw (M, sym e2, sym e3, more) refl

map_on : (f g : Member → ℤ) (ms : List Member) → All (λ m. m.0 < 2 ^ 64) ms → ((m : Member) → m.0 < 2 ^ 64 → f m ≡ g m) → map f ms ≡ map g ms
map_on f g [] a h = refl
map_on f g (m ∷ ms) a h = ap (λ t. f m ∷ t) (map_on f g ms (λ k d l. a (suc k) d (omega arith)) h) ∙ ap (λ t. t ∷ map g ms) (h m (a 0 (0, 0) (omega arith)))

pub all_shared : (ms : List Member) (N : ℤ) (all s : ℕ) (q : ℤ) (last left : ℕ) (ts : List ℕ) → all ≡ sum_by (λ m. m.1) ms → q ≡ int_div_euclid N (pos all) → s ≡ unsigned_abs (int_rem_euclid N (pos all))
    → 0 < all → All (λ m. m.0 < 2 ^ 64) ms → left ≡ s - sum_by (λ m. s * m.1 / all) ms → ts ≡ map (turn s all) ms
    → ((n : ℕ) → 0 < n → nat_lt (count_by (λ t. nat_lt t n) ts) left ≡ not (nat_lt last n))
    → map (share_by q s all last) ms ≡ shares_of ms N
all_shared ms N all s q last left ts e1 e2 e3 some ids e4 e5 cut =
    map_on (share_by q s all last) (λ m. share (map body_of ms) N (body_of m)) ms ids
    (λ m h. sym (shared ms N m all s q last left e1 e2 e3 some ids h e4 (λ n k. ap (λ l. nat_lt (count_by (λ t. nat_lt t n) l) left) (sym e5) ∙ cut n k)))
