-- Parts of a restart file's text, joined.
use Rattle.std.proofs.Common.{◌≡◌, ℕ, pos, ◌+◌, ◌<◌, List, [], ◌∷◌, ◌++◌, length, take, get_or, OnOk, Result, Ok, Err, if◌then◌else◌, inl, inr, refl, sym, ap, ◌∙◌, append_assoc, append-nil, arith}
use Rattle.std.specs.List.{flat_map}
use Rattle.std.proofs.lemmas.Grind.{flat_map-append}
use Rattle.std.proofs.lemmas.List.{take_more}
use Rattle.fixed_point.specs.Bytes.{bytes64, bytes128}
use Rattle.fixed_point.proofs.Joins.{six}
use Rattle.nbody_model.specs.Bodies.{BodyData}
use Rattle.nbody_model.specs.Setups.{SetupData}
use Rattle.nbody_model.specs.States.{StateData}
use Rattle.nbody_model.specs.Evolve.{is_empty}
use Rattle.nbody_model.specs.RestartText.{restart_text, rest_text, whole_text}
use Rattle.restart_files.specs.Stored.{HasDepths}
use Rattle.restart_files.specs.Texts.{counters_text}

pub counted : (σ : StateData) (o p q r s t u : List ℕ) → p ≡ o ++ bytes64 σ.steps → q ≡ p ++ bytes64 σ.tick → r ≡ q ++ bytes64 σ.next_snapshot → s ≡ r ++ bytes64 σ.next_restart → t ≡ s ++ bytes64 σ.kicks
    → u ≡ t ++ bytes128 σ.interactions → u ≡ o ++ counters_text σ
unfolding counters_text
counted σ o p q r s t u = six (bytes64 σ.steps) (bytes64 σ.tick) (bytes64 σ.next_snapshot) (bytes64 σ.next_restart) (bytes64 σ.kicks) (bytes128 σ.interactions) o p q r s t u

-- the tag, two numbers, six numbers together and what follows
pub headed : (a b c d e f g h i j o p q r s t : List ℕ) → p ≡ o ++ a → q ≡ p ++ b → r ≡ q ++ c → s ≡ r ++ (d ++ e ++ f ++ g ++ h ++ i) → t ≡ s ++ j → t ≡ o ++ (a ++ b ++ c ++ d ++ e ++ f ++ g ++ h ++ i ++ j)
headed a b c d e f g h i j o p q r s t e1 e2 e3 e4 e5 = rw (e5, e4, e3, e2, e1) (simp append_assoc)

-- three numbers, and twice three
pub embodied : (a b c d e f g h i o p q r s t : List ℕ) → p ≡ o ++ a → q ≡ p ++ b → r ≡ q ++ c → s ≡ r ++ d ++ e ++ f → t ≡ s ++ g ++ h ++ i → t ≡ o ++ (a ++ b ++ c ++ d ++ e ++ f ++ g ++ h ++ i)
embodied a b c d e f g h i o p q r s t e1 e2 e3 e4 e5 = rw (e5, e4, e3, e2, e1) (simp append_assoc)

-- one more element, whatever stands past the end
pub one_more : {A : Type 0} (f : A → List ℕ) (xs : List A) (i : ℕ) (d : A) (o p q : List ℕ) → i < length xs → p ≡ o ++ flat_map f (take i xs) → q ≡ p ++ f (get_or xs i d) → q ≡ o ++ flat_map f (take (i + 1) xs)
one_more f xs i d o p q l e1 e2 =
    let more : flat_map f (take (i + 1) xs) ≡ flat_map f (take i xs) ++ f (get_or xs i d) =
    ap (flat_map f) (take_more xs i d l) ∙ flat_map-append f (take i xs) (get_or xs i d ∷ []) ∙ ap (λ ys. flat_map f (take i xs) ++ ys) (append-nil (f (get_or xs i d))) in
    e2 ∙ ap (λ ys. ys ++ f (get_or xs i d)) e1 ∙ append_assoc o (flat_map f (take i xs)) (f (get_or xs i d)) ∙ ap (λ ys. o ++ ys) (sym more)

-- any body, to stand past the end of a list
pub blank : BodyData
blank = record { id = 0; kind = 1; mass = 1; motion = record { pos = record { x = 0; y = 0; z = 0 }; mom = record { x = pos 0; y = pos 0; z = pos 0 } } }

-- the text of a state without depths, and with some
pub without : (σ : StateData) (s : SetupData) → length σ.depths ≡ 0 → whole_text σ s ≡ restart_text σ s
unfolding restart_text
without σ s e = by σ.depths e
  where
    by : (ds : List ℕ) → length ds ≡ 0 → whole_text σ s ≡ (if is_empty ds then whole_text σ s else rest_text σ s)
    by [] e = refl
    by (d ∷ ds) e = absurd (omega (arith, e))

pub with_some : (σ : StateData) (s : SetupData) → (length σ.depths ≡ 0 → ⊥) → rest_text σ s ≡ restart_text σ s
unfolding restart_text
with_some σ s e = by σ.depths e
  where
    by : (ds : List ℕ) → (length ds ≡ 0 → ⊥) → rest_text σ s ≡ (if is_empty ds then whole_text σ s else rest_text σ s)
    by [] e = absurd (e refl)
    by (d ∷ ds) e = refl

-- where there are depths, there is one for each body
pub one_each : (bodies : List BodyData) (depths : List ℕ) → HasDepths bodies depths → (length depths ≡ 0 → ⊥) → length depths ≡ length bodies
one_each bodies depths (inl e) h = absurd (h (ap length e))
one_each bodies depths (inr e) h = e
