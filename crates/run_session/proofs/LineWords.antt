-- Lines by their words.
use Rattle.std.proofs.Common.{◌≡◌, ℕ, ℤ, List, [], ◌∷◌, ◌++◌, map, codes, decimal, ap, sym, refl, ◌∙◌, append_assoc, append-nil}
use Rattle.std.specs.List.{flat_map}
use Rattle.std.specs.Fmt.{signed_decimal}
use Rattle.std.proofs.lemmas.List.Concat.{flat_map-append}
use Rattle.nbody_model.specs.Texts.{line_of}
use Rattle.run_session.specs.Spaced.{spaced_numbers, spaced_signed}
use Rattle.text_words.specs.Spaced.{spaced}

join_five : (a b c d e : List ℕ) → (a ++ b) ++ ((c ++ d) ++ e) ≡ (a ++ ((b ++ c) ++ d)) ++ e
join_five a b c d e = simp append_assoc

-- a line is its first word, and each further one after a space
line_begins : (word : List ℕ) (words : List (List ℕ)) → line_of (word ∷ words) ≡ (word ++ flat_map spaced words) ++ codes "\n"
line_begins word [] = simp append-nil
line_begins word (next ∷ words) =
    ap (λ text. (word ++ codes " ") ++ text) (line_begins next words) ∙ join_five word (codes " ") next (flat_map spaced words) (codes "\n")

flat_map-map : {X : Type 0} (f : X → List ℕ) (xs : List X) → flat_map spaced (map f xs) ≡ flat_map (λ x. spaced (f x)) xs
flat_map-map f [] = refl
flat_map-map f (x ∷ xs) = ap (λ text. spaced (f x) ++ text) (flat_map-map f xs)

-- a line of a word and of numbers
pub line_of_numbers : (word : List ℕ) (numbers : List ℕ) → (word ++ spaced_numbers numbers) ++ codes "\n" ≡ line_of (word ∷ map decimal numbers)
unfolding spaced_numbers
line_of_numbers word numbers =
    ap (λ text. (word ++ text) ++ codes "\n") (sym (flat_map-map decimal numbers)) ∙ sym (line_begins word (map decimal numbers))

-- a line of a word, of numbers and of signed numbers
pub line_of_both : (word : List ℕ) (numbers : List ℕ) (signed : List ℤ)
    → ((word ++ spaced_numbers numbers) ++ spaced_signed signed) ++ codes "\n" ≡ line_of (word ∷ (map decimal numbers ++ map signed_decimal signed))
unfolding spaced_numbers spaced_signed
line_of_both word numbers signed =
    let split : flat_map spaced (map decimal numbers ++ map signed_decimal signed) ≡ flat_map (λ n. spaced (decimal n)) numbers ++ flat_map (λ z. spaced (signed_decimal z)) signed =
    flat_map-append spaced (map decimal numbers) (map signed_decimal signed)
    ∙ ap (λ text. text ++ flat_map spaced (map signed_decimal signed)) (flat_map-map decimal numbers)
    ∙ ap (λ text. flat_map (λ n. spaced (decimal n)) numbers ++ text) (flat_map-map signed_decimal signed) in
    ap (λ text. text ++ codes "\n") (append_assoc word _ _ ∙ ap (λ text. word ++ text) (sym split))
    ∙ sym (line_begins word (map decimal numbers ++ map signed_decimal signed))

-- a line is put behind others word by word
pub event_joined : (before a b after word numbers : List ℕ) → a ≡ before ++ word → b ≡ a ++ spaced_numbers numbers → after ≡ b ++ codes "\n"
    → after ≡ before ++ line_of (word ∷ map decimal numbers)
event_joined before a b after word numbers e f g =
    let joined : after ≡ ((before ++ word) ++ spaced_numbers numbers) ++ codes "\n" = cc in
    joined ∙ ap (λ text. text ++ codes "\n") (append_assoc before word (spaced_numbers numbers)) ∙ append_assoc before (word ++ spaced_numbers numbers) (codes "\n")
    ∙ ap (λ text. before ++ text) (line_of_numbers word numbers)

-- the line of a word, of numbers and of signed numbers, piece by piece
pub both_joined : (a b c d after word numbers : List ℕ) (signed : List ℤ) → a ≡ [] → b ≡ a ++ word → c ≡ b ++ spaced_numbers numbers → d ≡ c ++ spaced_signed signed
    → after ≡ d ++ codes "\n" → after ≡ line_of (word ∷ (map decimal numbers ++ map signed_decimal signed))
both_joined a b c d after word numbers signed e f g h k =
    let joined : after ≡ ((word ++ spaced_numbers numbers) ++ spaced_signed signed) ++ codes "\n" = cc in
    joined ∙ line_of_both word numbers signed
