-- The file that couldn't be written is among more files too.
use Rattle.std.proofs.Common.{ℕ, List, [], ◌∷◌, ◌++◌, Option, Some, None}
use Rattle.std.proofs.lemmas.List.Elements.{Contains-append_left, Contains-append_right}
use Rattle.run_session.specs.Causes.{IsAmong}

pub among_first : (xs ys : List (List ℕ)) (fault : Option (List ℕ)) → IsAmong xs fault → IsAmong (xs ++ ys) fault
among_first xs ys None h = tt
among_first xs ys (Some name) h = Contains-append_left xs ys name h

pub among_last : (xs ys : List (List ℕ)) (fault : Option (List ℕ)) → IsAmong ys fault → IsAmong (xs ++ ys) fault
among_last xs ys None h = tt
among_last xs ys (Some name) h = Contains-append_right xs ys name h

pub among_middle : (x : List ℕ) (xs ys : List (List ℕ)) (fault : Option (List ℕ)) → IsAmong xs fault → IsAmong (x ∷ xs ++ ys) fault
among_middle x xs ys fault h = among_last (x ∷ []) (xs ++ ys) fault (among_first xs ys fault h)
