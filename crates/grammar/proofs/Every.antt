-- A chain that tests each number of a list.
use Rattle.std.proofs.Common.{◌≡◌, ℕ, Bool, List, [], ◌∷◌, refl}
use Rattle.std.specs.List.{list_all}
use Rattle.grammar.specs.Grammar.{every}

pub every_all : (f : ℕ → Bool) (xs : List ℕ) → list_all f xs ≡ every f xs
unfolding every
every_all f [] = refl
every_all f (x ∷ xs) = rw (every_all f xs)
