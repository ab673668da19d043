-- The number of a row of words among others.
--     index_found, index_most      below how many there are, the row is there
--     index_first, index_front, index_pushed      the first has 0; when more are put behind, it stays
use Rattle.std.proofs.Common.{◌≡◌, ℕ, suc, ◌<◌, ◌≤◌, Bool, true, false, List, [], ◌∷◌, ◌++◌, length, get_or, sym, refl, ap, arith}
use Rattle.std.specs.Str.{bytes_eq}
use Rattle.std.proofs.lemmas.Slice.Eq.{bytes_eq-Decides}
use Rattle.std.proofs.lemmas.Bool.{both_ways}
use Rattle.grammar.specs.Grammar.{pick}
use Rattle.tables.specs.Making.{index_of}

pub index_found : (k d : List ℕ) (ks : List (List ℕ)) → index_of k ks < length ks → get_or ks (index_of k ks) d ≡ k
unfolding index_of
index_found k d [] h = absurd (omega arith)
index_found k d (x ∷ ks) h = go (bytes_eq k x) refl h (index_found k d ks)
  where
    go : (b : Bool) → bytes_eq k x ≡ b → pick b 0 (suc (index_of k ks)) < suc (length ks) → (index_of k ks < length ks → get_or ks (index_of k ks) d ≡ k) →
        get_or (x ∷ ks) (pick b 0 (suc (index_of k ks))) d ≡ k
    go true e l ih = sym ((bytes_eq-Decides k x).0 e)
    go false e l ih = ih (omega arith)

pub index_front : (k : List ℕ) (ks ys : List (List ℕ)) → index_of k ks < length ks → index_of k (ks ++ ys) ≡ index_of k ks
unfolding index_of
index_front k [] ys h = absurd (omega arith)
index_front k (x ∷ ks) ys h = go (bytes_eq k x) h (index_front k ks ys)
  where
    go : (b : Bool) → pick b 0 (suc (index_of k ks)) < suc (length ks) → (index_of k ks < length ks → index_of k (ks ++ ys) ≡ index_of k ks) →
        pick b 0 (suc (index_of k (ks ++ ys))) ≡ pick b 0 (suc (index_of k ks))
    go true l ih = refl
    go false l ih = ap suc (ih (omega arith))

pub index_most : (k : List ℕ) (ks : List (List ℕ)) → index_of k ks ≤ length ks
unfolding index_of
index_most k [] = omega arith
index_most k (x ∷ ks) = go (bytes_eq k x) (index_most k ks)
  where
    go : (b : Bool) → index_of k ks ≤ length ks → pick b 0 (suc (index_of k ks)) ≤ suc (length ks)
    go true ih = omega arith
    go false ih = omega arith

-- the first has number 0
pub index_first : (k : List ℕ) (ks : List (List ℕ)) → index_of k (k ∷ ks) ≡ 0
unfolding index_of
index_first k ks = go (bytes_eq k k) refl
  where
    go : (b : Bool) → bytes_eq k k ≡ b → pick b 0 (suc (index_of k ks)) ≡ 0
    go true e = refl
    go false e = absurd (both_ways _ e ((bytes_eq-Decides k k).1 refl))

-- a row that is new is found where it is put
pub index_pushed : (k : List ℕ) (ks : List (List ℕ)) → length ks ≤ index_of k ks → index_of k (ks ++ k ∷ []) ≡ length ks
unfolding index_of
index_pushed k [] h = index_first k []
index_pushed k (x ∷ ks) h = go (bytes_eq k x) h (index_pushed k ks)
  where
    go : (b : Bool) → suc (length ks) ≤ pick b 0 (suc (index_of k ks)) → (length ks ≤ index_of k ks → index_of k (ks ++ k ∷ []) ≡ length ks) →
        pick b 0 (suc (index_of k (ks ++ k ∷ []))) ≡ suc (length ks)
    go true l ih = absurd (omega arith)
    go false l ih = ap suc (ih (omega arith))
