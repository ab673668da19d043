-- The last name from behind: nothing found from an index on, then one more.
use Rattle.std.proofs.Common.{◌≡◌, ℕ, zero, suc, ◌+◌, ◌-◌, ◌<◌, ◌≤◌, Bool, true, false, leb, List, [], ◌∷◌, length, get_or, drop, refl, ap, ◌∙◌, add-one, arith}
use Rattle.std.specs.Prelude.{Option, Some, None, Ok, Err, MatchOption, EachIndex}
use Rattle.std.proofs.lemmas.Bool.{lt-leb, le-leb}
use Rattle.std.proofs.lemmas.List.{drop_more, drop_all}
use Rattle.grammar.specs.Grammar.{pick, none_of}
use Rattle.reader.specs.declared.refusal.Refusal.TheVariants.{NoCommand}
use Rattle.reader.specs.Entry.{last_place, place_told, PlaceSays}

abbrev NothingFrom : List ℕ → ℕ → Type 0
NothingFrom xs i = last_place i (drop i xs) ≡ []

from_end : (xs : List ℕ) (i : ℕ) → length xs ≤ i → NothingFrom xs i
unfolding last_place
from_end xs i h = ap (last_place i) (drop_all i xs h)

place_at : (xs : List ℕ) (j : ℕ) → j < length xs → NothingFrom xs (j + 1) → last_place j (drop j xs) ≡ pick (leb 32 (get_or xs j 0)) (j ∷ []) []
unfolding last_place none_of
place_at xs j h n =
    let e : last_place (suc j) (drop (j + 1) xs) ≡ [] = rw (← add-one j) n in
    rw (drop_more xs j 0 h, e)

from_more : (xs : List ℕ) (j : ℕ) → j < length xs → leb 32 (get_or xs j 0) ≡ false → NothingFrom xs (j + 1) → NothingFrom xs j
from_more xs j h t n = place_at xs j h n ∙ ap (λ b. pick b (j ∷ []) []) t

nil_cons : (x : ℕ) (xs : List ℕ) → ◌≡◌ {A = List ℕ} [] (x ∷ xs) → ⊥
nil_cons x xs e = let z : ◌≡◌ {A = ℕ} 0 1 = cc in omega arith

place_front : (i j : ℕ) (xs : List ℕ) (p : ℕ) (ps : List ℕ) → last_place (j + i) (drop i xs) ≡ p ∷ ps → last_place j xs ≡ p ∷ ps
unfolding last_place none_of
place_front zero j xs p ps e = let k : j + 0 ≡ j = omega arith in rw k at e
place_front (suc i) j [] p ps e = absurd (nil_cons p ps e)
place_front (suc i) j (x ∷ xs) p ps e =
    let k : j + suc i ≡ suc j + i = omega arith in
    let t = place_front i (suc j) xs p ps (rw k at e) in
    rw t

place_found : (xs : List ℕ) (j : ℕ) → j < length xs → leb 32 (get_or xs j 0) ≡ true → NothingFrom xs (j + 1) → last_place 0 xs ≡ j ∷ []
place_found xs j h t n =
    let k : 0 + j ≡ j = omega arith in
    place_front j 0 xs j [] (rw k (place_at xs j h n ∙ ap (λ b. pick b (j ∷ []) []) t))

-- what the search from behind finds
abbrev pub FoundLast : List ℕ → Option ℕ → Type 0
FoundLast xs r = MatchOption r (EachIndex xs (λ k. get_or xs k 0 < 32))
    (λ i. (i < length xs) × (32 ≤ get_or xs i 0) × EachIndex xs (λ k. i < k → get_or xs k 0 < 32))

nothing_from : (xs : List ℕ) (n i : ℕ) → i + n ≡ length xs → ((k : ℕ) → k < length xs → i ≤ k → get_or xs k 0 < 32) → NothingFrom xs i
nothing_from xs zero i e h = from_end xs i (omega arith)
nothing_from xs (suc n) i e h =
    from_more xs i (omega arith) (lt-leb 32 _ (h i (omega arith) (omega arith))) (nothing_from xs n (i + 1) (omega arith) (λ k l b. h k l (omega arith)))

last_found : (xs : List ℕ) (r : Option ℕ) → FoundLast xs r → r ≡ place_told (last_place 0 xs)
unfolding place_told
last_found xs None h = rw (nothing_from xs (length xs) 0 (omega arith) (λ k l b. h k l))
last_found xs (Some i) h =
    rw (place_found xs i h.0 (le-leb 32 _ h.1) (nothing_from xs (length xs - (i + 1)) (i + 1) (omega (arith, h.0)) (λ k l b. h.2 k l (omega arith))))

pub says : (xs : List ℕ) (b : Bool) (r : Option ℕ) → true ≡ b → FoundLast xs r → PlaceSays xs b (Ok r)
unfolding PlaceSays
says xs b r e h = rw (← e) (ap Ok (last_found xs r h))

pub says_no : (xs : List ℕ) (b : Bool) → false ≡ b → PlaceSays xs b (Err NoCommand)
unfolding PlaceSays
says_no xs b e = rw (← e) refl
