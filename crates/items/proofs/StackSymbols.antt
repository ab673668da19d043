-- The symbols that can stand on a stack, and their bytes.
--     all_stackable      the symbols of right sides can
--     code_below, code_once      their bytes are below 64, and tell them apart
use Rattle.std.proofs.Common.{◌≡◌, ◌<◌, true, ltb, leb, List, [], ◌∷◌, refl, ap, arith}
use Rattle.std.proofs.lemmas.Bool.{and_parts, and_from, ltb-true}
use Rattle.grammar.specs.Grammar.{every, Sym, sign, name, sym_fits}
use Rattle.grammar.specs.Spelling.{sym_spelled}
use Rattle.items.specs.Sets.{stackable}

pub fits_stackable : (x : Sym) → sym_fits x ≡ true → stackable x ≡ true
unfolding sym_fits stackable
fits_stackable (sign n) h = h
fits_stackable (name n) h = (and_parts (leb 1 n) (ltb n 32) h).1

pub all_stackable : (γ : List Sym) → every sym_fits γ ≡ true → every stackable γ ≡ true
unfolding every
all_stackable [] h = refl
all_stackable (x ∷ γ) h =
    let k = and_parts (sym_fits x) (every sym_fits γ) h in
    and_from (stackable x) (every stackable γ) (fits_stackable x k.0) (all_stackable γ k.1)

pub code_below : (x : Sym) → stackable x ≡ true → sym_spelled x < 64
unfolding stackable sym_spelled
code_below (sign a) h = omega (arith, ltb-true a 24 h)
code_below (name a) h = omega (arith, ltb-true a 32 h)

pub code_once : (x y : Sym) → stackable x ≡ true → stackable y ≡ true → sym_spelled x ≡ sym_spelled y → x ≡ y
unfolding stackable sym_spelled
code_once (sign a) (sign b) h k e = ap sign e
code_once (sign a) (name b) h k e = absurd (omega (arith, ltb-true a 24 h))
code_once (name a) (sign b) h k e = absurd (omega (arith, ltb-true b 24 k))
code_once (name a) (name b) h k e = let z : a ≡ b = omega arith in ap name z
