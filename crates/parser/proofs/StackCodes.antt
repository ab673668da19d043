-- A stack, and a stack with a length, as one number.
use Rattle.std.proofs.Common.{◌≡◌, ℕ, zero, suc, ◌+◌, ◌*◌, ◌^◌, ◌<◌, ◌≤◌, true, List, [], ◌∷◌, length, refl, ap, ap₂, mul-le-mul_left, pow-suc, mul-zero, mul-suc, arith}
use Rattle.std.proofs.lemmas.Bool.{and_parts}
use Rattle.grammar.specs.Grammar.{every, Sym}
use Rattle.grammar.specs.Spelling.{sym_spelled}
use Rattle.items.specs.Sets.{stackable}
use Rattle.items.proofs.StackSymbols.{code_below, code_once}

abbrev pub Stackable : List Sym → Type 0
Stackable γ = every stackable γ ≡ true

abbrev pub stack_code : List Sym → ℕ
stack_code [] = 0
stack_code (x ∷ γ) = suc (sym_spelled x) + 65 * stack_code γ

pub stack_code_once : (γ δ : List Sym) → Stackable γ → Stackable δ → stack_code γ ≡ stack_code δ → γ ≡ δ
unfolding every
stack_code_once [] [] h k e = refl
stack_code_once [] (y ∷ δ) h k e = absurd (omega arith)
stack_code_once (x ∷ γ) [] h k e = absurd (omega arith)
stack_code_once (x ∷ γ) (y ∷ δ) h k e =
    let p = and_parts (stackable x) (every stackable γ) h in
    let q = and_parts (stackable y) (every stackable δ) k in
    let a = code_below x p.0 in
    let b = code_below y q.0 in
    let e₁ : stack_code γ ≡ stack_code δ = omega arith in
    let e₂ : sym_spelled x ≡ sym_spelled y = omega arith in
    ap₂ (λ u v. u ∷ v) (code_once x y p.0 q.0 e₂) (stack_code_once γ δ p.1 q.1 e₁)

pub pow_positive : (l : ℕ) → 1 ≤ 65 ^ l
pow_positive zero = omega arith
pow_positive (suc l) = let h = pow_positive l in omega (arith, pow-suc 65 l)

pub stack_code_below : (γ : List Sym) (l : ℕ) → Stackable γ → length γ ≤ l → stack_code γ < 65 ^ l
unfolding every
stack_code_below [] l h k = pow_positive l
stack_code_below (x ∷ γ) zero h k = absurd (omega arith)
stack_code_below (x ∷ γ) (suc l) h k =
    let p = and_parts (stackable x) (every stackable γ) h in
    let a = code_below x p.0 in
    let i = stack_code_below γ l p.1 (omega arith) in
    omega (arith, pow-suc 65 l)

pub pair_once : (p a b m n : ℕ) → a < p → b < p → a + p * m ≡ b + p * n → (a ≡ b) × (m ≡ n)
pair_once p a b zero zero h k e = (omega (arith, mul-zero p), refl)
pair_once p a b zero (suc n) h k e = absurd (omega (arith, mul-zero p, mul-suc p n))
pair_once p a b (suc m) zero h k e = absurd (omega (arith, mul-zero p, mul-suc p m))
pair_once p a b (suc m) (suc n) h k e =
    let i = pair_once p a b m n h k (omega (arith, mul-suc p m, mul-suc p n)) in (i.0, ap suc i.1)

pub pair_below : (p a m n : ℕ) → a < p → m ≤ n → a + p * m < p * suc n
pair_below p a m n h k =
    let j : suc m ≤ suc n = omega arith in
    let q : p * suc m ≤ p * suc n = mul-le-mul_left p j in omega (arith, mul-suc p m)
