-- How high a stack can be: 128 symbols at most for each sign shifted and for the one ahead.
use Rattle.std.proofs.Common.{◌≡◌, ℕ, suc, pred, ◌+◌, ◌*◌, ◌<◌, ◌≤◌, List, [], ◌∷◌, ◌++◌, length, sym, refl, ap, ◌∙◌, subst, subst₂, append_assoc, arith, length-append}
use Rattle.grammar.specs.Grammar.{Sym, Grammar, rule, AllUseful}
use Rattle.grammar.specs.Trees.{Yields, empty, leaf, node}
use Rattle.grammar.proofs.Lists.{never, same_split}
use Rattle.grammar.proofs.Sizes.{Sizes, symbol_count}
use Rattle.items.specs.Items.{first_or, lookahead, Valid, advance}
use Rattle.items.proofs.Stacks.{length_onto}
use Rattle.items.proofs.Items.{valid_rule, done_part, to_come}
use Rattle.conflicts.specs.Conflicts.{NoConflict}
use Rattle.parser.specs.Runs.{Run}
use Rattle.parser.proofs.Pigeonhole.{NotIn, Distinct, AllBelow, pigeonhole}
use Rattle.parser.proofs.DotCodes.{dots_before, dot_code_below, dot_code_once}
use Rattle.parser.proofs.Reductions.{Reductions, none, reduction, reductions_append, reductions_lower, reductions_height_suc}
use Rattle.parser.proofs.Levels.{Kernel, kernel_valid, KernelItem, kernel_item, levels_apart}
use Rattle.parser.proofs.Ladder.{RunAbove, stay_above, shift_above, reduce_above, Ladder, foot, rung, climb}

-- where no sign is shifted, rules are reduced
pub reductions_of : {g : Grammar} {b : ℕ} {γ γ' : List Sym} {us ρ : List ℕ} → us ≡ [] → RunAbove g b γ us γ' ρ → (n : ℕ) × Reductions g (lookahead ρ) b γ γ' n
reductions_of z stay_above = (0, none)
reductions_of z (shift_above v k A) = never (cc)
reductions_of {g} {γ = γ} {ρ = ρ} z (reduce_above r a v d k A) =
    let p = reductions_of z A in
    (suc p.0, reduction r a (subst (λ l. Valid g γ r [] (lookahead (l ++ ρ))) z v) d k p.1)

pub some_reduction : {g : Grammar} {t b n : ℕ} {γ γ' : List Sym} → length γ < length γ' → Reductions g t b γ γ' n → (m : ℕ) × Reductions g t b γ γ' (suc m)
some_reduction h none = absurd (omega arith)
some_reduction h (reduction {n = n} r a v d k E) = (n, reduction r a v d k E)

-- a level with its code: a dot on a right side that is not at its end
pub record NewLevel (g : Grammar) (γ : List Sym) (t : ℕ) : Type 0 where
  pub kernel : KernelItem g γ t
  pub code : ℕ
  pub coded : suc code ≡ dots_before g kernel.rule_of + length kernel.rest
  pub below : code < 127

-- an earlier level, with the same text left
pub record Level (g : Grammar) (t : ℕ) (γ : List Sym) (c : ℕ) : Type 0 where
  pub stack : List Sym
  pub kernel : KernelItem g stack t
  pub coded : suc c ≡ dots_before g kernel.rule_of + length kernel.rest
  pub moves : ℕ
  pub from : Reductions g t (suc (length stack)) stack γ (suc moves)

abbrev pub Levels : Grammar → ℕ → List Sym → List ℕ → Type 0
Levels g t γ [] = Unit {0}
Levels g t γ (c ∷ cs) = Level g t γ c × Levels g t γ cs

-- the levels since the last shift have distinct codes, and the stack is bounded by all that was shifted before and these
pub record Filled (g : Grammar) (ts : List ℕ) (γ : List Sym) (ρ : List ℕ) : Type 0 where
  pub codes : List ℕ
  pub apart : Distinct codes
  pub small : AllBelow 127 codes
  pub levels : Levels g (lookahead ρ) γ codes
  pub shorter : length ρ ≤ length ts
  pub bound : length γ + 127 * length ρ ≤ 127 * length ts + length codes + 1

module _ (g : Grammar) (fit : Sizes g) (useful : AllUseful g) (once : NoConflict g) where
  -- the kernel item of the first move
  first_kernel : {γ γ' : List Sym} {us ρ : List ℕ} → 0 < length γ → length γ < length γ' → RunAbove g (suc (length γ)) γ us γ' ρ → KernelItem g γ (lookahead (us ++ ρ))
  first_kernel h k stay_above = absurd (omega arith)
  first_kernel {γ} h k (shift_above {t = t} {r = r} {β = β} {u = u} v j A) =
      let p = to_come useful (advance v) in kernel_item h v (leaf p.2) refl
  first_kernel h k (reduce_above r a v d j A) = kernel_item h v empty refl

  kernel_small : (γ : List Sym) (r : ℕ) (β : List Sym) (t : ℕ) → Kernel g γ r β t →
      (r < length g) × (length β < length (rule g r).right) × (d : List Sym) × ((rule g r).right ≡ d ++ β)
  kernel_small [] r β t k = absurd k
  kernel_small (x ∷ γ) r β t k =
      let p = done_part k in (
        valid_rule fit.rules k,
        omega (arith, ap length p.1, length-append p.0 (x ∷ β)),
        p.0 ++ x ∷ [],
        p.1 ∙ sym (append_assoc p.0 (x ∷ []) β),
      )

  -- the code of a new level is new
  code_new : {γ : List Sym} {t : ℕ} (n : ℕ) (s : KernelItem g γ t) → suc n ≡ dots_before g s.rule_of + length s.rest → (cs : List ℕ) → Levels g t γ cs → NotIn n cs
  code_new n s z [] ls = tt
  code_new {γ} {t} n s z (c ∷ cs) ls = (other, code_new n s z cs ls.1)
    where
      other : n ≡ c → ⊥
      other e =
          let l = ls.0 in
          let s₁ = l.kernel in
          let p = kernel_small γ s.rule_of s.rest s.ahead s.item in
          let q = kernel_small l.stack s₁.rule_of s₁.rest s₁.ahead s₁.item in
          let o = dot_code_once g s.rule_of (length s.rest) s₁.rule_of (length s₁.rest) p.0 p.1 q.0 q.1 (sym z ∙ ap suc e ∙ l.coded) in
          let f : p.2 ++ s.rest ≡ q.2 ++ s₁.rest = sym p.3 ∙ ap (λ k. (rule g k).right) o.0 ∙ q.3 in
          let m : length p.2 ≡ length q.2 = omega (arith, ap length f, o.1, length-append p.2 s.rest, length-append q.2 s₁.rest) in
          levels_apart g once s₁ s l.from (sym o.0) (sym (same_split p.2 q.2 s.rest s₁.rest f m).1)

  -- an item that can go on has something still to come
  nil_comes : {f : List Sym} {v rs : List ℕ} → f ≡ [] → Yields g f v rs → v ≡ []
  nil_comes e empty = refl
  nil_comes e (leaf D) = never (cc)
  nil_comes e (node q lt l D₁ D₂) = never (cc)

  kernel_not_complete : {γ γ' : List Sym} {us ρ : List ℕ} (q : ℕ) → length γ < length γ' → 0 < length (rule g q).right → Valid g γ q [] (lookahead (us ++ ρ)) →
      RunAbove g (suc (length γ)) γ us γ' ρ → ⊥
  kernel_not_complete q h k w stay_above = omega arith
  kernel_not_complete q h k w (shift_above v j B) = once.shift_reduce w v
  kernel_not_complete q h k w (reduce_above r a v d j B) =
      let z : r ≡ q = once.reduce_reduce v w in
      omega (arith, ap length d, length_onto (rule g r).right a, ap (λ q. length (rule g q).right) z)

  kernel_rest : {γ γ' : List Sym} {us ρ : List ℕ} → length γ < length γ' → RunAbove g (suc (length γ)) γ us γ' ρ → (s : KernelItem g γ (lookahead (us ++ ρ))) → 0 < length s.rest
  kernel_rest {γ} {γ'} {us} {ρ} h A s = go s.rest refl
    where
      go : (β : List Sym) → s.rest ≡ β → 0 < length β
      go [] e =
          let z : s.ahead ≡ lookahead (us ++ ρ) = ap (λ l. first_or l s.ahead) (sym (nil_comes e s.tree)) ∙ s.sees in
          let w = subst₂ (λ β t. Valid g γ s.rule_of β t) e z (kernel_valid γ s.item) in
          let p = kernel_small γ s.rule_of s.rest s.ahead s.item in
          absurd (kernel_not_complete s.rule_of h (omega (arith, p.1)) w A)
      go (x ∷ β) e = omega arith

  new_level : {γ γ' : List Sym} {us ρ : List ℕ} → 0 < length γ → length γ < length γ' → RunAbove g (suc (length γ)) γ us γ' ρ → NewLevel g γ (lookahead (us ++ ρ))
  new_level {γ} h k A =
      let s = first_kernel h k A in
      let p = kernel_small γ s.rule_of s.rest s.ahead s.item in
      let i : 0 < length s.rest = kernel_rest k A s in
      let lt : dots_before g s.rule_of + length s.rest < symbol_count g = dot_code_below g s.rule_of (length s.rest) p.0 p.1 in
      record { kernel = s; code = pred (dots_before g s.rule_of + length s.rest); coded = omega arith; below = omega arith }

  levels_extend : {γ γ' : List Sym} {t m : ℕ} (cs : List ℕ) → Reductions g t (suc (length γ)) γ γ' (suc m) → Levels g t γ cs → Levels g t γ' cs
  levels_extend [] E ls = tt
  levels_extend {γ} {γ'} {t} {m} (c ∷ cs) E ls =
      let l = ls.0 in
      let b : ℕ = suc (length l.stack) in
      let h : b ≤ length γ = reductions_height_suc l.from in
      let n : ℕ = l.moves in
      let e : suc n + suc m ≡ suc (n + suc m) = omega arith in (
        record {
          stack = l.stack;
          kernel = l.kernel;
          coded = l.coded;
          moves = n + suc m;
          from = subst (λ k. Reductions g t b l.stack γ' k) e (reductions_append l.from (reductions_lower b (omega arith) E));
        },
        levels_extend cs E ls.1,
      )

  grow_ground : {x : Sym} {ts σ ρ : List ℕ} (us : List ℕ) → σ ≡ us ++ ρ → Filled g ts [] σ → Filled g ts (x ∷ []) ρ
  grow_ground {x} {ts} {σ} {ρ} us e F =
      let h : length ρ ≤ length ts = omega (arith, F.shorter, ap length e, length-append us ρ) in
      record { codes = []; apart = tt; small = tt; levels = tt; shorter = h; bound = omega arith }

  grow_reduce : {x : Sym} {γ : List Sym} {ts ρ : List ℕ} → 0 < length γ → RunAbove g (suc (length γ)) γ [] (x ∷ γ) ρ → Filled g ts γ ρ → Filled g ts (x ∷ γ) ρ
  grow_reduce {x} {γ} {ts} {ρ} h A F =
      let n = new_level h (omega arith) A in
      let E = some_reduction (omega arith) (reductions_of refl A).1 in
      record {
        codes = n.code ∷ F.codes;
        apart = (code_new n.code n.kernel n.coded F.codes F.levels, F.apart);
        small = (n.below, F.small);
        levels = (record { stack = γ; kernel = n.kernel; coded = n.coded; moves = E.0; from = E.1 }, levels_extend F.codes E.1 F.levels);
        shorter = F.shorter;
        bound = omega (arith, F.bound);
      }

  grow_shift : {x : Sym} {γ : List Sym} {ts σ ρ : List ℕ} (t : ℕ) (us : List ℕ) → 0 < length γ → σ ≡ t ∷ us ++ ρ →
      RunAbove g (suc (length γ)) γ (t ∷ us) (x ∷ γ) ρ → Filled g ts γ σ → Filled g ts (x ∷ γ) ρ
  grow_shift {x} {γ} {ts} {σ} {ρ} t us h e A F =
      let n = new_level h (omega arith) A in
      let ls : Levels g t γ F.codes = subst (λ l. Levels g (lookahead l) γ F.codes) e F.levels in
      let few : length (n.code ∷ F.codes) ≤ 127 =
      pigeonhole 127 (n.code ∷ F.codes) (code_new n.code n.kernel n.coded F.codes ls, F.apart) (n.below, F.small) in
      record {
        codes = [];
        apart = tt;
        small = tt;
        levels = tt;
        shorter = omega (arith, F.shorter, ap length e, length-append us ρ);
        bound = omega (arith, F.bound, ap length e, length-append us ρ);
      }

  grow : {x : Sym} (γ : List Sym) {ts σ ρ : List ℕ} (us : List ℕ) → σ ≡ us ++ ρ → RunAbove g (suc (length γ)) γ us (x ∷ γ) ρ → Filled g ts γ σ → Filled g ts (x ∷ γ) ρ
  grow [] us e A F = grow_ground us e F
  grow (y ∷ γ) {ts} [] e A F = grow_reduce (omega arith) A (subst (λ l. Filled g ts (y ∷ γ) l) e F)
  grow (y ∷ γ) (t ∷ us) e A F = grow_shift t us (omega arith) e A F

  filled : {ts : List ℕ} {γ : List Sym} {ρ : List ℕ} → Ladder g ts γ ρ → Filled g ts γ ρ
  filled foot = record { codes = []; apart = tt; small = tt; levels = tt; shorter = omega arith; bound = omega arith }
  filled (rung {γ = γ} us L e A) = grow γ us e A (filled L)

  pub stack_bounded : {γ : List Sym} {us ρ rs : List ℕ} → Run g [] us γ ρ rs → length γ ≤ 128 * (length us + 1)
  stack_bounded {γ} {us} {ρ} R =
      let F = filled (climb refl foot R) in
      let few = pigeonhole 127 F.codes F.apart F.small in
      omega (arith, F.bound, length-append us ρ)
