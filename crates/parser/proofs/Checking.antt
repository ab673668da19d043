-- A silent run of the parser that is driven by item sets says what the run it stands for says.
use Rattle.std.proofs.Common.{◌≡◌, ℕ, ◌+◌, ◌≤◌, Bool, true, false, ◌&&◌, eqb, ltb, leb, ◌⊎◌, List, [], ◌∷◌, ◌++◌, length, get_or, sym, refl, ap, ◌∙◌, subst, inl, inr, append-nil, arith, length-append}
use Rattle.std.proofs.lemmas.Bool.{and_parts, ltb-true, leb-true, eqb-true, eq-eqb}
use Rattle.words.specs.Packed.{stacked}
use Rattle.grammar.specs.Grammar.{pick, every, each, backwards, Sym, sign, name, Grammar, a_grammar, AllUseful, sym_fits}
use Rattle.grammar.specs.Spelling.{sym_spelled}
use Rattle.grammar.specs.Texts.{NotMade, FirstWrong}
use Rattle.grammar.proofs.Lists.{never, every_at}
use Rattle.grammar.proofs.Sizes.{sizes}
use Rattle.items.specs.Items.{lookahead}
use Rattle.items.proofs.Fits.{stack_fits}
use Rattle.conflicts.specs.Conflicts.{NoConflict}
use Rattle.parser.specs.Runs.{Run}
use Rattle.parser.specs.Moves.{Stuck}
use Rattle.parser.specs.Drive.{Config, accepted, wrong, ending, Halt, check_of}
use Rattle.parser.specs.DriveStatements.{most_symbols, most_moves, Checked}
use Rattle.parser.proofs.Sound.{made_accepts}
use Rattle.parser.proofs.Reached.{SomeItem, Accepted, reached}
use Rattle.parser.proofs.Wrong.{stuck_wrong}
use Rattle.parser.proofs.Stands.{Stands, height_is}
use Rattle.parser.proofs.CheckRun.{ending_at, ending_here}
use Rattle.parser.proofs.Halting.{Halted, at_last, at_stuck, run_halts}

-- a symbol that fits is not spelled as the beginning's name is
not_the_start : (x : Sym) → sym_fits x ≡ true → sym_spelled x ≡ 32 → ⊥
unfolding sym_fits sym_spelled
not_the_start (sign n) h e = omega (arith, ltb-true n 24 h)
not_the_start (name n) h e = omega (arith, leb-true 1 n (and_parts (leb 1 n) (ltb n 32) h).0)

not_the_start_alone : (γ : List Sym) (c : Config) → every sym_fits γ ≡ true → stacked c.height c.cells ≡ each sym_spelled γ → c.height ≡ 1 → get_or c.cells 0 0 ≡ 32 → ⊥
unfolding every each stacked
not_the_start_alone γ c h e one e₀ = go γ h (sym e₁ ∙ e)
  where
    e₁ : stacked c.height c.cells ≡ 32 ∷ []
    e₁ = ap (λ n. stacked n c.cells) one ∙ ap (λ x. x ∷ []) e₀

    go : (δ : List Sym) → every sym_fits δ ≡ true → 32 ∷ [] ≡ each sym_spelled δ → ⊥
    go [] h e = never (cc)
    go (x ∷ δ) h e = let z : sym_spelled x ≡ 32 = cc in not_the_start x (and_parts (sym_fits x) (every sym_fits δ) h).0 z

only_code : (cells : List ℕ) → stacked 1 cells ≡ each sym_spelled (name 0 ∷ []) → get_or cells 0 0 ≡ 32
unfolding stacked each sym_spelled
only_code cells e = cc

module _ (g : Grammar) (fits : a_grammar g ≡ true) (useful : AllUseful g) (once : NoConflict g) (ts : List ℕ) (signs : every (λ t. ltb t 24) ts ≡ true) where
  -- where it is stuck
  ending_checked : {c : Config} {γ : List Sym} {us ρ rs : List ℕ} → Stands g ts c γ us ρ rs → Stuck g γ ρ → Checked g ts (ending ts c)
  unfolding ending Checked
  ending_checked {c} {γ} {us} {ρ} {rs} st k = go ρ refl (reached g (sizes g fits) st.run)
    where
      test : Bool
      test = eqb c.height 1 && eqb (get_or c.cells 0 0) 32

      refused : SomeItem g γ → (b : Bool) → (eqb c.taken (length ts) && test) ≡ b → Checked g ts (pick b accepted (wrong c.taken))
      refused i true e =
          let p = and_parts (eqb c.height 1) (eqb (get_or c.cells 0 0) 32) (and_parts (eqb c.taken (length ts)) test e).1 in
          absurd (not_the_start_alone γ c (stack_fits g (sizes g fits) i.3) st.codes (eqb-true c.height 1 p.0) (eqb-true (get_or c.cells 0 0) 32 p.1))
      refused i false e =
          let w : NotMade g (us ++ ρ) × FirstWrong g (us ++ ρ) (length us) = stuck_wrong g (sizes g fits) useful once ρ i st.run k in
          let w₁ : NotMade g ts × FirstWrong g ts (length us) = subst (λ x. NotMade g x × FirstWrong g x (length us)) (sym st.text) w in
          subst (λ n. NotMade g ts × FirstWrong g ts n) (sym st.took) w₁

      go : (σ : List ℕ) → ρ ≡ σ → SomeItem g γ ⊎ Accepted γ ρ → Checked g ts (pick (eqb c.taken (length ts) && test) accepted (wrong c.taken))
      go σ e (inl i) = refused i _ refl
      go [] e (inr p) =
          let all : ts ≡ us = st.text ∙ ap (λ x. us ++ x) e ∙ append-nil us in
          let A : Run g [] ts (name 0 ∷ []) [] rs =
          subst (λ x. Run g [] x (name 0 ∷ []) [] rs) (sym all) (subst (λ x. Run g [] us x [] rs) p.0 (subst (λ x. Run g [] us γ x rs) e st.run)) in
          let h : c.height ≡ 1 = height_is st ∙ ap length p.0 in
          let codes : stacked 1 c.cells ≡ each sym_spelled (name 0 ∷ []) =
          ap (λ n. stacked n c.cells) (sym h) ∙ st.codes ∙ ap (each sym_spelled) p.0 in
          let low : get_or c.cells 0 0 ≡ 32 = only_code c.cells codes in
          let taken : c.taken ≡ length ts = st.took ∙ ap length (sym all) in
          rw (eq-eqb c.taken (length ts) taken, eq-eqb c.height 1 h, eq-eqb (get_or c.cells 0 0) 32 low) (backwards rs, made_accepts (sizes g fits).rules A)
      go (t ∷ σ) e (inr p) =
          let z : t ≡ 24 = ap lookahead (sym e) ∙ p.1 in
          let q = ltb-true t 24 (every_at (λ t. ltb t 24) us t σ (subst (λ x. every (λ t. ltb t 24) x ≡ true) (st.text ∙ ap (λ x. us ++ x) e) signs)) in
          absurd (omega arith)

  -- a run until more signs are taken than there are comes to its end where it is stuck
  pub check_checked : (n : ℕ) → length ts ≤ n → (room moves : ℕ) → most_symbols n ≤ room → most_moves n ≤ moves → Checked g ts (check_of g ts room moves)
  unfolding ending_at
  check_checked n short room moves hr hm =
      subst (λ e. Checked g ts e) (ending_here g ts room moves refl refl refl) (go _ (run_halts g fits useful once ts n short (length ts + 1) room moves hr hm))
    where
      go : (h : Halt) → Halted g ts (length ts + 1) h → Checked g ts (ending_at ts h)
      go _ (at_last c γ us ρ rs st h any) = absurd (omega (arith, st.took, ap length st.text, length-append us ρ))
      go _ (at_stuck c γ us ρ rs st k l) = ending_checked st k
