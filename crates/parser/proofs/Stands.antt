-- A configuration stands for a run: its stack, what it has taken, and the item set behind the stack. Pushes keep that.
use Rattle.std.proofs.Common.{◌≡◌, ℕ, zero, suc, ◌-◌, ◌<◌, ◌≤◌, List, [], ◌∷◌, ◌++◌, length, get_or, drop, set, sym, refl, ap, ◌∙◌, ap₂, arith}
use Rattle.std.proofs.lemmas.List.{length-replicate}
use Rattle.words.specs.Packed.{stacked}
use Rattle.words.proofs.PackedLaws.{stacked_push, stacked_drop, length_stacked}
use Rattle.grammar.specs.Grammar.{each, Sym, Grammar}
use Rattle.grammar.specs.Spelling.{sym_spelled}
use Rattle.grammar.proofs.Spelled.{length_each}
use Rattle.items.specs.Items.{lookahead}
use Rattle.items.specs.Sets.{set_of}
use Rattle.parser.specs.Runs.{Run, stay}
use Rattle.parser.specs.Drive.{items_of, Config, start_config}
use Rattle.parser.specs.DriveStatements.{most_symbols, Kept}
use Rattle.parser.proofs.Kept.{items_of_spelled, start_kept}

-- c is where a run is that shifted us and reduced rs to the stack γ, before ρ
pub record Stands (g : Grammar) (ts : List ℕ) (c : Config) (γ : List Sym) (us ρ rs : List ℕ) : Type 0 where
  pub text : ts ≡ us ++ ρ
  pub took : c.taken ≡ length us
  pub codes : stacked c.height c.cells ≡ each sym_spelled γ
  pub kept : Kept g c
  pub room : most_symbols (length ts) ≤ length c.cells
  pub run : Run g [] us γ ρ rs

pub height_is : {g : Grammar} {ts : List ℕ} {c : Config} {γ : List Sym} {us ρ rs : List ℕ} → Stands g ts c γ us ρ rs → c.height ≡ length γ
height_is {c = c} {γ} st = sym (length_stacked c.height c.cells) ∙ ap length st.codes ∙ length_each sym_spelled γ

pub items_are : {g : Grammar} {ts : List ℕ} {c : Config} {γ : List Sym} {us ρ rs : List ℕ} → Stands g ts c γ us ρ rs → c.items ≡ set_of g γ
items_are {g} {γ = γ} st = st.kept ∙ ap (items_of g) st.codes ∙ items_of_spelled g γ

getD_behind : (us ρ : List ℕ) → get_or (us ++ ρ) (length us) 24 ≡ lookahead ρ
getD_behind [] [] = refl
getD_behind [] (t ∷ ρ) = refl
getD_behind (u ∷ us) ρ = getD_behind us ρ

pub sees : {g : Grammar} {ts : List ℕ} {c : Config} {γ : List Sym} {us ρ rs : List ℕ} → Stands g ts c γ us ρ rs → get_or ts c.taken 24 ≡ lookahead ρ
sees {us = us} {ρ} st = ap₂ (λ x i. get_or x i 24) st.text st.took ∙ getD_behind us ρ

pub start_stands : (g : Grammar) (ts : List ℕ) (room : ℕ) → most_symbols (length ts) ≤ room → Stands g ts (start_config g room) [] [] ts []
unfolding start_config stacked each
start_stands g ts room h =
    record { text = refl; took = refl; codes = refl; kept = start_kept g room; room = omega (arith, length-replicate {A = ℕ} room 0); run = stay }

each_drop : {A B : Type 0} (f : A → B) (n : ℕ) (xs : List A) → drop n (each f xs) ≡ each f (drop n xs)
unfolding each
each_drop f zero xs = refl
each_drop f (suc n) [] = refl
each_drop f (suc n) (x ∷ xs) = each_drop f n xs

-- a symbol in place of the n topmost
pub codes_pushed : (cells : List ℕ) (h n : ℕ) (x : Sym) (γ : List Sym) → stacked h cells ≡ each sym_spelled γ → h - n < length cells →
    stacked (suc (h - n)) (set cells (h - n) (sym_spelled x)) ≡ each sym_spelled (x ∷ drop n γ)
unfolding each
codes_pushed cells h n x γ e l =
    stacked_push (h - n) (sym_spelled x) cells l
    ∙ ap (λ l. sym_spelled x ∷ l) (sym (stacked_drop n h cells) ∙ ap (drop n) e ∙ each_drop sym_spelled n γ)
